-- The handles of senders, one after the other, and the brokers of a service.
use Rattle.std.proofs.Common.{◌≡◌, ◌++◌, ◌∷◌, [], List, map, ap, ◌∙◌, refl, sym, subst, arith, ℕ, zero, suc}
use Rattle.std.specs.Prelude.{All, IfOk, IfSome, Option, Some, Result, Ok, Err, slice_index_or}
use Rattle.std.specs.declared.net.socket_addr.SocketAddr.{SocketAddr}
use Rattle.std.proofs.lemmas.List.{length-map}
use Rattle.kp_connection.specs.Handshake.{Ends, Talking}
use Rattle.kp_connection.specs.Wire.{Told, Wired}
use Rattle.kp_connection.specs.declared.handshake.stage.Stage.TheVariants.{Opening}
use Rattle.kp_hello.specs.declared.fault.HandshakeFault.{HandshakeFault}
use Rattle.kp_hello.specs.declared.hello.Hello.{Hello}
use Rattle.kp_lanes.specs.Sender.{sender_number}
use Rattle.kp_lanes.specs.declared.sender.Sender.{Sender}
use Rattle.kp_rules.specs.declared.names.Names.{Names}
use Rattle.kp_settings.specs.declared.fault.OpenFault.{OpenFault}
use Rattle.kp_settings.specs.declared.settings.Settings.{Settings}
use Rattle.kp_client.specs.Brokers.{IsAt}
use Rattle.kp_client.specs.Opening.{Begins, IsGreeting, IsOpen}
use Rattle.kp_client.specs.Producer.{lane_of}
use Rattle.kp_client.specs.declared.brokers.Brokers.{Brokers}
use Rattle.kp_client.specs.declared.brokers.Brokers.TheVariants.{Cluster, One}
use Rattle.kp_client.specs.declared.opening.Opened.{Opened}
use Rattle.kp_client.specs.declared.producer.Producer.{Producer}
use Rattle.kp_client.specs.declared.service.Service.{Service}

one_more : (ps : List Producer) (p : Producer) (rest : List Sender)
    → map lane_of (ps ++ p ∷ []) ++ rest ≡ map lane_of ps ++ (lane_of p ∷ rest)
one_more [] p rest = refl
one_more (q ∷ ps) p rest = ap (λ (xs : List Sender). lane_of q ∷ xs) (one_more ps p rest)

pub handed_on : (ps more : List Producer) (p : Producer) (s : Sender) (before rest all : List Sender)
    → map lane_of ps ++ before ≡ all → more ≡ ps ++ p ∷ [] → before ≡ s ∷ rest → lane_of p ≡ s → map lane_of more ++ rest ≡ all
handed_on ps more p s before rest all done longer is its =
    ap (λ (qs : List Producer). map lane_of qs ++ rest) longer
    ∙ one_more ps p rest ∙ ap (λ (x : Sender). map lane_of ps ++ (x ∷ rest)) its
    ∙ ap (λ (xs : List Sender). map lane_of ps ++ xs) (sym is) ∙ done

tail_of : (P : Sender → Type 0) (x : Sender) (xs : List Sender) → All P (x ∷ xs) → All P xs
tail_of P x xs h = λ k d near. h (suc k) d (omega (arith, near))

pub all_rest : (P : Sender → Type 0) (x : Sender) (xs all : List Sender) → all ≡ x ∷ xs → All P all → All P xs
all_rest P x xs all is h = tail_of P x xs (subst (λ (ys : List Sender). All P ys) is h)

at_mapped : (ps : List Producer) (k : ℕ) (d : Producer) → slice_index_or (map lane_of ps) k (lane_of d) ≡ lane_of (slice_index_or ps k d)
at_mapped [] k d = refl
at_mapped (p ∷ ps) zero d = refl
at_mapped (p ∷ ps) (suc k) d = at_mapped ps k d

all_of_map : (P : Sender → Type 0) (ps : List Producer) → All P (map lane_of ps) → All (λ p. P (lane_of p)) ps
all_of_map P ps h = λ k d near. subst P (at_mapped ps k d) (h k (lane_of d) (omega (arith, near, length-map ps lane_of)))

pub all_of_lanes : (P : Sender → Type 0) (ps : List Producer) (ss : List Sender) → map lane_of ps ≡ ss → All P ss → All (λ p. P (lane_of p)) ps
all_of_lanes P ps ss is h = all_of_map P ps (subst (λ (xs : List Sender). All P xs) (sym is) h)

pub numbers_of_lanes : (ps : List Producer) (ss : List Sender) → map lane_of ps ≡ ss → map (λ p. sender_number (lane_of p)) ps ≡ map sender_number ss
numbers_of_lanes ps ss is = mapped ps ∙ ap (λ (xs : List Sender). map sender_number xs) is
  where
    mapped : (qs : List Producer) → map (λ p. sender_number (lane_of p)) qs ≡ map sender_number (map lane_of qs)
    mapped [] = refl
    mapped (q ∷ qs) = ap (λ (ns : List ℕ). sender_number (lane_of q) ∷ ns) (mapped qs)

-- ---- a greeting

-- The hello of a handshake that was timed from its beginning on.
pub greeted : {S E : Type 0} (answers : Told S) (names : Names) (wire : Wired S) (future : Option (Talking S)) (given : Result (Result (Hello × S) HandshakeFault) E)
    (out : Result (Hello × S) HandshakeFault) (hello : Hello) (stream : S)
    → future ≡ Some (record { names = names; stage = Opening; wire = wire }) → given ≡ Ok out → out ≡ Ok (hello, stream)
    → IfOk given (λ o. IfSome future (λ old. Ends answers old o)) → IsGreeting names hello
greeted {S} {E} answers names wire future given out hello stream begun in_time said h =
    let timely : IfSome future (λ old. Ends answers old out) =
    subst (λ (r : Result (Result (Hello × S) HandshakeFault) E). IfOk r (λ o. IfSome future (λ old. Ends answers old o))) in_time h in
    let told : IfSome future (λ old. Ends answers old (Ok (hello, stream))) =
    subst (λ (o : Result (Hello × S) HandshakeFault). IfSome future (λ old. Ends answers old o)) said timely in
    let done = subst (λ (f : Option (Talking S)). IfSome f (λ old. Ends answers old (Ok (hello, stream)))) begun told in record {
      metadata = done.comes.hears.0;
      producer_id = done.content;
      partitions = done.comes.hears.2;
      id = done.id;
      correlation = done.correlation;
    }

-- ---- brokers

module _ (P Q : Brokers → Type 0) (implies : (b : Brokers) → P b → Q b) where
  pub begun_over : (s : Settings) (service : Service) → Begins P s service → Begins Q s service
  begun_over s service h = record { greeting = h.greeting; asked = h.asked; core = h.core; brokers = implies _ h.brokers }

  open_over : (s : Settings) (opened : Opened) → IsOpen P s opened → IsOpen Q s opened
  open_over s opened h = record {
    service = begun_over s opened.service h.service;
    numbers = h.numbers;
    fresh = h.fresh;
    lanes = h.lanes;
    senders = h.senders;
    gate = h.gate;
  }

  pub opened_over : (s : Settings) (result : Result Opened OpenFault) → IfOk result (IsOpen P s) → IfOk result (IsOpen Q s)
  opened_over s (Ok opened) h = open_over s opened h
  opened_over s (Err fault) h = tt

-- Settings that differ in how many senders there are say the same of a broker.
pub at_single : (address : SocketAddr) (s : Settings) (b : Brokers) → IsAt address (record s { senders = 1 }) b → IsAt address s b
at_single address s (One way again) h = (record { there = h.0.there; patience = h.0.patience }, h.1)
at_single address s (Cluster cluster names) h = h

-- what holds of the brokers that it was opened over holds of its
pub opened_with : (Q : Brokers → Type 0) (brokers : Brokers) → Q brokers → (s : Settings) (result : Result Opened OpenFault)
    → IfOk result (IsOpen (λ its. its ≡ brokers) s) → IfOk result (IsOpen Q s)
opened_with Q brokers holds = opened_over (λ its. its ≡ brokers) Q (λ its is. subst Q (sym is) holds)
