-- A reply that is put together from what was said is one that a packet is answered with which comes again and changes
-- nothing.
use Rattle.std.proofs.Common.{◌≡◌, ◌⊎◌, ℕ, zero, suc, ◌<◌, List, [], ◌∷◌, length, get_or, pos, negsuc, refl, sym, ap, ◌∙◌, subst, inl, inr, ⊎_elim, arith, Contains}
use Rattle.std.specs.List.{AllByRecursion}
use Rattle.std.proofs.lemmas.List.{set-get_or}
use Rattle.kp_frames.specs.declared.produce.PartitionProduceResponse.{PartitionProduceResponse}
use Rattle.kp_log.specs.BrokerStep.{Answered, BrokerStep}
use Rattle.kp_log.specs.History.{History, empty_history}
use Rattle.kp_log.proofs.PlaceLemmas.{In, In-cons, In-from_contains, contains_from_In}
use Rattle.kp_rules.specs.Next.{Sending}
use Rattle.kp_rules.proofs.ListLemmas.{contains_head, contains_tail, all_contained, at_contained}
use Rattle.kp_world.specs.Delivering.{log_at, PartDelivers, PartsDeliver}
use Rattle.kp_world.specs.Message.{sent_of, Says}
use Rattle.kp_world.specs.World.{PartAnswer}

-- ---- answers to the parts of a packet, after each of which its log is as it was

abbrev pub part_answer : Sending → Answered → PartAnswer
part_answer x answer = record { partition = x.partition; answer = answer }

abbrev pub Stays : List History → Sending → PartAnswer → Type 0
Stays logs x a = (a.partition ≡ x.partition) × BrokerStep (log_at x.partition logs) (sent_of x.batch) a.answer (log_at x.partition logs)

abbrev pub AllStay : List History → List Sending → List PartAnswer → Type 0
AllStay logs [] [] = Unit {0}
AllStay logs (x ∷ xs) (a ∷ answers) = Stays logs x a × AllStay logs xs answers
AllStay logs [] (a ∷ answers) = ⊥
AllStay logs (x ∷ xs) [] = ⊥

pub one_stays : (logs : List History) (x : Sending) (a : PartAnswer) → Stays logs x a → PartDelivers logs x a logs
one_stays logs x a h = record { partition = h.0; log = log_at x.partition logs; step = h.1; after_is = sym (set-get_or logs x.partition empty_history) }

pub all_stay : (logs : List History) (xs : List Sending) (answers : List PartAnswer) → AllStay logs xs answers → PartsDeliver logs xs answers logs
unfolding PartsDeliver
all_stay logs [] [] h = refl
all_stay logs [] (a ∷ answers) h = absurd h
all_stay logs (x ∷ xs) [] h = absurd h
all_stay logs (x ∷ xs) (a ∷ answers) h = (logs, one_stays logs x a h.0, all_stay logs xs answers h.1)

-- a part that is refused unseen, because its leader is not known
abbrev pub unseen : Answered
unseen = record { code = pos 6; base = negsuc 0 }

pub refused : (logs : List History) (x : Sending) → Stays logs x (part_answer x unseen)
refused logs x = (
  refl,
  record {
    change = inl refl;
    stands = λ e. absurd (let apart : pos 6 ≡ pos 0 = e in cc);
    is_old = λ e. absurd (let apart : pos 6 ≡ pos 46 = e in cc);
  },
)

-- ---- one answer is put in its place

pub record Put (logs : List History) (xs : List Sending) (before : List PartAnswer) (y : Sending) (answer : Answered) : Type 0 where
  pub answers : List PartAnswer
  pub stay : AllStay logs xs answers
  pub there : Contains answers (part_answer y answer)
  pub others : (a : PartAnswer) → Contains before a → Contains answers a ⊎ (a.partition ≡ y.partition)

first_or : (a b : PartAnswer) (before : List PartAnswer) → Contains (b ∷ before) a → (a ≡ b) ⊎ Contains before a
first_or a b before i = ⊎_elim (λ (e : a ≡ b). inl e) (λ (j : In a before). inr (contains_from_In before a j)) (In-cons a b before (In-from_contains (b ∷ before) a i))

put : (logs : List History) (xs : List Sending) (before : List PartAnswer) (y : Sending) (answer : Answered) (j : ℕ) → j < length xs → get_or xs j y ≡ y
    → BrokerStep (log_at y.partition logs) (sent_of y.batch) answer (log_at y.partition logs) → AllStay logs xs before → Put logs xs before y answer
put logs [] before y answer j l at step h = absurd (omega (arith, l))
put logs (x ∷ xs) [] y answer j l at step h = absurd h
put logs (x ∷ xs) (b ∷ before) y answer zero l at step h =
    let same : x ≡ y = at in
    record {
      answers = part_answer y answer ∷ before;
      stay = ((ap (λ (z : Sending). z.partition) (sym same), subst (λ (z : Sending). BrokerStep (log_at z.partition logs) (sent_of z.batch) answer (log_at z.partition logs)) (sym same) step), h.1);
      there = contains_head (part_answer y answer) before;
      others = λ a i. ⊎_elim
          (λ (e : a ≡ b). inr (ap (λ (z : PartAnswer). z.partition) e ∙ h.0.0 ∙ ap (λ (z : Sending). z.partition) same))
          (λ (k : Contains before a). inl (contains_tail a (part_answer y answer) before k)) (first_or a b before i);
    }
put logs (x ∷ xs) (b ∷ before) y answer (suc j) l at step h =
    let rest = put logs xs before y answer j (omega (arith, l)) at step h.1 in
    record {
      answers = b ∷ rest.answers;
      stay = (h.0, rest.stay);
      there = contains_tail (part_answer y answer) b rest.answers rest.there;
      others = λ a i. ⊎_elim
          (λ (e : a ≡ b). inl (subst (λ (z : PartAnswer). Contains (b ∷ rest.answers) z) (sym e) (contains_head b rest.answers)))
          (λ (k : Contains before a). ⊎_elim (λ (c : Contains rest.answers a). inl (contains_tail a b rest.answers c)) (λ (e : a.partition ≡ y.partition). inr e) (rest.others a k))
          (first_or a b before i);
    }

-- ---- answers that all entries say

-- The entry says what may be said again to one of these parts.
pub record SaysAgain (logs : List History) (xs : List Sending) (entry : PartitionProduceResponse) : Type 0 where
  pub part : Sending
  pub place : Contains xs part
  pub answer : Answered
  pub step : BrokerStep (log_at part.partition logs) (sent_of part.batch) answer (log_at part.partition logs)
  pub partition : entry.partition ≡ pos part.partition
  pub code : entry.error_code ≡ answer.code
  pub base : entry.base_offset ≡ answer.base

pub record Answered_by (logs : List History) (xs : List Sending) (entries : List PartitionProduceResponse) : Type 0 where
  pub answers : List PartAnswer
  pub stay : AllStay logs xs answers
  pub says : AllByRecursion (Says answers) entries

all_refused : (logs : List History) (xs : List Sending) → Answered_by logs xs []
all_refused logs [] = record { answers = []; stay = tt; says = tt }
all_refused logs (x ∷ xs) = let rest = all_refused logs xs in record { answers = part_answer x unseen ∷ rest.answers; stay = (refused logs x, rest.stay); says = tt }

-- no two entries are for one partition
abbrev pub AreApart : List PartitionProduceResponse → Type 0
AreApart entries = (x y : PartitionProduceResponse) → Contains entries x → Contains entries y → x.partition ≡ y.partition → x ≡ y

pub put_together : (logs : List History) (xs : List Sending) (entries : List PartitionProduceResponse) → AllByRecursion (SaysAgain logs xs) entries → AreApart entries → Answered_by logs xs entries
put_together logs xs [] all apart = all_refused logs xs
put_together logs xs (e ∷ entries) all apart =
    let s = all.0 in
    let rest = put_together logs xs entries all.1 (λ x y i j. apart x y (contains_tail x e entries i) (contains_tail y e entries j)) in
    let p = put logs xs rest.answers s.part s.answer s.place.0 s.place.1 s.place.2 s.step rest.stay in
    let first : Says p.answers e = record { part = part_answer s.part s.answer; answered = p.there; partition = s.partition; code = s.code; base = s.base } in
    let others : (x : PartitionProduceResponse) → Contains entries x → Says p.answers x = λ x i.
    let y = at_contained (Says rest.answers) entries x rest.says i in
    ⊎_elim
    (λ (c : Contains p.answers y.part). let z : Says p.answers x = record { part = y.part; answered = c; partition = y.partition; code = y.code; base = y.base } in z)
    (λ (at : y.part.partition ≡ s.part.partition).
    let same : e ≡ x = apart e x (contains_head e entries) (contains_tail x e entries i) (s.partition ∙ ap pos (sym at) ∙ sym y.partition) in
    subst (Says p.answers) same first)
    (p.others y.part y.answered)
    in
    record { answers = p.answers; stay = p.stay; says = (first, all_contained (Says p.answers) entries others) }
