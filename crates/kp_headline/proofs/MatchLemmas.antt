-- What is known of a world that matched, after an event that was a call.
use Rattle.std.proofs.Common.{◌≡◌, ℕ, zero, suc, List, [], ◌∷◌, ◌++◌, Some, sym, ap, ◌∙◌, subst, Contains}
use Rattle.std.specs.Prelude.{slice_get}
use Rattle.std.specs.List.{AllByRecursion}
use Rattle.std.proofs.lemmas.List.{append-nil}
use Rattle.kp_log.proofs.PlaceLemmas.{In-head, In-append_left, In-append_right, In-from_contains, contains_from_In}
use Rattle.kp_rules.specs.declared.outcome.Report.{Report}
use Rattle.kp_rules.specs.Fetched.{with_fetched, after_fetched}
use Rattle.kp_rules.specs.Records.{Core, Told, Called}
use Rattle.kp_rules.specs.Requesting.{Packet}
use Rattle.kp_rules.proofs.ListLemmas.{all_weaker}
use Rattle.kp_world.specs.Facts.{Facts, facts}
use Rattle.kp_world.specs.World.{Reply, World}
use Rattle.kp_headline.specs.Matching.{IsPartOf, IsGiven, Remembers, Matches, CanFollow}
use Rattle.kp_headline.specs.Outside.{Said, State, known}
use Rattle.kp_headline.proofs.EventLemmas.{run_none, stepped}
use Rattle.kp_headline.proofs.InFlightLemmas.{Shrinks, shrinks_not, remembers_still}

-- the core, had no report been fetched
abbrev pub full : State → Core
full a = with_fetched a.outside.fetched a.core

pub core_is : (a : State) (w : World) → Matches a w → w.core ≡ full a
core_is a w m = ap (λ (f : Facts). f.core) m.same

-- The world's call `x` on its core does what the call `y` on the core does, which leaves the core t.
pub same_by : {A : Type 0} (change : Facts → Facts) (a : State) (w v : World) (x y : Called A) (t : Core) → Matches a w
    → facts v ≡ stepped x.after x.told (change (facts w)) → x ≡ after_fetched a.outside.fetched y → t ≡ y.after
    → facts v ≡ stepped (with_fetched a.outside.fetched t) y.told (change (known a))
same_by {A = A} change a w v x y t m happened is leaves =
    happened
    ∙ ap (λ (f : Facts). stepped x.after x.told (change f)) m.same
    ∙ ap (λ (z : Called A). stepped z.after z.told (change (known a))) is
    ∙ ap (λ (s : Core). stepped (with_fetched a.outside.fetched s) y.told (change (known a))) (sym leaves)

pub in_flight_still : (a : State) (w : World) (s t : Core) → Matches a w → Shrinks a.core s → t ≡ s → Remembers t a.outside.packets
in_flight_still a w s t m h leaves =
    subst (λ (u : Core). Remembers u a.outside.packets) (sym leaves) (remembers_still a.core s a.outside.packets h m.in_flight)

-- ---- what was said is still a part of a reply

pub parts_still : (packets packets' : List Packet) (replies replies' : List Reply) (said : List Said)
    → ((k : ℕ) (o : Packet) → slice_get packets k ≡ Some o → slice_get packets' k ≡ Some o) → ((r : Reply) → Contains replies r → Contains replies' r)
    → AllByRecursion (IsPartOf packets replies) said → AllByRecursion (IsPartOf packets' replies') said
parts_still packets packets' replies replies' said f g all = all_weaker (IsPartOf packets replies) (IsPartOf packets' replies') (λ x h. record {
  packet = h.packet;
  went_out = f x.packet h.packet h.went_out;
  parts = h.parts;
  demand = h.demand;
  part = h.part;
  reply = h.reply;
  given = g h.reply h.given;
  correlation = h.correlation;
  answers = h.answers;
  content = h.content;
  answer = h.answer;
}) said all

pub given_still : (packets packets' : List Packet) (replies replies' : List Reply) (answered : List Reply)
    → ((o : Packet) → Contains packets o → Contains packets' o) → ((r : Reply) → Contains replies r → Contains replies' r)
    → AllByRecursion (IsGiven packets replies) answered → AllByRecursion (IsGiven packets' replies') answered
given_still packets packets' replies replies' answered f g all = all_weaker (IsGiven packets replies) (IsGiven packets' replies') (λ x h. record {
  packet = h.packet;
  sent = f h.packet h.sent;
  partition = h.partition;
  demand = h.demand;
  named = h.named;
  given = g x h.given;
}) answered all

pub contained_front : {A : Type 0} (xs ys : List A) (x : A) → Contains xs x → Contains (xs ++ ys) x
contained_front xs ys x i = contains_from_In (xs ++ ys) x (In-append_left x xs ys (In-from_contains xs x i))

pub contained_last : {A : Type 0} (xs : List A) (x : A) → Contains (xs ++ x ∷ []) x
contained_last xs x = contains_from_In (xs ++ x ∷ []) x (In-append_right x xs (x ∷ []) (In-head x []))

pub got_front : {A : Type 0} (xs ys : List A) (k : ℕ) (x : A) → slice_get xs k ≡ Some x → slice_get (xs ++ ys) k ≡ Some x
got_front [] ys k x e = absurd cc
got_front (y ∷ xs) ys zero x e = e
got_front (y ∷ xs) ys (suc k) x e = got_front xs ys k x e

-- ---- nothing happened

-- nothing was told, and so many reports were fetched
abbrev pub untold : State → List (List Report) → Core → State
untold a fetched t = record { core = t; outside = record a.outside { told = a.outside.told ++ []; fetched = fetched } }

abbrev with_told : State → List Told → Facts
with_told a told = record (known a) { told = told }

abbrev with_core : State → Core → Facts
with_core a s = record (known a) { core = s; told = a.outside.told ++ [] }

pub stays : (a : State) (w : World) (fetched : List (List Report)) (t : Core) → Matches a w → with_fetched fetched t ≡ full a → Remembers t a.outside.packets → CanFollow w (untold a fetched t)
stays a w fetched t m core remembers = record {
  events = [];
  world = w;
  run = run_none w;
  matches = record {
    same = m.same ∙ ap (with_told a) (sym (append-nil a.outside.told)) ∙ ap (with_core a) (sym core);
    shut = m.shut;
    said = m.said;
    answered = m.answered;
    again = m.again;
    in_flight = remembers;
  };
}

-- the core is the same
pub stays_so : (a : State) (w : World) (t : Core) → Matches a w → t ≡ a.core → CanFollow w (untold a a.outside.fetched t)
stays_so a w t m same = stays a w a.outside.fetched t m (ap (with_fetched a.outside.fetched) same) (in_flight_still a w a.core t m (shrinks_not a.core) same)
