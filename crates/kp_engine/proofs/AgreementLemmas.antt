-- A core and lanes that agree go on to agree.
use Rattle.std.proofs.Common.{◌≡◌, ℕ, zero, suc, ◌<◌, ◌≤◌, Bool, true, false, List, [], ◌∷◌, ◌++◌, length, map, get_or, set, refl, sym, ap, ◌∙◌, subst, ⊎_elim, arith}
use Rattle.std.specs.Prelude.{Option, Some, None, All, filter, nat_le, ◌==◌, if◌then◌else◌}
use Rattle.std.proofs.lemmas.List.{length-set}
use Rattle.std.proofs.lemmas.List.Elements.{All-append}
use Rattle.std.proofs.lemmas.Bool.{cases_lt, eqb-true, leb-true}
use Rattle.std.proofs.lemmas.Bool.Decides.{nat_tests}
use Rattle.kp_accum.specs.declared.item.Item.{Item}
use Rattle.kp_accum.specs.Queue.{charge_of, size_of}
use Rattle.kp_accum.proofs.AccumLemmas.{within-is}
use Rattle.kp_lanes.specs.Intake.{lanes_of, intake_limits}
use Rattle.kp_lanes.specs.Limits.{Meets}
use Rattle.kp_lanes.specs.declared.intake.Intake.{Intake}
use Rattle.kp_lanes.specs.declared.limits.Limits.{Limits}
use Rattle.kp_rules.specs.declared.outcome.Report.{Report}
use Rattle.kp_rules.specs.Appending.{may_append}
use Rattle.kp_rules.specs.Calls.{Call, Step, told_by}
use Rattle.kp_rules.specs.Records.{Core, Told}
use Rattle.kp_rules.specs.Reports.{reports_to}
use Rattle.kp_engine.specs.Agreement.{Serves, held_at, waiting_of, Agree}
use Rattle.kp_engine.proofs.StepLemmas.{SameShape, Continues, fetched_by, each_call}

-- ---- what may be appended

pub same_may : (x : Item) (s t : Core) → SameShape s t → may_append x t ≡ may_append x s
unfolding may_append
same_may x s t shape =
    rw (shape.senders, shape.partitions, shape.config) refl

pub may_from : (x : Item) (s : Core) (limits : Limits) (i : ℕ) → Serves s limits → i < length s.reports → Meets limits i x → may_append x s ≡ true
unfolding may_append size_of
may_from x s limits i serves near meets =
    let charge : nat_le (charge_of x) limits.max_record ≡ true = sym (within-is (charge_of x) _ limits.max_record refl serves.size) ∙ grind (arith, nat_tests, meets.its_charge) in
    let small : charge_of x ≤ limits.max_record = leb-true (charge_of x) limits.max_record charge in
    let sender : x.sender < length s.reports = subst (λ (n : ℕ). n < length s.reports) (sym meets.its_sender) near in
    let partition : x.partition < length s.partitions = omega (arith, meets.its_partition, serves.partitions) in
    let request : charge_of x ≤ s.config.max_request_size = omega (arith, small, serves.request) in
    let memory : charge_of x ≤ s.config.buffer_memory = omega (arith, small, serves.memory) in
    grind (arith, nat_tests)

-- ---- whose reports wait

all_behind : {A : Type 0} (P : A → Type 0) (xs ys : List A) → All P (xs ++ ys) → All P ys
all_behind P [] ys all = all
all_behind P (x ∷ xs) ys all = all_behind P xs ys (λ k d near. all (suc k) d (omega (arith, near)))

abbrev its : Told → Report
its u = record { sender = u.item.sender; partition = u.item.partition; number = u.item.number; outcome = u.outcome }

abbrev IsTo : ℕ → Report → Type 0
IsTo i r = r.sender ≡ i

to_one : (i : ℕ) (t : Told) (told : List Told) (b : Bool) → (t.item.sender == i) ≡ b → All (IsTo i) (reports_to i told)
    → All (IsTo i) (map its (if b then t ∷ filter (λ (u : Told). u.item.sender == i) told else filter (λ (u : Told). u.item.sender == i) told))
to_one i t told true is rest zero d near = eqb-true t.item.sender i is
to_one i t told true is rest (suc k) d near = rest k d (omega (arith, near))
to_one i t told false is rest k d near = rest k d near

all_to : (i : ℕ) (told : List Told) → All (IsTo i) (reports_to i told)
all_to i [] k d near = absurd (omega (arith, near))
all_to i (t ∷ told) k d near = to_one i t told (t.item.sender == i) refl (all_to i told) k d near

-- ---- steps

serves_on : (s t : Core) (limits : Limits) → SameShape s t → Serves s limits → Serves t limits
serves_on s t limits shape h = record {
  partitions = rw shape.partitions h.partitions;
  request = rw shape.config h.request;
  memory = rw shape.config h.memory;
  size = h.size;
}

-- what waits of a sender that is not there
pub nothing_beyond : {A : Type 0} (xs : List (List A)) (i : ℕ) → length xs ≤ i → get_or xs i [] ≡ []
nothing_beyond [] i far = refl
nothing_beyond (x ∷ xs) zero far = absurd (omega (arith, far))
nothing_beyond (x ∷ xs) (suc i) far = nothing_beyond xs i (omega (arith, far))

still_to : (s t : Core) (x : Call) (i : ℕ) → Continues s x t → All (IsTo i) (waiting_of s i) → All (IsTo i) (waiting_of t i)
still_to s t x i goes all = ⊎_elim
    (λ (near : i < length s.reports).
    all_behind (IsTo i) (fetched_by i x) (waiting_of t i)
    (subst (λ (rs : List Report). All (IsTo i) rs) (goes.waiting i near)
    (All-append (IsTo i) (waiting_of s i) (reports_to i (told_by s x)) all (all_to i (told_by s x)))))
    (λ (far : length s.reports ≤ i).
    subst (λ (rs : List Report). All (IsTo i) rs) (sym (nothing_beyond t.reports i (omega (arith, far, goes.shape.senders)))) (λ k d near. absurd (omega (arith, near))))
    (cases_lt i (length s.reports))

pub agree_on : (s t : Core) (intake : Intake) (items : List (Option Item)) (reports : List (Option Report)) (x : Call)
    → Step s x t → Agree s intake items reports → Agree t intake items reports
agree_on s t intake items reports x step h =
    let goes = each_call s t x step in record {
      lanes = h.lanes;
      senders = goes.shape.senders ∙ h.senders;
      places = h.places;
      few = h.few;
      serves = serves_on s t (intake_limits intake) goes.shape h.serves;
      its_item = h.its_item;
      may_append = λ i y is. same_may y s t goes.shape ∙ h.may_append i y is;
      its_report = h.its_report;
      its_waiting = λ i. still_to s t x i goes (h.its_waiting i);
    }

-- ---- other lanes' ends, of as many lanes

pub agree_taken : (s : Core) (old new : Intake) (items : List (Option Item)) (reports : List (Option Report))
    → lanes_of new ≡ lanes_of old → intake_limits new ≡ intake_limits old → Agree s old items reports → Agree s new items reports
agree_taken s old new items reports lanes limits h = record {
  lanes = ap length lanes ∙ h.lanes;
  senders = h.senders;
  places = h.places;
  few = h.few;
  serves = subst (λ (l : Limits). Serves s l) (sym limits) h.serves;
  its_item = h.its_item;
  may_append = h.may_append;
  its_report = h.its_report;
  its_waiting = h.its_waiting;
}

-- ---- what is held

pub none_some : {A : Type 0} {x : A} → None ≡ Some x → ⊥
none_some is = cc

-- a place that was changed, or another
pub at_place : {A : Type 0} (P : ℕ → Option A → Type 0) (places : List (Option A)) (j : ℕ) (o : Option A)
    → P j o → ((i : ℕ) → P i None) → ((i : ℕ) → P i (held_at places i)) → (i : ℕ) → P i (held_at (set places j o) i)
at_place P [] j o here none others i = none i
at_place P (y ∷ places) zero o here none others zero = here
at_place P (y ∷ places) zero o here none others (suc i) = others (suc i)
at_place P (y ∷ places) (suc j) o here none others zero = others zero
at_place P (y ∷ places) (suc j) o here none others (suc i) = at_place (λ k x. P (suc k) x) places j o here (λ k. none (suc k)) (λ k. others (suc k)) i

-- an item that is this one
is_one : {A : Type 0} (P : A → Type 0) (x y : A) → P x → Some x ≡ Some y → P y
is_one P x y h is = let same : x ≡ y = cc in subst P same h

pub agree_held : (s : Core) (intake : Intake) (items : List (Option Item)) (reports : List (Option Report)) (j : ℕ) (o : Option Item)
    → ((x : Item) → o ≡ Some x → x.sender ≡ j) → ((x : Item) → o ≡ Some x → may_append x s ≡ true)
    → Agree s intake items reports → Agree s intake (set items j o) reports
agree_held s intake items reports j o sender may h = record {
  lanes = h.lanes ∙ sym (length-set items j o);
  senders = h.senders ∙ sym (length-set items j o);
  places = h.places ∙ sym (length-set items j o);
  few = omega (arith, h.few, length-set items j o);
  serves = h.serves;
  its_item = at_place (λ i held. (x : Item) → held ≡ Some x → x.sender ≡ i) items j o sender (λ i x is. absurd (none_some is)) h.its_item;
  may_append = at_place (λ i held. (x : Item) → held ≡ Some x → may_append x s ≡ true) items j o may (λ i x is. absurd (none_some is)) h.may_append;
  its_report = h.its_report;
  its_waiting = h.its_waiting;
}

pub agree_told : (s : Core) (intake : Intake) (items : List (Option Item)) (reports : List (Option Report)) (j : ℕ) (o : Option Report)
    → ((r : Report) → o ≡ Some r → r.sender ≡ j) → Agree s intake items reports → Agree s intake items (set reports j o)
agree_told s intake items reports j o sender h = record {
  lanes = h.lanes;
  senders = h.senders;
  places = length-set reports j o ∙ h.places;
  few = h.few;
  serves = h.serves;
  its_item = h.its_item;
  may_append = h.may_append;
  its_report = at_place (λ i held. (r : Report) → held ≡ Some r → r.sender ≡ i) reports j o sender (λ i r is. absurd (none_some is)) h.its_report;
  its_waiting = h.its_waiting;
}
