-- What stays of the senders' items and reports.
use Rattle.std.proofs.Common.{◌≡◌, ◌⊎◌, ℕ, ◌<◌, List, [], length, get_or, refl, sym, ap, ◌∙◌, subst, inl, inr}
use Rattle.std.specs.Prelude.{Option, None, IsSome}
use Rattle.std.proofs.lemmas.List.{get_or-set_same, get_or-set_other, length-set}
use Rattle.kp_accum.specs.declared.item.Item.{Item}
use Rattle.kp_lanes.specs.Entries.{items_of}
use Rattle.kp_lanes.specs.declared.entry.Entry.{Entry}
use Rattle.kp_lanes.specs.Intake.{lanes_of, intake_limits, intake_view, passed_of, asked_at_of, told_of}
use Rattle.kp_lanes.specs.declared.intake.Intake.{Intake}
use Rattle.kp_rules.specs.declared.outcome.Report.{Report}
use Rattle.kp_rules.specs.Calls.{Call}
use Rattle.kp_engine.specs.Agreement.{held_at}
use Rattle.kp_engine.specs.Exchange.{IsIdle, OnlyCore, Runs, SameLanes, TookEnough, TookNone, WasBusy, notes_in, mail_of, senders_of, side_of}
use Rattle.kp_engine.specs.Turn.{Side}
use Rattle.kp_engine.specs.Steps.{OnlyItem, OnlyLane, OnlySide}
use Rattle.kp_engine.specs.declared.exchange.Exchange.{Exchange}
use Rattle.kp_engine.proofs.RunLemmas.{runs_none, runs_then}

pub same_side : (a b : Exchange) (k : ℕ) → passed_of b.intake k ≡ passed_of a.intake k → asked_at_of b.intake k ≡ asked_at_of a.intake k
    → held_at b.items.items k ≡ held_at a.items.items k → side_of b k ≡ side_of a k
same_side a b k p q r = λ j. record { passed = p j; asked_at = q j; held = r j }

pub same_mail : (a b : Exchange) (k : ℕ) → told_of b.intake k ≡ told_of a.intake k → held_at b.reports.items k ≡ held_at a.reports.items k → mail_of b k ≡ mail_of a k
same_mail a b k p q = λ j. record { told = p j; held = q j }

pub same_lanes : (a b : Exchange) → b.intake ≡ a.intake → length b.items.items ≡ length a.items.items → SameLanes a b
same_lanes a b intake senders = record {
  lanes = ap (λ (t : Intake). lanes_of t) intake;
  limits = ap (λ (t : Intake). intake_limits t) intake;
  senders = senders;
}

-- ---- what only one sender's items may differ by

pub of_core : (i : ℕ) (a b : Exchange) → OnlyCore a b → OnlySide i a b
of_core i a b h = record {
  others = λ k other. same_side a b k (ap (λ (t : Intake). passed_of t k) h.intake) (ap (λ (t : Intake). asked_at_of t k) h.intake) (ap (λ (l : List (Option Item)). held_at l k) h.items);
  mail = λ k. same_mail a b k (ap (λ (t : Intake). told_of t k) h.intake) (ap (λ (l : List (Option Report)). held_at l k) h.reports);
  lanes = same_lanes a b h.intake (ap length h.items);
  view = ap (λ (t : Intake). intake_view t) h.intake;
  closed = h.closed;
}

pub of_item : (i : ℕ) (a b : Exchange) (o : Option Item) → OnlyItem i a o b → OnlySide i a b
of_item i a b o h = record {
  others = λ k other. same_side a b k (ap (λ (t : Intake). passed_of t k) h.intake) (ap (λ (t : Intake). asked_at_of t k) h.intake)
      (ap (λ (l : List (Option Item)). held_at l k) h.items ∙ get_or-set_other a.items.items i k o None other);
  mail = λ k. same_mail a b k (ap (λ (t : Intake). told_of t k) h.intake) (ap (λ (l : List (Option Report)). held_at l k) h.reports);
  lanes = same_lanes a b h.intake (ap length h.items ∙ length-set a.items.items i o);
  view = ap (λ (t : Intake). intake_view t) h.intake;
  closed = h.closed;
}

pub of_lane : (i : ℕ) (a b : Exchange) → OnlyLane i a b → OnlySide i a b
of_lane i a b h = record {
  others = λ k other. same_side a b k (h.others k other) (ap (λ (l : List ℕ). get_or l k 0) h.asked) (ap (λ (l : List (Option Item)). held_at l k) h.items);
  mail = λ k. same_mail a b k (ap (λ (l : List (List Report)). get_or l k []) h.told) (ap (λ (l : List (Option Report)). held_at l k) h.reports);
  lanes = record { lanes = h.lanes; limits = h.limits; senders = ap length h.items };
  view = h.view;
  closed = h.closed;
}

pub side_then : (i : ℕ) (a b c : Exchange) → OnlySide i a b → OnlySide i b c → OnlySide i a c
side_then i a b c p q = record {
  others = λ k other. q.others k other ∙ p.others k other;
  mail = λ k. q.mail k ∙ p.mail k;
  lanes = record { lanes = q.lanes.lanes ∙ p.lanes.lanes; limits = q.lanes.limits ∙ p.lanes.limits; senders = q.lanes.senders ∙ p.lanes.senders };
  view = q.view ∙ p.view;
  closed = q.closed ∙ p.closed;
}

pub side_same : (i : ℕ) (a : Exchange) → OnlySide i a a
side_same i a = of_core i a a (record { intake = refl; items = refl; reports = refl; closed = refl })

-- ---- what is held at the place

pub now_held : (i : ℕ) (a b : Exchange) (o : Option Item) → i < senders_of a → OnlyItem i a o b → held_at b.items.items i ≡ o
now_held i a b o near h = ap (λ (l : List (Option Item)). held_at l i) h.items ∙ get_or-set_same a.items.items i o None near

-- ---- an idle sender stays so

pub none_still : (i : ℕ) (a b : Exchange) → (side_of b i).passed ≡ (side_of a i).passed → lanes_of b.intake ≡ lanes_of a.intake
    → intake_view b.intake ≡ intake_view a.intake → TookNone i a.intake → TookNone i b.intake
none_still i a b passed lanes view h = record {
  before = h.before;
  after = h.after;
  nothing = h.nothing;
  lanes = h.lanes ∙ sym lanes;
  same_view = h.same_view ∙ sym view;
  since = passed ∙ h.since;
}

pub idle_still : (i : ℕ) (a b : Exchange) → side_of b i ≡ side_of a i → lanes_of b.intake ≡ lanes_of a.intake → intake_view b.intake ≡ intake_view a.intake → IsIdle i a → IsIdle i b
idle_still i a b side lanes view h = record {
  found = none_still i a b (ap (λ (s : Side). s.passed) side) lanes view h.found;
  none_held = ap (λ (s : Side). s.held) side ∙ h.none_held;
}

-- ---- who was busy was so

pub busy_still : (P : Type 0) (old new newer : Side) → newer.passed ≡ new.passed → newer.held ≡ new.held → P ⊎ WasBusy old new → P ⊎ WasBusy old newer
busy_still P old new newer passed held (inl p) = inl p
busy_still P old new newer passed held (inr (inl h)) = inr (inl h)
busy_still P old new newer passed held (inr (inr (inl h))) = inr (inr (inl (subst (λ (o : Option Item). IsSome o) (sym held) h)))
busy_still P old new newer passed held (inr (inr (inr h))) = inr (inr (inr (ap (λ (l : List Entry). length (items_of l)) passed ∙ h)))

-- ---- enough taken stays so

pub enough_still : (i : ℕ) (old : Side) (a b : Exchange) → (side_of b i).passed ≡ (side_of a i).passed → (side_of b i).held ≡ (side_of a i).held
    → lanes_of b.intake ≡ lanes_of a.intake → intake_view b.intake ≡ intake_view a.intake
    → TookEnough i old (side_of a i) a.intake → TookEnough i old (side_of b i) b.intake
enough_still i old a b passed held lanes view (inl h) = inl h
enough_still i old a b passed held lanes view (inr (inl h)) = inr (inl (subst (λ (o : Option Item). IsSome o) (sym held) h))
enough_still i old a b passed held lanes view (inr (inr (inl h))) = inr (inr (inl (ap (λ (l : List Entry). length (items_of l)) passed ∙ h)))
enough_still i old a b passed held lanes view (inr (inr (inr h))) = inr (inr (inr (none_still i a b passed lanes view h)))

-- where nothing of the sender's items has changed
pub enough_same : (i : ℕ) (old : Side) (a b : Exchange) → side_of b i ≡ side_of a i → lanes_of b.intake ≡ lanes_of a.intake
    → intake_view b.intake ≡ intake_view a.intake → TookEnough i old (side_of a i) a.intake → TookEnough i old (side_of b i) b.intake
enough_same i old a b side lanes view h = enough_still i old a b (ap (λ (s : Side). s.passed) side) (ap (λ (s : Side). s.held) side) lanes view h

-- ---- calls behind what changes neither the core nor what is kept

pub runs_from : (a b c : Exchange) (xs : List Call) → b.core ≡ a.core → notes_in b ≡ notes_in a → Runs b xs c → Runs a xs c
runs_from a b c xs core kept p = runs_then a b c [] xs (runs_none a b core kept) p
