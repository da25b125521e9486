-- An engine that is done holds nothing, also behind its end.
use Rattle.std.proofs.Common.{◌≡◌, ℕ, zero, suc, ◌+◌, ◌<◌, true, List, [], ◌∷◌, ◌++◌, length, refl, ap, ◌∙◌, arith, sum_by}
use Rattle.std.specs.Prelude.{Option, Some, None, option_to_list}
use Rattle.std.specs.List.{flat_map}
use Rattle.std.proofs.lemmas.List.Sums.{sum_by-append, sum_by-cons}
use Rattle.kp_accum.specs.declared.item.Item.{Item}
use Rattle.kp_engine.specs.Agreement.{held_at, waiting_of}
use Rattle.kp_engine.specs.Exchange.{OnlyCore, mail_of, senders_of, side_of}
use Rattle.kp_engine.specs.Parts.{ArePartsOf}
use Rattle.kp_engine.specs.Polls.{IsDone}
use Rattle.kp_engine.specs.Serving.{HasServed, from_sender}
use Rattle.kp_engine.specs.declared.exchange.Exchange.{Exchange}
use Rattle.kp_engine.specs.declared.parts.Parts.{Parts}
use Rattle.kp_engine.proofs.BegunLemmas.{taken_reported, taken_reported_at_the_end}
use Rattle.kp_lanes.specs.Entries.{items_of}
use Rattle.kp_lanes.specs.Intake.{lanes_of, passed_of, told_of}
use Rattle.kp_lanes.specs.declared.intake.Intake.{Intake}
use Rattle.kp_rules.specs.Calls.{Call}
use Rattle.kp_rules.specs.Partitions.{all_untold}
use Rattle.kp_rules.specs.Records.{Core}
use Rattle.kp_rules.specs.declared.outcome.Report.{Report}
use Rattle.kp_client.specs.Accounts.{HoldsNothing}

-- Where nothing is held at any place, there is nothing to list.
none_listed : {A : Type 0} (places : List (Option A)) → ((i : ℕ) → i < length places → held_at places i ≡ None)
    → flat_map option_to_list places ≡ []
none_listed [] none = refl
none_listed (None ∷ places) none = none_listed places (λ i near. none (suc i) (omega (arith, near)))
none_listed {A} (Some x ∷ places) none = absurd (some (none zero (omega arith)))
  where
    some : Some x ≡ None → ⊥
    some is = cc

-- ---- counts of items and reports

abbrev weigh : List Item → ℕ
weigh items = sum_by (λ x. 1) items

abbrev count : List Report → ℕ
count reports = sum_by (λ r. 1) reports

none_of_none : (reports : List Report) → count reports ≡ 0 → reports ≡ []
none_of_none [] none = refl
none_of_none (r ∷ reports) none = absurd (omega (arith, none, sum_by-cons (λ (x : Report). 1) r reports))

none_between : (told waiting : List Report) (held : Option Report) → held ≡ None
    → count (told ++ option_to_list held ++ waiting) ≡ count told + count waiting
none_between told waiting held none =
    ap (λ (o : Option Report). count (told ++ option_to_list o ++ waiting)) none
    ∙ sum_by-append (λ (r : Report). 1) (told ++ []) waiting
    ∙ ap (λ (n : ℕ). n + count waiting) (sum_by-append (λ (r : Report). 1) told [])
    ∙ omega arith

-- ---- before the end and behind it

module _ (core : Core) (intake : Intake) (calls more : List Call) (x y : Exchange) (before : HasServed core intake calls x)
    (after : HasServed core intake more y) (ended : y.core.ended ≡ true) (only : OnlyCore x y) (done : IsDone x) where
  module _ (i : ℕ) (near : i < senders_of x) where
    counted_before : weigh (items_of (side_of x i).passed) ≡ count (mail_of x i).told
    counted_before =
        let all = taken_reported core intake calls x before i near (λ p n. 1) in
        let held : weigh (option_to_list (side_of x i).held) ≡ 0 = ap (λ (o : Option Item). weigh (option_to_list o)) (done.no_item i near) in
        let untold : weigh (from_sender i (all_untold x.core)) ≡ 0 = ap (λ (xs : List Item). weigh (from_sender i xs)) done.all_told in
        let waiting : count (waiting_of x.core i) ≡ 0 = ap (λ (rs : List Report). count rs) (done.no_report i near).1 in
        let reports = none_between (mail_of x i).told (waiting_of x.core i) (mail_of x i).held (done.no_report i near).0 in
        omega (arith, all, held, untold, waiting, reports)

    counted_after : weigh (items_of (side_of y i).passed) ≡ count (mail_of y i).told + count (waiting_of y.core i)
    counted_after =
        let places : senders_of y ≡ senders_of x = ap (λ (xs : List (Option Item)). length xs) only.items in
        let all = taken_reported_at_the_end core intake more y after ended i (omega (arith, near, places)) (λ p n. 1) in
        let no_item : (side_of y i).held ≡ None = ap (λ (xs : List (Option Item)). held_at xs i) only.items ∙ done.no_item i near in
        let held : weigh (option_to_list (side_of y i).held) ≡ 0 = ap (λ (o : Option Item). weigh (option_to_list o)) no_item in
        let no_report : (mail_of y i).held ≡ None = ap (λ (rs : List (Option Report)). held_at rs i) only.reports ∙ (done.no_report i near).0 in
        let reports = none_between (mail_of y i).told (waiting_of y.core i) (mail_of y i).held no_report in
        omega (arith, all, held, reports)

    none_waits : waiting_of y.core i ≡ []
    none_waits =
        let taken : weigh (items_of (side_of y i).passed) ≡ weigh (items_of (side_of x i).passed) =
        ap (λ (t : Intake). weigh (items_of (passed_of t i))) only.intake in
        let told : count (mail_of y i).told ≡ count (mail_of x i).told = ap (λ (t : Intake). count (told_of t i)) only.intake in
        none_of_none (waiting_of y.core i) (omega (arith, counted_before, counted_after, taken, told))

  pub holds_nothing : (parts : Parts) → ArePartsOf y parts → HoldsNothing parts
  holds_nothing parts p = record {
    no_item = p.items ∙ ap (λ (xs : List (Option Item)). flat_map option_to_list xs) only.items ∙ none_listed x.items.items done.no_item;
    no_report =
        p.reports
        ∙ ap (λ (rs : List (Option Report)). flat_map option_to_list rs) only.reports
        ∙ none_listed x.reports.items (λ i near. (done.no_report i (omega (arith, near, x.agree.places))).0);
    none_waits = λ i near.
        ap (λ (c : Core). waiting_of c i) p.core
        ∙ none_waits i (omega (
          arith,
          near,
          ap (λ (t : Intake). length (lanes_of t)) p.intake,
          y.agree.lanes,
          ap (λ (xs : List (Option Item)). length xs) only.items,
        ));
  }
