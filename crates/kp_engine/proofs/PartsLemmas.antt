-- What an engine was taken apart into accounts for what it took.
use Rattle.std.proofs.Common.{◌≡◌, ℕ, zero, suc, ◌+◌, ◌<◌, true, false, List, [], ◌∷◌, ◌++◌, length, get_or, refl, sym, ap, ◌∙◌, arith, sum_by}
use Rattle.std.specs.Prelude.{Option, Some, None, filter, option_to_list, ◌==◌}
use Rattle.std.specs.List.{flat_map}
use Rattle.std.proofs.lemmas.Bool.{eq-eqb, ne_eqb}
use Rattle.kp_accum.specs.declared.item.Item.{Item}
use Rattle.kp_lanes.specs.Entries.{items_of}
use Rattle.kp_lanes.specs.Intake.{lanes_of, passed_lists, taken_of, told_lists, told_of}
use Rattle.kp_lanes.specs.declared.intake.Intake.{Intake}
use Rattle.kp_rules.specs.Calls.{Call}
use Rattle.kp_rules.specs.Records.{Core}
use Rattle.kp_rules.specs.declared.outcome.Report.{Report}
use Rattle.kp_engine.specs.Agreement.{held_at, waiting_of}
use Rattle.kp_engine.specs.Exchange.{mail_of, senders_of, side_of}
use Rattle.kp_engine.specs.Opening.{MayTurn}
use Rattle.kp_engine.specs.Parts.{to_sender, AccountedOf, ArePartsOf, IsAccounted}
use Rattle.kp_engine.specs.Serving.{HasServed, from_sender}
use Rattle.kp_engine.specs.declared.exchange.Exchange.{Exchange}
use Rattle.kp_engine.specs.declared.parts.Parts.{Parts}
use Rattle.kp_engine.proofs.BegunLemmas.{appended_reported_at_the_end, empty_at, since_new}
use Rattle.kp_engine.proofs.FreshLemmas.{fresh_reports, nothing_at}
use Rattle.kp_engine.proofs.IntakeLemmas.{taken_is}

-- ---- what is held at places

module _ {A : Type 0} (place_of : A → ℕ) where
  -- what is held at each place is its own; the first has this number
  abbrev Own : ℕ → List (Option A) → Type 0
  Own n places = (k : ℕ) (x : A) → held_at places k ≡ Some x → place_of x ≡ n + k

  abbrev own_of : ℕ → List (Option A) → List A
  own_of i places = filter (λ x. place_of x == i) (flat_map option_to_list places)

  own_rest : (n : ℕ) (o : Option A) (places : List (Option A)) → Own n (o ∷ places) → Own (suc n) places
  own_rest n o places own k x is = let its : place_of x ≡ n + suc k = own (suc k) x is in omega (arith, its)

  none_before : (n i : ℕ) (places : List (Option A)) → i < n → Own n places → own_of i places ≡ []
  none_before n i [] before own = refl
  none_before n i (None ∷ places) before own = none_before (suc n) i places (omega (arith, before)) (own_rest n None places own)
  none_before n i (Some x ∷ places) before own =
      let its : place_of x ≡ n + 0 = own 0 x refl in
      let other : (place_of x == i) ≡ false = ne_eqb (place_of x) i (λ same. omega (arith, same, its, before)) in
      rw other (none_before (suc n) i places (omega (arith, before)) (own_rest n (Some x) places own))

  pub its_own : (n i k : ℕ) (places : List (Option A)) → i ≡ n + k → Own n places → own_of i places ≡ option_to_list (held_at places k)
  its_own n i k [] is own = refl
  its_own n i zero (None ∷ places) is own = none_before (suc n) i places (omega (arith, is)) (own_rest n None places own)
  its_own n i (suc k) (None ∷ places) is own = its_own (suc n) i k places (omega (arith, is)) (own_rest n None places own)
  its_own n i zero (Some x ∷ places) is own =
      let its : place_of x ≡ n + 0 = own 0 x refl in
      let same : (place_of x == i) ≡ true = eq-eqb (place_of x) i (omega (arith, its, is)) in
      rw same (ap (λ (xs : List A). x ∷ xs) (none_before (suc n) i places (omega (arith, is)) (own_rest n (Some x) places own)))
  its_own n i (suc k) (Some x ∷ places) is own =
      let its : place_of x ≡ n + 0 = own 0 x refl in
      let other : (place_of x == i) ≡ false = ne_eqb (place_of x) i (λ same. omega (arith, same, its, is)) in
      rw other (its_own (suc n) i k places (omega (arith, is)) (own_rest n (Some x) places own))

-- ---- an engine that was taken apart

module _ (core : Core) (intake : Intake) (calls : List Call) (x : Exchange) (parts : Parts) (h : HasServed core intake calls x) (ended : x.core.ended ≡ true) (p : ArePartsOf x parts) where
  module _ (i : ℕ) (near : i < senders_of x) where
    pub items_held : from_sender i parts.held.items.items ≡ option_to_list (side_of x i).held
    items_held =
        ap (λ (xs : List Item). from_sender i xs) p.items
        ∙ its_own (λ (y : Item). y.sender) 0 i i x.items.items (omega arith) (λ k y is. let its : y.sender ≡ k = x.agree.its_item k y is in omega (arith, its))

    pub reports_held : to_sender i parts.held.reports.items ≡ option_to_list (mail_of x i).held
    reports_held =
        ap (λ (rs : List Report). to_sender i rs) p.reports
        ∙ its_own (λ (r : Report). r.sender) 0 i i x.reports.items (omega arith) (λ k r is. let its : r.sender ≡ k = x.agree.its_report k r is in omega (arith, its))

    accounted_of : AccountedOf i parts
    accounted_of =
        let appended = from_sender i h.served.life.appended in record {
          appended = appended;
          in_order =
              ap (λ (t : Intake). taken_of t i) p.intake
              ∙ taken_is x.intake i
              ∙ (since_new core intake h.keeps h.first h.may h.is_new i calls x h.served (omega (arith, near, h.served.lanes.senders))).0
              ∙ ap (λ (xs : List Item). appended ++ xs) (sym items_held);
          reported = λ f.
              appended_reported_at_the_end core intake calls x h ended i near f
              ∙ ap (λ (rs : List Report). sum_by (λ (r : Report). f r.partition r.number) (rs ++ option_to_list (mail_of x i).held ++ waiting_of x.core i))
              (ap (λ (t : Intake). told_of t i) (sym p.intake))
              ∙ ap (λ (rs : List Report). sum_by (λ (r : Report). f r.partition r.number) (told_of parts.intake i ++ rs ++ waiting_of x.core i)) (sym reports_held)
              ∙ ap (λ (s : Core). sum_by (λ (r : Report). f r.partition r.number) (told_of parts.intake i ++ to_sender i parts.held.reports.items ++ waiting_of s i)) (sym p.core);
        }

  pub accounted : IsAccounted parts
  accounted = record { each = λ i near. accounted_of i (omega (arith, near, ap (λ (t : Intake). length (lanes_of t)) p.intake, x.agree.lanes)) }

-- ---- a core and lanes of which no engine was made

pub fresh_accounted : (core : Core) (intake : Intake) (parts : Parts) → MayTurn core intake → parts.core ≡ core → parts.intake ≡ intake
    → parts.held.items.items ≡ [] → parts.held.reports.items ≡ [] → IsAccounted parts
fresh_accounted core intake parts may same_core same_intake no_item no_report = record {
  each = λ i near.
      let taken : taken_of parts.intake i ≡ [] =
      ap (λ (t : Intake). taken_of t i) same_intake ∙ taken_is intake i ∙ ap items_of (empty_at (passed_lists intake) i may.nothing_passed) in
      let told : told_of parts.intake i ≡ [] = ap (λ (t : Intake). told_of t i) same_intake ∙ empty_at (told_lists intake) i may.nothing_told in
      let waiting : waiting_of parts.core i ≡ [] =
      ap (λ (s : Core). waiting_of s i) same_core ∙ ap (λ (l : List (List Report)). get_or l i []) (fresh_reports core may.fresh) ∙ nothing_at may.fresh.senders i in record {
        appended = [];
        in_order = taken ∙ ap (λ (xs : List Item). from_sender i xs) (sym no_item);
        reported = λ f. ap (λ (rs : List Report). sum_by (λ (r : Report). f r.partition r.number) rs) (sym
            (ap (λ (rs : List Report). rs ++ to_sender i parts.held.reports.items ++ waiting_of parts.core i) told
            ∙ ap (λ (rs : List Report). to_sender i rs ++ waiting_of parts.core i) no_report
            ∙ waiting));
      };
}
