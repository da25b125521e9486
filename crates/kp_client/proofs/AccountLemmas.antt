-- What is left accounts for what was accepted.
use Rattle.std.proofs.Common.{◌≡◌, ℕ, ◌-◌, ◌+◌, ◌<◌, List, [], ◌∷◌, ◌++◌, length, take, refl, sym, ap, ◌∙◌, arith}
use Rattle.std.specs.Prelude.{slice_index_or, sum_by, All}
use Rattle.std.proofs.Math.Seq.{take-append_seam}
use Rattle.std.proofs.lemmas.List.{length-append}
use Rattle.kp_accum.specs.declared.item.Item.{Item}
use Rattle.kp_engine.specs.Agreement.{waiting_of}
use Rattle.kp_engine.specs.Parts.{to_sender, AccountedOf, IsAccounted}
use Rattle.kp_engine.specs.Serving.{from_sender}
use Rattle.kp_engine.specs.declared.parts.Parts.{Parts}
use Rattle.kp_lanes.specs.Intake.{lanes_of, told_of}
use Rattle.kp_lanes.specs.Sender.{all_got, finished_number}
use Rattle.kp_lanes.specs.Settling.{Adds, IsOf, left_items, left_reports}
use Rattle.kp_lanes.specs.declared.sender.Finished.{Finished}
use Rattle.kp_lanes.specs.declared.settling.Settled.{Settled}
use Rattle.kp_rules.specs.declared.outcome.Report.{Report}
use Rattle.kp_client.specs.Accounts.{appended_of, AllAccounted, SenderAccounted}
use Rattle.kp_client.specs.Left.{items_left, reports_left, AccountsFor}
use Rattle.kp_client.specs.declared.left.Left.{Left}

all_but : (xs ys : List Item) → take (length (xs ++ ys) - length ys) (xs ++ ys) ≡ xs
all_but xs ys =
    let wide : length (xs ++ ys) ≡ length xs + length ys = length-append xs ys in
    let n : length (xs ++ ys) - length ys ≡ length xs = omega (arith, wide) in
    ap (λ (k : ℕ). take k (xs ++ ys)) n ∙ take-append_seam xs ys

of_sender : (i : ℕ) (parts : Parts) → AccountedOf i parts → SenderAccounted i parts
of_sender i parts a =
    let held = from_sender i parts.held.items.items in
    let same : appended_of i parts ≡ a.appended =
    ap (λ (xs : List Item). take (length xs - length held) xs) a.in_order ∙ all_but a.appended held in record {
      in_order = a.in_order ∙ ap (λ (xs : List Item). xs ++ held) (sym same);
      reported = λ f. ap (λ (xs : List Item). sum_by (λ (x : Item). f x.partition x.number) xs) same ∙ a.reported f;
    }

pub all_accounted : (parts : Parts) → IsAccounted parts → AllAccounted parts
all_accounted parts a = record { each = λ i near. of_sender i parts (a.each i near) }

-- four lists in a row
in_a_row : (a b c d : List Report) → a ++ b ++ c ++ d ≡ a ++ (b ++ c ++ d)
in_a_row [] b c d = refl
in_a_row (x ∷ a) b c d = ap (λ (rs : List Report). x ∷ rs) (in_a_row a b c d)

three_in_a_row : (a b c : List Item) → a ++ b ++ c ≡ a ++ (b ++ c)
three_in_a_row [] b c = refl
three_in_a_row (x ∷ a) b c = ap (λ (xs : List Item). x ∷ xs) (three_in_a_row a b c)

pub accounts_for : (parts : Parts) (s : Settled) (left : Left) (f : Finished) → AllAccounted parts
    → left.items ≡ s.left → left.reports ≡ s.reports → left.held ≡ parts.held → left.core ≡ parts.core
    → finished_number f < length (lanes_of parts.intake) → Adds parts.intake s f → AccountsFor left f
accounts_for parts s left f all items reports held core near adds =
    let i = finished_number f in
    let a = all.each i near in
    let lane = slice_index_or (left_items s.left.items) i [] in
    let ring = slice_index_or (left_reports s.reports.items) i [] in
    let kept = from_sender i parts.held.items.items in
    let mail = to_sender i parts.held.reports.items in
    let waiting = waiting_of parts.core i in
    let items_are : items_left left i ≡ kept ++ lane =
    ap (λ v. from_sender i left.held.items.items ++ slice_index_or (left_items v.items) i []) items
    ∙ ap (λ h. from_sender i h.items.items ++ lane) held in
    let reports_are : reports_left left i ≡ ring ++ mail ++ waiting =
    ap (λ v. slice_index_or (left_reports v.items) i [] ++ to_sender i left.held.reports.items ++ waiting_of left.core i) reports
    ∙ ap (λ h. ring ++ to_sender i h.reports.items ++ waiting_of left.core i) held
    ∙ ap (λ k. ring ++ mail ++ waiting_of k i) core in
    let told : told_of parts.intake i ++ mail ++ waiting ≡ all_got f ++ reports_left left i =
    ap (λ (rs : List Report). rs ++ mail ++ waiting) adds.reports ∙ in_a_row (all_got f) ring mail waiting
    ∙ ap (λ (rs : List Report). all_got f ++ rs) (sym reports_are) in record {
      sent = appended_of i parts;
      in_order = adds.items ∙ ap (λ (xs : List Item). xs ++ lane) a.in_order ∙ three_in_a_row (appended_of i parts) kept lane
          ∙ ap (λ (xs : List Item). appended_of i parts ++ xs) (sym items_are);
      reported = λ g. a.reported g ∙ ap (λ (rs : List Report). sum_by (λ (r : Report). g r.partition r.number) rs) told;
    }

pub all_accounts_for : (parts : Parts) (s : Settled) (left : Left) (fs : List Finished) → AllAccounted parts
    → left.items ≡ s.left → left.reports ≡ s.reports → left.held ≡ parts.held → left.core ≡ parts.core
    → All (IsOf (lanes_of parts.intake)) fs → All (Adds parts.intake s) fs → All (AccountsFor left) fs
all_accounts_for parts s left fs all items reports held core of adds =
    λ k d near. accounts_for parts s left (slice_index_or fs k d) all items reports held core (of k d near).0 (adds k d near)
