-- Senders that have finished, and the reports of what they had sent.
use Rattle.std.proofs.Common.{◌≡◌, ◌≢◌, ℕ, zero, suc, ◌+◌, ◌-◌, ◌^◌, ◌<◌, ◌≤◌, List, [], ◌∷◌, ◌++◌, length, map, drop, get_or, nat_eq, true, false, refl, ap, ap₂, sym, ◌∙◌, subst, arith, append_assoc, add-one}
use Rattle.std.specs.Prelude.{All, min, sum_by, slice_get, slice_index_or, Option, Some, None}
use Rattle.std.specs.declared.alloc.Global.{Global}
use Rattle.std.specs.declared.vec.Vec.{Vec}
use Rattle.std.proofs.Math.Seq.{drop-cons}
use Rattle.std.proofs.lemmas.List.{flat_map_more, map-append}
use Rattle.std.specs.List.{flat_map}
use Rattle.std.specs.List.Sorted.{IsPermutation}
use Rattle.std.proofs.lemmas.List.Elements.{All-head, All-tail, All-nil, All-cons}
use Rattle.std.proofs.lemmas.List.Sorted.{sum_by-IsPermutation}
use Rattle.std.proofs.lemmas.List.Sums.{sum_by-append, sum_by-cons}
use Rattle.kp_accum.specs.declared.item.Item.{Item}
use Rattle.kp_engine.specs.Parts.{to_sender, HaveReports}
use Rattle.kp_lanes.specs.Intake.{numbers_below}
use Rattle.kp_lanes.specs.Lane.{LaneId}
use Rattle.kp_lanes.specs.Sender.{all_accepted, all_got, finished_id, finished_number}
use Rattle.kp_lanes.specs.Settling.{left_reports, IsOf}
use Rattle.kp_lanes.specs.declared.sender.Finished.{Finished}
use Rattle.kp_rules.specs.declared.outcome.Report.{Report}
use Rattle.kp_client.specs.Left.{AccountsFor, items_left, reports_left}
use Rattle.kp_client.specs.declared.left.Left.{Left}
use Rattle.kp_run.specs.Gathered.{account_in, account_of, heard_by, Account, IncludeHeard}
use Rattle.kp_run.specs.Jobs.{accepted_by, number_of, IsJobOf, Keeps}
use Rattle.kp_run.specs.Portions.{whole, Gathered, Portion}
use Rattle.kp_run.specs.declared.sender_thread.Job.{Job}

abbrev pub IsWhole : Job → Type 0
IsWhole job = job.has_lost ≡ false

-- ---- lists

-- the first of two lists that map to the same, and the others
same_head : (f : Finished) (fs : List Finished) (j : Job) (js : List Job) → map account_of (f ∷ fs) ≡ map account_in (j ∷ js) → account_of f ≡ account_in j
same_head f fs j js same = cc

same_tail : (f : Finished) (fs : List Finished) (j : Job) (js : List Job) → map account_of (f ∷ fs) ≡ map account_in (j ∷ js) → map account_of fs ≡ map account_in js
same_tail f fs j js same = cc

none_left : (f : Finished) (fs : List Finished) → map account_of (f ∷ fs) ≡ map account_in [] → ⊥
none_left f fs same = cc

none_done : (j : Job) (js : List Job) → map account_of [] ≡ map account_in (j ∷ js) → ⊥
none_done j js same = cc

-- ---- senders that have finished

-- the lanes of the jobs are those of what is left of them
pub all_of_jobs : (lanes : List LaneId) (fs : List Finished) (js : List Job) → map account_of fs ≡ map account_in js
    → All (IsJobOf lanes) js → All (IsOf lanes) fs
all_of_jobs lanes [] js same all = All-nil (IsOf lanes)
all_of_jobs lanes (f ∷ fs) [] same all = absurd (none_left f fs same)
all_of_jobs lanes (f ∷ fs) (j ∷ js) same all =
    let P : Account → Type 0 = λ a. (a.0 < length lanes) × (slice_index_or lanes a.0 a.1 ≡ a.1) in
    let here : IsOf lanes f = subst P (sym (same_head f fs j js same)) (All-head (IsJobOf lanes) j js all) in
    All-cons (IsOf lanes) f fs here (all_of_jobs lanes fs js (same_tail f fs j js same) (All-tail (IsJobOf lanes) j js all))

-- The jobs' numbers, records, reports and counts are those of what is left of them.
pub record Meet (fs : List Finished) (js : List Job) : Type 0 where
  pub numbers : map number_of js ≡ map finished_number fs
  pub accepted : map accepted_by js ≡ map all_accepted fs
  pub heard : flat_map heard_by js ≡ flat_map all_got fs
  pub counted : sum_by (λ (j : Job). j.accepted) js ≡ sum_by (λ (f : Finished). length (all_accepted f)) fs

pub all_meet : (fs : List Finished) (js : List Job) → map account_of fs ≡ map account_in js
    → All Keeps js → All IsWhole js → Meet fs js
all_meet [] [] same keeps none_lost = record { numbers = refl; accepted = refl; heard = refl; counted = refl }
all_meet [] (j ∷ js) same keeps none_lost = absurd (none_done j js same)
all_meet (f ∷ fs) [] same keeps none_lost = absurd (none_left f fs same)
all_meet (f ∷ fs) (j ∷ js) same keeps none_lost =
    let here = same_head f fs j js same in
    let kept : Keeps j = All-head Keeps j js keeps in
    let heard : heard_by j ≡ all_got f = kept.heard (All-head IsWhole j js none_lost) ∙ sym (ap (λ (a : Account). a.3) here) in
    let items : accepted_by j ≡ all_accepted f = sym (ap (λ (a : Account). a.2) here) in
    let counted : j.accepted ≡ length (all_accepted f) = kept.counted ∙ ap length items in
    let rest = all_meet fs js (same_tail f fs j js same) (All-tail Keeps j js keeps) (All-tail IsWhole j js none_lost) in
    record {
      numbers = ap₂ (λ (n : ℕ) (ns : List ℕ). n ∷ ns) (sym (ap (λ (a : Account). a.0) here)) rest.numbers;
      accepted = ap₂ (λ (xs : List Item) (xss : List (List Item)). xs ∷ xss) items rest.accepted;
      heard = ap₂ (λ (xs ys : List Report). xs ++ ys) heard rest.heard;
      counted = sum_by-cons (λ (j : Job). j.accepted) j js ∙ ap₂ (λ (m n : ℕ). m + n) counted rest.counted ∙ sym (sum_by-cons (λ (f : Finished). length (all_accepted f)) f fs);
    }

-- ---- their portions

portion_of : (left : Left) (f : Finished) → AccountsFor left f → Portion
portion_of left f accounts = record { reported = accounts.sent; left = items_left left (finished_number f) }

pub portions_of : (left : Left) (fs : List Finished) → All (AccountsFor left) fs → List Portion
portions_of left [] all = []
portions_of left (f ∷ fs) all = portion_of left f (All-head (AccountsFor left) f fs all) ∷ portions_of left fs (All-tail (AccountsFor left) f fs all)

-- all reports of a sender
reports_of : Left → Finished → List Report
reports_of left f = all_got f ++ reports_left left (finished_number f)

-- What the portions are, and that they have these reports.
record ArePortions (left : Left) (fs : List Finished) (ps : List Portion) : Type 0 where
  are : map whole ps ≡ map all_accepted fs
  many : sum_by (λ (p : Portion). length (whole p)) ps ≡ sum_by (λ (f : Finished). length (all_accepted f)) fs
  told : HaveReports (flat_map (λ (p : Portion). p.reported) ps) (flat_map (reports_of left) fs)

both_have : (xs ys : List Item) (rs qs : List Report) → HaveReports xs rs → HaveReports ys qs → HaveReports (xs ++ ys) (rs ++ qs)
both_have xs ys rs qs one two = λ f.
    sum_by-append (λ (x : Item). f x.partition x.number) xs ys
    ∙ ap₂ (λ (m n : ℕ). m + n) (one f) (two f)
    ∙ sym (sum_by-append (λ (r : Report). f r.partition r.number) rs qs)

are_portions : (left : Left) (fs : List Finished) (all : All (AccountsFor left) fs) → ArePortions left fs (portions_of left fs all)
unfolding portion_of portions_of reports_of
are_portions left [] all = record { are = refl; many = refl; told = λ f. refl }
are_portions left (f ∷ fs) all =
    let here : AccountsFor left f = All-head (AccountsFor left) f fs all in
    let rest = are_portions left fs (All-tail (AccountsFor left) f fs all) in
    let is : here.sent ++ items_left left (finished_number f) ≡ all_accepted f = sym here.in_order in
    let p : Portion = portion_of left f here in
    let ps : List Portion = portions_of left fs (All-tail (AccountsFor left) f fs all) in
    record {
      are = ap₂ (λ (xs : List Item) (xss : List (List Item)). xs ∷ xss) is rest.are;
      many = sum_by-cons (λ (p : Portion). length (whole p)) p ps ∙ ap₂ (λ (m n : ℕ). m + n) (ap length is) rest.many
          ∙ sym (sum_by-cons (λ (f : Finished). length (all_accepted f)) f fs);
      told = both_have here.sent (flat_map (λ (p : Portion). p.reported) ps) (reports_of left f) (flat_map (reports_of left) fs) here.reported rest.told;
    }

-- ---- all reports

-- the reports that were heard and those that were not, sender by sender or one after the other
same_sums : (w : Report → ℕ) (left : Left) (fs : List Finished)
    → sum_by w (flat_map all_got fs ++ flat_map (reports_left left) (map finished_number fs)) ≡ sum_by w (flat_map (reports_of left) fs)
unfolding reports_of
same_sums w left [] = refl
same_sums w left (f ∷ fs) =
    let got = all_got f in
    let more = reports_left left (finished_number f) in
    let gots = flat_map all_got fs in
    let mores = flat_map (reports_left left) (map finished_number fs) in
    let rest = sym (sum_by-append w gots mores) ∙ same_sums w left fs in
    let before = sum_by-append w (got ++ gots) (more ++ mores) in
    let one = sum_by-append w got gots in
    let two = sum_by-append w more mores in
    let both = sum_by-append w (got ++ more) (flat_map (reports_of left) fs) in
    let three = sum_by-append w got more in
    omega (arith, rest, before, one, two, both, three)

pub all_gathered : (js : List Job) (fs : List Finished) (left : Left) (n count : ℕ) (heard all reports : List Report)
    → map account_of fs ≡ map account_in js → All Keeps js → All IsWhole js
    → map number_of js ≡ numbers_below n → All (AccountsFor left) fs
    → count ≡ min (sum_by (λ (j : Job). j.accepted) js) (2 ^ 64 - 1) → heard ≡ flat_map heard_by js
    → all ≡ heard ++ flat_map (reports_left left) (numbers_below n) → IsPermutation all reports
    → Gathered js count reports
all_gathered js fs left n count heard all reports same keeps none_lost numbers accounts counted is_heard is_all moved =
    let met = all_meet fs js same keeps none_lost in
    let ps = portions_of left fs accounts in
    let are = are_portions left fs accounts in
    let named : numbers_below n ≡ map finished_number fs = sym numbers ∙ met.numbers in
    let is : all ≡ flat_map all_got fs ++ flat_map (reports_left left) (map finished_number fs) =
    is_all ∙ ap₂ (λ (rs : List Report) (ns : List ℕ). rs ++ flat_map (reports_left left) ns) (is_heard ∙ met.heard) named in
    let many : sum_by (λ (j : Job). j.accepted) js ≡ sum_by (λ (p : Portion). length (whole p)) ps = met.counted ∙ sym are.many in
    record {
      portions = ps;
      are = are.are ∙ sym met.accepted;
      add_up = record {
        counted = omega (arith, counted, many);
        told = λ f.
            let w : Report → ℕ = λ r. f r.partition r.number in
            are.told f ∙ sym (same_sums w left fs) ∙ ap (sum_by w) (sym is) ∙ sym (sum_by-IsPermutation w all reports moved);
      };
    }

-- what was heard is among all, in whatever order they are
pub heard_among : (js : List Job) (heard unheard all reports : List Report) → heard ≡ flat_map heard_by js → all ≡ heard ++ unheard → IsPermutation all reports
    → IncludeHeard js reports
heard_among js heard unheard all reports is_heard is_all moved =
    (unheard, subst (λ (rs : List Report). IsPermutation rs reports) (is_all ∙ ap (λ (hs : List Report). hs ++ unheard) is_heard) moved)

pub all_are : (js : List Job) (fs : List Finished) (left : Left) (n : ℕ) (heard all reports : List Report)
    → map account_of fs ≡ map account_in js → All Keeps js → All IsWhole js
    → map number_of js ≡ numbers_below n → heard ≡ flat_map heard_by js
    → all ≡ heard ++ flat_map (reports_left left) (numbers_below n) → IsPermutation all reports
    → IsPermutation (flat_map all_got fs ++ flat_map (reports_left left) (map finished_number fs)) reports
all_are js fs left n heard all reports same keeps none_lost numbers is_heard is_all moved =
    let met = all_meet fs js same keeps none_lost in
    let named : numbers_below n ≡ map finished_number fs = sym numbers ∙ met.numbers in
    subst (λ (rs : List Report). IsPermutation rs reports)
    (is_all ∙ ap₂ (λ (rs : List Report) (ns : List ℕ). rs ++ flat_map (reports_left left) ns) (is_heard ∙ met.heard) named) moved

-- ---- jobs, one after the other

pub account_is : (f : Finished) (job : Job) → finished_number f ≡ (account_in job).0 → finished_id f ≡ (account_in job).1
    → all_accepted f ≡ (account_in job).2 → all_got f ≡ (account_in job).3 → account_of f ≡ account_in job
account_is f job number lane items reports = λ j. (number j, lane j, items j, reports j)

pub one_more : (fs more : List Finished) (f : Finished) (job : Job) → more ≡ fs ++ f ∷ [] → account_of f ≡ account_in job
    → map account_of more ≡ map account_of fs ++ account_in job ∷ []
one_more fs more f job longer is =
    ap (λ (xs : List Finished). map account_of xs) longer ∙ map-append account_of fs (f ∷ [])
    ∙ ap (λ (a : Account). map account_of fs ++ a ∷ []) is

pub whole_more : (job : Job) (before rest all : List Job) → (All IsWhole before → All IsWhole all) → before ≡ job ∷ rest → IsWhole job
    → All IsWhole rest → All IsWhole all
whole_more job before rest all done is here others =
    done (subst (λ (js : List Job). All IsWhole js) (sym is) (All-cons IsWhole job rest here others))

pub finished_more : (old new : List Finished) (job : Job) (before rest : List Job) (all : List Account)
    → map account_of old ++ map account_in before ≡ all → map account_of new ≡ map account_of old ++ account_in job ∷ []
    → before ≡ job ∷ rest → map account_of new ++ map account_in rest ≡ all
finished_more old new job before rest all done more is =
    ap (λ (xs : List Account). xs ++ map account_in rest) more
    ∙ append_assoc (map account_of old) (account_in job ∷ []) (map account_in rest)
    ∙ ap (λ (js : List Job). map account_of old ++ map account_in js) (sym is) ∙ done

pub heard_more : (old new : List Report) (job : Job) (before rest : List Job) (all : List Report)
    → old ++ flat_map heard_by before ≡ all → new ≡ old ++ heard_by job → before ≡ job ∷ rest → new ++ flat_map heard_by rest ≡ all
heard_more old new job before rest all done more is =
    ap (λ (rs : List Report). rs ++ flat_map heard_by rest) more
    ∙ append_assoc old (heard_by job) (flat_map heard_by rest)
    ∙ ap (λ (js : List Job). old ++ flat_map heard_by js) (sym is) ∙ done

pub count_more : (old new : ℕ) (job : Job) (before rest : List Job) (all : ℕ)
    → min (old + sum_by (λ (j : Job). j.accepted) before) (2 ^ 64 - 1) ≡ all → new ≡ min (old + job.accepted) (2 ^ 64 - 1)
    → before ≡ job ∷ rest → min (new + sum_by (λ (j : Job). j.accepted) rest) (2 ^ 64 - 1) ≡ all
count_more old new job before rest all done more is =
    let sums = ap (sum_by (λ (j : Job). j.accepted)) is ∙ sum_by-cons (λ (j : Job). j.accepted) job rest in
    omega (arith, done, more, sums)

pub count_done : (n : ℕ) (js : List Job) (all : ℕ) → n ≤ 2 ^ 64 - 1 → length js ≡ 0
    → min (n + sum_by (λ (j : Job). j.accepted) js) (2 ^ 64 - 1) ≡ all → n ≡ all
count_done n [] all small none done = omega (arith, small, done)
count_done n (j ∷ js) all small none done = absurd (omega (arith, none))

-- ---- what was not heard

pub ring_there : (rings : List (Vec Report Global)) (i : ℕ) (ring : Vec Report Global) → slice_get rings i ≡ Some ring
    → slice_index_or (left_reports rings) i [] ≡ ring.items
ring_there [] i ring is = absurd (cc)
ring_there (r ∷ rings) zero ring is = ap (λ (o : Option (Vec Report Global)). items_or o) is
  where
    items_or : Option (Vec Report Global) → List Report
    items_or None = []
    items_or (Some r) = r.items
ring_there (r ∷ rings) (suc i) ring is = ring_there rings i ring is

pub ring_missing : (rings : List (Vec Report Global)) (i : ℕ) → slice_get rings i ≡ None → slice_index_or (left_reports rings) i [] ≡ []
ring_missing [] i is = refl
ring_missing (r ∷ rings) zero is = absurd (cc)
ring_missing (r ∷ rings) (suc i) is = ring_missing rings i is

pub unheard_more : (f g : ℕ → List Report) (n : ℕ) (first old new : List Report) → old ≡ first ++ flat_map f (numbers_below n)
    → new ≡ old ++ g n → g n ≡ f n → new ≡ first ++ flat_map f (numbers_below (n + 1))
unheard_more f g n first old new before more same =
    more ∙ ap₂ (λ (xs ys : List Report). xs ++ ys) before same ∙ rw add-one (flat_map_more f first (numbers_below n) n)

pub here_or_later : (i n : ℕ) → n + 1 ≤ i → i ≢ n
here_or_later i n low is = absurd (omega (arith, low, is))

pub to_sender_here : (i : ℕ) (rs : List Report) (k : ℕ) (r d : Report) → k < length rs → get_or rs k d ≡ r → nat_eq r.sender i ≡ true
    → to_sender i (drop k rs) ≡ r ∷ to_sender i (drop (k + 1) rs)
to_sender_here i rs k r d near is matches = rw (drop-cons rs k d near, is, matches, add-one) refl

pub to_sender_else : (i : ℕ) (rs : List Report) (k : ℕ) (r d : Report) → k < length rs → get_or rs k d ≡ r → nat_eq r.sender i ≡ false
    → to_sender i (drop k rs) ≡ to_sender i (drop (k + 1) rs)
to_sender_else i rs k r d near is differs = rw (drop-cons rs k d near, is, differs, add-one) refl
