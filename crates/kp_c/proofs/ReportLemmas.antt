-- Reports that are fetched into a room.
use Rattle.std.proofs.Common.{◌≡◌, ℕ, zero, suc, ◌+◌, ◌<◌, ◌≤◌, List, [], ◌∷◌, ◌++◌, length, take, refl, sym, ap, ◌∙◌, arith}
use Rattle.std.specs.Prelude.{◌==◌, Bool, true, false, if◌then◌else◌, map, Some, slice_set, get_or, ℤ, pos, ◌+ℤ◌}
use Rattle.std.proofs.lemmas.Int.{ints}
use Rattle.std.proofs.lemmas.List.Concat.{flat_map-append}
use Rattle.std.proofs.lemmas.List.{append-nil, append_assoc, length-append, length-set, map-append, take_more, take_more_set}
use Rattle.kp_c.specs.Ending.{Fetched, none, one_more}
use Rattle.kp_c.specs.Values.{alone, behind, detail_behind, first_of, reports_from, reports_in, told}
use Rattle.kp_c.specs.declared.values.KpReport.{KpReport}
use Rattle.kp_c.specs.declared.values.KpReportRun.{KpReportRun}
use Rattle.kp_embed.specs.Ending.{Calls}
use Rattle.kp_embed.specs.Producer.{Producer}
use Rattle.kp_rules.specs.Calls.{Fetch}
use Rattle.kp_rules.specs.declared.outcome.Report.{Report}

-- So many were fetched, and stand at the front of the room.
pub record SoFar (place : ℕ) (first : Producer) (whole : List KpReport) (now : Producer) (room : List KpReport) : Type 0 where
  pub reports : List Report
  pub fetched : Fetched first reports now
  pub front : take place room ≡ map told reports
  pub same : length room ≡ length whole

pub so_far_none : (first : Producer) (whole : List KpReport) → SoFar 0 first whole first whole
so_far_none first whole = record { reports = []; fetched = none; front = refl; same = refl }

pub so_far_more : (place : ℕ) (first : Producer) (whole : List KpReport) (now new : Producer) (room : List KpReport) (report : Report)
    → place < length room → SoFar place first whole now room → Calls (Fetch 0 (Some report)) now new
    → SoFar (place + 1) first whole new (slice_set room place (told report))
so_far_more place first whole now new room report lt s call = record {
  reports = s.reports ++ report ∷ [];
  fetched = one_more s.reports report now new s.fetched call;
  front = take_more_set room place (told report) lt ∙ ap (λ (r : List KpReport). r ++ told report ∷ []) s.front ∙ sym (map-append told s.reports (report ∷ []));
  same = length-set room place (told report) ∙ s.same;
}

-- ---- runs

-- a run with one report more
abbrev pub longer : KpReportRun → KpReportRun
longer r = record { number = r.number; detail = r.detail; count = r.count + 1; partition = r.partition; outcome = r.outcome }

none_behind : (is_offset : Bool) (detail : ℤ) → (if is_offset then detail +ℤ pos 0 else detail) ≡ detail
none_behind true detail = omega (arith, ints)
none_behind false detail = refl

behind_none : (r : KpReport) → behind r 0 ≡ r
behind_none r =
    let n : r.number + 0 ≡ r.number = omega arith in
    ap (λ (n : ℕ). record { number = n; detail = detail_behind r.outcome r.detail 0; partition = r.partition; outcome = r.outcome }) n
    ∙ ap (λ (d : ℤ). record { number = r.number; detail = d; partition = r.partition; outcome = r.outcome }) (none_behind (r.outcome == 0) r.detail)

from_more : (r : KpReport) (n : ℕ) → reports_from r (n + 1) ≡ reports_from r n ++ behind r n ∷ []
unfolding reports_from
from_more r n = let on : n + 1 ≡ suc n = omega arith in ap (λ (k : ℕ). reports_from r k) on

from_one : (r : KpReport) → reports_from r 1 ≡ behind r 0 ∷ []
unfolding reports_from
from_one r = refl

length-reports_from : (r : KpReport) (n : ℕ) → length (reports_from r n) ≡ n
unfolding reports_from
length-reports_from r zero = refl
length-reports_from r (suc k) = let one : k + 1 ≡ suc k = omega arith in length-append (reports_from r k) (behind r k ∷ []) ∙ ap (λ (n : ℕ). n + 1) (length-reports_from r k) ∙ one

in_none : reports_in [] ≡ []
unfolding reports_in
in_none = refl

in_append : (xs ys : List KpReportRun) → reports_in (xs ++ ys) ≡ reports_in xs ++ reports_in ys
unfolding reports_in
in_append xs ys = flat_map-append (λ (r : KpReportRun). reports_from (first_of r) r.count) xs ys

of_one : (r : KpReportRun) → reports_in (r ∷ []) ≡ reports_from (first_of r) r.count
unfolding reports_in
of_one r = append-nil (reports_from (first_of r) r.count)

of_last : (runs : List KpReportRun) (r : KpReportRun) → reports_in (runs ++ r ∷ []) ≡ reports_in runs ++ reports_from (first_of r) r.count
of_last runs r = in_append runs (r ∷ []) ∙ ap (λ (l : List KpReport). reports_in runs ++ l) (of_one r)

of_more : (runs : List KpReportRun) (i : ℕ) (d : KpReportRun) → i < length runs
    → reports_in (take (i + 1) runs) ≡ reports_in (take i runs) ++ reports_from (first_of (get_or runs i d)) (get_or runs i d).count
of_more runs i d lt = ap reports_in (take_more runs i d lt) ∙ of_last (take i runs) (get_or runs i d)

of_more_set : (runs : List KpReportRun) (i : ℕ) (r : KpReportRun) → i < length runs
    → reports_in (take (i + 1) (slice_set runs i r)) ≡ reports_in (take i runs) ++ reports_from (first_of r) r.count
of_more_set runs i r lt = ap reports_in (take_more_set runs i r lt) ∙ of_last (take i runs) r

-- A run has no more reports than all runs up to it.
pub within_all : (runs : List KpReportRun) (i : ℕ) (d : KpReportRun) → i < length runs → (get_or runs i d).count ≤ length (reports_in (take (i + 1) runs))
within_all runs i d lt =
    let r = get_or runs i d in
    let all = ap length (of_more runs i d lt) ∙ length-append (reports_in (take i runs)) (reports_from (first_of r) r.count) in
    let own = length-reports_from (first_of r) r.count in
    omega arith

-- The last run has one report more.
pub goes_on : (runs : List KpReportRun) (i : ℕ) (d : KpReportRun) (report : KpReport) → i < length runs
    → report ≡ behind (first_of (get_or runs i d)) (get_or runs i d).count
    → reports_in (take (i + 1) (slice_set runs i (longer (get_or runs i d)))) ≡ reports_in (take (i + 1) runs) ++ report ∷ []
goes_on runs i d report lt is =
    let r = get_or runs i d in
    of_more_set runs i (longer r) lt
    ∙ ap (λ (l : List KpReport). reports_in (take i runs) ++ l) (from_more (first_of r) r.count)
    ∙ sym (append_assoc (reports_in (take i runs)) (reports_from (first_of r) r.count) (behind (first_of r) r.count ∷ []))
    ∙ ap (λ (l : List KpReport). l ++ behind (first_of r) r.count ∷ []) (sym (of_more runs i d lt))
    ∙ ap (λ (last : KpReport). reports_in (take (i + 1) runs) ++ last ∷ []) (sym is)

-- There is one run more, of one report.
pub begins : (runs : List KpReportRun) (i : ℕ) (report : KpReport) → i < length runs
    → reports_in (take (i + 1) (slice_set runs i (alone report))) ≡ reports_in (take i runs) ++ report ∷ []
begins runs i report lt =
    of_more_set runs i (alone report) lt
    ∙ ap (λ (l : List KpReport). reports_in (take i runs) ++ l) (from_one report)
    ∙ ap (λ (first : KpReport). reports_in (take i runs) ++ first ∷ []) (behind_none report)

-- So many were fetched, and stand as runs at the front of the room.
pub record RunsSoFar (place : ℕ) (first : Producer) (whole : List KpReportRun) (now : Producer) (room : List KpReportRun) (count : ℕ) : Type 0 where
  pub reports : List Report
  pub fetched : Fetched first reports now
  pub front : reports_in (take count room) ≡ map told reports
  pub many : length reports ≡ place
  pub same : length room ≡ length whole
  pub within : count ≤ place

pub runs_none : (first : Producer) (whole : List KpReportRun) → RunsSoFar 0 first whole first whole 0
runs_none first whole = record { reports = []; fetched = none; front = in_none; many = refl; same = refl; within = omega arith }

pub runs_more : (place : ℕ) (first : Producer) (whole : List KpReportRun) (now new : Producer) (old room : List KpReportRun) (count more : ℕ) (report : Report)
    → RunsSoFar place first whole now old count → Calls (Fetch 0 (Some report)) now new
    → reports_in (take more room) ≡ reports_in (take count old) ++ told report ∷ [] → more ≤ count + 1 → length room ≡ length old
    → RunsSoFar (place + 1) first whole new room more
runs_more place first whole now new old room count more report s call added le same = record {
  reports = s.reports ++ report ∷ [];
  fetched = one_more s.reports report now new s.fetched call;
  front = added ∙ ap (λ (r : List KpReport). r ++ told report ∷ []) s.front ∙ sym (map-append told s.reports (report ∷ []));
  many = length-append s.reports (report ∷ []) ∙ ap (λ (n : ℕ). n + 1) s.many;
  same = same ∙ s.same;
  within = let w = s.within in omega arith;
}
