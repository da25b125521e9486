-- A report is fetched.
use Rattle.std.proofs.Common.{◌≡◌, ◌∙◌, ℕ, zero, suc, List, [], ◌∷◌, map, drop, get_or, set, Option, refl, sym, ap, subst, arith}
use Rattle.std.proofs.lemmas.List.{map-set, set-get_or}
use Rattle.std.specs.Prelude.{slice_get, slice_index_or, slice_set}
use Rattle.kp_rules.specs.declared.outcome.Report.{Report}
use Rattle.kp_rules.specs.Calls.{Gives}
use Rattle.kp_rules.specs.InOrder.{IsInOrder}
use Rattle.kp_rules.specs.Partitions.{used}
use Rattle.kp_rules.specs.Records.{Core}
use Rattle.kp_rules.specs.Reports.{fetch_step}
use Rattle.kp_parts.specs.Desk.{Line, Desk, all_reports, fetched, line_of}
use Rattle.kp_parts.proofs.DeskKeeping.{all_reports-fetched, line-reports}
use Rattle.kp_core.specs.Keeping.{IsKept}
use Rattle.kp_core.proofs.LeavingLemmas.{fetched_left}

pub fetches : (sender : ℕ) (s : Core) (d e : Desk) (report : Option Report) → all_reports d ≡ s.reports
    → report ≡ slice_get (line_of sender d.lines).reports 0 → e ≡ fetched sender d
    → Gives (fetch_step sender s) report (record s { reports = all_reports e })
fetches sender s d e report is first rest =
    let reports : (line_of sender d.lines).reports ≡ get_or s.reports sender [] = line-reports sender d.lines ∙ ap (λ (r : List (List Report)). get_or r sender []) is in (
      sym (first ∙ ap (λ (r : List Report). slice_get r 0) reports),
      ap (λ (r : List (List Report)). let x : Core = record s { reports = r } in x)
          (ap all_reports rest ∙ all_reports-fetched sender d ∙ ap (λ (r : List (List Report)). slice_set r sender (drop 1 (slice_index_or r sender []))) is),
    )

-- ---- places stay

room_of : Line → ℕ
room_of line = line.room

line-room : (sender : ℕ) (ls : List Line) → (line_of sender ls).room ≡ get_or (map room_of ls) sender 0
unfolding room_of
line-room sender [] = refl
line-room zero (l ∷ ls) = refl
line-room (suc n) (l ∷ ls) = line-room n ls

room-fetched : (sender other : ℕ) (d : Desk) → (line_of other (fetched sender d).lines).room ≡ (line_of other d.lines).room
unfolding room_of
room-fetched sender other d =
    line-room other (fetched sender d).lines
    ∙ ap (λ (rooms : List ℕ). get_or rooms other 0)
    (map-set room_of d.lines sender _ ∙ ap (set (map room_of d.lines) sender) (line-room sender d.lines) ∙ set-get_or (map room_of d.lines) sender 0)
    ∙ sym (line-room other d.lines)

pub fetched_kept : {s : Core} {d : Desk} (sender : ℕ) → s.reports ≡ all_reports d → IsKept s d
    → IsKept (record s { reports = all_reports (fetched sender d) }) (fetched sender d)
unfolding used
fetched_kept {s} {d} sender is k = record {
  order =
      subst (λ (r : List (List Report)). IsInOrder (record s { reports = r })) (ap (λ (r : List (List Report)). slice_set s.reports sender (drop 1 (slice_index_or r sender []))) is
      ∙ ap (λ (r : List (List Report)). slice_set r sender (drop 1 (slice_index_or (all_reports d) sender []))) is ∙ sym (all_reports-fetched sender d))
      (fetched_left sender (drop 1 (slice_index_or s.reports sender [])) s k.order).order;
  places = record { places = λ other. omega (arith, k.places.places other, room-fetched sender other d) };
  untold = k.untold;
  used = k.used;
  limit = k.limit;
}
