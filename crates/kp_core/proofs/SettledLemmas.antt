-- A core after a rule at its partitions: field by field.
use Rattle.std.proofs.Common.{◌≡◌, ◌∙◌, ℕ, ◌-◌, Bool, true, List, [], length, map, refl, sym, ap, arith}
use Rattle.std.specs.Prelude.{filter, flat_map, ◌&&◌, ◌==◌}
use Rattle.kp_rules.specs.declared.outcome.Report.{Report}
use Rattle.kp_rules.specs.declared.outcome.Reason.TheVariants.{Ended}
use Rattle.kp_rules.specs.Attempts.{is_live}
use Rattle.kp_rules.specs.Closing.{end_all}
use Rattle.kp_rules.specs.Fence.{give_up}
use Rattle.kp_rules.specs.Partitions.{is_empty}
use Rattle.kp_rules.specs.Records.{Partition, Request, Core, Told}
use Rattle.kp_rules.specs.Reports.{with_reports}
use Rattle.kp_rules.specs.Telling.{at_each, with_partitions}
use Rattle.kp_rules.specs.Tick.{heed_deadlines}
use Rattle.kp_parts.specs.Desk.{Desk, Covers, all_reports, tell_desk}
use Rattle.kp_parts.proofs.DeskLemmas.{all_reports-told}
use Rattle.kp_parts.proofs.PartitionRoomLemmas.{is_empty-is}

-- how many were told, by what is counted before and after
pub count_told : (told : List Told) (d e : Desk) → Covers d told → e ≡ tell_desk told d → d.untold - e.untold ≡ length told
count_told told d e covers tells = let is = ap (λ (x : Desk). x.untold) tells in omega (arith, is, covers.count)

pub still_exhausted : (told : List Told) (d e : Desk) (exhausted : Bool) → Covers d told → e ≡ tell_desk told d
    → (exhausted && (d.untold - e.untold == 0)) ≡ (exhausted && is_empty told)
still_exhausted told d e exhausted covers tells =
    ap (λ (n : ℕ). exhausted && (n == 0)) (count_told told d e covers tells) ∙ ap (λ (b : Bool). exhausted && b) (sym (is_empty-is told))

pub reports_told : (told : List Told) (d e : Desk) (reports : List (List Report)) → all_reports d ≡ reports → e ≡ tell_desk told d
    → all_reports e ≡ with_reports told reports
reports_told told d e reports is tells = ap all_reports tells ∙ all_reports-told told d ∙ ap (with_reports told) is

abbrev with_parts : Core → List Partition → List Request → Bool → List (List Report) → Core
with_parts s ts requests exhausted reports = record s {
  partitions = ts;
  requests = requests;
  exhausted = exhausted;
  reports = reports;
}

-- the core with its partitions changed so, this told, and the requests kept that are live
pub settled-is : (s : Core) (us ts : List Partition) (told : List Told) (requests : List Request) (exhausted : Bool) (d e : Desk)
    → all_reports d ≡ s.reports → Covers d told → ts ≡ us → e ≡ tell_desk told d → requests ≡ filter (is_live ts) s.requests
    → exhausted ≡ (s.exhausted && (d.untold - e.untold == 0))
    → record s { partitions = ts; requests = requests; exhausted = exhausted; reports = all_reports e } ≡ (with_partitions us told s).after
unfolding with_partitions
settled-is s us ts told requests exhausted d e is covers changed tells live none =
    ap (λ (r : List Request). with_parts s ts r exhausted (all_reports e)) live
    ∙ ap (λ (b : Bool). with_parts s ts (filter (is_live ts) s.requests) b (all_reports e)) (none ∙ still_exhausted told d e s.exhausted covers tells)
    ∙ ap (with_parts s ts (filter (is_live ts) s.requests) (s.exhausted && is_empty told)) (reports_told told d e s.reports is tells)
    ∙ ap (λ (xs : List Partition). with_parts s xs (filter (is_live xs) s.requests) (s.exhausted && is_empty told) (with_reports told s.reports)) changed

abbrev as_ended : Core → Core
as_ended s = record s { requests = []; ended = true }

-- the core at its end
pub ended-is : (s : Core) (ts : List Partition) (requests : List Request) (exhausted : Bool) (d e : Desk)
    → all_reports d ≡ s.reports → Covers d (end_all s).told → ts ≡ map (λ t. (give_up Ended t).after) s.partitions → e ≡ tell_desk (end_all s).told d
    → requests ≡ [] → exhausted ≡ (s.exhausted && (d.untold - e.untold == 0))
    → record s { partitions = ts; requests = requests; exhausted = exhausted; ended = true; reports = all_reports e } ≡ (end_all s).after
unfolding at_each with_partitions
ended-is s ts requests exhausted d e is covers changed tells gone none =
    ap (λ (r : List Request). let x : Core = record s { partitions = ts; requests = r; exhausted = exhausted; ended = true; reports = all_reports e } in x) gone
    ∙ ap as_ended (settled-is s (map (λ t. (give_up Ended t).after) s.partitions) ts (flat_map (λ t. (give_up Ended t).told) s.partitions)
    (filter (is_live ts) s.requests) exhausted d e is covers changed tells refl none)

-- the core at a tick
pub heeded-is : (now : ℕ) (s : Core) (ts : List Partition) (requests : List Request) (exhausted : Bool) (d e : Desk)
    → all_reports d ≡ s.reports → Covers d (at_each (heed_deadlines s.config now) s).told
    → ts ≡ map (λ t. (heed_deadlines s.config now t).after) s.partitions → e ≡ tell_desk (at_each (heed_deadlines s.config now) s).told d
    → requests ≡ filter (is_live ts) s.requests → exhausted ≡ (s.exhausted && (d.untold - e.untold == 0))
    → record s { partitions = ts; requests = requests; exhausted = exhausted; reports = all_reports e }
    ≡ (at_each (heed_deadlines s.config now) s).after
unfolding at_each with_partitions
heeded-is now s ts requests exhausted d e =
    settled-is s (map (λ t. (heed_deadlines s.config now t).after) s.partitions) ts
    (flat_map (λ t. (heed_deadlines s.config now t).told) s.partitions) requests exhausted d e
