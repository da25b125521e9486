use Rattle.std.proofs.Common.{◌≡◌, take}
use Rattle.kp_log.specs.Segments.{records_of, own_from}
use Rattle.kp_log.proofs.segments.Segments.offsets_of.Given as goal

abbrev pub invariant-loop-segment : goal.invariant-loop-segment
invariant-loop-segment l = l.offsets.items ≡ own_from 0 l.ids (records_of (take l.segment-index l.segment-items))
