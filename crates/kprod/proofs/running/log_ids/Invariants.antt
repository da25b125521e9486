use Rattle.std.proofs.Common.{◌≡◌, map, take}
use Rattle.kprod.specs.RunText.{log_id}
use Rattle.kprod.proofs.running.log_ids.Given as goal

abbrev pub invariant-loop-id : goal.invariant-loop-id
invariant-loop-id l = l.known.items ≡ map log_id (take l.id-index l.ids)
