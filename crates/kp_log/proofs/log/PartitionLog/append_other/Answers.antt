use Rattle.std.proofs.Common.{◌≡◌, ◌+◌, ◌≤◌, ◌++◌, length, ◌∙◌, sym, subst, ap}
use Rattle.kp_log.specs.Log.{Log, log_of, stored_as, NO_ID, LENGTH_LIMIT}
use Rattle.kp_log.proofs.LogLemmas.{IsSound-others_held}
use Rattle.kp_log.proofs.log.PartitionLog.append_other.Goals as goal

pub invariant_of-self-2 : goal.invariant_of-self-2
invariant_of-self-2 c =
    let log : Log = log_of c.self.inside.segments c.self.inside.kept.entries in
    let room : length log.records + length c.args.records.items ≤ LENGTH_LIMIT = subst (λ (l : Log). length l.records + length c.args.records.items ≤ LENGTH_LIMIT) (sym c.self.view_is) c.requires in
    let appended : c.append_reserved.new.self.records ≡ log.records ++ stored_as NO_ID c.args.records.items = c.append_reserved.ensures.records ∙ ap (λ rs. rs ++ stored_as NO_ID c.args.records.items) c.in_ok-reserve.ensures.records in
    IsSound-others_held log c.args.records.items c.append_reserved.new.self.records c.append_reserved.new.self.segments c.self.invariant room appended
