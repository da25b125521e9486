use Rattle.std.proofs.Common.{sym, subst}
use Rattle.kp_log.specs.Log.{IsSound}
use Rattle.kp_log.proofs.LogLemmas.{IsSound-appended}
use Rattle.kp_log.proofs.RuleLemmas.{append_is_taken}
use Rattle.kp_log.proofs.offering.take_batch.Goals as goal

pub returns-in_ok-append-in-Append-clause-sound : goal.returns-in_ok-append-in-Append-clause-sound
returns-in_ok-append-in-Append-clause-sound c =
    subst IsSound (sym c.in_ok-append-in-Append.ensures.exact) (IsSound-appended _ c.args.batch c.requires (append_is_taken _ c.args.batch (sym c.in-Append.ensures)).next)
