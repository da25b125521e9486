use Rattle.std.proofs.Common.{◌≡◌, vec_len, vec_capacity}
use Rattle.kp_running.specs.Numbered.{AreNumbered}
use Rattle.kp_running.proofs.bells.Bells.new.Given as goal

abbrev pub invariant-loop-sender : goal.invariant-loop-sender
invariant-loop-sender l = (vec_len l.bells ≡ l.sender) × (vec_capacity l.bells ≡ l.senders) × AreNumbered l.bells.items
