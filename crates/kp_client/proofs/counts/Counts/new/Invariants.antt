use Rattle.std.proofs.Common.{◌≡◌, vec_len, vec_capacity}
use Rattle.kp_client.proofs.counts.Counts.new.Given as goal

abbrev pub invariant-loop : goal.invariant-loop
invariant-loop l = (vec_len l.counts ≡ l.counter) × (vec_capacity l.counts ≡ l.senders)
