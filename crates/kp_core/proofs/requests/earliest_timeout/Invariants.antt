use Rattle.std.proofs.Common.{◌≡◌, ◌+◌, take, map}
use Rattle.kp_rules.specs.Due.{earliest}
use Rattle.kp_core.proofs.requests.earliest_timeout.Given as goal

abbrev pub invariant-loop-request : goal.invariant-loop-request
invariant-loop-request l = l.earliest ≡ earliest l.from (map (λ r. r.sent + l.config.request_timeout_ms) (take l.request-index l.requests))
