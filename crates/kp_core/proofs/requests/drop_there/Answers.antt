use Rattle.std.proofs.Common.{rules}
use Rattle.std.proofs.lemmas.Fn.{filter_same}
use Rattle.kp_core.proofs.requests.drop_there.Goals as goal

pub returns : goal.returns
returns c = filter_same _ _ _ (λ r b f k. search rules) _ _ c.retain.ensures.filtered
