use Rattle.std.proofs.Common.{pos, ◌∙◌}
use Rattle.std.specs.Ordering.{int_eq}
use Rattle.kp_replay.proofs.TextLemmas.{any_of}
use Rattle.kp_replay.proofs.text.logs.is_under.Goals as goal

pub returns : goal.returns
returns c = c.is_of_any.ensures ∙ any_of (int_eq c.args.stored.now.producer_id) pos c.args.ids.now
