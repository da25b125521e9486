use Rattle.std.proofs.Common.{rules, tests}
use Rattle.std.proofs.lemmas.Iterator.{YieldsList-from_slice}
use Rattle.std.proofs.lemmas.Iterator.Search.{find_from_yields_List}
use Rattle.kp_engine.specs.Lines.{is_given_up}
use Rattle.kp_engine.proofs.lines.given_up.Goals as goal

pub returns : goal.returns
returns g c = find_from_yields_List (is_given_up c.args.node) _ _ _ c.find.ensures.ran (YieldsList-from_slice c.args.lines.now c.iter.ensures.rest) (λ x b q k. search (rules, tests))
