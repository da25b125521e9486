use Rattle.kprod_pack.proofs.OtherLemmas.{sends_nothing}
use Rattle.kprod_pack.proofs.program.pack_with.Goals as goal

pub returns-in-Err-clause-sends_nothing : goal.returns-in-Err-clause-sends_nothing
returns-in-Err-clause-sends_nothing g c = λ rows asks. c.refuse.ensures (c.in-Err.ensures.send rows asks)

pub returns-in-Ok-run-clause-sends_nothing : goal.returns-in-Ok-run-clause-sends_nothing
returns-in-Ok-run-clause-sends_nothing g c = λ rows asks same. sends_nothing c.in-Ok.command c.in-Ok-run.field-0 (c.in-Ok.ensures.send rows asks) c.in-Ok-run.ensures.others
