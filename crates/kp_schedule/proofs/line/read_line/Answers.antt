use Rattle.kp_schedule.specs.Grammar.{IsSilent}
use Rattle.kp_schedule.proofs.AsciiLemmas.{said-utf8, reads-line}
use Rattle.kp_schedule.proofs.line.read_line.Goals as goal

pub returns-in_default : goal.returns-in_default
returns-in_default c = λ x says.
    let loud : IsSilent c.args.line.now → ⊥ = λ silent. let yes = c.is_silent.ensures.1 silent in let no = c.if-is_silent.false in cc in
    c.in_default.ensures.cases.0 (said-utf8 c.args.line.now loud x says)

pub returns-in-Some : goal.returns-in-Some
returns-in-Some c =
    let loud : IsSilent c.args.line.now → ⊥ = λ silent. let yes = c.is_silent.ensures.1 silent in let no = c.if-is_silent.false in cc in
    let same = c.in-Ok.ensures.cases.0 in
    reads-line c.args.line.now loud _ (rw same at c.in-Some.ensures) c.saying_of.result c.saying_of.ensures
