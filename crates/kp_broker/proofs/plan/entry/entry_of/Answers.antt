use Rattle.std.proofs.Common.{sym, ◌∙◌, arith}
use Rattle.std.proofs.lemmas.Fmt.{decimal_injective}
use Rattle.kp_broker.specs.Plan.{number_of, action_of}
use Rattle.kp_broker.proofs.EntryLemmas.{entry-cut}
use Rattle.kp_broker.proofs.plan.entry.entry_of.Goals as goal

pub returns-in_err-number : goal.returns-in_err-number
returns-in_err-number c =
    rw c.from_residual.ensures (λ e a is.
    rw c.in_err-number.was at (entry-cut c.args.text.now c.split_once.result c.split_once.ensures.cases e a is))

pub returns-in_err-number-2 : goal.returns-in_err-number-2
returns-in_err-number-2 c =
    rw c.from_residual-in_err-number-2.ensures (λ e a is.
    let cut = rw c.in_ok-number.was at (entry-cut c.args.text.now c.split_once.result c.split_once.ensures.cases e a is) in
    c.in_err-number-2.ensures (number_of e) (omega (arith, a.number)) cut.0)

pub returns-then-number : goal.returns-then-number
returns-then-number c = λ e a is.
    let cut = rw c.in_ok-number.was at (entry-cut c.args.text.now c.split_once.result c.split_once.ensures.cases e a is) in
    let same = decimal_injective c.in_ok-number-2.number (number_of e) c.in_ok-number-2.ensures.0 (omega (arith, a.number)) (sym c.in_ok-number-2.ensures.1 ∙ cut.0) in
    absurd (omega (arith, a.number))

pub returns-in_err-action_of : goal.returns-in_err-action_of
returns-in_err-action_of c =
    rw c.from_residual-in_err-action_of.ensures (λ e a is.
    let cut = rw c.in_ok-number.was at (entry-cut c.args.text.now c.split_once.result c.split_once.ensures.cases e a is) in
    c.in_err-action_of.ensures (action_of e) a.action cut.1)
