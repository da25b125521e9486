use Rattle.std.proofs.Common.{ℕ, List, ◌++◌, codes, ap, sym, ◌∙◌}
use Rattle.kp_command_line.proofs.BrokerWordsLemmas.{names_none}
use Rattle.kp_command_line.proofs.broker_words.address_of.Goals as goal

pub returns-in_err-port_of-in-Some : goal.returns-in_err-port_of-in-Some
returns-in_err-port_of-in-Some c =
    let (n, found, rest, lengths) = c.in-Some.ensures.cases in
    let begun = found.1 ∙ ap (λ (tail : List ℕ). codes "localhost:" ++ tail) (sym rest) in
    rw c.from_residual.ensures (λ address. names_none c.args.word.now c.in-Some.port.now address begun c.in_err-port_of-in-Some.ensures)
