use Rattle.std.proofs.Common.{◌≡◌, ◌∙◌, sym, ap, true, false, rules}
use Rattle.std.specs.Prelude.{is_some}
use Rattle.kp_parts.proofs.HandingLemmas.{send_in-again, send_in-new, is_some-copied}
use Rattle.kp_parts.proofs.partition.Partition.send_in.Goals as goal

pub returns-then-is_some : goal.returns-then-is_some
returns-then-is_some c =
    let some : is_some c.lowest_waiting.result ≡ true = search rules in
    let waits = ap is_some (sym c.lowest_waiting.ensures) ∙ is_some-copied c.lowest_waiting.result ∙ some in
    c.send_again.ensures ∙ sym (send_in-again c.args.correlation c.args.self.now waits)

pub returns-else-is_some : goal.returns-else-is_some
returns-else-is_some c =
    let none : is_some c.lowest_waiting.result ≡ false = search rules in
    let waits = ap is_some (sym c.lowest_waiting.ensures) ∙ is_some-copied c.lowest_waiting.result ∙ none in
    c.hand_over.ensures ∙ sym (send_in-new c.args.correlation c.args.self.now waits)
