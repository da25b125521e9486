use Rattle.std.proofs.Common.{subst, sym, ◌∙◌}
use Rattle.kp_connection.specs.Handshake.{Talking}
use Rattle.kp_connection.specs.Talking.{IsSound}
use Rattle.kp_connection.proofs.TalkLemmas.{fresh, some_is}
use Rattle.kp_connection.proofs.handshake.Handshake.new.Goals as goal

pub invariant_of-result : goal.invariant_of-result
invariant_of-result g c = λ x e. subst (λ (t : Talking g.row.S.Denot). IsSound t) (sym c.new.ensures ∙ some_is _ x e) (fresh c.args.names c.args.stream)
