use Rattle.std.proofs.Common.{◌≡◌, ◌∙◌, List, [], length, sym, ap, subst, rules, arith}
use Rattle.std.specs.Prelude.{vec_len}
use Rattle.std.proofs.lemmas.Bool.Decides.{nat_tests}
use Rattle.kp_core.specs.Keeping.{seen_of}
use Rattle.kp_rules.specs.Attempts.{has_window}
use Rattle.kp_rules.specs.Framing.{FitsPacket}
use Rattle.kp_rules.specs.Next.{Sending, next_asking, next_batches}
use Rattle.kp_rules.specs.Requesting.{is_spent}
use Rattle.kp_parts.specs.Written.{produce_packet}
use Rattle.kp_core.proofs.RequestStepLemmas.{some_batches}
use Rattle.kp_core.proofs.SentLemmas.{batches_fit}
use Rattle.kp_core.proofs.machine.Core.next_frame.Goals as goal

pub produce_frame-requires : goal.produce_frame-requires
produce_frame-requires c =
    let s = seen_of c.self.inside in
    let all : c.in_ok-sendings.sendings.items ≡ next_batches c.args.node c.args.now s = c.in_ok-sendings.ensures.all ∙ ap (next_batches c.args.node c.args.now) (sym c.self.view_is) in
    let some : next_batches c.args.node c.args.now s ≡ [] → ⊥ =
    λ e.
    let none : length c.in_ok-sendings.sendings.items ≡ 0 = ap (λ (xs : List Sending). length xs) (all ∙ e) in
    let len : vec_len c.in_ok-sendings.sendings ≡ length c.in_ok-sendings.sendings.items = search rules in
    grind (arith, nat_tests) in
    let demand = some_batches c.args.node c.args.now s (ap (has_window c.args.node) c.self.view_is ∙ c.requires.window) (ap (next_asking c.args.node c.args.now) c.self.view_is ∙ c.requires.asking) some in
    subst (λ (xs : List Sending). FitsPacket s.config s.names (produce_packet s.correlation xs)) (sym (c.deref.ensures.value ∙ all))
    (batches_fit c.args.node c.args.now s c.self.invariant.order (ap is_spent c.self.view_is ∙ c.requires.left) demand)
