use Rattle.std.proofs.Common.{◌≡◌, ◌∙◌, sym, ap, true, length, rules, arith}
use Rattle.std.specs.Prelude.{nat_lt, nat_le, ◌&&◌}
use Rattle.std.proofs.lemmas.Bool.Decides.{nat_tests}
use Rattle.kp_accum.specs.Accum.{Accum}
use Rattle.kp_accum.specs.Queue.{charge_of}
use Rattle.kp_accum.proofs.QueueLemmas.{allowed}
use Rattle.kp_accum.proofs.AccumLemmas.{within-is}
use Rattle.kp_accum.proofs.accum.Accum.may_append.Goals as goal

pub returns-then-item-len-clause-request : goal.returns-then-item-len-clause-request
returns-then-item-len-clause-request c =
    let within = within-is (charge_of c.args.item.now) c.charge.result c.self.inside.config.max_request_size c.charge.ensures.value (allowed c.self.inside.config c.self.invariant.allowed).request in
    let config : c.self.inside.config.max_request_size ≡ c.args.self.now.config.max_request_size = ap (λ (x : Accum). x.config.max_request_size) c.self.view_is in
    λ t. grind (arith, nat_tests)

pub returns-then-item-len-clause-exact : goal.returns-then-item-len-clause-exact
returns-then-item-len-clause-exact c =
    let item = c.args.item.now in
    let within = within-is (charge_of item) c.charge.result c.self.inside.config.max_request_size c.charge.ensures.value (allowed c.self.inside.config c.self.invariant.allowed).request in
    let config : c.self.inside.config.max_request_size ≡ c.args.self.now.config.max_request_size = ap (λ (x : Accum). x.config.max_request_size) c.self.view_is in
    let len : c.len.result ≡ length c.args.self.now.queues = search rules in
    let here : nat_lt item.partition (length c.args.self.now.queues) ≡ true = grind (arith, nat_tests) in
    within ∙ ap (nat_le (charge_of item)) config ∙ sym (ap (λ z. z && nat_le (charge_of item) c.args.self.now.config.max_request_size) here)
