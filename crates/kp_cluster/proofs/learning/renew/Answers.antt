use Rattle.std.proofs.Common.{◌≡◌, ◌∙◌, sym, ap, Bool, false, List, ℕ}
use Rattle.std.specs.Prelude.{if◌then◌else◌}
use Rattle.kp_cluster.specs.Slots.{given_up}
use Rattle.kp_cluster.specs.Learning.{has_address}
use Rattle.kp_cluster.proofs.learning.renew.Goals as goal

pub returns : goal.returns
returns c =
    let slot = c.args.slot.now in
    let node = c.args.node.now in
    let other : has_address node slot ≡ false = sym c.has_address.ensures ∙ c.if-has_address.false in
    c.give_up.ensures
    ∙ ap (λ (h : List ℕ). given_up (record slot { host = h; port = node.port })) (c.in_ok-slot.ensures ∙ c.as_str.ensures.value)
    ∙ sym (ap (λ (b : Bool). if b then slot else given_up (record slot { host = node.host; port = node.port })) other)
