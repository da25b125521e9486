use Rattle.std.proofs.Common.{◌≡◌, ◌∙◌, ◌<◌, ◌≤◌, length, ap, rules, arith}
use Rattle.std.specs.Prelude.{nat_le}
use Rattle.std.proofs.lemmas.List.{length-map}
use Rattle.kp_accum.specs.Queue.{charge_of}
use Rattle.kp_batch.proofs.SizeLemmas.{measured_small, small_measured}
use Rattle.kp_core.specs.Keeping.{seen_of}
use Rattle.kp_rules.specs.Appending.{may_append}
use Rattle.kp_parts.specs.Desk.{reports_of}
use Rattle.kp_core.proofs.AppendLemmas.{by_size, no_partition, no_sender}
use Rattle.kp_core.proofs.machine.Core.may_append_charged.Goals as goal

pub returns-then-item-senders : goal.returns-then-item-senders
returns-then-item-senders c =
    let lines = length-map c.self.inside.desk.lines reports_of in
    no_sender c.args.item.now (seen_of c.self.inside) (omega (arith, lines, c.senders.ensures)) ∙ ap (may_append c.args.item.now) c.self.view_is

pub returns-then-item-len : goal.returns-then-item-len
returns-then-item-len c =
    let lines = length-map c.self.inside.desk.lines reports_of in
    let past : length c.self.inside.partitions ≤ c.args.item.now.partition = search rules in
    no_partition c.args.item.now (seen_of c.self.inside) (omega (arith, lines, c.senders.ensures)) past ∙ ap (may_append c.args.item.now) c.self.view_is

pub returns : goal.returns
returns c =
    let lines = length-map c.self.inside.desk.lines reports_of in
    let there : c.args.item.now.partition < length c.self.inside.partitions = search rules in
    let exact : charge_of c.args.item.now ≤ 2147483647 → c.args.charge ≡ charge_of c.args.item.now = λ small. c.requires ∙ measured_small (charge_of c.args.item.now) small in
    ap (nat_le c.args.charge) c.min.ensures
    ∙ by_size c.args.item.now (seen_of c.self.inside) c.args.charge c.self.invariant.order.config (omega (arith, lines, c.senders.ensures)) there
    exact (λ small. small_measured c.args.charge (charge_of c.args.item.now) c.requires small)
    ∙ ap (may_append c.args.item.now) c.self.view_is
