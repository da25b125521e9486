use Rattle.std.proofs.Common.{◌∙◌, List, sym, ap, subst}
use Rattle.std.specs.Prelude.{filter}
use Rattle.kp_core.specs.Keeping.{IsKept, seen_of}
use Rattle.kp_rules.specs.Attempts.{is_live}
use Rattle.kp_rules.specs.Leading.{lead_step}
use Rattle.kp_rules.specs.Records.{Core, Partition}
use Rattle.kp_core.proofs.KeepingLemmas.{quiet_kept}
use Rattle.kp_core.proofs.LeavingLemmas.{led_left, led-is}
use Rattle.kp_core.proofs.machine.Core.lead_by.Goals as goal

pub invariant_of-self : goal.invariant_of-self
invariant_of-self c =
    let s = seen_of c.self.inside in
    let is = led-is c.args.partition c.args.leader c.args.now s c.lead_one.new.self c.keep_live.new.requests.items c.lead_one.ensures
    (c.keep_live.ensures ∙ ap (λ (ts : List Partition). filter (is_live ts) s.requests) c.all.ensures) in
    subst (λ (x : Core). IsKept x c.self.inside.desk) (sym is)
    (quiet_kept c.self.invariant (led_left c.args.partition c.args.leader c.args.now s c.self.invariant.order))

pub returns : goal.returns
returns c =
    led-is c.args.partition c.args.leader c.args.now (seen_of c.self.inside) c.lead_one.new.self c.keep_live.new.requests.items c.lead_one.ensures
    (c.keep_live.ensures ∙ ap (λ (ts : List Partition). filter (is_live ts) c.self.inside.requests.items) c.all.ensures)
    ∙ ap (lead_step c.args.partition c.args.leader c.args.now) c.self.view_is
