use Rattle.std.proofs.Common.{◌∙◌, List, Some, sym, ap, subst}
use Rattle.std.specs.Prelude.{if◌then◌else◌, ◌&&◌}
use Rattle.std.specs.List.{list_any}
use Rattle.kp_core.specs.Keeping.{IsKept, seen_of}
use Rattle.kp_rules.specs.Attempts.{asks_for_id, goes_to}
use Rattle.kp_rules.specs.Dropping.{drop_requests}
use Rattle.kp_rules.specs.Records.{Core, Request}
use Rattle.kp_core.proofs.KeepingLemmas.{quiet_kept}
use Rattle.kp_core.proofs.LeavingLemmas.{dropped_left, dropped-is}
use Rattle.kp_core.proofs.machine.Core.drop_requests.Goals as goal

pub invariant_of-self : goal.invariant_of-self
invariant_of-self c =
    let s = seen_of c.self.inside in
    let is = dropped-is c.args.node c.args.now s c.drop_each.new.self c.drop_there.new.requests.items c.waits_after-self-inside.result
    c.drop_each.ensures c.drop_there.ensures (c.waits_after-self-inside.ensures ∙ ap (λ (r : List Request). if list_any (λ x. goes_to c.args.node x && asks_for_id x) r then Some c.args.now else c.self.inside.id_waits) c.deref.ensures.value) in
    subst (λ (x : Core). IsKept x c.self.inside.desk) (sym is)
    (quiet_kept c.self.invariant (dropped_left c.args.node c.args.now s c.self.invariant.order))

pub returns : goal.returns
returns c =
    dropped-is c.args.node c.args.now (seen_of c.self.inside) c.drop_each.new.self c.drop_there.new.requests.items c.waits_after-self-inside.result
    c.drop_each.ensures c.drop_there.ensures (c.waits_after-self-inside.ensures ∙ ap (λ (r : List Request). if list_any (λ x. goes_to c.args.node x && asks_for_id x) r then Some c.args.now else c.self.inside.id_waits) c.deref.ensures.value)
    ∙ ap (drop_requests c.args.node c.args.now) c.self.view_is
