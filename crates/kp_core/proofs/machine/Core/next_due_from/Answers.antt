use Rattle.std.proofs.Common.{◌∙◌, ℕ, ◌+◌, List, Option, map, sym, ap}
use Rattle.kp_core.specs.Keeping.{seen_of}
use Rattle.kp_rules.specs.Due.{earliest, id_moments, next_due_from}
use Rattle.kp_rules.specs.Records.{Core, Request}
use Rattle.kp_parts.specs.PartitionRooms.{sooner}
use Rattle.kp_core.proofs.DueLemmas.{due-is}
use Rattle.kp_core.proofs.machine.Core.next_due_from.Goals as goal

pub returns : goal.returns
returns c =
    let from = c.args.from in
    let s = seen_of c.self.inside in
    let timeout = c.earliest_timeout-timeout.ensures ∙ ap (λ (rs : List Request). earliest from (map (λ r. r.sent + s.config.request_timeout_ms) rs)) c.deref.ensures.value in
    c.sooner-2.ensures ∙ ap (λ (x : Option ℕ). sooner x c.id_moment.result) c.sooner.ensures
    ∙ due-is from s c.earliest_timeout-timeout.result c.earliest_moment-partitions.result c.id_moment.result timeout c.earliest_moment-partitions.ensures
    (c.id_moment.ensures ∙ ap (λ (x : Core). earliest from (id_moments x)) (sym c.self.view_is))
    ∙ ap (next_due_from from) c.self.view_is
