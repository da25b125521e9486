use Rattle.std.proofs.Common.{◌∙◌, sym, ap}
use Rattle.kp_core.specs.ByLeader.{by_leader, work_in}
use Rattle.kp_core.proofs.machine.partitions.Partitions.led_by.Goals as goal

pub led_by-requires : goal.led_by-requires
led_by-requires c = c.deref.ensures.value ∙ c.self.invariant.by_leader.places ∙ ap by_leader (sym c.deref-2.ensures.value)

pub returns : goal.returns
returns c = c.led_by.ensures ∙ ap (work_in c.args.node) (c.deref-2.ensures.value ∙ c.self.view_is)
