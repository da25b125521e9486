use Rattle.std.proofs.Common.{◌≡◌, true, false, refl}
use Rattle.kp_drive.specs.Doing.{DoesAll}
use Rattle.kp_drive.proofs.doing.do_all.Goals as goal

pub loop-init : goal.loop-init
loop-init g c = record { does = DoesAll.none; first = λ still. refl; few = c.requires }

true_not : true ≡ false → ⊥
true_not e = cc

pub loop-preserved : goal.loop-preserved
loop-preserved g c = record {
  does = DoesAll.one_more c.in-Some.action c.loop.host.embed c.next_action.new.self c.obey.new.host.embed c.loop.links.items c.obey.new.links.items c.loop.invariant.does
      (record { told = c.in-Some.ensures.told; same = c.in-Some.ensures.same }) c.obey.ensures.does;
  first = λ told. absurd (true_not told);
  few = c.obey.ensures.few;
}
