use Rattle.std.proofs.Common.{length, sym, ap, ◌∙◌, subst}
use Rattle.kp_lanes.specs.Lane.{pushed}
use Rattle.kp_lanes.specs.Limits.{AreInPlace}
use Rattle.kp_lanes.proofs.EntryLemmas.{marked, counted_same}
use Rattle.kp_lanes.proofs.sender.outbox.Outbox.mark.Goals as goal

pub invariant_of-self : goal.invariant_of-self
invariant_of-self c =
    let old = c.args.self.now in let same = marked _ c.push.result (pushed old.lane) (pushed c.push.new.self) c.push.ensures.ok c.push.ensures.full in record {
      wide = old.wide;
      in_turn = old.in_turn;
      numbered = counted_same old.next.items (pushed old.lane) (pushed c.push.new.self) old.numbered same;
      counted = old.counted ∙ ap length (sym same);
      in_place = subst (AreInPlace old.limits old.sender) (sym same) old.in_place;
    }

pub returns-clause-items : goal.returns-clause-items
returns-clause-items c = let old = c.args.self.now in marked _ c.push.result (pushed old.lane) (pushed c.push.new.self) c.push.ensures.ok c.push.ensures.full
