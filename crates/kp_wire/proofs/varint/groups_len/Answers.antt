use Rattle.std.proofs.Common.{arith}
use Rattle.kp_wire.proofs.VarintLemmas.{length-groups_more, length-groups_last, length-groups_none}
use Rattle.kp_wire.proofs.varint.groups_len.Goals as goal

pub loop-left-preserved : goal.loop-left-preserved
loop-left-preserved c = record {
  count = omega arith;
  counted = omega (arith, length-groups_more c.loop-left.left c.loop-left.high (omega arith) (omega arith));
}

pub returns-else-high-ge128-clause-value : goal.returns-else-high-ge128-clause-value
returns-else-high-ge128-clause-value c = omega (arith, length-groups_last c.loop-left.left c.loop-left.high (omega arith))

pub returns-after-loop-left-clause-value : goal.returns-after-loop-left-clause-value
returns-after-loop-left-clause-value c = omega (arith, length-groups_none c.loop-left.left c.loop-left.high (omega arith))
