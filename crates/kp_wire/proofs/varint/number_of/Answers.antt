use Rattle.std.proofs.Common.{◌+◌, ◌*◌, arith}
use Rattle.kp_wire.proofs.VarintLemmas.{read_one, read_two, room_of_two}
use Rattle.kp_wire.proofs.varint.number_of.Goals as goal

pub returns-in-len1-up-clause-exact : goal.returns-in-len1-up-clause-exact
returns-in-len1-up-clause-exact c = read_one c.args.more c.args.top c.from.result c.args.bytes.now c.requires.some c.in-len1-up.len_at_least c.from.ensures (omega arith)

pub returns-in-len1-up-clause-small : goal.returns-in-len1-up-clause-small
returns-in-len1-up-clause-small c = omega (arith, room_of_two c.args.more c.args.top c.requires.some)

pub returns-in-len2-up-clause-exact : goal.returns-in-len2-up-clause-exact
returns-in-len2-up-clause-exact c =
    read_two c.args.more c.args.top (c.from-in-len2-up.result + 128 * c.from-in-len2-up-2.result) c.args.bytes.now c.requires.some c.in-len2-up.len_at_least
    (omega (arith, c.from-in-len2-up.ensures, c.from-in-len2-up-2.ensures)) (omega arith) (omega arith) (omega arith)

pub returns-in-len2-up-clause-small : goal.returns-in-len2-up-clause-small
returns-in-len2-up-clause-small c = omega (arith, room_of_two c.args.more c.args.top c.requires.some)
