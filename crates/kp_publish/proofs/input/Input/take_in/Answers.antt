use Rattle.std.proofs.Common.{inr, refl}
use Rattle.kp_publish.proofs.DrawingLemmas.{by_comes, by_finishes}
use Rattle.kp_publish.proofs.input.Input.take_in.Goals as goal

pub returns-in-Some-Bytes-clause-draws : goal.returns-in-Some-Bytes-clause-draws
returns-in-Some-Bytes-clause-draws c = rw c.in-Some-Bytes.is (rw c.in-Some-Bytes.field-0-is (by_comes c.args.self.now _ c.args.sender.now c.in-Some-Bytes.bytes.items c.requires.taken refl))

pub returns-in-Some-End-clause-draws : goal.returns-in-Some-End-clause-draws
returns-in-Some-End-clause-draws c =
    rw (c.in-Some-End.is, c.in-Some-End.field-0-is)
    (by_finishes c.args.self.now _ c.args.sender.now c.finish.new.self c.requires.taken refl c.finish.ensures)

pub returns-in-Some-Failed-clause-draws : goal.returns-in-Some-Failed-clause-draws
returns-in-Some-Failed-clause-draws c =
    rw (c.in-Some-Failed.is, c.in-Some-Failed.field-0-is)
    (by_finishes c.args.self.now _ c.args.sender.now c.finish-in-Some-Failed.new.self c.requires.taken refl c.finish-in-Some-Failed.ensures)

pub returns-in-Some-End-clause-ends : goal.returns-in-Some-End-clause-ends
returns-in-Some-End-clause-ends c = rw (c.in-Some-End.is, c.in-Some-End.field-0-is) (inr tt)

pub returns-in-Some-Failed-clause-ends : goal.returns-in-Some-Failed-clause-ends
returns-in-Some-Failed-clause-ends c = rw (c.in-Some-Failed.is, c.in-Some-Failed.field-0-is) (inr tt)
