use Rattle.kprod_replay.proofs.fault.put_fault.Goals as goal

pub returns-in-CannotRead : goal.returns-in-CannotRead
returns-in-CannotRead g c = rw c.in-CannotRead.is c.put_cannot_read.ensures

pub returns-in-OutOfMemory : goal.returns-in-OutOfMemory
returns-in-OutOfMemory g c = rw c.in-OutOfMemory.is c.write_all.ensures.bytes

pub returns-in-Config : goal.returns-in-Config
returns-in-Config g c = rw c.in-Config.is c.put_numbered.ensures

pub returns-in-BadLine : goal.returns-in-BadLine
returns-in-BadLine g c = rw c.in-BadLine.is c.put_line_fault.ensures

pub returns-in-NoSuch : goal.returns-in-NoSuch
returns-in-NoSuch g c = rw c.in-NoSuch.is c.put_line_fault-in-NoSuch.ensures

pub returns-in-TooLong : goal.returns-in-TooLong
returns-in-TooLong g c = rw c.in-TooLong.is c.write_all-in-TooLong.ensures.bytes

pub returns-in-Elsewhere : goal.returns-in-Elsewhere
returns-in-Elsewhere g c = rw c.in-Elsewhere.is c.write_all-in-Elsewhere.ensures.bytes
