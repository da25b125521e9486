use Rattle.kprod_pack.proofs.fault.put_fault.Goals as goal

pub returns-in-CannotRead : goal.returns-in-CannotRead
returns-in-CannotRead g c = rw c.in-CannotRead.is c.put_cannot_read.ensures

pub returns-in-OutOfMemory : goal.returns-in-OutOfMemory
returns-in-OutOfMemory g c = rw c.in-OutOfMemory.is c.write_all.ensures.bytes

pub returns-in-TooLarge : goal.returns-in-TooLarge
returns-in-TooLarge g c = rw c.in-TooLarge.is c.write_all-in-TooLarge.ensures.bytes

pub returns-in-Elsewhere : goal.returns-in-Elsewhere
returns-in-Elsewhere g c = rw c.in-Elsewhere.is c.write_all-in-Elsewhere.ensures.bytes
