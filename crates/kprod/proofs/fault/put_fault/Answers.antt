use Rattle.kprod.proofs.fault.put_fault.Goals as goal

pub returns-in-CannotRead : goal.returns-in-CannotRead
returns-in-CannotRead g c = rw c.in-CannotRead.is c.put_cannot_read.ensures

pub returns-in-Config : goal.returns-in-Config
returns-in-Config g c = rw c.in-Config.is c.put_numbered.ensures

pub returns-in-Handshake : goal.returns-in-Handshake
returns-in-Handshake g c = rw c.in-Handshake.is c.put_numbered-in-Handshake.ensures

pub returns-in-Elsewhere : goal.returns-in-Elsewhere
returns-in-Elsewhere g c = rw c.in-Elsewhere.is c.write_all-in-Elsewhere.ensures.bytes
