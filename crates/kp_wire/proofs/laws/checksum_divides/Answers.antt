use Rattle.kp_wire.proofs.ChecksumLemmas as lemmas
use Rattle.kp_wire.proofs.laws.checksum_divides.Goals as goal

pub returns : goal.returns
returns c = lemmas.checksum_divides
