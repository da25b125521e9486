use Rattle.std.proofs.Common.{◌∙◌, ◌-◌, ℕ, ap, arith}
use Rattle.kp_wire.proofs.ChecksumLemmas.{crc_is, are_bytes}
use Rattle.kp_wire.proofs.checksum.crc32c.Goals as goal

pub returns : goal.returns
returns c =
    ap (λ (s : ℕ). 4294967295 - s) c.shift_all.ensures
    ∙ crc_is c.args.bytes.now (are_bytes c.args.bytes.now (λ i. omega (arith, c.type_inv.bytes i)))
