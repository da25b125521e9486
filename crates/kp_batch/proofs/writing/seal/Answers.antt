use Rattle.std.proofs.Common.{◌≡◌, ◌∙◌, ◌+◌, ◌-◌, ◌++◌, length, take, drop, ap, ℕ, List, pos, arith}
use Rattle.std.specs.Int.{w32}
use Rattle.kp_wire.specs.Codec.{int}
use Rattle.kp_wire.specs.Checksum.{crc}
use Rattle.kp_batch.specs.declared.summary.Front.{Front}
use Rattle.kp_batch.specs.Spelling.{front}
use Rattle.kp_batch.proofs.WritingLemmas.{length_put, checksum_put, behind_front}
use Rattle.kp_batch.proofs.BatchLemmas.{length-before}
use Rattle.kp_batch.proofs.writing.seal.Goals as goal

-- the bytes once the length stands in them
sized : (f : Front) (rest old new : List ℕ) → old ≡ front.spell f ++ rest → new ≡ take 8 old ++ (int w32).spell (pos (length old - 12)) ++ drop 12 old → new ≡ front.spell (record f { batch_length = pos (9 + length rest) }) ++ rest
sized f rest old new is put =
    let count : length old - 12 ≡ 9 + length rest = omega (arith, ap length is, length-before f rest) in
    put ∙ length_put f (pos (length old - 12)) rest old is ∙ ap (λ (n : ℕ). front.spell (record f { batch_length = pos n }) ++ rest) count

pub returns-clause-sealed : goal.returns-clause-sealed
returns-clause-sealed c = λ f rest is.
    let now = sized f rest c.args.bytes.now _ is c.put_length.ensures in
    let g : Front = record f { batch_length = pos (9 + length rest) } in
    let behind = ap (drop 21) now ∙ behind_front g rest in
    c.put_checksum.ensures.put ∙ checksum_put g _ rest _ now ∙ ap (λ (x : List ℕ). front.spell (record g { checksum = crc x }) ++ rest) behind

pub returns-clause-fits : goal.returns-clause-fits
returns-clause-fits c = λ f rest is.
    let now = sized f rest c.args.bytes.now _ is c.put_length.ensures in
    let g : Front = record f { batch_length = pos (9 + length rest) } in
    let behind = ap crc (ap (drop 21) now ∙ behind_front g rest) in
    omega (arith, c.put_checksum.ensures.fits, behind)
