use Rattle.std.proofs.Common.{◌≡◌, ◌∙◌, ◌∷◌, [], sym, ap, pos, ℤ, length, arith}
use Rattle.std.specs.Prelude.{◌-ℤ◌}
use Rattle.std.proofs.lemmas.Int.{ints}
use Rattle.kp_batch.specs.Record.{relative_record}
use Rattle.kp_batch.specs.Spelling.{measured, relative_by}
use Rattle.kp_batch.proofs.SizeLemmas.{measured_small, size_of_batch-is, bytes_from-cons}
use Rattle.kp_batch.proofs.size.charge.Goals as goal

pub returns : goal.returns
returns c =
    let r = c.args.body.now in
    let none : pos 0 ≡ pos r.timestamp -ℤ pos r.timestamp = omega (arith, ints) in
    let one = c.record_size.ensures ∙ ap (λ (d : ℤ). measured (length (relative_record.spell (relative_by d (pos 0) r)))) none in
    c.add_sizes.ensures 61 _ (sym (measured_small 61 (omega arith))) one
    ∙ ap measured (omega (arith, size_of_batch-is (r ∷ []), bytes_from-cons r.timestamp 0 r []))
