use Rattle.std.proofs.Common.{◌≡◌, ◌∙◌, ◌≤◌, ◌+◌, ◌∷◌, ◌++◌, [], length, map, sym, ap, pos, ℕ, arith}
use Rattle.kp_batch.specs.declared.relative.RelativeRecord.{RelativeRecord}
use Rattle.kp_batch.specs.Record.{relative_record}
use Rattle.kp_batch.specs.Spelling.{relative, measured, base_timestamp}
use Rattle.kp_batch.proofs.RelativeLemmas.{relative_as}
use Rattle.kp_batch.proofs.SizeLemmas.{measured_small, size_of_batch-is, many_records, size_of_batch-last}
use Rattle.std.proofs.lemmas.List.{length-map}
use Rattle.kp_batch.proofs.size.size_with.Goals as goal

pub overflow_cast-offset_delta : goal.overflow_cast-offset_delta
overflow_cast-offset_delta g c =
    let records = map g.T.AsRecord.body c.args.records.now in
    omega (arith, c.requires.is_theirs, c.requires.fits, size_of_batch-is records, many_records (base_timestamp records) 0 records, length-map c.args.records.now g.T.AsRecord.body)

pub returns : goal.returns
returns g c =
    let records = map g.T.AsRecord.body c.args.records.now in
    let r = c.args.body.now in
    let base = base_timestamp (records ++ r ∷ []) in
    let many = length-map c.args.records.now g.T.AsRecord.body in
    let few : 61 + length records ≤ c.args.size = omega (arith, c.requires.is_theirs, size_of_batch-is records, many_records (base_timestamp records) 0 records) in
    let same = relative_as _ _ base (length c.args.records.now) r c.millis.ensures.value c.millis.ensures.fits (c.millis-2.ensures.value ∙ ap pos c.base_with.ensures) (omega (arith, c.millis-2.ensures.fits, c.base_with.ensures)) (omega (arith, many, few, c.requires.fits)) in
    let one : c.record_size.result ≡ measured (length (relative_record.spell (relative base (length records) r))) =
    c.record_size.ensures ∙ ap (λ (x : RelativeRecord). measured (length (relative_record.spell x))) same ∙ ap (λ (n : ℕ). measured (length (relative_record.spell (relative base n r)))) (sym many) in
    let theirs : c.args.size ≡ measured c.args.size = sym (measured_small c.args.size c.requires.fits) in
    c.add_sizes.ensures c.args.size (length (relative_record.spell (relative base (length records) r))) theirs one
    ∙ ap measured (omega (arith, c.requires.is_theirs, size_of_batch-last records r))
