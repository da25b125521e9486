use Rattle.std.proofs.Common.{◌∙◌, ap, List}
use Rattle.std.proofs.lemmas.List.{map-id}
use Rattle.kp_batch.specs.declared.record.Record.{Record}
use Rattle.kp_batch.specs.Spelling.{measured, size_of_batch}
use Rattle.kp_packing.proofs.PackedLemmas.{decided-measured}
use Rattle.kp_packing.proofs.packing.size_of.Goals as goal

pub returns : goal.returns
returns c =
    let records = c.args.records.now in
    let size = c.batch_size.ensures.value ∙ ap (λ (rs : List Record). measured (size_of_batch rs)) (map-id records) in
    decided-measured c.within_limit.result c.batch_size.result (size_of_batch records) size c.within_limit.ensures
