use Rattle.std.proofs.Common.{◌≡◌, ◌∙◌, ◌∷◌, [], ◌<◌, length, map, sym, refl, arith}
use Rattle.std.proofs.lemmas.List.{length-map, nil_from_length}
use Rattle.kp_batch.proofs.ListedLemmas.{first_timestamp, base_timestamp-append}
use Rattle.kp_batch.proofs.size.base_with.Goals as goal

pub returns-in-empty : goal.returns-in-empty
returns-in-empty g c =
    let records = map g.T.AsRecord.body c.args.records.now in
    let none : records ≡ [] = nil_from_length records (omega (arith, length-map c.args.records.now g.T.AsRecord.body, c.in-empty.len_below)) in
    rw none refl

pub returns-in-len1-up : goal.returns-in-len1-up
returns-in-len1-up g c =
    let records = map g.T.AsRecord.body c.args.records.now in
    let some : 0 < length records = omega (arith, length-map c.args.records.now g.T.AsRecord.body, c.in-len1-up.len_at_least) in
    first_timestamp g.T.AsRecord.body c.args.records.now c.first-item.result c.as_record.result.now c.in-len1-up.len_at_least c.first-item.is c.as_record.ensures
    ∙ sym (base_timestamp-append records (c.args.body.now ∷ []) some)
