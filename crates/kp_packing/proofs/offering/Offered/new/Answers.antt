use Rattle.std.proofs.lemmas.List.{map-id}
use Rattle.kp_packing.proofs.OfferedLemmas.{stored_once}
use Rattle.kp_packing.proofs.offering.Offered.new.Goals as goal

pub returns : goal.returns
returns c =
    let batch = rw (map-id c.args.records.now) at c.in_ok-batch.ensures in
    let once = rw (c.as_slice.ensures.value, c.new-log.ensures) at c.in_ok-first.ensures.exact in
    let twice = rw c.as_slice-2.ensures.value at c.in_ok-repeat.ensures.exact in
    stored_once 1000 c.args.records.now c.in_ok-batch.batch.items c.in_ok-first.first c.in_ok-repeat.repeat c.offer.new.self c.offer-2.new.self
    c.requires.fits batch once twice
