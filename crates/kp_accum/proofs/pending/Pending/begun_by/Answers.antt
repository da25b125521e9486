use Rattle.std.proofs.Common.{◌≡◌, ◌∷◌, [], rules}
use Rattle.kp_accum.proofs.QueueLemmas.{measured_one}
use Rattle.kp_accum.proofs.pending.Pending.begun_by.Goals as goal

pub invariant_of-result : goal.invariant_of-result
invariant_of-result c =
    let items : c.push_reserved.new.self.items ≡ c.args.item ∷ [] = search rules in
    rw items (measured_one c.args.item c.args.charge c.requires.is_its c.requires.fits)
