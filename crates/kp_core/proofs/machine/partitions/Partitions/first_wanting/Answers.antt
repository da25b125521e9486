use Rattle.std.proofs.Common.{◌∙◌, ◌<◌, length, sym, ap}
use Rattle.kp_rules.specs.MaySend.{wants_id}
use Rattle.kp_rules.specs.Partitions.{partition_at}
use Rattle.kp_core.proofs.WalkLemmas.{all_here, find_here, find_none}
use Rattle.kp_core.proofs.machine.partitions.Partitions.first_wanting.Goals as goal

pub at-requires : goal.at-requires
at-requires c = all_here (λ p. p < length c.args.self.now) c.args.places.now c.loop-place.place-index 0 c.loop-place-test.true c.requires

pub returns-then-wants_id : goal.returns-then-wants_id
returns-then-wants_id c =
    let ts = c.args.self.now in
    sym (find_here (λ p. wants_id c.args.config.now (partition_at p ts)) c.args.places.now c.loop-place.place-index c.loop-place-test.true
    (ap (wants_id c.args.config.now) (sym c.at.ensures) ∙ sym c.wants_id.ensures ∙ c.if-wants_id.true) c.loop-place.invariant)

pub returns : goal.returns
returns c =
    let ts = c.args.self.now in
    sym (find_none (λ p. wants_id c.args.config.now (partition_at p ts)) c.args.places.now c.loop-place.place-index c.loop-place-test.false c.loop-place.invariant)
