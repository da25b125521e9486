use Rattle.std.proofs.Common.{◌≡◌, ◌+◌, ◌<◌, ◌++◌, ◌∷◌, [], length, length-append, length-set, refl, sym, subst, ap, ◌∙◌, arith}
use Rattle.kp_accum.specs.declared.item.Item.{Item}
use Rattle.kp_lanes.specs.Entries.{items_of}
use Rattle.kp_lanes.specs.Lane.{pushed}
use Rattle.kp_lanes.specs.Limits.{AreInPlace}
use Rattle.kp_lanes.proofs.EntryLemmas.{items_sent, counted_item, number_of_next, one_more_in_place}
use Rattle.kp_lanes.proofs.sender.outbox.Outbox.offer.Goals as goal

pub overflow_add-number : goal.overflow_add-number
overflow_add-number c =
    let old = c.args.self.now in let fits = c.in_default.ensures.none in let most = fits.numbered in
    let near : c.partition_for-partition.result < length old.next.items = let wide = old.wide.1 in let there = fits.there in omega arith in
    let number = number_of_next old.next.items (pushed old.lane) c.partition_for-partition.result c.index-number.result.now old.numbered near c.index-number.ensures in
    let few = number.1 in omega arith

pub invariant_of-self : goal.invariant_of-self
invariant_of-self c =
    let old = c.args.self.now in let fits = c.in_default.ensures.none in let p = c.partition_for-partition.result in let n = c.index-number.result.now in
    let near : p < length old.next.items = let wide = old.wide.1 in let there = fits.there in omega arith in
    let number = number_of_next old.next.items (pushed old.lane) p n old.numbered near c.index-number.ensures in
    let x : Item = record { sender = old.sender; partition = p; number = n; at = c.args.at; body = c.args.body } in
    let all : items_of (pushed c.push.new.self) ≡ items_of (pushed old.lane) ++ x ∷ [] = ap items_of c.in-Ok.ensures.ok ∙ items_sent (pushed old.lane) x in
    let count = old.counted in let more = ap length all in let longer = length-append (items_of (pushed old.lane)) (x ∷ []) in record {
      wide = (old.wide.0, length-set old.next.items p (n + 1) ∙ old.wide.1);
      in_turn = c.turn_behind-turn.ensures.below;
      numbered = counted_item old.next.items (pushed old.lane) (pushed c.push.new.self) x n old.numbered c.in-Ok.ensures.ok near number.0;
      counted = omega arith;
      in_place = subst (AreInPlace old.limits old.sender) (sym all)
          (one_more_in_place old.limits old.sender (items_of (pushed old.lane)) x old.in_place (record { its_sender = refl; its_partition = fits.there; its_charge = fits.fits }) number.0);
    }

pub returns-in-Ok-clause-accepted : goal.returns-in-Ok-clause-accepted
returns-in-Ok-clause-accepted c =
    let x : Item = record { sender = c.args.self.now.sender; partition = c.partition_for-partition.result; number = c.index-number.result.now; at = c.args.at; body = c.args.body } in
    ap items_of c.in-Ok.ensures.ok ∙ items_sent (pushed c.args.self.now.lane) x
