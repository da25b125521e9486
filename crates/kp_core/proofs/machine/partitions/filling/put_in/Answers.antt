use Rattle.std.proofs.Common.{◌≡◌, ◌∙◌, ◌≤◌, ◌++◌, List, [], ◌∷◌, ℕ, Ok, true, false, length, nat_lt, refl, sym, ap, subst, rules, of_calls, arith}
use Rattle.std.specs.Prelude.{Result}
use Rattle.std.specs.List.Sorted.{IsPartitionedBy, IsPartitionPoint}
use Rattle.std.proofs.lemmas.Fn.{always_returns_same}
use Rattle.kp_core.proofs.WalkLemmas.{insert_last, last_passes, parted, point-is, put-is}
use Rattle.kp_core.proofs.machine.partitions.filling.put_in.Goals as goal

pub returns-then-is_none_or-clause-items : goal.returns-then-is_none_or-clause-items
returns-then-is_none_or-clause-items c below above is lows highs =
    let same : c.deref.result.now ≡ below ++ above = c.deref.ensures.value ∙ is in
    let point = last_passes _ (λ p. nat_lt p c.args.place) c.deref.result.now c.last.result _ c.last.ensures.value c.is_none_or.ensures (λ x k. search (rules, of_calls))
    (subst (λ (ps : List ℕ). IsPartitionedBy (λ p. nat_lt p c.args.place) ps) (sym same) (parted c.args.place below above lows highs)) in
    let at : length (below ++ above) ≡ length below = point-is c.args.place below above (length (below ++ above)) lows highs (omega arith)
    (subst (λ (ps : List ℕ). IsPartitionPoint (λ p. nat_lt p c.args.place ≡ true) (λ p. nat_lt p c.args.place ≡ false) ps (length ps)) same point) in
    let done : Result (Unit {0}) ℕ = Ok tt in
    put-is c.args.place below above (below ++ above) c.push_reserved.new.self.items (length (below ++ above)) done refl at refl
    (c.push_reserved.ensures.items ∙ ap (λ (ps : List ℕ). ps ++ c.args.place ∷ []) is ∙ sym (insert_last c.args.place (below ++ above)))

pub returns-clause-items : goal.returns-clause-items
returns-clause-items c below above is lows highs =
    let same : c.deref-2.result.now ≡ below ++ above = c.deref-2.ensures.value ∙ is in
    let bound : c.partition_point-at.result ≤ length (below ++ above) = subst (λ (ps : List ℕ). c.partition_point-at.result ≤ length ps) same c.partition_point-at.ensures.bound in
    let point = c.partition_point-at.ensures.partitioned (λ p. nat_lt p c.args.place) (always_returns_same _ _ _ (λ a r f k. search (rules, of_calls)))
    (subst (λ (ps : List ℕ). IsPartitionedBy (λ p. nat_lt p c.args.place) ps) (sym same) (parted c.args.place below above lows highs)) in
    let at : c.partition_point-at.result ≡ length below = point-is c.args.place below above c.partition_point-at.result lows highs bound
    (subst (λ (ps : List ℕ). IsPartitionPoint (λ p. nat_lt p c.args.place ≡ true) (λ p. nat_lt p c.args.place ≡ false) ps c.partition_point-at.result) same point) in
    put-is c.args.place below above c.args.places.now.items c.insert-inserted.new.self.items c.partition_point-at.result c.insert-inserted.result
    is at (c.insert-inserted.ensures.succeeds c.requires) c.insert-inserted.ensures.items
