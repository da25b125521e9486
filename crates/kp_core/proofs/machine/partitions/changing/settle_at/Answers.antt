use Rattle.std.proofs.Common.{◌≡◌, ◌∙◌, ℕ, ◌+◌, true, List, [], ◌∷◌, length, get_or, drop, sym, ap, subst}
use Rattle.std.specs.List.{AllByRecursion}
use Rattle.std.proofs.lemmas.List.{drop_all, get_or_default, length-set}
use Rattle.kp_wire.proofs.ListLemmas.{drop_here}
use Rattle.kp_rules.specs.Partitions.{partition_at}
use Rattle.kp_rules.specs.Records.{Partition}
use Rattle.kp_core.specs.Hearing.{entry_at, offsets_by, settled_by}
use Rattle.kp_core.proofs.ChosenLemmas.{IsToFollow, follow_next, follow_none, others_all}
use Rattle.kp_core.proofs.machine.partitions.changing.settle_at.Goals as goal

pub loop-place-preserved : goal.loop-place-preserved
loop-place-preserved c =
    let k = c.args.correlation in
    let chosen = c.args.chosen.now in
    let found = c.args.found.now in
    let i = c.loop-place.place-index in
    let p = get_or chosen i 0 in
    let rest = drop (i + 1) chosen in
    let ts = c.loop-place.partitions.items in
    let inv = c.loop-place.invariant in
    let here : drop i chosen ≡ p ∷ rest = drop_here chosen i p c.loop-place-test.true (get_or_default chosen i 0 p c.loop-place-test.true) in
    let offsets : AllByRecursion (λ q. offsets_by k (entry_at q found) (partition_at q ts) ≡ true) (p ∷ rest) =
    subst (λ (ps : List ℕ). AllByRecursion (λ q. offsets_by k (entry_at q found) (partition_at q ts) ≡ true) ps) here inv.offsets in
    let follow : IsToFollow (λ q t. settled_by c.args.now k (entry_at q found) t) chosen c.args.partitions.now.items c.args.desk.now (p ∷ rest) ts c.loop-place.desk =
    subst (λ (ps : List ℕ). IsToFollow (λ q t. settled_by c.args.now k (entry_at q found) t) chosen c.args.partitions.now.items c.args.desk.now ps ts c.loop-place.desk) here inv.follow in
    let after = c.settle_one.ensures.after in
    let count : length c.settle_one.new.partitions.items ≡ length ts = ap length after ∙ length-set ts p _ in
    record {
      entries = inv.entries ∙ sym count;
      offsets = subst (λ (us : List Partition). AllByRecursion (λ q. offsets_by k (entry_at q found) (partition_at q us) ≡ true) rest) (sym after)
          (others_all (λ q t. offsets_by k (entry_at q found) t ≡ true) p _ rest ts follow.once.0 offsets.1);
      follow = follow_next c.settle_one.new.partitions.items c.settle_one.new.desk after c.settle_one.ensures.told follow;
    }

pub returns-clause-after : goal.returns-clause-after
returns-clause-after c =
    let chosen = c.args.chosen.now in
    let none : drop c.loop-place.place-index chosen ≡ [] = drop_all c.loop-place.place-index chosen c.loop-place-test.false in
    (follow_none (subst (λ (ps : List ℕ). IsToFollow (λ q t. settled_by c.args.now c.args.correlation (entry_at q c.args.found.now) t) chosen c.args.partitions.now.items c.args.desk.now ps c.loop-place.partitions.items c.loop-place.desk)
    none c.loop-place.invariant.follow)).0

pub returns-clause-told : goal.returns-clause-told
returns-clause-told c =
    let chosen = c.args.chosen.now in
    let none : drop c.loop-place.place-index chosen ≡ [] = drop_all c.loop-place.place-index chosen c.loop-place-test.false in
    (follow_none (subst (λ (ps : List ℕ). IsToFollow (λ q t. settled_by c.args.now c.args.correlation (entry_at q c.args.found.now) t) chosen c.args.partitions.now.items c.args.desk.now ps c.loop-place.partitions.items c.loop-place.desk)
    none c.loop-place.invariant.follow)).1
