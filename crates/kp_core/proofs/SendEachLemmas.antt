-- What some partitions may send goes out, one after the other.
use Rattle.std.proofs.Common.{◌≡◌, ◌∙◌, ℕ, ◌<◌, List, [], ◌∷◌, length, set, sym, subst}
use Rattle.std.specs.List.{AllByRecursion}
use Rattle.kp_rules.specs.HandingOver.{send_in}
use Rattle.kp_rules.specs.InOrder.{AreDistinct}
use Rattle.kp_rules.specs.Partitions.{changed_at, partition_at}
use Rattle.kp_rules.specs.Records.{Partition}
use Rattle.kp_rules.proofs.PartitionLemmas.{changed_first, changed_none}
use Rattle.kp_core.specs.Choosing.{MayGoOut}
use Rattle.kp_core.proofs.ChosenLemmas.{others_all, there_still}

-- it is still to go out of these
pub record IsToSend (k : ℕ) (chosen : List ℕ) (before : List Partition) (ps : List ℕ) (ts : List Partition) : Type 0 where
  pub there : AllByRecursion (λ p. p < length ts) ps
  pub once : AreDistinct ps
  pub place : AllByRecursion (λ p. MayGoOut (partition_at p ts)) ps
  pub changed : changed_at ps (λ p t. send_in k t) ts ≡ changed_at chosen (λ p t. send_in k t) before

pub send_next : {k : ℕ} {chosen : List ℕ} {before : List Partition} {p : ℕ} {ps : List ℕ} {ts : List Partition} (us : List Partition)
    → us ≡ set ts p (send_in k (partition_at p ts)) → IsToSend k chosen before (p ∷ ps) ts → IsToSend k chosen before ps us
send_next {k} {chosen} {before} {p} {ps} {ts} us next f = subst (IsToSend k chosen before ps) (sym next) (record {
  there = there_still p _ ps ts f.there.1;
  once = f.once.1;
  place = others_all (λ q t. MayGoOut t) p _ ps ts f.once.0 f.place.1;
  changed = sym (changed_first p ps (λ q t. send_in k t) ts f.there.0 f.once.0) ∙ f.changed;
})

pub send_none : {k : ℕ} {chosen : List ℕ} {before : List Partition} {ts : List Partition} → IsToSend k chosen before [] ts
    → ts ≡ changed_at chosen (λ p t. send_in k t) before
send_none {k} {ts = ts} f = sym (changed_none (λ p t. send_in k t) ts) ∙ f.changed
