-- Any calls on a new core: it stays in order, and every item that was appended is told or untold.
use Rattle.std.proofs.Common.{◌≡◌, ℕ, zero, suc, ◌+◌, true, List, [], ◌∷◌, map, refl, sym, ap, ◌∙◌, subst, arith, sum_by}
use Rattle.std.specs.Prelude.{flat_map, replicate}
use Rattle.std.specs.List.{AllByRecursion}
use Rattle.std.proofs.lemmas.List.Sums.{sum_by-append}
use Rattle.kp_accum.specs.declared.config.Config.{Config}
use Rattle.kp_accum.specs.declared.item.Item.{Item}
use Rattle.kp_rules.specs.declared.names.Names.{Names}
use Rattle.kp_rules.specs.Calls.{Call, Life, Lives, appended_by, told_by}
use Rattle.kp_rules.specs.InOrder.{IsEmptied, IsInOrder, IsHeld, HasLived}
use Rattle.kp_rules.specs.Opening.{new_core}
use Rattle.kp_rules.specs.Partitions.{new_partition, untold, all_untold}
use Rattle.kp_rules.specs.Records.{Partition, Core}
use Rattle.kp_rules.proofs.AccountingLemmas.{told_was_untold}
use Rattle.kp_rules.proofs.OrderedCallLemmas.{new_in_order, kept}
use Rattle.kp_rules.proofs.RuleLemmas.{items_told, told-append}

-- ---- from any core that is in order

still_in_order : (s : Core) (calls : List Call) (life : Life) (t : Core) → AllByRecursion IsHeld calls → Lives s calls life t → IsInOrder s → IsInOrder t
unfolding Lives
still_in_order s [] life t held lives o = subst IsInOrder (sym lives.1) o
still_in_order s (call ∷ calls) life t held lives o = still_in_order lives.0 calls lives.1 t held.1 lives.3 (kept s lives.0 call held.0 lives.2 o)

lives_accounted : (s : Core) (calls : List Call) (life : Life) (t : Core) → AllByRecursion IsHeld calls → Lives s calls life t → IsInOrder s → (f : Item → ℕ)
    → sum_by f life.appended + sum_by f (all_untold s) ≡ sum_by f (map (λ x. x.item) life.told) + sum_by f (all_untold t)
unfolding Lives
lives_accounted s [] life t held lives o f =
    ap (λ (l : Life). sum_by f l.appended + sum_by f (all_untold s)) lives.0
    ∙ ap (λ (u : Core). 0 + sum_by f (all_untold u)) (sym lives.1)
    ∙ ap (λ (l : Life). sum_by f (items_told l.told) + sum_by f (all_untold t)) (sym lives.0)
lives_accounted s (call ∷ calls) life t held lives o f =
    let later = lives.1 in
    let all = lives_accounted lives.0 calls lives.1 t held.1 lives.3 (kept s lives.0 call held.0 lives.2 o) f in
    omega (
      arith,
      all,
      told_was_untold s lives.0 call o lives.2 f,
      ap (λ (l : Life). sum_by f l.appended) lives.4,
      ap (λ (l : Life). sum_by f (items_told l.told)) lives.4,
      sum_by-append f (appended_by call) later.appended,
      told-append f (told_by s call) later.told,
    )

-- ---- from a new core

pub lived_in_order : (c : Config) (n : Names) (partitions senders id correlation : ℕ) (calls : List Call) (life : Life) (t : Core)
    → HasLived c n partitions senders id correlation calls life t → IsInOrder t
lived_in_order c n partitions senders id correlation calls life t h =
    still_in_order (new_core c n partitions senders id correlation) calls life t h.held h.lives (new_in_order c n partitions senders id correlation h.opens h.topic h.client)

new_untold : (n id : ℕ) → flat_map untold (replicate n (new_partition id)) ≡ []
unfolding untold
new_untold zero id = refl
new_untold (suc n) id = new_untold n id

pub told_or_untold : (c : Config) (n : Names) (partitions senders id correlation : ℕ) (calls : List Call) (life : Life) (t : Core)
    → HasLived c n partitions senders id correlation calls life t → (f : Item → ℕ)
    → sum_by f life.appended ≡ sum_by f (map (λ x. x.item) life.told) + sum_by f (all_untold t)
unfolding new_core
told_or_untold c n partitions senders id correlation calls life t h f =
    omega (
      arith,
      ap (sum_by f) (new_untold partitions id),
      lives_accounted (new_core c n partitions senders id correlation) calls life t h.held h.lives
          (new_in_order c n partitions senders id correlation h.opens h.topic h.client) f,
    )

-- ---- after the end

emptied : (ts : List Partition) → AllByRecursion IsEmptied ts → flat_map untold ts ≡ []
unfolding untold
emptied [] h = refl
emptied (t ∷ ts) h = rw (h.0.open_batches, h.0.queue) (emptied ts h.1)

pub all_told : (c : Config) (n : Names) (partitions senders id correlation : ℕ) (calls : List Call) (life : Life) (t : Core)
    → HasLived c n partitions senders id correlation calls life t → t.ended ≡ true → (f : Item → ℕ)
    → sum_by f life.appended ≡ sum_by f (map (λ x. x.item) life.told)
all_told c n partitions senders id correlation calls life t h end f =
    let order = lived_in_order c n partitions senders id correlation calls life t h in
    omega (
      arith,
      ap (sum_by f) (emptied t.partitions (order.nothing_left end)),
      told_or_untold c n partitions senders id correlation calls life t h f,
    )
