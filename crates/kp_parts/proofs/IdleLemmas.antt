-- A partition in which nothing is queued or open: there is nothing to send, to mark, or to wait for.
use Rattle.std.proofs.Common.{◌≡◌, ℕ, Bool, true, false, true≢false, List, [], ◌∷◌, None, refl, sym}
use Rattle.std.specs.Prelude.{Option, ◌&&◌, not, if◌then◌else◌}
use Rattle.kp_accum.specs.declared.config.Config.{Config}
use Rattle.kp_accum.specs.declared.flags.Flags.{Flags}
use Rattle.kp_rules.specs.Due.{earliest, partition_moments}
use Rattle.kp_rules.specs.Flush.{has_marks}
use Rattle.kp_rules.specs.MaySend.{is_confirmed, is_within_limit, sends, wants_id}
use Rattle.kp_rules.specs.Partitions.{is_empty}
use Rattle.kp_rules.specs.Records.{HandedBatch, Open, Partition}
use Rattle.kp_parts.specs.PartitionRooms.{is_idle}

none_there : {A : Type 0} (xs : List A) → is_empty xs ≡ true → xs ≡ []
none_there [] e = refl
none_there (x ∷ xs) e = absurd (true≢false (sym e))

-- what is open, and what is queued
idle_parts : (t : Partition) → is_idle t ≡ true → (t.open_batches ≡ []) × (t.queue ≡ [])
unfolding is_idle
idle_parts t e = by_open t.open_batches e
  where
    by_open : (os : List Open) → (is_empty os && is_empty t.queue) ≡ true → (os ≡ []) × (t.queue ≡ [])
    by_open [] f = (refl, none_there t.queue f)
    by_open (o ∷ os) f = absurd (true≢false (sym f))

pub idle_unmarked : (t : Partition) → is_idle t ≡ true → has_marks t ≡ false
unfolding has_marks
idle_unmarked t e = let parts = idle_parts t e in rw (parts.0, parts.1) refl

pub idle_wants_nothing : (c : Config) (t : Partition) → is_idle t ≡ true → wants_id c t ≡ false
unfolding wants_id is_within_limit
idle_wants_nothing c t e = let parts = idle_parts t e in rw (parts.0, parts.1) (by_fence t.fenced)
  where
    by_fence : (fenced : Bool) → (not fenced && true && false) ≡ false
    by_fence true = refl
    by_fence false = refl

pub idle_sends_nothing : (c : Config) (flags : Flags) (now : ℕ) (t : Partition) → is_idle t ≡ true → sends c flags now t ≡ None
unfolding sends is_confirmed is_within_limit
idle_sends_nothing c flags now t e = let parts = idle_parts t e in rw (parts.0, parts.1) (by_fence t.fenced)
  where
    by_fence : (fenced : Bool) → ◌≡◌ {A = Option HandedBatch} (if fenced then None else None) None
    by_fence true = refl
    by_fence false = refl

pub idle_awaits_nothing : (from : ℕ) (c : Config) (t : Partition) → is_idle t ≡ true → earliest from (partition_moments c t) ≡ None
unfolding partition_moments
idle_awaits_nothing from c t e = let parts = idle_parts t e in rw (parts.0, parts.1) refl
