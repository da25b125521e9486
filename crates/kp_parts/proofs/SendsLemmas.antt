-- What a partition sends, case by case.
use Rattle.std.proofs.Common.{◌≡◌, ◌∙◌, ℕ, Bool, true, false, List, [], ◌∷◌, length, Option, Some, None, refl, ap, subst}
use Rattle.std.specs.Prelude.{if◌then◌else◌, slice_get, not, ◌&&◌, ◌==◌}
use Rattle.kp_accum.specs.declared.config.Config.{Config}
use Rattle.kp_accum.specs.declared.flags.Flags.{Flags}
use Rattle.kp_accum.specs.declared.item.Item.{Item}
use Rattle.kp_accum.specs.Queue.{Pending}
use Rattle.kp_rules.specs.Attempts.{lowest_waiting}
use Rattle.kp_rules.specs.MaySend.{is_confirmed, is_id_spent, is_within_limit, is_rested, may_hand_over, new_batch, sends, wants_id}
use Rattle.kp_rules.specs.Partitions.{is_empty, present_id}
use Rattle.kp_rules.specs.Records.{HandedBatch, Open, Partition}
use Rattle.kp_parts.proofs.PartitionRoomLemmas.{is_empty-is}

pub sends-fenced : (c : Config) (flags : Flags) (now : ℕ) (t : Partition) → t.fenced ≡ true → sends c flags now t ≡ None
unfolding sends is_confirmed is_within_limit
sends-fenced c flags now t e = rw e refl

pub sends-waiting : (c : Config) (flags : Flags) (now : ℕ) (t : Partition) (o : Open) → t.fenced ≡ false → lowest_waiting t ≡ Some o
    → sends c flags now t ≡ (if is_rested c now o then Some o.batch else None)
unfolding sends is_confirmed is_within_limit
sends-waiting c flags now t o e f = rw (e, f) refl

pub sends-nothing : (c : Config) (flags : Flags) (now : ℕ) (t : Partition) → t.fenced ≡ false → lowest_waiting t ≡ None → slice_get t.queue 0 ≡ None
    → sends c flags now t ≡ None
unfolding sends is_confirmed is_within_limit
sends-nothing c flags now t e f g = rw (e, f) (at_queue t.queue refl)
  where
    at_queue : (q : List Pending) → t.queue ≡ q
        → ◌≡◌ {A = Option HandedBatch} (elim q [ [] ↦ None | front ∷ behind ↦ if may_hand_over c flags now t front then Some (new_batch t front) else None ]) None
    at_queue [] h = refl
    at_queue (b ∷ bs) h = let is : slice_get (b ∷ bs) 0 ≡ None = subst (λ (q : List Pending). slice_get q 0 ≡ None) h g in cc

pub sends-front : (c : Config) (flags : Flags) (now : ℕ) (t : Partition) (b : Pending) → t.fenced ≡ false → lowest_waiting t ≡ None → slice_get t.queue 0 ≡ Some b
    → sends c flags now t ≡ (if may_hand_over c flags now t b then Some (new_batch t b) else None)
unfolding sends is_confirmed is_within_limit
sends-front c flags now t b e f g = rw (e, f) (at_queue t.queue refl)
  where
    at_queue : (q : List Pending) → t.queue ≡ q
        → (elim q [ [] ↦ None | front ∷ behind ↦ if may_hand_over c flags now t front then Some (new_batch t front) else None ])
        ≡ (if may_hand_over c flags now t b then Some (new_batch t b) else None)
    at_queue [] h = let is : slice_get [] 0 ≡ Some b = subst (λ (q : List Pending). slice_get q 0 ≡ Some b) h g in cc
    at_queue (front ∷ behind) h =
        let is : slice_get (front ∷ behind) 0 ≡ Some b = subst (λ (q : List Pending). slice_get q 0 ≡ Some b) h g in
        let same : front ≡ b = cc in
        ap (λ (x : Pending). if may_hand_over c flags now t x then Some (new_batch t x) else None) same

-- ---- where it wants a fresh id

pub wants_id-free : (c : Config) (t : Partition) → t.fenced ≡ false → (length t.open_batches == 0) ≡ true → wants_id c t ≡ is_id_spent c t
unfolding wants_id is_within_limit
wants_id-free c t e f = let g : is_empty t.open_batches ≡ true = is_empty-is t.open_batches ∙ f in rw (e, g) refl

pub wants_id-fenced : (c : Config) (t : Partition) → t.fenced ≡ true → wants_id c t ≡ false
unfolding wants_id is_within_limit
wants_id-fenced c t e = rw e refl

pub wants_id-open : (c : Config) (t : Partition) → (length t.open_batches == 0) ≡ false → wants_id c t ≡ false
unfolding wants_id is_within_limit
wants_id-open c t f = at_test t.fenced
  where
    at_test : (b : Bool) → (not b && is_empty t.open_batches && is_id_spent c t) ≡ false
    at_test true = refl
    at_test false = let g : is_empty t.open_batches ≡ false = is_empty-is t.open_batches ∙ f in rw g refl

pub ready-is : (t : Partition) (b : Pending) (r : HandedBatch) → r.number ≡ t.next_number → r.id ≡ present_id t → r.sequence ≡ t.next_sequence → r.items ≡ b.items
    → r ≡ new_batch t b
ready-is t b r e f g h =
    ap (λ (n : ℕ). record { number = n; id = r.id; sequence = r.sequence; items = r.items }) e
    ∙ ap (λ (n : ℕ). record { number = t.next_number; id = n; sequence = r.sequence; items = r.items }) f
    ∙ ap (λ (n : ℕ). record { number = t.next_number; id = present_id t; sequence = n; items = r.items }) g
    ∙ ap (λ (is : List Item). record { number = t.next_number; id = present_id t; sequence = t.next_sequence; items = is }) h
