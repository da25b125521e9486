-- A partition of which nothing is queued or open: the rules leave it as it is, and tell nothing.
use Rattle.std.proofs.Common.{◌≡◌, ◌∙◌, ◌≤◌, arith, ℕ, Bool, true, false, true≢false, not, List, [], ◌∷◌, ◌++◌, map, Some, None, Ok, Err, OnOk, OnErr, refl, sym, ap, subst}
use Rattle.std.specs.Prelude.{Option, Result, nat_lt, option_map, ◌&&◌, if◌then◌else◌}
use Rattle.std.proofs.lemmas.Bool.Decides.{nat_tests}
use Rattle.kp_accum.specs.declared.config.Config.{Config}
use Rattle.kp_accum.specs.declared.flags.Flags.{Flags}
use Rattle.kp_accum.specs.declared.item.Item.{Item}
use Rattle.kp_accum.specs.Queue.{Pending, begun_by, joined_by, joins, with_item}
use Rattle.std.specs.declared.alloc.AllocError.{AllocError}
use Rattle.kp_rules.specs.declared.attempt.Attempt.TheVariants.{InFlight}
use Rattle.kp_rules.specs.declared.outcome.Reason.{Reason}
use Rattle.kp_rules.specs.Appending.{enqueue}
use Rattle.kp_rules.specs.Auditing.{unaudited}
use Rattle.kp_rules.specs.Attempts.{is_waiting, lowest_waiting}
use Rattle.kp_rules.specs.Dropping.{drop_attempts, drop_led}
use Rattle.kp_rules.specs.Due.{partition_moments}
use Rattle.kp_rules.specs.Fence.{give_up}
use Rattle.kp_rules.specs.Flush.{has_marks, mark}
use Rattle.kp_rules.specs.HandingOver.{hand_over_in, send_again_in, send_in, sent_again}
use Rattle.kp_rules.specs.Leading.{led_by}
use Rattle.kp_rules.specs.MaySend.{is_confirmed, is_within_limit, sends, wants_id}
use Rattle.kp_rules.specs.Next.{Sending, sends_to}
use Rattle.kp_rules.specs.Partitions.{is_empty, leads, new_partition}
use Rattle.kp_rules.specs.Records.{HandedBatch, Open, Partition}
use Rattle.kp_rules.specs.Replies.{go_on_under}
use Rattle.kp_rules.specs.Settling.{left_alone, settle_batch}
use Rattle.kp_rules.specs.Tick.{behind_late, heed_deadlines, late_front}
use Rattle.kp_core.specs.declared.machine.matching.Entry.{Entry}
use Rattle.kp_core.specs.declared.machine.matching.Entry.TheVariants.{Missing, One, Several}
use Rattle.kp_core.specs.Busy.{is_busy}
use Rattle.kp_core.specs.Choosing.{sends_in}
use Rattle.kp_core.specs.Hearing.{settled_by}

-- ---- nothing is in it

idle_parts : (t : Partition) → is_busy t ≡ false → (t.open_batches ≡ []) × (t.queue ≡ [])
unfolding is_busy
idle_parts t e = both t.open_batches t.queue e
  where
    both : (os : List Open) (queue : List Pending) → not (is_empty os && is_empty queue) ≡ false → (os ≡ []) × (queue ≡ [])
    both [] [] f = (refl, refl)
    both [] (b ∷ queue) f = absurd (true≢false f)
    both (o ∷ os) queue f = absurd (true≢false f)

abbrev emptied : Partition → Partition
emptied t = record t { queue = []; open_batches = [] }

emptied-is : (t : Partition) → is_busy t ≡ false → t ≡ emptied t
emptied-is t e =
    let parts = idle_parts t e in
    ap (λ (os : List Open). let u : Partition = record t { open_batches = os } in u) parts.0
    ∙ ap (λ (queue : List Pending). let u : Partition = record t { queue = queue; open_batches = [] } in u) parts.1

-- what holds of the partition with nothing in it holds of it
at_idle : (P : Partition → Type 0) (t : Partition) → is_busy t ≡ false → P (emptied t) → P t
at_idle P t e = subst P (sym (emptied-is t e))

either : {A : Type 0} (b : Bool) (x : A) → (if b then x else x) ≡ x
either true x = refl
either false x = refl

-- ---- it says nothing

pub idle_unmarked : (t : Partition) → is_busy t ≡ false → has_marks t ≡ false
unfolding has_marks
idle_unmarked t e = at_idle (λ u. has_marks u ≡ false) t e refl

pub idle_wants_nothing : (c : Config) (t : Partition) → is_busy t ≡ false → wants_id c t ≡ false
unfolding wants_id is_within_limit
idle_wants_nothing c t e = at_idle (λ u. wants_id c u ≡ false) t e (by_fence t.fenced)
  where
    by_fence : (fenced : Bool) → (not fenced && true && false) ≡ false
    by_fence true = refl
    by_fence false = refl

pub idle_asks_nothing : (node : ℕ) (c : Config) (t : Partition) → is_busy t ≡ false → (leads node t && wants_id c t) ≡ false
idle_asks_nothing node c t e = ap (λ (b : Bool). leads node t && b) (idle_wants_nothing c t e) ∙ by_lead (leads node t)
  where
    by_lead : (b : Bool) → (b && false) ≡ false
    by_lead true = refl
    by_lead false = refl

pub idle_sends_nothing : (node : ℕ) (c : Config) (flags : Flags) (now : ℕ) (t : Partition) → is_busy t ≡ false → sends_to node sends c flags now t ≡ None
unfolding sends is_confirmed is_within_limit
idle_sends_nothing node c flags now t e =
    at_idle (λ u. sends_to node sends c flags now u ≡ None) t e
    (ap (λ (o : Option HandedBatch). if leads node t then o else None) (either t.fenced None) ∙ either (leads node t) None)

pub idle_awaits_nothing : (c : Config) (t : Partition) → is_busy t ≡ false → partition_moments c t ≡ []
unfolding partition_moments
idle_awaits_nothing c t e = at_idle (λ u. partition_moments c u ≡ []) t e refl

-- ---- it stays as it is, and nothing is told

pub idle_dropped : (node now : ℕ) (t : Partition) → is_busy t ≡ false → drop_led node now t ≡ t
idle_dropped node now t e = at_idle (λ u. drop_led node now u ≡ u) t e (either (leads node t) (emptied t))

pub idle_marked : (t : Partition) → is_busy t ≡ false → mark t ≡ t
idle_marked t e = at_idle (λ u. mark u ≡ u) t e refl

pub idle_heeded : (c : Config) (now : ℕ) (t : Partition) → is_busy t ≡ false → heed_deadlines c now t ≡ left_alone t
unfolding heed_deadlines behind_late late_front
idle_heeded c now t e = at_idle (λ u. heed_deadlines c now u ≡ left_alone u) t e refl

pub idle_given_up : (why : Reason) (t : Partition) → is_busy t ≡ false → give_up why t ≡ left_alone t
unfolding give_up
idle_given_up why t e = at_idle (λ u. give_up why u ≡ left_alone u) t e refl

pub idle_settled : (now k : ℕ) (entry : Entry) (t : Partition) → is_busy t ≡ false → settled_by now k entry t ≡ left_alone t
unfolding settle_batch
idle_settled now k Missing t e = refl
idle_settled now k (One entry) t e = at_idle (λ u. settled_by now k (One entry) u ≡ left_alone u) t e refl
idle_settled now k Several t e = refl

-- ---- nothing is left in it

pub given_up_idle : (why : Reason) (t : Partition) → is_busy (give_up why t).after ≡ false
unfolding give_up is_busy
given_up_idle why t = refl

-- ---- it is as busy as it was

same_empty : {A B : Type 0} (f : A → B) (xs : List A) → is_empty (map f xs) ≡ is_empty xs
same_empty f [] = refl
same_empty f (x ∷ xs) = refl

pub dropped_busy : (node now : ℕ) (t : Partition) → is_busy (drop_led node now t) ≡ is_busy t
unfolding is_busy
dropped_busy node now t = by_lead (leads node t)
  where
    by_lead : (b : Bool) → is_busy (if b then drop_attempts now t else t) ≡ is_busy t
    by_lead true = ap (λ (b : Bool). not (b && is_empty t.queue)) (same_empty _ t.open_batches)
    by_lead false = refl

pub marked_busy : (t : Partition) → is_busy (mark t) ≡ is_busy t
unfolding is_busy
marked_busy t =
    ap (λ (b : Bool). not (b && is_empty (mark t).queue)) (same_empty _ t.open_batches)
    ∙ ap (λ (b : Bool). not (is_empty t.open_batches && b)) (same_empty _ t.queue)

pub moved_busy : (leader now : ℕ) (t : Partition) → is_busy (led_by leader now t) ≡ is_busy t
unfolding is_busy
moved_busy leader now t = by_lead (leads leader t)
  where
    by_lead : (b : Bool) → is_busy (if b then t else record (drop_attempts now t) { leader = leader }) ≡ is_busy t
    by_lead true = refl
    by_lead false = ap (λ (b : Bool). not (b && is_empty t.queue)) (same_empty _ t.open_batches)

pub renewed_busy : (id : ℕ) (t : Partition) → is_busy (go_on_under id t) ≡ is_busy t
unfolding is_busy
renewed_busy id t = refl

pub sent_busy : (k : ℕ) (t : Partition) → is_busy (send_in k t) ≡ is_busy t
unfolding is_busy send_in hand_over_in send_again_in
sent_busy k t = by_lowest (lowest_waiting t)
  where
    again : (os : List Open) → is_empty (send_again_in k os) ≡ is_empty os
    again [] = refl
    again (o ∷ os) = by_test (is_waiting o)
      where
        by_test : (b : Bool) → is_empty (if b then (record o { attempt = InFlight k }) ∷ os else o ∷ send_again_in k os) ≡ false
        by_test true = refl
        by_test false = refl

    one_behind : (os : List Open) (o : Open) → is_empty (os ++ o ∷ []) ≡ false
    one_behind [] o = refl
    one_behind (x ∷ os) o = refl

    queued : (b : Bool) → not (b && false) ≡ true
    queued true = refl
    queued false = refl

    by_queue : (queue : List Pending) → t.queue ≡ queue → is_busy (hand_over_in k t queue) ≡ is_busy t
    by_queue [] is = refl
    by_queue (front ∷ behind) is =
        ap (λ (b : Bool). not (b && is_empty behind)) (one_behind t.open_batches _)
        ∙ sym (queued (is_empty t.open_batches))
        ∙ ap (λ (queue : List Pending). not (is_empty t.open_batches && is_empty queue)) (sym is)

    by_lowest : (o : Option Open) → is_busy (elim o [ Some lowest ↦ sent_again k t | None ↦ hand_over_in k t t.queue ]) ≡ is_busy t
    by_lowest (Some lowest) = ap (λ (b : Bool). not (b && is_empty t.queue)) (again t.open_batches)
    by_lowest None = by_queue t.queue refl

-- ---- something is in it

pub filled_busy : (c : Config) (i : Item) (t : Partition) → is_busy (enqueue c i t) ≡ true
unfolding is_busy with_item
filled_busy c i t = ap (λ (b : Bool). not (is_empty t.open_batches && b)) (one_there t.queue) ∙ queued (is_empty t.open_batches)
  where
    one_there : (queue : List Pending) → is_empty (with_item c i queue) ≡ false
    one_there [] = refl
    one_there (b ∷ []) = by_join (joins c i b)
      where
        by_join : (x : Bool) → is_empty (if x then joined_by i b ∷ [] else b ∷ begun_by i ∷ []) ≡ false
        by_join true = refl
        by_join false = refl
    one_there (b ∷ b' ∷ bs) = refl

    queued : (b : Bool) → not (b && false) ≡ true
    queued true = refl
    queued false = refl

pub new_idle : (audits : Bool) (id : ℕ) → is_busy (if audits then new_partition id else unaudited (new_partition id)) ≡ false
unfolding is_busy
new_idle true id = refl
new_idle false id = refl

-- it may go on under another id
pub renewed_if : (r : Result (Unit {0}) AllocError) (id : ℕ) (t u : Partition) → OnOk r (u ≡ go_on_under id t) → OnErr r (u ≡ t) → is_busy u ≡ is_busy t
renewed_if (Ok done) id t u ok err = ap is_busy ok ∙ renewed_busy id t
renewed_if (Err e) id t u ok err = ap is_busy err

pub idle_sends_in : (node : ℕ) (c : Config) (flags : Flags) (now p : ℕ) (t : Partition) → is_busy t ≡ false → sends_in node c flags now (p, t) ≡ None
idle_sends_in node c flags now p t e =
    ap (option_map (λ b. let x : Sending = record { partition = p; batch = b } in x)) (idle_sends_nothing node c flags now t e)

pub first_idle : is_busy (new_partition 0) ≡ false
unfolding is_busy
first_idle = refl

pub not_below : (n m : ℕ) → m ≤ n → nat_lt n m ≡ false
not_below n m l = grind (arith, nat_tests)
