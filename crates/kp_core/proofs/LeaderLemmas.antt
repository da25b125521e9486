-- A partition's leader: what happens to it leaves it.
use Rattle.std.proofs.Common.{◌≡◌, ℕ, Bool, true, false, List, [], ◌∷◌, Some, None, Ok, Err, OnOk, OnErr, refl, ap}
use Rattle.std.specs.Prelude.{Option, Result, if◌then◌else◌}
use Rattle.std.specs.List.{list_any}
use Rattle.std.specs.declared.alloc.AllocError.{AllocError}
use Rattle.kp_accum.specs.declared.config.Config.{Config}
use Rattle.kp_accum.specs.Queue.{Pending}
use Rattle.kp_rules.specs.declared.meaning.Meaning.{Meaning}
use Rattle.kp_rules.specs.declared.meaning.Meaning.TheVariants.{Stored, Duplicate, Retry, Reject}
use Rattle.kp_rules.specs.Attempts.{awaiting, lowest_waiting}
use Rattle.kp_rules.specs.Dropping.{drop_attempts, drop_led}
use Rattle.kp_rules.specs.Fence.{fence, give_up}
use Rattle.kp_rules.specs.HandingOver.{hand_over_in, send_in, sent_again}
use Rattle.kp_rules.specs.Partitions.{leads}
use Rattle.kp_rules.specs.Records.{Effect, Open, Partition}
use Rattle.kp_rules.specs.Replies.{go_on_under}
use Rattle.kp_rules.specs.Settling.{left_alone, meaning_of, settle_batch, settle_by}
use Rattle.kp_rules.specs.Tick.{expire_front, heed_deadlines, is_open_late}
use Rattle.kp_core.specs.declared.machine.matching.Entry.{Entry}
use Rattle.kp_core.specs.declared.machine.matching.Entry.TheVariants.{Missing, One, Several}
use Rattle.kp_core.specs.Hearing.{settled_by}

pub dropped_leader : (node now : ℕ) (t : Partition) → (drop_led node now t).leader ≡ t.leader
dropped_leader node now t = by_lead (leads node t)
  where
    by_lead : (b : Bool) → (if b then drop_attempts now t else t).leader ≡ t.leader
    by_lead true = refl
    by_lead false = refl

pub heeded_leader : (c : Config) (now : ℕ) (t : Partition) → (heed_deadlines c now t).after.leader ≡ t.leader
unfolding heed_deadlines fence give_up
heeded_leader c now t = by_late (list_any (is_open_late c now) t.open_batches)
  where
    by_late : (b : Bool) → (if b then fence t else expire_front c now t).after.leader ≡ t.leader
    by_late true = refl
    by_late false = refl

pub settled_leader : (now k : ℕ) (entry : Entry) (t : Partition) → (settled_by now k entry t).after.leader ≡ t.leader
unfolding settle_batch fence give_up
settled_leader now k Missing t = refl
settled_leader now k Several t = refl
settled_leader now k (One entry) t = by_awaiting (awaiting k t)
  where
    by_meaning : (o : Open) (m : Meaning) → (settle_by now k t o entry.now m).after.leader ≡ t.leader
    by_meaning o Stored = refl
    by_meaning o Duplicate = refl
    by_meaning o Retry = refl
    by_meaning o Reject = refl

    by_awaiting : (o : Option Open) → (let e : Effect = elim o [ None ↦ left_alone t | Some x ↦ settle_by now k t x entry.now (meaning_of entry.now.error_code) ] in e.after.leader ≡ t.leader)
    by_awaiting None = refl
    by_awaiting (Some o) = by_meaning o (meaning_of entry.now.error_code)

pub sent_leader : (k : ℕ) (t : Partition) → (send_in k t).leader ≡ t.leader
unfolding send_in hand_over_in
sent_leader k t = by_lowest (lowest_waiting t)
  where
    by_queue : (queue : List Pending) → (hand_over_in k t queue).leader ≡ t.leader
    by_queue [] = refl
    by_queue (front ∷ behind) = refl

    by_lowest : (o : Option Open) → (let u : Partition = elim o [ Some lowest ↦ sent_again k t | None ↦ hand_over_in k t t.queue ] in u.leader ≡ t.leader)
    by_lowest (Some lowest) = refl
    by_lowest None = by_queue t.queue

pub renewed_leader : (r : Result (Unit {0}) AllocError) (id : ℕ) (t u : Partition) → OnOk r (u ≡ go_on_under id t) → OnErr r (u ≡ t) → u.leader ≡ t.leader
renewed_leader (Ok done) id t u ok err = ap (λ (x : Partition). x.leader) ok
renewed_leader (Err e) id t u ok err = ap (λ (x : Partition). x.leader) err
