-- Handing over: a batch gets its number, its producer id and its base sequence when it first goes
-- out (KIP-98: sequence numbers count records from 0, by producer id and partition), and keeps them
-- and its records for good.
use Rattle.std.specs.Prelude.{ℕ, ◌+◌, Bool, List, [], ◌∷◌, ◌++◌, length, Some, None, option_map, ◌==◌, ◌&&◌, if◌then◌else◌}
use Rattle.kp_accum.specs.declared.item.Item.{Item}
use Rattle.kp_accum.specs.Queue.{Pending}
use Rattle.kp_rules.specs.declared.attempt.Attempt.TheVariants.{InFlight}
use Rattle.kp_rules.specs.declared.run.Run.{Run}
use Rattle.kp_rules.specs.Records.{HandedBatch, Open, Partition}
use Rattle.kp_rules.specs.Attempts.{is_waiting, lowest_waiting}
use Rattle.kp_rules.specs.MaySend.{new_batch}

-- ---- the audit: neighbours of one sender with successive numbers are one run

abbrev pub run_of : Item → Run
run_of i = record { sender = i.sender; first = i.number; count = 1 }

-- the item goes on with the run
abbrev pub goes_on : Item → Run → Bool
goes_on i r = r.sender == i.sender && (r.first + r.count == i.number)

unfoldable pub with_audited : Item → List Run → List Run
with_audited i [] = run_of i ∷ []
with_audited i (r ∷ []) =
    if goes_on i r then (record r { count = r.count + 1 }) ∷ [] else r ∷ run_of i ∷ []
with_audited i (r ∷ r' ∷ rs) = r ∷ with_audited i (r' ∷ rs)

-- the runs, with these items behind them
unfoldable pub audited : List Run → List Item → List Run
audited runs [] = runs
audited runs (i ∷ is) = audited (with_audited i runs) is

-- ---- the front batch goes out for the first time, in request k

abbrev pub first_sent_in : ℕ → HandedBatch → Pending → Open
first_sent_in k batch front = record {
  batch = batch;
  begun = front.begun;
  attempt = InFlight k;
  marked = front.marked;
}

abbrev pub opened_in : ℕ → Partition → Pending → Open
opened_in k t front = first_sent_in k (new_batch t front) front

unfoldable pub hand_over_in : ℕ → Partition → List Pending → Partition
hand_over_in k t [] = t
hand_over_in k t (front ∷ behind) = record t {
  queue = behind;
  open_batches = t.open_batches ++ opened_in k t front ∷ [];
  next_number = t.next_number + 1;
  next_sequence = t.next_sequence + length front.items;
  attempts_sent = t.attempts_sent + 1;
  audit = option_map (λ runs. audited runs front.items) t.audit;
}

-- ---- the lowest batch that waits goes out again, in request k

abbrev pub again_in : ℕ → Open → Open
again_in k o = record o { attempt = InFlight k }

unfoldable pub send_again_in : ℕ → List Open → List Open
send_again_in k [] = []
send_again_in k (o ∷ others) =
    if is_waiting o then again_in k o ∷ others else o ∷ send_again_in k others

abbrev pub sent_again : ℕ → Partition → Partition
sent_again k t = record t {
  open_batches = send_again_in k t.open_batches;
  attempts_sent = t.attempts_sent + 1;
}

-- ---- the partition once what it may send went out in request k

unfoldable pub send_in : ℕ → Partition → Partition
send_in k t = elim (lowest_waiting t) [
  | Some lowest ↦ sent_again k t
  | None ↦ hand_over_in k t t.queue
]
