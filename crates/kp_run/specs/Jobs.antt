-- What contracts see of the senders' jobs.
use Rattle.std.specs.Prelude.{◌≡◌, ℕ, ◌<◌, false, List, [], ◌∷◌, ◌++◌, All, length, slice_index_or}
use Rattle.kp_accum.specs.declared.item.Item.{Item}
use Rattle.kp_batch.specs.declared.record.Record.{Record}
use Rattle.kp_lanes.specs.Entries.{IsNext}
use Rattle.kp_lanes.specs.Lane.{LaneId}
use Rattle.kp_lanes.specs.Outbox.{keyed_to, moved_on}
use Rattle.kp_lanes.specs.Sender.{accepted, got, limits_of, sender_number, turn, IsSenderOf}
use Rattle.kp_lanes.specs.declared.limits.Limits.{Limits}
use Rattle.kp_client.specs.Producer.{lane_of, SameProducer}
use Rattle.kp_client.specs.declared.producer.Producer.{Producer}
use Rattle.kp_dealing.specs.Dealing.{dealt, Deal}
use Rattle.kp_run.specs.Sending.{AreSent, HaveLines}
use Rattle.kp_run.specs.declared.sender_thread.Job.{Job}
use Rattle.kp_run.specs.declared.sender_thread.Task.{Task}

-- what a task deals out
abbrev pub deal_of : Task → Deal
deal_of task = dealt task.lines.now task.senders task.keyed

abbrev pub producer_of : Job → Producer
producer_of job = job.producer

-- which of the senders it is, from 0
abbrev pub number_of : Job → ℕ
number_of job = sender_number (lane_of job.producer)

abbrev pub limits_in : Job → Limits
limits_in job = limits_of (lane_of job.producer)

-- the records that its lane has accepted, in order
abbrev pub accepted_by : Job → List Item
accepted_by job = accepted (lane_of job.producer)

-- the place of its round robin
abbrev pub turn_of : Job → ℕ
turn_of job = turn (lane_of job.producer)

-- the same sender, with the same lane
abbrev pub SameJob : Job → Job → Type 0
SameJob old new = SameProducer old.producer new.producer

-- the lane of the job's sender is the one that its number names
abbrev pub IsJobOf : List LaneId → Job → Type 0
IsJobOf lanes job = IsSenderOf lanes (lane_of job.producer)

-- the jobs are those of the same lanes, each at its place
pub record SameJobs (old new : List Job) : Type 0 where
  pub many : length new ≡ length old
  pub each : (i : ℕ) (d : Job) → i < length old → SameJob (slice_index_or old i d) (slice_index_or new i d)

-- it has done nothing yet
pub record IsIdle (job : Job) : Type 0 where
  pub accepted : job.accepted ≡ 0
  pub heard : job.heard.items ≡ []
  pub has_lost : job.has_lost ≡ false

-- It has counted what its lane has accepted, and has all reports that it received, if none was lost.
pub record Keeps (job : Job) : Type 0 where
  pub counted : job.accepted ≡ length (accepted_by job)
  pub heard : job.has_lost ≡ false → job.heard.items ≡ got (lane_of job.producer)

-- It has tried the first n of its lines.
pub record HasTried (deal : Deal) (n : ℕ) (job : Job) : Type 0 where
  pub sent : AreSent deal (limits_in job) (number_of job) n (turn_of job) (accepted_by job)
  pub keeps : Keeps job

-- It has tried some of its lines, the first ones.
pub record HasRun (deal : Deal) (job : Job) : Type 0 where
  pub lines : HaveLines deal (limits_in job) (number_of job) (accepted_by job)
  pub keeps : Keeps job

-- The jobs have run: the same ones, each at its place.
pub record HaveRun (deal : Deal) (old new : List Job) : Type 0 where
  pub same : SameJobs old new
  pub ran : All (HasRun deal) new

-- ---- one step

-- no record was accepted
pub record SentNothing (old new : Job) : Type 0 where
  pub same : SameJob old new
  pub items : accepted_by new ≡ accepted_by old
  pub turns : turn_of new ≡ turn_of old

-- The record was accepted: last, as the next of its partition, which is its key's or the next one round.
pub record HasSent (old : Job) (body : Record) (new : Job) : Type 0 where
  pub same : SameJob old new
  pub item : Item
  pub last : accepted_by new ≡ accepted_by old ++ item ∷ []
  pub is : item.body ≡ body
  pub sender : item.sender ≡ number_of old
  pub partition : item.partition ≡ keyed_to (limits_in old).partitions (turn_of old) body.key
  pub number : IsNext (accepted_by old) item
  pub turns : turn_of new ≡ moved_on (limits_in old).partitions (turn_of old) body.key
