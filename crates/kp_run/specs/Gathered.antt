-- The reports of a run, from all places where they may be.
use Rattle.std.specs.Prelude.{◌≡◌, ◌≢◌, ℕ, List, [], ◌++◌, slice_index_or}
use Rattle.std.specs.List.{flat_map}
use Rattle.std.specs.List.Sorted.{IsPermutation}
use Rattle.std.specs.Ordering.{nat_cmp, ordering_then}
use Rattle.std.specs.declared.alloc.Global.{Global}
use Rattle.std.specs.declared.cmp.Ordering.{Ordering}
use Rattle.std.specs.declared.vec.Vec.{Vec}
use Rattle.kp_accum.specs.declared.item.Item.{Item}
use Rattle.kp_engine.specs.Agreement.{waiting_of}
use Rattle.kp_engine.specs.Parts.{to_sender}
use Rattle.kp_lanes.specs.Lane.{LaneId}
use Rattle.kp_lanes.specs.Sender.{accepted, all_accepted, all_got, finished_id, finished_number, got, sender_id, sender_number}
use Rattle.kp_lanes.specs.Settling.{left_reports}
use Rattle.kp_lanes.specs.declared.sender.Finished.{Finished}
use Rattle.kp_rules.specs.Records.{Core}
use Rattle.kp_rules.specs.declared.outcome.Report.{Report}
use Rattle.kp_client.specs.Producer.{lane_of}
use Rattle.kp_run.specs.declared.sender_thread.Job.{Job}

-- ---- their order

-- by senders, by their partitions, and by the numbers there
abbrev pub by_place : Report → Report → Ordering
by_place a b =
    ordering_then (ordering_then (nat_cmp a.sender b.sender) (nat_cmp a.partition b.partition)) (nat_cmp a.number b.number)

-- ---- what the senders heard

abbrev pub heard_by : Job → List Report
heard_by job = job.heard.items

-- Those are among them that the senders heard, with what these were told.
abbrev pub IncludeHeard : List Job → List Report → Type 0
IncludeHeard jobs reports = (unheard : List Report) × IsPermutation (flat_map heard_by jobs ++ unheard) reports

-- a sender's number and lane, what it had accepted and what it received
abbrev pub Account : Type 0
Account = ℕ × LaneId × List Item × List Report

abbrev pub account_in : Job → Account
account_in job =
    let lane = lane_of job.producer in
    (sender_number lane, sender_id lane, accepted lane, got lane)

abbrev pub account_of : Finished → Account
account_of f = (finished_number f, finished_id f, all_accepted f, all_got f)

-- ---- what they did not hear

-- the sender's reports in its ring, the one that was held, and those that wait in the core
abbrev pub unheard_of : List (Vec Report Global) → List Report → Core → ℕ → List Report
unheard_of rings held core i = slice_index_or (left_reports rings) i [] ++ to_sender i held ++ waiting_of core i

-- but for what waits for this sender, the core is as it was
pub record OnlyFetched (i : ℕ) (old new : Core) : Type 0 where
  pub same : new ≡ record old { reports = new.reports }
  pub others : (j : ℕ) → j ≢ i → waiting_of new j ≡ waiting_of old j
