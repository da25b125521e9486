-- A schedule whose replay can be computed leads to a world that is reached.
use Rattle.std.proofs.Common.{◌≡◌, ℕ, List, Some, None, refl, arith}
use Rattle.std.specs.Prelude.{Option, Result, Ok, Err}
use Rattle.std.specs.List.{AllByRecursion}
use Rattle.kp_accum.specs.declared.config.Config.{Config}
use Rattle.kp_accum.specs.Config.{default_config, checked, is_outside}
use Rattle.kp_rules.specs.declared.outcome.Outcome.{Outcome}
use Rattle.kp_world.specs.declared.event.Event.{Event}
use Rattle.kp_world.specs.Reaching.{outcomes_in, Tells}
use Rattle.kp_world.specs.Replay.{MayHappen, replayed}
use Rattle.kp_world.specs.Run.{MayBegin}
use Rattle.kp_world.specs.World.{World, opening, scheduled}
use Rattle.kp_world.proofs.ReplayLemmas.{replay_is_run}

-- what was told in a replay that comes to its end
abbrev pub told_in_replay : Result World ℕ → Option (List Outcome)
told_in_replay (Ok w) = Some (outcomes_in w)
told_in_replay (Err n) = None

-- with one partition and one sender
pub may_begin : (c : Config) → checked c ≡ Ok tt → MayBegin (scheduled c 1 1)
may_begin c e = record {
  config = e;
  some_partitions = omega arith;
  partition_limit = omega arith;
  some_senders = omega arith;
  sender_limit = omega arith;
  topic = omega arith;
  client = omega arith;
  known_id = omega arith;
  known_correlation = omega arith;
}

pub default_passes : checked default_config ≡ Ok tt
unfolding checked is_outside
default_passes = refl

pub tells : (es : List Event) (outcomes : List Outcome) → AllByRecursion MayHappen es → told_in_replay (replayed es (opening (scheduled default_config 1 1))) ≡ Some outcomes → Tells es outcomes
tells es outcomes may e = at_result (replayed es (opening (scheduled default_config 1 1))) refl e
  where
    at_result : (r : Result World ℕ) → replayed es (opening (scheduled default_config 1 1)) ≡ r → told_in_replay r ≡ Some outcomes → Tells es outcomes
    at_result (Ok w) is e' = record { world = w; reached = record { may_begin = may_begin default_config default_passes; run = replay_is_run default_config 1 1 es w may is }; told = cc }
    at_result (Err n) is e' = absurd cc
