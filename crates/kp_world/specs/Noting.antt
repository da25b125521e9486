-- How an event is noted in a world.
use Rattle.std.specs.Prelude.{Bool, not, List, [], ◌∷◌, ◌++◌, ◌&&◌}
use Rattle.kp_rules.specs.Flush.{is_flushed}
use Rattle.kp_rules.specs.Records.{Core, Told}
use Rattle.kp_world.specs.Line.{Line}
use Rattle.kp_world.specs.World.{World}

-- the event has made the flush complete
abbrev pub ends_flush : Core → Core → Bool
ends_flush before after = not (is_flushed before) && is_flushed after

-- The core is this one now, the event was answered so, and this was told in it.
unfoldable pub noted : Core → List Line → List Told → World → World
noted core answer told w = record w {
  core = core;
  past = w.past ++ (record { answer = answer; told = told; flushed = ends_flush w.core core }) ∷ [];
}

-- nothing happened but this
abbrev pub only_noted : List Line → World → World
only_noted answer w = noted w.core answer [] w
