use Rattle.std.proofs.Common.{refl}
use Rattle.kp_engine.proofs.engine.Engine.poll_away.Goals as goal

pub returns : goal.returns
returns g c = record {
  cause = c.cause-cause.result;
  was = c.cause-cause.ensures;
  turn = record {
    node = 0;
    now = c.now-now.result;
    begun = c.clear.new.self;
    cleared = c.clear.ensures;
    calls = c.turn_away-stop.ensures.turns.0;
    turns = c.turn_away-stop.ensures.turns.1;
    undone = c.turn_away-stop.ensures.undone;
  };
  line = refl;
  told = c.now-now.ensures;
  node = refl;
}

pub invariant_of-self : goal.invariant_of-self
invariant_of-self g c = record { sound = refl }
