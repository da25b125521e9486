use Rattle.std.proofs.Common.{List, Some, Ok, Err, refl, sym, subst, ◌∙◌}
use Rattle.std.proofs.lemmas.List.{with_items_is}
use Rattle.std.specs.Vec.{with_items}
use Rattle.futures.specs.declared.task.Poll.{Poll}
use Rattle.futures.specs.declared.task.Poll.TheVariants.{Ready}
use Rattle.kp_engine.specs.Cluster.{PollsCluster}
use Rattle.kp_engine.specs.declared.cluster.ClusterEngine.{ClusterEngine}
use Rattle.kp_engine.specs.Lines.{RoundsEach}
use Rattle.kp_engine.specs.declared.node_line.NodeLine.{NodeLine}
use Rattle.kp_engine.specs.declared.stop.Stop.{Stop}
use Rattle.kp_engine.specs.declared.stop.Stop.TheVariants.{Done, NeedStream, OutOfMemory}
use Rattle.kp_engine.proofs.LineLemmas.{rounds_as_many}
use Rattle.kp_engine.proofs.cluster.ClusterEngine.poll_turns.Goals as goal

pub returns-in-Some-clause-polls : goal.returns-in-Some-clause-polls
returns-in-Some-clause-polls g c = PollsCluster.was_over c.in-Some.stop c.in-Some.is

pub returns-in-Done-clause-polls : goal.returns-in-Done-clause-polls
returns-in-Done-clause-polls g c =
    subst (λ (r : Poll Stop). PollsCluster g.S.Stream.answers g.C.Clock.moments c.args.self.now r c.stop.new.self) (sym c.stop.ensures.ready)
    (subst (λ (e : ClusterEngine _ _). PollsCluster g.S.Stream.answers g.C.Clock.moments c.args.self.now (Ready Done) e) (sym c.stop.ensures.over)
    (PollsCluster.is_over _ Done c.in-None.is (record {
      turn = record {
        node = 4294967295;
        now = c.now-now.result;
        begun = c.clear.new.self;
        cleared = c.clear.ensures;
        calls = c.in-Done.ensures.turns.0;
        turns = c.in-Done.ensures.turns.1;
        undone = c.in-Done.ensures.undone;
      };
      told = c.now-now.ensures;
    }) (λ goes. goes) refl refl))

pub returns-in-OutOfMemory-clause-polls : goal.returns-in-OutOfMemory-clause-polls
returns-in-OutOfMemory-clause-polls g c =
    subst (λ (r : Poll Stop). PollsCluster g.S.Stream.answers g.C.Clock.moments c.args.self.now r c.stop-in-OutOfMemory.new.self) (sym c.stop-in-OutOfMemory.ensures.ready)
    (subst (λ (e : ClusterEngine _ _). PollsCluster g.S.Stream.answers g.C.Clock.moments c.args.self.now (Ready OutOfMemory) e) (sym c.stop-in-OutOfMemory.ensures.over)
    (PollsCluster.is_over _ OutOfMemory c.in-None.is (record {
      turn = record {
        node = 4294967295;
        now = c.now-now.result;
        begun = c.clear.new.self;
        cleared = c.clear.ensures;
        calls = c.in-OutOfMemory.ensures.turns.0;
        turns = c.in-OutOfMemory.ensures.turns.1;
        undone = c.in-OutOfMemory.ensures.undone;
      };
      told = c.now-now.ensures;
    }) (λ goes. goes) refl refl))

pub returns-in-Ok-clause-polls : goal.returns-in-Ok-clause-polls
returns-in-Ok-clause-polls g c =
    PollsCluster.goes_on (record {
      alloc = c.args.self.now.alloc;
      exchange = c.poll_rounds.new.exchange;
      clock = c.now-now.new.self;
      lines = with_items c.args.self.now.lines c.poll_rounds.new.lines;
      over = c.args.self.now.over;
    }) (NeedStream c.in-NeedStream.field-0) c.turn_away.new.exchange (Ok tt) c.in-None.is (record {
      turn = record {
        node = 4294967295;
        now = c.now-now.result;
        begun = c.clear.new.self;
        cleared = c.clear.ensures;
        calls = c.in-NeedStream.ensures.turns.0;
        turns = c.in-NeedStream.ensures.turns.1;
        undone = c.in-NeedStream.ensures.undone;
      };
      told = c.now-now.ensures;
    }) tt
    (subst (RoundsEach g.S.Stream.answers c.now-now.result c.turn_away.new.exchange c.args.self.now.lines.items (Ok tt) c.poll_rounds.new.exchange)
    (sym (with_items_is c.args.self.now.lines c.poll_rounds.new.lines (rounds_as_many g.S.Stream.answers c.now-now.result c.turn_away.new.exchange c.poll_rounds.new.exchange c.deref_mut.result.now c.poll_rounds.new.lines (Ok tt) c.in-Ok.ensures.rounds ∙ c.deref_mut.ensures.len)))
    (subst (λ (ls : List (NodeLine _)). RoundsEach g.S.Stream.answers c.now-now.result c.turn_away.new.exchange ls (Ok tt) c.poll_rounds.new.exchange c.poll_rounds.new.lines) c.deref_mut.ensures.value c.in-Ok.ensures.rounds))
    c.in-None.is

pub returns-in-Err-clause-polls : goal.returns-in-Err-clause-polls
returns-in-Err-clause-polls g c =
    subst (λ (r : Poll Stop). PollsCluster g.S.Stream.answers g.C.Clock.moments c.args.self.now r c.stop-in-Err.new.self) (sym c.stop-in-Err.ensures.ready)
    (subst (λ (e : ClusterEngine _ _). PollsCluster g.S.Stream.answers g.C.Clock.moments c.args.self.now (Ready OutOfMemory) e) (sym c.stop-in-Err.ensures.over)
    (PollsCluster.goes_on (record {
      alloc = c.args.self.now.alloc;
      exchange = c.poll_rounds.new.exchange;
      clock = c.now-now.new.self;
      lines = with_items c.args.self.now.lines c.poll_rounds.new.lines;
      over = Some OutOfMemory;
    }) (NeedStream c.in-NeedStream.field-0) c.turn_away.new.exchange (Err c.in-Err.field-0) c.in-None.is (record {
      turn = record {
        node = 4294967295;
        now = c.now-now.result;
        begun = c.clear.new.self;
        cleared = c.clear.ensures;
        calls = c.in-NeedStream.ensures.turns.0;
        turns = c.in-NeedStream.ensures.turns.1;
        undone = c.in-NeedStream.ensures.undone;
      };
      told = c.now-now.ensures;
    }) tt
    (subst (RoundsEach g.S.Stream.answers c.now-now.result c.turn_away.new.exchange c.args.self.now.lines.items (Err c.in-Err.field-0) c.poll_rounds.new.exchange)
    (sym (with_items_is c.args.self.now.lines c.poll_rounds.new.lines (rounds_as_many g.S.Stream.answers c.now-now.result c.turn_away.new.exchange c.poll_rounds.new.exchange c.deref_mut.result.now c.poll_rounds.new.lines (Err c.in-Err.field-0) c.in-Err.ensures.rounds ∙ c.deref_mut.ensures.len)))
    (subst (λ (ls : List (NodeLine _)). RoundsEach g.S.Stream.answers c.now-now.result c.turn_away.new.exchange ls (Err c.in-Err.field-0) c.poll_rounds.new.exchange c.poll_rounds.new.lines) c.deref_mut.ensures.value c.in-Err.ensures.rounds))
    refl))
