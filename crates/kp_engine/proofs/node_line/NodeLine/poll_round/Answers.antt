use Rattle.std.proofs.Common.{ap, rules, sym, ◌∙◌}
use Rattle.std.specs.Prelude.{Option, Ok, Err}
use Rattle.kp_engine.specs.Rounds.{line_behind}
use Rattle.kp_engine.specs.declared.engine.Line.TheVariants.{Stopped}
use Rattle.kp_engine.specs.declared.stop.Cause.{Cause}
use Rattle.kp_engine.specs.declared.stop.Stop.TheVariants.{OutOfMemory}
use Rattle.kp_engine.proofs.LineLemmas.{round_over}
use Rattle.kp_engine.proofs.node_line.NodeLine.poll_round.Goals as goal

pub returns-in-Ok-None-clause-round : goal.returns-in-Ok-None-clause-round
returns-in-Ok-None-clause-round g c = record {
  round = round_over g.S.Stream.answers c.args.now c.args.self.now c.in-Open.wire c.args.exchange.now c.hear_behind.new.self c.round.new.exchange c.most_requests-most.result (Ok tt)
      (line_behind (Ok c.in-Ok-None.field-0) c.round.new.wire) c.note_replies.new.self.line c.in-Open.is c.hear_behind.ensures c.most_requests-most.ensures c.in-Ok-None.ensures.rounds
      (c.note_replies.ensures.line ∙ sym (ap (λ (told : Option Cause). line_behind (Ok told) c.round.new.wire) c.in-Ok-None.field-0-is)) (search rules);
  node = search rules;
  knows = search rules;
}

pub returns-in-Ok-Some-clause-round : goal.returns-in-Ok-Some-clause-round
returns-in-Ok-Some-clause-round g c = record {
  round = round_over g.S.Stream.answers c.args.now c.args.self.now c.in-Open.wire c.args.exchange.now c.hear_behind.new.self c.round.new.exchange c.most_requests-most.result (Ok tt)
      (line_behind (Ok c.in-Ok-Some.field-0) c.round.new.wire) c.give_up.new.line c.in-Open.is c.hear_behind.ensures c.most_requests-most.ensures c.in-Ok-Some.ensures.rounds
      (c.give_up.ensures ∙ sym (ap (λ (told : Option Cause). line_behind (Ok told) c.round.new.wire) c.in-Ok-Some.field-0-is)) (search rules);
  node = search rules;
  knows = search rules;
}

pub returns-in-Err-clause-round : goal.returns-in-Err-clause-round
returns-in-Err-clause-round g c = record {
  round = round_over g.S.Stream.answers c.args.now c.args.self.now c.in-Open.wire c.args.exchange.now c.hear_behind.new.self c.round.new.exchange c.most_requests-most.result (Err c.in-Err.refused)
      (Stopped OutOfMemory) c.give_up-in-Err.new.line c.in-Open.is c.hear_behind.ensures c.most_requests-most.ensures c.in-Err.ensures.rounds c.give_up-in-Err.ensures (search rules);
  node = search rules;
  knows = search rules;
}
