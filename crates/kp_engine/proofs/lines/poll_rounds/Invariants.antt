use Rattle.std.proofs.Common.{take}
use Rattle.futures.specs.Task.{Keeps}
use Rattle.kp_engine.proofs.LineLemmas.{AllWake, Carries}
use Rattle.kp_engine.proofs.lines.poll_rounds.Given as goal

abbrev pub invariant-loop-line : goal.invariant-loop-line
invariant-loop-line g l = record {
  carries : Carries g.S.Stream.answers l.fn.now l.fn.exchange l.fn.lines l.exchange l.lines l.line-index;
  keeps : Keeps l.fn.cx l.cx;
  wake : AllWake g.S.Stream.reader l.cx (take l.line-index l.lines);
}
