use Rattle.std.proofs.Common.{ℕ, List, subst}
use Rattle.kprod_replay.specs.Replays.{IsReplayOf}
use Rattle.kprod_replay.proofs.PrintLemmas.{prints_replay}
use Rattle.kprod_replay.proofs.program.replay_file.Goals as goal

pub returns-in-Ok : goal.returns-in-Ok
returns-in-Ok g c = record {
  input = λ dash.
      let text = c.in_ok-text.text.items in
      let is = subst (λ (read : List ℕ). IsReplayOf read text) c.as_slice.ensures.value c.in_ok-text.ensures.text in
      prints_replay (g.I.Read.remaining c.args.input.now) c.in_ok-bytes.bytes.items text
      (g.O.Write.contents c.args.out.now) (g.O.Write.contents c.write_whole.new.out) (c.in_ok-bytes.ensures.input dash) is
      (rw c.as_slice-2.ensures.value at c.in-Ok.ensures);
}
