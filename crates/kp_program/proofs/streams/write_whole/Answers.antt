use Rattle.std.proofs.Common.{◌≡◌, ◌++◌, ◌∙◌, List, ℕ, ap, sym, append_assoc}
use Rattle.std.proofs.lemmas.List.{take-append-drop}
use Rattle.std.proofs.KnownBytes.{Appends-trans}
use Rattle.kp_program.proofs.streams.write_whole.Goals as goal

pub loop-rest-preserved : goal.loop-rest-preserved
loop-rest-preserved g c =
    let done = c.loop-rest.invariant.0 in
    let piece = c.split_at.result.0.now in
    let behind = c.split_at.result.1.now in
    let halves : piece ++ behind ≡ c.loop-rest.rest.now = rw (c.split_at.ensures.front, c.split_at.ensures.back) (take-append-drop c.min.result c.loop-rest.rest.now) in (
      done ++ piece,
      c.loop-rest.invariant.1 ∙ ap (λ (ys : List ℕ). done ++ ys) (sym halves) ∙ sym (append_assoc done piece behind),
      Appends-trans (g.O.Write.contents c.args.out.now) (g.O.Write.contents c.loop-rest.out) (g.O.Write.contents c.write_all.new.self)
          done piece c.loop-rest.invariant.2 c.in_ok-write_all.ensures.bytes,
    )
