use Rattle.std.proofs.Common.{ap, ◌∙◌, refl}
use Rattle.kp_wire.specs.Hash.{start, murmur2, with_word, finished}
use Rattle.kp_wire.proofs.HashLemmas.{words_none, left_all, left_behind, fold_front}
use Rattle.kp_wire.proofs.hash.murmur2.Goals as goal

pub loop-rest-init : goal.loop-rest-init
unfolding start
loop-rest-init c = record { hashed = refl; behind = refl }

pub loop-rest-preserved : goal.loop-rest-preserved
loop-rest-preserved c = record {
  hashed = fold_front c.loop-rest.rest.now c.loop-rest.hash c.add_word-hash.result c.in-len4-up.len_at_least
      (c.add_word-hash.ensures ∙ ap (with_word c.loop-rest.hash) c.from_le_bytes.ensures)
      ∙ c.loop-rest.invariant.hashed;
  behind = left_behind c.loop-rest.rest.now c.in-len4-up.len_at_least ∙ c.loop-rest.invariant.behind;
}

pub returns : goal.returns
unfolding murmur2
returns c =
    let hashed = rw (words_none c.loop-rest.rest.now c.in_default.len_below) at c.loop-rest.invariant.hashed in
    let behind = rw (left_all c.loop-rest.rest.now c.in_default.len_below) at c.loop-rest.invariant.behind in
    rw (← hashed, ← behind) (c.finish.ensures ∙ ap finished c.add_left.ensures)
