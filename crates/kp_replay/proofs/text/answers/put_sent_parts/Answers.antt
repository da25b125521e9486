use Rattle.std.proofs.Common.{ℕ, ◌<◌, ◌≤◌, List, ◌++◌, ◌∙◌, ap, sym, length, arith}
use Rattle.std.proofs.lemmas.List.Folds.{flat_map-map}
use Rattle.kp_world.specs.Text.{sent_part_text}
use Rattle.kp_replay.specs.Line.{sent_part}
use Rattle.kp_text.proofs.TextLemmas.{text_done, text_step}
use Rattle.kp_replay.proofs.text.answers.put_sent_parts.Goals as goal

pub loop-part-preserved : goal.loop-part-preserved
loop-part-preserved c =
    let within : c.loop-part.part-index < length c.args.parts.now = omega arith in
    text_step (λ x. sent_part_text (sent_part x)) c.args.parts.now c.loop-part.part-index c.loop-part.out.items _ _ _ within c.loop-part.invariant c.in_ok-put_sent_part.ensures

pub returns : goal.returns
returns c =
    let parts = c.args.parts.now in
    let past : length parts ≤ c.loop-part.part-index = omega arith in
    text_done (λ x. sent_part_text (sent_part x)) parts c.loop-part.part-index c.loop-part.out.items _ past c.loop-part.invariant
    ∙ ap (λ (text : List ℕ). c.args.out.now.items ++ text) (sym (flat_map-map sent_part_text sent_part parts))
