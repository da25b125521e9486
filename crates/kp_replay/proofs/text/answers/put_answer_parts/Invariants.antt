use Rattle.std.proofs.Common.{◌≡◌, ◌++◌, drop}
use Rattle.std.specs.Prelude.{flat_map}
use Rattle.kp_world.specs.Text.{answer_part_text}
use Rattle.kp_replay.specs.Line.{answer_part}
use Rattle.kp_replay.proofs.text.answers.put_answer_parts.Given as goal

abbrev pub invariant-loop-part : goal.invariant-loop-part
invariant-loop-part l = l.out.items ++ flat_map (λ x. answer_part_text (answer_part x)) (drop l.part-index l.parts) ≡ l.initial.out.items ++ flat_map (λ x. answer_part_text (answer_part x)) l.parts
