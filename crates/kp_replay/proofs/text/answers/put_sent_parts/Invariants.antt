use Rattle.std.proofs.Common.{◌≡◌, ◌++◌, drop}
use Rattle.std.specs.Prelude.{flat_map}
use Rattle.kp_world.specs.Text.{sent_part_text}
use Rattle.kp_replay.specs.Line.{sent_part}
use Rattle.kp_replay.proofs.text.answers.put_sent_parts.Given as goal

abbrev pub invariant-loop-part : goal.invariant-loop-part
invariant-loop-part l = l.out.items ++ flat_map (λ x. sent_part_text (sent_part x)) (drop l.part-index l.parts) ≡ l.initial.out.items ++ flat_map (λ x. sent_part_text (sent_part x)) l.parts
