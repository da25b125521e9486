use Rattle.std.proofs.Common.{◌≡◌, ◌++◌, drop}
use Rattle.std.specs.Prelude.{flat_map}
use Rattle.kp_replay.specs.Text.{noted_by, noted_text}
use Rattle.kp_replay.proofs.text.past.put_past.Given as goal

abbrev pub invariant-loop-happened : goal.invariant-loop-happened
invariant-loop-happened l = l.out.items ++ flat_map (λ h. noted_text (noted_by h)) (drop l.happened-index l.past) ≡ l.initial.out.items ++ flat_map (λ h. noted_text (noted_by h)) l.past
