use Rattle.std.proofs.Common.{◌≡◌}
use Rattle.kp_publish.specs.Publishing.{GoesOn}
use Rattle.kp_publish.proofs.publishing.Publishing.hear.Given as goal

-- calls have led here from the beginning, and the files are as they were
abbrev pub invariant-loop : goal.invariant-loop
invariant-loop g l = GoesOn l.fn.self.sender l.fn.texts l.self.sender l.texts × (l.self.files ≡ l.fn.self.files)
