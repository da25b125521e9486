use Rattle.std.proofs.Common.{◌≡◌, []}
use Rattle.kp_publish.specs.Publishing.{Draws}
use Rattle.kp_publish.proofs.publishing.Publishing.send_piece.Given as goal

-- calls have led here from the beginning, the bytes that they took are those that stood in front, and the files are as they were
abbrev pub invariant-loop : goal.invariant-loop
invariant-loop g l = Draws [] l.fn.self.input l.fn.self.sender l.fn.texts l.self.input l.self.sender l.texts × (l.self.files ≡ l.fn.self.files)
