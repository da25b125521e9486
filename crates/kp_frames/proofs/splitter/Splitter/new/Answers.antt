use Rattle.std.proofs.Common.{subst, sym, List, ℕ}
use Rattle.kp_frames.specs.declared.splitter.Tail.TheVariants.{Open}
use Rattle.kp_frames.specs.Held.{IsInOrder}
use Rattle.kp_frames.proofs.HeldLemmas.{held_none}
use Rattle.kp_frames.proofs.splitter.Splitter.new.Goals as goal

pub invariant_of-result : goal.invariant_of-result
invariant_of-result c = subst (λ (bytes : List ℕ). IsInOrder bytes 0 0 Open) (sym c.new.ensures.items) held_none
