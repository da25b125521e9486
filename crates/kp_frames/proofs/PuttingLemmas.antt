-- What was appended field by field.
use Rattle.std.proofs.Common.{◌≡◌, ℕ, List, ◌++◌}
use Rattle.kp_wire.proofs.ReadLemmas.{then_put}

pub four_put : (o p q r s a b c d : List ℕ) → p ≡ o ++ a → q ≡ p ++ b → r ≡ q ++ c → s ≡ r ++ d → s ≡ o ++ (a ++ (b ++ (c ++ d)))
four_put o p q r s a b c d e f g h = then_put o p s a (b ++ (c ++ d)) e (then_put p q s b (c ++ d) f (then_put q r s c d g h))
