use Rattle.std.proofs.Common.{◌≡◌, ℕ, List, length, min, subst}
use Rattle.kp_c.proofs.words.copy_words.Goals as goal

count_same : (count room : ℕ) (bytes words : List ℕ) → bytes ≡ words → count ≡ min (length bytes) room → count ≡ min (length words) room
count_same count room bytes words same is = subst (λ (w : List ℕ). count ≡ min (length w) room) same is

pub returns-clause-count : goal.returns-clause-count
returns-clause-count c = count_same _ _ _ _ c.as_bytes-words.ensures.value (assumption c)
