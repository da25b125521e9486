use Rattle.std.proofs.Common.{◌≡◌, ℕ, List, ◌++◌, length, take, Some, refl, sym, ap, ◌∙◌}
use Rattle.std.proofs.lemmas.List.{take_at}
use Rattle.kp_c.proofs.connections.copy_address.Goals as goal

front_is : (name bytes copy rest : List ℕ) → bytes ≡ name → copy ≡ bytes → name ≡ take (length bytes) (copy ++ rest)
front_is name bytes copy rest read copied = sym (ap (λ (l : List ℕ). take (length bytes) (l ++ rest)) copied ∙ take_at bytes rest (length bytes) refl ∙ read)

pub returns : goal.returns
returns c = λ _. c.in-Some.ensures
    ∙ ap (λ (host : List ℕ). Some (host, c.in-Some.number)) (front_is c.in-Some.name.now _ _ _ c.as_bytes-name.ensures.value c.copy_from_slice.ensures.after)
