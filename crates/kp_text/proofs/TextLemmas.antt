-- Text that is put together from the texts of a list's elements.
use Rattle.std.proofs.Common.{◌≡◌, ℕ, ◌+◌, ◌<◌, ◌≤◌, List, ◌++◌, length, get_or, drop, ap, sym, ◌∙◌, append_assoc, append-nil}
use Rattle.std.proofs.lemmas.List.{drop_more, drop_all}
use Rattle.std.specs.Prelude.{flat_map}

module _ {X : Type 0} (f : X → List ℕ) (xs : List X) (i : ℕ) (out whole : List ℕ) where
  -- behind the texts of the first elements stands the next one's
  pub text_step : (d : X) (next : List ℕ) → i < length xs → out ++ flat_map f (drop i xs) ≡ whole
      → next ≡ out ++ f (get_or xs i d) → next ++ flat_map f (drop (i + 1) xs) ≡ whole
  text_step d next within before put =
      let later = flat_map f (drop (i + 1) xs) in
      ap (λ (text : List ℕ). text ++ later) put ∙ append_assoc out (f (get_or xs i d)) later
      ∙ sym (ap (λ (zs : List X). out ++ flat_map f zs) (drop_more xs i d within)) ∙ before

  -- all texts are there
  pub text_done : length xs ≤ i → out ++ flat_map f (drop i xs) ≡ whole → out ≡ whole
  text_done past before = sym (append-nil out) ∙ sym (ap (λ (zs : List X). out ++ flat_map f zs) (drop_all i xs past)) ∙ before

-- three texts that were put one behind the other
pub three_texts : (a b d out one two three : List ℕ) → one ≡ out ++ a → two ≡ one ++ b → three ≡ two ++ d → three ≡ out ++ (a ++ b ++ d)
three_texts a b d out one two three first second third =
    third ∙ ap (λ (text : List ℕ). text ++ d) (second ∙ ap (λ (text : List ℕ). text ++ b) first ∙ append_assoc out a b) ∙ append_assoc out (a ++ b) d
