-- One more that is for one more.
use Rattle.std.proofs.Common.{◌≡◌, ℕ, ◌+◌, ◌<◌, List, [], ◌∷◌, ◌++◌, length, take, get_or, replicate, sym, subst, ◌∙◌}
use Rattle.std.proofs.lemmas.List.{replicate_more, take_more}
use Rattle.kp_replay.specs.Shown.{Each}

pub each-more : {A B : Type 0} (R : A → B → Type 0) (xs : List A) (ys : List B) (x : A) (y : B) → R x y → Each R xs ys → Each R (xs ++ x ∷ []) (ys ++ y ∷ [])
each-more R [] [] x y one all = (one, tt)
each-more R (x' ∷ xs) (y' ∷ ys) x y one all = (all.0, each-more R xs ys x y one all.1)
each-more R [] (y' ∷ ys) x y one all = absurd all
each-more R (x' ∷ xs) [] x y one all = absurd all

-- as far as the next one
pub each-next : {A B : Type 0} (R : A → B → Type 0) (xs : List A) (ys zs : List B) (i : ℕ) (x : A) (y : B) → i < length xs → x ≡ get_or xs i x → R x y → zs ≡ ys ++ y ∷ [] → Each R (take i xs) ys → Each R (take (i + 1) xs) zs
each-next R xs ys zs i x y inside at one more all =
    subst (Each R (take (i + 1) xs)) (sym more)
    (subst (λ (ts : _). Each R ts (ys ++ y ∷ [])) (sym (take_more xs i x inside))
    (each-more R (take i xs) ys (get_or xs i x) y (subst (λ z. R z y) at one) all))

-- one more that is as the others are
pub copies-next : {A : Type 0} (n : ℕ) (x y : A) (xs zs : List A) → zs ≡ xs ++ y ∷ [] → xs ≡ replicate n x → y ≡ x → zs ≡ replicate (n + 1) x
copies-next n x y xs zs more copies one = more ∙ (λ i. copies i ++ one i ∷ []) ∙ replicate_more n x
