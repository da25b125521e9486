-- What is made of a choice.
use Rattle.std.proofs.Common.{◌≡◌, Bool, true, false, cond, refl}

-- what is made of what was chosen is chosen of what is made of both
pub cond_under : {A B : Type 0} (f : A → B) (b : Bool) (x y : A) → f (cond b x y) ≡ cond b (f x) (f y)
cond_under f true x y = refl
cond_under f false x y = refl
