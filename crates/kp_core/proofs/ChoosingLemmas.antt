-- Which partitions send, and how much of it fits into a request.
use Rattle.std.proofs.Common.{◌≡◌, ◌∙◌, ℕ, ◌+◌, ◌-◌, ◌<◌, ◌≤◌, Bool, true, false, List, [], ◌∷◌, ◌++◌, length, get_or, take, drop, refl, sym, ap, arith}
use Rattle.std.specs.Prelude.{if◌then◌else◌, nat_le}
use Rattle.std.proofs.lemmas.Bool.Decides.{nat_tests}
use Rattle.std.proofs.lemmas.List.{append-nil, append_assoc, drop_all, take_all, take_more}
use Rattle.kp_accum.specs.Queue.{size_of}
use Rattle.kp_wire.proofs.ListLemmas.{drop_here}
use Rattle.kp_rules.specs.Next.{Sending, fitting}

-- ---- as far as they fit

abbrev by_size : ℕ → ℕ → Sending → List Sending → List Sending
by_size room size x xs = if nat_le size room then x ∷ fitting (room - size) xs else []

abbrev by_test : Bool → ℕ → ℕ → Sending → List Sending → List Sending
by_test enough room size x xs = if enough then x ∷ fitting (room - size) xs else []

fitting-cons : (room : ℕ) (x : Sending) (xs : List Sending) → fitting room (x ∷ xs) ≡ by_size room (size_of x.batch.items) x xs
unfolding fitting
fitting-cons room x xs = refl

pub fitting-nil : (room : ℕ) → fitting room [] ≡ []
unfolding fitting
fitting-nil room = refl

fits : (n m : ℕ) → n ≤ m → nat_le n m ≡ true
fits n m l = grind (arith, nat_tests)

fits_not : (n m : ℕ) → m < n → nat_le n m ≡ false
fits_not n m l = grind (arith, nat_tests)

-- the next one fits
pub fitting_here : (room k size : ℕ) (xs : List Sending) (x : Sending) → k < length xs → x ≡ get_or xs k x → size ≡ size_of x.batch.items → size ≤ room
    → take (k + 1) xs ++ fitting (room - size) (drop (k + 1) xs) ≡ take k xs ++ fitting room (drop k xs)
fitting_here room k size xs x there is same enough =
    let rest = drop (k + 1) xs in
    let next : fitting room (drop k xs) ≡ x ∷ fitting (room - size) rest =
    ap (fitting room) (drop_here xs k x there is) ∙ fitting-cons room x rest ∙ ap (λ (n : ℕ). by_size room n x rest) (sym same)
    ∙ ap (λ (b : Bool). by_test b room size x rest) (fits size room enough) in
    ap (λ (ys : List Sending). ys ++ fitting (room - size) rest) (take_more xs k x there)
    ∙ ap (λ (y : Sending). (take k xs ++ y ∷ []) ++ fitting (room - size) rest) (sym is)
    ∙ append_assoc (take k xs) (x ∷ []) (fitting (room - size) rest)
    ∙ ap (λ (ys : List Sending). take k xs ++ ys) (sym next)

-- it does not
pub fitting_past : (room k size : ℕ) (xs : List Sending) (x : Sending) → k < length xs → x ≡ get_or xs k x → size ≡ size_of x.batch.items → room < size
    → take k xs ≡ take k xs ++ fitting room (drop k xs)
fitting_past room k size xs x there is same more =
    let rest = drop (k + 1) xs in
    let none : fitting room (drop k xs) ≡ [] =
    ap (fitting room) (drop_here xs k x there is) ∙ fitting-cons room x rest ∙ ap (λ (n : ℕ). by_size room n x rest) (sym same)
    ∙ ap (λ (b : Bool). by_test b room size x rest) (fits_not size room more) in
    sym (append-nil (take k xs)) ∙ ap (λ (ys : List Sending). take k xs ++ ys) (sym none)

-- there are no more
pub fitting_all : (room k : ℕ) (xs : List Sending) → length xs ≤ k → take (length xs) xs ≡ take k xs ++ fitting room (drop k xs)
fitting_all room k xs end =
    let none : fitting room (drop k xs) ≡ [] = ap (fitting room) (drop_all k xs end) ∙ fitting-nil room in
    take_all (length xs) xs (omega arith) ∙ sym (take_all k xs end) ∙ sym (append-nil (take k xs)) ∙ ap (λ (ys : List Sending). take k xs ++ ys) (sym none)
