-- One port of many changes.
use Rattle.std.proofs.Common.{◌≡◌, ℕ, zero, suc, ◌+◌, ◌<◌, ◌≢◌, List, [], ◌∷◌, ◌++◌, map, length, length-append, get_or, set, sym, refl, ap, ◌∙◌, subst, arith}
use Rattle.std.specs.Prelude.{All, Option, Some, None, Result, Ok, Err, IfSome, IfNone, IfErr, OnOk}
use Rattle.std.proofs.lemmas.List.{map-set}
use Rattle.std.proofs.Math.Seq.{map-set_same}
use mathlib.Core.List.{map-append}
use Rattle.std.proofs.lemmas.List.{length-map, get_or_push, get_or_append_left}
use mathlib.Core.Logic.{dite}
use native.Mathlib.Decide.{ℕ_discrete}
use Rattle.kp_lanes.specs.Intake.{numbers_below}
use Rattle.kp_lanes.specs.Lane.{LaneId}
use Rattle.kp_lanes.specs.Sender.{sender_number, sender_id, IsSenderOf}
use Rattle.kp_lanes.specs.declared.sender.Sender.{Sender}

module _ {A : Type 0} where
  pub here : {B : Type 0} (f : A → B) (l : List A) (i : ℕ) (p : A) (d : B) → i < length l → p ≡ get_or l i p → get_or (map f l) i d ≡ f p
  here f [] i p d near is = absurd (omega arith)
  here f (x ∷ xs) zero p d near is = ap f (sym is)
  here f (x ∷ xs) (suc i) p d near is = here f xs i p d (omega arith) is

  pub here_set : {B : Type 0} (f : A → B) (l : List A) (i : ℕ) (q : A) (d : B) → i < length l → get_or (map f (set l i q)) i d ≡ f q
  here_set f [] i q d near = absurd (omega arith)
  here_set f (x ∷ xs) zero q d near = refl
  here_set f (x ∷ xs) (suc i) q d near = here_set f xs i q d (omega arith)

  pub else_set : {B : Type 0} (f : A → B) (l : List A) (i k : ℕ) (q : A) (d : B) → k ≢ i → get_or (map f (set l i q)) k d ≡ get_or (map f l) k d
  else_set f [] i k q d other = refl
  else_set f (x ∷ xs) zero zero q d other = absurd (other refl)
  else_set f (x ∷ xs) zero (suc k) q d other = refl
  else_set f (x ∷ xs) (suc i) zero q d other = refl
  else_set f (x ∷ xs) (suc i) (suc k) q d other = else_set f xs i k q d (λ e. other (ap suc e))

  -- what a change of one does to it
  pub related : {B : Type 0} (R : B → B → Type 0) (f : A → B) (l : List A) (i : ℕ) (p q : A) (d : B) → i < length l → p ≡ get_or l i p → R (f p) (f q) → R (get_or (map f l) i d) (get_or (map f (set l i q)) i d)
  related R f l i p q d near is r = subst (λ x. R x (get_or (map f (set l i q)) i d)) (sym (here f l i p d near is)) (subst (λ y. R (f p) y) (sym (here_set f l i q d near)) r)

  -- what a change of one port leaves as it was
  pub kept : {B : Type 0} (f : A → B) (l : List A) (i : ℕ) (p q : A) → p ≡ get_or l i p → f q ≡ f p → map f (set l i q) ≡ map f l
  kept f l i p q is same = map-set_same f l i q p (same ∙ ap f is)

  -- a list of one port grows by x
  pub grown : {X : Type 0} (f : A → List X) (l : List A) (i : ℕ) (p q : A) (x : X) → i < length l → p ≡ get_or l i p → f q ≡ f p ++ x ∷ []
      → map f (set l i q) ≡ set (map f l) i (get_or (map f l) i [] ++ x ∷ [])
  grown f l i p q x near is more = map-set f l i q ∙ ap (λ ys. set (map f l) i ys) (more ∙ ap (λ ys. ys ++ x ∷ []) (sym (here f l i p [] near is)))

  pub if_some : {P Q R : A → Type 0} (o : Option A) → ((x : A) → P x → Q x → R x) → IfSome o P → IfSome o Q → IfSome o R
  if_some (Some x) step p q = step x p q
  if_some None step p q = p

  pub if_none : {P Q : Type 0} (o : Option A) → (P → Q) → IfNone o P → IfNone o Q
  if_none (Some x) step p = p
  if_none None step p = step p

  pub on_ok : {B : Type 0} {P Q : Type 0} (r : Result A B) → (P → Q) → OnOk r P → OnOk r Q
  on_ok (Ok x) step p = step p
  on_ok (Err e) step p = p

  pub if_err : {B : Type 0} {P Q : B → Type 0} (r : Result A B) → ((e : B) → P e → Q e) → IfErr r P → IfErr r Q
  if_err (Ok x) step p = p
  if_err (Err e) step p = step e p

pub map_push : {A B : Type 0} (f : A → B) (xs ys : List A) (x : A) (bs : List B) (b : B) → ys ≡ xs ++ x ∷ [] → map f xs ≡ bs → f x ≡ b → map f ys ≡ bs ++ b ∷ []
map_push f xs ys x bs b is before new = ap (map f) is ∙ map-append f xs (x ∷ []) ∙ (λ i. before i ++ new i ∷ [])

pub numbers_more : (n : ℕ) → numbers_below (n + 1) ≡ numbers_below n ++ n ∷ []
numbers_more n = let e : n + 1 ≡ suc n = omega arith in ap numbers_below e

-- what holds of each, seen through a map
pub all_map : {A B : Type 0} (P : A → Type 0) (Q : B → Type 0) (f : A → B) (xs : List A) → ((x : A) → P x → Q (f x)) → All P xs → All Q (map f xs)
all_map P Q f [] each all k d below = absurd (omega arith)
all_map P Q f (x ∷ xs) each all zero d below = each x (all zero x (omega arith))
all_map P Q f (x ∷ xs) each all (suc k) d below = all_map P Q f xs each (λ i e near. all (suc i) e (omega arith)) k d (omega arith)

pub length_below : (n : ℕ) → length (numbers_below n) ≡ n
length_below zero = refl
length_below (suc n) = let r = length_below n in length-append (numbers_below n) (n ∷ []) ∙ omega arith

pub at_below : (n k d : ℕ) → k < n → get_or (numbers_below n) k d ≡ k
at_below zero k d below = absurd (omega arith)
at_below (suc n) k d below = let long = length_below n in dite (ℕ_discrete k n)
    (λ same. get_or_push (numbers_below n) n d k (long ∙ sym same) ∙ sym same)
    (λ other. get_or_append_left (numbers_below n) (n ∷ []) d k (omega arith) ∙ at_below n k d (omega arith))

pub same_default : {A : Type 0} (l : List A) (k : ℕ) (d e : A) → k < length l → get_or l k d ≡ get_or l k e
same_default [] k d e near = absurd (omega arith)
same_default (x ∷ xs) zero d e near = refl
same_default (x ∷ xs) (suc k) d e near = same_default xs k d e (omega arith)

-- each sender's number names its lane
pub senders_of : (lanes : List LaneId) (ss : List Sender) → map sender_number ss ≡ numbers_below (length ss) → map sender_id ss ≡ lanes → All (IsSenderOf lanes) ss
senders_of lanes ss numbers meet k d below =
    let s : Sender = get_or ss k d in let is : s ≡ get_or ss k s = same_default ss k d s below in
    let number : sender_number s ≡ k = sym (here sender_number ss k s 0 below is) ∙ (ap (λ l. get_or l k 0) numbers ∙ at_below (length ss) k 0 below) in
    let wide : length lanes ≡ length ss = ap length (sym meet) ∙ length-map ss sender_id in (
      omega arith,
      ap (λ n. get_or lanes n (sender_id s)) number ∙ (ap (λ l. get_or l k (sender_id s)) (sym meet) ∙ here sender_id ss k s (sender_id s) below is),
    )
