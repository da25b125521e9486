-- What one more entry changes.
use Rattle.std.proofs.Common.{◌≡◌, ℕ, zero, suc, ◌+◌, ◌<◌, ◌≤◌, Bool, true, false, List, [], ◌∷◌, ◌++◌, length, length-append, length-take-le, take, take-append-drop, drop, get_or, set, length-set, get_or-set_same, get_or-set_other, append_assoc, eq-eqb, ne_eqb, sym, refl, ap, ◌∙◌, ◌⊎◌, ⊎_elim, inl, inr, subst, arith}
use Rattle.std.specs.Prelude.{if◌then◌else◌, ◌==◌, Result, Ok, Err, OnOk, IfErr}
use Rattle.std.proofs.lemmas.List.{drop-append-le}
use mathlib.Core.List.{IsPrefix}
use mathlib.Core.Logic.{dite}
use native.Mathlib.Decide.{ℕ_discrete}
use Rattle.kp_accum.specs.declared.item.Item.{Item}
use Rattle.kp_lanes.specs.Entries.{items_of, has_mark, one_of, count_of, Counted, IsNext, MarksFollow, TookMark}
use Rattle.kp_lanes.specs.Limits.{AreInPlace, Meets}
use Rattle.kp_lanes.specs.Port.{HasNothing}
use Rattle.kp_lanes.specs.declared.limits.Limits.{Limits}
use Rattle.kp_lanes.specs.declared.entry.Entry.{Entry}
use Rattle.kp_lanes.specs.declared.entry.Entry.TheVariants.{Sent, Mark}

pub items_mark : (es : List Entry) → items_of (es ++ Mark ∷ []) ≡ items_of es
items_mark [] = refl
items_mark (Sent x ∷ es) = ap (λ l. x ∷ l) (items_mark es)
items_mark (Mark ∷ es) = items_mark es

pub items_sent : (es : List Entry) (x : Item) → items_of (es ++ Sent x ∷ []) ≡ items_of es ++ x ∷ []
items_sent [] x = refl
items_sent (Sent y ∷ es) x = ap (λ l. y ∷ l) (items_sent es x)
items_sent (Mark ∷ es) x = items_sent es x

pub items_append : (es fs : List Entry) → items_of (es ++ fs) ≡ items_of es ++ items_of fs
items_append [] fs = refl
items_append (Sent y ∷ es) fs = ap (λ l. y ∷ l) (items_append es fs)
items_append (Mark ∷ es) fs = items_append es fs

-- of two lists that begin another, the shorter begins the longer
shorter_first : (a b s t : List Entry) → a ++ s ≡ b ++ t → length a ≤ length b → IsPrefix a b
shorter_first [] b s t e few = (b, refl)
shorter_first (x ∷ a) [] s t e few = absurd (omega arith)
shorter_first (x ∷ a) (y ∷ b) s t e few =
    let same : x ≡ y = cc in let rest : a ++ s ≡ b ++ t = cc in let more = shorter_first a b s t rest (omega arith) in
    (more.0, (λ i. same i ∷ more.1 i))

items_begin : (a b : List Entry) → IsPrefix a b → IsPrefix (items_of a) (items_of b)
items_begin a b p = (items_of p.0, sym (items_append a p.0) ∙ ap items_of p.1)

pub marks_follow : MarksFollow
marks_follow entered passed before behind begins is few = items_begin before passed (shorter_first before passed (Mark ∷ behind) begins.0 (sym is ∙ sym begins.1) (omega arith))

-- where there is a mark
mark_at : (es : List Entry) → has_mark es ≡ true → (before behind : List Entry) × (es ≡ before ++ Mark ∷ behind)
mark_at [] e = absurd cc
mark_at (Sent x ∷ es) e = let (before, behind, is) = mark_at es e in (Sent x ∷ before, behind, ap (λ l. Sent x ∷ l) is)
mark_at (Mark ∷ es) e = ([], es, refl)

pub took_mark : (since : ℕ) (passed : List Entry) → since ≤ length passed → has_mark (drop since passed) ≡ true → TookMark since passed
took_mark since passed few marked entered begins =
    let (mid, behind, is) = mark_at (drop since passed) marked in
    let all : passed ≡ (take since passed ++ mid) ++ Mark ∷ behind =
    sym (take-append-drop since passed) ∙ ap (λ l. take since passed ++ l) is ∙ sym (append_assoc (take since passed) mid (Mark ∷ behind)) in
    let before = take since passed ++ mid in
    let size = length-append (take since passed) mid in let front = length-take-le since passed few in
    let whole = ap length all in let parts = length-append before (Mark ∷ behind) in (
      before,
      behind ++ begins.0,
      sym begins.1 ∙ ap (λ l. l ++ begins.0) all ∙ append_assoc before (Mark ∷ behind) begins.0,
      omega arith,
      omega arith,
      items_begin before passed (Mark ∷ behind, sym all),
    )

pub first : (y e : Entry) (zs rest : List Entry) → IsPrefix (y ∷ []) zs → zs ≡ e ∷ rest → e ≡ y
first y e zs rest p q = sym (ap (λ l. get_or l 0 y) (p.1 ∙ q))

-- a list begins with one entry
pub one_first : (y e : Entry) (zs rest rest' : List Entry) → zs ≡ y ∷ rest → zs ≡ e ∷ rest' → y ≡ e
one_first y e zs rest rest' p q = ap (λ l. get_or l 0 y) (sym p ∙ q)

saw_mark : (es : List Entry) → has_mark (es ++ Mark ∷ []) ≡ true
saw_mark [] = refl
saw_mark (Sent x ∷ es) = saw_mark es
saw_mark (Mark ∷ es) = refl

saw_sent : (es : List Entry) (x : Item) → has_mark (es ++ Sent x ∷ []) ≡ has_mark es
saw_sent [] x = refl
saw_sent (Sent y ∷ es) x = saw_sent es x
saw_sent (Mark ∷ es) x = refl

longer : (n : ℕ) (old new : List Entry) (e : Entry) → new ≡ old ++ e ∷ [] → n ≤ length old → n ≤ length new
longer n old new e is below = let l = ap length is in let m = length-append old (e ∷ []) in omega arith

pub mark_passed : (n : ℕ) (old new : List Entry) (e : Entry) → new ≡ old ++ e ∷ [] → e ≡ Mark → n ≤ length old → (n ≤ length new) × (true ≡ has_mark (drop n new)) × (items_of new ≡ items_of old)
mark_passed n old new e is mark below =
    let is' : new ≡ old ++ Mark ∷ [] = is ∙ ap (λ x. old ++ x ∷ []) mark in (
      longer n old new e is below,
      sym (ap (λ l. has_mark (drop n l)) is' ∙ (ap has_mark (drop-append-le n old (Mark ∷ []) below) ∙ saw_mark (drop n old))),
      ap items_of is' ∙ items_mark old,
    )

pub item_passed : (n : ℕ) (old new : List Entry) (e : Entry) (x : Item) → new ≡ old ++ e ∷ [] → e ≡ Sent x → n ≤ length old → (n ≤ length new) × (has_mark (drop n old) ≡ has_mark (drop n new)) × (items_of new ≡ items_of old ++ x ∷ [])
item_passed n old new e x is sent below =
    let is' : new ≡ old ++ Sent x ∷ [] = is ∙ ap (λ y. old ++ y ∷ []) sent in (
      longer n old new e is below,
      sym (ap (λ l. has_mark (drop n l)) is' ∙ (ap has_mark (drop-append-le n old (Sent x ∷ []) below) ∙ saw_sent (drop n old) x)),
      ap items_of is' ∙ items_sent old x,
    )

-- the item of an entry, where it is one
abbrev pub item_or : Item → Entry → Item
item_or d (Sent x) = x
item_or d Mark = d

-- ---- numbers

one_at_most : (b : Bool) → (if b then 1 else 0) ≤ 1
one_at_most true = omega arith
one_at_most false = omega arith

pub count_at_most : (p : ℕ) (xs : List Item) → count_of p xs ≤ length xs
count_at_most p [] = omega arith
count_at_most p (x ∷ xs) = let r = count_at_most p xs in let o = one_at_most (x.partition == p) in omega arith

count_snoc : (p : ℕ) (xs : List Item) (x : Item) → count_of p (xs ++ x ∷ []) ≡ count_of p xs + one_of p x
count_snoc p [] x = omega arith
count_snoc p (y ∷ xs) x = let r = count_snoc p xs x in omega arith

-- an item is numbered, and the next number of its partition grows
pub counted_item : (next : List ℕ) (es new : List Entry) (x : Item) (n : ℕ) → Counted next es → new ≡ es ++ Sent x ∷ [] → x.partition < length next → n ≡ count_of x.partition (items_of es)
    → Counted (set next x.partition (n + 1)) new
counted_item next es new x n before is near number p below =
    let all : count_of p (items_of new) ≡ count_of p (items_of es) + one_of p x = ap (λ l. count_of p (items_of l)) is ∙ (ap (count_of p) (items_sent es x) ∙ count_snoc p (items_of es) x) in
    dite (ℕ_discrete p x.partition)
    (λ same. subst (λ (q : ℕ). get_or (set next x.partition (n + 1)) q 0 ≡ count_of q (items_of new)) (sym same)
    (get_or-set_same next x.partition (n + 1) 0 near ∙ (
    let here : count_of x.partition (items_of new) ≡ count_of x.partition (items_of es) + one_of x.partition x = ap (λ l. count_of x.partition (items_of l)) is ∙ (ap (count_of x.partition) (items_sent es x) ∙ count_snoc x.partition (items_of es) x) in
    let one : one_of x.partition x ≡ 1 = ap (λ (b : Bool). if b then 1 else 0) (eq-eqb x.partition x.partition refl) in omega arith)))
    (λ other.
    let none : one_of p x ≡ 0 = ap (λ (b : Bool). if b then 1 else 0) (ne_eqb x.partition p (λ e. other (sym e))) in
    let old = before p (subst (λ n. p < n) (length-set next x.partition (n + 1)) below) in
    let kept : get_or (set next x.partition (n + 1)) p 0 ≡ get_or next p 0 = get_or-set_other next x.partition p (n + 1) 0 other in omega arith)

pub counted_same : (next : List ℕ) (es new : List Entry) → Counted next es → items_of new ≡ items_of es → Counted next new
counted_same next es new before same p below = before p below ∙ ap (count_of p) (sym same)

-- a push of a mark, whether it was taken or came back
pub marked : (F : Type 0) (r : Result (Unit {0}) Entry) (old new : List Entry) → OnOk r (new ≡ old ++ Mark ∷ []) → IfErr r (λ back. (back ≡ Mark) × (new ≡ old) × F) → items_of new ≡ items_of old
marked F (Ok u) old new ok err = ap items_of ok ∙ items_mark old
marked F (Err e) old new ok err = ap items_of err.1

pub extends_more : (a b c : List Entry) → IsPrefix a b → IsPrefix b c → IsPrefix a c
extends_more a b c p q = (p.0 ++ q.0, sym (append_assoc a p.0 q.0) ∙ (ap (λ l. l ++ q.0) p.1 ∙ q.1))

pub at_zero : (l : List ℕ) (i n : ℕ) → n ≡ get_or l i n → i < length l → get_or l i 0 ≡ n
at_zero [] i n is near = absurd (omega arith)
at_zero (x ∷ xs) zero n is near = sym is
at_zero (x ∷ xs) (suc i) n is near = at_zero xs i n is (omega arith)

-- the next number is that of the partition, and not the last one
pub number_of_next : (next : List ℕ) (es : List Entry) (p n : ℕ) → Counted next es → p < length next → n ≡ get_or next p n → (n ≡ count_of p (items_of es)) × (n ≤ length (items_of es))
number_of_next next es p n numbered near is =
    let at = at_zero next p n is near in let all = numbered p near in let few = count_at_most p (items_of es) in (sym at ∙ all, omega arith)

-- ---- what is left

items_few : (es : List Entry) → length (items_of es) ≤ length es
items_few [] = omega arith
items_few (Sent x ∷ es) = let r = items_few es in omega arith
items_few (Mark ∷ es) = let r = items_few es in omega arith

pub items_left : (got known all : List Entry) → got ++ known ≡ all → items_of all ≡ items_of got ++ items_of known
items_left got known all is = ap items_of (sym is) ∙ items_append got known

pub few_left : (got known all : List Entry) → got ++ known ≡ all → length (items_of all) ≤ length (items_of got) + length known
few_left got known all is =
    let l = ap length (items_left got known all is) in let m = length-append (items_of got) (items_of known) in let few = items_few known in omega arith

-- ---- what there is to take

pub none_seen : (limits : Limits) (sender : ℕ) (es : List Entry) → length es ≡ 0 → HasNothing limits sender es
none_seen limits sender [] none = tt
none_seen limits sender (e ∷ es) none = absurd (omega arith)

pub not_its : (limits : Limits) (sender : ℕ) (x : Item) (e : Entry) (es : List Entry) → IsPrefix (e ∷ []) es → e ≡ Sent x → ¬ Meets limits sender x → HasNothing limits sender es
not_its limits sender x e es p is not = subst (HasNothing limits sender) p.1 (subst (λ y. HasNothing limits sender (y ∷ p.0)) (sym is) not)

-- ---- numbers by place

pub none_in_place : (limits : Limits) (sender : ℕ) (es : List Entry) → es ≡ [] → AreInPlace limits sender (items_of es)
none_in_place limits sender es none = record { each = λ before x behind is. absurd (some before x behind (sym is ∙ ap items_of none)) }
  where
    some : (before : List Item) (x : Item) (behind : List Item) → before ++ x ∷ behind ≡ [] → ⊥
    some [] x behind e = cc
    some (y ∷ before) x behind e = cc

-- An item that stands in a list with one more behind it is that one, or stood there before.
split : (xs : List Item) (y : Item) (before : List Item) (x : Item) (behind : List Item) → xs ++ y ∷ [] ≡ before ++ x ∷ behind
    → ((xs ≡ before) × (y ≡ x)) ⊎ ((rest : List Item) × (xs ≡ before ++ x ∷ rest))
split [] y [] x behind e = let same : y ≡ x = cc in inl (refl, same)
split [] y (z ∷ before) x behind e = absurd (some before (let rest : [] ≡ before ++ x ∷ behind = cc in rest))
  where
    some : (before : List Item) → [] ≡ before ++ x ∷ behind → ⊥
    some [] e = cc
    some (w ∷ before) e = cc
split (z ∷ xs) y [] x behind e = let same : z ≡ x = cc in inr (xs, ap (λ (w : Item). w ∷ xs) same)
split (z ∷ xs) y (w ∷ before) x behind e =
    let same : z ≡ w = cc in
    let rest : xs ++ y ∷ [] ≡ before ++ x ∷ behind = cc in
    ⊎_elim
    (λ (last : (xs ≡ before) × (y ≡ x)). inl (ap (λ (v : Item). v ∷ xs) same ∙ ap (λ (vs : List Item). w ∷ vs) last.0, last.1))
    (λ (sooner : (rest : List Item) × (xs ≡ before ++ x ∷ rest)). inr (sooner.0, ap (λ (v : Item). v ∷ xs) same ∙ ap (λ (vs : List Item). w ∷ vs) sooner.1))
    (split xs y before x behind rest)

-- one more item stands in its place
pub one_more_in_place : (limits : Limits) (sender : ℕ) (xs : List Item) (y : Item) → AreInPlace limits sender xs → Meets limits sender y
    → IsNext xs y → AreInPlace limits sender (xs ++ y ∷ [])
one_more_in_place limits sender xs y h meets next = record {
  each = λ before x behind is. ⊎_elim
      (λ (last : (xs ≡ before) × (y ≡ x)).
      (subst (Meets limits sender) last.1 meets, subst (λ (z : Item). IsNext before z) last.1 (subst (λ (zs : List Item). IsNext zs y) last.0 next)))
      (λ (sooner : (rest : List Item) × (xs ≡ before ++ x ∷ rest)). h.each before x sooner.0 sooner.1)
      (split xs y before x behind is);
}
