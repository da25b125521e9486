-- A plan's text, read part by part.
use Rattle.std.proofs.Common.{◌≡◌, ◌≢◌, ℕ, zero, suc, ◌+◌, ◌<◌, ◌||◌, Bool, true, false, eqb, List, [], ◌∷◌, ◌++◌, length, get_or, take, drop, map, Option, Some, None, Result, Ok, Err, IsErrAnd, is_some, refl, sym, ap, subst, ◌∙◌, append_assoc, arith}
use Rattle.std.specs.Ordering.{nat_cmp}
use Rattle.std.specs.Cmp.{nat_eq_equiv}
use Rattle.std.specs.List.{AllByRecursion, IsDistinct, list_any, join_with_byte}
use Rattle.std.specs.BTreeMap.{insert_entry}
use Rattle.std.proofs.lemmas.List.{take_more, take-append-drop, map-append, take-map, take_all}
use Rattle.std.proofs.lemmas.List.Folds.{list_any-append}
use Rattle.std.proofs.lemmas.List.Splits.{length-slice_split, join_with_byte-slice_split}
use Rattle.std.proofs.lemmas.Map.Keys.{IsDistinct-push, IsDistinct-head, IsDistinct-tail}
use Rattle.std.proofs.lemmas.Bool.Decides.{nat_tests}
use Rattle.kp_wire.proofs.ListLemmas.{all_append}
use Rattle.kp_broker.specs.declared.plan.action.Action.{Action}
use Rattle.kp_broker.specs.declared.plan.fault.PlanFault.{PlanFault}
use Rattle.kp_broker.specs.declared.plan.fault.PlanFault.TheVariants.{BadPlan, OutOfMemory}
use Rattle.kp_broker.specs.Plan.{Plan, Entry, Spells, Adds, ParsesPlan, HasEntry, parts, number_of, action_of, entry_text, entries_text, planned, in_order, IsAllowed}
use Rattle.kp_broker.proofs.PlanLemmas.{is_planned, is_planned-insert_entry, in_order-push}
use Rattle.kp_broker.proofs.SplitLemmas.{is_byte}
use Rattle.kp_broker.proofs.TextLemmas.{parts-entries_text, texts-injective}

or_flipped : (a b : Bool) → (a || b) ≡ (b || (a || false))
or_flipped true true = refl
or_flipped true false = refl
or_flipped false true = refl
or_flipped false false = refl

-- ---- a text that spells a plan

entries-parts : (es : List Entry) → es ≢ [] → AllByRecursion IsAllowed es → parts (entries_text es) ≡ map entry_text es
entries-parts [] some all = absurd (some refl)
entries-parts (e ∷ es) some all = parts-entries_text e es all

-- its parts are the texts of the plan's entries
pub spelled-parts : (text : List ℕ) (plan : Plan) (s : Spells text plan) → parts text ≡ map entry_text s.entries
spelled-parts text plan s = ap parts s.spelling ∙ entries-parts s.entries s.some s.allowed

at_entry : (es : List Entry) → AllByRecursion IsAllowed es → (n : ℕ) (part : List ℕ) → n < length (map entry_text es) → part ≡ get_or (map entry_text es) n part → (e : Entry) × IsAllowed e × (part ≡ entry_text e)
at_entry [] all n part inside here = absurd (omega arith)
at_entry (e ∷ es) all zero part inside here = (e, all.0, here)
at_entry (e ∷ es) all (suc n) part inside here = at_entry es all.1 n part (omega arith) here

-- So each part is the text of an entry.
pub bad-part : (text : List ℕ) (n : ℕ) (part : List ℕ) → n < length (parts text) → part ≡ get_or (parts text) n part → ((e : Entry) → IsAllowed e → part ≢ entry_text e) → (plan : Plan) → Spells text plan → ⊥
bad-part text n part inside here bad plan s =
    let is = spelled-parts text plan s in
    let (e, allowed, same) = at_entry s.entries s.allowed n part (rw is at inside) (rw is at here) in
    bad e allowed same

all_behind : {A : Type 0} (P : A → Type 0) (xs ys : List A) → AllByRecursion P (xs ++ ys) → AllByRecursion P ys
all_behind P [] ys all = all
all_behind P (x ∷ xs) ys all = all_behind P xs ys all.1

all_first : {A : Type 0} (P : A → Type 0) (n : ℕ) (xs : List A) → AllByRecursion P xs → AllByRecursion P (take n xs)
all_first P zero xs all = tt
all_first P (suc n) [] all = tt
all_first P (suc n) (x ∷ xs) all = (all.0, all_first P n xs all.1)

-- a number among distinct ones is not among those before it
before-distinct : (xs : List ℕ) (y : ℕ) (ys : List ℕ) → IsDistinct eqb (xs ++ y ∷ ys) → list_any (eqb y) xs ≡ false
before-distinct [] y ys all = refl
before-distinct (x ∷ xs) y ys all =
    let others = before-distinct xs y ys (IsDistinct-tail eqb x (xs ++ y ∷ ys) all) in
    let apart : eqb x y ≡ false = (all_behind (λ z. eqb x z ≡ false) xs (y ∷ ys) (IsDistinct-head eqb x (xs ++ y ∷ ys) all)).0 in
    let flipped : eqb y x ≡ false = grind (arith, nat_tests) in
    rw (flipped, others) refl

some_planned : (o : Option Action) → o ≢ None → is_some o ≡ true
some_planned None some = absurd (some refl)
some_planned (Some a) some = refl

-- ---- some parts were read

pub record HasRead (text : List ℕ) (count : ℕ) (plan : Plan) : Type 0 where
  pub entries : List Entry
  pub texts : map entry_text entries ≡ take count (parts text)
  pub allowed : AllByRecursion IsAllowed entries
  pub once : IsDistinct eqb (map number_of entries)
  pub numbers : (n : ℕ) → is_planned plan n ≡ list_any (eqb n) (map number_of entries)
  pub same : plan ≡ in_order entries

none_distinct : IsDistinct eqb []
unfolding IsDistinct
none_distinct = tt

pub none-read : (text : List ℕ) (plan : Plan) → plan ≡ [] → HasRead text 0 plan
none-read text plan none = record {
  entries = [];
  texts = refl;
  allowed = tt;
  once = none_distinct;
  numbers = λ n. rw none refl;
  same = none;
}

module _ (text : List ℕ) (count : ℕ) (plan : Plan) (read : HasRead text count plan) where
  pub all-read : count ≡ length (parts text) → Spells text plan
  all-read all = record {
    entries = read.entries;
    spelling = sym (join_with_byte-slice_split 44 text) ∙ ap (join_with_byte 44) (sym whole);
    some = λ none. let empty = sym whole ∙ ap (map entry_text) none in omega (arith, ap length empty, length-slice_split (is_byte 44) text);
    allowed = read.allowed;
    once = read.once;
    same = read.same;
  } where
    whole : map entry_text read.entries ≡ parts text
    whole = read.texts ∙ take_all count (parts text) (omega arith)

  module _ (part : List ℕ) (inside : count < length (parts text)) (here : part ≡ get_or (parts text) count part) (e : Entry) (allowed : IsAllowed e) (is : part ≡ entry_text e) where
    pushed : map entry_text read.entries ++ entry_text e ∷ [] ≡ take (count + 1) (parts text)
    pushed = ap (λ ps. ps ++ entry_text e ∷ []) read.texts ∙ ap (λ p. take count (parts text) ++ p ∷ []) (sym is ∙ here) ∙ sym (take_more (parts text) count part inside)

    pub one-more : planned plan (number_of e) ≡ None → (after : Plan) → after ≡ insert_entry nat_cmp plan (number_of e) (action_of e) → HasRead text (count + 1) after
    one-more new after same =
        let number = number_of e in
        let absent : list_any (eqb number) (map number_of read.entries) ≡ false = sym (read.numbers number) ∙ ap is_some new in
        let told : (n : ℕ) → (eqb n number || is_planned plan n) ≡ list_any (eqb n) (map number_of (read.entries ++ e ∷ [])) = λ n. rw (map-append number_of read.entries (e ∷ []), list_any-append (eqb n) (map number_of read.entries) (number ∷ []), read.numbers n) (or_flipped (eqb n number) (list_any (eqb n) (map number_of read.entries))) in
        record {
          entries = read.entries ++ e ∷ [];
          texts = map-append entry_text read.entries (e ∷ []) ∙ pushed;
          allowed = all_append IsAllowed read.entries (e ∷ []) read.allowed (allowed, tt);
          once = rw (map-append number_of read.entries (e ∷ [])) (IsDistinct-push nat_eq_equiv (map number_of read.entries) number read.once absent);
          numbers = λ n. ap (λ p. is_planned p n) same ∙ is_planned-insert_entry plan number (action_of e) n ∙ told n;
          same = same ∙ ap (λ p. insert_entry nat_cmp p number (action_of e)) read.same ∙ sym (in_order-push read.entries e);
        }

    pub twice : (planned plan (number_of e) ≢ None) → (other : Plan) → Spells text other → ⊥
    twice old other s =
        let number = number_of e in
        let rest = drop (count + 1) s.entries in
        let all = spelled-parts text other s in
        let texts : map entry_text (take (count + 1) s.entries) ≡ map entry_text (read.entries ++ e ∷ []) =
        sym (take-map entry_text (count + 1) s.entries) ∙ ap (take (count + 1)) (sym all) ∙ sym pushed ∙ sym (map-append entry_text read.entries (e ∷ [])) in
        let first = texts-injective (take (count + 1) s.entries) (read.entries ++ e ∷ []) (all_first IsAllowed (count + 1) s.entries s.allowed) (all_append IsAllowed read.entries (e ∷ []) read.allowed (allowed, tt)) texts in
        let split : s.entries ≡ read.entries ++ e ∷ rest =
        sym (take-append-drop (count + 1) s.entries) ∙ ap (λ es. es ++ rest) first ∙ append_assoc read.entries (e ∷ []) rest in
        let numbers = subst (IsDistinct eqb) (ap (map number_of) split ∙ map-append number_of read.entries (e ∷ rest)) s.once in
        let absent = before-distinct (map number_of read.entries) number (map number_of rest) numbers in
        let present = sym (read.numbers number) ∙ some_planned (planned plan number) old in
        cc

-- ---- an entry that was not added

pub has-entry : (text : List ℕ) (count : ℕ) (part : List ℕ) → count < length (parts text) → part ≡ get_or (parts text) count part → (e : Entry) → IsAllowed e → part ≡ entry_text e → HasEntry text
has-entry text count part inside here e allowed is =
    (e, allowed, (count, inside, subst (λ p. get_or (parts text) count p ≡ p) is (sym here)))

not_added : (text : List ℕ) (plan after : Plan) (number : ℕ) (action : Action) (fault : PlanFault) → Adds plan number action (Err fault) after → (planned plan number ≢ None → (other : Plan) → Spells text other → ⊥) → HasEntry text → ParsesPlan text (Err fault)
not_added text plan after number action BadPlan old never some = never old
not_added text plan after number action OutOfMemory old never some = some

pub refused : (text : List ℕ) (plan after : Plan) (number : ℕ) (action : Action) (fault : PlanFault) (r : Result Plan PlanFault) → IsErrAnd r (λ e. e ≡ fault) → Adds plan number action (Err fault) after → (planned plan number ≢ None → (other : Plan) → Spells text other → ⊥) → HasEntry text → ParsesPlan text r
refused text plan after number action fault (Ok p) is old never some = absurd is
refused text plan after number action fault (Err e) is old never some = subst (λ e. ParsesPlan text (Err e)) (sym is) (not_added text plan after number action fault old never some)

-- ---- one text, one plan

pub one-plan : (text : List ℕ) (a b : Plan) → Spells text a → Spells text b → a ≡ b
one-plan text a b s t =
    let entries = texts-injective s.entries t.entries s.allowed t.allowed (sym (spelled-parts text a s) ∙ spelled-parts text b t) in
    s.same ∙ ap in_order entries ∙ sym t.same
