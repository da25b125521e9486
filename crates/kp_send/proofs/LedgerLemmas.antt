-- Lines that enter a ledger and leave it.
use Rattle.std.proofs.Common.{◌≡◌, ◌≢◌, ℕ, Bool, true, false, cond, ◌&&◌, nat_eq, List, [], ◌∷◌, ◌++◌, length, map, ◌+◌, arith, Option, Some, None, refl, ap, ap₂, sym, subst, ◌∙◌, append_assoc, append-nil}
use Rattle.std.specs.Prelude.{All, is_some, MatchOption, unwrap_or}
use Rattle.std.specs.List.Sorted.{IsPermutation}
use Rattle.std.specs.Map.{lookup, remove_entry, set_value}
use Rattle.std.proofs.lemmas.Bool.{and_parts, eq-eqb, eqb-true, false≢true}
use Rattle.std.proofs.lemmas.List.Elements.{All-from_recursion, All-head, All-weaker}
use Rattle.std.proofs.lemmas.List.Sorted.{All-permutation, IsPermutation-append_left, IsPermutation-append_right, IsPermutation-cons, IsPermutation-map, IsPermutation-middle, IsPermutation-pop_more, IsPermutation-refl, IsPermutation-to_front, IsPermutation-trans, length_permutation}
use Rattle.std.proofs.lemmas.Map.{none_passes_from_lookup}
use Rattle.kp_rules.specs.declared.outcome.Outcome.{Outcome}
use Rattle.kp_send.specs.declared.told.Sent.{Sent}
use Rattle.kp_send.specs.declared.told.Told.{Told}
use Rattle.kp_send.specs.Ledger.{Book, Call, Entry, entered_by, Follow, Key, left_by, left_with, Moves}

-- ---- the key of an entry

abbrev pub is_key : Key → Key → Bool
is_key k q = nat_eq k.0 q.0 && nat_eq k.1 q.1

is_key-true : (k q : Key) → is_key k q ≡ true → q ≡ k
is_key-true k q e =
    let parts = and_parts (nat_eq k.0 q.0) (nat_eq k.1 q.1) e in
    ap₂ (λ (a b : ℕ). (a, b)) (sym (eqb-true k.0 q.0 parts.0)) (sym (eqb-true k.1 q.1 parts.1))

is_key-same : (k q : Key) → q ≡ k → is_key k q ≡ true
is_key-same k q e =
    let first : nat_eq k.0 q.0 ≡ true = eq-eqb k.0 q.0 (sym (ap (λ (x : Key). x.0) e)) in
    let second : nat_eq k.1 q.1 ≡ true = eq-eqb k.1 q.1 (sym (ap (λ (x : Key). x.1) e)) in
    rw (first, second) refl

-- the entry of a key comes out, and the others stay
taken_at : (k : Key) (e : Entry) (es : List Entry) (sent : Sent) (here : Bool) → is_key k e.0 ≡ here
    → cond here (Some e.1) (lookup (is_key k) es) ≡ Some sent
    → (lookup (is_key k) es ≡ Some sent → IsPermutation es ((k, sent) ∷ remove_entry (is_key k) es))
    → IsPermutation (e ∷ es) ((k, sent) ∷ cond here es (e ∷ remove_entry (is_key k) es))
taken_at k e es sent true here is later =
    let same : e ≡ (k, sent) = ap₂ (λ (q : Key) (s : Sent). (q, s)) (is_key-true k e.0 here) (ap (λ (o : Option Sent). unwrap_or o e.1) is) in
    subst (λ (x : Entry). IsPermutation (e ∷ es) (x ∷ es)) same (IsPermutation-refl (e ∷ es))
taken_at k e es sent false here is later =
    let rest = remove_entry (is_key k) es in
    IsPermutation-trans (e ∷ es) (e ∷ (k, sent) ∷ rest) ((k, sent) ∷ e ∷ rest)
    (IsPermutation-cons e es ((k, sent) ∷ rest) (later is)) (IsPermutation-middle (e ∷ []) (k, sent) rest)

pub taken_out : (k : Key) (es : List Entry) (sent : Sent) → lookup (is_key k) es ≡ Some sent
    → IsPermutation es ((k, sent) ∷ remove_entry (is_key k) es)
taken_out k [] sent is = absurd (cc)
taken_out k (e ∷ es) sent is = taken_at k e es sent (is_key k e.0) refl is (taken_out k es sent)

-- no entry has the key
lacks_none : (k : Key) (es : List Entry) → lookup (is_key k) es ≡ None → All (λ (e : Entry). e.0 ≢ k) es
lacks_none k es none =
    All-weaker (λ (e : Entry). is_key k e.0 ≡ false) (λ (e : Entry). e.0 ≢ k)
    (λ e differs same. false≢true (sym differs ∙ is_key-same k e.0 same)) es
    (All-from_recursion (λ (e : Entry). is_key k e.0 ≡ false) es (none_passes_from_lookup (is_key k) es none))

pub lacks : (waiting es : List Entry) (k : Key) → es ≡ waiting → None ≡ lookup (is_key k) es → All (λ (e : Entry). e.0 ≢ k) waiting
lacks waiting es k same none = subst (λ (xs : List Entry). All (λ (e : Entry). e.0 ≢ k) xs) same (lacks_none k es (sym none))

-- one has it
has_at : (k : Key) (es : List Entry) (o : Option Sent) → lookup (is_key k) es ≡ o → true ≡ is_some o → All (λ (e : Entry). e.0 ≢ k) es → ⊥
has_at k es None is some none = cc
has_at k es (Some sent) is some none =
    let P : Entry → Type 0 = λ (e : Entry). e.0 ≢ k in
    All-head P (k, sent) (remove_entry (is_key k) es)
    (All-permutation P es ((k, sent) ∷ remove_entry (is_key k) es) (taken_out k es sent is) none) refl

pub has : (waiting es : List Entry) (k : Key) → es ≡ waiting → true ≡ is_some (lookup (is_key k) es) → All (λ (e : Entry). e.0 ≢ k) waiting → ⊥
has waiting es k same some none =
    has_at k es (lookup (is_key k) es) refl some (subst (λ (xs : List Entry). All (λ (e : Entry). e.0 ≢ k) xs) (sym same) none)

-- ---- one call

stays : (old new : Book) → IsPermutation old.waiting new.waiting → Moves old [] [] new
stays old new same = subst (λ (es : List Entry). IsPermutation es new.waiting) (sym (append-nil old.waiting)) same

stays_so : (old new : Book) → new.waiting ≡ old.waiting → Moves old [] [] new
stays_so old new same =
    stays old new (subst (λ (es : List Entry). IsPermutation old.waiting es) (sym same) (IsPermutation-refl old.waiting))

-- an entry that was put beside the others
pub enters : (waiting es new : List Entry) (k : Key) (sent : Sent) (old : Option Sent) → es ≡ waiting → old ≡ None
    → MatchOption old (IsPermutation ((k, sent) ∷ es) new) (λ _. new ≡ set_value (is_key k) es sent)
    → IsPermutation (waiting ++ (k, sent) ∷ []) new
enters waiting es new k sent None same none put =
    IsPermutation-trans (waiting ++ (k, sent) ∷ []) ((k, sent) ∷ waiting) new (IsPermutation-to_front waiting (k, sent))
    (subst (λ (xs : List Entry). IsPermutation ((k, sent) ∷ xs) new) same put)
enters waiting es new k sent (Some before) same none put = absurd (cc)

-- what stood at a key is put back there
set_back_at : (k : Key) (e : Entry) (es : List Entry) (sent before : Sent) (here : Bool) → is_key k e.0 ≡ here
    → cond here (Some e.1) (lookup (is_key k) es) ≡ Some before
    → (lookup (is_key k) es ≡ Some before → set_value (is_key k) (set_value (is_key k) es sent) before ≡ es)
    → set_value (is_key k) (cond here ((e.0, sent) ∷ es) (e ∷ set_value (is_key k) es sent)) before ≡ e ∷ es
set_back_at k e es sent before true here is later =
    let same : before ≡ e.1 = sym (ap (λ (o : Option Sent). unwrap_or o e.1) is) in
    ap (λ (b : Bool). cond b ((e.0, before) ∷ es) ((e.0, sent) ∷ set_value (is_key k) es before)) here
    ∙ ap (λ (s : Sent). (e.0, s) ∷ es) same
set_back_at k e es sent before false here is later =
    ap (λ (b : Bool). cond b ((e.0, before) ∷ set_value (is_key k) es sent) (e ∷ set_value (is_key k) (set_value (is_key k) es sent) before)) here
    ∙ ap (λ (xs : List Entry). e ∷ xs) (later is)

set_back : (k : Key) (es : List Entry) (sent before : Sent) → lookup (is_key k) es ≡ Some before
    → set_value (is_key k) (set_value (is_key k) es sent) before ≡ es
set_back k [] sent before is = refl
set_back k (e ∷ es) sent before is = set_back_at k e es sent before (is_key k e.0) refl is (set_back k es sent before)

-- an entry took the place of another, which then took it again
pub put_back : (waiting es middle new : List Entry) (k : Key) (sent before after : Sent) (first second : Option Sent) → es ≡ waiting
    → first ≡ Some before → first ≡ lookup (is_key k) es
    → MatchOption first (IsPermutation ((k, sent) ∷ es) middle) (λ _. middle ≡ set_value (is_key k) es sent)
    → second ≡ Some after → MatchOption second (IsPermutation ((k, before) ∷ middle) new) (λ _. new ≡ set_value (is_key k) middle before)
    → IsPermutation (waiting ++ []) new
put_back waiting es middle new k sent before after None second same is was one there two = absurd (cc)
put_back waiting es middle new k sent before after (Some x) None same is was one there two = absurd (cc)
put_back waiting es middle new k sent before after (Some x) (Some y) same is was one there two =
    let found : lookup (is_key k) es ≡ Some before = sym was ∙ is in
    let whole : new ≡ waiting = two ∙ ap (λ (xs : List Entry). set_value (is_key k) xs before) one ∙ set_back k es sent before found ∙ same in
    subst (λ (xs : List Entry). IsPermutation xs new) (sym (append-nil waiting))
    (subst (λ (xs : List Entry). IsPermutation waiting xs) (sym whole) (IsPermutation-refl waiting))

-- an entry that was taken out
pub leaves : (waiting es rest : List Entry) (k : Key) (sent : Sent) → es ≡ waiting → Some sent ≡ lookup (is_key k) es
    → IsPermutation (remove_entry (is_key k) es) rest → IsPermutation (waiting ++ []) ((k, sent) ∷ rest)
leaves waiting es rest k sent same is others =
    let whole = IsPermutation-trans es ((k, sent) ∷ remove_entry (is_key k) es) ((k, sent) ∷ rest)
    (taken_out k es sent (sym is)) (IsPermutation-cons (k, sent) (remove_entry (is_key k) es) rest others) in
    subst (λ (xs : List Entry). IsPermutation xs ((k, sent) ∷ rest)) (same ∙ sym (append-nil waiting)) whole

-- ---- what is left

stands_first : (waiting rest : List Entry) (e : Entry) → IsPermutation (waiting ++ []) (e ∷ rest) → IsPermutation waiting (e ∷ rest)
stands_first waiting rest e taken = subst (λ (xs : List Entry). IsPermutation xs (e ∷ rest)) (append-nil waiting) taken

-- one waits no more
pub fewer : (waiting rest : List Entry) (e : Entry) → IsPermutation (waiting ++ []) (e ∷ rest) → length rest + 1 ≡ length waiting
fewer waiting rest e taken = omega (arith, length_permutation waiting (e ∷ rest) (stands_first waiting rest e taken))

-- one more is told
pub left_more : (outcome : Outcome) (all done : List Told) (waiting rest : List Entry) (e : Entry) (told : Told)
    → IsPermutation all (done ++ map (left_with outcome) waiting) → told ≡ left_with outcome e → IsPermutation (waiting ++ []) (e ∷ rest)
    → IsPermutation all ((done ++ told ∷ []) ++ map (left_with outcome) rest)
left_more outcome all done waiting rest e told so_far is taken =
    let f = left_with outcome in
    let out = IsPermutation-map f waiting (e ∷ rest) (stands_first waiting rest e taken) in
    IsPermutation-pop_more all done (map f waiting) (map f rest) told so_far
    (subst (λ (t : Told). IsPermutation (map f waiting) (t ∷ map f rest)) (sym is) out)

-- all are told
pub left_all : (outcome : Outcome) (all done sorted : List Told) (waiting : List Entry) → IsPermutation all (done ++ map (left_with outcome) waiting)
    → waiting ≡ [] → IsPermutation done sorted → IsPermutation all sorted
left_all outcome all done sorted waiting so_far none moved =
    let whole : done ++ map (left_with outcome) waiting ≡ done = ap (λ (es : List Entry). done ++ map (left_with outcome) es) none ∙ append-nil done in
    IsPermutation-trans all done sorted (subst (λ (ts : List Told). IsPermutation all ts) whole so_far) moved

-- ---- many calls

then_more : (old between new : Book) (e l more last : List Entry) → Moves old e l between → Moves between more last new
    → Moves old (e ++ more) (l ++ last) new
then_more old between new e l more last first later =
    let start : old.waiting ++ (e ++ more) ≡ (old.waiting ++ e) ++ more = sym (append_assoc old.waiting e more) in
    let middle : (l ++ between.waiting) ++ more ≡ l ++ (between.waiting ++ more) = append_assoc l between.waiting more in
    let end : l ++ (last ++ new.waiting) ≡ (l ++ last) ++ new.waiting = sym (append_assoc l last new.waiting) in
    let one = IsPermutation-append_left more (old.waiting ++ e) (l ++ between.waiting) first in
    let two = IsPermutation-append_right l (between.waiting ++ more) (last ++ new.waiting) later in
    let moved = IsPermutation-trans ((old.waiting ++ e) ++ more) (l ++ (between.waiting ++ more)) (l ++ (last ++ new.waiting))
    (subst (λ (es : List Entry). IsPermutation ((old.waiting ++ e) ++ more) es) middle one) two in
    subst (λ (es : List Entry). IsPermutation es ((l ++ last) ++ new.waiting)) (sym start)
    (subst (λ (es : List Entry). IsPermutation ((old.waiting ++ e) ++ more) es) end moved)

pub all_moved : (old : Book) (calls : List Call) (new : Book) → Follow old calls new → Moves old (entered_by calls) (left_by calls) new
all_moved old [] new follow = stays_so old new follow
all_moved old (call ∷ calls) new follow =
    then_more old follow.0 new call.0 call.1 (entered_by calls) (left_by calls) follow.1 (all_moved follow.0 calls new follow.2)
