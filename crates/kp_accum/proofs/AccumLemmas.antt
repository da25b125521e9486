-- An accumulator with one queue changed, or all.
use Rattle.std.proofs.Common.{◌≡◌, ◌∙◌, cond, ℕ, zero, suc, ◌+◌, ◌-◌, ◌<◌, ◌≤◌, Bool, true, false, List, [], ◌∷◌, ◌++◌, length, map, take, drop, get_or, set, refl, sym, ap, subst, arith}
use Rattle.std.specs.Prelude.{Ok, not, nat_le, sum_by, if◌then◌else◌, replicate, filter}
use Rattle.std.specs.List.{AllByRecursion}
use Rattle.std.proofs.lemmas.List.Sums.{sum_by-set, sum_by-cons}
use Rattle.std.proofs.lemmas.List.Folds.{sum_by-replicate}
use Rattle.std.proofs.lemmas.List.{length-map, take_all, drop_all, append-nil, get_or_default, length-set, length-append}
use Rattle.std.proofs.lemmas.List.Elements.{filter-append}
use Rattle.std.proofs.lemmas.List.Sums.{length-filter}
use Rattle.kp_wire.proofs.ListLemmas.{all_append, all_replicate}
use Rattle.kp_batch.specs.Spelling.{measured}
use Rattle.kp_accum.specs.declared.config.Config.{Config}
use Rattle.kp_accum.specs.declared.item.Item.{Item}
use Rattle.kp_accum.specs.Config.{checked}
use Rattle.kp_accum.specs.Queue.{Pending, charge_of, joined_by, begun_by, with_item, marked_by_flush, is_marked, marked_in}
use Rattle.kp_accum.specs.Accum.{Accum, is_exhausted, refusal, appended, marked}
use Rattle.kp_accum.specs.declared.fault.AppendFault.TheVariants.{BufferFull, OutOfMemory}
use Rattle.std.proofs.lemmas.Bool.Decides.{nat_tests}
use Rattle.kp_accum.specs.Sound.{Fits, AllFit, IsSound}
use Rattle.kp_accum.proofs.QueueLemmas.{IsAllowed, allowed, joined_size, at_with_item}

-- ---- lists

pub all-at : {X : Type 0} (P : X → Type 0) → (xs : List X) (k : ℕ) (d : X) → k < length xs → AllByRecursion P xs → P (get_or xs k d)
all-at P [] k d lt all = absurd (omega arith)
all-at P (x ∷ xs) zero d lt all = all.0
all-at P (x ∷ xs) (suc k) d lt all = all-at P xs k d (omega arith) all.1

pub all-set : {X : Type 0} (P : X → Type 0) → (xs : List X) (k : ℕ) (y : X) → P y → AllByRecursion P xs → AllByRecursion P (set xs k y)
all-set P [] k y it all = all
all-set P (x ∷ xs) zero y it all = (it, all.1)
all-set P (x ∷ xs) (suc k) y it all = (all.0, all-set P xs k y it all.1)

pub all-map : {X : Type 0} (P : X → Type 0) (f : X → X) → ((x : X) → P x → P (f x)) → (xs : List X) → AllByRecursion P xs → AllByRecursion P (map f xs)
all-map P f kept [] all = all
all-map P f kept (x ∷ xs) all = (kept x all.0, all-map P f kept xs all.1)

-- a loop that wrote f x over each element x of xs
pub map_over_all : {X : Type 0} (f : X → X) (n : ℕ) (xs : List X) → length xs ≤ n → map f (take n xs) ++ drop n xs ≡ map f xs
map_over_all f n xs le = rw (take_all n xs le, drop_all n xs le) (append-nil (map f xs))

-- ---- one queue

pub fits-with_item : (c : Config) (i : Item) (qs : List Pending) → IsAllowed c → charge_of i ≤ c.max_request_size → AllFit c qs → AllFit c (with_item c i qs)
fits-with_item c i qs a one all =
    at_with_item (AllFit c) c i qs
    (λ n d last e. all-set (Fits c) qs n (joined_by i (get_or qs n d)) (omega (arith, joined_size c i (get_or qs n d) e, a.within)) all)
    (all_append (Fits c) qs (begun_by i ∷ []) all (one, tt))

-- it has one batch more at most, which is not marked
pub length-with_item : (c : Config) (i : Item) (qs : List Pending) → (n : ℕ) × (length (with_item c i qs) ≡ length qs + n) × (n ≤ 1)
length-with_item c i qs =
    at_with_item (λ new. (n : ℕ) × (length new ≡ length qs + n) × (n ≤ 1)) c i qs
    (λ k d last e. (0, omega (arith, length-set qs k (joined_by i (get_or qs k d))), omega arith))
    (1, omega (arith, length-append qs (begun_by i ∷ [])), omega arith)

-- a batch in the place of one that is marked as it is
marked_in-set : (qs : List Pending) (k : ℕ) (y d : Pending) → k < length qs → y.marked ≡ (get_or qs k d).marked → marked_in (set qs k y) ≡ marked_in qs
marked_in-set qs k y d lt same =
    let count : Bool → ℕ = λ t. cond t 1 0 in
    omega (arith, length-filter is_marked (set qs k y), length-filter is_marked qs, sum_by-set (λ b. count b.marked) qs k y d lt, ap count same)

pub marked_in-with_item : (c : Config) (i : Item) (qs : List Pending) → marked_in (with_item c i qs) ≡ marked_in qs
marked_in-with_item c i qs =
    at_with_item (λ new. marked_in new ≡ marked_in qs) c i qs
    (λ k d last e. marked_in-set qs k (joined_by i (get_or qs k d)) d (omega arith) refl)
    (ap length (filter-append is_marked qs (begun_by i ∷ []) ∙ append-nil (filter is_marked qs)))

-- where all are marked, they are as many as there are
pub marked_in-all : (qs : List Pending) → marked_in (map marked_by_flush qs) ≡ length qs
marked_in-all [] = refl
marked_in-all (b ∷ bs) = ap suc (marked_in-all bs)

-- ---- all queues

sum_by-map_as : {X : Type 0} (f g : X → ℕ) (h : X → X) → ((x : X) → f (h x) ≡ g x) → (xs : List X) → sum_by f (map h xs) ≡ sum_by g xs
sum_by-map_as f g h same [] = refl
sum_by-map_as f g h same (x ∷ xs) = omega (arith, same x, sum_by-map_as f g h same xs, sum_by-cons f (h x) (map h xs), sum_by-cons g x xs)

pub all_marked-counted : (queues : List (List Pending)) → sum_by marked_in (map (map marked_by_flush) queues) ≡ sum_by length queues
all_marked-counted queues = sum_by-map_as marked_in length (map marked_by_flush) marked_in-all queues

pub all_marked-as_many : (queues : List (List Pending)) → sum_by length (map (map marked_by_flush) queues) ≡ sum_by length queues
all_marked-as_many queues = sum_by-map_as length length (map marked_by_flush) (λ q. length-map q marked_by_flush) queues

pub sound-new : (c : Config) (limit n : ℕ) → checked c ≡ Ok tt → limit ≡ c.buffer_memory → IsSound c (replicate n []) limit 0 0
sound-new c limit n e l = record {
  allowed = e;
  limited = l;
  counted = omega (arith, sum_by-replicate {X = List Pending} length n []);
  marks = omega (arith, sum_by-replicate marked_in n []);
  fitting = all_replicate (AllFit c) n [] tt;
}

-- one queue is another, of which so many more or fewer are counted
pub sound-set : (c : Config) (queues : List (List Pending)) (limit batches marked p : ℕ) (q : List Pending) (n m : ℕ) → p < length queues → n + length (get_or queues p []) ≡ batches + length q → m + marked_in (get_or queues p []) ≡ marked + marked_in q → AllFit c q → IsSound c queues limit batches marked → IsSound c (set queues p q) limit n m
sound-set c queues limit batches marked p q n m lt count mark fits sound = record {
  allowed = sound.allowed;
  limited = sound.limited;
  counted = omega (arith, count, sound.counted, sum_by-set length queues p q [] lt);
  marks = omega (arith, mark, sound.marks, sum_by-set marked_in queues p q [] lt);
  fitting = all-set (AllFit c) queues p q fits sound.fitting;
}

-- the queue at its place has one item more
pub sound-append : (c : Config) (queues : List (List Pending)) (limit batches marked : ℕ) (i : Item) (old new : List Pending) (count after : ℕ) → i.partition < length queues → old ≡ get_or queues i.partition old → new ≡ with_item c i old → charge_of i ≤ c.max_request_size → count ≡ length old → after ≡ length new → IsSound c queues limit batches marked → IsSound c (set queues i.partition new) limit (batches + (after - count)) marked
sound-append c queues limit batches marked i old new count after lt here is one was now sound =
    let place : old ≡ get_or queues i.partition [] = here ∙ get_or_default queues i.partition old [] lt in
    let more = length-with_item c i old in
    let counts : batches + (after - count) + length (get_or queues i.partition []) ≡ batches + length new =
    omega (arith, more.1, was, now, ap length is, ap length place) in
    let marks : marked + marked_in (get_or queues i.partition []) ≡ marked + marked_in new = omega (arith, marked_in-with_item c i old, ap marked_in is, ap marked_in place) in
    let fits : AllFit c old = subst (AllFit c) (sym place) (all-at (AllFit c) queues i.partition [] lt sound.fitting) in
    sound-set c queues limit batches marked i.partition new (batches + (after - count)) marked lt counts marks (subst (AllFit c) (sym is) (fits-with_item c i old (allowed c sound.allowed) one fits)) sound

pub appended-is : (c : Config) (queues : List (List Pending)) (used : ℕ) (i : Item) (old new : List Pending) (after : ℕ) → i.partition < length queues → old ≡ get_or queues i.partition old → new ≡ with_item c i old → after ≡ used + charge_of i → record { config = c; queues = set queues i.partition new; used = after } ≡ appended i (record { config = c; queues = queues; used = used })
appended-is c queues used i old new after lt here is e =
    let place : old ≡ get_or queues i.partition [] = here ∙ get_or_default queues i.partition old [] lt in
    ap (λ (q : List Pending). record { config = c; queues = set queues i.partition q; used = after }) (is ∙ ap (with_item c i) place)
    ∙ ap (λ (n : ℕ). record { config = c; queues = set queues i.partition (with_item c i (get_or queues i.partition [])); used = n }) e

-- ---- memory

-- a size that is told is within a small limit where the size is
pub within-is : (n told limit : ℕ) → told ≡ measured n → limit ≤ 8388608 → nat_le told limit ≡ nat_le n limit
unfolding measured
within-is n told limit e small = grind (arith, nat_tests)

-- In what follows a is the accumulator of these fields, and n is the charge that is told of an item that may be appended.

pub charge-small : (a : Accum) (i : Item) (c : Config) (queues : List (List Pending)) (used limit batches marked : ℕ) → record { config = c; queues = queues; used = used } ≡ a → IsSound c queues limit batches marked → charge_of i ≤ a.config.max_request_size → charge_of i ≤ 2147483647
charge-small a i c queues used limit batches marked e sound fits =
    omega (arith, fits, (allowed c sound.allowed).request, ap (λ (x : Accum). x.config.max_request_size) e)

-- there is room exactly where the memory is not exhausted
pub exhausted-is : (a : Accum) (i : Item) (c : Config) (queues : List (List Pending)) (used limit batches marked n : ℕ) (room : Bool) → record { config = c; queues = queues; used = used } ≡ a → IsSound c queues limit batches marked
    → charge_of i ≤ a.config.max_request_size → (charge_of i ≤ 2147483647 → n ≡ charge_of i) → room ≡ nat_le (used + n) limit → is_exhausted i a ≡ not room
exhausted-is a i c queues used limit batches marked n room e sound fits exact is =
    let one = exact (charge-small a i c queues used limit batches marked e sound fits) in
    let memory : limit ≡ a.config.buffer_memory = sound.limited ∙ ap (λ (x : Accum). x.config.buffer_memory) e in
    let before : used ≡ a.used = ap (λ (x : Accum). x.used) e in
    grind (arith, nat_tests)

pub refusal-full : (i : Item) (a : Accum) → is_exhausted i a ≡ true → refusal i a ≡ BufferFull
refusal-full i a e = ap (λ (z : Bool). if z then BufferFull else OutOfMemory) e

pub refusal-memory : (i : Item) (a : Accum) → is_exhausted i a ≡ false → refusal i a ≡ OutOfMemory
refusal-memory i a e = ap (λ (z : Bool). if z then BufferFull else OutOfMemory) e

-- ---- all marked

pub sound-marked : (c c' : Config) (queues queues' : List (List Pending)) (limit limit' batches batches' marked : ℕ) → c' ≡ c → queues' ≡ map (map marked_by_flush) queues → limit' ≡ limit → batches' ≡ batches → IsSound c queues limit batches marked → IsSound c' queues' limit' batches' batches'
sound-marked c c' queues queues' limit limit' batches batches' marked e f g h sound = rw (e, f, g, h) (record {
  allowed = sound.allowed;
  limited = sound.limited;
  counted = sound.counted ∙ sym (all_marked-as_many queues);
  marks = sound.counted ∙ sym (all_marked-counted queues);
  fitting = all-map (AllFit c) (map marked_by_flush) (λ q fits. all-map (Fits c) marked_by_flush (λ b fit. fit) q fits) queues sound.fitting;
})

pub marked-is : (c c' : Config) (queues queues' : List (List Pending)) (used used' : ℕ) → c' ≡ c → queues' ≡ map (map marked_by_flush) queues → used' ≡ used → record { config = c'; queues = queues'; used = used' } ≡ marked (record { config = c; queues = queues; used = used })
marked-is c c' queues queues' used used' e f g = rw (e, f, g) refl
