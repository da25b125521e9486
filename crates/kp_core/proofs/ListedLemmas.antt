-- The list of the busy partitions, after each thing that happens to them.
use Rattle.std.proofs.Common.{◌≡◌, ◌∙◌, ℕ, zero, suc, ◌+◌, ◌^◌, ◌<◌, ◌≤◌, Bool, true, false, List, [], ◌∷◌, ◌++◌, length, map, take, drop, replicate, refl, sym, ap, arith}
use Rattle.std.specs.Prelude.{filter, flat_map, if◌then◌else◌, slice_set}
use Rattle.std.specs.List.{AllByRecursion, enumerate_from}
use Rattle.std.proofs.lemmas.List.{ext_get_or, get_or-drop, get_or-map, get_or-take, get_or_default, length-drop, length-map, length-replicate, length-set, length-append, length-take-le, drop-set, take-set, take-append-drop}
use Rattle.kp_wire.proofs.ListLemmas.{drop_here}
use Rattle.kp_rules.specs.Partitions.{changed_at, is_in, new_partition, partition_at}
use Rattle.kp_rules.specs.Records.{Partition, Effect}
use Rattle.kp_rules.specs.Settling.{left_alone}
use Rattle.kp_rules.proofs.PartitionLemmas.{at-changed_at, at_changed, length-changed_at}
use Rattle.kp_core.specs.Busy.{AreListed, busy_from, busy_in, is_busy}
use Rattle.kp_core.proofs.BusyLemmas.{AreAt, all_at, are_at, busy-append, busy_above, busy_few, busy_under, flat_busy, in_busy, one_more, same_busy}

-- ---- a rule that leaves the idle ones alone, at the busy ones

pub changed_busy : (f : Partition → Partition) (ts : List Partition) → ((t : Partition) → is_busy t ≡ false → f t ≡ t)
    → changed_at (busy_in ts) (λ p t. f t) ts ≡ map f ts
changed_busy f ts quiet = ext_get_or (new_partition 0) (changed_at (busy_in ts) (λ p t. f t) ts) (map f ts)
    (length-changed_at (busy_in ts) (λ p t. f t) ts ∙ sym (length-map ts f)) (λ p l. at_place p (omega (arith, l, length-changed_at (busy_in ts) (λ p t. f t) ts)))
  where
    at_place : (p : ℕ) → p < length ts → partition_at p (changed_at (busy_in ts) (λ p t. f t) ts) ≡ partition_at p (map f ts)
    at_place p l =
        at-changed_at (busy_in ts) (λ p t. f t) ts p l
        ∙ ap (λ (b : Bool). if b then f (partition_at p ts) else partition_at p ts) listed
        ∙ by_flag (is_busy (partition_at p ts)) refl
        ∙ sym (get_or-map f ts p (new_partition 0) (new_partition 0) l)
      where
        listed : is_in p (busy_in ts) ≡ is_busy (partition_at p ts)
        listed = let same : 0 + p ≡ p = omega arith in ap (λ (m : ℕ). is_in m (busy_in ts)) (sym same) ∙ in_busy 0 p ts l

        by_flag : (b : Bool) → is_busy (partition_at p ts) ≡ b → (if b then f (partition_at p ts) else partition_at p ts) ≡ f (partition_at p ts)
        by_flag true is = refl
        by_flag false is = sym (quiet (partition_at p ts) is)

-- an effect that leaves the idle ones alone
pub effects_busy : (rule : Partition → Effect) (ts : List Partition) → ((t : Partition) → is_busy t ≡ false → rule t ≡ left_alone t)
    → changed_at (busy_in ts) (λ p t. (rule t).after) ts ≡ map (λ t. (rule t).after) ts
effects_busy rule ts quiet = changed_busy (λ t. (rule t).after) ts (λ t e. ap (λ (x : Effect). x.after) (quiet t e))

pub told_busy : (rule : Partition → Effect) (ts : List Partition) → ((t : Partition) → is_busy t ≡ false → rule t ≡ left_alone t)
    → flat_map (λ p. (rule (partition_at p ts)).told) (busy_in ts) ≡ flat_map (λ t. (rule t).told) ts
told_busy rule ts quiet = flat_busy (λ t. (rule t).told) 0 ts ts (λ t e. ap (λ (x : Effect). x.told) (quiet t e)) (all_at ts)

-- ---- each is as busy as it was

pub map_same : (f : Partition → Partition) (ts : List Partition) → ((t : Partition) → is_busy (f t) ≡ is_busy t) → busy_in (map f ts) ≡ busy_in ts
map_same f ts same = same_busy ts (map f ts) (flags ts)
  where
    flags : (us : List Partition) → map is_busy (map f us) ≡ map is_busy us
    flags [] = refl
    flags (u ∷ us) = ap (λ (b : Bool). b ∷ map is_busy (map f us)) (same u) ∙ ap (λ (bs : List Bool). is_busy u ∷ bs) (flags us)

pub changed_same : (ps : List ℕ) (f : ℕ → Partition → Partition) (ts : List Partition)
    → ((p : ℕ) (t : Partition) → is_busy (f p t) ≡ is_busy t) → busy_in (changed_at ps f ts) ≡ busy_in ts
unfolding changed_at
changed_same ps f ts same = same_busy ts (map new (enumerate_from 0 ts)) (flags 0 ts)
  where
    new : ℕ × Partition → Partition
    new x = if is_in x.0 ps then f x.0 x.1 else x.1

    one : (n : ℕ) (u : Partition) (b : Bool) → is_busy (if b then f n u else u) ≡ is_busy u
    one n u true = same n u
    one n u false = refl

    flags : (n : ℕ) (us : List Partition) → map is_busy (map new (enumerate_from n us)) ≡ map is_busy us
    flags n [] = refl
    flags n (u ∷ us) =
        ap (λ (b : Bool). b ∷ map is_busy (map new (enumerate_from (n + 1) us))) (one n u (is_in n ps))
        ∙ ap (λ (bs : List Bool). is_busy u ∷ bs) (flags (n + 1) us)

pub set_same : (p : ℕ) (v : Partition) (ts : List Partition) → is_busy v ≡ is_busy (partition_at p ts) → busy_in (slice_set ts p v) ≡ busy_in ts
set_same p v ts same = same_busy ts (slice_set ts p v) (flags p ts same)
  where
    flags : (k : ℕ) (us : List Partition) → is_busy v ≡ is_busy (partition_at k us) → map is_busy (slice_set us k v) ≡ map is_busy us
    flags k [] e = refl
    flags zero (u ∷ us) e = ap (λ (b : Bool). b ∷ map is_busy us) e
    flags (suc k) (u ∷ us) e = ap (λ (bs : List Bool). is_busy u ∷ bs) (flags k us e)

-- ---- none is busy that was not

abbrev Fades : List Partition → List Partition → Type 0
Fades [] [] = Unit {0}
Fades [] (y ∷ ys) = ⊥
Fades (x ∷ xs) [] = ⊥
Fades (x ∷ xs) (y ∷ ys) = (is_busy x ≡ false → is_busy y ≡ false) × Fades xs ys

fades : (xs ys : List Partition) → length ys ≡ length xs
    → ((k : ℕ) → is_busy (partition_at k xs) ≡ false → is_busy (partition_at k ys) ≡ false) → Fades xs ys
fades [] [] e f = tt
fades [] (y ∷ ys) e f = absurd (omega (arith, e))
fades (x ∷ xs) [] e f = absurd (omega (arith, e))
fades (x ∷ xs) (y ∷ ys) e f = (f zero, fades xs ys (omega (arith, e)) (λ k. f (suc k)))

sifted : (n : ℕ) (xs ys us : List Partition) → Fades xs ys → AreAt n ys us
    → filter (λ p. is_busy (partition_at p us)) (busy_from n xs) ≡ busy_from n ys
sifted n [] [] us f at = refl
sifted n [] (y ∷ ys) us f at = absurd f
sifted n (x ∷ xs) [] us f at = absurd f
sifted n (x ∷ xs) (y ∷ ys) us f at = by_flag (sifted (n + 1) xs ys us f.1 at.1) (is_busy x) refl
  where
    by_flag : filter (λ p. is_busy (partition_at p us)) (busy_from (n + 1) xs) ≡ busy_from (n + 1) ys → (b : Bool) → is_busy x ≡ b → filter (λ p. is_busy (partition_at p us)) (one_more b n (busy_from (n + 1) xs)) ≡ busy_from n (y ∷ ys)
    by_flag rest true is =
        ap (λ (t : Partition). one_more (is_busy t) n (filter (λ p. is_busy (partition_at p us)) (busy_from (n + 1) xs))) at.0
        ∙ ap (one_more (is_busy y) n) rest
    by_flag rest false is = rest ∙ ap (λ (b : Bool). one_more b n (busy_from (n + 1) ys)) (sym (f.0 is))

pub kept_busy : (ts us : List Partition) → length us ≡ length ts
    → ((k : ℕ) → is_busy (partition_at k ts) ≡ false → is_busy (partition_at k us) ≡ false)
    → filter (λ p. is_busy (partition_at p us)) (busy_in ts) ≡ busy_in us
kept_busy ts us count f = sifted 0 ts us us (fades ts us count f) (all_at us)

-- where a rule leaves the idle ones alone
pub kept_changed : (ps : List ℕ) (rule : ℕ → Partition → Effect) (ts : List Partition)
    → ((p : ℕ) (t : Partition) → is_busy t ≡ false → rule p t ≡ left_alone t)
    → filter (λ p. is_busy (partition_at p (changed_at ps (λ p t. (rule p t).after) ts))) (busy_in ts) ≡ busy_in (changed_at ps (λ p t. (rule p t).after) ts)
kept_changed ps rule ts quiet =
    kept_busy ts (changed_at ps (λ p t. (rule p t).after) ts) (length-changed_at ps (λ p t. (rule p t).after) ts)
    (λ k e. at_changed (λ u. is_busy u ≡ false) ps (λ p t. (rule p t).after) ts k
    (λ l there. ap (λ (x : Effect). is_busy x.after) (quiet k (partition_at k ts) e) ∙ e) (λ away. e))

-- ---- none is busy

pub none_busy : (n : ℕ) (ts : List Partition) → AllByRecursion (λ t. is_busy t ≡ false) ts → busy_from n ts ≡ []
none_busy n [] h = refl
none_busy n (t ∷ ts) h = ap (λ (b : Bool). one_more b n (busy_from (n + 1) ts)) h.0 ∙ none_busy (n + 1) ts h.1

pub none_after : (f : Partition → Partition) (ts : List Partition) → ((t : Partition) → is_busy (f t) ≡ false) → busy_in (map f ts) ≡ []
none_after f ts idle = none_busy 0 (map f ts) (each ts)
  where
    each : (us : List Partition) → AllByRecursion (λ t. is_busy t ≡ false) (map f us)
    each [] = tt
    each (u ∷ us) = (idle u, each us)

pub none_at_first : (n : ℕ) (t : Partition) → is_busy t ≡ false → busy_in (replicate n t) ≡ []
none_at_first n t idle = none_busy 0 (replicate n t) (each n)
  where
    each : (m : ℕ) → AllByRecursion (λ t. is_busy t ≡ false) (replicate m t)
    each zero = tt
    each (suc m) = (idle, each m)

-- ---- one more is busy

-- the busy ones below this one, and from it on
pub busy_split : (p : ℕ) (ts : List Partition) → p ≤ length ts → busy_in ts ≡ busy_from 0 (take p ts) ++ busy_from p (drop p ts)
busy_split p ts l =
    let same : 0 + length (take p ts) ≡ p = omega (arith, length-take-le p ts l) in
    ap busy_in (sym (take-append-drop p ts)) ∙ busy-append 0 (take p ts) (drop p ts)
    ∙ ap (λ (m : ℕ). busy_from 0 (take p ts) ++ busy_from m (drop p ts)) same

pub split_idle : (p : ℕ) (ts : List Partition) → p < length ts → is_busy (partition_at p ts) ≡ false
    → busy_in ts ≡ busy_from 0 (take p ts) ++ busy_from (p + 1) (drop (p + 1) ts)
split_idle p ts l idle =
    let here : drop p ts ≡ partition_at p ts ∷ drop (p + 1) ts = drop_here ts p (partition_at p ts) l (get_or_default ts p (new_partition 0) (partition_at p ts) l) in
    busy_split p ts (omega (arith, l))
    ∙ ap (λ (us : List Partition). busy_from 0 (take p ts) ++ busy_from p us) here
    ∙ ap (λ (b : Bool). busy_from 0 (take p ts) ++ one_more b p (busy_from (p + 1) (drop (p + 1) ts))) idle

pub split_filled : (p : ℕ) (v : Partition) (ts : List Partition) → p < length ts → is_busy v ≡ true
    → busy_in (slice_set ts p v) ≡ busy_from 0 (take p ts) ++ p ∷ busy_from (p + 1) (drop (p + 1) ts)
split_filled p v ts l busy =
    busy_split p (slice_set ts p v) (omega (arith, l, length-set ts p v))
    ∙ ap (λ (us : List Partition). busy_from 0 us ++ busy_from p (drop p (slice_set ts p v))) (take-set ts p v)
    ∙ ap (λ (us : List Partition). busy_from 0 (take p ts) ++ busy_from p us) (drop-set ts p v l)
    ∙ ap (λ (b : Bool). busy_from 0 (take p ts) ++ one_more b p (busy_from (p + 1) (drop (p + 1) ts))) busy

pub below_it : (p : ℕ) (ts : List Partition) → p ≤ length ts → AllByRecursion (λ q. q < p) (busy_from 0 (take p ts))
below_it p ts l = busy_under 0 p (take p ts) (omega (arith, length-take-le p ts l))

pub room_left : {ts : List Partition} {listed : List ℕ} {capacity : ℕ} (p : ℕ) → p < length ts → is_busy (partition_at p ts) ≡ false
    → AreListed ts listed capacity → length listed < capacity
room_left {ts} {listed} {capacity} p l idle h = omega (arith, h.room, fewer, ap (λ (ps : List ℕ). length ps) (h.busy ∙ split_idle p ts l idle), length-append below above, l)
  where
    below : List ℕ
    below = busy_from 0 (take p ts)

    above : List ℕ
    above = busy_from (p + 1) (drop (p + 1) ts)

    fewer : length below + length above < length ts
    fewer = omega (arith, l, busy_few 0 (take p ts), busy_few (p + 1) (drop (p + 1) ts), length-take-le p ts (omega (arith, l)), length-drop (p + 1) ts)

-- ---- these stand in the list

pub first_at : (p : ℕ) (ts : List Partition) → p ≤ length ts → AreAt 0 (take p ts) ts
first_at p ts l = are_at 0 (take p ts) ts
    (λ k m. let same : 0 + k ≡ k = omega arith in ap (λ (q : ℕ). partition_at q ts) same ∙ sym (get_or-take p ts k (new_partition 0) (omega (arith, m, length-take-le p ts l))))

pub last_at : (p : ℕ) (ts : List Partition) → AreAt p (drop p ts) ts
last_at p ts = are_at p (drop p ts) ts (λ k m. sym (get_or-drop p ts k (new_partition 0)))

-- ---- what is listed still

pub same_listed : {ts : List Partition} {listed : List ℕ} {capacity : ℕ} (us : List Partition) → length us ≡ length ts → busy_in us ≡ busy_in ts
    → AreListed ts listed capacity → AreListed us listed capacity
same_listed us count same h = record { busy = h.busy ∙ sym same; room = omega (arith, h.room, count); count = omega (arith, h.count, count) }

pub map_listed : {ts : List Partition} {listed : List ℕ} {capacity : ℕ} (f : Partition → Partition) (us : List Partition) → us ≡ map f ts
    → ((t : Partition) → is_busy (f t) ≡ is_busy t) → AreListed ts listed capacity → AreListed us listed capacity
map_listed {ts} f us is same h = same_listed us (ap (λ (vs : List Partition). length vs) is ∙ length-map ts f) (ap busy_in is ∙ map_same f ts same) h

pub changed_listed : {ts : List Partition} {listed : List ℕ} {capacity : ℕ} (ps : List ℕ) (f : ℕ → Partition → Partition) (us : List Partition)
    → us ≡ changed_at ps f ts → ((p : ℕ) (t : Partition) → is_busy (f p t) ≡ is_busy t) → AreListed ts listed capacity → AreListed us listed capacity
changed_listed {ts} ps f us is same h =
    same_listed us (ap (λ (vs : List Partition). length vs) is ∙ length-changed_at ps f ts) (ap busy_in is ∙ changed_same ps f ts same) h

pub set_listed : {ts : List Partition} {listed : List ℕ} {capacity : ℕ} (p : ℕ) (v : Partition) → is_busy v ≡ is_busy (partition_at p ts)
    → AreListed ts listed capacity → AreListed (slice_set ts p v) listed capacity
set_listed {ts} p v same h = same_listed (slice_set ts p v) (length-set ts p v) (set_same p v ts same) h

-- those that stay busy are kept
pub kept_listed : {ts : List Partition} {listed : List ℕ} {capacity : ℕ} (ps : List ℕ) (rule : ℕ → Partition → Effect) (us vs : List Partition) (left : List ℕ) (room : ℕ)
    → ((p : ℕ) (t : Partition) → is_busy t ≡ false → rule p t ≡ left_alone t)
    → us ≡ changed_at ps (λ p t. (rule p t).after) ts → vs ≡ us → left ≡ filter (λ p. is_busy (partition_at p vs)) listed → room ≡ capacity
    → AreListed ts listed capacity → AreListed us left room
kept_listed {ts} {listed} {capacity} ps rule us vs left room quiet is seen kept same h = record {
  busy =
      kept ∙ ap (λ (xs : List Partition). filter (λ p. is_busy (partition_at p xs)) listed) (seen ∙ is)
      ∙ ap (filter (λ p. is_busy (partition_at p after))) h.busy
      ∙ kept_changed ps rule ts quiet ∙ ap busy_in (sym is);
  room = omega (arith, count, h.room, same);
  count = omega (arith, count, h.count);
}
  where
    after : List Partition
    after = changed_at ps (λ p t. (rule p t).after) ts

    count : length us ≡ length ts
    count = ap (λ (xs : List Partition). length xs) is ∙ length-changed_at ps (λ p t. (rule p t).after) ts

-- nothing is left
pub none_listed : {ts : List Partition} {listed : List ℕ} {capacity : ℕ} (f : Partition → Partition) (us : List Partition) (left : List ℕ) (room : ℕ)
    → ((t : Partition) → is_busy (f t) ≡ false) → us ≡ map f ts → left ≡ [] → room ≡ capacity → AreListed ts listed capacity → AreListed us left room
none_listed {ts} f us left room idle is none same h =
    let count : length us ≡ length ts = ap (λ (xs : List Partition). length xs) is ∙ length-map ts f in
    record { busy = none ∙ sym (ap busy_in is ∙ none_after f ts idle); room = omega (arith, count, h.room, same); count = omega (arith, count, h.count) }

-- one more is busy
pub filled_listed : {ts : List Partition} {listed : List ℕ} {capacity : ℕ} (p : ℕ) (v : Partition) (left : List ℕ) (room : ℕ)
    → p < length ts → is_busy (partition_at p ts) ≡ false → is_busy v ≡ true
    → ((below above : List ℕ) → listed ≡ below ++ above → AllByRecursion (λ q. q < p) below → AllByRecursion (λ q. p ≤ q) above → left ≡ below ++ p ∷ above)
    → room ≡ capacity → AreListed ts listed capacity → AreListed (slice_set ts p v) left room
filled_listed {ts} p v left room there idle busy put same h = record {
  busy =
      put (busy_from 0 (take p ts)) (busy_from (p + 1) (drop (p + 1) ts)) (h.busy ∙ split_idle p ts there idle)
      (below_it p ts (omega (arith, there))) (busy_above (p + 1) p (drop (p + 1) ts) (omega arith))
      ∙ sym (split_filled p v ts there busy);
  room = omega (arith, length-set ts p v, h.room, same);
  count = omega (arith, length-set ts p v, h.count);
}

pub first_listed : (n : ℕ) (t : Partition) (ts : List Partition) (listed : List ℕ) (capacity : ℕ) → is_busy t ≡ false → n < 2 ^ 32
    → ts ≡ replicate n t → listed ≡ [] → capacity ≡ n → AreListed ts listed capacity
first_listed n t ts listed capacity idle few is none room =
    let count : length ts ≡ n = ap (λ (us : List Partition). length us) is ∙ length-replicate n t in
    record { busy = none ∙ sym (ap busy_in is ∙ none_at_first n t idle); room = omega (arith, count, room); count = omega (arith, count, few) }
