-- Places of latencies, and what a table of them tells.
use Rattle.std.proofs.Common.{◌≡◌, ℕ, zero, suc, ◌+◌, ◌-◌, ◌*◌, ◌/◌, ◌<◌, ◌≤◌, ◌^◌, min, nat_le, nat_lt, true, false, List, [], ◌∷◌, ◌++◌, length, map, get_or, set, take, drop, refl, ap, ap₂, sym, subst, ◌∙◌, ◌%◌, append-nil, inl, inr, arith, Option, Some, None}
use Rattle.std.specs.Prelude.{All, IfSome, slice_get}
use Rattle.std.specs.List.Sorted.{IsPartitionedBy, IsPartitionPoint}
use Rattle.std.proofs.lemmas.Bool.{and_from, and_left, and_parts, and_right, cases_Bool, cases_lt, le-leb, le-ltb, leb-false, leb-true, lt-leb, lt-ltb, ltb-true}
use Rattle.std.proofs.lemmas.List.{drop_more, get_or_default, take-append-drop}
use Rattle.std.proofs.lemmas.List.Elements.{All-head, All-tail}
use Rattle.std.proofs.lemmas.List.Sums.{sum_by-cons, sum_by-set}
use Rattle.std.proofs.lemmas.Option.{slice_get-get_or}
use Rattle.kp_send.specs.declared.latency.Place.{Place}
use Rattle.kp_send.specs.Latency.{Adjoin, count_in, is_in, IsRanked, IsWhole, put_in, Table, width}

abbrev pub no_place : Place
no_place = record { least = 0; count = 0 }

-- ---- where a latency belongs

pub belongs : (latency : ℕ) (p : Place) → p.least ≤ latency → latency < p.least + width p.least → is_in latency p ≡ true
belongs latency p low high = and_from _ _ (le-leb p.least latency low) (lt-ltb latency (p.least + width p.least) high)

pub below : (latency : ℕ) (p : Place) → latency < p.least → is_in latency p ≡ false
below latency p high = and_left _ _ (lt-leb p.least latency high)

pub above : (latency : ℕ) (p : Place) → p.least + width p.least ≤ latency → is_in latency p ≡ false
above latency p low = and_right _ _ (le-ltb latency (p.least + width p.least) low)

pub put_there : (latency : ℕ) (p : Place) → is_in latency p ≡ true → put_in latency p ≡ record p { count = p.count + 1 }
put_there latency p here = rw here refl

pub put_elsewhere : (latency : ℕ) (p : Place) → is_in latency p ≡ false → put_in latency p ≡ p
put_elsewhere latency p differs = rw differs refl

-- no place from here on begins lower
from_here : (from : ℕ) (ps : List Place) (i : ℕ) → Adjoin from ps → i < length ps → from ≤ (get_or ps i no_place).least
from_here from [] i adjoin within = absurd (omega (arith, within))
from_here from (p ∷ ps) zero adjoin within = omega (arith, adjoin.0)
from_here from (p ∷ ps) (suc i) adjoin within = omega (arith, from_here (from + width from) ps i adjoin.1 (omega (arith, within)))

-- places begin in order
pub in_order : (from : ℕ) (ps : List Place) (i j : ℕ) → Adjoin from ps → i ≤ j → j < length ps
    → (get_or ps i no_place).least ≤ (get_or ps j no_place).least
in_order from [] i j adjoin le within = absurd (omega (arith, within))
in_order from (p ∷ ps) zero j adjoin le within = omega (arith, adjoin.0, from_here from (p ∷ ps) j adjoin within)
in_order from (p ∷ ps) (suc i) zero adjoin le within = absurd (omega (arith, le))
in_order from (p ∷ ps) (suc i) (suc j) adjoin le within = in_order (from + width from) ps i j adjoin.1 (omega (arith, le)) (omega (arith, within))

-- a place ends where the next one begins
pub ends_there : (from : ℕ) (ps : List Place) (i : ℕ) → Adjoin from ps → suc i < length ps
    → (get_or ps (suc i) no_place).least ≡ (get_or ps i no_place).least + width (get_or ps i no_place).least
ends_there from [] i adjoin within = absurd (omega (arith, within))
ends_there from (p ∷ []) i adjoin within = absurd (omega (arith, within))
ends_there from (p ∷ q ∷ ps) zero adjoin within = adjoin.1.0 ∙ ap (λ (n : ℕ). n + width n) (sym adjoin.0)
ends_there from (p ∷ q ∷ ps) (suc i) adjoin within = ends_there (from + width from) (q ∷ ps) i adjoin.1 (omega (arith, within))

-- the last one beyond the greatest u64
pub ends_beyond : (from : ℕ) (ps : List Place) (i : ℕ) → Adjoin from ps → suc i ≡ length ps
    → 2 ^ 64 ≤ (get_or ps i no_place).least + width (get_or ps i no_place).least
ends_beyond from [] i adjoin last = absurd (omega (arith, last))
ends_beyond from (p ∷ []) zero adjoin last = subst (λ (n : ℕ). 2 ^ 64 ≤ n + width n) (sym adjoin.0) adjoin.1
ends_beyond from (p ∷ []) (suc i) adjoin last = absurd (omega (arith, last))
ends_beyond from (p ∷ q ∷ ps) zero adjoin last = absurd (omega (arith, last))
ends_beyond from (p ∷ q ∷ ps) (suc i) adjoin last = ends_beyond (from + width from) (q ∷ ps) i adjoin.1 (omega (arith, last))

-- ---- one more

-- nothing changes in places above it
stay_above : (latency from : ℕ) (ps : List Place) → Adjoin from ps → latency < from → map (put_in latency) ps ≡ ps
stay_above latency from [] adjoin high = refl
stay_above latency from (p ∷ ps) adjoin high =
    ap₂ (λ (q : Place) (qs : List Place). q ∷ qs) (put_elsewhere latency p (below latency p (omega (arith, adjoin.0))))
    (stay_above latency (from + width from) ps adjoin.1 (omega arith))

-- what was put in its place was put in all
pub put_at : (latency from : ℕ) (ps : List Place) (i : ℕ) → Adjoin from ps → i < length ps → is_in latency (get_or ps i no_place) ≡ true
    → map (put_in latency) ps ≡ set ps i (record (get_or ps i no_place) { count = (get_or ps i no_place).count + 1 })
put_at latency from [] i adjoin within here = absurd (omega (arith, within))
put_at latency from (p ∷ ps) zero adjoin within here =
    let parts = and_parts (nat_le p.least latency) (nat_lt latency (p.least + width p.least)) here in
    let high : latency < p.least + width p.least = ltb-true _ _ parts.1 in
    let later : latency < from + width from = subst (λ (n : ℕ). latency < n + width n) adjoin.0 high in
    ap₂ (λ (q : Place) (qs : List Place). q ∷ qs) (put_there latency p here) (stay_above latency (from + width from) ps adjoin.1 later)
put_at latency from (p ∷ ps) (suc i) adjoin within here =
    let q = get_or ps i no_place in
    let parts = and_parts (nat_le q.least latency) (nat_lt latency (q.least + width q.least)) here in
    let low : q.least ≤ latency = leb-true _ _ parts.0 in
    let later = from_here (from + width from) ps i adjoin.1 (omega (arith, within)) in
    let past : p.least + width p.least ≤ latency = subst (λ (n : ℕ). n + width n ≤ latency) (sym adjoin.0) (omega (arith, low, later)) in
    ap₂ (λ (q : Place) (qs : List Place). q ∷ qs) (put_elsewhere latency p (above latency p past))
    (put_at latency (from + width from) ps i adjoin.1 (omega (arith, within)) here)

put_least : (latency : ℕ) (p : Place) → (put_in latency p).least ≡ p.least
put_least latency p =
    elim (cases_Bool (is_in latency p)) [
      | inl here ↦ ap (λ (q : Place). q.least) (put_there latency p here)
      | inr differs ↦ ap (λ (q : Place). q.least) (put_elsewhere latency p differs)
    ]

pub still_adjoin : (latency from : ℕ) (ps : List Place) → Adjoin from ps → Adjoin from (map (put_in latency) ps)
still_adjoin latency from [] adjoin = adjoin
still_adjoin latency from (p ∷ ps) adjoin = (put_least latency p ∙ adjoin.0, still_adjoin latency (from + width from) ps adjoin.1)

-- ---- the places of all latencies

-- places from this latency on, or none where there is no latency
abbrev pub AdjoinAt : Option ℕ → List Place → Type 0
AdjoinAt (Some from) places = Adjoin from places
AdjoinAt None places = places ≡ []

-- how many latencies have no place yet
abbrev pub left_of : Option ℕ → ℕ
left_of (Some from) = 2 ^ 64 - from
left_of None = 0

-- no latency is left
pub all_adjoin : (places : List Place) (next : Option ℕ) → ((more : List Place) → AdjoinAt next more → Adjoin 0 (places ++ more))
    → ((from : ℕ) → next ≡ Some from → ⊥) → Adjoin 0 places
all_adjoin places None covers none = subst (λ (ps : List Place). Adjoin 0 ps) (append-nil places) (covers [] refl)
all_adjoin places (Some from) covers none = absurd (none from refl)

none_counted : (ps : List Place) → All (λ (p : Place). p.count ≡ 0) ps → count_in ps ≡ 0
none_counted [] none = refl
none_counted (p ∷ ps) none =
    let here : p.count ≡ 0 = All-head (λ (p : Place). p.count ≡ 0) p ps none in
    sum_by-cons (λ (p : Place). p.count) p ps ∙ ap₂ (λ (a b : ℕ). a + b) here (none_counted ps (All-tail (λ (p : Place). p.count ≡ 0) p ps none))

pub whole_at_first : (ps : List Place) → Adjoin 0 ps → All (λ (p : Place). p.count ≡ 0) ps → IsWhole ps 0
whole_at_first ps covers none = record { covers = covers; counted = none_counted ps none }

-- ---- finding a place

pub begins_below : (latency : ℕ) (ps : List Place) → Adjoin 0 ps → IsPartitionedBy (λ (p : Place). nat_le p.least latency) ps
begins_below latency ps adjoin i j d le within passes =
    let order = in_order 0 ps i j adjoin le within in
    let far : (get_or ps j d).least ≤ latency = leb-true _ _ passes in
    let near : get_or ps i d ≡ get_or ps i no_place = get_or_default ps i d no_place (omega (arith, le, within)) in
    let last : get_or ps j d ≡ get_or ps j no_place = get_or_default ps j d no_place within in
    le-leb _ _ (subst (λ (p : Place). p.least ≤ latency) (sym near)
    (omega (arith, order, subst (λ (p : Place). p.least ≤ latency) last far)))

module _ (latency : ℕ) (ps : List Place) (behind : ℕ) (small : latency < 2 ^ 64) (adjoin : Adjoin 0 ps) (bound : behind ≤ length ps)
    (found : IsPartitionPoint (λ (p : Place). nat_le p.least latency ≡ true) (λ (p : Place). nat_le p.least latency ≡ false) ps behind) where
  pub some_begins : 1 ≤ behind
  some_begins = some_at ps behind adjoin found
    where
      some_at : (qs : List Place) (n : ℕ) → Adjoin 0 qs
          → IsPartitionPoint (λ (p : Place). nat_le p.least latency ≡ true) (λ (p : Place). nat_le p.least latency ≡ false) qs n → 1 ≤ n
      some_at [] n covers parts = absurd (omega (arith, covers))
      some_at (q ∷ qs) zero covers parts =
          let no : nat_le q.least latency ≡ false = parts.1 0 no_place (omega arith) (omega arith) in
          absurd (omega (arith, covers.0, leb-false q.least latency no))
      some_at (q ∷ qs) (suc n) covers parts = omega arith

  pub belongs_there : is_in latency (get_or ps (behind - 1) no_place) ≡ true
  belongs_there =
      let at = behind - 1 in
      let p = get_or ps at no_place in
      let some = some_begins in
      let low : p.least ≤ latency = leb-true p.least latency (found.0 at no_place (omega arith) (omega (arith, some))) in
      elim (cases_lt behind (length ps)) [
        | inl more ↦
            let next : suc at < length ps = omega (arith, some, more) in
            let no : nat_le (get_or ps (suc at) no_place).least latency ≡ false = found.1 (suc at) no_place (omega (arith, some)) next in
            let ends = ends_there 0 ps at adjoin next in
            belongs latency p low (omega (arith, ends, leb-false _ _ no))
        | inr last ↦
            let end : suc at ≡ length ps = omega (arith, some, last, bound) in
            belongs latency p low (omega (arith, small, ends_beyond 0 ps at adjoin end))
      ]

-- ---- one more in a table

pub put_whole : (latency count i : ℕ) (ps : List Place) (place : Place) → IsWhole ps count → i < length ps → place ≡ get_or ps i place
    → IfSome (slice_get ps i) (λ (p : Place). is_in latency p ≡ true)
    → (set ps i (record { least = place.least; count = place.count + 1 }) ≡ map (put_in latency) ps)
    × IsWhole (set ps i (record { least = place.least; count = place.count + 1 })) (count + 1)
put_whole latency count i ps place whole within is there =
    let its : place ≡ get_or ps i no_place = is ∙ get_or_default ps i place no_place within in
    let more : Place = record { least = place.least; count = place.count + 1 } in
    let here : is_in latency (get_or ps i no_place) ≡ true = subst (λ (o : Option Place). IfSome o (λ (p : Place). is_in latency p ≡ true)) (slice_get-get_or ps i no_place within) there in
    let put = put_at latency 0 ps i whole.covers within here in
    let same : set ps i more ≡ map (put_in latency) ps = ap (λ (p : Place). set ps i (record p { count = p.count + 1 })) its ∙ sym put in
    let sum = sum_by-set (λ (p : Place). p.count) ps i more no_place within in (
      same,
      record {
        covers = subst (λ (qs : List Place). Adjoin 0 qs) (sym same) (still_adjoin latency 0 ps whole.covers);
        counted = omega (arith, sum, whole.counted, ap (λ (p : Place). p.count) its);
      },
    )

-- ---- ranks

pub hundredths : (c m : ℕ) → m ≤ 100 → (c / 100 * (100 - m) + c % 100 * (100 - m) / 100 ≤ c)
    × (c - (c / 100 * (100 - m) + c % 100 * (100 - m) / 100) ≡ (c * m + 99) / 100)
hundredths c m small =
    let k = 100 - m in
    let whole : k + m ≡ 100 = omega (arith, small) in
    let parts : c ≡ 100 * (c / 100) + c % 100 = omega arith in
    let all : c * k + c * m ≡ 100 * c = omega (arith, ap (λ (n : ℕ). c * n) whole) in
    let some : c * k ≡ 100 * (c / 100 * k) + c % 100 * k = omega (arith, ap (λ (n : ℕ). n * k) parts) in
    (omega (arith, all, some), omega (arith, all, some))

-- ---- what is told of a rank

pub ranked : (t : Table) (i rank counted told : ℕ) → i < length t.places → counted ≡ count_in (take i t.places) → counted < rank
    → rank ≤ counted + (get_or t.places i no_place).count
    → told ≡ min ((get_or t.places i no_place).least + width (get_or t.places i no_place).least - 1) t.greatest → IsRanked t rank told
ranked t i rank counted told within so_far less reached is = record {
  before = take i t.places;
  place = get_or t.places i no_place;
  behind = drop (i + 1) t.places;
  parts = sym (take-append-drop i t.places) ∙ ap (λ (ps : List Place). take i t.places ++ ps) (drop_more t.places i no_place within);
  not_before = omega (arith, so_far, less);
  reached = omega (arith, so_far, reached);
  is = is;
}
