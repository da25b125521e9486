-- Telling batch after batch on the desk: of open batches, and of queued ones.
use Rattle.std.proofs.Common.{◌≡◌, ◌∙◌, sym, ap, refl, subst, ℕ, ◌+◌, ◌-◌, ◌≤◌, ◌<◌, Bool, true, false, List, [], ◌∷◌, ◌++◌, length, get_or, drop, Some, None, Option, length-append, arith}
use Rattle.std.specs.Prelude.{if◌then◌else◌, slice_get}
use Rattle.std.proofs.lemmas.List.{drop_more, map-append}
use Rattle.kp_accum.specs.declared.config.Config.{Config}
use Rattle.kp_accum.specs.declared.item.Item.{Item}
use Rattle.kp_accum.specs.Queue.{Pending}
use Rattle.kp_accum.specs.Ready.{expired, is_late, unexpired}
use Rattle.kp_rules.specs.declared.outcome.Outcome.{Outcome}
use Rattle.kp_rules.specs.Partitions.{items_open, items_queued}
use Rattle.kp_rules.specs.Records.{Open, Told}
use Rattle.kp_rules.specs.Telling.{told_all}
use Rattle.kp_rules.specs.Tick.{behind_late, late_front}
use Rattle.kp_parts.specs.Desk.{Desk, tell_desk, Covers}
use Rattle.kp_parts.proofs.DeskLemmas.{covers-left, covers-right, same_desk, tell_desk-append, told_lines-nil}

-- ---- in two parts

pub tell_desk-nil : (d : Desk) → tell_desk [] d ≡ d
tell_desk-nil d =
    let untold : d.untold - 0 ≡ d.untold = omega arith in
    let used : d.used - 0 ≡ d.used = omega arith in
    same_desk _ _ _ _ _ _ d.limit (told_lines-nil d.lines) untold used

pub told_nothing : (all : List Told) (d : Desk) → all ≡ [] → d ≡ tell_desk all d
told_nothing all d e = sym (ap (λ (z : List Told). tell_desk z d) e ∙ tell_desk-nil d)

pub covers_first : (a b all : List Told) (d : Desk) → all ≡ a ++ b → Covers d all → Covers d a
covers_first a b all d e h = covers-left a b d (subst (Covers d) e h)

-- after some were told, telling the others tells all
pub told_then : (a b all : List Told) (d new : Desk) → all ≡ a ++ b → new ≡ tell_desk a d → tell_desk b new ≡ tell_desk all d
told_then a b all d new e f =
    ap (tell_desk b) f ∙ sym (tell_desk-append a b d) ∙ ap (λ (z : List Told). tell_desk z d) (sym e)

pub covers_then : (a b all : List Told) (d new : Desk) → all ≡ a ++ b → new ≡ tell_desk a d → Covers d all → Covers new b
covers_then a b all d new e f h =
    subst (λ (z : Desk). Covers z b) (sym f) (covers-right a b d (subst (Covers d) e h))

-- ---- one batch, and then the others

pub told_all-append : (outcome : Outcome) (a b : List Item) → told_all outcome (a ++ b) ≡ told_all outcome a ++ told_all outcome b
told_all-append outcome a b = map-append (λ (i : Item). let t : Told = record { item = i; outcome = outcome } in t) a b

pub open_told : (outcome : Outcome) (os : List Open) (n : ℕ) (o : Open) → n < length os → o ≡ get_or os n o
    → told_all outcome (items_open (drop n os)) ≡ told_all outcome o.batch.items ++ told_all outcome (items_open (drop (n + 1) os))
open_told outcome os n o lt is =
    ap (λ (z : List Open). told_all outcome (items_open z)) (drop_more os n o lt ∙ ap (λ (z : Open). z ∷ drop (n + 1) os) (sym is))
    ∙ told_all-append outcome o.batch.items (items_open (drop (n + 1) os))

pub queued_told : (outcome : Outcome) (q : List Pending) (b : Pending) → slice_get q 0 ≡ Some b
    → told_all outcome (items_queued q) ≡ told_all outcome b.items ++ told_all outcome (items_queued (drop 1 q))
queued_told outcome [] b e = cc
queued_told outcome (x ∷ xs) b e =
    let same : x ≡ b = cc in
    told_all-append outcome x.items (items_queued xs)
    ∙ ap (λ (z : Pending). told_all outcome z.items ++ told_all outcome (items_queued xs)) same

pub shorter : (q : List Pending) (b : Pending) → slice_get q 0 ≡ Some b → length (drop 1 q) < length q
shorter [] b e = cc
shorter (x ∷ xs) b e = omega arith

pub queue_ends : (q : List Pending) → slice_get q 0 ≡ None → q ≡ []
queue_ends [] e = refl
queue_ends (x ∷ xs) e = cc

-- ---- the late front of a queue

-- Its first batch expires, and the others behind it.
pub record Expires (c : Config) (now : ℕ) (q : List Pending) (b : Pending) : Type 0 where
  pub late : late_front c now q ≡ b ∷ late_front c now (unexpired c now q)
  pub behind : behind_late c now (unexpired c now q) ≡ behind_late c now q
  pub items : length (items_queued q) ≡ length b.items + length (items_queued (unexpired c now q))
  pub fewer : length (unexpired c now q) < length q

-- No batch expires.
pub record IsPunctual (c : Config) (now : ℕ) (q : List Pending) : Type 0 where
  pub late : late_front c now q ≡ []
  pub behind : unexpired c now q ≡ behind_late c now q
  pub same : unexpired c now q ≡ q

pub expires : (c : Config) (now : ℕ) (q : List Pending) (b : Pending) → expired c now q ≡ Some b → Expires c now q b
unfolding expired unexpired late_front behind_late
expires c now [] b e = cc
expires c now (x ∷ xs) b e = at_test (is_late c now x) refl e
  where
    at_test : (z : Bool) → is_late c now x ≡ z → (if z then Some x else None) ≡ Some b → Expires c now (x ∷ xs) b
    at_test true is f =
        let same : x ≡ b = cc in
        let rest : unexpired c now (x ∷ xs) ≡ xs = ap (λ (t : Bool). if t then xs else x ∷ xs) is in
        record {
          late =
              ap (λ (t : Bool). if t then x ∷ late_front c now xs else []) is
              ∙ ap (λ (y : Pending). y ∷ late_front c now xs) same
              ∙ ap (λ (ys : List Pending). b ∷ late_front c now ys) (sym rest);
          behind =
              ap (behind_late c now) rest
              ∙ sym (ap (λ (t : Bool). if t then behind_late c now xs else x ∷ xs) is);
          items =
              length-append x.items (items_queued xs)
              ∙ ap (λ (y : Pending). length y.items + length (items_queued xs)) same
              ∙ ap (λ (ys : List Pending). length b.items + length (items_queued ys)) (sym rest);
          fewer = omega (arith, ap (λ (ys : List Pending). length ys) rest);
        }
    at_test false is f = cc

pub punctual : (c : Config) (now : ℕ) (q : List Pending) → expired c now q ≡ None → IsPunctual c now q
unfolding expired unexpired late_front behind_late
punctual c now [] e = record { late = refl; behind = refl; same = refl }
punctual c now (x ∷ xs) e = at_test (is_late c now x) refl e
  where
    at_test : (z : Bool) → is_late c now x ≡ z → ◌≡◌ {A = Option Pending} (if z then Some x else None) None → IsPunctual c now (x ∷ xs)
    at_test true is f = cc
    at_test false is f =
        let same : unexpired c now (x ∷ xs) ≡ x ∷ xs = ap (λ (t : Bool). if t then xs else x ∷ xs) is in
        record {
          late = ap (λ (t : Bool). if t then x ∷ late_front c now xs else []) is;
          behind = same ∙ sym (ap (λ (t : Bool). if t then behind_late c now xs else x ∷ xs) is);
          same = same;
        }

-- the late front is told batch by batch
pub late_told : (outcome : Outcome) (c : Config) (now : ℕ) (q : List Pending) (b : Pending) → Expires c now q b
    → told_all outcome (items_queued (late_front c now q)) ≡ told_all outcome b.items ++ told_all outcome (items_queued (late_front c now (unexpired c now q)))
late_told outcome c now q b h =
    ap (λ (z : List Pending). told_all outcome (items_queued z)) h.late
    ∙ told_all-append outcome b.items (items_queued (late_front c now (unexpired c now q)))

pub behind_fewer : (c : Config) (now : ℕ) (q : List Pending) → length (items_queued (behind_late c now q)) ≤ length (items_queued q)
unfolding behind_late
behind_fewer c now [] = omega arith
behind_fewer c now (x ∷ xs) = at_test (is_late c now x) (behind_fewer c now xs)
  where
    at_test : (z : Bool) → length (items_queued (behind_late c now xs)) ≤ length (items_queued xs)
        → length (items_queued (if z then behind_late c now xs else x ∷ xs)) ≤ length (items_queued (x ∷ xs))
    at_test true le = omega (arith, le, length-append x.items (items_queued xs))
    at_test false le = omega arith
