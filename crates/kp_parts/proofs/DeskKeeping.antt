-- What calls on the desk leave: the reports, and places and charges for what is not told.
use Rattle.std.proofs.Common.{◌≡◌, ◌∙◌, sym, ap, refl, ℕ, zero, suc, ◌+◌, ◌-◌, ◌<◌, Bool, true, false, cond, List, [], ◌∷◌, length, map, drop, get_or, set, ⊎_elim, arith}
use Rattle.std.specs.Prelude.{◌==◌, replicate, sum_by}
use Rattle.std.proofs.lemmas.Bool.Decides.{eqb_tells}
use Rattle.std.proofs.lemmas.List.{length-map, map-set, set-set, set-get_or, get_or-set_same, get_or-set_other}
use Rattle.std.proofs.lemmas.List.FromFn.{length-enumerate_from}
use Rattle.std.proofs.lemmas.List.Sums.{length-filter, sum_by-cons}
use Rattle.kp_accum.specs.declared.item.Item.{Item}
use Rattle.kp_accum.specs.Queue.{charge_of}
use Rattle.kp_rules.specs.declared.outcome.Outcome.{Outcome}
use Rattle.kp_rules.specs.declared.outcome.Report.{Report}
use Rattle.kp_parts.specs.Desk.{Line, Desk, no_line, line_of, reports_of, all_reports, new_desk, with_line, fetched, with_place, without_place, told_line, told_lines, tell_desk, Covers}
use Rattle.kp_rules.specs.Records.{Told}
use Rattle.kp_rules.specs.Reports.{reports_to}
use Rattle.kp_rules.specs.Telling.{told_all}
use Rattle.kp_parts.proofs.DeskLemmas.{item_of, is_of, count-items, charges-items, room-told}

-- ---- reports

pub line-reports : (s : ℕ) (ls : List Line) → (line_of s ls).reports ≡ get_or (map reports_of ls) s []
line-reports s [] = refl
line-reports zero (l ∷ ls) = refl
line-reports (suc s) (l ∷ ls) = line-reports s ls

pub all_reports-new : (senders limit : ℕ) → all_reports (new_desk senders limit) ≡ replicate senders []
all_reports-new zero limit = refl
all_reports-new (suc n) limit = ap (λ (z : List (List Report)). [] ∷ z) (all_reports-new n limit)

-- to fetch on the desk is to take away the sender's first report
pub all_reports-fetched : (s : ℕ) (d : Desk)
    → all_reports (fetched s d) ≡ set (all_reports d) s (drop 1 (get_or (all_reports d) s []))
all_reports-fetched s d =
    map-set reports_of d.lines s _ ∙ ap (λ (z : List Report). set (all_reports d) s (drop 1 z)) (line-reports s d.lines)

same_reports : (s : ℕ) (l : Line) (d : Desk) → l.reports ≡ (line_of s d.lines).reports
    → all_reports (with_line s l d) ≡ all_reports d
same_reports s l d e =
    map-set reports_of d.lines s l ∙ ap (set (all_reports d) s) (e ∙ line-reports s d.lines) ∙ set-get_or (all_reports d) s []

pub all_reports-with_place : (s : ℕ) (d : Desk) → all_reports (with_place s d) ≡ all_reports d
all_reports-with_place s d = same_reports s _ d refl

pub all_reports-without_place : (s : ℕ) (d : Desk) → all_reports (without_place s d) ≡ all_reports d
all_reports-without_place s d = same_reports s _ d refl

-- telling makes no sender
pub length-told : (told : List Told) (ls : List Line) → length (told_lines told ls) ≡ length ls
unfolding told_lines
length-told told ls = length-map _ (told_line told) ∙ length-enumerate_from 0 ls

-- a place that was kept and is given up leaves the desk as it was
pub without-with_place : (s : ℕ) (d : Desk) → s < length d.lines → without_place s (with_place s d) ≡ d
without-with_place s d h =
    let l = line_of s d.lines in
    let more : Line = record l { room = l.room + 1 } in
    let back : Line → Line = λ x. record x { room = x.room - 1 } in
    let less : l.room + 1 - 1 ≡ l.room = omega arith in
    let lines : set (set d.lines s more) s (back (get_or (set d.lines s more) s no_line)) ≡ d.lines =
    ap (λ (x : Line). set (set d.lines s more) s (back x)) (get_or-set_same d.lines s more no_line h)
    ∙ set-set d.lines s more (back more)
    ∙ ap (λ (n : ℕ). let x : Line = record l { room = n } in set d.lines s x) less
    ∙ set-get_or d.lines s no_line in
    ap (λ (z : List Line). let x : Desk = record d { lines = z } in x) lines

-- ---- what is not told

count-places : (s : ℕ) (told : List Told) → length (reports_to s told) ≡ sum_by (λ (i : Item). cond (is_of s i) 1 0) (map item_of told)
count-places s told = count-items s told ∙ length-filter (is_of s) (map item_of told)

pub count-all : (told : List Told) → length told ≡ sum_by (λ (i : Item). 1) (map item_of told)
count-all [] = refl
count-all (t ∷ ts) = let rest = count-all ts in omega (arith, sum_by-cons (λ (i : Item). 1) t.item (map item_of ts))

-- the items before are those that were told and those that are left, as far as any sum goes
pub record Conserves (before told left : List Told) : Type 0 where
  pub sums : (f : Item → ℕ)
      → sum_by f (map item_of told) + sum_by f (map item_of left) ≡ sum_by f (map item_of before)

-- telling some leaves places for the others, and their charges counted
pub covers-kept : (before told left : List Told) (d : Desk) → Conserves before told left → Covers d before
    → Covers (tell_desk told d) left
covers-kept before told left d k h = record {
  places = record {
    places = λ s. omega (
      arith,
      h.places.places s,
      room-told s told d.lines,
      count-places s before,
      count-places s told,
      count-places s left,
      k.sums (λ (i : Item). cond (is_of s i) 1 0),
    );
  };
  count = omega (arith, h.count, count-all before, count-all told, count-all left, k.sums (λ (i : Item). 1));
  charges = omega (arith, h.charges, charges-items before, charges-items told, charges-items left, k.sums charge_of);
}

-- what is told is covered, being of what there was
pub covers-told : (before told left : List Told) (d : Desk) → Conserves before told left → Covers d before → Covers d told
covers-told before told left d k h = record {
  places = record {
    places = λ s. omega (
      arith,
      h.places.places s,
      count-places s before,
      count-places s told,
      count-places s left,
      k.sums (λ (i : Item). cond (is_of s i) 1 0),
    );
  };
  count = omega (arith, h.count, count-all before, count-all told, count-all left, k.sums (λ (i : Item). 1));
  charges = omega (arith, h.charges, charges-items before, charges-items told, charges-items left, k.sums charge_of);
}

-- one item more is waited for
pub record Gains (before after : List Told) (item : Item) : Type 0 where
  pub sums : (f : Item → ℕ) → sum_by f (map item_of after) ≡ f item + sum_by f (map item_of before)

place-more : (i : Item) (s : ℕ) (ls : List Line) → i.sender < length ls
    → (line_of s (set ls i.sender (record (line_of i.sender ls) { room = (line_of i.sender ls).room + 1 }))).room
    ≡ (line_of s ls).room + cond (is_of s i) 1 0
place-more i s ls h =
    ⊎_elim
    (λ (k : (i.sender == s ≡ true) × (i.sender ≡ s)).
    let new : Line = record (line_of i.sender ls) { room = (line_of i.sender ls).room + 1 } in
    ap (λ (n : ℕ). (line_of n (set ls i.sender new)).room) (sym k.1)
    ∙ ap (λ (x : Line). x.room) (get_or-set_same ls i.sender new no_line h)
    ∙ ap (λ (n : ℕ). (line_of n ls).room + 1) k.1
    ∙ ap (λ (b : Bool). (line_of s ls).room + cond b 1 0) (sym k.0))
    (λ (k : (i.sender == s ≡ false) × (i.sender ≡ s → ⊥)).
    let new : Line = record (line_of i.sender ls) { room = (line_of i.sender ls).room + 1 } in
    let none : (line_of s ls).room ≡ (line_of s ls).room + 0 = omega arith in
    ap (λ (x : Line). x.room) (get_or-set_other ls i.sender s new no_line (λ e. k.1 (sym e))) ∙ none
    ∙ ap (λ (b : Bool). (line_of s ls).room + cond b 1 0) (sym k.0))
    (eqb_tells i.sender s)

-- with a place for it kept and its charge taken, an item is covered beside the others
pub covers-gained : (before after : List Told) (i : Item) (d : Desk) → Gains before after i → i.sender < length d.lines
    → Covers d before → Covers (record (with_place i.sender d) { untold = d.untold + 1; used = d.used + charge_of i }) after
covers-gained before after i d k n h = record {
  places = record {
    places = λ s. omega (
      arith,
      h.places.places s,
      place-more i s d.lines n,
      count-places s before,
      count-places s after,
      k.sums (λ (j : Item). cond (is_of s j) 1 0),
    );
  };
  count = omega (arith, h.count, count-all before, count-all after, k.sums (λ (j : Item). 1));
  charges = omega (arith, h.charges, charges-items before, charges-items after, k.sums charge_of);
}

-- an item that is told at once takes the place that was kept for it, and no other
pub room-turned : (o : Outcome) (i : Item) (s : ℕ) (d : Desk) → i.sender < length d.lines
    → (line_of s (told_lines (told_all o (i ∷ [])) (with_place i.sender d).lines)).room ≡ (line_of s d.lines).room
room-turned o i s d h = omega (
  arith,
  room-told s (told_all o (i ∷ [])) (with_place i.sender d).lines,
  place-more i s d.lines h,
  count-places s (told_all o (i ∷ [])),
)
