-- Telling on the desk: of all items at once, and of one after another.
use Rattle.std.proofs.Common.{◌≡◌, ◌∙◌, sym, ap, refl, subst, ℕ, zero, suc, ◌+◌, ◌-◌, ◌<◌, Bool, true, false, List, [], ◌∷◌, ◌++◌, length, map, get_or, set, append_assoc, length-append, arith}
use Rattle.std.specs.Prelude.{ℤ, pos, ◌+ℤ◌, ◌==◌, filter, sum_by, if◌then◌else◌}
use Rattle.std.specs.List.{enumerate_from}
use Rattle.std.proofs.lemmas.Bool.{eq-eqb, ne_eqb}
use Rattle.std.proofs.lemmas.List.{append-nil, length-map, map-append, get_or_read}
use Rattle.std.proofs.lemmas.List.Elements.{filter-append}
use Rattle.std.proofs.lemmas.List.Sums.{sum_by-append, sum_by-cons}
use Rattle.kp_accum.specs.declared.item.Item.{Item}
use Rattle.kp_accum.specs.Budget.{Budget}
use Rattle.kp_accum.specs.Queue.{charge_of}
use Rattle.kp_rules.specs.declared.outcome.Outcome.{Outcome}
use Rattle.kp_rules.specs.declared.outcome.Outcome.TheVariants.{Delivered}
use Rattle.kp_rules.specs.declared.outcome.Report.{Report}
use Rattle.kp_parts.specs.Desk.{Line, Desk, no_line, line_of, reports_of, all_reports, put, told_line, told_lines, charge_told, charges_of, tell_desk, tell_free, HavePlaces, Covers}
use Rattle.kp_rules.specs.Records.{Told}
use Rattle.kp_rules.specs.Reports.{reports_to, with_reports}
use Rattle.kp_rules.specs.Telling.{told_all, told_offsets}

abbrev report_of : Told → Report
report_of t = record {
  sender = t.item.sender;
  partition = t.item.partition;
  number = t.item.number;
  outcome = t.outcome;
}

abbrev is_to : ℕ → Told → Bool
is_to sender t = t.item.sender == sender

abbrev pub item_of : Told → Item
item_of t = t.item

-- the lines from place k on
abbrev lines_from : ℕ → List Told → List Line → List Line
lines_from k told lines = map (told_line told) (enumerate_from k lines)

-- what is told of the items from place k on
abbrev pub offsets_from : ℕ → ℤ → List Item → List Told
offsets_from k base items =
    map (λ (x : ℕ × Item). let t : Told = record { item = x.1; outcome = Delivered (base +ℤ pos x.0) } in t) (enumerate_from k items)

-- ---- lines

same_line : (r s : List Report) (m n : ℕ) → r ≡ s → m ≡ n
    → (let x : Line = record { reports = r; room = m } in x) ≡ record { reports = s; room = n }
same_line r s m n e f = cc

less_both : (n : ℕ) (xs ys : List Report) → n - length (xs ++ ys) ≡ n - length xs - length ys
less_both n xs ys = omega (arith, length-append xs ys)

reports_to-append : (s : ℕ) (a b : List Told) → reports_to s (a ++ b) ≡ reports_to s a ++ reports_to s b
reports_to-append s a b =
    ap (map report_of) (filter-append (is_to s) a b) ∙ map-append report_of (filter (is_to s) a) (filter (is_to s) b)

told_line-append : (a b : List Told) (k : ℕ) (l : Line) → told_line (a ++ b) (k, l) ≡ told_line b (k, told_line a (k, l))
told_line-append a b k l =
    same_line _ _ _ _
    (ap (λ (z : List Report). l.reports ++ z) (reports_to-append k a b) ∙ sym (append_assoc l.reports (reports_to k a) (reports_to k b)))
    (ap (λ (z : List Report). l.room - length z) (reports_to-append k a b) ∙ less_both l.room (reports_to k a) (reports_to k b))

lines_from-append : (k : ℕ) (a b : List Told) (ls : List Line)
    → lines_from k (a ++ b) ls ≡ lines_from k b (lines_from k a ls)
lines_from-append k a b [] = refl
lines_from-append k a b (l ∷ ls) =
    ap (λ (z : Line). z ∷ lines_from (k + 1) (a ++ b) ls) (told_line-append a b k l)
    ∙ ap (λ (zs : List Line). told_line b (k, told_line a (k, l)) ∷ zs) (lines_from-append (k + 1) a b ls)

pub told_lines-append : (a b : List Told) (ls : List Line) → told_lines (a ++ b) ls ≡ told_lines b (told_lines a ls)
unfolding told_lines
told_lines-append a b ls = lines_from-append 0 a b ls

lines_from-nil : (k : ℕ) (ls : List Line) → lines_from k [] ls ≡ ls
lines_from-nil k [] = refl
lines_from-nil k (l ∷ ls) =
    let room : l.room - 0 ≡ l.room = omega arith in
    ap (λ (z : Line). z ∷ lines_from (k + 1) [] ls) (same_line _ _ _ _ (append-nil l.reports) room)
    ∙ ap (λ (zs : List Line). l ∷ zs) (lines_from-nil (k + 1) ls)

pub told_lines-nil : (ls : List Line) → told_lines [] ls ≡ ls
unfolding told_lines
told_lines-nil ls = lines_from-nil 0 ls

-- ---- reports

reports_from : (k : ℕ) (told : List Told) (ls : List Line)
    → map reports_of (lines_from k told ls)
    ≡ map (λ (x : ℕ × List Report). x.1 ++ reports_to x.0 told) (enumerate_from k (map reports_of ls))
reports_from k told [] = refl
reports_from k told (l ∷ ls) =
    ap (λ (z : List (List Report)). (l.reports ++ reports_to k told) ∷ z) (reports_from (k + 1) told ls)

-- to tell on the desk is to put the reports behind each sender's
pub all_reports-told : (told : List Told) (d : Desk) → all_reports (tell_desk told d) ≡ with_reports told (all_reports d)
unfolding told_lines with_reports
all_reports-told told d = reports_from 0 told d.lines

pub all_reports-free : (told : List Told) (d : Desk) → all_reports (tell_free told d) ≡ with_reports told (all_reports d)
unfolding told_lines with_reports
all_reports-free told d = reports_from 0 told d.lines

-- ---- places

room_from : (k s : ℕ) (told : List Told) (ls : List Line)
    → (line_of s (lines_from k told ls)).room ≡ (line_of s ls).room - length (reports_to (k + s) told)
room_from k s told [] = omega arith
room_from k zero told (l ∷ ls) =
    let here : k ≡ k + 0 = omega arith in
    ap (λ (n : ℕ). l.room - length (reports_to n told)) here
room_from k (suc s) told (l ∷ ls) =
    let there : k + 1 + s ≡ k + suc s = omega arith in
    room_from (k + 1) s told ls ∙ ap (λ (n : ℕ). (line_of s ls).room - length (reports_to n told)) there

-- each sender has as many places less as it has reports more
pub room-told : (s : ℕ) (told : List Told) (ls : List Line)
    → (line_of s (told_lines told ls)).room ≡ (line_of s ls).room - length (reports_to s told)
unfolding told_lines
room-told s told ls =
    let here : 0 + s ≡ s = omega arith in
    room_from 0 s told ls ∙ ap (λ (n : ℕ). (line_of s ls).room - length (reports_to n told)) here

both_lengths : (s : ℕ) (a b : List Told) → length (reports_to s (a ++ b)) ≡ length (reports_to s a) + length (reports_to s b)
both_lengths s a b = ap length (reports_to-append s a b) ∙ length-append (reports_to s a) (reports_to s b)

pub places-left : (a b : List Told) (ls : List Line) → HavePlaces ls (a ++ b) → HavePlaces ls a
places-left a b ls h = record { places = λ s. omega (arith, h.places s, both_lengths s a b) }

pub places-right : (a b : List Told) (ls : List Line) → HavePlaces ls (a ++ b) → HavePlaces (told_lines a ls) b
places-right a b ls h = record {
  places = λ s. omega (arith, h.places s, both_lengths s a b, room-told s a ls);
}

-- ---- one item

in_range : (s : ℕ) (ls : List Line) → 0 < (line_of s ls).room → s < length ls
in_range s [] h = absurd (omega arith)
in_range zero (l ∷ ls) h = omega arith
in_range (suc s) (l ∷ ls) h = omega (arith, in_range s ls h)

abbrev line_by : Told → Line → Bool → Line
line_by t l b = record {
  reports = l.reports ++ map report_of (if b then t ∷ [] else []);
  room = l.room - length (map report_of (if b then t ∷ [] else []));
}

untouched : (t : Told) (k : ℕ) (l : Line) → (t.item.sender ≡ k → ⊥) → told_line (t ∷ []) (k, l) ≡ l
untouched t k l other =
    let room : l.room - 0 ≡ l.room = omega arith in
    ap (line_by t l) (ne_eqb t.item.sender k other) ∙ same_line _ _ _ _ (append-nil l.reports) room

put_here : (t : Told) (l : Line) → told_line (t ∷ []) (t.item.sender, l) ≡ put (report_of t) l
put_here t l = ap (line_by t l) (eq-eqb t.item.sender t.item.sender refl)

beyond : (t : Told) (k : ℕ) (ls : List Line) → t.item.sender < k → lines_from k (t ∷ []) ls ≡ ls
beyond t k [] h = refl
beyond t k (l ∷ ls) h =
    let next : t.item.sender < k + 1 = omega arith in
    ap (λ (z : Line). z ∷ lines_from (k + 1) (t ∷ []) ls) (untouched t k l (λ e. omega arith))
    ∙ ap (λ (zs : List Line). l ∷ zs) (beyond t (k + 1) ls next)

placed : (t : Told) (k s : ℕ) (ls : List Line) → t.item.sender ≡ k + s
    → set ls s (put (report_of t) (line_of s ls)) ≡ lines_from k (t ∷ []) ls
placed t k s [] e = refl
placed t k zero (l ∷ ls) e =
    let here : t.item.sender ≡ k = omega arith in
    let next : t.item.sender < k + 1 = omega arith in
    ap (λ (z : Line). z ∷ ls) (sym (put_here t l) ∙ ap (λ (n : ℕ). told_line (t ∷ []) (n, l)) here)
    ∙ ap (λ (zs : List Line). told_line (t ∷ []) (k, l) ∷ zs) (sym (beyond t (k + 1) ls next))
placed t k (suc s) (l ∷ ls) e =
    let there : t.item.sender ≡ k + 1 + s = omega arith in
    ap (λ (zs : List Line). l ∷ zs) (placed t (k + 1) s ls there)
    ∙ ap (λ (z : Line). z ∷ lines_from (k + 1) (t ∷ []) ls) (sym (untouched t k l (λ e'. omega arith)))

-- the item's sender has its report, and the others' lines are as they were
pub one_told : (t : Told) (ls : List Line) (x y : Line) → x ≡ get_or ls t.item.sender x → y ≡ put (report_of t) x
    → 0 < (line_of t.item.sender ls).room → set ls t.item.sender y ≡ told_lines (t ∷ []) ls
unfolding told_lines
one_told t ls x y read is some =
    let n : t.item.sender < length ls = in_range t.item.sender ls some in
    let here : t.item.sender ≡ 0 + t.item.sender = omega arith in
    ap (set ls t.item.sender) (is ∙ ap (put (report_of t)) (get_or_read ls t.item.sender x n read no_line))
    ∙ placed t 0 t.item.sender ls here

-- the first to be told has a place
pub place_first : (t : Told) (rest : List Told) (ls : List Line) → HavePlaces ls (t ∷ rest) → 0 < (line_of t.item.sender ls).room
place_first t rest ls h =
    let one : length (reports_to t.item.sender (t ∷ [])) ≡ 1 =
    ap (λ (b : Bool). length (map report_of (if b then t ∷ [] else []))) (eq-eqb t.item.sender t.item.sender refl) in
    omega (arith, h.places t.item.sender, both_lengths t.item.sender (t ∷ []) rest, one)

-- ---- the desk

pub charges_of-append : (a b : List Told) → charges_of (a ++ b) ≡ charges_of a + charges_of b
charges_of-append a b = sum_by-append charge_told a b

pub same_desk : (x y : List Line) (j k m n limit : ℕ) → x ≡ y → j ≡ k → m ≡ n
    → (let d : Desk = record { lines = x; untold = j; used = m; limit = limit } in d) ≡ record { lines = y; untold = k; used = n; limit = limit }
same_desk x y j k m n limit e f g = cc

less_told : (n : ℕ) (a b : List Told) → n - length (a ++ b) ≡ n - length a - length b
less_told n a b = omega (arith, length-append a b)

less_charges : (n : ℕ) (a b : List Told) → n - charges_of (a ++ b) ≡ n - charges_of a - charges_of b
less_charges n a b = omega (arith, charges_of-append a b)

-- a desk is what its lines and its budget are
pub desk_told : (told : List Told) (d : Desk) (lines new : List Line) (untold left : ℕ) (budget rest : Budget) (charge : ℕ)
    → (let x : Desk = record { lines = lines; untold = untold; used = budget.used; limit = budget.limit } in x) ≡ d
    → new ≡ told_lines told lines → left ≡ untold - length told → charge ≡ charges_of told → rest ≡ record budget { used = budget.used - charge }
    → (let x : Desk = record { lines = new; untold = left; used = rest.used; limit = rest.limit } in x) ≡ tell_desk told d
desk_told told d lines new untold left budget rest charge is e h f g =
    ap (λ (b : Budget). let x : Desk = record { lines = new; untold = left; used = b.used; limit = b.limit } in x) g
    ∙ same_desk _ _ _ _ _ _ budget.limit e h (ap (λ (n : ℕ). budget.used - n) f) ∙ ap (tell_desk told) is

-- to tell all is to tell some, and then the others
pub tell_desk-append : (a b : List Told) (d : Desk) → tell_desk (a ++ b) d ≡ tell_desk b (tell_desk a d)
tell_desk-append a b d = same_desk _ _ _ _ _ _ d.limit (told_lines-append a b d.lines) (less_told d.untold a b) (less_charges d.used a b)

pub covers-left : (a b : List Told) (d : Desk) → Covers d (a ++ b) → Covers d a
covers-left a b d h = record {
  places = places-left a b d.lines h.places;
  count = omega (arith, h.count, length-append a b);
  charges = omega (arith, h.charges, charges_of-append a b);
}

pub covers-right : (a b : List Told) (d : Desk) → Covers d (a ++ b) → Covers (tell_desk a d) b
covers-right a b d h = record {
  places = places-right a b d.lines h.places;
  count = omega (arith, h.count, length-append a b);
  charges = omega (arith, h.charges, charges_of-append a b);
}

-- ---- which items are told, and not what, decides what telling takes

abbrev pub is_of : ℕ → Item → Bool
is_of sender i = i.sender == sender

pub count-items : (s : ℕ) (told : List Told) → length (reports_to s told) ≡ length (filter (is_of s) (map item_of told))
count-items s [] = refl
count-items s (t ∷ ts) = at_test (t.item.sender == s) (count-items s ts)
  where
    at_test : (b : Bool) → length (reports_to s ts) ≡ length (filter (is_of s) (map item_of ts))
        → length (map report_of (if b then t ∷ filter (is_to s) ts else filter (is_to s) ts))
        ≡ length (if b then t.item ∷ filter (is_of s) (map item_of ts) else filter (is_of s) (map item_of ts))
    at_test true e = ap suc e
    at_test false e = e

pub charges-items : (told : List Told) → charges_of told ≡ sum_by charge_of (map item_of told)
charges-items [] = refl
charges-items (t ∷ ts) =
    sum_by-cons charge_told t ts ∙ ap (λ (n : ℕ). charge_of t.item + n) (charges-items ts)
    ∙ sym (sum_by-cons charge_of t.item (map item_of ts))

pub items-all : (outcome : Outcome) (items : List Item) → map item_of (told_all outcome items) ≡ items
items-all outcome [] = refl
items-all outcome (i ∷ items) = ap (λ (z : List Item). i ∷ z) (items-all outcome items)

items_from : (k : ℕ) (base : ℤ) (items : List Item) → map item_of (offsets_from k base items) ≡ items
items_from k base [] = refl
items_from k base (i ∷ items) = ap (λ (z : List Item). i ∷ z) (items_from (k + 1) base items)

pub items-offsets : (base : ℤ) (items : List Item) → map item_of (told_offsets base items) ≡ items
items-offsets base items = items_from 0 base items

-- a desk that covers some items covers them whatever is told of them
pub covers-items : (a b : List Told) (d : Desk) → map item_of a ≡ map item_of b → Covers d a → Covers d b
covers-items a b d same h = record {
  places = record {
    places = λ s.
        let e : length (reports_to s a) ≡ length (reports_to s b) =
        count-items s a ∙ ap (λ (z : List Item). length (filter (is_of s) z)) same ∙ sym (count-items s b) in
        omega (arith, h.places.places s, e);
  };
  count =
      let e : length a ≡ length b = sym (length-map a item_of) ∙ ap length same ∙ length-map b item_of in
      omega (arith, h.count, e);
  charges =
      let e : charges_of a ≡ charges_of b = charges-items a ∙ ap (sum_by charge_of) same ∙ sym (charges-items b) in
      omega (arith, h.charges, e);
}

pub length-all : (outcome : Outcome) (items : List Item) → length (told_all outcome items) ≡ length items
length-all outcome items = sym (length-map (told_all outcome items) item_of) ∙ ap length (items-all outcome items)

pub length-offsets : (base : ℤ) (items : List Item) → length (told_offsets base items) ≡ length items
length-offsets base items = sym (length-map (told_offsets base items) item_of) ∙ ap length (items-offsets base items)

pub charges-all : (outcome : Outcome) (items : List Item) → charges_of (told_all outcome items) ≡ sum_by charge_of items
charges-all outcome items = charges-items (told_all outcome items) ∙ ap (sum_by charge_of) (items-all outcome items)

pub charges-offsets : (base : ℤ) (items : List Item) → charges_of (told_offsets base items) ≡ sum_by charge_of items
charges-offsets base items = charges-items (told_offsets base items) ∙ ap (sum_by charge_of) (items-offsets base items)

-- ---- one after another

-- after one was told, telling the others tells all
pub told_step : (t : Told) (rest : List Told) (ls new : List Line) → new ≡ told_lines (t ∷ []) ls
    → told_lines rest new ≡ told_lines (t ∷ rest) ls
told_step t rest ls new e = ap (told_lines rest) e ∙ sym (told_lines-append (t ∷ []) rest ls)

pub places_step : (t : Told) (rest : List Told) (ls new : List Line) → new ≡ told_lines (t ∷ []) ls
    → HavePlaces ls (t ∷ rest) → HavePlaces new rest
places_step t rest ls new e h =
    subst (λ (z : List Line). HavePlaces z rest) (sym e) (places-right (t ∷ []) rest ls h)
