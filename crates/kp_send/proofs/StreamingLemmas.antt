-- What came of calls on a sender.
use Rattle.std.proofs.Common.{◌≡◌, ℕ, Bool, List, [], ◌∷◌, ◌++◌, map, Option, Some, None, refl, ap, sym, subst, ◌∙◌, inl, inr, append_assoc, append-nil}
use Rattle.std.specs.List.{flat_map}
use Rattle.std.specs.List.Sorted.{IsPermutation}
use Rattle.std.proofs.lemmas.List.{map-append}
use Rattle.std.proofs.lemmas.List.Concat.{flat_map-append}
use Rattle.std.proofs.lemmas.List.Elements.{All-nil}
use Rattle.std.proofs.lemmas.List.Sorted.{IsPermutation-append_left, IsPermutation-append_right, IsPermutation-map, IsPermutation-middle, IsPermutation-refl, IsPermutation-sym, IsPermutation-to_front, IsPermutation-trans}
use Rattle.kp_lines.specs.Lines.{beginning, Cutting, Ends, Tells}
use Rattle.kp_lines.specs.declared.line.Line.{Line}
use Rattle.kp_lines.proofs.LineLemmas.{told_more, told_nothing}
use Rattle.kp_rules.specs.declared.outcome.Report.{Report}
use Rattle.kp_embed.specs.declared.target.Ticket.{Ticket}
use Rattle.kp_rules.specs.declared.outcome.Outcome.TheVariants.{Unknown}
use Rattle.kp_send.specs.Ledger.{Book, Entry, entry_of, refused, reported}
use Rattle.kp_send.specs.Ledger as ledger
use Rattle.kp_send.specs.Sender.{Accepts, Account, Finishes, IsLost, lines_of, sent_of, StaysButOrder, Takes, Tells as NowTells, those, Waits}
use Rattle.kp_send.specs.Streaming.{Calls, Cuts, entry_mark, Goes, Mark, mark_of, next_marks, open_marks, Passes, told_mark}
use Rattle.kp_send.specs.Telling.{counted, said_text}
use Rattle.kp_send.specs.Texts.{counted_all, offset_text, said_texts, undelivered_text, unknown_text, Writes}
use Rattle.kp_send.specs.declared.telling.Tellings.{Tellings}
use Rattle.kp_send.specs.declared.texts.Texts.{Texts}
use Rattle.kp_send.specs.declared.told.Told.{Told}

-- ---- texts

counted_more : (t : Tellings) (told more : List Told) → counted_all t (told ++ more) ≡ counted_all (counted_all t told) more
counted_more t [] more = refl
counted_more t (one ∷ told) more = counted_more (counted t one.fate) told more

said_more : (t : Tellings) (told more : List Told) → said_texts t (told ++ more) ≡ said_texts t told ++ said_texts (counted_all t told) more
said_more t [] more = refl
said_more t (one ∷ told) more =
    ap (λ (xs : List ℕ). said_text t one ++ xs) (said_more (counted t one.fate) told more)
    ∙ sym (append_assoc (said_text t one) (said_texts (counted t one.fate) told) (said_texts (counted_all (counted t one.fate) told) more))

pub writes_none : (d : ℕ) (t : Tellings) (x : Texts) → Writes d t [] x x
writes_none d t x = record {
  places = refl;
  offsets = sym (append-nil x.offsets.items);
  said = sym (append-nil x.said.items);
  undelivered = sym (append-nil x.undelivered.items);
  unknown = sym (append-nil x.unknown.items);
}

behind : (old between new a b whole : List ℕ) → between ≡ old ++ a → new ≡ between ++ b → whole ≡ a ++ b → new ≡ old ++ whole
behind old between new a b whole first later is =
    later ∙ ap (λ (xs : List ℕ). xs ++ b) first ∙ append_assoc old a b ∙ ap (λ (xs : List ℕ). old ++ xs) (sym is)

pub writes_more : (d : ℕ) (t : Tellings) (told more : List Told) (x y z : Texts) → Writes d t told x y → Writes d (counted_all t told) more y z
    → Writes d t (told ++ more) x z
writes_more d t told more x y z first later = record {
  places = later.places ∙ first.places;
  offsets = behind x.offsets.items y.offsets.items z.offsets.items (flat_map (offset_text x.places) told) (flat_map (offset_text x.places) more)
      (flat_map (offset_text x.places) (told ++ more)) first.offsets
      (subst (λ (places : Bool). z.offsets.items ≡ y.offsets.items ++ flat_map (offset_text places) more) first.places later.offsets)
      (flat_map-append (offset_text x.places) told more);
  said = behind x.said.items y.said.items z.said.items (said_texts t told) (said_texts (counted_all t told) more) (said_texts t (told ++ more))
      first.said later.said (said_more t told more);
  undelivered = behind x.undelivered.items y.undelivered.items z.undelivered.items (flat_map (undelivered_text d) told) (flat_map (undelivered_text d) more)
      (flat_map (undelivered_text d) (told ++ more)) first.undelivered later.undelivered (flat_map-append (undelivered_text d) told more);
  unknown = behind x.unknown.items y.unknown.items z.unknown.items (flat_map (unknown_text d) told) (flat_map (unknown_text d) more)
      (flat_map (unknown_text d) (told ++ more)) first.unknown later.unknown (flat_map-append (unknown_text d) told more);
}

-- ---- lines on their way

then_more : (before between last taken more told others : List Mark) → IsPermutation (before ++ taken) (told ++ between)
    → IsPermutation (between ++ more) (others ++ last) → IsPermutation (before ++ (taken ++ more)) ((told ++ others) ++ last)
then_more before between last taken more told others first later =
    let start : before ++ (taken ++ more) ≡ (before ++ taken) ++ more = sym (append_assoc before taken more) in
    let middle : (told ++ between) ++ more ≡ told ++ (between ++ more) = append_assoc told between more in
    let end : told ++ (others ++ last) ≡ (told ++ others) ++ last = sym (append_assoc told others last) in
    let one = IsPermutation-append_left more (before ++ taken) (told ++ between) first in
    let two = IsPermutation-append_right told (between ++ more) (others ++ last) later in
    let moved = IsPermutation-trans ((before ++ taken) ++ more) (told ++ (between ++ more)) (told ++ (others ++ last))
    (subst (λ (ms : List Mark). IsPermutation ((before ++ taken) ++ more) ms) middle one) two in
    subst (λ (ms : List Mark). IsPermutation ms ((told ++ others) ++ last)) (sym start)
    (subst (λ (ms : List Mark). IsPermutation ((before ++ taken) ++ more) ms) end moved)

with_nothing : (a b : List Mark) → IsPermutation a b → IsPermutation (a ++ []) b
with_nothing a b same = subst (λ (ms : List Mark). IsPermutation ms b) (sym (append-nil a)) same

-- those that wait stand in another order
reordered : (old new : List Entry) → IsPermutation (old ++ []) new → IsPermutation (map entry_mark old) (map entry_mark new)
reordered old new same = IsPermutation-map entry_mark old new (subst (λ (es : List Entry). IsPermutation es new) (append-nil old) same)

-- one more waits
waits_too : (old new : List Entry) (e : Entry) → IsPermutation (old ++ e ∷ []) new → IsPermutation (entry_mark e ∷ map entry_mark old) (map entry_mark new)
waits_too old new e same =
    IsPermutation-map entry_mark (e ∷ old) new
    (IsPermutation-trans (e ∷ old) (old ++ e ∷ []) new (IsPermutation-sym (old ++ e ∷ []) (e ∷ old) (IsPermutation-to_front old e)) same)

-- one waits no more
waits_no_more : (front : List Mark) (old new : List Entry) (e : Entry) → IsPermutation (old ++ []) (e ∷ new)
    → IsPermutation ((front ++ map entry_mark old) ++ []) (entry_mark e ∷ (front ++ map entry_mark new))
waits_no_more front old new e same =
    let all = IsPermutation-append_right front (map entry_mark old) (entry_mark e ∷ map entry_mark new) (reordered old (e ∷ new) same) in
    with_nothing (front ++ map entry_mark old) (entry_mark e ∷ (front ++ map entry_mark new))
    (IsPermutation-trans (front ++ map entry_mark old) (front ++ entry_mark e ∷ map entry_mark new) (entry_mark e ∷ (front ++ map entry_mark new))
    all (IsPermutation-middle front (entry_mark e) (map entry_mark new)))

-- a line that was taken is next
is_next : (keeps : Bool) (line : Option Line) (waiting : List Entry)
    → IsPermutation (map entry_mark waiting ++ map (mark_of keeps) (lines_of line)) (next_marks keeps line ++ map entry_mark waiting)
is_next keeps (Some line) waiting = IsPermutation-to_front (map entry_mark waiting) (mark_of keeps line)
is_next keeps None waiting = with_nothing (map entry_mark waiting) (map entry_mark waiting) (IsPermutation-refl (map entry_mark waiting))

-- ---- what was cut

cut_more : (s : Option Cutting) (taken more : List ℕ) (lines others : List Line) (t u : Cutting) → Cuts s taken lines (Some t) → Tells t more others u
    → Cuts s (taken ++ more) (lines ++ others) (Some u)
cut_more (Some s) taken more lines others t u first later = told_more s t u taken more lines others first later
cut_more None taken more lines others t u first later = absurd first

cut_end : (s : Option Cutting) (taken : List ℕ) (lines : List Line) (t : Cutting) (last : Option Line) → Cuts s taken lines (Some t) → Ends t last
    → Cuts s (taken ++ []) (lines ++ lines_of last) None
cut_end (Some s) taken lines t last first ends =
    (t, lines, last, subst (λ (bytes : List ℕ). Tells s bytes lines t) (sym (append-nil taken)) first, ends, refl)
cut_end None taken lines t last first ends = absurd first

cut_none : (s u t : Option Cutting) (taken : List ℕ) (lines : List Line) → Cuts s taken lines t → u ≡ t → Cuts s (taken ++ []) (lines ++ []) u
cut_none s u t taken lines first same =
    subst (λ (c : Option Cutting). Cuts s (taken ++ []) (lines ++ []) c) (sym same)
    (subst (λ (bytes : List ℕ). Cuts s bytes (lines ++ []) t) (sym (append-nil taken))
    (subst (λ (ls : List Line). Cuts s taken ls t) (sym (append-nil lines)) first))

-- ---- calls

module _ (a : Account) (texts : Texts) (taken : List ℕ) (b : Account) (mid : Texts) (p : Passes a texts taken b mid) where
  -- a call, by what it cut and told
  grows : (more : List ℕ) (c : Account) (after : Texts) (others : List Line) (told : List Told)
      → Cuts a.cutting (taken ++ more) (p.lines ++ others) c.cutting
      → IsPermutation (open_marks b ++ map (mark_of b.keeps) others) (map told_mark told ++ open_marks c)
      → Writes b.delimiter b.tellings told mid after → c.tellings ≡ counted_all b.tellings told → c.keeps ≡ b.keeps → c.delimiter ≡ b.delimiter
      → Passes a texts (taken ++ more) c after
  grows more c after others told cuts each writes tellings keeps delimiter =
      let whole = then_more (open_marks a) (open_marks b) (open_marks c) (map (mark_of a.keeps) p.lines) (map (mark_of a.keeps) others)
      (map told_mark p.told) (map told_mark told) p.each
      (subst (λ (k : Bool). IsPermutation (open_marks b ++ map (mark_of k) others) (map told_mark told ++ open_marks c)) p.keeps each) in
      let as_read = subst (λ (ms : List Mark). IsPermutation (open_marks a ++ ms) ((map told_mark p.told ++ map told_mark told) ++ open_marks c))
      (sym (map-append (mark_of a.keeps) p.lines others)) whole in
      record {
        lines = p.lines ++ others;
        told = p.told ++ told;
        cuts = cuts;
        each = subst (λ (ms : List Mark). IsPermutation (open_marks a ++ map (mark_of a.keeps) (p.lines ++ others)) (ms ++ open_marks c))
            (sym (map-append told_mark p.told told)) as_read;
        writes = writes_more a.delimiter a.tellings p.told told texts mid after p.writes
            (subst (λ (d : ℕ). Writes d (counted_all a.tellings p.told) told mid after) p.delimiter
            (subst (λ (t : Tellings). Writes b.delimiter t told mid after) p.tellings writes));
        tellings = tellings ∙ ap (λ (t : Tellings). counted_all t told) p.tellings ∙ sym (counted_more a.tellings p.told told);
        keeps = keeps ∙ p.keeps;
        delimiter = delimiter ∙ p.delimiter;
      }

  -- one by which nothing is told
  silent : (more : List ℕ) (c : Account) (others : List Line) → Cuts a.cutting (taken ++ more) (p.lines ++ others) c.cutting
      → IsPermutation (open_marks b ++ map (mark_of b.keeps) others) (open_marks c)
      → c.tellings ≡ b.tellings → c.keeps ≡ b.keeps → c.delimiter ≡ b.delimiter → Passes a texts (taken ++ more) c mid
  silent more c others cuts each tellings keeps delimiter =
      grows more c mid others [] cuts each (writes_none b.delimiter b.tellings mid) tellings keeps delimiter

-- ---- each call

takes_each : (b c : Account) (chunk rest : List ℕ) (t : Takes b chunk rest c)
    → IsPermutation (open_marks b ++ map (mark_of b.keeps) (lines_of t.line)) (open_marks c)
takes_each b c chunk rest t = rw (t.is, t.free) (is_next b.keeps t.line b.book.waiting)

finishes_each : (b c : Account) (f : Finishes b c) → IsPermutation (open_marks b ++ map (mark_of b.keeps) (lines_of f.last)) (open_marks c)
finishes_each b c f = rw (f.is, f.free) (is_next b.keeps f.last b.book.waiting)

reserves_each : (b c : Account) (r : StaysButOrder b c) → IsPermutation (open_marks b ++ []) (open_marks c)
reserves_each b c r =
    let front = next_marks b.keeps b.next in
    let same = IsPermutation-append_right front (map entry_mark b.book.waiting) (map entry_mark c.book.waiting) (reordered b.book.waiting c.book.waiting r.same) in
    with_nothing (open_marks b) (open_marks c)
    (subst (λ (ms : List Mark). IsPermutation (open_marks b) ms)
    (sym (ap (λ (x : Account). next_marks x.keeps x.next ++ map entry_mark c.book.waiting) r.is)) same)

waits_each : (b c : Account) (line : Line) (ticket : Ticket) (x y : Texts) → b.next ≡ Some line → Waits b line ticket x y c
    → IsPermutation (open_marks b ++ []) (open_marks c)
waits_each b c line ticket x y was w =
    let moved = waits_too b.book.waiting c.book.waiting (entry_of ticket (sent_of b.keeps line)) w.moves in
    with_nothing (open_marks b) (open_marks c) (rw (was, w.tells.is) moved)

lost_each : (b c : Account) (line : Line) (ticket : Ticket) (x y : Texts) → b.next ≡ Some line → IsLost b line ticket x y c
    → IsPermutation (open_marks b ++ []) (mark_of b.keeps line ∷ open_marks c)
lost_each b c line ticket x y was l =
    let same = IsPermutation-append_right (mark_of b.keeps line ∷ []) (map entry_mark b.book.waiting) (map entry_mark c.book.waiting)
    (reordered b.book.waiting c.book.waiting l.stays) in
    with_nothing (open_marks b) (mark_of b.keeps line ∷ open_marks c) (rw (was, l.tells.is) same)

leaves_each : (b c : Account) (line : Line) (told : Told) (x y : Texts) → b.next ≡ Some line → told_mark told ≡ mark_of b.keeps line
    → NowTells b (told ∷ []) None b.book x y c → IsPermutation (open_marks b ++ []) (told_mark told ∷ open_marks c)
leaves_each b c line told x y was is t =
    with_nothing (open_marks b) (told_mark told ∷ open_marks c)
    (rw (was, t.is, is) (IsPermutation-refl (mark_of b.keeps line ∷ map entry_mark b.book.waiting)))

hears_each : (b c : Account) (report : Report) (told : Option Told) (x y : Texts) → ledger.Tells b.book report told c.book
    → NowTells b (those told) b.next c.book x y c → IsPermutation (open_marks b ++ []) (map told_mark (those told) ++ open_marks c)
hears_each b c report (Some told) x y tells t =
    let gone = waits_no_more (next_marks b.keeps b.next) b.book.waiting c.book.waiting ((report.partition, report.number), tells.0) tells.2 in
    rw (t.is, tells.1) gone
hears_each b c report None x y tells t =
    with_nothing (open_marks b) (open_marks c) (rw (t.is, tells.1) (IsPermutation-refl (open_marks b)))

module _ (a : Account) (texts : Texts) (taken : List ℕ) (b : Account) (mid : Texts) (p : Passes a texts taken b mid) where
  -- one by which nothing was taken
  untaken : (c : Account) (after : Texts) (told : List Told) → IsPermutation (open_marks b ++ []) (map told_mark told ++ open_marks c)
      → (next : Option Line) (book : Book) → NowTells b told next book mid after c → Passes a texts (taken ++ []) c after
  untaken c after told each next book t =
      grows a texts taken b mid p [] c after [] told
      (cut_none a.cutting c.cutting b.cutting taken p.lines p.cuts (ap (λ (x : Account). x.cutting) t.is)) each t.writes
      (ap (λ (x : Account). x.tellings) t.is) (ap (λ (x : Account). x.keeps) t.is) (ap (λ (x : Account). x.delimiter) t.is)

  passes_accepts : (c : Account) (after : Texts) (ticket : Ticket) → Accepts b ticket mid after c → Passes a texts (taken ++ []) c after
  passes_accepts c after ticket (line, was, inl w) = untaken c after [] (waits_each b c line ticket mid after was w) None c.book w.tells
  passes_accepts c after ticket (line, was, inr l) =
      untaken c after (reported (sent_of b.keeps line) ticket.partition Unknown ∷ []) (lost_each b c line ticket mid after was l) None c.book l.tells

  passes_call : (more : List ℕ) (c : Account) (after : Texts) → Calls b mid more c after → Passes a texts (taken ++ more) c after
  passes_call more c after (Calls.takes chunk rest d t) =
      silent a texts taken b mid p t.taken d (lines_of t.line)
      (subst (λ (u : Option Cutting). Cuts a.cutting (taken ++ t.taken) (p.lines ++ lines_of t.line) u) (sym (ap (λ (x : Account). x.cutting) t.is))
      (cut_more a.cutting taken t.taken p.lines (lines_of t.line) t.before t.after
      (subst (λ (u : Option Cutting). Cuts a.cutting taken p.lines u) t.was p.cuts) t.tells))
      (takes_each b d chunk rest t)
      (ap (λ (x : Account). x.tellings) t.is) (ap (λ (x : Account). x.keeps) t.is) (ap (λ (x : Account). x.delimiter) t.is)
  passes_call more c after (Calls.finishes d f) =
      silent a texts taken b mid p [] d (lines_of f.last)
      (subst (λ (u : Option Cutting). Cuts a.cutting (taken ++ []) (p.lines ++ lines_of f.last) u) (sym (ap (λ (x : Account). x.cutting) f.is))
      (cut_end a.cutting taken p.lines f.before f.last (subst (λ (u : Option Cutting). Cuts a.cutting taken p.lines u) f.was p.cuts) f.ends))
      (finishes_each b d f)
      (ap (λ (x : Account). x.tellings) f.is) (ap (λ (x : Account). x.keeps) f.is) (ap (λ (x : Account). x.delimiter) f.is)
  passes_call more c after (Calls.reserves d r) =
      silent a texts taken b mid p [] d []
      (cut_none a.cutting d.cutting b.cutting taken p.lines p.cuts (ap (λ (x : Account). x.cutting) r.is))
      (reserves_each b d r)
      (ap (λ (x : Account). x.tellings) r.is) (ap (λ (x : Account). x.keeps) r.is) (ap (λ (x : Account). x.delimiter) r.is)
  passes_call more c after (Calls.accepts ticket d last x) = passes_accepts d last ticket x
  passes_call more c after (Calls.leaves fault d last x) =
      untaken d last (refused x.0.number fault (sent_of b.keeps x.0).bytes ∷ [])
      (leaves_each b d x.0 (refused x.0.number fault (sent_of b.keeps x.0).bytes) mid last x.1 refl x.2) None b.book x.2
  passes_call more c after (Calls.hears report d last x) =
      untaken d last (those x.0) (hears_each b d report x.0 mid last x.1 x.2) b.next d.book x.2

starts : (d : ℕ) (a : Account) (texts : Texts) → a.cutting ≡ Some (beginning d) → Passes a texts [] a texts
starts d a texts was = record {
  lines = [];
  told = [];
  cuts = rw was (told_nothing (beginning d) (All-nil _));
  each = with_nothing (open_marks a) (open_marks a) (IsPermutation-refl (open_marks a));
  writes = writes_none a.delimiter a.tellings texts;
  tellings = refl;
  keeps = refl;
  delimiter = refl;
}

pub passes : (d : ℕ) (a : Account) (texts : Texts) (taken : List ℕ) (b : Account) (after : Texts) → a.cutting ≡ Some (beginning d)
    → Goes a texts taken b after → Passes a texts taken b after
passes d a texts taken b after was Goes.none = starts d a texts was
passes d a texts taken b after was (Goes.one_more before more mid c between last so_far call) =
    passes_call a texts before mid between (passes d a texts before mid between was so_far) more c last call
