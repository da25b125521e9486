-- Calls on a sender, one by one.
use Rattle.std.proofs.Common.{◌≡◌, ◌<◌, ℕ, Bool, true, List, [], ◌∷◌, Option, Some, None, refl, ap, subst, ◌∙◌, inl, inr, arith}
use Rattle.std.specs.Prelude.{◌&&◌, is_none, is_some, OnOk, Result, Ok, Err}
use Rattle.std.proofs.lemmas.Bool.{and_parts}
use Rattle.std.specs.declared.alloc.AllocError.{AllocError}
use Rattle.kp_embed.specs.declared.fault.SendFault.{SendFault}
use Rattle.kp_embed.specs.declared.target.Ticket.{Ticket}
use Rattle.kp_lines.specs.Lines.{Cutting}
use Rattle.kp_lines.specs.Lines as lines
use Rattle.kp_lines.specs.declared.line.Line.{Line}
use Rattle.kp_rules.specs.declared.outcome.Outcome.TheVariants.{Unknown}
use Rattle.kp_send.specs.Ledger.{Book, entry_of, Lacks, Moves, refused, RefusedFor, reported}
use Rattle.kp_send.specs.Sender.{Accepts, Account, is_ready, Leaves, sent_of, Takes, Tells}
use Rattle.kp_send.specs.Telling.{counted}
use Rattle.kp_send.specs.Texts.{Writes}
use Rattle.kp_send.specs.declared.fault.LedgerFault.{LedgerFault}
use Rattle.kp_send.specs.declared.fault.LedgerFault.TheVariants.{Waits, OutOfMemory}
use Rattle.kp_send.specs.declared.telling.Tellings.{Tellings}
use Rattle.kp_send.specs.declared.texts.Texts.{Texts}
use Rattle.kp_send.specs.declared.told.Told.{Told}
use Rattle.kp_send.proofs.StreamingLemmas.{writes_none}

none_next : (next : Option Line) → is_none next ≡ true → next ≡ None
none_next None is = refl
none_next (Some line) is = absurd (cc)

-- one that is ready has no line that is next
pub free : (a : Account) → is_ready a ≡ true → a.next ≡ None
free a is = none_next a.next (and_parts (is_none a.next) (is_some a.cutting) is).0

-- the line that ended in the chunk
pub takes_line : (old new : Account) (before after : Cutting) (chunk rest : List ℕ) (line : Line) → is_ready old ≡ true → old.cutting ≡ Some before
    → lines.Takes before chunk (Some (line, rest)) after → new ≡ record old { cutting = Some after; next = Some line } → Takes old chunk rest new
takes_line old new before after chunk rest line ready was takes is = record {
  before = before;
  after = after;
  taken = takes.0;
  line = Some line;
  was = was;
  free = free old ready;
  front = takes.1;
  tells = takes.2;
  whole = λ none. absurd (cc);
  is = is;
}

-- it waits
pub accepts_waits : (old new : Account) (line : Line) (ticket : Ticket) (texts : Texts) → old.next ≡ Some line
    → Moves old.book (entry_of ticket (sent_of old.keeps line) ∷ []) [] new.book → new ≡ record old { next = None; book = new.book }
    → Accepts old ticket texts texts new
accepts_waits old new line ticket texts was moves is =
    (line, was, inl (record { moves = moves; tells = record { is = is; writes = writes_none old.delimiter old.tellings texts } }))

why : (b : Book) (ticket : Ticket) (fault : LedgerFault) → RefusedFor b ticket fault → 0 < b.room → Lacks ticket b → ⊥
why b ticket Waits refused room lacks = refused lacks
why b ticket OutOfMemory refused room lacks = absurd (omega (arith, refused, room))

-- nobody will know
pub accepts_lost : (old new : Account) (line : Line) (ticket : Ticket) (fault : LedgerFault) (told : Told) (tellings : Tellings) (texts texts' : Texts)
    (result : Result (Unit {0}) AllocError) → old.next ≡ Some line → RefusedFor old.book ticket fault → Moves old.book [] [] new.book
    → told ≡ reported (sent_of old.keeps line) ticket.partition Unknown → new ≡ record old { next = None; book = new.book; tellings = tellings }
    → OnOk result (Writes old.delimiter old.tellings (told ∷ []) texts texts') → OnOk result (tellings ≡ counted old.tellings told.fate)
    → OnOk result (Accepts old ticket texts texts' new)
accepts_lost old new line ticket fault told tellings texts texts' (Ok tt) was refused stays is becomes writes counts = (
  line,
  was,
  inr (record {
    why = why old.book ticket fault refused;
    stays = stays;
    tells = record {
      is = becomes ∙ ap (λ (t : Tellings). record old { next = None; book = new.book; tellings = t })
          (counts ∙ ap (λ (x : Told). counted old.tellings x.fate) is);
      writes = subst (λ (x : Told). Writes old.delimiter old.tellings (x ∷ []) texts texts') is writes;
    };
  }),
)
accepts_lost old new line ticket fault told tellings texts texts' (Err e) was refused stays is becomes writes counts = tt

-- it was refused for good
pub leaves_refused : (old new : Account) (line : Line) (fault : SendFault) (told : Told) (tellings : Tellings) (texts texts' : Texts)
    (result : Result (Unit {0}) AllocError) → old.next ≡ Some line → told ≡ refused line.number fault (sent_of old.keeps line).bytes
    → new ≡ record old { next = None; tellings = tellings }
    → OnOk result (Writes old.delimiter old.tellings (told ∷ []) texts texts') → OnOk result (tellings ≡ counted old.tellings told.fate)
    → OnOk result (Leaves old fault texts texts' new)
leaves_refused old new line fault told tellings texts texts' (Ok tt) was is becomes writes counts = (
  line,
  was,
  record {
    is = becomes ∙ ap (λ (t : Tellings). record old { next = None; tellings = t }) (counts ∙ ap (λ (x : Told). counted old.tellings x.fate) is);
    writes = subst (λ (x : Told). Writes old.delimiter old.tellings (x ∷ []) texts texts') is writes;
  },
)
leaves_refused old new line fault told tellings texts texts' (Err e) was is becomes writes counts = tt
