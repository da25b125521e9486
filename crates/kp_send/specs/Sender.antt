-- The lines of a stream on their way.
use Rattle.std.specs.Prelude.{◌≡◌, ◌<◌, ◌⊎◌, ℕ, List, [], ◌∷◌, ◌++◌, length, Bool, ◌&&◌, ◌==◌, Option, Some, None, is_none, is_some, if◌then◌else◌, MatchOption}
use Rattle.kp_batch.specs.declared.record.Record.{Record}
use Rattle.kp_embed.specs.declared.fault.SendFault.{SendFault}
use Rattle.kp_embed.specs.declared.target.Ticket.{Ticket}
use Rattle.kp_lines.specs.Lines.{beginning, bytes_of, Cutting, Ends}
use Rattle.kp_lines.specs.Lines as lines
use Rattle.kp_lines.specs.declared.line.Line.{Line}
use Rattle.kp_rules.specs.declared.outcome.Outcome.TheVariants.{Unknown}
use Rattle.kp_rules.specs.declared.outcome.Report.{Report}
use Rattle.kp_send.specs.Form.{IsRecordOf}
use Rattle.kp_send.specs.Ledger.{Book, entry_of, Lacks, Moves, refused, reported}
use Rattle.kp_send.specs.Ledger as ledger
use Rattle.kp_send.specs.Texts.{counted_all, Writes}
use Rattle.kp_send.specs.declared.form.Form.{Form}
use Rattle.kp_send.specs.declared.telling.Tellings.{Tellings}
use Rattle.kp_send.specs.declared.texts.Texts.{Texts}
use Rattle.kp_send.specs.declared.told.Sent.{Sent}
use Rattle.kp_send.specs.declared.told.Told.{Told}

pub record Account : Type 0 where
  pub form : Form
  pub delimiter : ℕ
  pub keeps : Bool  -- whether the bytes of lines are kept until these are told of
  pub cutting : Option Cutting  -- how the stream is cut, until it ends
  pub next : Option Line  -- the line that is sent next
  pub book : Book  -- those that were sent
  pub tellings : Tellings

-- nothing has come
pub record IsFresh (f : Form) (d : ℕ) (k : Bool) (a : Account) : Type 0 where
  pub form : a.form ≡ f
  pub delimiter : a.delimiter ≡ d
  pub keeps : a.keeps ≡ k
  pub cutting : a.cutting ≡ Some (beginning d)
  pub next : a.next ≡ None
  pub waiting : a.book.waiting ≡ []
  pub tellings : a.tellings ≡ record { delivered = 0; undelivered = 0 }

-- none is next, and the stream has not ended
abbrev pub is_ready : Account → Bool
is_ready a = is_none a.next && is_some a.cutting

-- the stream has ended, and each line was told of
abbrev pub is_done : Account → Bool
is_done a = is_none a.cutting && is_none a.next && (length a.book.waiting == 0)

-- ---- the stream

abbrev pub lines_of : Option Line → List Line
lines_of (Some line) = line ∷ []
lines_of None = []

-- The line that ended in the front of the chunk is next; where none did, all of the chunk was taken.
pub record Takes (old : Account) (chunk rest : List ℕ) (new : Account) : Type 0 where
  pub before : Cutting
  pub after : Cutting
  pub taken : List ℕ
  pub line : Option Line
  pub was : old.cutting ≡ Some before
  pub free : old.next ≡ None
  pub front : chunk ≡ taken ++ rest
  pub tells : lines.Tells before taken (lines_of line) after
  pub whole : line ≡ None → rest ≡ []
  pub is : new ≡ record old { cutting = Some after; next = line }

-- A last line without a delimiter is next.
pub record Finishes (old new : Account) : Type 0 where
  pub before : Cutting
  pub last : Option Line
  pub was : old.cutting ≡ Some before
  pub free : old.next ≡ None
  pub ends : Ends before last
  pub is : new ≡ record old { cutting = None; next = last }

-- ---- the line that is next

abbrev pub IsNextRecord : Account → (timestamp : ℕ) → Option Record → Type 0
IsNextRecord a timestamp r =
    MatchOption r (a.next ≡ None) (λ made. (line : Line) × (a.next ≡ Some line) × IsRecordOf a.form timestamp (bytes_of line) made)

-- the line as one that was sent
abbrev pub sent_of : (keeps : Bool) → Line → Sent
sent_of keeps line = record { line = line.number; bytes = if keeps then Some (bytes_of line) else None }

-- Those that wait stand in another order, and nothing else has changed.
pub record StaysButOrder (old new : Account) : Type 0 where
  pub is : new ≡ record old { book = new.book }
  pub same : Moves old.book [] [] new.book

-- These were told of, and this line is next, and those wait.
pub record Tells (old : Account) (told : List Told) (next : Option Line) (book : Book) (texts texts' : Texts) (new : Account) : Type 0 where
  pub is : new ≡ record old { next = next; book = book; tellings = counted_all old.tellings told }
  pub writes : Writes old.delimiter old.tellings told texts texts'

-- Its record was accepted: it waits for its report.
pub record Waits (old : Account) (line : Line) (ticket : Ticket) (texts texts' : Texts) (new : Account) : Type 0 where
  pub moves : Moves old.book (entry_of ticket (sent_of old.keeps line) ∷ []) [] new.book
  pub tells : Tells old [] None new.book texts texts' new

-- The same, but no place was kept for it, or another line waits for the same report: nobody will know what became of it.
pub record IsLost (old : Account) (line : Line) (ticket : Ticket) (texts texts' : Texts) (new : Account) : Type 0 where
  pub why : 0 < old.book.room → Lacks ticket old.book → ⊥
  pub stays : Moves old.book [] [] new.book
  pub tells : Tells old (reported (sent_of old.keeps line) ticket.partition Unknown ∷ []) None new.book texts texts' new

abbrev pub Accepts : Account → Ticket → (texts texts' : Texts) → Account → Type 0
Accepts old ticket texts texts' new =
    (line : Line) × (old.next ≡ Some line) × (Waits old line ticket texts texts' new ⊎ IsLost old line ticket texts texts' new)

-- Its record was refused for good.
abbrev pub Leaves : Account → SendFault → (texts texts' : Texts) → Account → Type 0
Leaves old fault texts texts' new =
    (line : Line) × (old.next ≡ Some line)
    × Tells old (refused line.number fault (sent_of old.keeps line).bytes ∷ []) None old.book texts texts' new

-- ---- those that wait

abbrev pub those : Option Told → List Told
those (Some told) = told ∷ []
those None = []

-- The line that waited for this report was told of, if one did.
abbrev pub Hears : Account → Report → (texts texts' : Texts) → Account → Type 0
Hears old report texts texts' new =
    (told : Option Told) × ledger.Tells old.book report told new.book × Tells old (those told) old.next new.book texts texts' new
