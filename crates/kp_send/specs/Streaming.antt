-- A stream of lines that is sent, call by call.
use Rattle.std.specs.Prelude.{◌≡◌, ℕ, List, [], ◌∷◌, ◌++◌, map, Bool, Option, Some, None}
use Rattle.std.specs.List.Sorted.{IsPermutation}
use Rattle.kp_embed.specs.declared.fault.SendFault.{SendFault}
use Rattle.kp_embed.specs.declared.target.Ticket.{Ticket}
use Rattle.kp_lines.specs.Lines.{Cutting, Ends, Tells}
use Rattle.kp_lines.specs.declared.line.Line.{Line}
use Rattle.kp_rules.specs.declared.outcome.Report.{Report}
use Rattle.kp_send.specs.Ledger.{Entry}
use Rattle.kp_send.specs.Sender.{Accepts, Account, Finishes, Hears, Leaves, lines_of, sent_of, StaysButOrder, Takes}
use Rattle.kp_send.specs.Texts.{counted_all, Writes}
use Rattle.kp_send.specs.declared.texts.Texts.{Texts}
use Rattle.kp_send.specs.declared.told.Told.{Told}

-- ---- calls

-- A call on a sender: these bytes of the stream were taken by it.
pub data Calls (a : Account) (texts : Texts) : (taken : List ℕ) → Account → Texts → Type 0 where
  takes : (chunk rest : List ℕ) (b : Account) → (t : Takes a chunk rest b) → Calls a texts t.taken b texts
  finishes : (b : Account) → Finishes a b → Calls a texts [] b texts
  reserves : (b : Account) → StaysButOrder a b → Calls a texts [] b texts
  accepts : (ticket : Ticket) (b : Account) (after : Texts) → Accepts a ticket texts after b → Calls a texts [] b after
  leaves : (fault : SendFault) (b : Account) (after : Texts) → Leaves a fault texts after b → Calls a texts [] b after
  hears : (report : Report) (b : Account) (after : Texts) → Hears a report texts after b → Calls a texts [] b after

-- Calls, one after the other, by which these bytes were taken.
pub data Goes (a : Account) (texts : Texts) : (taken : List ℕ) → Account → Texts → Type 0 where
  none : Goes a texts [] a texts
  one_more : (taken more : List ℕ) (b c : Account) (after last : Texts) → Goes a texts taken b after → Calls b after more c last
      → Goes a texts (taken ++ more) c last

-- ---- what came of them

-- what is known of a line while it is on its way: its number, and its bytes where they are kept
abbrev pub Mark : Type 0
Mark = ℕ × Option (List ℕ)

abbrev pub mark_of : (keeps : Bool) → Line → Mark
mark_of keeps line = ((sent_of keeps line).line, (sent_of keeps line).bytes)

abbrev pub entry_mark : Entry → Mark
entry_mark entry = (entry.1.line, entry.1.bytes)

abbrev pub told_mark : Told → Mark
told_mark told = (told.line, told.bytes)

abbrev pub next_marks : (keeps : Bool) → Option Line → List Mark
next_marks keeps (Some line) = mark_of keeps line ∷ []
next_marks keeps None = []

-- the lines that are on their way
abbrev pub open_marks : Account → List Mark
open_marks a = next_marks a.keeps a.next ++ map entry_mark a.book.waiting

-- The bytes were cut into these lines; the stream may have ended behind them.
abbrev pub Cuts : Option Cutting → (taken : List ℕ) → List Line → Option Cutting → Type 0
Cuts (Some before) taken lines (Some after) = Tells before taken lines after
Cuts (Some before) taken lines None =
    (after : Cutting) × (told : List Line) × (last : Option Line) × Tells before taken told after × Ends after last × (lines ≡ told ++ lines_of last)
Cuts None taken lines None = (taken ≡ []) × (lines ≡ [])
Cuts None taken lines (Some after) = ⊥

-- The bytes were cut into lines, of which each, and each that was on its way before, was told of once, or is on its way; and what
-- is written of those that were told of stands behind what was to be written, in their order.
pub record Passes (a : Account) (texts : Texts) (taken : List ℕ) (b : Account) (after : Texts) : Type 0 where
  pub lines : List Line
  pub told : List Told
  pub cuts : Cuts a.cutting taken lines b.cutting
  pub each : IsPermutation (open_marks a ++ map (mark_of a.keeps) lines) (map told_mark told ++ open_marks b)
  pub writes : Writes a.delimiter a.tellings told texts after
  pub tellings : b.tellings ≡ counted_all a.tellings told
  pub keeps : b.keeps ≡ a.keeps
  pub delimiter : b.delimiter ≡ a.delimiter
