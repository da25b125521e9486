-- The lines that were sent, until it is told what became of them.
use Rattle.std.specs.Prelude.{◌≡◌, ◌≢◌, ℕ, List, [], ◌∷◌, ◌++◌, Option, Some, None, All}
use Rattle.std.specs.List.{flat_map}
use Rattle.std.specs.List.Sorted.{IsPermutation}
use Rattle.std.specs.Ordering.{nat_cmp}
use Rattle.std.specs.declared.cmp.Ordering.{Ordering}
use Rattle.kp_embed.specs.declared.fault.SendFault.{SendFault}
use Rattle.kp_embed.specs.declared.target.Ticket.{Ticket}
use Rattle.kp_rules.specs.declared.outcome.Outcome.{Outcome}
use Rattle.kp_rules.specs.declared.outcome.Report.{Report}
use Rattle.kp_send.specs.declared.fault.LedgerFault.{LedgerFault}
use Rattle.kp_send.specs.declared.fault.LedgerFault.TheVariants.{Waits, OutOfMemory}
use Rattle.kp_send.specs.declared.told.Fate.TheVariants.{Refused, Reported}
use Rattle.kp_send.specs.declared.told.Sent.{Sent}
use Rattle.kp_send.specs.declared.told.Told.{Told}

-- the partition and the number of a record that was accepted
abbrev pub Key : Type 0
Key = ℕ × ℕ

-- a line, by its record's ticket
abbrev pub Entry : Type 0
Entry = Key × Sent

-- the lines that wait, in no order, and how many more have a place that is kept for them
pub record Book : Type 0 where
  pub waiting : List Entry
  pub room : ℕ

abbrev pub key_of : Ticket → Key
key_of ticket = (ticket.partition, ticket.number)

abbrev pub entry_of : Ticket → Sent → Entry
entry_of ticket sent = (key_of ticket, sent)

-- The lines that waited, and those that were entered, are those that left, and those that wait now: each once.
abbrev pub Moves : Book → (entered left : List Entry) → Book → Type 0
Moves old entered left new = IsPermutation (old.waiting ++ entered) (left ++ new.waiting)

-- no line waits for it
abbrev pub LacksKey : Key → Book → Type 0
LacksKey key book = All (λ entry. entry.0 ≢ key) book.waiting

abbrev pub Lacks : Ticket → Book → Type 0
Lacks ticket book = LacksKey (key_of ticket) book

-- why a line is not entered
abbrev pub RefusedFor : Book → Ticket → LedgerFault → Type 0
RefusedFor old ticket Waits = Lacks ticket old → ⊥
RefusedFor old ticket OutOfMemory = old.room ≡ 0

-- what becomes known of a line whose record was accepted
abbrev pub reported : Sent → (partition : ℕ) → Outcome → Told
reported sent partition outcome = record { line = sent.line; fate = Reported partition outcome; bytes = sent.bytes }

-- what is known of a line whose record was never accepted
abbrev pub refused : (line : ℕ) → SendFault → Option (List ℕ) → Told
refused line fault bytes = record { line = line; fate = Refused fault; bytes = bytes }

-- The line that waited for this report has left with it, or none did.
abbrev pub Tells : Book → Report → Option Told → Book → Type 0
Tells old report (Some told) new =
    (sent : Sent) × (told ≡ reported sent report.partition report.outcome)
    × Moves old [] (((report.partition, report.number), sent) ∷ []) new
Tells old report None new = LacksKey (report.partition, report.number) old × (new.waiting ≡ old.waiting)

-- a line that waited, told with this outcome
abbrev pub left_with : Outcome → Entry → Told
left_with outcome entry = reported entry.1 entry.0.0 outcome

-- by their numbers
abbrev pub by_line : Told → Told → Ordering
by_line a b = nat_cmp a.line b.line

-- One that waited has left with this outcome, or none waits.
abbrev pub Leaves : Book → Outcome → Option Told → Book → Type 0
Leaves old outcome (Some told) new = (entry : Entry) × (told ≡ left_with outcome entry) × Moves old [] (entry ∷ []) new
Leaves old outcome None new = (old.waiting ≡ []) × (new.waiting ≡ [])

-- ---- many calls

-- the lines that a call entered, and those that left by it
abbrev pub Call : Type 0
Call = List Entry × List Entry

-- These calls, one after the other, lead from the one to the other.
abbrev pub Follow : Book → List Call → Book → Type 0
Follow old [] new = new.waiting ≡ old.waiting
Follow old (call ∷ calls) new = (between : Book) × Moves old call.0 call.1 between × Follow between calls new

abbrev pub entered_by : List Call → List Entry
entered_by calls = flat_map (λ (call : Call). call.0) calls

abbrev pub left_by : List Call → List Entry
left_by calls = flat_map (λ (call : Call). call.1) calls
