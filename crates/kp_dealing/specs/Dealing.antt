-- The lines of each sender, and the records that they are.
use Rattle.std.specs.Prelude.{◌≡◌, ◌≢◌, ℕ, ◌+◌, ◌*◌, List, [], ◌∷◌, ◌++◌, map, slice_get, Option, Some, None, All, Bool, true, false}
use denote.Ref.{Bor}
use Rattle.kp_batch.specs.declared.record.Record.{Record}
use Rattle.kp_options.specs.declared.options.Options.{Options}

-- line k of a sender, where the lines are dealt out one by one
abbrev pub dealt_line : ℕ → ℕ → ℕ → List (List ℕ) → Option (List ℕ)
dealt_line senders sender k lines = slice_get lines (k * senders + sender)

-- The text before the first tab is the key; without a tab there is none.
abbrev pub Splits : List ℕ → Option (List ℕ) → List ℕ → Type 0
Splits line None value = (value ≡ line) × All (λ b. b ≢ 9) line
Splits line (Some key) value = (line ≡ key ++ 9 ∷ value) × All (λ b. b ≢ 9) key

-- the record's key and value are the line's, where lines have keys; else the value is the whole line
abbrev pub IsSplit : Bool → List ℕ → Option (List ℕ) → List ℕ → Type 0
IsSplit true line key value = Splits line key value
IsSplit false line key value = (key ≡ None) × (value ≡ line)

pub record IsRecordOf (keyed : Bool) (timestamp : ℕ) (line : List ℕ) (r : Record) : Type 0 where
  pub moment : r.timestamp ≡ timestamp
  pub value : List ℕ
  pub has_value : r.value ≡ Some value
  pub split : IsSplit keyed line r.key value
  pub headers : r.headers ≡ []

-- ---- what is dealt out

-- lines, dealt out to so many senders, with keys or not
pub record Deal : Type 0 where
  pub lines : List (List ℕ)
  pub senders : ℕ
  pub keyed : Bool

abbrev pub texts : List (Bor (List ℕ)) → List (List ℕ)
texts lines = map (λ line. line.now) lines

abbrev pub dealt : List (Bor (List ℕ)) → ℕ → Bool → Deal
dealt lines senders keyed = record { lines = texts lines; senders = senders; keyed = keyed }

-- what a run with these options deals out
abbrev pub asked : Options → List (Bor (List ℕ)) → Deal
asked options lines = dealt lines options.senders options.keyed
