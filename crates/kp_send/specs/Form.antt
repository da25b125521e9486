-- The record that a line is made into.
use Rattle.std.specs.Prelude.{◌≡◌, ◌≢◌, ℕ, ◌≤◌, List, [], ◌++◌, length, Bool, true, Option, Some, None}
use Rattle.kp_batch.specs.declared.record.Record.{Record}
use Rattle.kp_send.specs.declared.form.Form.{Form}

-- Of all ways to write the line as some bytes, the delimiter and some bytes, this one begins with the fewest.
pub record IsFirstCut (delimiter line key value : List ℕ) : Type 0 where
  pub parts : line ≡ key ++ delimiter ++ value
  pub first : (front behind : List ℕ) → line ≡ front ++ delimiter ++ behind → length key ≤ length front

-- The first delimiter ends the key; a line without one is a value alone.
abbrev pub Cuts : (delimiter line : List ℕ) → (key : Option (List ℕ)) → (value : List ℕ) → Type 0
Cuts delimiter line (Some key) value = IsFirstCut delimiter line key value
Cuts delimiter line None value = (value ≡ line) × ((front behind : List ℕ) → line ≢ front ++ delimiter ++ behind)

-- the same, where there may be no delimiter
abbrev pub IsCut : (delimiter : Option (List ℕ)) → (line : List ℕ) → (key : Option (List ℕ)) → (value : List ℕ) → Type 0
IsCut (Some delimiter) line key value = Cuts delimiter line key value
IsCut None line key value = (key ≡ None) × (value ≡ line)

-- a value without a byte may be Kafka's null
abbrev pub value_of : (null_values : Bool) → List ℕ → Option (List ℕ)
value_of true [] = None
value_of null_values value = Some value

pub record IsRecordOf (form : Form) (timestamp : ℕ) (line : List ℕ) (r : Record) : Type 0 where
  pub moment : r.timestamp ≡ timestamp
  pub bytes : List ℕ
  pub cut : IsCut form.key_delimiter line r.key bytes
  pub value : r.value ≡ value_of form.null_values bytes
  pub headers : r.headers ≡ form.headers
