-- What is sent through a handle.
use Rattle.std.specs.Prelude.{◌≡◌, ℕ, ℤ, List, [], ◌∷◌, ◌++◌, length, take, drop, Option, Some, None}
use Rattle.kp_batch.specs.declared.record.Header.{Header}
use Rattle.kp_batch.specs.declared.record.Record.{Record}
use Rattle.kp_c.specs.Records.{HasParts}
use Rattle.kp_c.specs.declared.values.KpTicket.{KpTicket}
use Rattle.kp_embed.specs.Producer.{Producer}
use Rattle.kp_embed.specs.Sending.{GoesTo, Sends}
use Rattle.kp_embed.specs.declared.target.Target.{Target}

-- The record of these parts was accepted, with this ticket.
pub record Accepts (timestamp : ℤ) (key value : Option (List ℕ)) (headers : List Header) (now : ℕ) (t : KpTicket) (old new : Producer) : Type 0 where
  pub body : Record
  pub parts : HasParts timestamp key value headers body
  pub sends : Sends old now body (record { partition = t.partition; number = t.number }) new

-- ---- values alone

-- A record of this value alone was accepted, with some ticket.
pub record AcceptsValue (timestamp : ℤ) (now : ℕ) (target : Target) (value : List ℕ) (old new : Producer) : Type 0 where
  pub ticket : KpTicket
  pub accepts : Accepts timestamp None (Some value) [] now ticket old new
  pub to : GoesTo target ticket.partition

-- Records of these values were accepted, one after the other.
pub data AcceptsEach (timestamp : ℤ) (now : ℕ) (target : Target) (first : Producer) : List (List ℕ) → Producer → Type 0 where
  none : AcceptsEach timestamp now target first [] first
  one_more : (values : List (List ℕ)) (value : List ℕ) (old new : Producer) → AcceptsEach timestamp now target first values old
      → AcceptsValue timestamp now target value old new → AcceptsEach timestamp now target first (values ++ value ∷ []) new

-- the values, one after the other, by their lengths
unfoldable pub values_in : List ℕ → List ℕ → List (List ℕ)
values_in [] bytes = []
values_in (n ∷ lengths) bytes = take n bytes ∷ values_in lengths (drop n bytes)

-- Of the values the first were accepted, so many.
pub record AcceptsSome (timestamp : ℤ) (now : ℕ) (target : Target) (lengths bytes : List ℕ) (count : ℕ) (old new : Producer) : Type 0 where
  pub values : List (List ℕ)
  pub others : List (List ℕ)
  pub first : values_in lengths bytes ≡ values ++ others
  pub many : length values ≡ count
  pub each : AcceptsEach timestamp now target old values new
