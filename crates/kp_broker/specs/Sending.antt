-- A piece that is read, and bytes that are written whole.
use Rattle.std.specs.Prelude.{◌≡◌, ℕ, ◌≤◌, List, [], ◌∷◌, ◌++◌, length, take, Result, Ok, Err}
use Rattle.kp_broker.specs.declared.fault.BrokerFault.{BrokerFault}
use Rattle.kp_broker.specs.declared.fault.BrokerFault.TheVariants.{Io}
use Rattle.kp_broker.specs.Calls.{Answer, Told, gone, reads, AreGood, EndsWith, HasFailed}
use Rattle.kp_broker.specs.Calls.Answer.{Came, Read_failed, Went, Write_failed, Flushed, Flush_failed}

-- One read into the front of the piece.
abbrev pub ReadsPiece : {C : Type 0} → Told C → C → Result ℕ BrokerFault → List ℕ → C → Type 0
ReadsPiece answers old (Ok len) piece new = (len ≤ length piece) × answers old (Came (take len piece) ∷ []) new
ReadsPiece answers old (Err fault) piece new = (fault ≡ Io) × answers old (Read_failed ∷ []) new

-- One write from the front of the bytes.
abbrev pub WritesPiece : {C : Type 0} → Told C → C → List ℕ → Result ℕ BrokerFault → C → Type 0
WritesPiece answers old bytes (Ok len) new = (len ≤ length bytes) × answers old (Went (take len bytes) ∷ []) new
WritesPiece answers old bytes (Err fault) new = (fault ≡ Io) × answers old (Write_failed ∷ []) new

abbrev pub Flushes : {C : Type 0} → Told C → C → Result (Unit {0}) BrokerFault → C → Type 0
Flushes answers old (Ok done) new = answers old (Flushed ∷ []) new
Flushes answers old (Err fault) new = (fault ≡ Io) × answers old (Flush_failed ∷ []) new

-- The bytes were written, or the first of them until the connection failed.
abbrev pub IsSent : List ℕ → List Answer → Result (Unit {0}) BrokerFault → Type 0
IsSent bytes xs (Ok done) = (gone xs ≡ bytes) × AreGood xs
IsSent bytes xs (Err fault) = (fault ≡ Io) × ((lost : List ℕ) × (bytes ≡ gone xs ++ lost)) × EndsWith HasFailed xs

pub record Sends {C : Type 0} (answers : Told C) (old : C) (bytes : List ℕ) (result : Result (Unit {0}) BrokerFault) (new : C) : Type 0 where
  pub xs : List Answer
  pub told : answers old xs new
  pub no_reads : reads xs ≡ 0
  pub sent : IsSent bytes xs result
