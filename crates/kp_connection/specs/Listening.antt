-- One answer off a wire, and nothing behind it.
use Rattle.std.specs.Prelude.{◌≡◌, ◌⊎◌, ℕ, List, [], ◌∷◌, length, Result, Ok, Err}
use Rattle.std.specs.Global.{Vec}
use Rattle.futures.specs.declared.task.Poll.{Poll}
use Rattle.futures.specs.declared.task.Poll.TheVariants.{Ready, Pending}
use Rattle.kp_frames.specs.declared.fault.FrameFault.TheVariants as frame
use Rattle.kp_frames.specs.Stream as framing
use Rattle.kp_hello.specs.declared.fault.HandshakeFault.{HandshakeFault}
use Rattle.kp_hello.specs.declared.fault.HandshakeFault.TheVariants.{Io, Frame, OutOfMemory}
use Rattle.kp_connection.specs.Answers.{Answer}
use Rattle.kp_connection.specs.Answers.Answer.{Read_waits, Write_waits}
use Rattle.kp_connection.specs.Handshake.{HasFailed}
use Rattle.kp_connection.specs.Wire.{Told, Wired, Goes, Stops, IsOneAtMost, Met}

-- All was written, and this was read, with nothing behind it.
pub record Hears {S : Type 0} (answers : Told S) (old : Wired S) (content : List ℕ) (new : Wired S) : Type 0 where
  pub xs : List Answer
  pub goes : Goes answers old [] (content ∷ []) xs new
  pub written : new.kept ≡ []
  pub read : new.held ≡ []

pub record Waits {S : Type 0} (answers : Told S) (old new : Wired S) : Type 0 where
  pub xs : List Answer
  pub goes : Goes answers old [] [] xs new
  pub partial : framing.first new.held ≡ Err frame.Short
  pub met : ((new.kept ≡ []) × Met Read_waits xs) ⊎ Met Write_waits xs

pub record Fails {S : Type 0} (answers : Told S) (old new : Wired S) : Type 0 where
  pub xs : List Answer
  pub goes : Goes answers old [] [] xs new
  pub partial : framing.first new.held ≡ Err frame.Short
  pub failed : HasFailed xs

pub record Overflows {S : Type 0} (answers : Told S) (old new : Wired S) : Type 0 where
  pub xs : List Answer
  pub goes : Goes answers old [] [] xs new
  pub written : new.kept ≡ []
  pub size : length new.held ≡ 4
  pub large : framing.first new.held ≡ Err frame.TooLarge

pub record Lacks {S : Type 0} (answers : Told S) (old new : Wired S) : Type 0 where
  pub xs : List Answer
  pub stops : Stops answers old [] [] xs new
  pub one : IsOneAtMost stops.unheard

abbrev pub Listens : {S : Type 0} → Told S → Wired S → Result (Poll (Vec ℕ)) HandshakeFault → Wired S → Type 0
Listens answers old (Ok Pending) new = Waits answers old new
Listens answers old (Ok (Ready content)) new = Hears answers old content.items new
Listens answers old (Err Io) new = Fails answers old new
Listens answers old (Err OutOfMemory) new = Lacks answers old new
Listens answers old (Err (Frame frame.TooLarge)) new = Overflows answers old new
Listens answers old (Err fault) new = ⊥
