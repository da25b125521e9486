-- What a stretch of calls on a wire did.
use Rattle.std.specs.Prelude.{◌≡◌, ◌⊎◌, ◌↔◌, ℕ, ◌≤◌, true, false, List, [], ◌∷◌, ◌++◌, length, Contains, Option, Some, None, Result, Ok, Err}
use Rattle.std.specs.Global.{Vec}
use Rattle.std.specs.List.{flat_map, concat, AllByRecursion}
use Rattle.std.specs.declared.io.Error.{Error}
use Rattle.std.specs.declared.alloc.AllocError.{AllocError}
use Rattle.futures.specs.declared.task.Poll.{Poll}
use Rattle.futures.specs.declared.task.Poll.TheVariants.{Ready, Pending}
use Rattle.futures.specs.Poll.{OnPending}
use Rattle.tokio.specs.Io.Moved.{IsReadyOk, IfReadyErr}
use Rattle.kp_frames.specs.declared.fault.FrameFault.{FrameFault}
use Rattle.kp_frames.specs.declared.frame.TheConstants.{CONTENT_LIMIT}
use Rattle.kp_frames.specs.Stream as framing
use Rattle.kp_connection.specs.declared.fault.ReadFault.{ReadFault}
use Rattle.kp_connection.specs.declared.fault.ReadFault.TheVariants.{Io, TooLarge, OutOfMemory}
use Rattle.kp_connection.specs.Answers.{Answer, came, gone}
use Rattle.kp_connection.specs.Answers.Answer.{Came, Read_waits, Read_failed, Went, Write_waits, Write_failed}

-- A stream, the bytes that are kept for writing, and the bytes that were read and are held until they are heard.
pub record Wired (S : Type 0) : Type 0 where
  pub stream : S
  pub kept : List ℕ
  pub held : List ℕ

-- what a stream tells: a state, the answers of calls, and the state after
abbrev pub Told : Type 0 → Type 1
Told S = S → List Answer → S → Type 0

-- each content behind its size
abbrev pub frames : List (List ℕ) → List ℕ
frames contents = flat_map framing.frame.spell contents

-- No content is longer than that of a frame is.
abbrev pub AreContents : List (List ℕ) → Type 0
AreContents contents = AllByRecursion (λ content. length content ≤ CONTENT_LIMIT) contents

-- ---- stretches of calls

-- From old to new these frames were handed to write and these contents were heard, the stream's calls answered so, and
-- no byte was given up.
pub record Goes {S : Type 0} (answers : Told S) (old : Wired S) (sent heard : List (List ℕ)) (xs : List Answer) (new : Wired S) : Type 0 where
  pub told : answers old.stream xs new.stream
  -- bytes written, then bytes kept
  pub written : gone xs ++ new.kept ≡ old.kept ++ concat sent
  -- frames heard, then bytes held
  pub read : frames heard ++ new.held ≡ old.held ++ came xs
  pub contents : AreContents heard

-- The same, where the size of no frame was read: the bytes behind it were given up.
pub record Breaks {S : Type 0} (answers : Told S) (old : Wired S) (sent heard : List (List ℕ)) (xs : List Answer) (new : Wired S) : Type 0 where
  pub told : answers old.stream xs new.stream
  pub written : gone xs ++ new.kept ≡ old.kept ++ concat sent
  pub lost : List ℕ
  pub read : frames heard ++ new.held ++ lost ≡ old.held ++ came xs
  pub contents : AreContents heard

-- The same, where bytes that were kept or held may have been given up at the end: what was written is a beginning of
-- what was handed to write, and the frames that were heard are a beginning of what was read.
pub record Stops {S : Type 0} (answers : Told S) (old : Wired S) (sent heard : List (List ℕ)) (xs : List Answer) (new : Wired S) : Type 0 where
  pub told : answers old.stream xs new.stream
  pub unwritten : List ℕ
  pub written : gone xs ++ unwritten ≡ old.kept ++ concat sent
  pub unheard : List ℕ
  pub read : frames heard ++ unheard ≡ old.held ++ came xs
  pub contents : AreContents heard

-- A whole frame that is at its beginning is all of it.
abbrev pub IsOneAtMost : List ℕ → Type 0
IsOneAtMost bytes = (content rest : List ℕ) → framing.first bytes ≡ Ok (content, rest) → rest ≡ []

-- the stream gave this answer
abbrev pub Met : Answer → List Answer → Type 0
Met x xs = Contains xs x

-- ---- writing

-- Writes until nothing is kept: ready where nothing is, pending where a write waited, failed where a write failed or
-- took no bytes of some.
pub record Writes {S : Type 0} (answers : Told S) (old : Wired S) (result : Poll (Result (Unit {0}) Error)) (new : Wired S) : Type 0 where
  pub xs : List Answer
  pub goes : Goes answers old [] [] xs new
  pub held : new.held ≡ old.held
  pub all : IsReadyOk result ↔ (new.kept ≡ [])
  pub waited : OnPending result (Met Write_waits xs)
  pub failed : IfReadyErr result (λ _. Met Write_failed xs ⊎ Met (Went []) xs)

-- ---- one read

-- It brought so many bytes, at most so many.
pub record Brings {S : Type 0} (answers : Told S) (most : ℕ) (old : Wired S) (count : ℕ) (new : Wired S) : Type 0 where
  pub bytes : List ℕ
  pub len : length bytes ≡ count
  pub bound : count ≤ most
  pub sound : framing.is_faulty (old.held ++ bytes) ≡ false
  pub goes : Goes answers old [] [] (Came bytes ∷ []) new

-- It brought bytes, at most so many, and with them the size of no frame is held, as far as a splitter holds it.
pub record Refuses {S : Type 0} (answers : Told S) (most : ℕ) (old new : Wired S) : Type 0 where
  pub bytes : List ℕ
  pub bound : length bytes ≤ most
  pub faulty : framing.is_faulty (old.held ++ bytes) ≡ true
  pub held : new.held ≡ framing.kept (old.held ++ bytes)
  pub breaks : Breaks answers old [] [] (Came bytes ∷ []) new

-- There was no room: either before it, and then nothing was done, or for what it brought, which is lost.
pub record Lacks {S : Type 0} (answers : Told S) (most : ℕ) (old new : Wired S) : Type 0 where
  pub xs : List Answer
  pub once : ((xs ≡ []) × (new ≡ old)) ⊎ ((bytes : List ℕ) × (length bytes ≤ most) × (xs ≡ Came bytes ∷ []))
  pub kept : new.kept ≡ old.kept
  pub held : new.held ≡ old.held
  pub stops : Stops answers old [] [] xs new

-- a splitter's refusal as the reader's
abbrev pub refusal : FrameFault → ReadFault
refusal FrameFault.TooLarge = TooLarge
refusal fault = OutOfMemory

-- a read of at most so many bytes, and its answer
abbrev pub Reads : {S : Type 0} → Told S → ℕ → Wired S → Poll (Result ℕ ReadFault) → Wired S → Type 0
Reads answers most old Pending new = Goes answers old [] [] (Read_waits ∷ []) new
Reads answers most old (Ready (Ok count)) new = Brings answers most old count new
Reads answers most old (Ready (Err (Io e))) new = Goes answers old [] [] (Read_failed ∷ []) new
Reads answers most old (Ready (Err TooLarge)) new = Refuses answers most old new
Reads answers most old (Ready (Err OutOfMemory)) new = Lacks answers most old new

-- ---- one question for a frame

-- This is the content of the oldest frame that is held, which is held no more.
pub record Gives {S : Type 0} (answers : Told S) (old : Wired S) (content : List ℕ) (new : Wired S) : Type 0 where
  pub oldest : framing.first old.held ≡ Ok (content, new.held)
  pub goes : Goes answers old [] (content ∷ []) [] new

-- Where there is none, or no room for it, nothing changes.
abbrev pub Hears : {S : Type 0} → Told S → Wired S → Result (Option (Vec ℕ)) AllocError → Wired S → Type 0
Hears answers old (Ok (Some content)) new = Gives answers old content.items new
Hears answers old (Ok None) new = ((framing.stream old.held).frames ≡ []) × (new ≡ old)
Hears answers old (Err refused) new = ((framing.stream old.held).frames ≡ [] → ⊥) × (new ≡ old)
