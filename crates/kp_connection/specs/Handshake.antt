-- The handshake that introduces a producer to its broker: it asks for the topic's metadata, and once that is answered for
-- a producer id (protocol guide, "Metadata API (Key: 3)" and "InitProducerId API (Key: 22)"; KIP-98).
use Rattle.std.specs.Prelude.{◌≡◌, ◌⊎◌, ℕ, List, [], ◌∷◌, ◌++◌, length, Result, Ok, Err}
use Rattle.std.specs.List.{concat}
use Rattle.kp_frames.specs.declared.fault.FrameFault.TheVariants as frame
use Rattle.kp_frames.specs.Stream as framing
use Rattle.kp_rules.specs.declared.names.Names.{Names}
use Rattle.kp_hello.specs.declared.fault.HandshakeFault.{HandshakeFault}
use Rattle.kp_hello.specs.declared.fault.HandshakeFault.TheVariants.{Io, Frame, OutOfMemory}
use Rattle.kp_connection.specs.declared.handshake.stage.Stage.{Stage}
use Rattle.kp_connection.specs.declared.handshake.stage.Stage.TheVariants.{Opening, Metadata, ProducerId}
use Rattle.kp_hello.specs.declared.hello.Hello.{Hello}
use Rattle.kp_connection.specs.Answers.{Answer, came, gone}
use Rattle.kp_connection.specs.Answers.Answer.{Came, Read_waits, Read_failed, Went, Write_waits, Write_failed}
use Rattle.kp_hello.specs.Asking.{frame_of, metadata_request, producer_id_request, Unwritable}
use Rattle.kp_hello.specs.Hello.{metadata_given, producer_id_given}
use Rattle.kp_connection.specs.Wire.{Told, Wired, frames, Goes, Stops, IsOneAtMost, Met}

-- ---- how far it has come

-- Its names, which answer it awaits, and its stream.
pub record Talking (S : Type 0) : Type 0 where
  pub names : Names
  pub stage : Stage
  pub wire : Wired S

-- the frames that were handed to write until then
abbrev pub asked : Names → Stage → List (List ℕ)
asked names Opening = []
asked names Metadata = frame_of (metadata_request names) ∷ []
asked names (ProducerId n) = frame_of (metadata_request names) ∷ frame_of (producer_id_request names) ∷ []

-- The topic has so many partitions by the answer to Metadata, which was heard now or before.
abbrev pub Counts : List ℕ → Stage → List (List ℕ) → ℕ → Type 0
Counts topic Opening heard n = (content : List ℕ) × (heard ≡ content ∷ []) × (metadata_given topic content ≡ Ok n)
Counts topic Metadata heard n = (content : List ℕ) × (heard ≡ content ∷ []) × (metadata_given topic content ≡ Ok n)
Counts topic (ProducerId m) heard n = (heard ≡ []) × (m ≡ n)

-- what was heard from one stage to another
abbrev pub Hears : List ℕ → Stage → List (List ℕ) → Stage → Type 0
Hears topic old heard (ProducerId n) = Counts topic old heard n
Hears topic (ProducerId n) heard Opening = ⊥
Hears topic (ProducerId n) heard Metadata = ⊥
Hears topic Opening heard Opening = heard ≡ []
Hears topic Opening heard Metadata = heard ≡ []
Hears topic Metadata heard Opening = ⊥
Hears topic Metadata heard Metadata = heard ≡ []

-- Up to some answer of the stream's just what was kept and these frames were written, and just what is heard was read.
pub record Turns {S : Type 0} (old : Wired S) (first heard : List (List ℕ)) (xs : List Answer) : Type 0 where
  pub until : List Answer
  pub behind : List Answer
  pub is : xs ≡ until ++ behind
  pub written : gone until ≡ old.kept ++ concat first
  pub read : old.held ++ came until ≡ frames heard

-- A producer id is asked for in its turn: not before the answer to Metadata was read.
abbrev pub InTurn : {S : Type 0} → Names → Stage → Wired S → List (List ℕ) → List Answer → Stage → Type 0
InTurn names Opening old heard xs (ProducerId n) = Turns old (frame_of (metadata_request names) ∷ []) heard xs
InTurn names Metadata old heard xs (ProducerId n) = Turns old [] heard xs
InTurn names stage old heard xs new = Unit {0}

-- From old it came to this stage: the requests that are asked until then were handed to write, each once and in its turn,
-- the answers until then were heard, and behind them these contents; the stream's calls answered so.
pub record Comes {S : Type 0} (answers : Told S) (old : Talking S) (stage : Stage) (last : List (List ℕ)) (xs : List Answer) (wire : Wired S) : Type 0 where
  pub sent : List (List ℕ)
  pub heard : List (List ℕ)
  pub asks : asked old.names old.stage ++ sent ≡ asked old.names stage
  pub hears : Hears old.names.topic old.stage heard stage
  pub turn : InTurn old.names old.stage old.wire heard xs stage
  pub goes : Goes answers old.wire sent (heard ++ last) xs wire

-- ---- a poll that waits

-- It waits for an answer: less than a frame was read of it. Either its request is written, and a read waited, or a write
-- waited.
pub record Waits {S : Type 0} (answers : Told S) (old new : Talking S) : Type 0 where
  pub xs : List Answer
  pub names : new.names ≡ old.names
  pub asked : new.stage ≡ Opening → ⊥
  pub comes : Comes answers old new.stage [] xs new.wire
  pub partial : framing.first new.wire.held ≡ Err frame.Short
  pub met : ((new.wire.kept ≡ []) × Met Read_waits xs) ⊎ Met Write_waits xs

-- ---- the hello

-- Both requests were written and both answers read, and nothing behind them; they give the hello.
pub record Concludes {S : Type 0} (answers : Told S) (old : Talking S) (hello : Hello) (stream : S) : Type 0 where
  pub xs : List Answer
  pub wire : Wired S
  pub content : List ℕ
  pub comes : Comes answers old (ProducerId hello.partitions) (content ∷ []) xs wire
  pub written : wire.kept ≡ []
  pub read : wire.held ≡ []
  pub id : producer_id_given content ≡ Ok hello.producer_id
  pub correlation : hello.next_correlation ≡ 2
  pub back : stream ≡ wire.stream

-- ---- its faults

-- the stream failed, has ended, or took no byte of a write
abbrev pub HasFailed : List Answer → Type 0
HasFailed xs = (Met Read_failed xs ⊎ Met (Came []) xs) ⊎ (Met Write_failed xs ⊎ Met (Went []) xs)

pub record Fails {S : Type 0} (answers : Told S) (old : Talking S) : Type 0 where
  pub xs : List Answer
  pub stage : Stage
  pub wire : Wired S
  pub comes : Comes answers old stage [] xs wire
  pub partial : framing.first wire.held ≡ Err frame.Short
  pub failed : HasFailed xs

-- Memory was refused: what was written is a beginning of what is asked until then, and behind what was heard at most one
-- frame was read.
pub record Lacks {S : Type 0} (answers : Told S) (old : Talking S) : Type 0 where
  pub xs : List Answer
  pub stage : Stage
  pub wire : Wired S
  pub sent : List (List ℕ)
  pub heard : List (List ℕ)
  pub asks : asked old.names old.stage ++ sent ≡ asked old.names stage
  pub hears : Hears old.names.topic old.stage heard stage
  pub turn : InTurn old.names old.stage old.wire heard xs stage
  pub stops : Stops answers old.wire sent heard xs wire
  pub one : IsOneAtMost stops.unheard

-- the answer that is awaited gives this fault
abbrev pub GivesFault : List ℕ → Stage → List ℕ → HandshakeFault → Type 0
GivesFault topic Opening content fault = ⊥
GivesFault topic Metadata content fault = metadata_given topic content ≡ Err fault
GivesFault topic (ProducerId n) content fault = producer_id_given content ≡ Err fault

-- Its request was written, and the answer that was read, and nothing behind it, gives this fault.
pub record Refuses {S : Type 0} (answers : Told S) (old : Talking S) (fault : HandshakeFault) : Type 0 where
  pub xs : List Answer
  pub stage : Stage
  pub wire : Wired S
  pub content : List ℕ
  pub comes : Comes answers old stage (content ∷ []) xs wire
  pub written : wire.kept ≡ []
  pub read : wire.held ≡ []
  pub gives : GivesFault old.names.topic stage content fault

-- Its request was written, and in the place of the answer the size of no frame was read, and nothing behind it.
pub record Overflows {S : Type 0} (answers : Told S) (old : Talking S) (fault : HandshakeFault) : Type 0 where
  pub xs : List Answer
  pub stage : Stage
  pub wire : Wired S
  pub comes : Comes answers old stage [] xs wire
  pub written : wire.kept ≡ []
  pub size : length wire.held ≡ 4
  pub large : framing.first wire.held ≡ Err frame.TooLarge
  pub is : fault ≡ Frame frame.TooLarge

-- The first request has no frame: nothing was asked.
pub record Unasked {S : Type 0} (answers : Told S) (old : Talking S) (fault : HandshakeFault) : Type 0 where
  pub xs : List Answer
  pub wire : Wired S
  pub comes : Comes answers old Opening [] xs wire
  pub partial : framing.first wire.held ≡ Err frame.Short
  pub refused : Unwritable (metadata_request old.names) fault

-- The second has none, once the first was answered.
pub record HalfAsked {S : Type 0} (answers : Told S) (old : Talking S) (fault : HandshakeFault) : Type 0 where
  pub xs : List Answer
  pub wire : Wired S
  pub content : List ℕ
  pub partitions : ℕ
  pub comes : Comes answers old Metadata (content ∷ []) xs wire
  pub written : wire.kept ≡ []
  pub read : wire.held ≡ []
  pub given : metadata_given old.names.topic content ≡ Ok partitions
  pub refused : Unwritable (producer_id_request old.names) fault

-- ---- how it ends

abbrev pub EndsWith : {S : Type 0} → Told S → Talking S → HandshakeFault → Type 0
EndsWith answers old Io = Fails answers old
EndsWith answers old OutOfMemory = Lacks answers old
EndsWith answers old fault =
    (Refuses answers old fault ⊎ Overflows answers old fault) ⊎ (Unasked answers old fault ⊎ HalfAsked answers old fault)

abbrev pub Ends : {S : Type 0} → Told S → Talking S → Result (Hello × S) HandshakeFault → Type 0
Ends answers old (Ok x) = Concludes answers old x.0 x.1
Ends answers old (Err fault) = EndsWith answers old fault
