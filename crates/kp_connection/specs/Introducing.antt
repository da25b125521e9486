-- What a handshake did from its beginning on.
use Rattle.std.specs.Prelude.{◌≡◌, ◌⊎◌, ℕ, ◌≤◌, List, [], ◌++◌, length, Ok}
use Rattle.kp_frames.specs.declared.frame.TheConstants.{CONTENT_LIMIT}
use Rattle.kp_frames.specs.Stream as framing
use Rattle.kp_rules.specs.declared.names.Names.{Names}
use Rattle.kp_connection.specs.declared.handshake.stage.Stage.TheVariants.{Opening}
use Rattle.kp_hello.specs.declared.hello.Hello.{Hello}
use Rattle.kp_connection.specs.Answers.{Answer, came, gone}
use Rattle.kp_connection.specs.Answers.Answer.{Read_waits, Write_waits}
use Rattle.kp_hello.specs.Asking.{frame_of, metadata_request, producer_id_request}
use Rattle.kp_connection.specs.Handshake.{Talking, Waits}
use Rattle.kp_hello.specs.Hello.{metadata_given, producer_id_given}
use Rattle.kp_connection.specs.Wire.{Told, Met}

-- one of which nothing was said
abbrev pub fresh : {S : Type 0} → Names → S → Talking S
fresh names stream = record { names = names; stage = Opening; wire = record { stream = stream; kept = []; held = [] } }

-- From the first to this one each poll waited.
pub data Waited {S : Type 0} (answers : Told S) (first : Talking S) : Talking S → Type 0 where
  unpolled : Waited answers first first
  polled : (old new : Talking S) → Waited answers first old → Waits answers old new → Waited answers first new

-- ---- what is asked

-- The one is a beginning of the other.
abbrev pub Begins : List ℕ → List ℕ → Type 0
Begins xs ys = (more : List ℕ) × (xs ++ more ≡ ys)

-- The first request was written and its answer read, which tells how many partitions the topic has; of the second a
-- beginning was written.
pub record AsksAgain (names : Names) (written read : List ℕ) : Type 0 where
  pub content : List ℕ
  pub partitions : ℕ
  pub more : List ℕ
  pub behind : List ℕ
  pub asked : written ≡ frame_of (metadata_request names) ++ more
  pub answered : read ≡ framing.frame.spell content ++ behind
  pub given : metadata_given names.topic content ≡ Ok partitions
  pub begins : Begins more (frame_of (producer_id_request names))

abbrev pub Asks : Names → List ℕ → List ℕ → Type 0
Asks names written read = Begins written (frame_of (metadata_request names)) ⊎ AsksAgain names written read

-- So it is behind each of these answers of the stream's.
abbrev pub AsksInTurn : Names → List Answer → Type 0
AsksInTurn names xs = (until behind : List Answer) → xs ≡ until ++ behind → Asks names (gone until) (came until)

-- ---- how far it came

-- Behind two frames nothing was read.
abbrev pub IsTwoAtMost : List ℕ → Type 0
IsTwoAtMost read = (first second rest : List ℕ) → length first ≤ CONTENT_LIMIT → length second ≤ CONTENT_LIMIT
    → read ≡ framing.frame.spell first ++ framing.frame.spell second ++ rest → rest ≡ []

-- From the one state of the stream to the other it asked in turn, what was written is a beginning of both requests, and
-- behind two answers nothing was read.
pub record Speaks {S : Type 0} (answers : Told S) (names : Names) (stream last : S) : Type 0 where
  pub xs : List Answer
  pub told : answers stream xs last
  pub asks : AsksInTurn names xs
  pub written : Begins (gone xs) (frame_of (metadata_request names) ++ frame_of (producer_id_request names))
  pub two : IsTwoAtMost (came xs)

-- Just both requests were written, the second in its turn, and just two answers read; they give the hello.
pub record Introduces {S : Type 0} (answers : Told S) (names : Names) (stream : S) (hello : Hello) (back : S) : Type 0 where
  pub xs : List Answer
  pub told : answers stream xs back
  pub asks : AsksInTurn names xs
  pub written : gone xs ≡ frame_of (metadata_request names) ++ frame_of (producer_id_request names)
  pub first : List ℕ
  pub second : List ℕ
  pub read : came xs ≡ framing.frame.spell first ++ framing.frame.spell second
  pub partitions : metadata_given names.topic first ≡ Ok hello.partitions
  pub id : producer_id_given second ≡ Ok hello.producer_id
  pub correlation : hello.next_correlation ≡ 2

-- In one poll the stream waited.
pub record MetAWait {S : Type 0} (answers : Told S) (old new : S) : Type 0 where
  pub xs : List Answer
  pub told : answers old xs new
  pub met : Met Read_waits xs ⊎ Met Write_waits xs
