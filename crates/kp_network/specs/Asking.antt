-- Metadata is asked for over a connection of its own.
use Rattle.std.specs.Prelude.{◌≡◌, ℕ, List, [], ◌∷◌, Option, Some, None, Ok}
use Rattle.kp_connection.specs.Answers.{Answer}
use Rattle.kp_connection.specs.Wire.{Goes, Told, Wired}
use Rattle.kp_hello.specs.Chart.{chart_given, seen}
use Rattle.kp_hello.specs.declared.chart.Chart.{Chart}
use Rattle.kp_network.specs.declared.question.Question.{Question}
use Rattle.kp_network.specs.declared.question.Stage.{Stage}
use Rattle.kp_network.specs.declared.question.Stage.TheVariants.{Asking, Dialing}

-- ---- what is heard

-- The request went out, and this was read.
pub record HearsOne {S : Type 0} (answers : Told S) (old : Wired S) (content : List ℕ) (new : Wired S) : Type 0 where
  pub xs : List Answer
  pub goes : Goes answers old [] (content ∷ []) xs new

-- The chart is what was read.
pub record LearnsOne {S : Type 0} (answers : Told S) (topic : List ℕ) (old : Wired S) (chart : Chart) (new : Wired S) : Type 0 where
  pub content : List ℕ
  pub hears : HearsOne answers old content new
  pub given : chart_given topic content ≡ Ok (seen chart)

abbrev pub Learns : {K S : Type 0} → Told S → (topic : List ℕ) → Stage K S → Chart → Stage K S → Type 0
Learns answers topic (Asking old) chart (Asking new) = LearnsOne answers topic old chart new
Learns answers topic old chart new = ⊥

-- ---- what a question waits for

-- while something is to be written, what a write waits for; else what a read does
abbrev pub waited_by_kept : List ℕ → (read write : Type 0) → Type 0
waited_by_kept [] read write = read
waited_by_kept (byte ∷ bytes) read write = write

abbrev pub waited_by_wire : {S : Type 0} → (reader writer : S → ℕ → Type 0) → Wired S → ℕ → Type 0
waited_by_wire reader writer wire source = waited_by_kept wire.kept (reader wire.stream source) (writer wire.stream source)

abbrev pub waited_by_stage : {K S : Type 0} → (waits : K → ℕ → Type 0) (reader writer : S → ℕ → Type 0) → Stage K S → ℕ → Type 0
waited_by_stage waits reader writer (Dialing k) source = waits k source
waited_by_stage waits reader writer (Asking wire) source = waited_by_wire reader writer wire source

abbrev pub waited_by_question : {K S : Type 0} → (waits : K → ℕ → Type 0) (reader writer : S → ℕ → Type 0) → Option (Question K S) → ℕ → Type 0
waited_by_question waits reader writer None source = ⊥
waited_by_question waits reader writer (Some question) source = waited_by_stage waits reader writer question.stage source
