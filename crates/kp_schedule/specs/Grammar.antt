-- The language of schedules: what a line says, by its words.
use Rattle.std.specs.Prelude.{◌≡◌, ◌≢◌, ℕ, ◌<◌, ◌≤◌, ◌^◌, ℤ, pos, ◌≤ℤ◌, List, [], ◌∷◌, length, Option, MatchOption, Result, Ok, Err, codes, decimal}
use Rattle.std.specs.declared.alloc.AllocError.{AllocError}
use Rattle.std.specs.Fmt.{signed_decimal}
use Rattle.std.specs.List.{All}
use Rattle.kp_world.specs.declared.event.Event.{Event}
use Rattle.kp_world.specs.declared.event.Event.TheVariants.{Accept, Take, Now, Tick, TickNode, Send, SendNode, Deliver, Reply, Drop, DropNode, Leader, Other, Close, End, Flush}
use Rattle.kp_world.specs.declared.event.Treatment.{Treatment}
use Rattle.kp_world.specs.declared.event.Treatment.TheVariants.{Judged, Refused, Late}
use Rattle.kp_schedule.specs.Lines.{Text}
use Rattle.kp_schedule.specs.Words.{words}
use Rattle.kp_schedule.specs.declared.saying.Saying.{Saying}
use Rattle.kp_schedule.specs.declared.saying.Saying.TheVariants.{Nothing, Sets, Happens}
use Rattle.kp_schedule.specs.declared.setting.Setting.{Setting}
use Rattle.kp_schedule.specs.declared.setting.Setting.TheVariants.{Partitions, Senders, BatchSize, Linger, BufferMemory, MaxRequestSize, RequestTimeout, DeliveryTimeout, RetryBackoff, MaxInFlight, SequenceLimit}

-- ---- events

abbrev pub event_words : Event → List Text
event_words (Accept s p value) = codes "accept" ∷ decimal s ∷ decimal p ∷ value ∷ []
event_words (Take s) = codes "take" ∷ decimal s ∷ []
event_words (Now moment) = codes "now" ∷ decimal moment ∷ []
event_words Tick = codes "tick" ∷ []
event_words (TickNode node) = codes "tick" ∷ decimal node ∷ []
event_words Send = codes "send" ∷ []
event_words (SendNode node) = codes "send" ∷ decimal node ∷ []
event_words (Deliver k Judged) = codes "deliver" ∷ decimal k ∷ []
event_words (Deliver k (Refused code)) =
    codes "deliver" ∷ decimal k ∷ codes "fail" ∷ signed_decimal code ∷ []
event_words (Deliver k (Late code)) =
    codes "deliver" ∷ decimal k ∷ codes "late" ∷ signed_decimal code ∷ []
event_words (Reply j) = codes "reply" ∷ decimal j ∷ []
event_words Drop = codes "drop" ∷ []
event_words (DropNode node) = codes "drop" ∷ decimal node ∷ []
event_words (Leader p node) = codes "leader" ∷ decimal p ∷ decimal node ∷ []
event_words (Other p n) = codes "other" ∷ decimal p ∷ decimal n ∷ []
event_words Close = codes "close" ∷ []
event_words End = codes "end" ∷ []
event_words Flush = codes "flush" ∷ []

-- ---- what may stand in them

abbrev pub IsNumber : ℕ → Type 0
IsNumber n = n < 2 ^ 64

-- a node's number
abbrev pub IsNode : ℕ → Type 0
IsNode n = n < 2 ^ 32

-- a byte that is seen when it is printed, and is no blank
abbrev pub IsVisible : ℕ → Type 0
IsVisible b = (0x21 ≤ b) × (b ≤ 0x7e)

pub record IsValue (value : Text) : Type 0 where
  pub some : 1 ≤ length value
  pub few : length value ≤ 64
  pub visible : All IsVisible value

-- A code of two digits at most. 46 would say that a batch stands in the log.
pub record IsCode (code : ℤ) : Type 0 where
  pub low : pos 1 ≤ℤ code
  pub high : code ≤ℤ pos 99
  pub tells_nothing : code ≢ pos 46

abbrev pub MayTreat : Treatment → Type 0
MayTreat Judged = Unit {0}
MayTreat (Refused code) = IsCode code
MayTreat (Late code) = IsCode code

abbrev pub MayBeSaid : Event → Type 0
MayBeSaid (Accept s p value) = IsNumber s × IsNumber p × IsValue value
MayBeSaid (Take s) = IsNumber s
MayBeSaid (Now moment) = moment < 2 ^ 63
MayBeSaid (TickNode node) = IsNode node
MayBeSaid (SendNode node) = IsNode node
MayBeSaid (Deliver k how) = IsNumber k × MayTreat how
MayBeSaid (Reply j) = IsNumber j
MayBeSaid (DropNode node) = IsNode node
MayBeSaid (Leader p node) = IsNumber p × IsNode node
MayBeSaid (Other p n) = IsNumber p × (n ≤ 1000)
MayBeSaid _ = Unit {0}

-- ---- settings

abbrev pub name_of : Setting → Text
name_of Partitions = codes "partitions"
name_of Senders = codes "senders"
name_of BatchSize = codes "batch.size"
name_of Linger = codes "linger.ms"
name_of BufferMemory = codes "buffer.memory"
name_of MaxRequestSize = codes "max.request.size"
name_of RequestTimeout = codes "request.timeout.ms"
name_of DeliveryTimeout = codes "delivery.timeout.ms"
name_of RetryBackoff = codes "retry.backoff.ms"
name_of MaxInFlight = codes "max.in.flight"
name_of SequenceLimit = codes "sequence.limit"

abbrev pub MayBeSet : Setting → ℕ → Type 0
MayBeSet Partitions n = (1 ≤ n) × (n ≤ 1024)
MayBeSet Senders n = (1 ≤ n) × (n ≤ 64)
MayBeSet name n = IsNumber n

-- ---- lines

-- an empty line, or a comment, in which any bytes may stand
abbrev pub IsSilent : Text → Type 0
IsSilent [] = Unit {0}
IsSilent (b ∷ bs) = b ≡ 35

abbrev pub setting_words : Setting → ℕ → List Text
setting_words name n = codes "set" ∷ name_of name ∷ decimal n ∷ []

-- The words say this.
abbrev pub WordsSay : List Text → Saying → Type 0
WordsSay ws Nothing = ⊥
WordsSay ws (Sets name n) = MayBeSet name n × (ws ≡ setting_words name n)
WordsSay ws (Happens e) = MayBeSaid e × (ws ≡ event_words e)

-- The line says this.
abbrev pub Says : Text → Saying → Type 0
Says line Nothing = IsSilent line
Says line x = WordsSay (words line) x

-- ---- reading

-- It is written so, and this is it; or nothing that may be is written so.
abbrev pub Reads : {A B : Type 0} → (A → Type 0) → (A → B) → B → Option A → Type 0
Reads {A} {B} MayBe written text r =
    MatchOption r ((a : A) → MayBe a → text ≢ written a) (λ a. MayBe a × (text ≡ written a))

-- They say this; or they say nothing of what may be said.
abbrev pub Understands : (Saying → Type 0) → Option Saying → Type 0
Understands IsSaid r = MatchOption r ((x : Saying) → ¬ (IsSaid x)) (λ x. IsSaid x)

abbrev pub ReadsEvent : List Text → Option Event → Type 0
ReadsEvent ws r = Reads MayBeSaid event_words ws r

-- Memory is wanted for an event alone.
abbrev pub ReadsWords : List Text → Result (Option Event) AllocError → Type 0
ReadsWords ws (Ok r) = ReadsEvent ws r
ReadsWords ws (Err refused) = (e : Event) × MayBeSaid e × (ws ≡ event_words e)

abbrev pub ReadsSaying : (Saying → Type 0) → Result (Option Saying) AllocError → Type 0
ReadsSaying IsSaid (Ok r) = Understands IsSaid r
ReadsSaying IsSaid (Err refused) = (x : Saying) × IsSaid x
