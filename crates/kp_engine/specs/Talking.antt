-- The third and the fourth part of a turn, over a wire.
use Rattle.std.specs.Prelude.{◌≡◌, ◌⊎◌, ℕ, ◌+◌, ◌-◌, ◌*◌, ◌^◌, ◌≤◌, ◌<◌, true, false, Bool, List, [], ◌∷◌, ◌++◌, length, map, Option, Some, None, IsSome, Result, Ok, Err, IfOk}
use Rattle.std.specs.Global.{Vec}
use Rattle.std.specs.List.{AllByRecursion}
use Rattle.std.specs.Option.{ForSome}
use Rattle.std.specs.declared.alloc.AllocError.{AllocError}
use Rattle.kp_connection.specs.Answers.{Answer, came}
use Rattle.kp_connection.specs.Answers.Answer.{Read_waits, Read_failed, Came, Write_waits, Write_failed, Went}
use Rattle.kp_connection.specs.Wire.{Told, Wired, Goes, Stops, Met}
use Rattle.kp_frames.specs.declared.fault.FrameFault.{FrameFault}
use Rattle.kp_frames.specs.declared.fault.FrameFault.TheVariants.{TooLarge}
use Rattle.kp_frames.specs.Stream.{stream, is_faulty}
use Rattle.kp_rules.specs.Calls.{Call, Reply, Request}
use Rattle.kp_rules.specs.declared.fault.CoreFault.{CoreFault}
use Rattle.kp_rules.specs.declared.fault.CoreFault.TheVariants.{OutOfMemory, ReplyFault}
use Rattle.kp_rules.specs.declared.outgoing.Outgoing.{Outgoing}
use Rattle.kp_rules.specs.declared.ticked.Replied.{Replied}
use Rattle.kp_engine.specs.Exchange.{OnlyCore, Runs}
use Rattle.kp_engine.specs.Turn.{GivesNone, GoesOn, Heard, LacksMemory, asks, hears, lacking_memory, refused_with, requests}
use Rattle.kp_engine.specs.declared.exchange.Exchange.{Exchange}
use Rattle.kp_engine.specs.declared.stop.Cause.{Cause}
use Rattle.kp_engine.specs.declared.stop.Cause.TheVariants.{Io, TimedOut, BadReply}
use Rattle.kp_engine.specs.declared.turn.hearing.AtHand.{AtHand}
use Rattle.kp_engine.specs.declared.turn.hearing.AtHand.TheVariants as at_hand
use Rattle.kp_engine.specs.declared.turn.hearing.Listened.{Listened}
use Rattle.kp_engine.specs.declared.turn.hearing.Listened.TheVariants as listened
use Rattle.kp_engine.specs.declared.turn.hearing.Next.{Next}
use Rattle.kp_engine.specs.declared.turn.hearing.Next.TheVariants as next

-- the frames of requests
abbrev pub frames_of : List Outgoing → List (List ℕ)
frames_of sent = map (λ request. request.bytes) sent

-- the contents of replies
abbrev pub contents_of : List Heard → List (List ℕ)
contents_of heard = map (λ reply. reply.content) heard

-- ---- one call on the core

-- It is asked for a request: for one that goes out there is its frame, unless there was no room for a copy.
abbrev pub Requested : ℕ → ℕ → Exchange → Result (Option (Result (Vec ℕ) AllocError)) CoreFault → Exchange → Type 0
Requested node now old (Ok (Some frame)) new = (request : Outgoing) × IfOk frame (λ bytes. bytes.items ≡ request.bytes)
    × Runs old (Request node now (Ok (Some request)) ∷ []) new
Requested node now old (Ok None) new = Runs old (Request node now (Ok None) ∷ []) new
Requested node now old (Err fault) new = Runs old (Request node now (Err fault) ∷ []) new

-- It is asked for a request, whose frame this is, or gives none; or memory was refused.
abbrev pub AsksOne : ℕ → ℕ → Exchange → Result (Option (Vec ℕ)) AllocError → Exchange → Type 0
AsksOne node now old (Ok (Some frame)) new =
    (request : Outgoing) × (frame.items ≡ request.bytes) × Runs old (Request node now (Ok (Some request)) ∷ []) new
AsksOne node now old (Ok None) new =
    (answer : Result (Option Outgoing) CoreFault) × GivesNone answer × Runs old (Request node now answer ∷ []) new
AsksOne node now old (Err refused) new =
    (last : Option (Result (Option Outgoing) CoreFault)) × ForSome last LacksMemory × Runs old (asks node now last) new

-- It hears a reply, and goes on or refuses it; or memory was refused.
abbrev pub HearsOne : ℕ → List ℕ → Exchange → Result (Option FrameFault) AllocError → Exchange → Type 0
HearsOne now content old (Ok None) new =
    (answer : Result Replied CoreFault) × GoesOn answer × Runs old (Reply now content answer ∷ []) new
HearsOne now content old (Ok (Some fault)) new = Runs old (Reply now content (Err (ReplyFault fault)) ∷ []) new
HearsOne now content old (Err refused) new = Runs old (Reply now content (Err OutOfMemory) ∷ []) new

-- ---- stretches of calls on the core and on the stream

-- The core was run over these calls, and nothing else of the exchange has changed; these requests were handed to write
-- and these replies heard, and the stream's calls answered so.
pub record Talks {S : Type 0} (answers : Told S) (x : Exchange) (w : Wired S) (sent : List Outgoing) (heard : List Heard) (calls : List Call) (xs : List Answer) (y : Exchange) (v : Wired S) : Type 0 where
  pub runs : Runs x calls y
  pub only : OnlyCore x y
  pub goes : Goes answers w (frames_of sent) (contents_of heard) xs v

-- The same, where bytes may have been given up at its end.
pub record TalksUntil {S : Type 0} (answers : Told S) (x : Exchange) (w : Wired S) (sent : List Outgoing) (heard : List Heard) (calls : List Call) (xs : List Answer) (y : Exchange) (v : Wired S) : Type 0 where
  pub runs : Runs x calls y
  pub only : OnlyCore x y
  pub stops : Stops answers w (frames_of sent) (contents_of heard) xs v

-- ---- requests

-- Requests are written, until the core gives none, there are so many or the writer waits. Bytes are kept only where it waited.
pub record WritesOn {S : Type 0} (answers : Told S) (most node now : ℕ) (x : Exchange) (w : Wired S) (y : Exchange) (v : Wired S) : Type 0 where
  pub sent : List Outgoing
  pub last : Option (Result (Option Outgoing) CoreFault)
  pub xs : List Answer
  pub few : length sent + length (asks node now last) ≤ most
  pub none : ForSome last GivesNone
  pub talks : Talks answers x w sent [] (requests node now sent ++ asks node now last) xs y v
  pub held : v.held ≡ w.held
  pub kept : (v.kept ≡ []) ⊎ Met Write_waits xs
  pub all : ((length sent ≡ most) ⊎ IsSome last) ⊎ Met Write_waits xs

-- Requests are written, until a write fails or takes no bytes.
pub record WritesCut {S : Type 0} (answers : Told S) (most node now : ℕ) (x : Exchange) (w : Wired S) (y : Exchange) (v : Wired S) : Type 0 where
  pub sent : List Outgoing
  pub xs : List Answer
  pub few : length sent ≤ most
  pub talks : Talks answers x w sent [] (requests node now sent) xs y v
  pub failed : Met Write_failed xs ⊎ Met (Went []) xs

-- Requests are written, until memory is refused.
pub record WritesUntil {S : Type 0} (answers : Told S) (most node now : ℕ) (x : Exchange) (w : Wired S) (y : Exchange) (v : Wired S) : Type 0 where
  pub sent : List Outgoing
  pub last : Option (Result (Option Outgoing) CoreFault)
  pub xs : List Answer
  pub few : length sent + length (asks node now last) ≤ most
  pub lacking : ForSome last LacksMemory
  pub talks : Talks answers x w sent [] (requests node now sent ++ asks node now last) xs y v

-- whether the connection goes on
abbrev pub WritesAll : {S : Type 0} → Told S → (most node now : ℕ) → Exchange → Wired S → Result Bool AllocError → Exchange → Wired S → Type 0
WritesAll answers most node now x w (Ok true) y v = WritesOn answers most node now x w y v
WritesAll answers most node now x w (Ok false) y v = WritesCut answers most node now x w y v
WritesAll answers most node now x w (Err refused) y v = WritesUntil answers most node now x w y v

-- ---- replies at hand

-- These replies are heard, and after each the connection goes on.
pub record HearsOn {S : Type 0} (answers : Told S) (now : ℕ) (x : Exchange) (w : Wired S) (heard : List Heard) (xs : List Answer) (y : Exchange) (v : Wired S) : Type 0 where
  pub going : AllByRecursion (λ reply. GoesOn reply.answer) heard
  pub talks : Talks answers x w [] heard (map (hears now) heard) xs y v
  pub kept : v.kept ≡ w.kept

-- Replies are heard, behind them the last, if there is one.
pub record HearsLast {S : Type 0} (answers : Told S) (now : ℕ) (x : Exchange) (w : Wired S) (before last : List Heard) (y : Exchange) (v : Wired S) : Type 0 where
  pub going : AllByRecursion (λ reply. GoesOn reply.answer) before
  pub talks : Talks answers x w [] (before ++ last) (map (hears now) (before ++ last)) [] y v

abbrev pub HearsNext : {S : Type 0} → Told S → ℕ → Exchange → Wired S → Result Next AllocError → Exchange → Wired S → Type 0
HearsNext answers now x w (Ok next.None) y v = HearsOn answers now x w [] [] y v × ((stream v.held).frames ≡ [])
HearsNext answers now x w (Ok next.Heard) y v = (reply : Heard) × HearsOn answers now x w (reply ∷ []) [] y v
HearsNext answers now x w (Ok (next.Refused fault)) y v =
    (content : List ℕ) × HearsLast answers now x w [] (refused_with (Some (content, fault))) y v
HearsNext answers now x w (Err refused) y v =
    (lacking : Option (List ℕ)) × HearsLast answers now x w [] (lacking_memory lacking) y v

-- All replies at hand are heard, so many.
pub record HearsEach {S : Type 0} (answers : Told S) (now : ℕ) (x : Exchange) (w : Wired S) (count : ℕ) (y : Exchange) (v : Wired S) : Type 0 where
  pub heard : List Heard
  pub len : length heard ≡ count
  pub on : HearsOn answers now x w heard [] y v
  pub none_left : (stream v.held).frames ≡ []

-- Of at most so many replies at hand the last is refused, or there was no memory for it.
pub record HearsUntil {S : Type 0} (answers : Told S) (now most : ℕ) (x : Exchange) (w : Wired S) (last : List Heard) (y : Exchange) (v : Wired S) : Type 0 where
  pub before : List Heard
  pub few : length before < most
  pub hears_last : HearsLast answers now x w before last y v

abbrev pub HearsAtHand : {S : Type 0} → Told S → ℕ → ℕ → Exchange → Wired S → Result AtHand AllocError → Exchange → Wired S → Type 0
HearsAtHand answers now most x w (Ok (at_hand.All count)) y v = (count < most) × HearsEach answers now x w count y v
HearsAtHand answers now most x w (Ok at_hand.Enough) y v =
    (heard : List Heard) × (length heard ≡ most) × HearsOn answers now x w heard [] y v
HearsAtHand answers now most x w (Ok (at_hand.Refused fault)) y v =
    (content : List ℕ) × HearsUntil answers now most x w (refused_with (Some (content, fault))) y v
HearsAtHand answers now most x w (Err refused) y v =
    (lacking : Option (List ℕ)) × HearsUntil answers now most x w (lacking_memory lacking) y v

-- ---- replies, and reading

-- Replies are heard, and bytes read, until the reader waits and no reply is at hand, or there are enough.
pub record ListensOn {S : Type 0} (answers : Told S) (now most : ℕ) (x : Exchange) (w : Wired S) (y : Exchange) (v : Wired S) : Type 0 where
  pub heard : List Heard
  pub xs : List Answer
  pub few : length heard ≤ most
  pub on : HearsOn answers now x w heard xs y v
  pub sound : is_faulty v.held ≡ false
  pub enough : (length heard ≡ most) ⊎ (Met Read_waits xs × ((stream v.held).frames ≡ []))

-- Why no more was read or heard: a read failed or met the end; a reply was refused; or the size of no frame was read.
abbrev pub CutBy : List ℕ → List Answer → Option (List ℕ × FrameFault) → Cause → Type 0
CutBy held xs refused Io = (Met Read_failed xs ⊎ Met (Came []) xs) × (refused ≡ None)
CutBy held xs refused TimedOut = ⊥
CutBy held xs refused (BadReply fault) = ((content : List ℕ) × (refused ≡ Some (content, fault)))
    ⊎ ((fault ≡ TooLarge) × (is_faulty (held ++ came xs) ≡ true) × (refused ≡ None))

-- Each whole frame that was read was heard, or there were enough.
abbrev pub HeardAll : ℕ → List ℕ → List Answer → List Heard → Type 0
HeardAll most held xs heard = (length heard ≡ most) ⊎ ((stream (held ++ came xs)).frames ≡ contents_of heard)

-- Replies are heard, and bytes read, until the connection is of no use any more. Unless a reply was refused, all at hand
-- were heard before.
pub record ListensCut {S : Type 0} (answers : Told S) (now most : ℕ) (x : Exchange) (w : Wired S) (cause : Cause) (y : Exchange) (v : Wired S) : Type 0 where
  pub before : List Heard
  pub refused : Option (List ℕ × FrameFault)
  pub xs : List Answer
  pub few : length (before ++ refused_with refused) ≤ most
  pub going : AllByRecursion (λ reply. GoesOn reply.answer) before
  pub talks : TalksUntil answers x w [] (before ++ refused_with refused) (map (hears now) (before ++ refused_with refused)) xs y v
  pub cut : CutBy w.held xs refused cause
  pub all : refused ≡ None → HeardAll most w.held xs before

-- Replies are heard, and bytes read, until memory is refused.
pub record ListensUntil {S : Type 0} (answers : Told S) (now most : ℕ) (x : Exchange) (w : Wired S) (y : Exchange) (v : Wired S) : Type 0 where
  pub before : List Heard
  pub lacking : Option (List ℕ)
  pub xs : List Answer
  pub few : length (before ++ lacking_memory lacking) ≤ most
  pub going : AllByRecursion (λ reply. GoesOn reply.answer) before
  pub talks : TalksUntil answers x w [] (before ++ lacking_memory lacking) (map (hears now) (before ++ lacking_memory lacking)) xs y v

abbrev pub Listens : {S : Type 0} → Told S → ℕ → ℕ → Exchange → Wired S → Result (Option Cause) AllocError → Exchange → Wired S → Type 0
Listens answers now most x w (Ok None) y v = ListensOn answers now most x w y v
Listens answers now most x w (Ok (Some cause)) y v = ListensCut answers now most x w cause y v
Listens answers now most x w (Err refused) y v = ListensUntil answers now most x w y v

-- ---- one step of it

-- The more replies may still be heard, and the fewer bytes are held, of which there are always less than 2 ^ 65, the
-- more steps there can be.
abbrev pub steps_left : ℕ → List ℕ → ℕ
steps_left most held = most * 2 ^ 65 + (2 ^ 65 - length held)

-- Replies are heard, and behind them bytes read.
pub record ReadsOn {S : Type 0} (answers : Told S) (now most : ℕ) (x : Exchange) (w : Wired S) (left : ℕ) (y : Exchange) (v : Wired S) : Type 0 where
  pub heard : List Heard
  pub xs : List Answer
  pub count : length heard + left ≡ most
  pub some_left : 0 < left
  pub on : HearsOn answers now x w heard xs y v
  pub sound : is_faulty v.held ≡ false
  pub nearer : steps_left left v.held < steps_left most w.held

abbrev pub ListensOnce : {S : Type 0} → Told S → ℕ → ℕ → Exchange → Wired S → Result Listened AllocError → Exchange → Wired S → Type 0
ListensOnce answers now most x w (Ok (listened.More left)) y v = ReadsOn answers now most x w left y v
ListensOnce answers now most x w (Ok listened.Waits) y v = ListensOn answers now most x w y v
ListensOnce answers now most x w (Ok (listened.Cut cause)) y v = ListensCut answers now most x w cause y v
ListensOnce answers now most x w (Err refused) y v = ListensUntil answers now most x w y v
