-- A packet that goes out is one of the world that is seen.
use Rattle.std.proofs.Common.{◌≡◌, ◌≢◌, ℕ, Bool, List, [], ◌∷◌, ◌++◌, length, Some, None, Ok, Err, OnOk, ⊎_elim, refl, sym, ap, subst, ◌∙◌}
use Rattle.std.specs.Prelude.{Option, Result, drop, map, nat_abs}
use Rattle.kp_accum.specs.declared.config.Config.{Config}
use Rattle.std.specs.List.{AllByRecursion}
use Rattle.std.proofs.lemmas.List.{length-map}
use Rattle.kp_accum.specs.Queue.{body_of}
use Rattle.kp_batch.specs.Reading.{batch_at}
use Rattle.kp_batch.specs.Spelling as batch
use Rattle.kp_batch.specs.Spelling.{HasSpelling}
use Rattle.kp_batch.specs.declared.batch.Batch.{Batch}
use Rattle.kp_batch.specs.declared.fault.BatchFault.{BatchFault}
use Rattle.kp_batch.proofs.BatchLemmas.{batch_again}
use Rattle.kp_frames.specs.Request.{request_at}
use Rattle.kp_frames.specs.declared.fault.FrameFault.{FrameFault}
use Rattle.kp_frames.specs.declared.produce.TopicProduceData.{TopicProduceData}
use Rattle.kp_frames.specs.declared.request.Request.{Request as Message}
use Rattle.kp_frames.specs.declared.request.RequestBody.{RequestBody}
use Rattle.kp_frames.proofs.RequestLemmas.{request_only}
use Rattle.kp_log.proofs.PlaceLemmas.{In, In-cons, In-nil}
use Rattle.kp_frames.specs.Response as response
use Rattle.kp_rules.specs.Calls.{Request, Step, answered_as}
use Rattle.kp_rules.specs.Flush.{is_flushed}
use Rattle.kp_rules.specs.Framing.{FitBatches, FitsPacket, batch_of, body_for, content_of, data_of, frame_of, message_of}
use Rattle.kp_rules.specs.Next.{Sending}
use Rattle.kp_rules.specs.Records.{Core, Demand, Produce, InitProducerId}
use Rattle.kp_rules.specs.declared.names.Names.{Names}
use Rattle.kp_rules.specs.Requesting.{Packet, Requested, request_step}
use Rattle.kp_rules.specs.declared.fault.CoreFault.{CoreFault}
use Rattle.kp_rules.specs.declared.fault.CoreFault.TheVariants as fault
use Rattle.kp_rules.specs.declared.outgoing.Outgoing.{Outgoing}
use Rattle.kp_rules.proofs.CallLemmas.{at_request}
use Rattle.kp_rules.proofs.FetchedLemmas.{request_behind}
use Rattle.kp_rules.proofs.FittingLemmas.{request_fits}
use Rattle.kp_world.specs.Client.{client, sending, sent_line, with_packet}
use Rattle.kp_world.specs.Client as clients
use Rattle.kp_world.specs.Line.{Line}
use Rattle.kp_world.specs.Line as line
use Rattle.kp_world.specs.Noting.{noted}
use Rattle.kp_world.specs.Replay.{stepped}
use Rattle.kp_world.specs.World.{Reply, World, names}
use Rattle.kp_world.specs.declared.event.Event.TheVariants as event
use Rattle.kp_replay.specs.Bounds.{IsInBounds}
use Rattle.kp_replay.specs.Line.{sent_part}
use Rattle.kp_replay.specs.Packets.{AreParts, IsAsked, IsPart, Tells, fault_line}
use Rattle.kp_replay.specs.declared.line.SentPart.{SentPart}
use Rattle.kp_replay.specs.Shown.{Each, IsReplied, IsSent, LeadsOn, Seen, Shows, with_noted}
use Rattle.kp_replay.proofs.AcceptingLemmas.{each-length}
use Rattle.kp_replay.proofs.EachLemmas.{each-more}
use Rattle.kp_replay.proofs.HearingLemmas.{content-is}
use Rattle.kp_replay.proofs.OrderLemmas.{replayed-order}
use Rattle.kp_replay.proofs.ShownLemmas.{lead-on, same-answer, shows-noted, within}
use Rattle.kp_replay.proofs.TellingLemmas.{tells-request}

quiet : (node now : ℕ) (s : Core) → (request_step node now s).told ≡ []
quiet node now s = at_request (λ (x : Requested). x.told ≡ []) node now s (record { ended = refl; idle = refl; spent = refl; out = λ going d wanted left. refl })

-- replies that are seen fit
pub all-fit : (replies : List Reply) (seen : List (List ℕ)) → Each IsReplied replies seen → (r : Reply) → In r replies → response.FitsResponse r.response
all-fit [] [] all r i = absurd (In-nil r i)
all-fit [] (y ∷ ys) all r i = absurd all
all-fit (x ∷ xs) [] all r i = absurd all
all-fit (x ∷ xs) (y ∷ ys) all r i = ⊎_elim
    (λ (same : r ≡ x). subst (λ (z : Reply). response.FitsResponse z.response) (sym same) all.0.fits)
    (λ (rest : In r xs). all-fit xs ys all.1 r rest) (In-cons r x xs i)

-- ---- what the core answers

record GoesOut (s : Core) (r : Result (Option Packet) CoreFault) (o : Outgoing) : Type 0 where
  pub packet : Packet
  pub is : r ≡ Ok (Some packet)
  pub goes : (record { correlation = packet.correlation; bytes = frame_of s.config s.names packet }) ≡ o

goes-out : (s : Core) (r : Result (Option Packet) CoreFault) (o : Outgoing) → answered_as s r ≡ Ok (Some o) → GoesOut s r o
goes-out s (Ok (Some p)) o e = record { packet = p; is = refl; goes = cc }
goes-out s (Ok None) o e = absurd cc
goes-out s (Err f) o e = absurd cc

abbrev pub IsQuiet : Result (Option Outgoing) CoreFault → Type 0
IsQuiet (Ok (Some o)) = ⊥
IsQuiet x = Unit {0}

abbrev pub quiet_line : Result (Option Outgoing) CoreFault → Line
quiet_line (Err f) = fault_line f
quiet_line x = line.Idle

sending-quiet : (w : World) (core s : Core) (r : Result (Option Packet) CoreFault) (x : Result (Option Outgoing) CoreFault) → answered_as s r ≡ x → IsQuiet x → sending w core r ≡ noted core (quiet_line x ∷ []) [] w
sending-quiet w core s (Ok (Some p)) x e q = absurd (subst IsQuiet (sym e) q)
sending-quiet w core s (Ok None) x e q = ap (λ y. noted core (quiet_line y ∷ []) [] w) e
sending-quiet w core s (Err fault.Ended) x e q = ap (λ y. noted core (quiet_line y ∷ []) [] w) e
sending-quiet w core s (Err fault.OutOfMemory) x e q = ap (λ y. noted core (quiet_line y ∷ []) [] w) e
sending-quiet w core s (Err fault.CorrelationSpent) x e q = ap (λ y. noted core (quiet_line y ∷ []) [] w) e
sending-quiet w core s (Err (fault.ReplyFault f)) x e q = ap (λ y. noted core (quiet_line y ∷ []) [] w) e

-- ---- the event

same : (c : Config) (node : ℕ) (w : World) (a : Seen) → Shows c w a → (request_step node w.moment w.core).answer ≡ (request_step node a.moment a.core).answer
same c node w a sh =
    same-answer (request_step node w.moment) (λ r s. request_behind r node w.moment s) (tells-request node w.moment) w.core
    ∙ sym (λ i. (request_step node (sh.moment i) (sh.core i)).answer)

after-it : (c : Config) (node : ℕ) (w u : World) (a x : Seen) (ls : List Line) → u.core ≡ w.core → x.core ≡ a.core → w.moment ≡ a.moment → Shows c u x
    → Shows c (noted (request_step node w.moment w.core).after ls [] u) (with_noted ls (is_flushed a.core) (record x { core = (request_step node a.moment a.core).after }))
after-it c node w u a x ls core seen moment sh =
    let before = shows-noted (request_step node w.moment) (λ r s. request_behind r node w.moment s) (tells-request node w.moment) c u x sh ls in
    subst (λ told. Shows c (noted (request_step node w.moment w.core).after ls told u) (with_noted ls (is_flushed a.core) (record x { core = (request_step node a.moment a.core).after }))) (quiet node w.moment w.core)
    (subst (λ (s : Core). Shows c (noted (request_step node w.moment s).after ls (request_step node w.moment s).told u) (with_noted ls (is_flushed a.core) (record x { core = (request_step node a.moment a.core).after }))) core
    (subst (λ m. Shows c (noted (request_step node w.moment u.core).after ls (request_step node w.moment u.core).told u) (with_noted ls (is_flushed a.core) (record x { core = (request_step node m a.core).after }))) moment
    (subst (λ (s : Core). Shows c (noted (request_step node w.moment u.core).after ls (request_step node w.moment u.core).told u) (with_noted ls (is_flushed s) (record x { core = (request_step node w.moment s).after }))) seen before)))

pub quiet-leads : (node : ℕ) (a b : Seen) (x : Result (Option Outgoing) CoreFault) (t : Core) → IsQuiet x → answered_as a.core (request_step node a.moment a.core).answer ≡ x → t ≡ (request_step node a.moment a.core).after
    → b ≡ with_noted (quiet_line x ∷ []) (is_flushed a.core) (record a { core = t }) → LeadsOn (event.SendNode node) a b
unfolding stepped client
quiet-leads node a b x t q answered step is = λ c w replayed sh.
    let v : World = noted (request_step node w.moment w.core).after (quiet_line x ∷ []) [] w in (
      v,
      ap (λ u. Some u) (sending-quiet w (request_step node w.moment w.core).after a.core (request_step node w.moment w.core).answer x (ap (answered_as a.core) (same c node w a sh) ∙ answered) q),
      subst (Shows c v) (sym (is ∙ (λ i. with_noted (quiet_line x ∷ []) (is_flushed a.core) (record a { core = step i })))) (after-it c node w w a a (quiet_line x ∷ []) refl refl (sym sh.moment) sh),
    )

-- ---- a packet is read as what it is

one-request : (bytes : List ℕ) (a b : Message) → request_at bytes ≡ Ok a → request_at bytes ≡ Ok b → a ≡ b
one-request bytes a b e f = let same : ◌≡◌ {A = Result Message FrameFault} (Ok a) (Ok b) = sym e ∙ f in cc

by-read : (b : Batch) (x : Sending) → HasSpelling (batch_of x.batch) → batch_at (batch.spelling (batch_of x.batch)) ≡ Ok b → b ≡ batch_of x.batch
by-read b x fits read =
    let same : ◌≡◌ {A = Result Batch BatchFault} (Ok b) (Ok (batch_of x.batch)) = sym read ∙ batch_again (batch.spelling (batch_of x.batch)) (batch_of x.batch) (record { is_batch = fits; is_spelling = refl }) in cc

pub only-topic : (topic topic' : TopicProduceData) → topic ∷ [] ≡ topic' ∷ [] → topic'.partitions ≡ topic.partitions
only-topic topic topic' e = let same : topic ≡ topic' = cc in ap (λ (t : TopicProduceData). t.partitions) (sym same)

-- what is told of any packet of which these are the frame's bytes
abbrev pub TellsOf : List ℕ → ℕ → Line → Type 0
TellsOf bytes k l = (c : Config) (n : Names) (o : Packet) → FitsPacket c n o → bytes ≡ frame_of c n o → l ≡ sent_line k o.demand

parts-are : (xs : List Sending) (parts : List SentPart) → AllByRecursion (λ x. HasSpelling (batch_of x.batch)) xs → Each IsPart (map data_of xs) parts → map sent_part parts ≡ map clients.sent_part xs
parts-are [] [] fit each = refl
parts-are [] (y ∷ parts) fit each = absurd each
parts-are (x ∷ xs) [] fit each = absurd each
parts-are (x ∷ xs) (y ∷ parts) fit each = λ i. one i ∷ parts-are xs parts fit.1 each.1 i
  where
    one : sent_part y ≡ clients.sent_part x
    one =
        let is : each.0.batch ≡ batch_of x.batch = by-read each.0.batch x fit.0 each.0.read in
        λ i. record {
          partition = each.0.partition i;
          sequence = (each.0.sequence ∙ ap (λ (b : Batch). nat_abs b.head.base_sequence) is) i;
          count = (each.0.count ∙ ap (λ (b : Batch). length b.records) is ∙ length-map x.batch.items body_of) i;
        }

told-of : (k : ℕ) (l : Line) (c : Config) (n : Names) (d : Demand Sending) → FitBatches d → Tells k (body_for c n d) l → l ≡ sent_line k d
told-of k l c n (Produce xs) fit tells =
    let parts : AreParts _ tells.0 = tells.1 in
    let topic : parts.topic.partitions ≡ map data_of xs = only-topic _ parts.topic parts.one in
    tells.2 ∙ ap (line.SentBatches k) (parts-are xs tells.0 fit (subst (λ ds. Each IsPart ds tells.0) topic parts.each))
told-of k l c n (InitProducerId p) fit tells = tells

-- what was read of a packet's frame is what its message asks
pub asked-is : (bytes : List ℕ) (body : RequestBody) (c : Config) (n : Names) (o : Packet) → IsAsked bytes body → FitsPacket c n o → bytes ≡ frame_of c n o → body ≡ body_for c n o.demand
unfolding message_of
asked-is bytes body c n o asked fits is =
    let content : drop 4 bytes ≡ content_of c n o = ap (drop 4) is ∙ content-is (content_of c n o) in
    let same : asked.request ≡ message_of c n o = one-request (drop 4 bytes) asked.request (message_of c n o) asked.read (request_only (drop 4 bytes) (message_of c n o) (record { fits = fits.message; is_spelling = content })) in
    asked.is ∙ ap (λ (r : Message). r.body) same

pub tells-of : (bytes : List ℕ) (k : ℕ) (l : Line) → ((body : RequestBody) × IsAsked bytes body × Tells k body l) → TellsOf bytes k l
tells-of bytes k l said = λ c n o fits is.
    let body : said.0 ≡ body_for c n o.demand = asked-is bytes said.0 c n o said.1 fits is in
    told-of k l c n o.demand fits.batches (subst (λ b. Tells k b l) body said.2)

pub out-leads : (node : ℕ) (a b : Seen) (o : Outgoing) (t : Core) (l : Line) → TellsOf o.bytes (length a.packets) l → answered_as a.core (request_step node a.moment a.core).answer ≡ Ok (Some o) → t ≡ (request_step node a.moment a.core).after
    → b ≡ with_noted (l ∷ []) (is_flushed a.core) (record a { core = t; packets = a.packets ++ o ∷ [] }) → LeadsOn (event.SendNode node) a b
unfolding stepped client
out-leads node a b o t l tells answered step is = λ c w replayed sh.
    let out = goes-out a.core (request_step node a.moment a.core).answer o answered in
    let p : Packet = out.packet in
    let answer : (request_step node w.moment w.core).answer ≡ Ok (Some p) = same c node w a sh ∙ out.is in
    let fits : FitsPacket w.core.config w.core.names p = request_fits node w.moment w.core p (replayed-order c w replayed (all-fit w.replies a.replies sh.replies)) answer in
    let fits-it : FitsPacket c names p = subst (λ n. FitsPacket c n p) sh.called (subst (λ d. FitsPacket d w.core.names p) sh.config fits) in
    let bytes : o.bytes ≡ frame_of c names p =
    sym (ap (λ (x : Outgoing). x.bytes) out.goes) ∙ (λ i. frame_of (sh.core i).config (sh.core i).names p) ∙ (λ i. frame_of (sh.config i) (sh.called i) p) in
    let count : length w.packets ≡ length a.packets = each-length (IsSent c) w.packets a.packets sh.packets in
    let told : l ≡ sent_line (length w.packets) p.demand = tells c names p fits-it bytes ∙ ap (λ n. sent_line n p.demand) (sym count) in
    let x : Seen = record a { packets = a.packets ++ o ∷ [] } in
    let more : Shows c (with_packet p w) x = record {
      config = sh.config;
      called = sh.called;
      senders = sh.senders;
      core = sh.core;
      accepted = sh.accepted;
      taken = sh.taken;
      packets = each-more (IsSent c) w.packets a.packets p o (record { correlation = sym (ap (λ (x : Outgoing). x.correlation) out.goes); bytes = bytes; fits = fits-it }) sh.packets;
      replies = sh.replies;
      logs = sh.logs;
      drawn = sh.drawn;
      moment = sh.moment;
      is_shut = sh.is_shut;
      past = sh.past;
    } in
    let v : World = noted (request_step node w.moment w.core).after (sent_line (length w.packets) p.demand ∷ []) [] (with_packet p w) in (
      v,
      ap (λ r. Some (sending w (request_step node w.moment w.core).after r)) answer,
      subst (Shows c v) (sym (is ∙ (λ i. with_noted (told i ∷ []) (is_flushed a.core) (record x { core = step i }))))
          (after-it c node w (with_packet p w) a x (sent_line (length w.packets) p.demand ∷ []) refl refl (sym sh.moment) more),
    )

-- ---- what is left of the event

pub out-returns : {T E : Type 0} (r : Result T E) (node : ℕ) (a v b : Seen) (is : v ≡ a) (was : Bool) → was ≡ is_flushed v.core → (o : Outgoing) (t : Core) (l : Line) → TellsOf o.bytes (length v.packets) l → Step v.core (Request node v.moment (Ok (Some o))) t
    → (packets : List Outgoing) → packets ≡ v.packets ++ o ∷ [] → OnOk r (b ≡ with_noted (l ∷ []) was (record v { core = t; packets = packets })) → OnOk r (LeadsOn (event.SendNode node) a b)
out-returns r node a v b is was flushed o t l tells step packets pushed = lead-on (l ∷ []) was (event.SendNode node) a (record v { core = t; packets = packets }) b r (λ same.
    subst (λ a. LeadsOn (event.SendNode node) a b) is (out-leads node v b o t l tells step.0 step.1 (same ∙ (λ i. with_noted (l ∷ []) (flushed i) (record v { core = t; packets = pushed i })))))

pub quiet-returns : {T E : Type 0} (r : Result T E) (node : ℕ) (a v b : Seen) (is : v ≡ a) (was : Bool) → was ≡ is_flushed v.core → (x : Result (Option Outgoing) CoreFault) (t : Core) → IsQuiet x → answered_as v.core (request_step node v.moment v.core).answer ≡ x → t ≡ (request_step node v.moment v.core).after
    → OnOk r (b ≡ with_noted (quiet_line x ∷ []) was (record v { core = t })) → OnOk r (LeadsOn (event.SendNode node) a b)
quiet-returns r node a v b is was flushed x t q answered step = lead-on (quiet_line x ∷ []) was (event.SendNode node) a (record v { core = t }) b r (λ same.
    subst (λ a. LeadsOn (event.SendNode node) a b) is (quiet-leads node v b x t q answered step (same ∙ (λ i. with_noted (quiet_line x ∷ []) (flushed i) (record v { core = t })))))

-- whatever is answered, the bounds stay
pub request-within : {accepted taken logs moment : ℕ} (node now : ℕ) (x : Result (Option Outgoing) CoreFault) (s t : Core) → Step s (Request node now x) t → IsInBounds s accepted taken logs moment → IsInBounds t accepted taken logs moment
request-within node now (Ok x) s t step bounds = within s (request_step node now s) (tells-request node now s) t step.1 bounds
request-within {accepted = accepted} {taken = taken} {logs = logs} {moment = moment} node now (Err fault.OutOfMemory) s t step bounds = subst (λ (x : Core). IsInBounds x accepted taken logs moment) (sym step.1) bounds
request-within node now (Err fault.CorrelationSpent) s t step bounds = within s (request_step node now s) (tells-request node now s) t step.1 bounds
request-within node now (Err (fault.ReplyFault x)) s t step bounds = within s (request_step node now s) (tells-request node now s) t step.1 bounds
request-within node now (Err fault.Ended) s t step bounds = within s (request_step node now s) (tells-request node now s) t step.1 bounds

-- where memory is there, a fault is the call's
pub refused : (node now : ℕ) (f : CoreFault) (s t : Core) → f ≢ fault.OutOfMemory → Step s (Request node now (Err f)) t → (answered_as s (request_step node now s).answer ≡ Err f) × (t ≡ (request_step node now s).after)
refused node now fault.OutOfMemory s t memory step = absurd (memory refl)
refused node now fault.CorrelationSpent s t memory step = step
refused node now (fault.ReplyFault x) s t memory step = step
refused node now fault.Ended s t memory step = step
