-- A packet's bytes that come to the logs are the packet that comes to the loopback broker.
use Rattle.std.proofs.Common.{◌≡◌, ℕ, ◌+◌, Bool, true, List, [], ◌∷◌, ◌++◌, length, get_or, map, pos, negsuc, Some, OnOk, refl, sym, ap, subst, take, ◌∙◌, arith, length-append}
use Rattle.std.specs.Prelude.{ℤ, Result, slice_get}
use Rattle.std.specs.List.{AllByRecursion}
use Rattle.std.proofs.Math.Seq.{take-append_seam}
use Rattle.std.proofs.lemmas.Bool.{ltb-true}
use Rattle.kp_accum.specs.declared.config.Config.{Config}
use Rattle.kp_frames.specs.Response.{FitsResponse, spelling}
use Rattle.kp_frames.specs.Stream.{frame}
use Rattle.kp_frames.specs.declared.produce.TopicProduceData.{TopicProduceData}
use Rattle.kp_frames.specs.declared.request.RequestBody.{RequestBody}
use Rattle.kp_frames.specs.declared.response.Response.{Response}
use Rattle.kp_frames.specs.declared.response.ResponseBody.{ResponseBody}
use Rattle.kp_log.specs.KeptBatches.{IsHistoryOf}
use Rattle.kp_log.specs.Log.{Log}
use Rattle.kp_rules.specs.Flush.{is_flushed}
use Rattle.kp_rules.specs.Framing.{FitBatches, FitsPacket, body_for, data_of}
use Rattle.kp_rules.specs.Next.{Sending}
use Rattle.kp_rules.specs.Records.{Core, Demand, Produce, InitProducerId}
use Rattle.kp_rules.specs.Requesting.{Packet}
use Rattle.kp_rules.specs.declared.outgoing.Outgoing.{Outgoing}
use Rattle.kp_world.specs.Delivering.{Delivery}
use Rattle.kp_world.specs.Events.{events_of}
use Rattle.kp_world.specs.Line.{Line}
use Rattle.kp_world.specs.Line as line
use Rattle.kp_world.specs.Loopback.{answers_to, delivered, logs_with, next_id, with_id}
use Rattle.kp_world.specs.Message.{part_response, response_of}
use Rattle.kp_world.specs.Noting.{only_noted}
use Rattle.kp_world.specs.Replay.{arrived, stepped}
use Rattle.kp_world.specs.Run.{answer_line, reply_to, with_delivery}
use Rattle.kp_world.specs.Run as run
use Rattle.kp_world.specs.World.{FIRST_ID, Id, PartAnswer, World, names, scheduled}
use Rattle.kp_world.specs.declared.event.Event.TheVariants as event
use Rattle.kp_world.specs.declared.event.Treatment.{Treatment}
use Rattle.kp_world.specs.declared.event.Treatment.TheVariants.{Judged, Refused, Late}
use Rattle.kp_world.proofs.LawfulLemmas.{PartsIn}
use Rattle.kp_world.proofs.ListLemmas.{in_at}
use Rattle.kp_world.proofs.RunLemmas.{lawful_reached}
use Rattle.kp_replay.specs.Bounds.{IsInBounds}
use Rattle.kp_replay.specs.Packets.{IsAsked}
use Rattle.kp_replay.specs.Serving.{AreServed, IsIdServed, IsServed, Serves, batches_body, entries_after, entry_line, id_body, logs_after}
use Rattle.kp_replay.specs.Shown.{Each, IsReplayed, IsReplied, IsSent, LeadsOn, Seen, Shows, is_there, with_noted}
use Rattle.kp_replay.proofs.AcceptingLemmas.{each-length, only-lines}
use Rattle.kp_replay.proofs.EachLemmas.{each-more}
use Rattle.kp_replay.proofs.HearingLemmas.{IsAt, found-at}
use Rattle.kp_replay.proofs.ReachedLemmas.{reached, stored-whole}
use Rattle.kp_replay.proofs.SendLemmas.{asked-is, only-topic}
use Rattle.kp_replay.proofs.ServingLemmas.{AreTaken, IsPartOf, are-taken}
use Rattle.kp_replay.proofs.ShownLemmas.{lead-on}

-- what is answered, and the reply as a frame
record Answers (c : Config) (w : World) (p : Packet) (d : Delivery) (logs : List Log) (drawn : ℕ) (bytes : List ℕ) : Type 0 where
  pub tied : Each IsHistoryOf d.logs logs
  pub so_many : drawn ≡ length d.ids
  pub fits : FitsResponse (response_of p.correlation d.content)
  pub spelled : bytes ≡ frame.spell (spelling (response_of p.correlation d.content))

-- the parts of a packet that went out are for partitions that are there, and have spellings
parts-there : (c : Config) (w : World) → IsReplayed c w → (k : ℕ) (p : Packet) → slice_get w.packets k ≡ Some p → FitsPacket c names p → (xs : List Sending) → p.demand ≡ Produce xs → AllByRecursion (IsPartOf (length w.logs)) xs
parts-there c w r k p there fits xs is =
    let lawful = lawful_reached (scheduled c r.partitions r.senders) (events_of 0 r.events) w (reached c w r) in
    let parts : PartsIn r.partitions w.handed (Produce xs) = subst (PartsIn r.partitions w.handed) is (lawful.went p (in_at w.packets k p there)).parts in
    let batches : FitBatches (Produce xs) = subst FitBatches is fits.batches in
    both xs parts batches lawful.logs_count
  where
    both : (xs : List Sending) → PartsIn r.partitions w.handed (Produce xs) → FitBatches (Produce xs) → length w.logs ≡ r.partitions → AllByRecursion (IsPartOf (length w.logs)) xs
    both [] parts batches count = tt
    both (x ∷ xs) parts batches count = ((let within = parts.0.0 in omega (arith, within, count), batches.0), both xs parts.1 batches.1 count)

told-parts : (answers : List PartAnswer) → map entry_line (map part_response answers) ≡ map run.answer_part answers
told-parts [] = refl
told-parts (y ∷ answers) = ap (λ rest. run.answer_part y ∷ rest) (told-parts answers)

response : ℕ → ResponseBody → Response
response n body = record { correlation = pos n; body = body }

module _ (k : ℕ) (how : Treatment) (a : Seen) (o : Outgoing) (there : is_there (event.Deliver k how) a ≡ true) (at : o ≡ get_or a.packets k o) where
  sent : (c : Config) (w : World) → Shows c w a → IsAt (IsSent c) w.packets a.packets k o
  sent c w sh = found-at (IsSent c) w.packets a.packets k o o (ltb-true k (length a.packets) there) at sh.packets

  module _ (logs : List Log) (drawn : ℕ) (body : ResponseBody) (bytes : List ℕ) (l : Line)
      (fits : FitsResponse (response o.correlation body)) (spelled : bytes ≡ frame.spell (spelling (response o.correlation body)))
      (c : Config) (w : World) (replayed : IsReplayed c w) (sh : Shows c w a) where
    x : IsAt (IsSent c) w.packets a.packets k o
    x = sent c w sh

    p : Packet
    p = x.x

    count : length a.replies ≡ length w.replies
    count = sym (each-length IsReplied w.replies a.replies sh.replies)

    IsSo : Delivery → Type 0
    IsSo d = Answers c w p d logs drawn bytes × (l ≡ answer_line (length w.replies) d.content)

    batches : (xs : List Sending) → p.demand ≡ Produce xs → (topics : List TopicProduceData) → topics ≡ (record { topic = names.topic; partitions = map data_of xs }) ∷ []
        → AreServed how (length a.replies) a.logs topics logs body l → drawn ≡ a.drawn → IsSo (delivered how w (Produce xs))
    unfolding IsSo delivered response p x
    batches xs is topics are served same-drawn =
        let its : served.topic.partitions ≡ map data_of xs = only-topic (record { topic = names.topic; partitions = map data_of xs }) served.topic (sym are ∙ served.one) in
        let made : AreTaken how w.logs a.logs xs = are-taken how w.logs a.logs xs sh.logs (λ q inside. stored-whole c w replayed q inside) (parts-there c w replayed k p x.there x.for_it.fits xs is) in
        let same : entries_after how a.logs served.topic.partitions ≡ map part_response (answers_to how w.logs xs) = ap (entries_after how a.logs) its ∙ made.entries in
        let full : body ≡ batches_body (map part_response (answers_to how w.logs xs)) = served.body ∙ ap batches_body same in
        let named : o.correlation ≡ p.correlation = x.for_it.correlation in (
          record {
            tied = subst (Each IsHistoryOf (logs_with how w.logs xs)) (sym (served.logs ∙ ap (logs_after how a.logs) its)) made.logs;
            so_many = same-drawn ∙ sh.drawn;
            fits = subst FitsResponse (λ i. record { correlation = pos (named i); body = full i }) fits;
            spelled = spelled ∙ (λ i. frame.spell (spelling (record { correlation = pos (named i); body = full i })));
          },
          served.told ∙ (λ i. line.AnswerBatches (count i) ((ap (map entry_line) same ∙ told-parts (answers_to how w.logs xs)) i)),
        )

    an-id : (ids : List ℕ) (code id : ℤ) → drawn ≡ length ids → body ≡ id_body code id → l ≡ line.AnswerInit (length a.replies) code id → logs ≡ a.logs → IsSo (record { logs = w.logs; ids = ids; content = Id code id })
    unfolding IsSo response p x
    an-id ids code id so-many full told same-logs =
        let named : o.correlation ≡ p.correlation = x.for_it.correlation in (
          record {
            tied = subst (Each IsHistoryOf w.logs) (sym same-logs) sh.logs;
            so_many = so-many;
            fits = subst FitsResponse (λ i. record { correlation = pos (named i); body = full i }) fits;
            spelled = spelled ∙ (λ i. frame.spell (spelling (record { correlation = pos (named i); body = full i })));
          },
          told ∙ (λ i. line.AnswerInit (count i) code id),
        )

    one-drawn : (n : ℕ) → n ≡ a.drawn + 1 → n ≡ length (with_id w.ids)
    one-drawn n is = let more : a.drawn ≡ length w.ids = sh.drawn in omega (arith, is, more, length-append w.ids (next_id w.ids ∷ []))

    ids : (t : Treatment) (q : ℕ) → t ≡ how → IsIdServed t (length a.replies) a.drawn drawn body l → logs ≡ a.logs → IsSo (delivered t w (InitProducerId q))
    unfolding delivered
    ids Judged q is served same-logs =
        let fresh : FIRST_ID + a.drawn ≡ next_id w.ids = ap (λ n. FIRST_ID + n) sh.drawn in
        an-id (with_id w.ids) (pos 0) (pos (next_id w.ids)) (one-drawn drawn served.drawn) (served.body ∙ ap (λ n. id_body (pos 0) (pos n)) fresh)
        (served.told ∙ ap (λ n. line.AnswerInit (length a.replies) (pos 0) (pos n)) fresh) same-logs
    ids (Refused code) q is served same-logs = an-id w.ids code (negsuc 0) (served.drawn ∙ sh.drawn) served.body served.told same-logs
    ids (Late code) q is served same-logs = an-id (with_id w.ids) code (negsuc 0) (one-drawn drawn served.drawn) served.body served.told same-logs

    answered : (request : RequestBody) → IsAsked o.bytes request → IsServed how (length a.replies) a.logs a.drawn request logs drawn body l → IsSo (delivered how w p.demand)
    unfolding p x
    answered request said served = at-demand p.demand refl
      where
        asks : request ≡ body_for c names p.demand
        asks = asked-is o.bytes request c names p said x.for_it.fits x.for_it.bytes

        at-demand : (d : Demand Sending) → p.demand ≡ d → IsSo (delivered how w d)
        at-demand (Produce xs) is =
            let so = subst (λ r. IsServed how (length a.replies) a.logs a.drawn r logs drawn body l) (asks ∙ ap (body_for c names) is) served in
            batches xs is ((record { topic = names.topic; partitions = map data_of xs }) ∷ []) refl so.0 so.1
        at-demand (InitProducerId q) is =
            let so = subst (λ r. IsServed how (length a.replies) a.logs a.drawn r logs drawn body l) (asks ∙ ap (body_for c names) is) served in
            ids how q refl so.0 so.1

  pub deliver-leads : (b : Seen) (logs : List Log) (drawn : ℕ) (bytes : List ℕ) (l : Line) → Serves how (length a.replies) a.logs a.drawn o logs drawn bytes l
      → b ≡ with_noted (l ∷ []) (is_flushed a.core) (record a { logs = logs; drawn = drawn; replies = a.replies ++ bytes ∷ [] }) → LeadsOn (event.Deliver k how) a b
  unfolding stepped with_delivery response IsSo sent p x
  deliver-leads b logs drawn bytes l serves is = λ c w replayed sh.
      let y = sent c w sh in
      let q : Packet = y.x in
      let d : Delivery = delivered how w q.demand in
      let so = answered logs drawn serves.answer bytes l serves.fits serves.spelled c w replayed sh serves.request serves.asked serves.served in
      let v : World = record w { logs = d.logs; ids = d.ids; replies = w.replies ++ reply_to q d (response_of q.correlation d.content) ∷ [] } in
      let z : Seen = record a { logs = logs; drawn = drawn; replies = a.replies ++ bytes ∷ [] } in
      let shown : Shows c v z = record {
        config = sh.config;
        called = sh.called;
        senders = sh.senders;
        core = sh.core;
        accepted = sh.accepted;
        taken = sh.taken;
        packets = sh.packets;
        replies = each-more IsReplied w.replies a.replies (reply_to q d (response_of q.correlation d.content)) bytes (record { fits = so.0.fits; bytes = so.0.spelled }) sh.replies;
        logs = so.0.tied;
        drawn = so.0.so_many;
        moment = sh.moment;
        is_shut = sh.is_shut;
        past = sh.past;
      } in
      let u : World = only_noted (answer_line (length w.replies) d.content ∷ []) v in (
        u,
        ap (λ found. arrived k how found w) y.there,
        subst (Shows c u) (sym (is ∙ (λ i. with_noted (so.1 i ∷ []) (is_flushed a.core) z))) (only-lines c v z shown (answer_line (length w.replies) d.content ∷ [])),
      )

-- what is written over all of a list
pub all-written : {A : Type 0} (n : ℕ) (xs ys : List A) → length xs ≡ n → take n (xs ++ ys) ≡ xs
all-written n xs ys full = ap (λ m. take m (xs ++ ys)) (sym full) ∙ take-append_seam xs ys

pub written-within : {s : Core} {accepted taken moment : ℕ} (n : ℕ) (xs ys old : List Log) → length xs ≡ n → length xs ≡ length old → IsInBounds s accepted taken (length old) moment → IsInBounds s accepted taken (length (take n (xs ++ ys))) moment
written-within {s = s} {accepted = accepted} {taken = taken} {moment = moment} n xs ys old full same bounds =
    subst (λ history. IsInBounds s accepted taken history moment) (sym (ap length (all-written n xs ys full) ∙ same)) bounds

pub deliver-returns : {T E : Type 0} (r : Result T E) (k : ℕ) (how : Treatment) (a v b : Seen) (is : v ≡ a) (o : Outgoing) → is_there (event.Deliver k how) a ≡ true → o ≡ get_or v.packets k o → (was : Bool) → was ≡ is_flushed v.core
    → (logs : List Log) (drawn : ℕ) (bytes : List ℕ) (l : Line) → Serves how (length v.replies) v.logs v.drawn o logs drawn bytes l
    → (after : List Log) → after ≡ logs → (replies : List (List ℕ)) → replies ≡ v.replies ++ bytes ∷ [] → OnOk r (b ≡ with_noted (l ∷ []) was (record v { logs = after; drawn = drawn; replies = replies })) → OnOk r (LeadsOn (event.Deliver k how) a b)
deliver-returns r k how a v b is o there at was flushed logs drawn bytes l serves after written replies pushed =
    lead-on (l ∷ []) was (event.Deliver k how) a (record v { logs = after; drawn = drawn; replies = replies }) b r (λ same.
    subst (λ a. LeadsOn (event.Deliver k how) a b) is
    (deliver-leads k how v o (ap (λ x. is_there (event.Deliver k how) x) is ∙ there) at b logs drawn bytes l serves
    (same ∙ (λ i. with_noted (l ∷ []) (flushed i) (record v { logs = written i; drawn = drawn; replies = pushed i })))))
