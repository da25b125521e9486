-- What holds of the world after each kind of event holds after any step.
use Rattle.std.proofs.Common.{◌≡◌, ℕ, ◌<◌, Bool, true, false, List, [], ◌∷◌, ◌++◌, length, Some, None, refl, sym, subst}
use Rattle.std.specs.Prelude.{Result, Ok, Err, Option, if◌then◌else◌, ◌&&◌, slice_get}
use Rattle.std.proofs.lemmas.Bool.{and_parts, ltb-true}
use Rattle.kp_batch.specs.declared.record.Record.{Record}
use Rattle.kp_accum.specs.declared.fault.AppendFault.{AppendFault}
use Rattle.kp_accum.specs.declared.item.Item.{Item}
use Rattle.kp_frames.specs.declared.response.Response.{Response}
use Rattle.kp_log.specs.declared.stored.Stored.{Stored}
use Rattle.kp_rules.specs.Leading.{lead_step}
use Rattle.kp_rules.specs.Flush.{flush_step}
use Rattle.kp_rules.specs.Replies.{response_step}
use Rattle.kp_rules.specs.Requesting.{request_step}
use Rattle.kp_rules.specs.declared.fault.CoreFault.{CoreFault}
use Rattle.kp_rules.specs.declared.fault.CoreFault.TheVariants as fault
use Rattle.kp_rules.specs.Appending.{append_step}
use Rattle.kp_rules.specs.Dropping.{disconnect_step}
use Rattle.kp_rules.specs.Records.{Core}
use Rattle.kp_rules.specs.Requesting.{Packet}
use Rattle.kp_world.specs.Events.{WorldEvent}
use Rattle.kp_world.specs.Events as event
use Rattle.kp_world.specs.Accepting.{with_taken, taking_of, accepted_by, taken_by, item_for, is_large, with_accepted, accepting, taking}
use Rattle.kp_world.specs.Client.{with_packet, sent_line, sending, reply_line, flush_line, has_sender, has_partition, only_if, replying, ticking, ending, closing, client}
use Rattle.kp_world.specs.Delivering.{Delivery, Delivers, AreOthers, logs_with_others}
use Rattle.kp_world.specs.Line.{Line, Closed, Large, Empty, Full, Idle, Ended}
use Rattle.kp_world.specs.Message.{Answers}
use Rattle.kp_world.specs.Noting.{noted, only_noted}
use Rattle.kp_world.specs.Run.{with_delivery, with_others_at, Steps, Run}
use Rattle.kp_world.specs.World.{Reply, World}

-- ---- sending and taking

pub at_sent : (P : World → Type 0) (w : World) (core : Core) (answer : Result (Option Packet) CoreFault) → ((line : Line) → P (noted core (line ∷ []) [] w))
    → ((o : Packet) (line : Line) → P (noted core (line ∷ []) [] (with_packet o w))) → P (sending w core answer)
at_sent P w core (Ok (Some o)) none out = out o (sent_line (length w.packets) o.demand)
at_sent P w core (Ok None) none out = none Idle
at_sent P w core (Err fault.Ended) none out = none Ended
at_sent P w core (Err fault.OutOfMemory) none out = none Idle
at_sent P w core (Err fault.CorrelationSpent) none out = none Idle
at_sent P w core (Err (fault.ReplyFault x)) none out = none Idle

pub at_taken : (P : World → Type 0) (s : ℕ) (i : Item) (w : World) → (let step = append_step i w.core in P (noted step.after [] step.told (with_taken s w)))
    → (let step = append_step i w.core in P (noted step.after (Full s ∷ []) step.told w)) → P (taking s (Some i) w)
at_taken P s i w joined full = at_answer (append_step i w.core).answer
  where
    at_answer : (x : Result (Unit {0}) AppendFault) → P (taking_of s (append_step i w.core).after (append_step i w.core).told x w)
    at_answer (Ok done) = joined
    at_answer (Err refusal) = full

-- ---- the producer's events

pub record OfEvent (P : WorldEvent → World → Type 0) (w : World) : Type 0 where
  pub not_accepted : (s p at : ℕ) (body : Record) → P (event.Accept s p at body) (only_noted (Closed s p ∷ []) w) × P (event.Accept s p at body) (only_noted (Large s p ∷ []) w)
  pub accepted : (s p at : ℕ) (body : Record) → s < length w.accepted → p < length w.logs → w.is_shut ≡ false
      → is_large (item_for s p at body w) w ≡ false → P (event.Accept s p at body) (only_noted [] (with_accepted (item_for s p at body w) w))
  pub none_taken : (s : ℕ) → slice_get (accepted_by s w) (taken_by s w) ≡ None → P (event.Take s) (only_noted (Empty s ∷ []) w)
  pub taken : (s : ℕ) (i : Item) → s < length w.accepted → slice_get (accepted_by s w) (taken_by s w) ≡ Some i → P (event.Take s) (taking s (Some i) w)
  pub now : (moment : ℕ) → P (event.Now moment) (only_noted [] (record w { moment = moment }))
  pub tick : (node : ℕ) → P (event.Tick node) (ticking node w)
  pub send : (node : ℕ) → let step = request_step node w.moment w.core in P (event.Send node) (sending w step.after step.answer)
  pub reply : (j : ℕ) (r : Reply) → slice_get w.replies j ≡ Some r
      → let step = response_step w.moment r.response w.core in P (event.Reply j) (noted step.after (reply_line j step.answer) step.told w)
  pub lost : (node : ℕ) → P (event.Drop node) (noted (disconnect_step node w.moment w.core) [] [] w)
  pub led : (p node : ℕ) → P (event.Lead p node) (noted (lead_step p node w.moment w.core) [] [] w)
  pub close : P event.Close (closing w)
  pub end : P event.End (ending w)
  pub flush : P event.Flush (noted (flush_step w.core) (flush_line w.core ∷ []) [] w)

at_some : (P : World → Type 0) (x v : World) → Some x ≡ Some v → P x → P v
at_some P x v e h = let same : x ≡ v = cc in subst P same h

pub at_only_if : (P : World → Type 0) (b : Bool) (x v : World) → only_if b x ≡ Some v → (b ≡ true → P x) → P v
at_only_if P true x v e h = at_some P x v e (h refl)
at_only_if P false x v e h = absurd cc

pub at_client : (P : WorldEvent → World → Type 0) (w : World) → OfEvent P w → (e : WorldEvent) (v : World) → client e w ≡ Some v → P e v
unfolding client
at_client P w c (event.Accept s p at body) v e =
    at_only_if (P (event.Accept s p at body)) (has_sender s w && has_partition p w) (accepting i w) v e (λ is. at_shut (and_parts (has_sender s w) (has_partition p w) is) w.is_shut refl)
  where
    i : Item
    i = item_for s p at body w

    at_large : (has_sender s w ≡ true) × (has_partition p w ≡ true) → w.is_shut ≡ false → (b : Bool) → is_large i w ≡ b
        → P (event.Accept s p at body) (if b then only_noted (Large s p ∷ []) w else only_noted [] (with_accepted i w))
    at_large there is true l = (c.not_accepted s p at body).1
    at_large there is false l = c.accepted s p at body (ltb-true s (length w.accepted) there.0) (ltb-true p (length w.logs) there.1) is l

    at_shut : (has_sender s w ≡ true) × (has_partition p w ≡ true) → (b : Bool) → w.is_shut ≡ b
        → P (event.Accept s p at body) (if b then only_noted (Closed s p ∷ []) w else if is_large i w then only_noted (Large s p ∷ []) w else only_noted [] (with_accepted i w))
    at_shut there true is = (c.not_accepted s p at body).0
    at_shut there false is = at_large there is (is_large i w) refl
at_client P w c (event.Take s) v e =
    at_only_if (P (event.Take s)) (has_sender s w) (taking s (slice_get (accepted_by s w) (taken_by s w)) w) v e (λ is. at_item (slice_get (accepted_by s w) (taken_by s w)) refl (ltb-true s (length w.accepted) is))
  where
    at_item : (o : Option Item) → slice_get (accepted_by s w) (taken_by s w) ≡ o → s < length w.accepted → P (event.Take s) (taking s o w)
    at_item None is l = c.none_taken s is
    at_item (Some i) is l = c.taken s i l is
at_client P w c (event.Now moment) v e = at_some (P (event.Now moment)) _ v e (c.now moment)
at_client P w c (event.Tick node) v e = at_some (P (event.Tick node)) _ v e (c.tick node)
at_client P w c (event.Send node) v e = at_some (P (event.Send node)) _ v e (c.send node)
at_client P w c (event.Reply j) v e = at_reply (slice_get w.replies j) refl e
  where
    at_reply : (o : Option Reply) → slice_get w.replies j ≡ o → replying j o w ≡ Some v → P (event.Reply j) v
    at_reply None is e' = absurd cc
    at_reply (Some r) is e' = at_some (P (event.Reply j)) _ v e' (c.reply j r is)
at_client P w c (event.Drop node) v e = at_some (P (event.Drop node)) _ v e (c.lost node)
at_client P w c (event.Lead p node) v e = at_some (P (event.Lead p node)) _ v e (c.led p node)
at_client P w c event.Close v e = at_some (P event.Close) _ v e c.close
at_client P w c event.End v e = at_some (P event.End) _ v e c.end
at_client P w c event.Flush v e = at_some (P event.Flush) _ v e c.flush
at_client P w c (event.Deliver k) v e = absurd cc
at_client P w c (event.Other p n) v e = absurd cc

-- ---- any event

pub record OfStep (P : WorldEvent → World → Type 0) (w : World) : Type 0 where
  pub client : OfEvent P w
  pub arrives : (k : ℕ) (o : Packet) (d : Delivery) (x : Response) → slice_get w.packets k ≡ Some o → Delivers w o.demand d → Answers o.correlation d.content x → P (event.Deliver k) (with_delivery o d x w)
  pub others : (p : ℕ) (records : List Stored) → AreOthers w.ids records → p < length w.logs → P (event.Other p records) (only_noted [] (record w { logs = logs_with_others p records w.logs }))

pub at_step : (P : WorldEvent → World → Type 0) (w : World) → OfStep P w → (e : WorldEvent) (v : World) → Steps w e v → P e v
unfolding Steps with_others_at
at_step P w c (event.Deliver k) v a = subst (P (event.Deliver k)) (sym a.after_is) (c.arrives k a.packet a.delivery a.response a.went_out a.honest a.answers)
at_step P w c (event.Other p records) v e = at_only_if (P (event.Other p records)) (has_partition p w) _ v e.1 (λ is. c.others p records e.0 (ltb-true p (length w.logs) is))
at_step P w c (event.Accept s p at body) v e = at_client P w c.client (event.Accept s p at body) v e
at_step P w c (event.Take s) v e = at_client P w c.client (event.Take s) v e
at_step P w c (event.Now moment) v e = at_client P w c.client (event.Now moment) v e
at_step P w c (event.Tick node) v e = at_client P w c.client (event.Tick node) v e
at_step P w c (event.Send node) v e = at_client P w c.client (event.Send node) v e
at_step P w c (event.Reply j) v e = at_client P w c.client (event.Reply j) v e
at_step P w c (event.Drop node) v e = at_client P w c.client (event.Drop node) v e
at_step P w c (event.Lead p node) v e = at_client P w c.client (event.Lead p node) v e
at_step P w c event.Close v e = at_client P w c.client event.Close v e
at_step P w c event.End v e = at_client P w c.client event.End v e
at_step P w c event.Flush v e = at_client P w c.client event.Flush v e

-- ---- a run

pub run_one : (w : World) (e : WorldEvent) (v : World) → Steps w e v → Run w (e ∷ []) v
unfolding Run
run_one w e v s = (v, s, refl)

pub run_append : (es fs : List WorldEvent) (u v w : World) → Run u es v → Run v fs w → Run u (es ++ fs) w
unfolding Run
run_append [] fs u v w r s = subst (λ (x : World). Run x fs w) r s
run_append (e ∷ es) fs u v w r s = (r.0, r.1, run_append es fs r.0 v w r.2 s)

pub at_run : (P : World → Type 0) → ((w : World) → P w → (e : WorldEvent) (v : World) → Steps w e v → P v)
    → (es : List WorldEvent) (w v : World) → Run w es v → P w → P v
unfolding Run
at_run P keeps [] w v r h = subst P (sym r) h
at_run P keeps (e ∷ es) w v r h = at_run P keeps es r.0 v r.2 (keeps w h e r.0 r.1)
