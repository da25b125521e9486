-- A call puts what it tells of a sender's items behind the sender's reports, and keeps the configuration and the names.
use Rattle.std.proofs.Common.{◌≡◌, ℕ, ◌+◌, Bool, true, false, cond, Ok, Err, None, List, [], ◌∷◌, ◌++◌, length, map, refl, sym, ap, ◌∙◌, append-nil}
use Rattle.std.specs.Prelude.{nat_abs}
use Rattle.std.proofs.lemmas.List.{length-map, length-set}
use Rattle.std.specs.List.{enumerate_from}
use Rattle.kp_accum.specs.declared.fault.AppendFault.TheVariants.{BufferFull}
use Rattle.kp_accum.specs.declared.item.Item.{Item}
use Rattle.kp_frames.specs.declared.producer_id.InitProducerIdResponse.{InitProducerIdResponse}
use Rattle.kp_frames.specs.declared.response.Response.{Response}
use Rattle.kp_rules.specs.declared.fault.CoreFault.TheVariants as fault
use Rattle.kp_rules.specs.declared.outcome.Report.{Report}
use Rattle.kp_rules.specs.Appending.{Appends, append_step, enqueue, with_queued}
use Rattle.kp_rules.specs.Closing.{close_step, end_all, end_step}
use Rattle.kp_rules.specs.Dropping.{disconnect_step, drop_requests}
use Rattle.kp_rules.specs.Flush.{flush_step}
use Rattle.kp_rules.specs.HandingOver.{send_in}
use Rattle.kp_rules.specs.Leading.{led_by, lead_step}
use Rattle.kp_rules.specs.Next.{Sending}
use Rattle.kp_rules.specs.Partitions.{partition_at}
use Rattle.kp_rules.specs.Records.{Core, Called, Demand, Produce, InitProducerId, quietly}
use Rattle.kp_rules.specs.Replies.{Replies, go_on_under, known, reply_step, response_step, settle_id}
use Rattle.kp_rules.specs.Reports.{reports_to, with_reports}
use Rattle.kp_rules.specs.Requesting.{Requested, go_out, partitions_in, request_step, sent_out}
use Rattle.kp_rules.specs.Telling.{at_each, at_these, with_partitions}
use Rattle.kp_rules.specs.Tick.{Ticks, tick_partitions, tick_step, heed_deadlines, has_timed_out}
use Rattle.kp_rules.specs.declared.ticked.Ticked.{Ticked}
use Rattle.kp_rules.proofs.CallLemmas.{at_append, at_id, at_reply, at_request, at_response}
use Rattle.kp_rules.proofs.PartitionLemmas.{length-changed_at}

pub record Tells {A : Type 0} (s : Core) (called : Called A) : Type 0 where
  pub reports : called.after.reports ≡ with_reports called.told s.reports
  pub config : called.after.config ≡ s.config
  pub names : called.after.names ≡ s.names
  pub partitions : length called.after.partitions ≡ length s.partitions

none-from : (k : ℕ) (rs : List (List Report)) → map (λ (x : ℕ × List Report). x.1 ++ reports_to x.0 []) (enumerate_from k rs) ≡ rs
none-from k [] = refl
none-from k (r ∷ rs) = (λ i. append-nil r i ∷ none-from (k + 1) rs i)

with-none : (rs : List (List Report)) → with_reports [] rs ≡ rs
unfolding with_reports
with-none rs = none-from 0 rs

tells-if : {A : Type 0} (s : Core) (b : Bool) (x y : Called A) → Tells s x → Tells s y → Tells s (cond b x y)
tells-if s true x y h k = h
tells-if s false x y h k = k

-- a call that tells nothing
pub tells-nothing : {A : Type 0} (s : Core) (after : Core) (answer : A) → after.reports ≡ s.reports → after.config ≡ s.config → after.names ≡ s.names → length after.partitions ≡ length s.partitions → Tells s (quietly after answer)
tells-nothing s after answer reports config names partitions = record {
  reports = reports ∙ sym (with-none s.reports);
  config = config;
  names = names;
  partitions = partitions;
}

pub tells-quietly : {A : Type 0} (s : Core) (answer : A) → Tells s (quietly s answer)
tells-quietly s answer = tells-nothing s s answer refl refl refl refl

tells-ticks : (now : ℕ) (reconnect : Bool) (s d : Core) → d.reports ≡ s.reports → d.config ≡ s.config → d.names ≡ s.names → length d.partitions ≡ length s.partitions → Tells s (tick_partitions heed_deadlines now reconnect d)
unfolding at_each with_partitions
tells-ticks now reconnect s d reports config names partitions = record {
  reports = ap (with_reports (tick_partitions heed_deadlines now reconnect d).told) reports;
  config = config;
  names = names;
  partitions = length-map d.partitions _ ∙ partitions;
}

pub tells-tick : (node now : ℕ) (s : Core) → Tells s (tick_step node now s)
unfolding tick_step drop_requests
tells-tick node now s =
    let nothing : Ticked = record { reports = 0; reconnect = false } in
    let dropped : Ticks = tick_partitions heed_deadlines now true (drop_requests node now s) in
    let looked : Ticks = tick_partitions heed_deadlines now false s in
    tells-if s s.ended (quietly s nothing) (cond (has_timed_out node now s) dropped looked)
    (tells-quietly s nothing)
    (tells-if s (has_timed_out node now s) dropped looked (tells-ticks now true s (drop_requests node now s) refl refl refl (length-map s.partitions _)) (tells-ticks now false s s refl refl refl refl))

tells-all : (s : Core) → Tells s (end_all s)
unfolding at_each with_partitions
tells-all s = record { reports = refl; config = refl; names = refl; partitions = length-map s.partitions _ }

pub tells-end : (s : Core) → Tells s (end_step s)
unfolding end_step
tells-end s = tells-if s s.ended (quietly s 0) (end_all s) (tells-quietly s 0) (tells-all s)

pub quiet-if : (b : Bool) (s t : Core) → t.reports ≡ s.reports → t.config ≡ s.config → t.names ≡ s.names → length t.partitions ≡ length s.partitions → Tells s (quietly (cond b s t) (tt {0}))
quiet-if true s t reports config names partitions = tells-quietly s (tt {0})
quiet-if false s t reports config names partitions = tells-nothing s t (tt {0}) reports config names partitions

pub tells-disconnect : (node now : ℕ) (s : Core) → Tells s (quietly (disconnect_step node now s) (tt {0}))
unfolding disconnect_step drop_requests
tells-disconnect node now s = quiet-if s.ended s (drop_requests node now s) refl refl refl (length-map s.partitions _)

pub tells-lead : (p leader now : ℕ) (s : Core) → Tells s (quietly (lead_step p leader now s) (tt {0}))
unfolding lead_step
tells-lead p leader now s =
    tells-nothing s (lead_step p leader now s) (tt {0}) refl refl refl (length-set s.partitions p (led_by leader now (partition_at p s.partitions)))

pub tells-close : (s : Core) → Tells s (quietly (close_step s) (tt {0}))
unfolding close_step
tells-close s = quiet-if s.ended s (record s { closing = true }) refl refl refl refl

pub tells-flush : (s : Core) → Tells s (quietly (flush_step s) (tt {0}))
unfolding flush_step
tells-flush s = tells-nothing s (flush_step s) (tt {0}) refl refl refl (length-map s.partitions _)

-- ---- calls that answer in several ways

pub tells-append : (i : Item) (s : Core) → Tells s (append_step i s)
tells-append i s = at_append (λ (x : Appends). Tells s x) i s (record {
  outside = tells-quietly s (Err BufferFull);
  past_end = λ may ended. record { reports = refl; config = refl; names = refl; partitions = refl };
  by_fence = λ may going fenced. record { reports = refl; config = refl; names = refl; partitions = refl };
  full = tells-nothing s (record s { exhausted = true }) (Err BufferFull) refl refl refl refl;
  room = λ may going free room. tells-nothing s (with_queued i s) (Ok tt) refl refl refl (length-set s.partitions i.partition (enqueue s.config i (partition_at i.partition s.partitions)));
})

pub tells-request : (node now : ℕ) (s : Core) → Tells s (request_step node now s)
tells-request node now s = at_request (λ (x : Requested). Tells s x) node now s (record {
  ended = tells-quietly s (Err fault.Ended);
  idle = tells-quietly s (Ok None);
  spent = tells-quietly s (Err fault.CorrelationSpent);
  out = λ going d wanted left. out d;
})
  where
    out : (d : Demand Sending) → Tells s (go_out node now s d)
    out (Produce xs) = tells-nothing s (sent_out node now s (Produce xs)) _ refl refl refl (length-changed_at (partitions_in xs) (λ p t. send_in s.correlation t) s.partitions)
    out (InitProducerId p) = tells-nothing s (sent_out node now s (InitProducerId p)) _ refl refl refl refl

pub tells-response : (now : ℕ) (response : Response) (s : Core) → Tells s (response_step now response s)
unfolding at_these with_partitions
tells-response now response s = at_response (λ (x : Replies). Tells s x) now response s (record {
  same = λ answer. tells-quietly s answer;
  batches = λ r ps produce named demand body answers. record { reports = refl; config = refl; names = refl; partitions = length-changed_at ps _ s.partitions };
  id = λ r p x named demand body answers. settled p x;
})
  where
    Same : Core → Type 0
    Same t = (t.reports ≡ s.reports) × (t.config ≡ s.config) × (t.names ≡ s.names) × (length t.partitions ≡ length s.partitions)

    settled : (p : ℕ) (x : InitProducerIdResponse) → Tells s (known (quietly (settle_id now p x s) 0))
    settled p x =
        let same : Same (settle_id now p x s) = at_id Same now p x s (record {
          wanted = λ given. (refl, refl, refl, length-set s.partitions p (go_on_under (nat_abs x.producer_id) (partition_at p s.partitions)));
          unwanted = (refl, refl, refl, refl);
          refused = (refl, refl, refl, refl);
        }) in
        record { reports = same.0 ∙ sym (with-none s.reports); config = same.1; names = same.2; partitions = same.3 }

pub tells-reply : (now : ℕ) (content : List ℕ) (s : Core) → Tells s (reply_step now content s)
tells-reply now content s = at_reply (λ (x : Replies). Tells s x) now content s (λ answer. tells-quietly s answer) (λ a response read. tells-response now response s)
