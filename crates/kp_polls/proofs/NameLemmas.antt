-- No call changes a core's configuration or its names.
use Rattle.std.proofs.Common.{◌≡◌, ℕ, List, refl, subst, sym}
use Rattle.std.specs.Prelude.{Ok, Err}
use Rattle.kp_accum.specs.declared.fault.AppendFault.TheVariants as append
use Rattle.kp_accum.specs.declared.item.Item.{Item}
use Rattle.kp_frames.specs.declared.producer_id.InitProducerIdResponse.{InitProducerIdResponse}
use Rattle.kp_rules.specs.declared.fault.CoreFault.TheVariants as fault
use Rattle.kp_rules.specs.Appending.{Appends, append_step}
use Rattle.kp_rules.specs.Calls.{Call, Step}
use Rattle.kp_rules.specs.Calls as call
use Rattle.kp_rules.specs.Closing.{close_step, end_step}
use Rattle.kp_rules.specs.Dropping.{drop_requests, disconnect_step}
use Rattle.kp_rules.specs.Flush.{flush_step}
use Rattle.kp_rules.specs.Next.{Sending}
use Rattle.kp_rules.specs.Records.{Demand, Produce, InitProducerId, Core, Called}
use Rattle.kp_rules.specs.Replies.{Replies, settle_id, reply_step}
use Rattle.kp_rules.specs.Reports.{fetch_step}
use Rattle.kp_rules.specs.Leading.{lead_step}
use Rattle.kp_rules.specs.Requesting.{Requested, go_out, request_step}
use Rattle.kp_rules.specs.Telling.{with_partitions, at_each, at_these}
use Rattle.kp_rules.specs.Tick.{Ticks, tick_step}
use Rattle.kp_rules.proofs.CallLemmas.{at_append, at_request, at_response, at_id, at_reply, at_tick, at_end_step, at_disconnect, at_close}

-- the core has the configuration and the names as before
pub record SameNames (s t : Core) : Type 0 where
  pub config : t.config ≡ s.config
  pub names : t.names ≡ s.names

pub stays : (s : Core) → SameNames s s
stays s = record { config = refl; names = refl }

appends : (i : Item) (s : Core) → SameNames s (append_step i s).after
appends i s = at_append (λ (x : Appends). SameNames s x.after) i s (record {
  outside = stays s;
  past_end = λ m e. record { config = refl; names = refl };
  by_fence = λ m e f. record { config = refl; names = refl };
  full = record { config = refl; names = refl };
  room = λ m e f r. record { config = refl; names = refl };
})

goes_out : (node now : ℕ) (s : Core) (d : Demand Sending) → SameNames s (go_out node now s d).after
goes_out node now s (Produce xs) = record { config = refl; names = refl }
goes_out node now s (InitProducerId p) = record { config = refl; names = refl }

asks : (node now : ℕ) (s : Core) → SameNames s (request_step node now s).after
asks node now s = at_request (λ (x : Requested). SameNames s x.after) node now s (record {
  ended = stays s;
  idle = stays s;
  spent = stays s;
  out = λ e d is spent. goes_out node now s d;
})

settled_id : (now p : ℕ) (x : InitProducerIdResponse) (s : Core) → SameNames s (settle_id now p x s)
settled_id now p x s = at_id (λ (t : Core). SameNames s t) now p x s (record {
  wanted = λ given. record { config = refl; names = refl };
  unwanted = record { config = refl; names = refl };
  refused = record { config = refl; names = refl };
})

hears : (now : ℕ) (content : List ℕ) (s : Core) → SameNames s (reply_step now content s).after
unfolding at_these with_partitions
hears now content s = at_reply (λ (x : Replies). SameNames s x.after) now content s (λ answer. stays s)
    (λ api response is. at_response (λ (x : Replies). SameNames s x.after) now response s (record {
      same = λ answer. stays s;
      batches = λ r ps produce named demand body fits. record { config = refl; names = refl };
      id = λ r p x named demand body fits. settled_id now p x s;
    }))

ticks : (node now : ℕ) (s : Core) → SameNames s (tick_step node now s).after
unfolding drop_requests at_each with_partitions
ticks node now s = at_tick (λ (x : Ticks). SameNames s x.after) node now s (record {
  ended = stays s;
  timed_out = record { config = refl; names = refl };
  on_time = record { config = refl; names = refl };
})

ends : (s : Core) → SameNames s (end_step s).after
unfolding at_each with_partitions
ends s = at_end_step (λ (x : Called ℕ). SameNames s x.after) s (stays s) (record { config = refl; names = refl })

closes : (s : Core) → SameNames s (close_step s)
closes s = at_close (λ (t : Core). SameNames s t) s (stays s) (record { config = refl; names = refl })

disconnects : (node now : ℕ) (s : Core) → SameNames s (disconnect_step node now s)
unfolding drop_requests
disconnects node now s = at_disconnect (λ (t : Core). SameNames s t) node now s (stays s) (record { config = refl; names = refl })

leads : (p leader now : ℕ) (s : Core) → SameNames s (lead_step p leader now s)
unfolding lead_step
leads p leader now s = record { config = refl; names = refl }

flushes : (s : Core) → SameNames s (flush_step s)
unfolding flush_step
flushes s = record { config = refl; names = refl }

to : (s t u : Core) → t ≡ u → SameNames s u → SameNames s t
to s t u is same = subst (SameNames s) (sym is) same

pub same_names : (s t : Core) (c : Call) → Step s c t → SameNames s t
same_names s t (call.Append i (Ok done)) x = to s t (append_step i s).after x.1 (appends i s)
same_names s t (call.Append i (Err append.BufferFull)) x = to s t (append_step i s).after x.1 (appends i s)
same_names s t (call.Append i (Err append.OutOfMemory)) x = to s t s x.1 (stays s)
same_names s t (call.Request node now (Ok answer)) x = to s t (request_step node now s).after x.1 (asks node now s)
same_names s t (call.Request node now (Err fault.OutOfMemory)) x = to s t s x.1 (stays s)
same_names s t (call.Request node now (Err fault.Ended)) x = to s t (request_step node now s).after x.1 (asks node now s)
same_names s t (call.Request node now (Err fault.CorrelationSpent)) x = to s t (request_step node now s).after x.1 (asks node now s)
same_names s t (call.Request node now (Err (fault.ReplyFault f))) x = to s t (request_step node now s).after x.1 (asks node now s)
same_names s t (call.Reply now content (Ok answer)) x = to s t (reply_step now content s).after x.1 (hears now content s)
same_names s t (call.Reply now content (Err fault.OutOfMemory)) x = to s t s x.1 (stays s)
same_names s t (call.Reply now content (Err fault.Ended)) x = to s t (reply_step now content s).after x.1 (hears now content s)
same_names s t (call.Reply now content (Err fault.CorrelationSpent)) x = to s t (reply_step now content s).after x.1 (hears now content s)
same_names s t (call.Reply now content (Err (fault.ReplyFault f))) x = to s t (reply_step now content s).after x.1 (hears now content s)
same_names s t (call.Tick node now answer) x = to s t (tick_step node now s).after x.1 (ticks node now s)
same_names s t (call.Disconnect node now) x = to s t (disconnect_step node now s) x (disconnects node now s)
same_names s t (call.Lead p leader now) x = to s t (lead_step p leader now s) x (leads p leader now s)
same_names s t call.Close x = to s t (close_step s) x (closes s)
same_names s t call.Flush x = to s t (flush_step s) x (flushes s)
same_names s t (call.End reports) x = to s t (end_step s).after x.1 (ends s)
same_names s t (call.Fetch sender answer) x = to s t (fetch_step sender s).after x.1 (record { config = refl; names = refl })
