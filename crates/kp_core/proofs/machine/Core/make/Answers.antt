use Rattle.std.proofs.Common.{◌∙◌, ℕ, List, refl, sym, ap}
use Rattle.kp_rules.specs.Calls as call
use Rattle.kp_core.specs.declared.calls.Asked.TheVariants as asked
use Rattle.kp_core.specs.declared.calls.Answered.TheVariants as answered
use Rattle.kp_core.specs.Answers.{answer_of}
use Rattle.kp_core.proofs.CallingLemmas.{item_back}
use Rattle.kp_core.proofs.machine.Core.make.Goals as goal

pub returns-in-Append : goal.returns-in-Append
returns-in-Append c = record {
  call = call.Append c.in-Append.item (answer_of c.append_if_it_may_be.result);
  asks = sym c.in-Append.is;
  answers = ap answered.Append (item_back c.in-Append.item c.append_if_it_may_be.result c.append_if_it_may_be.ensures.back);
  step = c.append_if_it_may_be.ensures.step;
}

pub returns-in-Request : goal.returns-in-Request
returns-in-Request c = record { call = call.Request c.in-Request.node c.in-Request.now c.next_request.result; asks = sym c.in-Request.is; answers = refl; step = c.next_request.ensures }

pub returns-in-Reply : goal.returns-in-Reply
returns-in-Reply c = record {
  call = call.Reply c.in-Reply.now c.as_slice.result.now c.on_reply.result;
  asks = ap (λ (content : List ℕ). asked.Reply content c.in-Reply.now) c.as_slice.ensures ∙ sym c.in-Reply.is;
  answers = refl;
  step = c.on_reply.ensures;
}

pub returns-in-Tick : goal.returns-in-Tick
returns-in-Tick c = record { call = call.Tick c.in-Tick.node c.in-Tick.now c.tick.result; asks = sym c.in-Tick.is; answers = refl; step = c.tick.ensures }

pub returns-in-Disconnect : goal.returns-in-Disconnect
returns-in-Disconnect c = record { call = call.Disconnect c.in-Disconnect.node c.in-Disconnect.now; asks = sym c.in-Disconnect.is; answers = refl; step = c.on_disconnect.ensures }

pub returns-in-Lead : goal.returns-in-Lead
returns-in-Lead c = record { call = call.Lead c.in-Lead.partition c.in-Lead.node c.in-Lead.now; asks = sym c.in-Lead.is; answers = refl; step = c.lead.ensures }

pub returns-in-Close : goal.returns-in-Close
returns-in-Close c = record { call = call.Close; asks = sym c.in-Close.is; answers = refl; step = c.close.ensures }

pub returns-in-Flush : goal.returns-in-Flush
returns-in-Flush c = record { call = call.Flush; asks = sym c.in-Flush.is; answers = refl; step = c.flush.ensures }

pub returns-in-End : goal.returns-in-End
returns-in-End c = record { call = call.End c.end.result; asks = sym c.in-End.is; answers = refl; step = c.end.ensures }

pub returns-in-Fetch : goal.returns-in-Fetch
returns-in-Fetch c = record { call = call.Fetch c.in-Fetch.sender c.next_report_if_any.result; asks = sym c.in-Fetch.is; answers = refl; step = c.next_report_if_any.ensures }
