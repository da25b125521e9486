use Rattle.kp_rules.proofs.FetchedLemmas.{append_behind, request_behind, response_behind, reply_behind, tick_behind, disconnect_behind, lead_behind, close_behind, flush_behind, end_behind}
use Rattle.kp_rules.proofs.telling_laws.reports_are_only_added_to.Goals as goal

pub returns : goal.returns
returns c = record {
  append = append_behind;
  request = request_behind;
  response = response_behind;
  reply = reply_behind;
  tick = tick_behind;
  disconnect = disconnect_behind;
  lead = lead_behind;
  close = close_behind;
  flush = flush_behind;
  end = end_behind;
}
