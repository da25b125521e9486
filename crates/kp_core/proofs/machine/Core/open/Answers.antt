use Rattle.std.proofs.Common.{◌∙◌, ap}
use Rattle.kp_rules.specs.Opening.{new_core}
use Rattle.kp_parts.specs.Desk.{all_reports}
use Rattle.kp_parts.proofs.DeskKeeping.{all_reports-new}
use Rattle.kp_core.proofs.OpeningLemmas.{opened_kept, opened-is}
use Rattle.kp_core.proofs.machine.Core.open.Goals as goal

pub invariant_of-result : goal.invariant_of-result
unfolding new_core
invariant_of-result c =
    opened_kept c.args.audits c.args.config c.args.names c.args.partitions c.args.senders c.args.producer_id c.args.first_correlation
    c.in_ok-partitions.partitions c.in_ok-requests.requests.items c.new-turns.result.items c.in_ok-desk.desk c.requires c.see_text.ensures c.see_text-2.ensures
    c.in_ok-partitions.ensures c.in_ok-requests.ensures.items c.new-turns.ensures.items c.in_ok-desk.ensures

pub returns : goal.returns
unfolding new_core
returns c =
    opened-is c.args.audits c.args.config c.args.names c.args.partitions c.args.senders c.args.producer_id c.args.first_correlation
    c.in_ok-partitions.partitions c.in_ok-requests.requests.items c.new-turns.result.items (all_reports c.in_ok-desk.desk) c.in_ok-partitions.ensures c.in_ok-requests.ensures.items c.new-turns.ensures.items
    (ap all_reports c.in_ok-desk.ensures ∙ all_reports-new c.args.senders c.args.config.buffer_memory)
