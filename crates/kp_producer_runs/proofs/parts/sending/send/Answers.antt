use Rattle.std.proofs.Common.{◌∙◌, sym}
use Rattle.kp_parts.proofs.HandingLemmas.{placed}
use Rattle.kp_producer_runs.proofs.parts.sending.send.Goals as goal

pub send_in-requires-clause-attempts : goal.send_in-requires-clause-attempts
send_in-requires-clause-attempts c = (placed c.args.partition.now (sym c.has_place.ensures ∙ c.if-not-has_place.false)).attempts
