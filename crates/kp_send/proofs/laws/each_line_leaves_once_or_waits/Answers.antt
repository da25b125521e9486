use Rattle.kp_send.proofs.LedgerLemmas.{all_moved}
use Rattle.kp_send.proofs.laws.each_line_leaves_once_or_waits.Goals as goal

pub returns : goal.returns
returns c = all_moved
