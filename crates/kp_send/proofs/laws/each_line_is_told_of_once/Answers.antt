use Rattle.kp_send.proofs.StreamingLemmas.{passes}
use Rattle.kp_send.proofs.laws.each_line_is_told_of_once.Goals as goal

pub returns : goal.returns
returns c form delimiter keeps a b texts after taken fresh goes = passes delimiter a texts taken b after fresh.cutting goes
