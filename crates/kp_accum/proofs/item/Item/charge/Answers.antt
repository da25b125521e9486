use Rattle.std.proofs.Common.{◌≡◌, ◌∙◌, sym, ap}
use Rattle.kp_batch.specs.Spelling.{measured}
use Rattle.kp_batch.proofs.SizeLemmas.{measured_small, small_measured}
use Rattle.kp_accum.specs.Queue.{charge_of}
use Rattle.kp_accum.proofs.QueueLemmas.{charge_of-is}
use Rattle.kp_accum.proofs.item.Item.charge.Goals as goal

pub returns : goal.returns
returns c =
    let value : c.charge.result ≡ measured (charge_of c.args.self.now) = c.charge.ensures ∙ ap measured (sym (charge_of-is c.args.self.now)) in
    record { value = value; exact = λ small. value ∙ measured_small (charge_of c.args.self.now) small; told = λ small. small_measured c.charge.result (charge_of c.args.self.now) value small }
