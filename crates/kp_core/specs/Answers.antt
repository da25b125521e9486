-- What a call answers, beside what comes back.
use Rattle.std.specs.Prelude.{Result, Ok, Err}
use Rattle.kp_accum.specs.declared.fault.AppendFault.{AppendFault}
use Rattle.kp_accum.specs.declared.item.Item.{Item}

-- an append's answer, without the item
abbrev pub answer_of : Result (Unit {0}) (AppendFault × Item) → Result (Unit {0}) AppendFault
answer_of (Ok done) = Ok done
answer_of (Err refused) = Err refused.0
