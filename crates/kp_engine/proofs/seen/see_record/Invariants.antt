use Rattle.std.proofs.Common.{take}
use Rattle.std.specs.List.{AllByRecursion}
use Rattle.std.specs.Str.{IsUtf8}
use Rattle.kp_engine.proofs.seen.see_record.Given as goal

abbrev pub invariant-loop-header : goal.invariant-loop-header
invariant-loop-header l = AllByRecursion (λ h. IsUtf8 h.key) (take l.header-index l.header-items)
