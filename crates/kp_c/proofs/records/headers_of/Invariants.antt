use Rattle.std.proofs.Common.{◌≡◌, ◌++◌, drop}
use Rattle.kp_c.specs.Records.{headers_in}
use Rattle.kp_c.proofs.records.headers_of.Given as goal

abbrev pub invariant-loop-span : goal.invariant-loop-span
invariant-loop-span l = headers_in l.spans l.bytes ≡ l.headers.items ++ headers_in (drop l.span-index l.spans) l.rest
