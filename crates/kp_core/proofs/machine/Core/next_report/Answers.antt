use Rattle.std.proofs.Common.{refl}
use Rattle.kp_core.specs.Keeping.{seen_of}
use Rattle.kp_core.proofs.FetchLemmas.{fetched_kept, fetches}
use Rattle.kp_core.proofs.machine.Core.next_report.Goals as goal

pub invariant_of-self : goal.invariant_of-self
invariant_of-self c = rw c.next.ensures.rest (fetched_kept c.args.sender refl c.self.invariant)

pub returns : goal.returns
returns c = rw (← c.self.view_is) (fetches c.args.sender (seen_of c.self.inside) c.self.inside.desk c.next.new.self c.next.result refl c.next.ensures.first c.next.ensures.rest)
