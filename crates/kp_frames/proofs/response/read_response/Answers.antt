use Rattle.std.proofs.Common.{arith}
use Rattle.std.specs.Prelude.{IsOk}
use Rattle.kp_wire.specs.Fields.{int32}
use Rattle.kp_frames.specs.Fault.{IsContentFault}
use Rattle.kp_frames.specs.Response.{Spells, response_at}
use Rattle.kp_frames.proofs.FaultLemmas.{answered_found, answered_only, answered_fault}
use Rattle.kp_frames.proofs.ResponseLemmas.{response_found, response_only, response_fault}
use Rattle.kp_frames.proofs.response.read_response.Goals as goal

pub returns-clause-found : goal.returns-clause-found
returns-clause-found c =
    let bytes = c.args.bytes.now in
    answered_found (IsOk (int32.read bytes)) (Spells c.args.api bytes) c.read_whole.result (response_at c.args.api bytes) c.read_whole.ensures (λ r e. response_found c.args.api bytes r (λ i. omega (arith, c.type_inv.bytes i)) e)

pub returns-clause-only : goal.returns-clause-only
returns-clause-only c = λ r p.
    let bytes = c.args.bytes.now in
    answered_only (IsOk (int32.read bytes)) r c.read_whole.result (response_at c.args.api bytes) c.read_whole.ensures (response_only c.args.api bytes r p)

pub returns-clause-faults : goal.returns-clause-faults
returns-clause-faults c =
    let bytes = c.args.bytes.now in
    answered_fault IsContentFault (IsOk (int32.read bytes)) c.read_whole.result (response_at c.args.api bytes) tt (response_fault c.args.api bytes) c.read_whole.ensures
