use Rattle.std.proofs.Common.{arith}
use Rattle.std.specs.Prelude.{IsOk}
use Rattle.kp_frames.specs.Fault.{IsRequestFault}
use Rattle.kp_frames.specs.Request.{Spells, announced, request_at}
use Rattle.kp_frames.proofs.FaultLemmas.{answered_found, answered_only, answered_fault}
use Rattle.kp_frames.proofs.RequestLemmas.{request_found, request_only, request_fault}
use Rattle.kp_frames.proofs.request.read_request.Goals as goal

pub returns-clause-found : goal.returns-clause-found
returns-clause-found c =
    let bytes = c.args.bytes.now in
    answered_found (IsOk (announced bytes)) (Spells bytes) c.read_whole.result (request_at bytes) c.read_whole.ensures (λ r e. request_found bytes r (λ i. omega (arith, c.type_inv.bytes i)) e)

pub returns-clause-only : goal.returns-clause-only
returns-clause-only c = λ r p.
    let bytes = c.args.bytes.now in
    answered_only (IsOk (announced bytes)) r c.read_whole.result (request_at bytes) c.read_whole.ensures (request_only bytes r p)

pub returns-clause-faults : goal.returns-clause-faults
returns-clause-faults c =
    let bytes = c.args.bytes.now in
    answered_fault IsRequestFault (IsOk (announced bytes)) c.read_whole.result (request_at bytes) tt (request_fault bytes) c.read_whole.ensures
