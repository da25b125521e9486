use Rattle.std.proofs.Common.{◌≡◌, Ok, arith, rules}
use Rattle.kp_frames.specs.Stream.{first, is_no_size}
use Rattle.kp_frames.proofs.FirstLemmas.{first_spelled}
use Rattle.kp_frames.proofs.splitter.first_frame.Goals as goal

pub returns-clause-spelled : goal.returns-clause-spelled
unfolding first is_no_size
returns-clause-spelled c =
    let e : first c.args.bytes.now ≡ Ok (c.in_ok-read_bytes.field-0.0.now, c.in_ok-read_bytes.field-0.1.now) = search rules in
    first_spelled c.args.bytes.now c.in_ok-read_bytes.field-0.0.now c.in_ok-read_bytes.field-0.1.now (λ i. omega (arith, c.type_inv.bytes i)) e
