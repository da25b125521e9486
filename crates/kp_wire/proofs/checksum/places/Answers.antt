use Rattle.std.proofs.Common.{◌≡◌, ◌+◌, ◌*◌, ℕ, arith}
use Rattle.kp_wire.proofs.SliceLemmas.{eight_places}
use Rattle.kp_wire.proofs.checksum.places.Goals as goal

pub returns : goal.returns
returns c =
    let t : ℕ = c.args.tables in
    let e : 8 * (t + 7 + 1) ≡ 64 + 8 * t = omega arith in
    let e2 : 8 * (t + 6 + 1) ≡ 56 + 8 * t = omega arith in
    let e3 : 8 * (t + 5 + 1) ≡ 48 + 8 * t = omega arith in
    let e4 : 8 * (t + 4 + 1) ≡ 40 + 8 * t = omega arith in
    let e5 : 8 * (t + 3 + 1) ≡ 32 + 8 * t = omega arith in
    let e6 : 8 * (t + 2 + 1) ≡ 24 + 8 * t = omega arith in
    let e7 : 8 * (t + 1 + 1) ≡ 16 + 8 * t = omega arith in
    let e8 : 8 * (t + 1) ≡ 8 + 8 * t = omega arith in
    rw (c.entry.ensures, c.entry-2.ensures, c.entry-3.ensures, c.entry-4.ensures, c.entry-5.ensures, c.entry-6.ensures, c.entry-7.ensures, c.entry-8.ensures, e, e2, e3, e4, e5, e6, e7, e8)
    (eight_places (8 * t) c.args.bytes (omega arith))
