use Rattle.std.proofs.Common.{◌≡◌, ◌<◌, ◌∙◌, ap, length, arith, pos}
use Rattle.std.proofs.lemmas.Bool.Decides.{nat_tests}
use Rattle.std.proofs.lemmas.List.{length-map}
use Rattle.kp_batch.specs.Spelling.{size_of_batch}
use Rattle.kp_program.specs.Lines.{lines}
use Rattle.kp_packing.specs.Packed.{records_of}
use Rattle.kp_packing.proofs.PackedLemmas.{report_text-stored, size-none}
use Rattle.kp_packing.proofs.packing.pack.Goals as goal

pub returns-then-is_empty-clause-fits : goal.returns-then-is_empty-clause-fits
returns-then-is_empty-clause-fits c =
    let count = ap length c.in_ok-records.ensures in
    let none : length (records_of (lines c.args.bytes.now)) ≡ 0 = grind (arith, nat_tests, count, c.in_ok-records.records.ok.0) in
    size-none (lines c.args.bytes.now) none

pub returns-clause-text : goal.returns-clause-text
returns-clause-text c =
    let values = lines c.args.bytes.now in
    let given = c.in_ok-records.ensures in
    let count = ap length given in
    let some : 0 < length (records_of values) = grind (arith, nat_tests, count, c.in_ok-records.records.ok.0) in
    let size = c.in_ok-size.ensures.0 ∙ ap size_of_batch (c.as_slice.ensures.value ∙ given) in
    let stored = rw (c.as_slice-2.ensures.value, given) at c.in_ok-offered.ensures in
    let counted : c.len.result ≡ length values = simp length-map at (c.len.ensures ∙ c.in_ok-records.records.ok.0 ∙ count) in
    c.in_ok-report.ensures ∙ report_text-stored (pos 1000) values c.in_ok-size.size c.len.result c.in_ok-offered.offered some size counted stored
