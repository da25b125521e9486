use Rattle.std.proofs.Common.{◌≡◌, ◌≢◌, ◌∙◌, false, true, length, refl, sym, arith}
use Rattle.std.proofs.lemmas.Bool.{eqb-true, eqb-false, not-true, not-false}
use Rattle.kp_batch.specs.Reading.{is_timed}
use Rattle.kp_batch_reading.proofs.WholeLemmas.{record_fault, bytes_behind, by_rows, untimely, by_greatest}
use Rattle.kp_batch_reading.proofs.reading.read_whole.Goals as goal
use Rattle.kp_batch_reading.proofs.reading.read_whole.Goals.{then-not-gathered-2-via-then-not-gathered-2, then-not-gathered-2-via-else-not-gathered-2+then-not-names_greatest}

pub returns-in-Err-Fault : goal.returns-in-Err-Fault
returns-in-Err-Fault c =
    rw c.in-Err-Fault.field-0-is
    (record_fault c.args.bytes.now c.in_ok-front.front c.in_ok-front.summary c.in_ok-front.records.now c.count_of.result c.in-Err-Fault.fault c.in_ok-front.ensures.exact c.count_of.ensures (rw c.in-Err-Fault.field-0-is at c.in-Err-Fault.ensures))

pub returns-then-not-is_empty : goal.returns-then-not-is_empty
returns-then-not-is_empty c =
    let rest = c.in-Ok.x.1.now in
    let some : length rest ≢ 0 = eqb-false (length rest) 0 (sym c.is_empty.ensures ∙ c.if-not-is_empty.true) in
    bytes_behind c.args.bytes.now c.in_ok-front.front c.in_ok-front.summary c.in_ok-front.records.now rest c.count_of.result c.in-Ok.ensures.0 c.in_ok-front.ensures.exact c.count_of.ensures c.in-Ok.ensures.1 (omega arith)

pub returns-then-not-gathered : goal.returns-then-not-gathered
returns-then-not-gathered c =
    let known = c.in-Ok.ensures in
    by_rows c.args.bytes.now c.in_ok-front.front c.in_ok-front.summary c.in_ok-front.records.now c.in-Ok.x.1.now c.count_of.result known.0 false _ c.in_ok-front.ensures.exact c.count_of.ensures known.1
    (eqb-true _ 0 (sym c.is_empty.ensures ∙ c.if-not-is_empty.false)) (sym known.2.places ∙ not-true _ c.if-not-gathered.true) refl

pub returns-then-not-gathered-2 : goal.returns-then-not-gathered-2
returns-then-not-gathered-2 c =
    let s = c.in_ok-front.summary in
    let known = c.in-Ok.ensures in
    let times : is_timed s known.0 ≡ false = elim c.then-not-gathered-2.branch [
      | then-not-gathered-2-via-then-not-gathered-2 w ↦ untimely s known.0 c.in-Ok.x.0 known.2 (not-true _ w.if-not-gathered-2.true)
      | then-not-gathered-2-via-else-not-gathered-2+then-not-names_greatest w ↦ by_greatest s known.0 c.in-Ok.x.0 known.2 (not-false _ w.if-not-gathered-2.false) ∙ sym w.names_greatest.ensures ∙ w.if-not-names_greatest.true
    ] in
    by_rows c.args.bytes.now c.in_ok-front.front s c.in_ok-front.records.now c.in-Ok.x.1.now c.count_of.result known.0 true false c.in_ok-front.ensures.exact c.count_of.ensures known.1
    (eqb-true _ 0 (sym c.is_empty.ensures ∙ c.if-not-is_empty.false)) (sym known.2.places ∙ not-false _ c.if-not-gathered.false) times

pub returns : goal.returns
returns c =
    let s = c.in_ok-front.summary in
    let known = c.in-Ok.ensures in
    let timed = not-false c.in-Ok.x.0.timed c.if-not-gathered-2.false in
    let times : is_timed s known.0 ≡ true = by_greatest s known.0 c.in-Ok.x.0 known.2 timed ∙ sym c.names_greatest.ensures ∙ c.if-not-names_greatest.false in
    by_rows c.args.bytes.now c.in_ok-front.front s c.in_ok-front.records.now c.in-Ok.x.1.now c.count_of.result known.0 true true c.in_ok-front.ensures.exact c.count_of.ensures known.1
    (eqb-true _ 0 (sym c.is_empty.ensures ∙ c.if-not-is_empty.false)) (sym known.2.places ∙ not-false _ c.if-not-gathered.false) times
    ∙ sym (rw (c.batch_of.ensures, known.2.records timed) refl)
