use Rattle.std.proofs.Common.{◌≡◌, ◌∙◌, ◌++◌, ◌∷◌, [], ◌&&◌, ◌⊎◌, false, List, None, pos, refl, inl, inr, arith}
use Rattle.std.specs.Prelude.{FitsSigned}
use Rattle.std.specs.Int.{w64}
use Rattle.std.specs.Ordering.{int_eq}
use Rattle.std.proofs.lemmas.Int.{to_z-of_z}
use Rattle.std.proofs.lemmas.List.{length-append}
use Rattle.std.proofs.lemmas.Result.{err_from_is_err_and}
use Rattle.kp_wire.proofs.ManyLemmas.{goes_on, ends, is_done}
use Rattle.kp_batch.specs.declared.relative.RelativeRecord.{RelativeRecord}
use Rattle.kp_batch.specs.Record.{relative_record}
use Rattle.kp_batch_reading.specs.Gathering.{timely_moment}
use Rattle.kp_batch_reading.proofs.GatherLemmas.{gathered, so_far_none, known_more, known_late}
use Rattle.kp_batch_reading.proofs.gathering.gather.Goals as goal
use Rattle.kp_batch_reading.proofs.gathering.gather.Goals.{then-in_places, else-in_places, in-Some+in_ok-push-in-Some, in_default, in_default-via-in-Some+else-timed, in_default-via-in_default}

pub loop-k-init : goal.loop-k-init
loop-k-init c = rw c.new-records.ensures.items ([], so_far_none c.args.summary.now.base_timestamp c.args.count c.args.bytes.now)

pub returns-in_err-relative : goal.returns-in_err-relative
returns-in_err-relative c =
    let p = err_from_is_err_and c.from_residual.result c.from_residual.ensures.1 in
    rw (p.1, p.2) (ends c.in_err-relative.field-0.0 relative_record.read c.loop-k.invariant.0 c.args.count c.loop-k.k c.loop-k.rest.now _ c.loop-k-test.true c.in_err-relative.ensures c.loop-k.invariant.1.reads)

pub loop-k-preserved : goal.loop-k-preserved
loop-k-preserved c =
    let base = c.args.summary.now.base_timestamp in
    let front : List RelativeRecord = c.loop-k.invariant.0 in
    let so_far = c.loop-k.invariant.1 in
    let so_far_g = gathered c.loop-k.records.items c.loop-k.greatest c.loop-k.in_places c.loop-k.timed in
    let r : RelativeRecord = c.in_ok-relative.relative in
    let place : c.if-in_places.in_places ≡ (c.loop-k.in_places && int_eq r.offset_delta (pos c.loop-k.k)) = elim c.if-in_places.branch [
      | then-in_places w ↦ rw (w.in_places-is, w.if-in_places.true) w.is_in_place-in_places.ensures
      | else-in_places w ↦ rw (w.in_places-is, w.if-in_places.false) refl
    ] in (
      front ++ r ∷ [],
      record {
        many = length-append front (r ∷ []) ∙ omega (arith, so_far.many);
        reads = goes_on relative_record.read front c.args.count c.loop-k.k c.loop-k.rest.now r c.in_ok-relative.behind.now _ c.loop-k-test.true c.in_ok-relative.ensures so_far.reads;
        known = elim c.match-moment.branch [
          | in-Some+in_ok-push-in-Some w ↦
              let fits : FitsSigned w64 w.millis.result = rw w.millis.ensures.value (record { sfits = w.millis.ensures.fits }) in
              let is : w.max-greatest.result ≡ _ = w.max-greatest.ensures in
              rw (w.records-is, w.greatest-is, w.timed-is, w.if-timed.true, w.in_ok-push-in-Some.ensures.items, c.in_ok-reserve_behind.ensures, is, to_z-of_z, w.millis.ensures.value)
              (known_more base front so_far_g r c.loop-k.k w.in-Some.timestamp c.if-in_places.in_places so_far.many so_far.known w.if-timed.true w.in-Some.ensures place)
          | in_default w ↦
              let late : (c.loop-k.timed ≡ false) ⊎ (None ≡ timely_moment base c.loop-k.k r) = elim w.in_default.branch [
                | in_default-via-in-Some+else-timed w' ↦ inl w'.if-timed.false
                | in_default-via-in_default w' ↦ inr w'.in_default.ensures
              ] in
              rw (w.records-is, w.greatest-is, w.timed-is, c.in_ok-reserve_behind.ensures) (known_late base front so_far_g r c.loop-k.k c.if-in_places.in_places so_far.many so_far.known late place)
        ];
      },
    )

pub returns : goal.returns
returns c =
    rw c.new.ensures
    (c.loop-k.invariant.0, is_done relative_record.read c.loop-k.invariant.0 c.args.count c.loop-k.k c.loop-k.rest.now _ c.loop-k-test.false c.loop-k.invariant.1.reads, c.loop-k.invariant.1.known)
