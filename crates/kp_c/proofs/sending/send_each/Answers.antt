use Rattle.std.proofs.Common.{◌<◌, length, w64, arith}
use Rattle.std.proofs.lemmas.Int.{to_z-of_z}
use Rattle.kp_c.proofs.BatchLemmas.{so_many_more, so_many_none, some_of}
use Rattle.kp_c.proofs.sending.send_each.Goals as goal

pub loop-place-init : goal.loop-place-init
loop-place-init c = so_many_none _ c.args.now c.args.target c.args.lengths.now c.args.values.now c.args.embed.now

pub loop-place-preserved : goal.loop-place-preserved
loop-place-preserved c =
    let a = c.args in
    let l = c.loop-place in
    let within : l.place < length a.lengths.now = omega arith in
    so_many_more _ a.now a.target a.lengths.now a.values.now l.place l.rest.now c.in-Ok.others.now _ a.embed.now l.embed c.send_first.new.embed within l.invariant c.in-Ok.ensures.accepts c.in-Ok.ensures.rest

pub returns-in-Err-clause-accepts : goal.returns-in-Err-clause-accepts
returns-in-Err-clause-accepts c =
    let a = c.args in
    let l = c.loop-place in
    some_of _ a.timestamp_ms a.now a.target a.lengths.now a.values.now l.place l.rest.now a.embed.now l.embed c.send_first.new.embed (to_z-of_z w64 a.timestamp_ms c.ranges.timestamp_ms) l.invariant c.in-Err.ensures.refused
