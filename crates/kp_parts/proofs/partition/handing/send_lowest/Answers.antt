use Rattle.std.proofs.Common.{◌≡◌, ◌∙◌, ◌+◌, ◌<◌, ◌≤◌, suc, true, false, length, get_or, sym, ap, rules, arith}
use Rattle.std.specs.Prelude.{slice_set}
use Rattle.std.proofs.lemmas.List.{get_or_default}
use Rattle.kp_rules.specs.Attempts.{is_waiting}
use Rattle.kp_rules.specs.HandingOver.{again_in}
use Rattle.kp_parts.proofs.HandingLemmas.{send_again-here, send_again-next, send_again-end}
use Rattle.kp_parts.proofs.partition.handing.send_lowest.Goals as goal

pub returns-then-is_waiting-clause-items : goal.returns-then-is_waiting-clause-items
returns-then-is_waiting-clause-items c =
    let os = c.loop-place.open_batches.items in
    let n = c.loop-place.place in
    let d = c.index.result.now in
    let lt : n < length os = search rules in
    let waits : is_waiting (get_or os n d) ≡ true = ap is_waiting (sym c.index.ensures) ∙ sym c.is_waiting.ensures ∙ c.if-is_waiting.true in
    let same : c.index_mut.result.now ≡ get_or os n d = c.index_mut.ensures.value ∙ get_or_default os n c.index_mut.result.now d lt in
    ap (slice_set os n) (c.send_again.ensures ∙ ap (again_in c.args.correlation) same)
    ∙ send_again-here c.args.correlation os n d lt waits
    ∙ c.loop-place.invariant.items

pub loop-place-preserved : goal.loop-place-preserved
loop-place-preserved c =
    let os = c.loop-place.open_batches.items in
    let n = c.loop-place.place in
    let d = c.index.result.now in
    let lt : n < length os = search rules in
    let rests : is_waiting (get_or os n d) ≡ false = ap is_waiting (sym c.index.ensures) ∙ sym c.is_waiting.ensures ∙ c.if-is_waiting.false in
    let next : suc n ≡ n + 1 = omega arith in
    record {
      capacity = c.loop-place.invariant.capacity;
      items = rw next at (send_again-next c.args.correlation os n d lt rests) ∙ c.loop-place.invariant.items;
    }

pub returns-clause-items : goal.returns-clause-items
returns-clause-items c =
    let os = c.loop-place.open_batches.items in
    let le : length os ≤ c.loop-place.place = search rules in
    send_again-end c.args.correlation os c.loop-place.place le ∙ c.loop-place.invariant.items
