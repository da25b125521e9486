use Rattle.std.proofs.Common.{◌≡◌, ◌∙◌, sym, ap, List, ◌++◌, Some}
use Rattle.std.specs.Prelude.{slice_get}
use Rattle.kp_accum.specs.declared.item.Item.{Item}
use Rattle.kp_accum.specs.Queue.{Pending}
use Rattle.kp_rules.specs.declared.outcome.Outcome.TheVariants.{Unsent}
use Rattle.kp_rules.specs.Partitions.{items_queued}
use Rattle.kp_rules.specs.Telling.{told_all}
use Rattle.kp_parts.specs.Desk.{tell_desk}
use Rattle.kp_parts.proofs.TellingLemmas.{covers_then, queue_ends, queued_told, told_nothing, told_then}
use Rattle.kp_parts.proofs.partition.fencing.tell_unsent.Goals as goal

pub loop-batch-preserved : goal.loop-batch-preserved
loop-batch-preserved c =
    let outcome = Unsent c.args.why in
    let q = c.loop-batch.queue in
    let d = c.loop-batch.desk in
    let b = c.in-Some.batch in
    let rest = c.take_front.ensures.rest in
    let here : slice_get q 0 ≡ Some b = sym c.take_front.ensures.front ∙ c.in-Some.is in
    let told : c.tell_all.new.self ≡ tell_desk (told_all outcome b.items) d =
    c.tell_all.ensures ∙ ap (λ (items : List Item). tell_desk (told_all outcome items) d) c.items.ensures.value in
    let all : told_all outcome (items_queued q) ≡ told_all outcome b.items ++ told_all outcome (items_queued c.take_front.new.self) =
    queued_told outcome q b here
    ∙ ap (λ (z : List Pending). told_all outcome b.items ++ told_all outcome (items_queued z)) (sym rest) in
    record {
      told = told_then _ _ _ d c.tell_all.new.self all told ∙ c.loop-batch.invariant.told;
      covers = covers_then _ _ _ d c.tell_all.new.self all told c.loop-batch.invariant.covers;
    }

pub returns-clause-told : goal.returns-clause-told
returns-clause-told c =
    let outcome = Unsent c.args.why in
    let q = c.loop-batch.queue in
    let none = queue_ends q (sym c.take_front.ensures.front ∙ c.in_default.is) in
    told_nothing (told_all outcome (items_queued q)) c.loop-batch.desk (ap (λ (z : List Pending). told_all outcome (items_queued z)) none)
    ∙ c.loop-batch.invariant.told
