use Rattle.std.proofs.Common.{◌≡◌, ◌∙◌, sym, ap, subst, List}
use Rattle.kp_accum.specs.Queue.{Pending}
use Rattle.kp_rules.specs.declared.outcome.Outcome.TheVariants.{Unknown, Unsent}
use Rattle.kp_rules.specs.Partitions.{items_open, items_queued}
use Rattle.kp_rules.specs.Records.{Open, Partition}
use Rattle.kp_rules.specs.Telling.{told_all}
use Rattle.kp_parts.specs.Desk.{tell_desk, Covers}
use Rattle.kp_parts.proofs.FencingLemmas.{given_up-is, given_up-told}
use Rattle.kp_parts.proofs.TellingLemmas.{covers_first, covers_then, told_then}
use Rattle.kp_parts.proofs.partition.Partition.give_up.Goals as goal

pub tell_unknown-requires : goal.tell_unknown-requires
tell_unknown-requires c =
    let t = c.args.self.now in
    let d = c.args.desk.now in
    let opens : c.deref.result.now ≡ t.open_batches = c.deref.ensures.value ∙ ap (λ (t : Partition). t.open_batches) c.self.view_is in
    subst (λ (os : List Open). Covers d (told_all Unknown (items_open os))) (sym opens)
    (covers_first _ _ _ d (given_up-told c.args.why t) c.requires)

pub tell_unsent-requires : goal.tell_unsent-requires
tell_unsent-requires c =
    let t = c.args.self.now in
    let d = c.args.desk.now in
    let opens : c.deref.result.now ≡ t.open_batches = c.deref.ensures.value ∙ ap (λ (t : Partition). t.open_batches) c.self.view_is in
    let queue : c.self.inside.queue ≡ t.queue = ap (λ (t : Partition). t.queue) c.self.view_is in
    let told = c.tell_unknown.ensures ∙ ap (λ (os : List Open). tell_desk (told_all Unknown (items_open os)) d) opens in
    subst (λ (q : List Pending). Covers c.tell_unknown.new.desk (told_all (Unsent c.args.why) (items_queued q))) (sym queue)
    (covers_then _ _ _ d c.tell_unknown.new.desk (given_up-told c.args.why t) told c.requires)

pub returns-clause-after : goal.returns-clause-after
returns-clause-after c =
    rw (← c.self.view_is) (given_up-is c.args.why _ c.tell_unsent.new.queue c.clear.new.self.items c.tell_unsent.ensures.queue c.clear.ensures.items)

pub returns-clause-told : goal.returns-clause-told
returns-clause-told c =
    let t = c.args.self.now in
    let d = c.args.desk.now in
    let opens : c.deref.result.now ≡ t.open_batches = c.deref.ensures.value ∙ ap (λ (t : Partition). t.open_batches) c.self.view_is in
    let queue : c.self.inside.queue ≡ t.queue = ap (λ (t : Partition). t.queue) c.self.view_is in
    let told = c.tell_unknown.ensures ∙ ap (λ (os : List Open). tell_desk (told_all Unknown (items_open os)) d) opens in
    c.tell_unsent.ensures.told
    ∙ ap (λ (q : List Pending). tell_desk (told_all (Unsent c.args.why) (items_queued q)) c.tell_unknown.new.desk) queue
    ∙ told_then _ _ _ d c.tell_unknown.new.desk (given_up-told c.args.why t) told
