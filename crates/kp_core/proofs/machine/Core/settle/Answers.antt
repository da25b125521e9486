use Rattle.std.proofs.Common.{◌≡◌, ◌∙◌, ◌<◌, ◌-◌, ℕ, true, false, List, length, Some, None, Ok, Err, refl, sym, ap, subst, ne_eqb, eq-eqb, rules, arith}
use Rattle.std.specs.Prelude.{filter, ◌&&◌, ◌==◌}
use Rattle.std.specs.List.{AllByRecursion, list_all}
use Rattle.kp_frames.specs.declared.fault.FrameFault.TheVariants.{Mismatch}
use Rattle.kp_frames.specs.declared.produce.PartitionProduceResponse.{PartitionProduceResponse}
use Rattle.kp_rules.specs.declared.fault.CoreFault.TheVariants.{ReplyFault}
use Rattle.kp_rules.specs.Attempts.{is_live}
use Rattle.kp_rules.specs.Calls.{Gives}
use Rattle.kp_rules.specs.Mismatch.{entries_of, is_one_topic}
use Rattle.kp_rules.specs.Partitions.{partition_at}
use Rattle.kp_rules.specs.Records.{Core, Partition, Produce, InitProducerId, quietly}
use Rattle.kp_rules.specs.Replies.{awaited, known, response_step, settle_batches, settle_id}
use Rattle.kp_parts.specs.Desk.{all_reports}
use Rattle.kp_core.specs.declared.machine.matching.Entry.{Entry}
use Rattle.kp_core.specs.Keeping.{seen_of}
use Rattle.kp_core.specs.Matching.{AreEntries, answers_one}
use Rattle.kp_core.specs.Requests.{demand_of}
use Rattle.kp_core.proofs.AnsweredLemmas.{AreAnswered, WereSettled, are_answered, batches-is, batches_kept, count_settled, covers_answered, each-is, offsets_given}
use Rattle.kp_core.proofs.ReplyLemmas.{IsHeard, asked, awaited-is, batches_heard, batches_refused, each_says, gives, gives_known, hears_id, id_heard, id_refused, no_topic, other_count, other_refused, unknown_heard}
use Rattle.kp_core.proofs.machine.Core.settle.Goals as goal

pub returns-in_default : goal.returns-in_default
returns-in_default c =
    let s = seen_of c.self.inside in
    let x = c.args.response.now in
    let going : s.ended ≡ false = ap (λ (z : Core). z.ended) c.self.view_is ∙ c.requires in
    let none : awaited x.correlation s ≡ None = awaited-is x.correlation s None c.deref.result.now (search rules) c.deref.ensures.value c.in_default.ensures in
    subst (λ (z : Core). Gives (response_step c.args.now x z) (Ok (record { known = false; reports = 0 })) z) c.self.view_is
    (gives (unknown_heard c.args.now x s going none))

pub returns-in_default-entries_of_topic : goal.returns-in_default-entries_of_topic
returns-in_default-entries_of_topic c =
    let s = seen_of c.self.inside in
    let x = c.args.response.now in
    let k = c.correlation-correlation.result in
    let r = c.in-Some.request.now in
    let heard : IsHeard x s k r = record {
      going = ap (λ (z : Core). z.ended) c.self.view_is ∙ c.requires;
      named = awaited-is x.correlation s (Some r) c.deref.result.now (search rules) c.deref.ensures.value c.in-Some.ensures;
      under = c.correlation-correlation.ensures;
    } in
    let y = c.in-Produce-Produce.response in
    let ps = c.in-Produce-Produce.chosen.items in
    let has : r.demand ≡ Produce ps = sym c.demand.ensures ∙ ap demand_of c.in-Produce-Produce.is-0 in
    subst (λ (z : Core). Gives (response_step c.args.now x z) (Err (ReplyFault Mismatch)) z) c.self.view_is
    (gives (batches_refused c.args.now x s k r ps y heard has c.in-Produce-Produce.is-1 (no_topic k ps s y (sym c.in_default-entries_of_topic.ensures.one))))

pub returns-then-entries-len : goal.returns-then-entries-len
returns-then-entries-len c =
    let s = seen_of c.self.inside in
    let x = c.args.response.now in
    let k = c.correlation-correlation.result in
    let r = c.in-Some.request.now in
    let heard : IsHeard x s k r = record {
      going = ap (λ (z : Core). z.ended) c.self.view_is ∙ c.requires;
      named = awaited-is x.correlation s (Some r) c.deref.result.now (search rules) c.deref.ensures.value c.in-Some.ensures;
      under = c.correlation-correlation.ensures;
    } in
    let y = c.in-Produce-Produce.response in
    let ps = c.in-Produce-Produce.chosen.items in
    let has : r.demand ≡ Produce ps = sym c.demand.ensures ∙ ap demand_of c.in-Produce-Produce.is-0 in
    let topic : is_one_topic s.names.topic y.topics ≡ true = sym c.in-Some-entries_of_topic.ensures.one in
    let size : c.len.result ≡ length ps = search rules in
    let count : (length (entries_of y) == length ps) ≡ false =
    ne_eqb (length (entries_of y)) (length ps) (λ e. c.if-entries-len.true (ap length c.in-Some-entries_of_topic.ensures.entries ∙ e ∙ sym size)) in
    subst (λ (z : Core). Gives (response_step c.args.now x z) (Err (ReplyFault Mismatch)) z) c.self.view_is
    (gives (batches_refused c.args.now x s k r ps y heard has c.in-Produce-Produce.is-1 (other_count k ps s y topic count)))

pub answers_each-requires : goal.answers_each-requires
answers_each-requires c =
    let s = seen_of c.self.inside in
    let x = c.args.response.now in
    let k = c.correlation-correlation.result in
    let r = c.in-Some.request.now in
    let heard : IsHeard x s k r = record {
      going = ap (λ (z : Core). z.ended) c.self.view_is ∙ c.requires;
      named = awaited-is x.correlation s (Some r) c.deref.result.now (search rules) c.deref.ensures.value c.in-Some.ensures;
      under = c.correlation-correlation.ensures;
    } in
    let ps = c.deref-in-Produce-Produce.result.now in
    let has : r.demand ≡ Produce ps = sym c.demand.ensures ∙ ap demand_of c.in-Produce-Produce.is-0 ∙ ap Produce (sym c.deref-in-Produce-Produce.ensures.value) in
    subst (λ (ts : List Partition). AllByRecursion (λ p. p < length ts) ps) (sym c.all.ensures)
    (asked x.correlation s r ps c.self.invariant.order heard.named has).0

pub returns-then-not-answers_each : goal.returns-then-not-answers_each
returns-then-not-answers_each c =
    let s = seen_of c.self.inside in
    let x = c.args.response.now in
    let k = c.correlation-correlation.result in
    let r = c.in-Some.request.now in
    let heard : IsHeard x s k r = record {
      going = ap (λ (z : Core). z.ended) c.self.view_is ∙ c.requires;
      named = awaited-is x.correlation s (Some r) c.deref.result.now (search rules) c.deref.ensures.value c.in-Some.ensures;
      under = c.correlation-correlation.ensures;
    } in
    let y = c.in-Produce-Produce.response in
    let ps = c.in-Produce-Produce.chosen.items in
    let has : r.demand ≡ Produce ps = sym c.demand.ensures ∙ ap demand_of c.in-Produce-Produce.is-0 in
    let topic : is_one_topic s.names.topic y.topics ≡ true = sym c.in-Some-entries_of_topic.ensures.one in
    let size : c.len.result ≡ length ps = search rules in
    let count : (length (entries_of y) == length ps) ≡ true = eq-eqb (length (entries_of y)) (length ps) (sym (ap length c.in-Some-entries_of_topic.ensures.entries) ∙ c.if-entries-len.false ∙ size) in
    let found = c.in-Ok.found.items in
    let counted : c.len-in-Produce-Produce.result ≡ length s.partitions = search rules in
    let made : AreEntries c.len-in-Produce-Produce.result c.in-Some-entries_of_topic.entries.now c.in-Ok.found.items = c.in-Ok.ensures in
    let entries : AreEntries (length s.partitions) (entries_of y) found =
    subst (λ (n : ℕ). AreEntries n (entries_of y) found) counted
    (subst (λ (es : List PartitionProduceResponse). AreEntries c.len-in-Produce-Produce.result es found) c.in-Some-entries_of_topic.ensures.entries
    (subst (λ (f : List Entry). AreEntries c.len-in-Produce-Produce.result c.in-Some-entries_of_topic.entries.now f) (sym refl) made)) in
    let each : c.answers_each.result ≡ list_all (λ p. answers_one (entries_of y) k p (partition_at p s.partitions)) ps =
    each-is s k y c.all.ensures c.deref-in-Produce-Produce.ensures.value c.deref-in-Produce-Produce-2.ensures.value entries c.answers_each.ensures in
    subst (λ (z : Core). Gives (response_step c.args.now x z) (Err (ReplyFault Mismatch)) z) c.self.view_is
    (gives (batches_refused c.args.now x s k r ps y heard has c.in-Produce-Produce.is-1 (each_says k ps s y topic count ∙ sym each ∙ c.if-not-answers_each.true)))

pub settle_each-requires : goal.settle_each-requires
settle_each-requires c =
    let s = seen_of c.self.inside in
    let x = c.args.response.now in
    let k = c.correlation-correlation.result in
    let r = c.in-Some.request.now in
    let heard : IsHeard x s k r = record {
      going = ap (λ (z : Core). z.ended) c.self.view_is ∙ c.requires;
      named = awaited-is x.correlation s (Some r) c.deref.result.now (search rules) c.deref.ensures.value c.in-Some.ensures;
      under = c.correlation-correlation.ensures;
    } in
    let y = c.in-Produce-Produce.response in
    let ps = c.deref-in-Produce-Produce-3.result.now in
    let places : ps ≡ c.in-Produce-Produce.chosen.items = c.deref-in-Produce-Produce-3.ensures.value in
    let has : r.demand ≡ Produce ps = sym c.demand.ensures ∙ ap demand_of c.in-Produce-Produce.is-0 ∙ ap Produce (sym places) in
    let found = c.deref-in-Produce-Produce-4.result.now in
    let counted : c.len-in-Produce-Produce.result ≡ length s.partitions = search rules in
    let made : AreEntries c.len-in-Produce-Produce.result c.in-Some-entries_of_topic.entries.now c.in-Ok.found.items = c.in-Ok.ensures in
    let entries : AreEntries (length s.partitions) (entries_of y) found =
    subst (λ (n : ℕ). AreEntries n (entries_of y) found) counted
    (subst (λ (es : List PartitionProduceResponse). AreEntries c.len-in-Produce-Produce.result es found) c.in-Some-entries_of_topic.ensures.entries
    (subst (λ (f : List Entry). AreEntries c.len-in-Produce-Produce.result c.in-Some-entries_of_topic.entries.now f) (sym c.deref-in-Produce-Produce-4.ensures.value) made)) in
    let each : c.answers_each.result ≡ list_all (λ p. answers_one (entries_of y) k p (partition_at p s.partitions)) ps =
    each-is s k y c.all.ensures (c.deref-in-Produce-Produce.ensures.value ∙ sym places) (c.deref-in-Produce-Produce-2.ensures.value ∙ sym c.deref-in-Produce-Produce-4.ensures.value) entries c.answers_each.ensures in
    let answered : AreAnswered s k ps y found = are_answered c.self.invariant.order heard has entries (sym each ∙ c.if-not-answers_each.false) in
    record {
      there = answered.there;
      once = answered.once;
      entries = answered.entries.count;
      offsets = offsets_given answered;
      covered = covers_answered c.args.now c.self.invariant answered;
    }

pub invariant_of-self : goal.invariant_of-self
invariant_of-self c =
    let s = seen_of c.self.inside in
    let x = c.args.response.now in
    let k = c.correlation-correlation.result in
    let r = c.in-Some.request.now in
    let heard : IsHeard x s k r = record {
      going = ap (λ (z : Core). z.ended) c.self.view_is ∙ c.requires;
      named = awaited-is x.correlation s (Some r) c.deref.result.now (search rules) c.deref.ensures.value c.in-Some.ensures;
      under = c.correlation-correlation.ensures;
    } in
    let y = c.in-Produce-Produce.response in
    let ps = c.deref-in-Produce-Produce-3.result.now in
    let places : ps ≡ c.in-Produce-Produce.chosen.items = c.deref-in-Produce-Produce-3.ensures.value in
    let has : r.demand ≡ Produce ps = sym c.demand.ensures ∙ ap demand_of c.in-Produce-Produce.is-0 ∙ ap Produce (sym places) in
    let found = c.deref-in-Produce-Produce-4.result.now in
    let counted : c.len-in-Produce-Produce.result ≡ length s.partitions = search rules in
    let made : AreEntries c.len-in-Produce-Produce.result c.in-Some-entries_of_topic.entries.now c.in-Ok.found.items = c.in-Ok.ensures in
    let entries : AreEntries (length s.partitions) (entries_of y) found =
    subst (λ (n : ℕ). AreEntries n (entries_of y) found) counted
    (subst (λ (es : List PartitionProduceResponse). AreEntries c.len-in-Produce-Produce.result es found) c.in-Some-entries_of_topic.ensures.entries
    (subst (λ (f : List Entry). AreEntries c.len-in-Produce-Produce.result c.in-Some-entries_of_topic.entries.now f) (sym c.deref-in-Produce-Produce-4.ensures.value) made)) in
    let each : c.answers_each.result ≡ list_all (λ p. answers_one (entries_of y) k p (partition_at p s.partitions)) ps =
    each-is s k y c.all.ensures (c.deref-in-Produce-Produce.ensures.value ∙ sym places) (c.deref-in-Produce-Produce-2.ensures.value ∙ sym c.deref-in-Produce-Produce-4.ensures.value) entries c.answers_each.ensures in
    let answered : AreAnswered s k ps y found = are_answered c.self.invariant.order heard has entries (sym each ∙ c.if-not-answers_each.false) in
    let d = c.self.inside.desk in
    let e = c.settle_each.new.desk in
    let were : WereSettled c.args.now k ps found s c.settle_each.new.self c.keep_live.new.requests.items c.is_still_exhausted-self-inside.result d e = record {
      reports = refl;
      changed = c.settle_each.ensures.after;
      told = c.settle_each.ensures.told;
      live = c.keep_live.ensures ∙ ap (λ (ts : List Partition). filter (is_live ts) s.requests) c.all-in-Produce-Produce.ensures;
      memory = c.is_still_exhausted-self-inside.ensures ∙ ap (λ (n : ℕ). c.self.inside.exhausted && (n == 0)) (omega (arith, c.untold-untold.ensures, c.untold.ensures));
    } in
    batches_kept c.self.invariant answered were

pub returns-else-not-answers_each : goal.returns-else-not-answers_each
returns-else-not-answers_each c =
    let s = seen_of c.self.inside in
    let x = c.args.response.now in
    let k = c.correlation-correlation.result in
    let r = c.in-Some.request.now in
    let heard : IsHeard x s k r = record {
      going = ap (λ (z : Core). z.ended) c.self.view_is ∙ c.requires;
      named = awaited-is x.correlation s (Some r) c.deref.result.now (search rules) c.deref.ensures.value c.in-Some.ensures;
      under = c.correlation-correlation.ensures;
    } in
    let y = c.in-Produce-Produce.response in
    let ps = c.deref-in-Produce-Produce-3.result.now in
    let places : ps ≡ c.in-Produce-Produce.chosen.items = c.deref-in-Produce-Produce-3.ensures.value in
    let has : r.demand ≡ Produce ps = sym c.demand.ensures ∙ ap demand_of c.in-Produce-Produce.is-0 ∙ ap Produce (sym places) in
    let found = c.deref-in-Produce-Produce-4.result.now in
    let counted : c.len-in-Produce-Produce.result ≡ length s.partitions = search rules in
    let made : AreEntries c.len-in-Produce-Produce.result c.in-Some-entries_of_topic.entries.now c.in-Ok.found.items = c.in-Ok.ensures in
    let entries : AreEntries (length s.partitions) (entries_of y) found =
    subst (λ (n : ℕ). AreEntries n (entries_of y) found) counted
    (subst (λ (es : List PartitionProduceResponse). AreEntries c.len-in-Produce-Produce.result es found) c.in-Some-entries_of_topic.ensures.entries
    (subst (λ (f : List Entry). AreEntries c.len-in-Produce-Produce.result c.in-Some-entries_of_topic.entries.now f) (sym c.deref-in-Produce-Produce-4.ensures.value) made)) in
    let each : c.answers_each.result ≡ list_all (λ p. answers_one (entries_of y) k p (partition_at p s.partitions)) ps =
    each-is s k y c.all.ensures (c.deref-in-Produce-Produce.ensures.value ∙ sym places) (c.deref-in-Produce-Produce-2.ensures.value ∙ sym c.deref-in-Produce-Produce-4.ensures.value) entries c.answers_each.ensures in
    let answered : AreAnswered s k ps y found = are_answered c.self.invariant.order heard has entries (sym each ∙ c.if-not-answers_each.false) in
    let topic : is_one_topic s.names.topic y.topics ≡ true = sym c.in-Some-entries_of_topic.ensures.one in
    let size : c.len.result ≡ length ps = search rules in
    let count : (length (entries_of y) == length ps) ≡ true = eq-eqb (length (entries_of y)) (length ps) (sym (ap length c.in-Some-entries_of_topic.ensures.entries) ∙ c.if-entries-len.false ∙ size) in
    let d = c.self.inside.desk in
    let e = c.settle_each.new.desk in
    let were : WereSettled c.args.now k ps found s c.settle_each.new.self c.keep_live.new.requests.items c.is_still_exhausted-self-inside.result d e = record {
      reports = refl;
      changed = c.settle_each.ensures.after;
      told = c.settle_each.ensures.told;
      live = c.keep_live.ensures ∙ ap (λ (ts : List Partition). filter (is_live ts) s.requests) c.all-in-Produce-Produce.ensures;
      memory = c.is_still_exhausted-self-inside.ensures ∙ ap (λ (n : ℕ). c.self.inside.exhausted && (n == 0)) (omega (arith, c.untold-untold.ensures, c.untold.ensures));
    } in
    let is = batches_heard c.args.now x s k r ps y heard has c.in-Produce-Produce.is-1 (each_says k ps s y topic count ∙ answered.each) in
    let reports : c.untold-untold.result - c.untold.result ≡ (settle_batches c.args.now k ps y s).answer =
    omega (arith, c.untold-untold.ensures, c.untold.ensures, count_settled c.self.invariant answered were) in
    let after : Core = record s {
      partitions = c.settle_each.new.self;
      requests = c.keep_live.new.requests.items;
      exhausted = c.is_still_exhausted-self-inside.result;
      reports = all_reports e;
    } in
    subst (λ (z : Core). Gives (response_step c.args.now x z) (Ok (record { known = true; reports = c.untold-untold.result - c.untold.result })) after) c.self.view_is
    (gives_known c.args.now x s (settle_batches c.args.now k ps y s) is reports (batches-is c.self.invariant answered were))

pub returns-then-not-answers_id : goal.returns-then-not-answers_id
returns-then-not-answers_id c =
    let s = seen_of c.self.inside in
    let x = c.args.response.now in
    let k = c.correlation-correlation.result in
    let r = c.in-Some.request.now in
    let heard : IsHeard x s k r = record {
      going = ap (λ (z : Core). z.ended) c.self.view_is ∙ c.requires;
      named = awaited-is x.correlation s (Some r) c.deref.result.now (search rules) c.deref.ensures.value c.in-Some.ensures;
      under = c.correlation-correlation.ensures;
    } in
    let p = c.in-InitProducerId-InitProducerId.partition in
    let y = c.in-InitProducerId-InitProducerId.response in
    let has : r.demand ≡ InitProducerId p = sym c.demand.ensures ∙ ap demand_of c.in-InitProducerId-InitProducerId.is-0 in
    subst (λ (z : Core). Gives (response_step c.args.now x z) (Err (ReplyFault Mismatch)) z) c.self.view_is
    (gives (id_refused c.args.now x s k r p y heard has c.in-InitProducerId-InitProducerId.is-1 (sym c.if-not-answers_id.ensures)))

pub returns-else-not-answers_id : goal.returns-else-not-answers_id
returns-else-not-answers_id c =
    let s = seen_of c.self.inside in
    let x = c.args.response.now in
    let k = c.correlation-correlation.result in
    let r = c.in-Some.request.now in
    let heard : IsHeard x s k r = record {
      going = ap (λ (z : Core). z.ended) c.self.view_is ∙ c.requires;
      named = awaited-is x.correlation s (Some r) c.deref.result.now (search rules) c.deref.ensures.value c.in-Some.ensures;
      under = c.correlation-correlation.ensures;
    } in
    let p = c.in-InitProducerId-InitProducerId.partition in
    let y = c.in-InitProducerId-InitProducerId.response in
    let has : r.demand ≡ InitProducerId p = sym c.demand.ensures ∙ ap demand_of c.in-InitProducerId-InitProducerId.is-0 in
    hears_id c.args.now p x c.args.self.now c.settle_id.new.self y c.settle_id.result
    (subst (λ (z : Core). response_step c.args.now x z ≡ known (quietly (settle_id c.args.now p y z) 0)) c.self.view_is
    (id_heard c.args.now x s k r p y heard has c.in-InitProducerId-InitProducerId.is-1 (sym c.if-not-answers_id.ensures)))
    c.settle_id.ensures.ok c.settle_id.ensures.err

pub returns-in_default-2 : goal.returns-in_default-2
returns-in_default-2 c =
    let s = seen_of c.self.inside in
    let x = c.args.response.now in
    let k = c.correlation-correlation.result in
    let r = c.in-Some.request.now in
    let heard : IsHeard x s k r = record {
      going = ap (λ (z : Core). z.ended) c.self.view_is ∙ c.requires;
      named = awaited-is x.correlation s (Some r) c.deref.result.now (search rules) c.deref.ensures.value c.in-Some.ensures;
      under = c.correlation-correlation.ensures;
    } in
    let has : r.demand ≡ Produce c.in_default-2.field-0-0.items = sym c.demand.ensures ∙ ap demand_of c.in_default-2.is-0 in
    subst (λ (z : Core). Gives (response_step c.args.now x z) (Err (ReplyFault Mismatch)) z) c.self.view_is
    (gives (other_refused c.args.now x s k r (Produce c.in_default-2.field-0-0.items) x.body heard has refl (λ ps y e f. c.in_default-2.not-Produce-1 y f) (λ p y e f. absurd cc)))

pub returns-in_default-2-2 : goal.returns-in_default-2-2
returns-in_default-2-2 c =
    let s = seen_of c.self.inside in
    let x = c.args.response.now in
    let k = c.correlation-correlation.result in
    let r = c.in-Some.request.now in
    let heard : IsHeard x s k r = record {
      going = ap (λ (z : Core). z.ended) c.self.view_is ∙ c.requires;
      named = awaited-is x.correlation s (Some r) c.deref.result.now (search rules) c.deref.ensures.value c.in-Some.ensures;
      under = c.correlation-correlation.ensures;
    } in
    let has : r.demand ≡ InitProducerId c.in_default-2.field-0-0 = sym c.demand.ensures ∙ ap demand_of c.in_default-2.is-0 in
    subst (λ (z : Core). Gives (response_step c.args.now x z) (Err (ReplyFault Mismatch)) z) c.self.view_is
    (gives (other_refused c.args.now x s k r (InitProducerId c.in_default-2.field-0-0) x.body heard has refl (λ ps y e f. absurd cc) (λ p y e f. c.in_default-2.not-InitProducerId-1 y f)))
