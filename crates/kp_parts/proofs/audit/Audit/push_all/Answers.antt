use Rattle.std.proofs.Common.{◌≡◌, ◌∙◌, ◌+◌, ◌-◌, ◌^◌, ◌<◌, suc, ◌∷◌, List, length, drop, get_or, sym, ap, add-one, drop-cons, rules, arith}
use Rattle.std.proofs.lemmas.List.{drop_all}
use Rattle.kp_accum.specs.declared.item.Item.{Item}
use Rattle.kp_rules.specs.declared.run.Run.{Run}
use Rattle.kp_rules.specs.HandingOver.{with_audited, audited}
use Rattle.kp_parts.proofs.AuditLemmas.{audited-cons, audited-none, counts-with_audited, counts-weaker}
use Rattle.kp_parts.proofs.audit.Audit.push_all.Goals as goal

pub push-requires-clause-counts : goal.push-requires-clause-counts
push-requires-clause-counts c =
    counts-weaker (2 ^ 63 + c.loop-item.item-index) (2 ^ 64 - 2) c.loop-item.self.runs (omega arith) c.loop-item.invariant.counts

pub loop-item-preserved : goal.loop-item-preserved
loop-item-preserved c =
    let k = c.loop-item.item-index in
    let items = c.args.items.now in
    let item = c.item-item.result in
    let there : k < length items = search rules in
    let here : get_or items k item ≡ item = sym c.item-item.is in
    let next : drop k items ≡ item ∷ drop (k + 1) items = rw (add-one) (drop-cons items k item there ∙ ap (λ (z : Item). z ∷ drop (suc k) items) here) in
    record {
      runs =
          ap (λ (z : List Run). audited z (drop (k + 1) items)) c.push.ensures.runs
          ∙ sym (audited-cons c.loop-item.self.runs item (drop (k + 1) items))
          ∙ ap (audited c.loop-item.self.runs) (sym next)
          ∙ c.loop-item.invariant.runs;
      room = omega (arith, c.push.ensures.room, c.loop-item.invariant.room);
      counts = rw c.push.ensures.runs (counts-weaker (2 ^ 63 + k + 1) (2 ^ 63 + (k + 1)) (with_audited item c.loop-item.self.runs) (omega arith)
          (counts-with_audited item (2 ^ 63 + k) c.loop-item.self.runs c.loop-item.invariant.counts));
    }

pub returns-clause-runs : goal.returns-clause-runs
returns-clause-runs c =
    let k = c.loop-item.item-index in
    let items = c.args.items.now in
    sym (audited-none c.loop-item.self.runs)
    ∙ ap (audited c.loop-item.self.runs) (sym (drop_all k items (search rules)))
    ∙ c.loop-item.invariant.runs
