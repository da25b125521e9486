use Rattle.std.proofs.Common.{◌≡◌, ◌∙◌, true, false, sym, ap, subst}
use Rattle.std.specs.List.{list_any}
use Rattle.kp_rules.specs.Records.{Effect, Partition}
use Rattle.kp_rules.specs.Tick.{is_open_late}
use Rattle.kp_parts.specs.Desk.{tell_desk, Covers}
use Rattle.kp_parts.proofs.FencingLemmas.{heeded-early, heeded-late}
use Rattle.kp_parts.proofs.partition.Partition.heed_deadlines.Goals as goal

pub fence-requires : goal.fence-requires
fence-requires c =
    let t = c.args.self.now in
    let late = is_open_late c.args.config.now c.args.now in
    let opens = c.deref.ensures.value ∙ ap (λ (t : Partition). t.open_batches) c.self.view_is in
    let is : list_any late t.open_batches ≡ true = ap (list_any late) (sym opens) ∙ sym c.any_late.ensures ∙ c.if-any_late.true in
    subst (λ (x : Effect). Covers c.args.desk.now x.told) (heeded-late c.args.config.now c.args.now t is) c.requires

pub expire_front-requires : goal.expire_front-requires
expire_front-requires c =
    let t = c.args.self.now in
    let late = is_open_late c.args.config.now c.args.now in
    let opens = c.deref.ensures.value ∙ ap (λ (t : Partition). t.open_batches) c.self.view_is in
    let is : list_any late t.open_batches ≡ false = ap (list_any late) (sym opens) ∙ sym c.any_late.ensures ∙ c.if-any_late.false in
    subst (λ (x : Effect). Covers c.args.desk.now x.told) (heeded-early c.args.config.now c.args.now t is) c.requires

pub returns-then-any_late-clause-after : goal.returns-then-any_late-clause-after
returns-then-any_late-clause-after c =
    let t = c.args.self.now in
    let late = is_open_late c.args.config.now c.args.now in
    let opens = c.deref.ensures.value ∙ ap (λ (t : Partition). t.open_batches) c.self.view_is in
    let is : list_any late t.open_batches ≡ true = ap (list_any late) (sym opens) ∙ sym c.any_late.ensures ∙ c.if-any_late.true in
    c.fence.ensures.after ∙ ap (λ (x : Effect). x.after) (sym (heeded-late c.args.config.now c.args.now t is))

pub returns-then-any_late-clause-told : goal.returns-then-any_late-clause-told
returns-then-any_late-clause-told c =
    let t = c.args.self.now in
    let late = is_open_late c.args.config.now c.args.now in
    let opens = c.deref.ensures.value ∙ ap (λ (t : Partition). t.open_batches) c.self.view_is in
    let is : list_any late t.open_batches ≡ true = ap (list_any late) (sym opens) ∙ sym c.any_late.ensures ∙ c.if-any_late.true in
    c.fence.ensures.told ∙ ap (λ (x : Effect). tell_desk x.told c.args.desk.now) (sym (heeded-late c.args.config.now c.args.now t is))

pub returns-else-any_late-clause-after : goal.returns-else-any_late-clause-after
returns-else-any_late-clause-after c =
    let t = c.args.self.now in
    let late = is_open_late c.args.config.now c.args.now in
    let opens = c.deref.ensures.value ∙ ap (λ (t : Partition). t.open_batches) c.self.view_is in
    let is : list_any late t.open_batches ≡ false = ap (list_any late) (sym opens) ∙ sym c.any_late.ensures ∙ c.if-any_late.false in
    c.expire_front.ensures.after ∙ ap (λ (x : Effect). x.after) (sym (heeded-early c.args.config.now c.args.now t is))

pub returns-else-any_late-clause-told : goal.returns-else-any_late-clause-told
returns-else-any_late-clause-told c =
    let t = c.args.self.now in
    let late = is_open_late c.args.config.now c.args.now in
    let opens = c.deref.ensures.value ∙ ap (λ (t : Partition). t.open_batches) c.self.view_is in
    let is : list_any late t.open_batches ≡ false = ap (list_any late) (sym opens) ∙ sym c.any_late.ensures ∙ c.if-any_late.false in
    c.expire_front.ensures.told ∙ ap (λ (x : Effect). tell_desk x.told c.args.desk.now) (sym (heeded-early c.args.config.now c.args.now t is))
