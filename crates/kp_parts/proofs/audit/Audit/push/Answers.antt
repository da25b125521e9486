use Rattle.std.proofs.Common.{◌≡◌, ◌∙◌, ◌-◌, ◌<◌, ℕ, length, List, ◌++◌, ◌∷◌, [], get_or, true, sym, ap, subst, rules, arith}
use Rattle.std.specs.Prelude.{slice_set}
use Rattle.kp_rules.specs.declared.run.Run.{Run}
use Rattle.kp_rules.specs.HandingOver.{goes_on, with_audited}
use Rattle.kp_parts.proofs.AuditLemmas.{one_more, audited_in_last, audited_apart}
use Rattle.kp_parts.proofs.audit.Audit.push.Goals as goal

pub returns-then-last_goes_on-clause-runs : goal.returns-then-last_goes_on-clause-runs
returns-then-last_goes_on-clause-runs c =
    let rs = c.self.inside.runs.items in
    let item = c.args.item.now in
    let at : c.len-last.result ≡ length rs = search rules in
    let last = c.index_mut.result.now in
    let here = c.index_mut.ensures.value in
    let viewed : rs ≡ c.args.self.now.runs = search rules in
    let read : c.deref.result.now ≡ rs = c.deref.ensures.value in
    let some : 0 < length c.deref.result.now = c.last_goes_on.ensures.some c.if-last_goes_on.true in
    let filled : 0 < length rs = omega (arith, some, ap (λ (z : List Run). length z) read) in
    let place : length rs - 1 ≡ c.len-last.result - 1 = omega (arith, at) in
    let goes : goes_on item (get_or c.deref.result.now (length c.deref.result.now - 1) last) ≡ true =
    sym (c.last_goes_on.ensures.last last some) ∙ c.if-last_goes_on.true in
    let joined : goes_on item (get_or rs (c.len-last.result - 1) last) ≡ true =
    ap (λ (n : ℕ). goes_on item (get_or rs n last)) (sym place)
    ∙ subst (λ (z : List Run). goes_on item (get_or z (length z - 1) last) ≡ true) read goes in
    ap (slice_set rs (c.len-last.result - 1)) (ap one_more here)
    ∙ sym (audited_in_last item rs (c.len-last.result - 1) last (omega (arith, at, filled)) joined)
    ∙ ap (with_audited item) viewed

pub returns-clause-runs : goal.returns-clause-runs
returns-clause-runs c =
    let rs = c.self.inside.runs.items in
    let item = c.args.item.now in
    let viewed : rs ≡ c.args.self.now.runs = search rules in
    let apart = λ (d : Run) (some : 0 < length c.deref.result.now). sym c.if-last_goes_on.false ∙ c.last_goes_on.ensures.last d some in
    c.push_reserved.ensures.items
    ∙ ap (λ (z : Run). rs ++ z ∷ []) c.run_of.ensures
    ∙ sym (rw c.deref.ensures.value at (audited_apart item c.deref.result.now apart))
    ∙ ap (with_audited item) viewed
