use Rattle.std.proofs.Common.{rules, ◌≡◌, ◌≢◌, ◌<◌, length, get_or, sym, ap, ◌∙◌, subst, arith}
use Rattle.std.proofs.lemmas.List.{length-map}
use mathlib.Core.Logic.{dite}
use native.Mathlib.Decide.{ℕ_discrete}
use Rattle.kp_lanes.specs.Sender.{finished_number}
use Rattle.kp_lanes.specs.Settling.{numbers}
use Rattle.kp_lanes.proofs.EachLemmas.{here}
use Rattle.kp_lanes.proofs.settling.differ.Goals as goal

pub returns-then-index : goal.returns-then-index
returns-then-index c =
    let fs = c.args.finished.now.items in let j = c.loop-j.j in let k = c.loop-k.k in
    let near_k : k < length fs = omega arith in let near_j : j < length fs = omega arith in
    let at_j : get_or (numbers fs) j 0 ≡ c.index.result.now.outbox.sender = here finished_number fs j c.index.result.now 0 near_j c.index.ensures in
    let at_k : get_or (numbers fs) k 0 ≡ c.index-in-loop-j.result.now.outbox.sender = here finished_number fs k c.index-in-loop-j.result.now 0 near_k c.index-in-loop-j.ensures in
    let alike : c.index.result.now.outbox.sender ≡ c.index-in-loop-j.result.now.outbox.sender = search rules in (
      (λ f. absurd (grind (arith, f))),
      (λ differ. absurd (differ j k (omega arith) (subst (λ n. k < n) (sym (length-map fs finished_number)) near_k) (at_j ∙ (alike ∙ sym at_k)))),
    )

pub loop-j-preserved : goal.loop-j-preserved
loop-j-preserved c a below same =
    let fs = c.args.finished.now.items in let j = c.loop-j.j in let k = c.loop-k.k in
    let near_k : k < length fs = omega arith in let near_j : j < length fs = omega arith in
    let at_j : get_or (numbers fs) j 0 ≡ c.index.result.now.outbox.sender = here finished_number fs j c.index.result.now 0 near_j c.index.ensures in
    let at_k : get_or (numbers fs) k 0 ≡ c.index-in-loop-j.result.now.outbox.sender = here finished_number fs k c.index-in-loop-j.result.now 0 near_k c.index-in-loop-j.ensures in
    let apart : c.index.result.now.outbox.sender ≢ c.index-in-loop-j.result.now.outbox.sender = search rules in
    dite (ℕ_discrete a j)
    (λ is. apart (sym at_j ∙ (ap (λ x. get_or (numbers fs) x 0) (sym is) ∙ (same ∙ at_k))))
    (λ other. c.loop-j.invariant a (omega arith) same)
