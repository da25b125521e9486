-- Lines that are taken and put back.
use Rattle.std.proofs.Common.{◌≡◌, ◌≢◌, ℕ, List, Option, Some, None, sym, ◌∙◌, subst, ⊎_elim}
use Rattle.std.proofs.lemmas.Bool.{cases_eq}
use Rattle.kp_embed.specs.Lines.{AtNode, SameLines, line_at}
use Rattle.kp_embed.specs.declared.line.Line.{Line}

-- There was none, and so all are as they were.
pub none_taken : (node : ℕ) (a b : List (Option Line)) → line_at node a ≡ None → AtNode node None a b → SameLines a b
none_taken node a b none h k = ⊎_elim
    (λ (same : k ≡ node). subst (λ (n : ℕ). line_at n b ≡ line_at n a) (sym same) (h.its ∙ sym none))
    (λ (other : k ≢ node). h.others k other)
    (cases_eq k node)

-- It was taken, and another put there.
pub put_back : (node : ℕ) (x y : Option Line) (a b c : List (Option Line)) → AtNode node x a b → AtNode node y b c → AtNode node y a c
put_back node x y a b c h k = record { its = k.its; others = λ n other. k.others n other ∙ h.others n other }

-- It was taken, and put there again.
pub put_same : (node : ℕ) (x : Option Line) (line : Line) (a b c : List (Option Line)) → line_at node a ≡ Some line → AtNode node x a b → AtNode node (Some line) b c → SameLines a c
put_same node x line a b c was h k n = ⊎_elim
    (λ (same : n ≡ node). subst (λ (m : ℕ). line_at m c ≡ line_at m a) (sym same) (k.its ∙ sym was))
    (λ (other : n ≢ node). k.others n other ∙ h.others n other)
    (cases_eq n node)
