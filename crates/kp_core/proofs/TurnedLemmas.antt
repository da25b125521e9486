-- The turn of a node's partitions goes on.
use Rattle.std.proofs.Common.{◌≡◌, ◌∙◌, ℕ, ◌+◌, ◌-◌, ◌≤◌, not, List, [], ◌∷◌, ◌++◌, length, get_or, Some, None, refl, sym, ap, arith}
use Rattle.std.specs.Prelude.{Option, filter, find, ◌==◌}
use Rattle.std.specs.List.{last_or}
use Rattle.kp_rules.specs.Next.{used_up_to}
use Rattle.kp_rules.specs.Records.{Turn}
use Rattle.kp_rules.specs.Requesting.{turned}

last_or-at : (o : Option ℕ) (n : ℕ) (ns : List ℕ) → last_or o (n ∷ ns) ≡ Some (get_or (n ∷ ns) (length ns) 0)
last_or-at o n [] = refl
last_or-at o n (m ∷ ns) = last_or-at (Some n) m ns

pub last_or-is : (o : Option ℕ) (ns : List ℕ) → 1 ≤ length ns → Some (get_or ns (length ns - 1) 0) ≡ last_or o ns
last_or-is o [] some = absurd (omega arith)
last_or-is o (n ∷ ns) some =
    let at : length (n ∷ ns) - 1 ≡ length ns = omega arith in
    ap (λ (k : ℕ). Some (get_or (n ∷ ns) k 0)) at ∙ sym (last_or-at o n ns)

abbrev pub by_last : ℕ → List Turn → Option ℕ → List Turn
by_last node turns o = elim o [
  | None ↦ turns
  | Some p ↦ filter (λ x. not (x.node == node)) turns ++ (record { node = node; last_used = p }) ∷ []
]

pub turned-is : (node : ℕ) (ps : List ℕ) (turns : List Turn) (o : Option ℕ) → last_or None ps ≡ o → by_last node turns o ≡ turned node ps turns
turned-is node ps turns o e = ap (by_last node turns) (sym e)

abbrev pub by_turn : Option Turn → ℕ
by_turn o = elim o [ None ↦ 0 | Some x ↦ x.last_used + 1 ]

pub used-is : (node : ℕ) (turns : List Turn) (o : Option Turn) → find (λ (x : Turn). x.node == node) turns ≡ o → by_turn o ≡ used_up_to node turns
used-is node turns o e = ap by_turn (sym e)
