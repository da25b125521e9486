use Rattle.std.proofs.Common.{◌≡◌, ◌∙◌, ℕ, length, vec_len, true, false, true≢false, sym, ap, rules}
use Rattle.std.specs.Prelude.{◌==◌, not}
use Rattle.kp_rules.specs.Records.{Partition}
use Rattle.kp_parts.proofs.SendsLemmas.{wants_id-free, wants_id-fenced, wants_id-open}
use Rattle.kp_parts.proofs.partition.Partition.is_stuck.Goals as goal
use Rattle.kp_parts.proofs.partition.Partition.is_stuck.Goals.{then-not-self, else-not-self}

pub returns-then-is_empty : goal.returns-then-is_empty
returns-then-is_empty c =
    let t = c.args.self.now in
    let fenced : c.self.inside.fenced ≡ t.fenced = ap (λ (t : Partition). t.fenced) c.self.view_is in
    let opens : c.self.inside.open_batches.items ≡ t.open_batches = ap (λ (t : Partition). t.open_batches) c.self.view_is in
    let vec : vec_len c.self.inside.open_batches ≡ length c.self.inside.open_batches.items = search rules in
    elim c.if-not-self.branch [
      | then-not-self w ↦
          let free : t.fenced ≡ false = sym fenced ∙ w.if-not-self.true in
          let none : (length t.open_batches == 0) ≡ true = (ap (λ (n : ℕ). n == 0) (sym (vec ∙ ap length opens)) ∙ sym w.is_empty.ensures ∙ sym w.value-is ∙ c.if-is_empty.true) in
          c.is_id_spent.ensures ∙ sym (wants_id-free c.args.config.now t free none)
      | else-not-self w ↦ absurd (true≢false (sym c.if-is_empty.true ∙ w.value-is ∙ ap not w.if-not-self.false))
    ]

pub returns-else-is_empty : goal.returns-else-is_empty
returns-else-is_empty c =
    let t = c.args.self.now in
    let fenced : c.self.inside.fenced ≡ t.fenced = ap (λ (t : Partition). t.fenced) c.self.view_is in
    let opens : c.self.inside.open_batches.items ≡ t.open_batches = ap (λ (t : Partition). t.open_batches) c.self.view_is in
    let vec : vec_len c.self.inside.open_batches ≡ length c.self.inside.open_batches.items = search rules in
    elim c.if-not-self.branch [
      | then-not-self w ↦
          let some : (length t.open_batches == 0) ≡ false = (ap (λ (n : ℕ). n == 0) (sym (vec ∙ ap length opens)) ∙ sym w.is_empty.ensures ∙ sym w.value-is ∙ c.if-is_empty.false) in
          c.if-is_empty.false ∙ sym (wants_id-open c.args.config.now t some)
      | else-not-self w ↦ c.if-is_empty.false ∙ sym (wants_id-fenced c.args.config.now t (sym fenced ∙ w.if-not-self.false))
    ]
