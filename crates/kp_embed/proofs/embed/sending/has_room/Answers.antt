use Rattle.std.proofs.Common.{inl, inr, ℕ, ◌<◌, ◌≤◌, ◌^◌, ap, arith, rules}
use Rattle.std.proofs.lemmas.Bool.{cases_lt}
use Rattle.kp_accum.specs.declared.config.Config.{Config}
use Rattle.kp_embed.proofs.SendLemmas.{above_limit}
use Rattle.kp_embed.proofs.embed.sending.has_room.Goals as goal

outside : (n : ℕ) → (n < 2 ^ 64 → ⊥) → 2 ^ 64 ≤ n
outside n isnt = elim (cases_lt n (2 ^ 64)) [
  | inl lt ↦ absurd (isnt lt)
  | inr le ↦ le
]

pub returns-in-None-clause-exact : goal.returns-in-None-clause-exact
returns-in-None-clause-exact c =
    let limit = ap (λ (x : Config). x.buffer_memory) c.config.ensures in
    let fits : c.config.result.now.buffer_memory < 2 ^ 64 = search rules in
    let past = outside _ c.in-None.ensures in
    above_limit _ _ (omega (arith, c.used.ensures, limit, fits, past))
