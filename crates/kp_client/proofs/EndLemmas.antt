-- To what a service has come.
use Rattle.std.proofs.Common.{◌≡◌, refl, sym, ap, ◌∙◌, subst, inl, inr, ⊎_elim}
use Rattle.kp_engine.specs.declared.parts.Held.{Held}
use Rattle.kp_lanes.specs.declared.intake.Intake.{Intake}
use Rattle.kp_client.specs.Ends.{Looks, StaysEnded, WasServed, WasUnserved}
use Rattle.kp_client.specs.Left.{ending_of, parts_in}
use Rattle.kp_client.specs.declared.left.Ended.{Ended}

pub still_looks : (t u : Intake) → u ≡ t → Looks t u
still_looks t u same = subst (λ (v : Intake). Looks t v) (sym same) (record { lanes = refl; limits = refl; passed = refl; taken = refl; told = refl })

pub looks_on : (t u v : Intake) → Looks t u → Looks u v → Looks t v
looks_on t u v h g = record {
  lanes = g.lanes ∙ h.lanes;
  limits = g.limits ∙ h.limits;
  passed = g.passed ∙ h.passed;
  taken = g.taken ∙ h.taken;
  told = g.told ∙ h.told;
}

-- The senders' ends looked, and all else stays.
pub stays_ended : (old new : Ended) → Looks (parts_in old).intake (parts_in new).intake → (parts_in new).core ≡ (parts_in old).core → (parts_in new).held ≡ (parts_in old).held
    → ending_of new ≡ ending_of old → StaysEnded old new
stays_ended old new looks core held ending given lanes h = record {
  calls = h.calls;
  how = ⊎_elim
      (λ (s : WasServed given lanes h.calls old). inl (record {
        parts = s.parts;
        engine = s.engine;
        same_core = core ∙ s.same_core;
        same_held = held ∙ s.same_held;
        looks = looks_on s.parts.intake (parts_in old).intake (parts_in new).intake s.looks looks;
        done = λ is. s.done (sym ending ∙ is);
        gave_up = λ cause is. s.gave_up cause (sym ending ∙ is);
        spent = λ is. s.spent (sym ending ∙ is);
      }))
      (λ (u : WasUnserved given lanes h.calls old). inr (record {
        may_turn = u.may_turn;
        no_call = u.no_call;
        same_core = core ∙ u.same_core;
        no_item = ap (λ (q : Held). q.items.items) held ∙ u.no_item;
        no_report = ap (λ (q : Held). q.reports.items) held ∙ u.no_report;
        looks = looks_on lanes (parts_in old).intake (parts_in new).intake u.looks looks;
        not_done = λ is. u.not_done (sym ending ∙ is);
      }))
      h.how;
}
