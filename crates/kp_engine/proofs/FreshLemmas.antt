-- A fresh core, and lanes that go with it, agree.
use Rattle.std.proofs.Common.{◌≡◌, ℕ, zero, suc, ◌≤◌, Bool, true, false, List, [], length, get_or, refl, sym, ap, ◌∙◌, subst, arith}
use Rattle.std.specs.Prelude.{Option, None, All, option_to_list, replicate}
use Rattle.std.specs.List.{flat_map}
use Rattle.std.proofs.lemmas.List.{length-replicate}
use Rattle.kp_accum.specs.declared.config.Config.{Config}
use Rattle.kp_accum.specs.declared.item.Item.{Item}
use Rattle.kp_accum.proofs.QueueLemmas.{allowed}
use Rattle.kp_lanes.specs.declared.intake.Intake.{Intake}
use Rattle.kp_rules.specs.Auditing.{opened, without_audits}
use Rattle.kp_rules.specs.Opening.{new_core}
use Rattle.kp_rules.specs.Records.{Core}
use Rattle.kp_rules.specs.declared.names.Names.{Names}
use Rattle.kp_rules.specs.declared.outcome.Report.{Report}
use Rattle.kp_engine.specs.Agreement.{Agree, held_at}
use Rattle.kp_engine.specs.Opening.{IsFresh, MayTurn}
use Rattle.kp_engine.proofs.AgreementLemmas.{none_some}

pub none_at : {A : Type 0} (n i : ℕ) → held_at {A = A} (replicate n None) i ≡ None
none_at zero i = refl
none_at (suc n) zero = refl
none_at (suc n) (suc i) = none_at n i

pub nothing_at : {A : Type 0} (n i : ℕ) → get_or {A = List A} (replicate n []) i [] ≡ []
nothing_at zero i = refl
nothing_at (suc n) zero = refl
nothing_at (suc n) (suc i) = nothing_at n i

-- nothing is held
pub none_listed : {A : Type 0} (n : ℕ) → flat_map (option_to_list {X = A}) (replicate n None) ≡ []
none_listed zero = refl
none_listed (suc n) = none_listed n

reports_in : (audits : Bool) (c : Config) (names : Names) (partitions senders id correlation : ℕ)
    → (opened audits (new_core c names partitions senders id correlation)).reports ≡ replicate senders []
unfolding new_core without_audits
reports_in true c names partitions senders id correlation = refl
reports_in false c names partitions senders id correlation = refl

config_in : (audits : Bool) (c : Config) (names : Names) (partitions senders id correlation : ℕ)
    → (opened audits (new_core c names partitions senders id correlation)).config ≡ c
unfolding new_core without_audits
config_in true c names partitions senders id correlation = refl
config_in false c names partitions senders id correlation = refl

pub fresh_reports : (core : Core) (f : IsFresh core) → core.reports ≡ replicate f.senders []
fresh_reports core f = ap (λ (s : Core). s.reports) f.is ∙ reports_in f.audits f.config f.names f.partitions f.senders f.id f.correlation

fresh_config : (core : Core) (f : IsFresh core) → core.config ≡ f.config
fresh_config core f = ap (λ (s : Core). s.config) f.is ∙ config_in f.audits f.config f.names f.partitions f.senders f.id f.correlation

pub fresh_agrees : (core : Core) (intake : Intake) → MayTurn core intake
    → Agree core intake (replicate (length core.reports) None) (replicate (length core.reports) None)
fresh_agrees core intake h =
    let n = length core.reports in
    let many : length core.reports ≡ h.fresh.senders = ap length (fresh_reports core h.fresh) ∙ length-replicate h.fresh.senders [] in
    let size : h.fresh.config.max_request_size ≤ 8388608 = (allowed h.fresh.config h.fresh.may.config).request in
    let same : core.config.max_request_size ≡ h.fresh.config.max_request_size = ap (λ (c : Config). c.max_request_size) (fresh_config core h.fresh) in record {
      lanes = h.senders ∙ sym (length-replicate n None);
      senders = sym (length-replicate n None);
      places = length-replicate n None ∙ sym (length-replicate n None);
      few = omega (arith, length-replicate {A = Option Item} n None, many, h.fresh.may.sender_limit);
      serves = record {
        partitions = omega (arith, h.partitions);
        request = h.request;
        memory = h.memory;
        size = omega (arith, h.request, same, size);
      };
      its_item = λ i x is. absurd (none_some (sym (none_at n i) ∙ is));
      may_append = λ i x is. absurd (none_some (sym (none_at n i) ∙ is));
      its_report = λ i r is. absurd (none_some (sym (none_at n i) ∙ is));
      its_waiting = λ i. subst (λ (rs : List Report). All (λ r. r.sender ≡ i) rs)
          (sym (ap (λ (l : List (List Report)). get_or l i []) (fresh_reports core h.fresh) ∙ nothing_at h.fresh.senders i))
          (λ k d near. absurd (omega (arith, near)));
    }
