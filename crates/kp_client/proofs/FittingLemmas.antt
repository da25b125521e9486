-- A new core fits its lanes.
use Rattle.std.proofs.Common.{◌≡◌, ℕ, ◌≤◌, Bool, true, false, [], length, sym, ap, refl, ◌∙◌, subst, arith}
use Rattle.std.specs.Prelude.{All, replicate}
use Rattle.std.proofs.lemmas.List.{length-map, length-replicate}
use Rattle.kp_accum.specs.declared.config.Config.{Config}
use Rattle.kp_hello.specs.declared.hello.Hello.{Hello}
use Rattle.kp_engine.specs.Opening.{MayTurn}
use Rattle.kp_lanes.specs.Intake.{lanes_of, intake_limits, passed_lists, told_lists}
use Rattle.kp_lanes.specs.declared.intake.Intake.{Intake}
use Rattle.kp_lanes.specs.declared.limits.Limits.{Limits}
use Rattle.kp_rules.specs.Auditing.{opened, without_audits, unaudited}
use Rattle.kp_rules.specs.Opening.{MayOpen, new_core}
use Rattle.kp_rules.specs.Partitions.{new_partition}
use Rattle.kp_rules.specs.Records.{Core}
use Rattle.kp_rules.specs.declared.names.Names.{Names}
use Rattle.kp_client.specs.Fitting.{Fits}

pub may_turn : (audits : Bool) (hello : Hello) (core : Core) (intake : Intake) → Fits audits hello core intake → MayTurn core intake
may_turn audits hello core intake f = record {
  fresh = record {
    audits = audits;
    config = core.config;
    names = core.names;
    partitions = hello.partitions;
    senders = length core.reports;
    id = hello.producer_id;
    correlation = hello.next_correlation;
    may = f.may;
    is = f.is;
  };
  senders = f.senders;
  partitions = f.partitions;
  request = f.request;
  memory = f.memory;
  nothing_passed = f.nothing_passed;
  nothing_told = f.nothing_told;
}

module _ (c : Config) (names : Names) (partitions senders id correlation : ℕ) where
  abbrev new : Bool → Core
  new audits = opened audits (new_core c names partitions senders id correlation)

  reports_in : (audits : Bool) → length (new audits).reports ≡ senders
  unfolding new_core without_audits
  reports_in true = length-replicate senders []
  reports_in false = length-replicate senders []

  partitions_in : (audits : Bool) → length (new audits).partitions ≡ partitions
  unfolding new_core without_audits
  partitions_in true = length-replicate partitions (new_partition id)
  partitions_in false = length-map (replicate partitions (new_partition id)) unaudited ∙ length-replicate partitions (new_partition id)

  config_in : (audits : Bool) → (new audits).config ≡ c
  unfolding new_core without_audits
  config_in true = refl
  config_in false = refl

  names_in : (audits : Bool) → (new audits).names ≡ names
  unfolding new_core without_audits
  names_in true = refl
  names_in false = refl

pub fits : (audits : Bool) (hello : Hello) (c : Config) (names : Names) (senders most : ℕ) (core : Core) (intake : Intake)
    → core ≡ opened audits (new_core c names hello.partitions senders hello.producer_id hello.next_correlation)
    → MayOpen c names hello.partitions senders hello.producer_id hello.next_correlation
    → length (lanes_of intake) ≡ senders → intake_limits intake ≡ record { partitions = hello.partitions; max_record = most }
    → most ≤ c.max_request_size → most ≤ c.buffer_memory
    → All (λ l. l ≡ []) (passed_lists intake) → All (λ l. l ≡ []) (told_lists intake) → Fits audits hello core intake
fits audits hello c names senders most core intake is may lanes limits request memory passed told =
    let p = hello.partitions in
    let id = hello.producer_id in
    let k = hello.next_correlation in
    let its_config : core.config ≡ c = ap (λ (s : Core). s.config) is ∙ config_in c names p senders id k audits in
    let its_names : core.names ≡ names = ap (λ (s : Core). s.names) is ∙ names_in c names p senders id k audits in
    let its_senders : length core.reports ≡ senders = ap (λ (s : Core). length s.reports) is ∙ reports_in c names p senders id k audits in
    let its_partitions : length core.partitions ≡ p = ap (λ (s : Core). length s.partitions) is ∙ partitions_in c names p senders id k audits in
    let largest : (intake_limits intake).max_record ≡ most = ap (λ (l : Limits). l.max_record) limits in record {
      may = subst (λ (d : Config). MayOpen d core.names p (length core.reports) id k) (sym its_config)
          (subst (λ (n : Names). MayOpen c n p (length core.reports) id k) (sym its_names)
          (subst (λ (n : ℕ). MayOpen c names p n id k) (sym its_senders) may));
      is = subst (λ (d : Config). core ≡ opened audits (new_core d core.names p (length core.reports) id k)) (sym its_config)
          (subst (λ (n : Names). core ≡ opened audits (new_core c n p (length core.reports) id k)) (sym its_names)
          (subst (λ (n : ℕ). core ≡ opened audits (new_core c names p n id k)) (sym its_senders) is));
      senders = lanes ∙ sym its_senders;
      partitions = ap (λ (l : Limits). l.partitions) limits ∙ sym its_partitions;
      request = subst (λ (d : Config). (intake_limits intake).max_record ≤ d.max_request_size) (sym its_config) (omega (arith, largest, request));
      memory = subst (λ (d : Config). (intake_limits intake).max_record ≤ d.buffer_memory) (sym its_config) (omega (arith, largest, memory));
      nothing_passed = passed;
      nothing_told = told;
    }
