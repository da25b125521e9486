-- An engine may be made of a new core and of new lanes.
use Rattle.std.proofs.Common.{◌≡◌, ℕ, ◌≤◌, Bool, true, false, [], length, sym, ap, refl, ◌∙◌, subst, arith}
use Rattle.std.specs.Prelude.{All, replicate}
use Rattle.std.proofs.lemmas.List.{length-map, length-replicate}
use Rattle.kp_accum.specs.declared.config.Config.{Config}
use Rattle.kp_lanes.specs.Intake.{lanes_of, intake_limits, passed_lists, told_lists}
use Rattle.kp_lanes.specs.declared.intake.Intake.{Intake}
use Rattle.kp_lanes.specs.declared.limits.Limits.{Limits}
use Rattle.kp_rules.specs.Auditing.{opened, without_audits, unaudited}
use Rattle.kp_rules.specs.Opening.{MayOpen, new_core}
use Rattle.kp_rules.specs.Partitions.{new_partition}
use Rattle.kp_rules.specs.Records.{Core}
use Rattle.kp_rules.specs.declared.names.Names.{Names}
use Rattle.kp_engine.specs.Opening.{MayTurn}

module _ (c : Config) (names : Names) (partitions senders id correlation : ℕ) where
  abbrev new : Bool → Core
  new audits = opened audits (new_core c names partitions senders id correlation)

  reports_in : (audits : Bool) → length (new audits).reports ≡ senders
  unfolding new_core without_audits
  reports_in true = length-replicate senders []
  reports_in false = length-replicate senders []

  partitions_in : (audits : Bool) → length (new audits).partitions ≡ partitions
  unfolding new_core without_audits
  partitions_in true = length-replicate partitions (new_partition id)
  partitions_in false = length-map (replicate partitions (new_partition id)) unaudited ∙ length-replicate partitions (new_partition id)

  config_in : (audits : Bool) → (new audits).config ≡ c
  unfolding new_core without_audits
  config_in true = refl
  config_in false = refl

  pub may_turn : (audits : Bool) (core : Core) (intake : Intake) (most : ℕ) → core ≡ new audits → MayOpen c names partitions senders id correlation
      → length (lanes_of intake) ≡ senders → intake_limits intake ≡ record { partitions = partitions; max_record = most }
      → most ≤ c.max_request_size → most ≤ c.buffer_memory
      → All (λ l. l ≡ []) (passed_lists intake) → All (λ l. l ≡ []) (told_lists intake) → MayTurn core intake
  may_turn audits core intake most is may lanes limits request memory passed told =
      let same : core.config ≡ c = ap (λ (s : Core). s.config) is ∙ config_in audits in
      let largest : (intake_limits intake).max_record ≡ most = ap (λ (l : Limits). l.max_record) limits in record {
        fresh = record {
          audits = audits;
          config = c;
          names = names;
          partitions = partitions;
          senders = senders;
          id = id;
          correlation = correlation;
          may = may;
          is = is;
        };
        senders = lanes ∙ sym (ap (λ (s : Core). length s.reports) is ∙ reports_in audits);
        partitions = ap (λ (l : Limits). l.partitions) limits ∙ sym (ap (λ (s : Core). length s.partitions) is ∙ partitions_in audits);
        request = subst (λ (k : Config). (intake_limits intake).max_record ≤ k.max_request_size) (sym same) (omega (arith, largest, request));
        memory = subst (λ (k : Config). (intake_limits intake).max_record ≤ k.buffer_memory) (sym same) (omega (arith, largest, memory));
        nothing_passed = passed;
        nothing_told = told;
      }
