-- A new core is kept.
use Rattle.std.proofs.Common.{◌≡◌, ◌∙◌, ℕ, zero, suc, Bool, true, false, List, [], ◌∷◌, length, map, refl, sym, ap, subst, arith}
use Rattle.std.specs.Prelude.{flat_map, replicate, sum_by, if◌then◌else◌}
use Rattle.std.specs.Str.{IsUtf8}
use Rattle.kp_accum.specs.declared.config.Config.{Config}
use Rattle.kp_accum.specs.declared.item.Item.{Item}
use Rattle.kp_accum.specs.Queue.{charge_of}
use Rattle.kp_rules.specs.declared.names.Names.{Names}
use Rattle.kp_rules.specs.declared.outcome.Outcome.TheVariants.{Unknown}
use Rattle.kp_rules.specs.declared.outcome.Report.{Report}
use Rattle.kp_rules.specs.Auditing.{opened, unaudited, without_audits}
use Rattle.kp_rules.specs.InOrder.{IsInOrder}
use Rattle.kp_rules.specs.Opening.{MayOpen, new_core}
use Rattle.kp_rules.specs.Partitions.{new_partition, untold, used}
use Rattle.kp_rules.specs.Records.{Partition, Request, Turn}
use Rattle.kp_rules.specs.Telling.{told_all}
use Rattle.kp_rules.proofs.OrderedCallLemmas.{new_in_order, order_unaudited}
use Rattle.kp_parts.specs.Desk.{Desk, HavePlaces, all_reports, new_desk}
use Rattle.kp_parts.proofs.DeskKeeping.{all_reports-new}
use Rattle.kp_core.specs.Keeping.{IsKept}

abbrev first_partition : Bool → ℕ → Partition
first_partition audits id = if audits then new_partition id else unaudited (new_partition id)

-- ---- what it is

replicated : (n id : ℕ) → map unaudited (replicate n (new_partition id)) ≡ replicate n (unaudited (new_partition id))
replicated zero id = refl
replicated (suc n) id = ap (λ (ts : List Partition). unaudited (new_partition id) ∷ ts) (replicated n id)

pub opened-is : (audits : Bool) (c : Config) (n : Names) (partitions senders id correlation : ℕ) (ts : List Partition) (requests : List Request) (turns : List Turn) (reports : List (List Report))
    → ts ≡ replicate partitions (first_partition audits id) → requests ≡ [] → turns ≡ [] → reports ≡ replicate senders []
    → record (new_core c n partitions senders id correlation) { partitions = ts; requests = requests; turns = turns; reports = reports }
    ≡ opened audits (new_core c n partitions senders id correlation)
unfolding new_core without_audits
opened-is true c n partitions senders id correlation ts requests turns reports e f h g = cc
opened-is false c n partitions senders id correlation ts requests turns reports e f h g = let made = replicated partitions id in cc

-- ---- nothing is untold

none_untold : (audits : Bool) (n id : ℕ) → flat_map untold (replicate n (first_partition audits id)) ≡ []
unfolding untold
none_untold audits zero id = refl
none_untold true (suc n) id = none_untold true n id
none_untold false (suc n) id = none_untold false n id

opened_order : (audits : Bool) (c : Config) (n : Names) (partitions senders id correlation : ℕ) → MayOpen c n partitions senders id correlation
    → IsUtf8 n.topic → IsUtf8 n.client → IsInOrder (opened audits (new_core c n partitions senders id correlation))
opened_order true c n partitions senders id correlation may topic client = new_in_order c n partitions senders id correlation may topic client
opened_order false c n partitions senders id correlation may topic client =
    order_unaudited (new_core c n partitions senders id correlation) (new_in_order c n partitions senders id correlation may topic client)

pub opened_kept : (audits : Bool) (c : Config) (n : Names) (partitions senders id correlation : ℕ) (ts : List Partition) (requests : List Request) (turns : List Turn) (d : Desk)
    → MayOpen c n partitions senders id correlation → IsUtf8 n.topic → IsUtf8 n.client
    → ts ≡ replicate partitions (first_partition audits id) → requests ≡ [] → turns ≡ [] → d ≡ new_desk senders c.buffer_memory
    → IsKept (record (new_core c n partitions senders id correlation) { partitions = ts; requests = requests; turns = turns; reports = all_reports d }) d
unfolding new_core used
opened_kept audits c n partitions senders id correlation ts requests turns d may topic client made idle none_went desk =
    let reports : all_reports d ≡ replicate senders [] = ap all_reports desk ∙ all_reports-new senders c.buffer_memory in
    let none : flat_map untold ts ≡ [] = ap (flat_map untold) made ∙ none_untold audits partitions id in
    record {
      order = subst IsInOrder (sym (opened-is audits c n partitions senders id correlation ts requests turns (all_reports d) made idle none_went reports))
          (opened_order audits c n partitions senders id correlation may topic client);
      places = subst (λ (items : List Item). HavePlaces d.lines (told_all Unknown items)) (sym none) (record { places = λ sender. omega arith });
      untold = ap (λ (x : Desk). x.untold) desk ∙ ap (λ (items : List Item). length items) (sym none);
      used = ap (λ (x : Desk). x.used) desk ∙ ap (λ (items : List Item). sum_by charge_of items) (sym none);
      limit = ap (λ (x : Desk). x.limit) desk;
    }
