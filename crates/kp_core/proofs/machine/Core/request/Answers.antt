use Rattle.std.proofs.Common.{◌≡◌, ◌∙◌, ◌<◌, length, None, sym, ap, subst, eqb-true}
use Rattle.std.specs.List.{AllByRecursion}
use Rattle.std.proofs.lemmas.List.{nil_from_length}
use Rattle.kp_rules.specs.Next.{next_demand}
use Rattle.kp_rules.specs.Records.{Core}
use Rattle.kp_core.specs.ByLeader.{work_in}
use Rattle.kp_core.specs.Keeping.{seen_of}
use Rattle.kp_core.proofs.RequestStepLemmas.{an_id, answers_none, no_window}
use Rattle.kp_core.proofs.SilentLemmas.{wants_nothing}
use Rattle.kp_core.proofs.WorkLemmas.{work_there}
use Rattle.kp_core.proofs.machine.Core.request.Goals as goal
use Rattle.kp_core.proofs.machine.Core.request.Goals.{then-is_empty-via-then-is_empty, then-is_empty-via-else-is_empty+then-not-has_window}

pub returns-then-is_empty : goal.returns-then-is_empty
returns-then-is_empty c =
    let s = c.args.self.now in
    let its : c.led_by-places.result.now ≡ work_in c.args.node s.partitions =
    c.led_by-places.ensures ∙ ap (λ (x : Core). work_in c.args.node x.partitions) c.self.view_is in
    let nothing : next_demand c.args.node c.args.now s ≡ None =
    elim c.then-is_empty.branch [
      | then-is_empty-via-then-is_empty w ↦ wants_nothing c.args.node c.args.now s (sym its ∙ nil_from_length c.led_by-places.result.now (eqb-true (length c.led_by-places.result.now) 0 (sym c.is_empty.ensures ∙ w.if-is_empty.true)))
      | then-is_empty-via-else-is_empty+then-not-has_window w ↦ no_window c.args.node c.args.now s (sym w.has_window.ensures ∙ w.if-not-has_window.true)
    ] in
    answers_none c.args.node c.args.now s c.requires nothing

pub next_asking-requires : goal.next_asking-requires
next_asking-requires c =
    let s = seen_of c.self.inside in
    let there : AllByRecursion (λ p. p < length s.partitions) c.led_by-places.result.now =
    subst (AllByRecursion (λ p. p < length s.partitions)) (sym c.led_by-places.ensures) (work_there c.args.node s.partitions) in
    subst (λ (x : Core). AllByRecursion (λ p. p < length x.partitions) c.led_by-places.result.now) c.self.view_is there

pub ask_for_id-requires-clause-demand : goal.ask_for_id-requires-clause-demand
ask_for_id-requires-clause-demand c =
    let s = c.args.self.now in
    let its : c.led_by-places.result.now ≡ work_in c.args.node s.partitions =
    c.led_by-places.ensures ∙ ap (λ (x : Core). work_in c.args.node x.partitions) c.self.view_is in
    an_id c.args.node c.args.now c.in-Some.partition s (sym c.has_window.ensures ∙ c.if-not-has_window.false) (sym (c.next_asking.ensures c.args.node its) ∙ c.in-Some.is)

pub send_batches-requires-clause-asking : goal.send_batches-requires-clause-asking
send_batches-requires-clause-asking c =
    let its : c.led_by-places.result.now ≡ work_in c.args.node c.args.self.now.partitions =
    c.led_by-places.ensures ∙ ap (λ (x : Core). work_in c.args.node x.partitions) c.self.view_is in
    sym (c.next_asking.ensures c.args.node its) ∙ c.in-None.is
