use Rattle.std.proofs.Common.{◌≡◌, ◌∙◌, List, [], ◌++◌, take, length, min, sym, ap, rules}
use Rattle.std.specs.Prelude.{filter_map}
use Rattle.kp_core.specs.Choosing.{numbered_from, sends_in}
use Rattle.kp_core.specs.Keeping.{seen_of}
use Rattle.kp_rules.specs.Next.{Sending, flags_of, next_batches, used_up_to}
use Rattle.kp_rules.specs.Records.{Core}
use Rattle.kp_core.proofs.TurnLemmas.{all_sendings, gathered, next_batches-is, some_fit}
use Rattle.kp_core.proofs.machine.Core.next_batches.Goals as goal

pub returns-in_err-gather_from-clause-some : goal.returns-in_err-gather_from-clause-some
returns-in_err-gather_from-clause-some c =
    let s = seen_of c.self.inside in
    let all = gathered c.args.node c.args.now s c.first_in_turn-first.result c.flags-flags.result
    (c.first_in_turn-first.ensures ∙ ap (λ (x : Core). min (used_up_to c.args.node x.turns) (length x.partitions)) (sym c.self.view_is)) (c.flags-flags.ensures ∙ ap flags_of (sym c.self.view_is)) in
    let some : next_batches c.args.node c.args.now c.args.self.now ≡ [] → ⊥ =
    λ e. some_fit c.args.node c.args.now s c.self.invariant.order (λ none. c.in_err-gather_from.ensures.some (all ∙ none)) (ap (next_batches c.args.node c.args.now) c.self.view_is ∙ e) in
    search rules

pub returns-clause-all : goal.returns-clause-all
returns-clause-all c =
    let s = seen_of c.self.inside in
    let all = gathered c.args.node c.args.now s c.first_in_turn-first.result c.flags-flags.result
    (c.first_in_turn-first.ensures ∙ ap (λ (x : Core). min (used_up_to c.args.node x.turns) (length x.partitions)) (sym c.self.view_is)) (c.flags-flags.ensures ∙ ap flags_of (sym c.self.view_is)) in
    let sent : List Sending = filter_map (sends_in c.args.node s.config c.flags-flags.result c.args.now) (numbered_from c.first_in_turn-first.result s.partitions) in
    let whole : c.gather_from.new.sendings.items ≡ all_sendings c.args.node c.args.now s =
    c.in_ok-gather_from.ensures.ok ∙ ap (λ (xs : List Sending). xs ++ sent) c.new-sendings.ensures.items ∙ all in
    c.truncate.ensures.items ∙ ap (take c.count_fitting-count.result) (sym c.deref.ensures.value) ∙ c.count_fitting-count.ensures
    ∙ next_batches-is c.args.node c.args.now s c.deref.result.now (c.deref.ensures.value ∙ whole) ∙ ap (next_batches c.args.node c.args.now) c.self.view_is
