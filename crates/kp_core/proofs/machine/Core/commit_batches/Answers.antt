use Rattle.std.proofs.Common.{◌≡◌, ◌∙◌, ℕ, ◌<◌, List, [], ◌∷◌, ◌++◌, length, Some, Ok, Err, sym, ap, subst}
use Rattle.std.specs.Prelude.{Result, OnErr}
use Rattle.std.specs.List.{AllByRecursion}
use Rattle.kp_core.specs.Choosing.{MayGoOut}
use Rattle.kp_core.specs.Keeping.{IsKept, seen_of}
use Rattle.kp_rules.specs.HandingOver.{send_in}
use Rattle.kp_rules.specs.InOrder.{AreDistinct}
use Rattle.kp_rules.specs.Next.{Sending, next_batches, next_demand}
use Rattle.kp_rules.specs.Partitions.{changed_at, partition_at}
use Rattle.kp_rules.specs.Records.{Core, Produce, Request, Turn}
use Rattle.kp_rules.specs.Requesting.{is_spent, partitions_in, request_of, sent_out, turned}
use Rattle.kp_core.proofs.KeepingLemmas.{quiet_kept}
use Rattle.kp_core.proofs.LeavingLemmas.{sent_left}
use Rattle.kp_core.proofs.SentLemmas.{all_once, all_placed, all_there, sent-is}
use Rattle.kp_core.proofs.machine.Core.commit_batches.Goals as goal

pub send_each-requires-clause-there : goal.send_each-requires-clause-there
send_each-requires-clause-there c =
    let s = seen_of c.self.inside in
    let demand : next_demand c.args.node c.args.now s ≡ Some (Produce (next_batches c.args.node c.args.now s)) = rw (c.self.view_is) c.requires.demand in
    let chosen : c.deref-2.result.now ≡ partitions_in (next_batches c.args.node c.args.now s) = c.deref-2.ensures.value ∙ c.requires.chosen ∙ ap (λ (x : Core). partitions_in (next_batches c.args.node c.args.now x)) (sym c.self.view_is) in
    subst (AllByRecursion (λ p. p < length s.partitions)) (sym chosen) (all_there c.args.node c.args.now s (next_batches c.args.node c.args.now s) demand)

pub send_each-requires-clause-once : goal.send_each-requires-clause-once
send_each-requires-clause-once c =
    let s = seen_of c.self.inside in
    let demand : next_demand c.args.node c.args.now s ≡ Some (Produce (next_batches c.args.node c.args.now s)) = rw (c.self.view_is) c.requires.demand in
    let chosen : c.deref-2.result.now ≡ partitions_in (next_batches c.args.node c.args.now s) = c.deref-2.ensures.value ∙ c.requires.chosen ∙ ap (λ (x : Core). partitions_in (next_batches c.args.node c.args.now x)) (sym c.self.view_is) in
    subst AreDistinct (sym chosen) (all_once c.args.node c.args.now s (next_batches c.args.node c.args.now s) demand)

pub send_each-requires-clause-place : goal.send_each-requires-clause-place
send_each-requires-clause-place c =
    let s = seen_of c.self.inside in
    let demand : next_demand c.args.node c.args.now s ≡ Some (Produce (next_batches c.args.node c.args.now s)) = rw (c.self.view_is) c.requires.demand in
    let chosen : c.deref-2.result.now ≡ partitions_in (next_batches c.args.node c.args.now s) = c.deref-2.ensures.value ∙ c.requires.chosen ∙ ap (λ (x : Core). partitions_in (next_batches c.args.node c.args.now x)) (sym c.self.view_is) in
    subst (AllByRecursion (λ p. MayGoOut (partition_at p s.partitions))) (sym chosen)
    (all_placed c.args.node c.args.now s (next_batches c.args.node c.args.now s) c.self.invariant.order (ap is_spent c.self.view_is ∙ c.requires.left) demand)

pub invariant_of-self-2 : goal.invariant_of-self-2
invariant_of-self-2 c =
    let s = seen_of c.self.inside in
    let xs : List Sending = next_batches c.args.node c.args.now s in
    let demand : next_demand c.args.node c.args.now s ≡ Some (Produce xs) = rw (c.self.view_is) c.requires.demand in
    let items : c.args.chosen.items ≡ partitions_in xs = c.requires.chosen ∙ ap (λ (x : Core). partitions_in (next_batches c.args.node c.args.now x)) (sym c.self.view_is) in
    let chosen : c.deref-2.result.now ≡ partitions_in xs = c.deref-2.ensures.value ∙ items in
    let changed : c.send_each.new.self ≡ changed_at (partitions_in xs) (λ p t. send_in s.correlation t) s.partitions =
    c.send_each.ensures ∙ ap (λ (ps : List ℕ). changed_at ps (λ p t. send_in s.correlation t) s.partitions) chosen in
    let requests : c.push_reserved.new.self.items ≡ s.requests ++ request_of c.args.node c.args.now s (Produce (partitions_in xs)) ∷ [] =
    c.push_reserved.ensures.items ∙ ap (λ (rs : List Request). rs ++ c.new.result ∷ []) c.reserve.ensures.items
    ∙ ap (λ (r : Request). s.requests ++ r ∷ []) c.new.ensures
    ∙ ap (λ (ps : List ℕ). s.requests ++ request_of c.args.node c.args.now s (Produce ps) ∷ []) items in
    let turns : c.turn_to.new.turns.items ≡ turned c.args.node (partitions_in xs) s.turns =
    c.in_ok-turn_to.ensures.ok ∙ ap (λ (ps : List ℕ). turned c.args.node ps s.turns) (c.deref.ensures.value ∙ items) in
    let is = sent-is c.args.node c.args.now s xs c.send_each.new.self c.push_reserved.new.self.items c.turn_to.new.turns.items changed requests turns in
    let going = ap (λ (x : Core). x.ended) c.self.view_is ∙ c.requires.going in
    subst (λ (x : Core). IsKept x c.self.inside.desk) (sym is)
    (quiet_kept c.self.invariant (sent_left c.args.node c.args.now s (Produce xs) going demand c.self.invariant.order))

pub returns-clause-after : goal.returns-clause-after
returns-clause-after c =
    let s = seen_of c.self.inside in
    let xs : List Sending = next_batches c.args.node c.args.now s in
    let demand : next_demand c.args.node c.args.now s ≡ Some (Produce xs) = rw (c.self.view_is) c.requires.demand in
    let items : c.args.chosen.items ≡ partitions_in xs = c.requires.chosen ∙ ap (λ (x : Core). partitions_in (next_batches c.args.node c.args.now x)) (sym c.self.view_is) in
    let chosen : c.deref-2.result.now ≡ partitions_in xs = c.deref-2.ensures.value ∙ items in
    let changed : c.send_each.new.self ≡ changed_at (partitions_in xs) (λ p t. send_in s.correlation t) s.partitions =
    c.send_each.ensures ∙ ap (λ (ps : List ℕ). changed_at ps (λ p t. send_in s.correlation t) s.partitions) chosen in
    let requests : c.push_reserved.new.self.items ≡ s.requests ++ request_of c.args.node c.args.now s (Produce (partitions_in xs)) ∷ [] =
    c.push_reserved.ensures.items ∙ ap (λ (rs : List Request). rs ++ c.new.result ∷ []) c.reserve.ensures.items
    ∙ ap (λ (r : Request). s.requests ++ r ∷ []) c.new.ensures
    ∙ ap (λ (ps : List ℕ). s.requests ++ request_of c.args.node c.args.now s (Produce ps) ∷ []) items in
    let turns : c.turn_to.new.turns.items ≡ turned c.args.node (partitions_in xs) s.turns =
    c.in_ok-turn_to.ensures.ok ∙ ap (λ (ps : List ℕ). turned c.args.node ps s.turns) (c.deref.ensures.value ∙ items) in
    let is = sent-is c.args.node c.args.now s xs c.send_each.new.self c.push_reserved.new.self.items c.turn_to.new.turns.items changed requests turns in
    is ∙ ap (λ (x : Core). sent_out c.args.node c.args.now x (Produce (next_batches c.args.node c.args.now x))) c.self.view_is

pub invariant_of-self-in_err-turn_to : goal.invariant_of-self-in_err-turn_to
invariant_of-self-in_err-turn_to c =
    let s = seen_of c.self.inside in
    subst (λ (rs : List Request). IsKept (record s { requests = rs; turns = c.turn_to.new.turns.items }) c.self.inside.desk) (sym c.reserve.ensures.items)
    (subst (λ (ts : List Turn). IsKept (record s { turns = ts }) c.self.inside.desk) (sym c.in_err-turn_to.ensures.err) c.self.invariant)

on_err : {A B : Type 0} (r : Result A B) {P : Type 0} → P → OnErr r P
on_err (Ok x) p = tt
on_err (Err e) p = p

pub returns-in_err-turn_to-clause-err : goal.returns-in_err-turn_to-clause-err
returns-in_err-turn_to-clause-err c =
    let s = seen_of c.self.inside in
    on_err c.from_residual-in_err-turn_to.result
    (ap (λ (rs : List Request). let x : Core = record s { requests = rs; turns = c.turn_to.new.turns.items } in x) c.reserve.ensures.items
    ∙ ap (λ (ts : List Turn). let x : Core = record s { turns = ts } in x) c.in_err-turn_to.ensures.err ∙ c.self.view_is)
