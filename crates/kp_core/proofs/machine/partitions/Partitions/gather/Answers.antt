use Rattle.std.proofs.Common.{◌≡◌, ◌∙◌, ℕ, List, [], ◌∷◌, ◌++◌, get_or, take, Some, None, sym, ap}
use Rattle.std.specs.Prelude.{Option, filter_map, option_map}
use Rattle.std.specs.List.{cons_option}
use Rattle.std.proofs.lemmas.List.{append-nil, append_assoc}
use Rattle.std.proofs.lemmas.Result.{MatchResult-from_err}
use Rattle.kp_rules.specs.MaySend.{sends}
use Rattle.kp_rules.specs.Next.{Sending, sends_to}
use Rattle.kp_rules.specs.Partitions.{partition_at}
use Rattle.kp_rules.specs.Records.{HandedBatch, Partition}
use Rattle.kp_core.specs.Choosing.{sends_in}
use Rattle.kp_core.proofs.WalkLemmas.{given_more, given_some}
use Rattle.kp_core.proofs.machine.partitions.Partitions.gather.Goals as goal
use Rattle.kp_core.proofs.machine.partitions.Partitions.gather.Goals.{in-Some+in_ok-push, in_default}

abbrev in_place : ℕ → Option HandedBatch → Option Sending
in_place p o = option_map (λ b. record { partition = p; batch = b }) o

pub returns-in_err-push-clause-some : goal.returns-in_err-push-clause-some
returns-in_err-push-clause-some c =
    let ts = c.args.self.now in
    let p = get_or c.args.places.now c.loop-place.place-index 0 in
    let h : ℕ → Option Sending = λ q. sends_in c.args.node c.args.config.now c.args.flags c.args.now (q, partition_at q ts) in
    let one : Sending = record { partition = p; batch = c.in-Some.batch } in
    let some : h p ≡ Some one =
    ap (λ (t : Partition). in_place p (sends_to c.args.node sends c.args.config.now c.args.flags c.args.now t)) (sym c.at.ensures)
    ∙ ap (in_place p) (sym c.sends_to.ensures ∙ c.in-Some.is) in
    MatchResult-from_err c.from_residual.result _ _ c.from_residual.ensures.0
    (λ e. given_some h c.args.places.now c.loop-place.place-index one c.loop-place-test.true some)

pub loop-place-preserved : goal.loop-place-preserved
loop-place-preserved c =
    let ts = c.args.self.now in
    let p = get_or c.args.places.now c.loop-place.place-index 0 in
    let h : ℕ → Option Sending = λ q. sends_in c.args.node c.args.config.now c.args.flags c.args.now (q, partition_at q ts) in
    let old = c.args.sendings.now.items in
    let before : List Sending = filter_map h (take c.loop-place.place-index c.args.places.now) in
    let more = given_more h c.args.places.now c.loop-place.place-index c.loop-place-test.true in
    let same : h p ≡ in_place p (sends_to c.args.node sends c.args.config.now c.args.flags c.args.now c.at.result.now) =
    ap (λ (t : Partition). in_place p (sends_to c.args.node sends c.args.config.now c.args.flags c.args.now t)) (sym c.at.ensures) in
    elim c.match-sends_to.branch [
      | in-Some+in_ok-push w ↦
          let one : Sending = record { partition = p; batch = w.in-Some.batch } in
          let some : h p ≡ Some one = same ∙ ap (in_place p) (sym c.sends_to.ensures ∙ w.in-Some.is) in
          ap (λ v. v.items) w.sendings-is ∙ w.in_ok-push.ensures.items ∙ ap (λ (ys : List Sending). ys ++ one ∷ []) c.loop-place.invariant
          ∙ append_assoc old before (one ∷ [])
          ∙ ap (λ (o : Option Sending). old ++ (before ++ cons_option o [])) (sym some)
          ∙ ap (λ (ys : List Sending). old ++ ys) (sym more)
      | in_default w ↦
          let none : h p ≡ None = same ∙ ap (in_place p) (sym c.sends_to.ensures ∙ w.in_default.is) in
          ap (λ v. v.items) w.sendings-is ∙ c.loop-place.invariant
          ∙ ap (λ (ys : List Sending). old ++ ys) (sym (append-nil before))
          ∙ ap (λ (o : Option Sending). old ++ (before ++ cons_option o [])) (sym none)
          ∙ ap (λ (ys : List Sending). old ++ ys) (sym more)
    ]
