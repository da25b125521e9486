use Rattle.std.proofs.Common.{◌≡◌, ◌∙◌, ℕ, Option, ap, sym, subst}
use Rattle.std.specs.Prelude.{IfSome}
use Rattle.kp_cluster.specs.Actions.{earlier, next_due}
use Rattle.kp_embed.specs.Due.{NotLater, core_due, due_of, following, no_sooner}
use Rattle.kp_embed.specs.Producer.{Producer}
use Rattle.kp_rules.specs.Records.{Core}
use Rattle.kp_embed.proofs.DueLemmas.{IsFrom, core_due_from, earlier_from, earlier_not_later, no_sooner_from}
use Rattle.kp_embed.proofs.embed.Embed.next_due.Goals.{in-Some, in-None}
use Rattle.kp_embed.proofs.embed.Embed.next_due.Goals as goal

pub returns-clause-later : goal.returns-clause-later
returns-clause-later c =
    let from = c.saturating_add-from.result in
    let producer = c.match-self.producer in
    let cluster = c.no_sooner.result in
    let of_cluster : IsFrom from cluster = subst (IsFrom from) (sym c.no_sooner.ensures) (no_sooner_from from c.next_due.result) in
    let of_producer : IsFrom from producer = elim c.match-self.branch [
      | in-Some w ↦ subst (IsFrom from) (sym (w.producer-is ∙ w.core_due-producer.ensures)) (core_due_from from w.in-Some.core)
      | in-None w ↦ subst (IsFrom from) (sym w.producer-is) w.opening_due-producer.ensures
    ] in
    subst (λ (n : ℕ). IsFrom n c.earlier.result) c.saturating_add-from.ensures
    (subst (IsFrom from) (sym c.earlier.ensures) (earlier_from from producer cluster of_producer of_cluster))

pub returns-clause-ready : goal.returns-clause-ready
returns-clause-ready c =
    let from = c.saturating_add-from.result in
    let due = next_due c.self.inside.cluster in
    let of_cluster = c.no_sooner.ensures ∙ ap (no_sooner from) c.next_due.ensures in
    let told = λ (o : Option Core). IfSome o (λ (s : Core). c.earlier.result ≡ due_of c.args.now s c.self.inside.cluster) in
    subst (λ (p : Producer). IfSome p.core (λ (s : Core). c.earlier.result ≡ due_of c.args.now s p.cluster)) c.self.view_is
    (elim c.match-self.branch [
      | in-Some w ↦
          let core = w.in-Some.core in
          let of_producer = w.producer-is ∙ w.core_due-producer.ensures in
          subst told (sym w.in-Some.is)
          (c.earlier.ensures
          ∙ ap (λ (o : Option ℕ). earlier o c.no_sooner.result) of_producer
          ∙ ap (earlier (core_due from core)) of_cluster
          ∙ ap (λ (n : ℕ). earlier (core_due n core) (no_sooner n due)) c.saturating_add-from.ensures)
      | in-None w ↦ subst told (sym w.in-None.is) tt
    ])

pub returns-clause-cluster : goal.returns-clause-cluster
returns-clause-cluster c =
    let from = c.saturating_add-from.result in
    let of_cluster =
    c.no_sooner.ensures ∙ ap (no_sooner from) c.next_due.ensures ∙ ap (λ (n : ℕ). no_sooner n (next_due c.self.inside.cluster)) c.saturating_add-from.ensures
    ∙ ap (λ (p : Producer). no_sooner (following c.args.now) (next_due p.cluster)) c.self.view_is in
    subst (λ (o : Option ℕ). NotLater o c.earlier.result) of_cluster (subst (NotLater c.no_sooner.result) (sym c.earlier.ensures) (earlier_not_later c.match-self.producer c.no_sooner.result))
