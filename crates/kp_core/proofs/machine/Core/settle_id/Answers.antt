use Rattle.std.proofs.Common.{◌≡◌, ◌∙◌, false, not, w16, w64, sym, ap, subst, rules}
use Rattle.std.specs.Prelude.{filter, nat_abs}
use mir.Val.{SFits}
use Rattle.std.proofs.lemmas.Int.{to_z-of_z}
use Rattle.kp_rules.specs.Attempts.{asks_for_id}
use Rattle.kp_rules.specs.Records.{Core}
use Rattle.kp_core.specs.declared.machine.Core.TheInside.{Inside}
use Rattle.kp_core.specs.Hearing.{id_given}
use Rattle.kp_core.specs.Keeping.{IsKept, seen_of}
use Rattle.kp_core.proofs.IdLemmas.{code_gives, id_kept, refusal_kept, was_given}
use Rattle.kp_core.proofs.machine.Core.settle_id.Goals as goal
use Rattle.kp_core.proofs.machine.Core.settle_id.Goals.{then-response-eq0+else-is_err, else-response-eq0}

pub invariant_of-self-2 : goal.invariant_of-self-2
invariant_of-self-2 c =
    let s = seen_of c.self.inside in
    let x = c.args.response.now in
    let requests = c.keep_batches.new.requests in
    let coded : SFits w16 x.error_code = search rules in
    let going : s.ended ≡ false = ap (λ (y : Core). y.ended) c.self.view_is ∙ c.requires.going in
    elim c.if-response-eq0.branch [
      | then-response-eq0+else-is_err w ↦
          let small : SFits w64 x.producer_id = search rules in
          let id : w.unsigned_abs-id.result ≡ nat_abs x.producer_id = w.unsigned_abs-id.ensures.value ∙ ap nat_abs (to_z-of_z w64 x.producer_id small) in
          let after : w.give_id.new.self ≡ id_given s.config w.unsigned_abs-id.result c.args.partition s.partitions =
          was_given w.give_id.result w.give_id.ensures.ok (sym w.is_err.ensures.value ∙ w.if-is_err.false) in
          subst (λ (i : Inside). IsKept (seen_of (record i { requests = requests })) i.desk) (sym w.self-inside-is)
          (id_kept c.args.now c.args.partition x w.give_id.new.self requests.items small c.requires.answers
          (code_gives x coded w.if-response-eq0.true) going (after ∙ ap (λ n. id_given s.config n c.args.partition s.partitions) id)
          (c.keep_batches.ensures ∙ ap (λ (i : Inside). filter (λ r. not (asks_for_id r)) i.requests.items) w.self-inside-is) c.self.invariant)
      | else-response-eq0 w ↦
          subst (λ (i : Inside). IsKept (seen_of (record i { requests = requests })) i.desk) (sym w.self-inside-is)
          (refusal_kept c.args.now requests.items
          (c.keep_batches.ensures ∙ ap (λ (i : Inside). filter (λ r. not (asks_for_id r)) i.requests.items) w.self-inside-is) c.self.invariant)
    ]
