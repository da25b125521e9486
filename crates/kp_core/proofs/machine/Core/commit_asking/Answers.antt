use Rattle.std.proofs.Common.{◌≡◌, ◌∙◌, ◌+◌, List, [], ◌∷◌, ◌++◌, sym, ap, subst}
use Rattle.kp_core.specs.Keeping.{IsKept, seen_of}
use Rattle.kp_rules.specs.Next.{next_demand}
use Rattle.kp_rules.specs.Records.{Core, InitProducerId, Request}
use Rattle.kp_core.proofs.KeepingLemmas.{quiet_kept}
use Rattle.kp_core.proofs.LeavingLemmas.{sent_left}
use Rattle.kp_core.proofs.machine.Core.commit_asking.Goals as goal

pub invariant_of-self-2 : goal.invariant_of-self-2
invariant_of-self-2 c =
    let s = seen_of c.self.inside in
    let demand = ap (next_demand c.args.node c.args.now) c.self.view_is ∙ c.requires.demand in
    let going = ap (λ (x : Core). x.ended) c.self.view_is ∙ c.requires.going in
    let r : Request = record { correlation = s.correlation; node = c.args.node; sent = c.args.now; demand = InitProducerId c.args.partition } in
    let requests : c.push_reserved.new.self.items ≡ s.requests ++ r ∷ [] =
    c.push_reserved.ensures.items ∙ ap (λ (rs : List Request). rs ++ c.new.result ∷ []) c.reserve.ensures.items ∙ ap (λ (x : Request). s.requests ++ x ∷ []) c.new.ensures in
    subst (λ (rs : List Request). IsKept (record s { requests = rs; correlation = s.correlation + 1 }) c.self.inside.desk) (sym requests)
    (quiet_kept c.self.invariant (sent_left c.args.node c.args.now s (InitProducerId c.args.partition) going demand c.self.invariant.order))
