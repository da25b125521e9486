use Rattle.std.proofs.Common.{◌≡◌, ◌∙◌, None, sym, ap, subst, rules}
use Rattle.std.specs.Prelude.{find, option_map, ◌&&◌}
use Rattle.std.specs.List.{enumerate_from}
use Rattle.kp_rules.specs.Next.{next_asking}
use Rattle.kp_rules.specs.MaySend.{wants_id}
use Rattle.kp_rules.specs.Partitions.{leads, partition_at}
use Rattle.kp_rules.specs.Records.{Core}
use Rattle.kp_core.specs.ByLeader.{work_in}
use Rattle.kp_core.specs.Keeping.{seen_of}
use Rattle.kp_core.proofs.RequestStepLemmas.{still_waits}
use Rattle.kp_core.proofs.WorkLemmas.{work_wants}
use Rattle.kp_core.proofs.machine.Core.next_asking.Goals as goal

pub returns : goal.returns
returns c = λ node is.
    let s = seen_of c.self.inside in
    let found : c.first_wanting.result ≡ option_map (λ x. x.0) (find (λ x. leads node x.1 && wants_id s.config x.1) (enumerate_from 0 s.partitions)) =
    c.first_wanting.ensures
    ∙ ap (find (λ p. wants_id s.config (partition_at p s.partitions))) (is ∙ ap (λ (x : Core). work_in node x.partitions) (sym c.self.view_is))
    ∙ work_wants node s.config s.partitions in
    search rules

pub returns-then-not-is_over : goal.returns-then-not-is_over
returns-then-not-is_over c = λ node is.
    let waits = still_waits node c.args.now c.in-Some.since (seen_of c.self.inside) c.in-Some.is (sym c.is_over.ensures ∙ c.if-not-is_over.true) in
    sym (subst (λ (x : Core). next_asking node c.args.now x ≡ None) c.self.view_is waits)
