use Rattle.std.proofs.Common.{ℕ, List, sym, subst, arith}
use Rattle.std.proofs.lemmas.List.FromFn.{map-range_with_len_more}
use Rattle.kp_cluster.specs.Cluster.{leader_of}
use Rattle.kp_embed.specs.Going.{Becomes}
use Rattle.kp_embed.specs.Hearing.{told_leader}
use Rattle.kp_embed.proofs.ActLemmas.{becomes_more, becomes_none}
use Rattle.kp_embed.proofs.leading.lead_all.Goals as goal
use Rattle.kp_rules.specs.Calls.{Call, Lead, Step}

pub loop-partition-init : goal.loop-partition-init
loop-partition-init c = becomes_none c.args.core.now

pub loop-partition-preserved : goal.loop-partition-preserved
loop-partition-preserved c =
    let p = c.loop-partition.partition in
    let f : ℕ → Call = λ (k : ℕ). Lead k (told_leader (leader_of k c.args.cluster.now)) c.args.now in
    let step = subst (λ (leader : ℕ). Step c.loop-partition.core (Lead p leader c.args.now) c.lead.new.self) c.leader_of.ensures c.lead.ensures in
    subst (λ (calls : List Call). Becomes c.args.core.now calls c.lead.new.self) (sym (map-range_with_len_more f 0 p p (omega arith)))
    (becomes_more c.args.core.now c.loop-partition.core c.lead.new.self _ (f p) c.loop-partition.invariant step)
