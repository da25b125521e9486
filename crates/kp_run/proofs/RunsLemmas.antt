-- What came of a run.
use Rattle.std.proofs.Common.{◌≡◌, ◌∙◌, ℕ, List, ap, sym, subst}
use Rattle.std.specs.Prelude.{Option, Some, Result, Ok, Err, IfOk, unwrap_or}
use Rattle.std.specs.List.Sorted.{IsSorted}
use Rattle.std.specs.declared.alloc.Global.{Global}
use Rattle.std.specs.declared.net.socket_addr.SocketAddr.{SocketAddr}
use Rattle.std.specs.declared.vec.Vec.{Vec}
use denote.Ref.{Bor}
use Rattle.kp_accum.specs.declared.config.Config.{Config}
use Rattle.kp_broker.specs.Broker.{opened, Broker}
use Rattle.kp_broker.specs.Plan.{Plan}
use Rattle.kp_rules.specs.declared.outcome.Report.{Report}
use Rattle.kp_settings.specs.declared.settings.Settings.{Settings}
use Rattle.kp_dealing.specs.Dealing.{asked, dealt, Deal}
use Rattle.kp_dealing.specs.Sizing.{largest}
use Rattle.kp_run.specs.Gathered.{by_place}
use Rattle.kp_run.specs.Portions.{Comes}
use Rattle.kp_run.specs.Runs.{CameOf, IsAt, IsBrokerAt, IsHere, IsProduced, IsProducedBy}
use Rattle.kp_run.specs.Served.{ServesAll}
use Rattle.kp_run.specs.Settings.{AreSettingsOf}
use Rattle.kp_run.specs.Theirs.{AreOfService}
use Rattle.kp_run.specs.declared.fault.RunFault.{RunFault}
use Rattle.kp_run.specs.declared.gathering.Produced.{Produced}
use Rattle.kp_run.specs.declared.checked.Checked.{Checked}
use Rattle.kp_options.specs.declared.options.Options.{Options}
use Rattle.kp_options.specs.declared.place.Place.{Place}
use Rattle.kp_options.specs.declared.place.Place.TheVariants.{Here, At}
use Rattle.kp_run.specs.declared.running.Came.{Came}

pub serves_here : (o : Options) (plan : Plan) (place : Place) (partitions port : ℕ) (first after : Broker) → IsHere place
    → partitions ≡ unwrap_or o.partitions 1 → first ≡ opened o.topic.now partitions port → ServesAll plan first after
    → IsBrokerAt o plan place (Some after)
serves_here o plan (Here text) partitions port first after here many is serves = (
  port,
  subst (λ (b : Broker). ServesAll plan b after) (is ∙ ap (λ (n : ℕ). opened o.topic.now n port) many) serves,
)
serves_here o plan (At address) partitions port first after here many is serves = absurd here

pub at_here : (p : Place) (a : SocketAddr) → IsHere p → IsAt p a
at_here (Here text) a here = tt
at_here (At named) a here = absurd here

pub is_produced : (a : SocketAddr) (deal : Deal) (most : ℕ) (s : Settings) (r : Result Produced RunFault)
    → IfOk r (λ p. Comes deal most p.accepted p.reports.items) → IfOk r (λ p. IsSorted by_place p.reports.items)
    → IfOk r (λ p. AreOfService a s p.reports.items) → IfOk r (λ p. IsProduced a s deal most p.accepted p.reports.items)
is_produced a deal most s (Ok p) comes sorted theirs = record { comes = comes; in_order = sorted; of_service = theirs }
is_produced a deal most s (Err why) comes sorted theirs = tt

-- options and the settings that they come to
pub of_settings : (o : Options) (lines : List (Bor (List ℕ))) (a : SocketAddr) (s : Settings) (r : Result Produced RunFault)
    → IsAt o.place a → AreSettingsOf o s
    → IfOk r (λ p. IsProduced a s (dealt lines s.senders o.keyed) (largest s.config) p.accepted p.reports.items)
    → IfOk r (λ p. IsProducedBy o lines p.accepted p.reports.items)
of_settings o lines a s (Ok p) there are produced = record {
  address = a;
  there = there;
  settings = s;
  are = are;
  produced = subst (λ (c : Config). IsProduced a s (asked o lines) (largest c) p.accepted p.reports.items) are.config
      (subst (λ (n : ℕ). IsProduced a s (dealt lines n o.keyed) (largest s.config) p.accepted p.reports.items) are.senders produced);
}
of_settings o lines a s (Err why) there are produced = tt

pub is_came : (looked_at : Checked) (lines : List (Bor (List ℕ))) (came : Came) (broker : Option Broker) (accepted : ℕ) (reports : Vec Report Global)
    → came.broker ≡ broker → came.accepted ≡ accepted → came.reports ≡ reports
    → IsProducedBy looked_at.options lines accepted reports.items
    → IsBrokerAt looked_at.options looked_at.plan looked_at.options.place broker → CameOf looked_at lines came
is_came looked_at lines came broker accepted reports same_broker same_count same_reports produced at = record {
  produced = subst (λ (n : ℕ). IsProducedBy looked_at.options lines n came.reports.items) (sym same_count)
      (subst (λ (rs : Vec Report Global). IsProducedBy looked_at.options lines accepted rs.items) (sym same_reports) produced);
  broker = subst (λ (b : Option Broker). IsBrokerAt looked_at.options looked_at.plan looked_at.options.place b) (sym same_broker) at;
}
