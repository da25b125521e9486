use Rattle.std.proofs.Common.{◌≡◌, subst, List}
use Rattle.std.specs.Prelude.{IfSome, length, slice_get, true, ◌<◌}
use Rattle.kp_send.specs.declared.latency.Place.{Place}
use Rattle.kp_send.specs.Latency.{is_in}
use Rattle.kp_send.proofs.LatencyLemmas.{put_whole}
use Rattle.kp_send.proofs.latency.Latencies.add.Goals as goal

pub invariant_of-self : goal.invariant_of-self
invariant_of-self c =
    let items = c.self.inside.places.items in
    let i = c.place_of-place.result in
    let is = c.deref.ensures.value in
    let within = subst (λ (ps : List Place). i < length ps) is c.place_of-place.ensures.within in
    let there = subst (λ (ps : List Place). IfSome (slice_get ps i) (λ (p : Place). is_in c.args.latency p ≡ true)) is c.place_of-place.ensures.there in
    let put = put_whole c.args.latency c.self.inside.count i items c.index_mut.result.now c.self.invariant within c.index_mut.ensures.value there in
    rw c.in-Some.ensures.1 put.1

pub returns-clause-added : goal.returns-clause-added
returns-clause-added c fits =
    let items = c.self.inside.places.items in
    let i = c.place_of-place.result in
    let is = c.deref.ensures.value in
    let within = subst (λ (ps : List Place). i < length ps) is c.place_of-place.ensures.within in
    let there = subst (λ (ps : List Place). IfSome (slice_get ps i) (λ (p : Place). is_in c.args.latency p ≡ true)) is c.place_of-place.ensures.there in
    let put = put_whole c.args.latency c.self.inside.count i items c.index_mut.result.now c.self.invariant within c.index_mut.ensures.value there in
    rw (← c.self.view_is) (record {
      places = put.0;
      count = c.in-Some.ensures.1;
      sum = c.saturating_add-self-inside.ensures;
      greatest = c.max-self-inside.ensures;
    })
