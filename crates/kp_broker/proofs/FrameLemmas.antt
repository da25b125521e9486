-- One frame of a connection.
use Rattle.std.proofs.Common.{◌≡◌, ◌⊎◌, ℕ, List, [], ◌∷◌, None, Result, Ok, Err, IsErrAnd, inl, inr, refl, sym, subst, ◌∙◌}
use Rattle.std.specs.Global.{Vec}
use Rattle.kp_broker.specs.declared.fault.BrokerFault.{BrokerFault}
use Rattle.kp_broker.specs.declared.fault.BrokerFault.TheVariants as fault
use Rattle.kp_broker.specs.declared.serving.Served.{Served}
use Rattle.kp_broker.specs.declared.serving.Served.TheVariants.{End, HungUp}
use Rattle.kp_broker.specs.declared.serving.replying.Reply.{Reply}
use Rattle.kp_broker.specs.declared.serving.replying.Reply.TheVariants.{Frame, Nothing, HangUp}
use Rattle.kp_broker.specs.Broker.{Broker}
use Rattle.kp_broker.specs.Calls.{Told}
use Rattle.kp_broker.specs.Plan.{Plan}
use Rattle.kp_broker.specs.Replies.{Replies}
use Rattle.kp_broker.specs.Sending.{Sends}
use Rattle.kp_broker.specs.Serving.{Breaks, LosesMemory, StopsFor, ServesFrames}
use Rattle.kp_broker.specs.Taking.{GoBy, TakesFrame}
use Rattle.kp_frames.specs.Request.{request_at}
use Rattle.kp_broker.proofs.CourseLemmas.{served-one}

module _ {C : Type 0} (answers : Told C) (nothing : (s : C) → answers s [] s) (node : ℕ) (plan : Plan) (before : Broker) (content : List ℕ) (old : C) (after : Broker) where
  pub frame-taken : (new : C) (frame : Vec ℕ) (reply : Reply) → reply ≡ Frame frame → Replies node plan content before (Ok reply) after → (done : Unit {0}) → Sends answers old frame.items (Ok done) new → TakesFrame answers node plan before content old (Ok End) new after
  frame-taken new frame reply is g done s = record {
    xs = s.xs;
    told = s.told;
    no_reads = s.no_reads;
    go = s.sent.1;
    served = served-one node plan before content ∙ subst (λ r. Replies node plan content before (Ok r) after) is g ∙ (λ i. record { written = sym s.sent.0 i; broker = after; ending = None });
  }

  pub frame-lost : (new : C) (frame : Vec ℕ) (reply : Reply) → reply ≡ Frame frame → Replies node plan content before (Ok reply) after → (e : BrokerFault) → Sends answers old frame.items (Err e) new
      → (r : Result Served BrokerFault) → IsErrAnd r (λ x. x ≡ e) → TakesFrame answers node plan before content old r new after
  frame-lost new frame reply is g e s (Ok x) failed = absurd failed
  frame-lost new frame reply is g e s (Err x) failed =
      let (io, (lost, split), ends) = s.sent in
      let all = subst (λ r. Replies node plan content before (Ok r) after) is g ∙ (λ i. record { written = split i; broker = after; ending = None }) in
      subst (λ f. TakesFrame answers node plan before content old (Err f) new after) (sym (failed ∙ io)) record {
        xs = s.xs;
        told = s.told;
        no_reads = s.no_reads;
        go = ends;
        served = inr (inl (lost, all));
      }

  nothing-sent : (r : Result Served BrokerFault) → GoBy r [] → ServesFrames node plan before (content ∷ []) r [] after → TakesFrame answers node plan before content old r old after
  nothing-sent r go served = record { xs = []; told = nothing old; no_reads = refl; go = go; served = served }

  pub nothing-taken : (reply : Reply) → reply ≡ Nothing → Replies node plan content before (Ok reply) after → TakesFrame answers node plan before content old (Ok End) old after
  nothing-taken reply is g = nothing-sent (Ok End) tt (served-one node plan before content ∙ subst (λ r. Replies node plan content before (Ok r) after) is g)

  pub hang_up-taken : (reply : Reply) → reply ≡ HangUp → Replies node plan content before (Ok reply) after → TakesFrame answers node plan before content old (Ok HungUp) old after
  hang_up-taken reply is g = nothing-sent (Ok HungUp) tt (served-one node plan before content ∙ subst (λ r. Replies node plan content before (Ok r) after) is g)

  stopped : (after ≡ before) ⊎ StopsFor node plan before (request_at content) after → Breaks (LosesMemory node plan) node plan before (content ∷ []) [] after
  stopped (inl same) = inl (refl, same)
  stopped (inr stops) = inr (inl (refl, stops))

  refused-at : (refused : BrokerFault) → Replies node plan content before (Err refused) after → TakesFrame answers node plan before content old (Err refused) old after
  refused-at (fault.Frame f) g = nothing-sent (Err (fault.Frame f)) tt (served-one node plan before content ∙ g)
  refused-at fault.OutOfMemory g = nothing-sent (Err fault.OutOfMemory) tt (stopped g)
  refused-at fault.Io g = absurd g
  refused-at fault.TooLong g = absurd g

  pub frame-refused : (refused : BrokerFault) (r : Result Served BrokerFault) → IsErrAnd r (λ e. e ≡ refused) → Replies node plan content before (Err refused) after → TakesFrame answers node plan before content old r old after
  frame-refused refused (Ok s) is g = absurd is
  frame-refused refused (Err e) is g = subst (λ e. TakesFrame answers node plan before content old (Err e) old after) (sym is) (refused-at refused g)
