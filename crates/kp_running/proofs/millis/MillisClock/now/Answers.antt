use Rattle.std.proofs.Common.{◌∙◌, ap, map, Some}
use Rattle.std.specs.List.{last_or}
use Rattle.kp_running.proofs.MillisLemmas.{told_last}
use Rattle.kp_running.proofs.millis.MillisClock.now.Goals as goal

pub invariant_of-self : goal.invariant_of-self
invariant_of-self g c = record {
  last = ap (λ items. last_or (Some c.read-now.new.self.shown) (map (λ x. x.0) items)) c.and-self.ensures
      ∙ told_last (Some c.read-now.new.self.shown) c.args.self.now.told.items (c.read-now.result, tt)
      ∙ ap (λ n. Some n) c.read-now.ensures.shown;
}
