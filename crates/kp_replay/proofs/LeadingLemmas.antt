-- A leader of a partition of the world that is seen is the leader of its world's.
use Rattle.std.proofs.Common.{◌≡◌, ℕ, Bool, true, [], OnOk, sym, ap, subst, ◌∙◌}
use Rattle.std.specs.Prelude.{Result, nat_lt}
use Rattle.kp_log.specs.KeptBatches.{IsHistoryOf}
use Rattle.kp_rules.specs.Flush.{is_flushed}
use Rattle.kp_rules.specs.Leading.{lead_step}
use Rattle.kp_rules.specs.Records.{Core, Called, quietly}
use Rattle.kp_rules.proofs.FetchedLemmas.{lead_behind}
use Rattle.kp_world.specs.Client.{leading, only_if}
use Rattle.kp_world.specs.Replay.{stepped}
use Rattle.kp_world.specs.declared.event.Event.TheVariants as event
use Rattle.kp_replay.specs.Shown.{LeadsOn, Seen, Shows, is_there, with_noted}
use Rattle.kp_replay.proofs.AcceptingLemmas.{each-length}
use Rattle.kp_replay.proofs.ShownLemmas.{lead-on, shows-noted}
use Rattle.kp_replay.proofs.TellingLemmas.{tells-lead}

pub leader-leads : (p node : ℕ) (a b : Seen) → is_there (event.Leader p node) a ≡ true → b ≡ with_noted [] (is_flushed a.core) (record a { core = lead_step p node a.moment a.core }) → LeadsOn (event.Leader p node) a b
unfolding stepped
leader-leads p node a b there is = λ c w replayed sh.
    let call : Core → Called (Unit {0}) = λ s. quietly (lead_step p node w.moment s) (tt {0}) in
    let same : b ≡ with_noted [] (is_flushed a.core) (record a { core = lead_step p node w.moment a.core }) = is ∙ ap (λ m. with_noted [] (is_flushed a.core) (record a { core = lead_step p node m a.core })) sh.moment in (
      leading p node w,
      ap (λ t. only_if t (leading p node w)) (ap (nat_lt p) (each-length IsHistoryOf w.logs a.logs sh.logs) ∙ there),
      subst (Shows c (leading p node w)) (sym same)
          (shows-noted call (λ r s. ap (λ (t : Core). let x : Called (Unit {0}) = quietly t (tt {0}) in x) (lead_behind r p node w.moment s)) (tells-lead p node w.moment) c w a sh []),
    )

pub leader-returns : {T E : Type 0} (r : Result T E) (p node : ℕ) (a v b : Seen) (is : v ≡ a) → is_there (event.Leader p node) a ≡ true → (was : Bool) → was ≡ is_flushed v.core → (t : Core) → t ≡ lead_step p node v.moment v.core
    → OnOk r (b ≡ with_noted [] was (record v { core = t })) → OnOk r (LeadsOn (event.Leader p node) a b)
leader-returns r p node a v b is there was flushed t step = lead-on [] was (event.Leader p node) a (record v { core = t }) b r (λ same.
    subst (λ a. LeadsOn (event.Leader p node) a b) is
    (leader-leads p node v b (ap (λ x. is_there (event.Leader p node) x) is ∙ there) (same ∙ (λ i. with_noted [] (flushed i) (record v { core = step i })))))
