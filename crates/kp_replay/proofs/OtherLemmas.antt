-- Records of another producer in the log that is seen are in its history.
use Rattle.std.proofs.Common.{◌≡◌, ℕ, zero, suc, ◌<◌, Bool, true, List, [], ◌∷◌, length, get_or, set, replicate, OnOk, sym, ap, subst, ◌∙◌, arith}
use Rattle.std.specs.Prelude.{Result, codes, nat_lt}
use Rattle.std.proofs.lemmas.Bool.{ltb-true}
use Rattle.kp_accum.specs.declared.config.Config.{Config}
use Rattle.kp_log.specs.History.{empty_history, with_others}
use Rattle.kp_log.specs.KeptBatches.{IsHistoryOf}
use Rattle.kp_log.specs.Log.{Log, others_appended}
use Rattle.kp_log.proofs.TieLemmas.{others_are_of_others}
use Rattle.kp_rules.specs.Flush.{is_flushed}
use Rattle.kp_world.specs.Client.{only_if}
use Rattle.kp_world.specs.Delivering.{log_at, logs_with_others}
use Rattle.kp_world.specs.Events.{other_records, record_at}
use Rattle.kp_world.specs.Noting.{only_noted}
use Rattle.kp_world.specs.Replay.{stepped}
use Rattle.kp_world.specs.Run.{with_others_at}
use Rattle.kp_world.specs.World.{World}
use Rattle.kp_world.specs.declared.event.Event.TheVariants as event
use Rattle.kp_replay.specs.Shown.{Each, IsReplayed, LeadsOn, Seen, Shows, is_there, with_noted}
use Rattle.kp_replay.proofs.AcceptingLemmas.{each-length, only-lines}
use Rattle.kp_replay.proofs.ReachedLemmas.{stored-whole}
use Rattle.kp_replay.proofs.ShownLemmas.{lead-on}

pub each-at : {A B : Type 0} (R : A → B → Type 0) (xs : List A) (ys : List B) (p : ℕ) (x : A) (y : B) → p < length ys → Each R xs ys → R (get_or xs p x) (get_or ys p y)
each-at R [] [] p x y inside all = absurd (omega arith)
each-at R (x' ∷ xs) (y' ∷ ys) zero x y inside all = all.0
each-at R (x' ∷ xs) (y' ∷ ys) (suc p) x y inside all = each-at R xs ys p x y (omega (arith, inside)) all.1
each-at R [] (y' ∷ ys) p x y inside all = absurd all
each-at R (x' ∷ xs) [] p x y inside all = absurd all

pub each-set : {A B : Type 0} (R : A → B → Type 0) (xs : List A) (ys : List B) (p : ℕ) (x : A) (y : B) → R x y → Each R xs ys → Each R (set xs p x) (set ys p y)
each-set R [] [] p x y one all = all
each-set R (x' ∷ xs) (y' ∷ ys) zero x y one all = (one, all.1)
each-set R (x' ∷ xs) (y' ∷ ys) (suc p) x y one all = (all.0, each-set R xs ys p x y one all.1)
each-set R [] (y' ∷ ys) p x y one all = absurd all
each-set R (x' ∷ xs) [] p x y one all = absurd all

-- ---- the event

abbrev pub with_log : ℕ → Log → Seen → Seen
with_log p log a = record a { logs = set a.logs p log }

module _ (p n : ℕ) (a b : Seen) (old log : Log) (there : is_there (event.Other p n) a ≡ true) (at : old ≡ get_or a.logs p old) (more : log ≡ others_appended old (replicate n (record_at 0 (codes "other")))) where
  here : (c : Config) (w : World) → Shows c w a → IsHistoryOf (log_at p w.logs) old
  here c w sh = subst (IsHistoryOf (log_at p w.logs)) (sym at) (each-at IsHistoryOf w.logs a.logs p empty_history old (ltb-true p (length a.logs) there) sh.logs)

  appended : (c : Config) (w : World) → IsReplayed c w → Shows c w a → IsHistoryOf (with_others n (record_at 0 (codes "other")) (log_at p w.logs)) log
  appended c w replayed sh =
      let inside : p < length w.logs = omega (arith, ltb-true p (length a.logs) there, each-length IsHistoryOf w.logs a.logs sh.logs) in
      subst (IsHistoryOf (with_others n (record_at 0 (codes "other")) (log_at p w.logs))) (sym more)
      (others_are_of_others (log_at p w.logs) old n (record_at 0 (codes "other")) (here c w sh) (stored-whole c w replayed p inside))

  shown : (c : Config) (w : World) → IsReplayed c w → Shows c w a → Shows c (record w { logs = logs_with_others p (other_records n) w.logs }) (with_log p log a)
  shown c w replayed sh = record {
    config = sh.config;
    called = sh.called;
    senders = sh.senders;
    core = sh.core;
    accepted = sh.accepted;
    taken = sh.taken;
    packets = sh.packets;
    replies = sh.replies;
    logs = each-set IsHistoryOf w.logs a.logs p (with_others n (record_at 0 (codes "other")) (log_at p w.logs)) log (appended c w replayed sh) sh.logs;
    drawn = sh.drawn;
    moment = sh.moment;
    is_shut = sh.is_shut;
    past = sh.past;
  }

  pub others-leads : b ≡ with_noted [] (is_flushed a.core) (with_log p log a) → LeadsOn (event.Other p n) a b
  unfolding stepped with_others_at
  others-leads is = λ c w replayed sh.
      let v : World = record w { logs = logs_with_others p (other_records n) w.logs } in (
        only_noted [] v,
        ap (λ t. only_if t (only_noted [] v)) (ap (nat_lt p) (each-length IsHistoryOf w.logs a.logs sh.logs) ∙ there),
        subst (Shows c (only_noted [] v)) (sym is) (only-lines c v (with_log p log a) (shown c w replayed sh) []),
      )

pub others-returns : {T E : Type 0} (r : Result T E) (p n : ℕ) (a v b : Seen) (is : v ≡ a) (old log : Log) → is_there (event.Other p n) a ≡ true → (was : Bool) → was ≡ is_flushed v.core → old ≡ get_or v.logs p old
    → log ≡ others_appended old (replicate n (record_at 0 (codes "other"))) → OnOk r (b ≡ with_noted [] was (with_log p log v)) → OnOk r (LeadsOn (event.Other p n) a b)
others-returns r p n a v b is old log there was flushed at more = lead-on [] was (event.Other p n) a (with_log p log v) b r (λ same.
    subst (λ a. LeadsOn (event.Other p n) a b) is (others-leads p n v b old log (ap (λ x. is_there (event.Other p n) x) is ∙ there) at more (same ∙ (λ i. with_noted [] (flushed i) (with_log p log v)))))
