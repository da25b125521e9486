-- A schedule's events, one behind another.
use Rattle.std.proofs.Common.{◌≡◌, ℕ, ◌+◌, false, ◌&&◌, List, [], ◌∷◌, ◌++◌, length, map, Some, None, Result, Ok, Err, refl, sym, ap, subst, ◌∙◌, append_assoc, append-nil, arith}
use Rattle.std.specs.Prelude.{Option, nat_lt, slice_get}
use Rattle.std.specs.List.{AllByRecursion}
use Rattle.std.specs.Result.{IsErrAnd}
use Rattle.std.proofs.Math.Logic.{∥∥₁_elim}
use Rattle.std.proofs.Props.{props}
use Rattle.std.proofs.lemmas.Bool.{ltb-false}
use Rattle.std.proofs.lemmas.List.{length-map, map-append}
use Rattle.std.proofs.lemmas.Option.{slice_get_past}
use Rattle.std.proofs.lemmas.Result.{err_from_is_err_and}
use Rattle.kp_wire.proofs.ReadLemmas.{failed}
use Rattle.kp_accum.specs.Config.{checked}
use Rattle.kp_accum.specs.declared.config.Config.{Config}
use Rattle.kp_log.specs.KeptBatches.{IsHistoryOf}
use Rattle.kp_schedule.specs.Grammar.{MayBeSaid}
use Rattle.kp_schedule.specs.declared.fault.ReplayFault.{ReplayFault}
use Rattle.kp_schedule.specs.declared.fault.ReplayFault.TheVariants.{BadLine, NoSuch, Config as config-refused, TooLong, OutOfMemory}
use Rattle.kp_schedule.specs.declared.schedule.Schedule.{Schedule}
use Rattle.kp_schedule.specs.declared.schedule.Scheduled.{Scheduled}
use Rattle.kp_world.specs.Accepting.{accepted_by, accepting, item_for, taken_by, taking}
use Rattle.kp_world.specs.Client.{client, leading, only_if}
use Rattle.kp_world.specs.Delivering.{logs_with_others}
use Rattle.kp_world.specs.Events.{other_records, record_at}
use Rattle.kp_world.specs.Noting.{only_noted}
use Rattle.kp_world.specs.Replay.{replayed, replayed_from, stepped}
use Rattle.kp_world.specs.Run.{MayBegin, with_others_at}
use Rattle.kp_world.specs.World.{World, opening}
use Rattle.kp_world.specs.declared.event.Event.{Event}
use Rattle.kp_world.specs.declared.event.Event.TheVariants as event
use Rattle.kp_world.specs.declared.event.Treatment.TheVariants.{Judged, Refused, Late}
use Rattle.kp_world.proofs.ListLemmas.{got_at}
use Rattle.kp_replay.specs.Replaying.{Brings, IsFirstAmiss, Replays, TakesPlace, events_in, opening_of}
use Rattle.kp_replay.specs.Shown.{Each, IsReplayed, IsReplied, IsSent, LeadsOn, Seen, Shows, is_there}
use Rattle.kp_replay.proofs.AcceptingLemmas.{each-length}

-- ---- what is not there

module _ (c : Config) (w : World) (a : Seen) (sh : Shows c w a) where
  not-below : {A B : Type 0} (R : A → B → Type 0) (xs : List A) (ys : List B) → Each R xs ys → (k : ℕ) → nat_lt k (length ys) ≡ false → slice_get xs k ≡ None
  not-below R xs ys each k past = slice_get_past xs k (omega (arith, each-length R xs ys each, ltb-false k (length ys) past))

  same-logs : (p : ℕ) → nat_lt p (length w.logs) ≡ nat_lt p (length a.logs)
  same-logs p = ap (nat_lt p) (each-length IsHistoryOf w.logs a.logs sh.logs)

  same-senders : (s : ℕ) → nat_lt s (length w.accepted) ≡ nat_lt s (length a.accepted)
  same-senders s = λ i. nat_lt s (length (sym sh.accepted i))

  -- an event that names what isn't there does not happen
  pub nothing-there : (e : Event) → is_there e a ≡ false → stepped e w ≡ None
  unfolding stepped client with_others_at
  nothing-there (event.Accept s p value) none =
      ap (λ there. only_if there (accepting (item_for s p w.moment (record_at w.moment value) w) w)) ((λ i. same-senders s i && same-logs p i) ∙ none)
  nothing-there (event.Take s) none =
      ap (λ there. only_if there (taking s (slice_get (accepted_by s w) (taken_by s w)) w)) (same-senders s ∙ none)
  nothing-there (event.Deliver k how) none = rw (not-below (IsSent c) w.packets a.packets sh.packets k none) refl
  nothing-there (event.Reply j) none = rw (not-below IsReplied w.replies a.replies sh.replies j none) refl
  nothing-there (event.Leader p node) none = ap (λ there. only_if there (leading p node w)) (same-logs p ∙ none)
  nothing-there (event.Other p n) none =
      ap (λ there. only_if there (only_noted [] (record w { logs = logs_with_others p (other_records n) w.logs }))) (same-logs p ∙ none)
  nothing-there (event.Now moment) none = absurd cc
  nothing-there event.Tick none = absurd cc
  nothing-there (event.TickNode node) none = absurd cc
  nothing-there event.Send none = absurd cc
  nothing-there (event.SendNode node) none = absurd cc
  nothing-there event.Drop none = absurd cc
  nothing-there (event.DropNode node) none = absurd cc
  nothing-there event.Close none = absurd cc
  nothing-there event.End none = absurd cc
  nothing-there event.Flush none = absurd cc

-- ---- what may be said

said-prop : (e : Event) → IsProp (MayBeSaid e)
said-prop (event.Accept s p value) = hlevel props
said-prop (event.Take s) = hlevel props
said-prop (event.Now moment) = hlevel props
said-prop event.Tick = hlevel props
said-prop (event.TickNode node) = hlevel props
said-prop event.Send = hlevel props
said-prop (event.SendNode node) = hlevel props
said-prop (event.Deliver k Judged) = hlevel props
said-prop (event.Deliver k (Refused code)) = hlevel props
said-prop (event.Deliver k (Late code)) = hlevel props
said-prop (event.Reply j) = hlevel props
said-prop event.Drop = hlevel props
said-prop (event.DropNode node) = hlevel props
said-prop (event.Leader p node) = hlevel props
said-prop (event.Other p n) = hlevel props
said-prop event.Close = hlevel props
said-prop event.End = hlevel props
said-prop event.Flush = hlevel props

pub may-be : (x : Scheduled) → MayBeSaid x.event
may-be x = ∥∥₁_elim x.may_be (said-prop x.event) (λ said. said)

pub all-said : (xs : List Scheduled) → AllByRecursion MayBeSaid (map (λ x. x.event) xs)
all-said [] = tt
all-said (x ∷ xs) = (may-be x, all-said xs)

-- ---- one behind another

at-step : (n : ℕ) (here there : World → Result World ℕ) (goal : Result World ℕ) (v : World) → ((u : World) → here u ≡ Ok v → there u ≡ goal) → (o : Option World)
    → elim o as (λ _. Result World ℕ) [ Some u ↦ here u | None ↦ Err n ] ≡ Ok v → elim o as (λ _. Result World ℕ) [ Some u ↦ there u | None ↦ Err n ] ≡ goal
at-step n here there goal v follows (Some u) is = follows u is
at-step n here there goal v follows None is = absurd cc

-- the events behind those that lead to a world
behind : (es rest : List Event) (n m : ℕ) (w v : World) → m ≡ n + length es → replayed_from n es w ≡ Ok v → replayed_from n (es ++ rest) w ≡ replayed_from m rest v
unfolding replayed_from
behind [] rest n m w v count is =
    let number : n ≡ m = omega (arith, count) in
    let same : w ≡ v = cc in
    λ i. replayed_from (number i) rest (same i)
behind (e ∷ es) rest n m w v count is =
    at-step n (λ u. replayed_from (n + 1) es u) (λ u. replayed_from (n + 1) (es ++ rest) u) (replayed_from m rest v) v
    (λ u it. behind es rest (n + 1) m u v (omega (arith, count)) it) (stepped e w) is

stepped-on : (n : ℕ) (e : Event) (v u : World) → stepped e v ≡ Some u → replayed_from n (e ∷ []) v ≡ Ok u
unfolding replayed_from
stepped-on n e v u is = ap (λ (o : Option World). elim o as (λ _. Result World ℕ) [ Some x ↦ replayed_from (n + 1) [] x | None ↦ Err n ]) is

stopped-at : (n : ℕ) (e : Event) (rest : List Event) (v : World) → stepped e v ≡ None → replayed_from n (e ∷ rest) v ≡ Err n
unfolding replayed_from
stopped-at n e rest v is = ap (λ (o : Option World). elim o as (λ _. Result World ℕ) [ Some x ↦ replayed_from (n + 1) rest x | None ↦ Err n ]) is

-- what a `?` gives back
pub given-back : {A : Type 0} (P : Result A ReplayFault → Type 0) (got : Result A ReplayFault) (fault : ReplayFault) → IsErrAnd got (λ e. e ≡ fault) → P (Err fault) → P got
given-back {A = A} P got fault is p =
    let q = err_from_is_err_and got is in
    subst P (sym (q.1 ∙ ap (λ (e : ReplayFault). failed {A = A} e) q.2)) p

-- ---- a schedule's

-- These are left of its events, and the world that is seen is the one to which those before lead.
pub record HasReplayed (s : Schedule) (rest : List Scheduled) (a : Seen) : Type 0 where
  pub done : List Scheduled
  pub split : s.events ≡ done ++ rest
  pub world : World
  pub fine : checked s.config ≡ Ok tt
  pub leads : replayed (map (λ x. x.event) done) (opening (opening_of s)) ≡ Ok world
  pub shown : Shows s.config world a

pub none-replayed : (s : Schedule) (a : Seen) → checked s.config ≡ Ok tt → Shows s.config (opening (opening_of s)) a → HasReplayed s s.events a
unfolding replayed replayed_from
none-replayed s a fine sh = record { done = []; split = refl; world = opening (opening_of s); fine = fine; leads = refl; shown = sh }

pub may-begin : (s : Schedule) → checked s.config ≡ Ok tt → MayBegin (opening_of s)
may-begin s fine = record {
  config = fine;
  some_partitions = s.some_partitions;
  partition_limit = s.few_partitions;
  some_senders = s.some_senders;
  sender_limit = s.few_senders;
  topic = omega arith;
  client = omega arith;
  known_id = omega arith;
  known_correlation = omega arith;
}

module _ (s : Schedule) where
  is-replayed : {rest : List Scheduled} {a : Seen} (h : HasReplayed s rest a) → IsReplayed s.config h.world
  is-replayed h = record {
    partitions = s.partitions;
    senders = s.senders;
    events = map (λ x. x.event) h.done;
    may_begin = may-begin s h.fine;
    may_be = all-said h.done;
    leads = h.leads;
  }

  parts : (done rest : List Scheduled) → s.events ≡ done ++ rest → events_in s ≡ map (λ x. x.event) done ++ map (λ x. x.event) rest
  parts done rest split = ap (map (λ (x : Scheduled). x.event)) split ∙ map-append (λ (x : Scheduled). x.event) done rest

  pub one-replayed : (x : Scheduled) (rest : List Scheduled) (a b : Seen) → HasReplayed s (x ∷ rest) a → LeadsOn x.event a b → HasReplayed s rest b
  unfolding replayed
  one-replayed x rest a b h leads =
      let next = leads s.config h.world (is-replayed h) h.shown in
      record {
        done = h.done ++ x ∷ [];
        split = h.split ∙ sym (append_assoc h.done (x ∷ []) rest);
        world = next.0;
        fine = h.fine;
        leads = ap (λ es. replayed_from 0 es (opening (opening_of s))) (map-append (λ (y : Scheduled). y.event) h.done (x ∷ []))
            ∙ behind (map (λ y. y.event) h.done) (x.event ∷ []) 0 (length (map (λ (y : Scheduled). y.event) h.done)) (opening (opening_of s)) h.world (omega arith) h.leads
            ∙ stepped-on (length (map (λ (y : Scheduled). y.event) h.done)) x.event h.world next.0 next.1;
        shown = next.2;
      }

  pub first-amiss : (x : Scheduled) (rest : List Scheduled) (a : Seen) (line : ℕ) → HasReplayed s (x ∷ rest) a → line ≡ x.line → is_there x.event a ≡ false → IsFirstAmiss s line
  unfolding replayed
  first-amiss x rest a line h same none = record {
    number = length h.done;
    is_its = ap (λ es. replayed_from 0 es (opening (opening_of s))) (parts h.done (x ∷ rest) h.split)
        ∙ behind (map (λ y. y.event) h.done) (x.event ∷ map (λ y. y.event) rest) 0 (length h.done) (opening (opening_of s)) h.world (omega (arith, length-map h.done (λ (y : Scheduled). y.event))) h.leads
        ∙ stopped-at (length h.done) x.event (map (λ y. y.event) rest) h.world (nothing-there s.config h.world a h.shown x.event none);
    event = x;
    said = ap (λ xs. slice_get xs (length h.done)) h.split ∙ got_at h.done rest x (length h.done) refl;
    line_is = same;
  }

  -- the event that does not happen ends the replay
  pub replay-ends : (x : Scheduled) (rest : List Scheduled) (a b : Seen) → HasReplayed s (x ∷ rest) a → (fault : ReplayFault) → TakesPlace x a b (Err fault) → Replays s (Err fault)
  replay-ends x rest a b h (NoSuch line) said = (h.fine, first-amiss x rest a line h said.0 said.1)
  replay-ends x rest a b h OutOfMemory said = h.fine
  replay-ends x rest a b h (config-refused fault) said = absurd said
  replay-ends x rest a b h TooLong said = absurd said
  replay-ends x rest a b h (BadLine line) said = absurd said

  none-left : (rest : List Scheduled) → length rest ≡ 0 → rest ≡ []
  none-left [] none = refl
  none-left (x ∷ rest) none = absurd (omega (arith, none))

  pub all-replayed : (rest : List Scheduled) (a : Seen) → HasReplayed s rest a → length rest ≡ 0 → (w : World) × Brings s w a
  all-replayed rest a h none = (
    h.world,
    record {
      is_its = ap (λ es. replayed (map (λ (x : Scheduled). x.event) es) (opening (opening_of s))) (h.split ∙ ap (λ (es : List Scheduled). h.done ++ es) (none-left rest none) ∙ append-nil h.done) ∙ h.leads;
      shown = h.shown;
    },
  )
