-- Every world that is reached is accounted for.
use Rattle.std.proofs.Common.{◌≡◌, Bool, false, ℕ, zero, suc, ◌+◌, ◌<◌, ◌≤◌, true, List, [], ◌∷◌, ◌++◌, length, take, replicate, Some, refl, sym, ap, ◌∙◌, subst, arith}
use Rattle.std.specs.Prelude.{if◌then◌else◌, flat_map, slice_get, slice_index, slice_index_or}
use Rattle.std.specs.List.{AllByRecursion, range_with_len}
use Rattle.std.proofs.lemmas.Bool.{false_from_ne_true}
use Rattle.std.proofs.lemmas.List.{length-replicate, get_or-replicate}
use Rattle.kp_accum.specs.declared.item.Item.{Item}
use Rattle.kp_frames.specs.declared.response.Response.{Response}
use Rattle.kp_log.proofs.PlaceLemmas.{In, In-head, In-tail}
use Rattle.kp_rules.proofs.CallLemmas.{at_append}
use Rattle.kp_rules.specs.Leading.{lead_step}
use Rattle.kp_rules.specs.Closing.{close_step, end_step}
use Rattle.kp_rules.specs.Flush.{flush_step}
use Rattle.kp_rules.specs.Replies.{response_step}
use Rattle.kp_rules.specs.Tick.{tick_step}
use Rattle.kp_rules.specs.declared.outcome.Reason.{Reason}
use Rattle.kp_rules.specs.declared.outcome.Reason.TheVariants.{Fenced, Ended}
use Rattle.kp_rules.specs.Appending.{Appends, with_queued, turn_away}
use Rattle.kp_rules.specs.Attempts.{awaits}
use Rattle.kp_rules.specs.Dropping.{disconnect_step}
use Rattle.kp_rules.specs.Auditing.{opened, without_audits}
use Rattle.kp_rules.specs.Opening.{new_core}
use Rattle.kp_rules.specs.Partitions.{partition_at, new_partition, items_queued, untold}
use Rattle.kp_rules.specs.Records.{HandedBatch, Open, Partition, Core}
use Rattle.kp_rules.specs.Requesting.{Packet}
use Rattle.kp_world.specs.Facts.{told_in}
use Rattle.kp_world.specs.Events.{WorldEvent}
use Rattle.kp_world.specs.Accepting.{for_partition, item_for, accepted_by, with_accepted, with_taken, taken_by, taking_of, taking}
use Rattle.kp_world.specs.Accounts.{items_of, of_sender}
use Rattle.kp_world.specs.Client.{handed_at, reply_line, flush_line}
use Rattle.kp_world.specs.Delivering.{Delivery, log_at, logs_with_others}
use Rattle.kp_world.specs.Line.{Closed, Large, Empty, Full}
use Rattle.kp_world.specs.Run.{answer_line, reply_to, with_delivery, Steps, MayBegin, IsReached}
use Rattle.kp_world.specs.World.{Reply, World, Opening, opening}
use Rattle.kp_world.proofs.EventLemmas.{OfEvent, at_step, at_run}
use Rattle.kp_world.proofs.AccountLemmas.{taken_of, Accepts, Accounts, IsAccounted, accounts_core, accounts_only, accounts_noted, accounts_call}
use Rattle.kp_world.proofs.ConservationLemmas.{attempts_of, attempt_count}
use Rattle.kp_world.proofs.FateLemmas.{Fates}
use Rattle.kp_rules.specs.declared.attempt.Attempt.TheVariants.{InFlight}
use Rattle.kp_world.proofs.DeliveredLemmas.{heard}
use Rattle.kp_world.proofs.FlightLemmas.{flies_same}
use Rattle.kp_world.proofs.HearingLemmas.{answered_batch, same_correlation}
use Rattle.kp_world.proofs.LawfulLemmas.{IsLawful}
use Rattle.kp_world.proofs.LeavingLemmas.{Rising, awaits_is}
use Rattle.kp_world.proofs.RunLemmas.{first_core, lawful_step, lawful_opening, within_five}
use Rattle.kp_rules.proofs.ListLemmas.{all_say}
use Rattle.kp_world.proofs.ListLemmas.{all_alike, all_at, all_in, in_at}
use Rattle.kp_world.proofs.WeightLemmas.{weigh, weigh_flat, weigh_none}
use Rattle.kp_world.proofs.HandingLemmas.{accounts_sending}
use Rattle.kp_world.proofs.TakingLemmas.{NextOf, next_of, accounts_accepted, accounts_turned_away, accounts_queued}
use Rattle.kp_world.proofs.TellingLemmas.{IsSingle, core_alike, core_ticked, core_ended, core_flushed, core_disconnected, core_closed, core_unaudited, core_replied, home_past, core_led}

-- ---- the producer's events

abbrev taken_in : ℕ → World → Appends → World
taken_in s w step = taking_of s step.after step.told step.answer w

accounts_taken : (s : ℕ) (i : Item) (w : World) → s < length w.accepted → slice_get (accepted_by s w) (taken_by s w) ≡ Some i → IsAccounted w → IsAccounted (taking s (Some i) w)
accounts_taken s i w l e a = at_append (λ (step : Appends). IsAccounted (taken_in s w step)) i w.core (record {
  outside = accounts_call w.core (Full s ∷ []) [] w a (core_alike w.core w.core refl (λ P h. h));
  past_end = λ may ended. turned Ended;
  by_fence = λ may ended fenced. turned Fenced;
  full = accounts_call (record w.core { exhausted = true }) (Full s ∷ []) [] w a (core_alike w.core (record w.core { exhausted = true }) refl (λ P h. h));
  room = λ may ended fenced fits. accounts_only (with_queued i w.core) [] (with_taken s w) (accounts_queued w.core w.accepted w.taken w.handed (told_in w.past) s i a within next);
})
  where
    within : s < length w.taken
    within = subst (λ (n : ℕ). s < n) (sym a.taken_count) l

    next : NextOf (length w.core.partitions) s (accepted_by s w) (taken_by s w) i
    next = next_of (length w.core.partitions) s (accepted_by s w) (taken_by s w) i (a.senders s) e

    turned : (why : Reason) → IsAccounted (taken_in s w (turn_away why i w.core))
    turned why = accounts_noted (turn_away why i w.core).after [] (turn_away why i w.core).told (with_taken s w)
        (accounts_turned_away why w.core (turn_away why i w.core).after w.accepted w.taken w.handed (told_in w.past) s i a within next refl refl)

-- batches of which those in flight in this request are one
single : (k : ℕ) (os : List Open) → Rising os → ((o x : Open) → In o os → In x os → o.attempt ≡ InFlight k → x.attempt ≡ InFlight k → o.batch ≡ x.batch) → attempt_count k os ≤ 1
single k [] rises one = omega arith
single k (o ∷ os) rises one = at_test (awaits k o) refl (single k os rises.1 (λ x y i j. one x y (In-tail x o os i) (In-tail y o os j)))
  where
    none : awaits k o ≡ true → attempt_count k os ≡ 0
    none is = weigh_none (attempts_of k) os (all_in (λ (x : Open). attempts_of k x ≡ 0) os (λ x i. ap (λ (b : Bool). if b then 1 else 0) (false_from_ne_true (awaits k x) (other x i))))
      where
        other : (x : Open) → In x os → awaits k x ≡ true → ⊥
        other x i too =
            let same : o.batch.number ≡ x.batch.number = ap (λ (b : HandedBatch). b.number) (one o x (In-head o os) (In-tail x o os i) (awaits_is k o is) (awaits_is k x too)) in
            let above : o.batch.number < x.batch.number = all_at (λ (y : Open). o.batch.number < y.batch.number) os x rises.0 i in
            omega (arith, same, above)

    at_test : (b : Bool) → awaits k o ≡ b → attempt_count k os ≤ 1 → (if b then 1 else 0) + attempt_count k os ≤ 1
    at_test true is rest = let zero_left : attempt_count k os ≡ 0 = none is in omega (arith, zero_left)
    at_test false is rest = omega (arith, rest)

-- a reply that was given answers one batch of a partition
pub is_single : (n : ℕ) (w : World) (r : Reply) → IsLawful n w → In r w.replies → IsSingle w.core r.response
is_single n w r g given p k o a x named =
    let h = heard n w r p o a g given x in
    let steady = (g.agree p h.within).steady in
    let its : k ≡ r.correlation = same_correlation k r.correlation (named ∙ (g.gave r given).answers.named) in
    single k (partition_at p w.core.partitions).open_batches steady.rising (λ y z i j f e.
    let first = answered_batch p w.core.correlation k w.core.ended (partition_at p w.core.partitions) (handed_at p w.handed) (log_at p w.logs) w.packets w.replies r h.parts h.part steady given h.content its h.known h.place y i f in
    sym first.1 ∙ flies_same p w.core.correlation r.correlation w.packets z.batch first.0.batch ((steady.aloft z j).flies r.correlation (e ∙ ap InFlight its)) first.0.carried)

accounts_event : (n : ℕ) (w : World) → IsLawful n w → IsAccounted w → OfEvent (λ e. IsAccounted) w
accounts_event n w g a = record {
  not_accepted = λ s p at body. (accounts_only w.core (Closed s p ∷ []) w a, accounts_only w.core (Large s p ∷ []) w a);
  accepted = λ s p at body here there shut small.
      accounts_only w.core [] (with_accepted (item_for s p at body w) w)
      (accounts_accepted w.core w.accepted w.taken w.handed (told_in w.past) (item_for s p at body w) a here (subst (λ (m : ℕ). p < m) (g.logs_count ∙ sym g.count) there) refl);
  none_taken = λ s none. accounts_only w.core (Empty s ∷ []) w a;
  taken = λ s i here there. accounts_taken s i w here there a;
  now = λ moment. accounts_only w.core [] (record w { moment = moment }) a;
  tick = λ node. accounts_call (tick_step node w.moment w.core).after _ (tick_step node w.moment w.core).told w a (core_ticked node w.moment w.core a.home);
  send = λ node. accounts_sending n node w g a;
  reply = λ j r there.
      let step = response_step w.moment r.response w.core in
      accounts_call step.after (reply_line j step.answer) step.told w a (core_replied w.moment r.response w.core (is_single n w r g (in_at w.replies j r there)) a.requests a.home);
  lost = λ node. accounts_call (disconnect_step node w.moment w.core) [] [] w a (core_disconnected node w.moment w.core);
  led = λ p node. accounts_call (lead_step p node w.moment w.core) [] [] w a (core_led p node w.moment w.core);
  close = accounts_call (close_step w.core) [] [] (record w { is_shut = true }) a (core_closed w.core);
  end = accounts_call (end_step w.core).after [] (end_step w.core).told w a (core_ended w.core a.home);
  flush = accounts_call (flush_step w.core) (flush_line w.core ∷ []) [] w a (core_flushed w.core);
}

-- ---- any event

abbrev delivered_to : Packet → Delivery → Response → World → World
delivered_to o d x w = record w { logs = d.logs; ids = d.ids; replies = w.replies ++ reply_to o d x ∷ [] }

accounts_step : (n : ℕ) (w : World) → IsLawful n w → IsAccounted w → (e : WorldEvent) (v : World) → Steps w e v → IsAccounted v
unfolding with_delivery
accounts_step n w g a e v s = at_step (λ e. IsAccounted) w (record {
  client = accounts_event n w g a;
  arrives = λ k o d x went honest says. accounts_only w.core (answer_line (length w.replies) d.content ∷ []) (delivered_to o d x w) a;
  others = λ p records others there. accounts_only w.core [] (record w { logs = logs_with_others p records w.logs }) a;
}) e v s

-- ---- from the opening world

accepts_none : (n s : ℕ) → Accepts n s [] 0
accepts_none n s = record { within = omega arith; known = tt; own = tt; numbered = λ p. tt }

no_items : (f : Item → ℕ) (id n : ℕ) → weigh f (flat_map untold (replicate n (new_partition id))) ≡ 0
unfolding untold
no_items f id zero = refl
no_items f id (suc n) = no_items f id n

none_taken : (f : Item → ℕ) (senders a m : ℕ) → weigh f (flat_map (taken_of (replicate senders []) (replicate senders 0)) (range_with_len a m)) ≡ 0
none_taken f senders a m =
    weigh_flat f (taken_of (replicate senders []) (replicate senders 0)) (range_with_len a m)
    ∙ weigh_none (λ s. weigh f (taken_of (replicate senders []) (replicate senders 0) s)) (range_with_len a m)
    (all_say (λ s. weigh f (taken_of (replicate senders []) (replicate senders 0) s) ≡ 0) (λ s. ap (λ (n : ℕ). weigh f (take n (slice_index_or (replicate {A = List Item} senders []) s []))) (all_alike senders s 0)) (range_with_len a m))

fates_none : Fates [] [] [] []
fates_none = record { kept = refl; known = tt; numbered = tt }

abbrev AccountedAtFirst : Opening → Core → Type 0
AccountedAtFirst o core = Accounts core (replicate o.senders []) (replicate o.senders 0) (replicate o.partitions []) []

accounts_first : (o : Opening) → AccountedAtFirst o (first_core o)
unfolding new_core untold
accounts_first o = record {
  taken_count = length-replicate o.senders 0 ∙ sym (length-replicate {A = List Item} o.senders []);
  handed_count = length-replicate {A = List HandedBatch} o.partitions [] ∙ sym (length-replicate o.partitions (new_partition o.id));
  senders = λ s. subst (λ (items : List Item). Accepts (length (replicate o.partitions (new_partition o.id))) s items (slice_index (replicate o.senders 0) s)) (sym (all_alike {A = List Item} o.senders s [])) (subst (Accepts (length (replicate o.partitions (new_partition o.id))) s []) (sym (all_alike o.senders s 0)) (accepts_none (length (replicate o.partitions (new_partition o.id))) s));
  home = home_past (replicate o.partitions (new_partition o.id)) (λ p l. subst (λ (t : Partition). AllByRecursion (λ i. i.partition ≡ p) (untold t)) (sym (at p l)) tt);
  requests = tt;
  fates = λ s p l.
      subst (λ (n : ℕ). Fates (for_partition p (take n (slice_index_or (replicate o.senders []) s []))) (of_sender s (items_queued (partition_at p (replicate o.partitions (new_partition o.id))).queue)) (of_sender s (items_of (handed_at p (replicate o.partitions [])))) []) (sym (all_alike o.senders s 0))
      (subst (λ (t : Partition). Fates [] (of_sender s (items_queued t.queue)) (of_sender s (items_of (handed_at p (replicate o.partitions [])))) []) (sym (at p l))
      (subst (λ (handed : List HandedBatch). Fates [] [] (of_sender s (items_of handed)) []) (sym (all_alike {A = List HandedBatch} o.partitions p [])) fates_none));
  weights = λ f.
      let untold_none : weigh f (flat_map untold (replicate o.partitions (new_partition o.id))) ≡ 0 = no_items f o.id o.partitions in
      let taken_none : weigh f (flat_map (taken_of (replicate o.senders []) (replicate o.senders 0)) (range_with_len 0 (length (replicate {A = List Item} o.senders [])))) ≡ 0 = none_taken f o.senders 0 (length (replicate {A = List Item} o.senders [])) in
      omega (arith, untold_none, taken_none);
}
  where
    at : (p : ℕ) → p < length (replicate o.partitions (new_partition o.id)) → partition_at p (replicate o.partitions (new_partition o.id)) ≡ new_partition o.id
    at p l = get_or-replicate o.partitions p (new_partition o.id) (new_partition 0) (subst (λ (n : ℕ). p < n) (length-replicate o.partitions (new_partition o.id)) l)

accounts_opening : (o : Opening) → IsAccounted (opening o)
unfolding opening
accounts_opening o = at_audits o.audits
  where
    at_audits : (audits : Bool) → AccountedAtFirst o (opened audits (first_core o))
    at_audits true = accounts_first o
    at_audits false = accounts_core (first_core o) (replicate o.senders []) (replicate o.senders 0) (replicate o.partitions []) [] [] (without_audits (first_core o)) (accounts_first o) (core_unaudited (first_core o))

-- ---- every world that a schedule leads to

-- It is lawful, and what was taken is accounted for.
abbrev pub IsInOrder : ℕ → World → Type 0
IsInOrder n w = IsLawful n w × IsAccounted w

pub order_step : (n : ℕ) (w : World) → IsInOrder n w → (e : WorldEvent) (v : World) → Steps w e v → IsInOrder n v
order_step n w h e v s = (lawful_step n e w v s h.0, accounts_step n w h.0 h.1 e v s)

pub order_opening : (o : Opening) → MayBegin o → IsInOrder o.partitions (opening o)
order_opening o may = (lawful_opening o (within_five o.config may.config), accounts_opening o)

pub order_reached : (o : Opening) (es : List WorldEvent) (w : World) → IsReached o es w → IsInOrder o.partitions w
order_reached o es w r = at_run (IsInOrder o.partitions) (order_step o.partitions) es (opening o) w r.run (order_opening o r.may_begin)
