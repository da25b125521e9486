-- What every call leaves of a core, and where the reports are that it tells.
use Rattle.std.proofs.Common.{◌≡◌, ℕ, ◌<◌, true, false, List, [], ◌∷◌, ◌++◌, length, map, get_or, set, refl, sym, ap, ◌∙◌, subst, append-nil, arith, zero-add, ◌≢◌, ⊎_elim, eqb}
use Rattle.std.specs.Prelude.{Option, Some, None, Err, slice_get, drop, nat_abs, option_to_list, if◌then◌else◌, ◌==◌}
use Rattle.std.specs.List.{enumerate_from}
use Rattle.std.proofs.lemmas.List.{length-map, get_or-map, length-set, get_or-set_same, get_or-set_other}
use Rattle.std.proofs.lemmas.List.FromFn.{get_or-enumerate_from, length-enumerate_from}
use Rattle.std.proofs.lemmas.Bool.{eq-eqb, ne_eqb}
use Rattle.std.proofs.lemmas.Bool.Decides.{eqb_tells}
use Rattle.kp_accum.specs.declared.fault.AppendFault.TheVariants as append
use Rattle.kp_accum.specs.declared.item.Item.{Item}
use Rattle.kp_rules.specs.declared.fault.CoreFault.TheVariants as fault
use Rattle.kp_rules.specs.declared.outcome.Report.{Report}
use Rattle.kp_rules.specs.Appending.{Appends, turn_away, with_queued, append_step}
use Rattle.kp_rules.specs.Calls.{Call, Step, Gives, told_by}
use Rattle.kp_rules.specs.Calls as call
use Rattle.kp_rules.specs.Closing.{close_step, end_all, end_step}
use Rattle.kp_rules.specs.declared.outcome.Reason.TheVariants.{Ended}
use Rattle.kp_frames.specs.declared.producer_id.InitProducerIdResponse.{InitProducerIdResponse}
use Rattle.kp_rules.specs.Dropping.{drop_led, drop_requests, disconnect_step}
use Rattle.kp_rules.specs.Fence.{give_up}
use Rattle.kp_rules.specs.Flush.{mark, flush_step}
use Rattle.kp_rules.specs.HandingOver.{send_in}
use Rattle.kp_rules.specs.Next.{Sending}
use Rattle.kp_rules.specs.Partitions.{changed_at, partition_at, with_partition}
use Rattle.kp_rules.specs.Records.{Partition, Demand, Produce, InitProducerId, Core, Told, Called, Effect}
use Rattle.kp_rules.specs.Replies.{Replies, settle_id, go_on_under, reply_step}
use Rattle.kp_rules.specs.Reports.{reports_to, with_reports, fetch_step}
use Rattle.kp_rules.specs.Leading.{lead_step}
use Rattle.kp_rules.specs.Requesting.{Requested, partitions_in, go_out, request_step}
use Rattle.kp_rules.specs.Telling.{with_partitions, at_each, at_these}
use Rattle.kp_rules.specs.Tick.{Ticks, heed_deadlines, tick_step}
use Rattle.kp_rules.proofs.CallLemmas.{at_append, at_request, at_response, at_id, at_reply, at_tick, at_end_step, at_disconnect, at_close, idle}
use Rattle.kp_rules.proofs.PartitionLemmas.{length-changed_at}
use Rattle.kp_engine.specs.Agreement.{waiting_of}

-- the core has the configuration, as many partitions and as many senders as before
pub record SameShape (s t : Core) : Type 0 where
  pub config : t.config ≡ s.config
  pub partitions : length t.partitions ≡ length s.partitions
  pub senders : length t.reports ≡ length s.reports

-- The same, and what was told waits behind what waited before.
record Tells (s : Core) (told : List Told) (t : Core) : Type 0 where
  shape : SameShape s t
  waiting : (i : ℕ) → i < length s.reports → waiting_of t i ≡ waiting_of s i ++ reports_to i told

waiting-told : (told : List Told) (reports : List (List Report)) (i : ℕ) → i < length reports
    → get_or (with_reports told reports) i [] ≡ get_or reports i [] ++ reports_to i told
unfolding with_reports
waiting-told told reports i near =
    let within : i < length (enumerate_from 0 reports) = omega (arith, near, length-enumerate_from 0 reports) in
    get_or-map (λ (x : ℕ × List Report). x.1 ++ reports_to x.0 told) (enumerate_from 0 reports) i (0, []) [] within
    ∙ ap (λ (x : ℕ × List Report). x.1 ++ reports_to x.0 told) (get_or-enumerate_from 0 reports i (0, []) near)
    ∙ ap (λ (n : ℕ). get_or reports i [] ++ reports_to n told) (zero-add i)

length-told : (told : List Told) (reports : List (List Report)) → length (with_reports told reports) ≡ length reports
unfolding with_reports
length-told told reports = length-map (enumerate_from 0 reports) _ ∙ length-enumerate_from 0 reports

-- nothing is told
silent : (s t : Core) → SameShape s t → t.reports ≡ s.reports → Tells s [] t
silent s t shape same = record { shape = shape; waiting = λ i near. ap (λ (xs : List (List Report)). get_or xs i []) same ∙ sym (append-nil (waiting_of s i)) }

same_shape : (s : Core) → SameShape s s
same_shape s = record { config = refl; partitions = refl; senders = refl }

nothing : (s : Core) → Tells s [] s
nothing s = silent s s (same_shape s) refl

-- other partitions, as many
others : (s t : Core) → t.config ≡ s.config → length t.partitions ≡ length s.partitions → t.reports ≡ s.reports → Tells s [] t
others s t config count same = silent s t (record { config = config; partitions = count; senders = ap length same }) same

with_told : (s : Core) (ts : List Partition) (told : List Told) → length ts ≡ length s.partitions → Tells s told (with_partitions ts told s).after
unfolding with_partitions
with_told s ts told count = record {
  shape = record { config = refl; partitions = count; senders = length-told told s.reports };
  waiting = waiting-told told s.reports;
}

told_each : (rule : Partition → Effect) (s : Core) → Tells s (at_each rule s).told (at_each rule s).after
unfolding at_each with_partitions
told_each rule s = with_told s (map (λ (t : Partition). (rule t).after) s.partitions) _ (length-map s.partitions (λ t. (rule t).after))

told_these : (ps : List ℕ) (rule : ℕ → Partition → Effect) (s : Core) → Tells s (at_these ps rule s).told (at_these ps rule s).after
unfolding at_these with_partitions
told_these ps rule s = with_told s (changed_at ps (λ p t. (rule p t).after) s.partitions) _ (length-changed_at ps (λ p t. (rule p t).after) s.partitions)

abbrev Telling : {A : Type 0} → Core → Called A → Type 0
Telling s x = Tells s x.told x.after

turned_away : (why : _) (i : Item) (s : Core) → Telling s (turn_away why i s)
turned_away why i s = record {
  shape = record { config = refl; partitions = refl; senders = length-told (turn_away why i s).told s.reports };
  waiting = waiting-told (turn_away why i s).told s.reports;
}

appends : (i : Item) (s : Core) → Telling s (append_step i s)
appends i s = at_append (λ (x : Appends). Telling s x) i s (record {
  outside = nothing s;
  past_end = λ m e. turned_away _ i s;
  by_fence = λ m e f. turned_away _ i s;
  full = others s (record s { exhausted = true }) refl refl refl;
  room = λ m e f r. others s (with_queued i s) refl (length-set s.partitions i.partition _) refl;
})

goes_out : (node now : ℕ) (s : Core) (d : Demand Sending) → Tells s [] (go_out node now s d).after
goes_out node now s (Produce xs) = others s (go_out node now s (Produce xs)).after refl (length-changed_at (partitions_in xs) (λ p t. send_in s.correlation t) s.partitions) refl
goes_out node now s (InitProducerId p) = others s (go_out node now s (InitProducerId p)).after refl refl refl

asks : (node now : ℕ) (s : Core) → Tells s [] (request_step node now s).after
asks node now s = at_request (λ (x : Requested). Tells s [] x.after) node now s (record {
  ended = nothing s;
  idle = nothing s;
  spent = nothing s;
  out = λ e d is spent. goes_out node now s d;
})

settled_id : (now p : ℕ) (x : InitProducerIdResponse) (s : Core) → Tells s [] (settle_id now p x s)
settled_id now p x s = at_id (λ (t : Core). Tells s [] t) now p x s (record {
  wanted = λ given. others s (with_partition p (go_on_under (nat_abs x.producer_id) (partition_at p s.partitions)) (idle s)) refl (length-set s.partitions p _) refl;
  unwanted = others s (idle s) refl refl refl;
  refused = others s (record (idle s) { id_waits = Some now }) refl refl refl;
})

hears : (now : ℕ) (content : List ℕ) (s : Core) → Telling s (reply_step now content s)
hears now content s = at_reply (λ (x : Replies). Telling s x) now content s (λ answer. nothing s)
    (λ api response is. at_response (λ (x : Replies). Telling s x) now response s (record {
      same = λ answer. nothing s;
      batches = λ r ps produce named demand body fits. told_these ps _ s;
      id = λ r p x named demand body fits. settled_id now p x s;
    }))

dropped : (node now : ℕ) (s : Core) → Tells s [] (drop_requests node now s)
unfolding drop_requests
dropped node now s = others s (drop_requests node now s) refl (length-map s.partitions (drop_led node now)) refl

-- what is told of a core that has dropped its requests
told_dropped : (node now : ℕ) (s : Core) (told : List Told) (t : Core) → Tells (drop_requests node now s) told t → Tells s told t
unfolding drop_requests
told_dropped node now s told t x = record {
  shape = record { config = x.shape.config; partitions = x.shape.partitions ∙ length-map s.partitions (drop_led node now); senders = x.shape.senders };
  waiting = x.waiting;
}

ticks : (node now : ℕ) (s : Core) → Telling s (tick_step node now s)
ticks node now s = at_tick (λ (x : Ticks). Telling s x) node now s (record {
  ended = nothing s;
  timed_out = told_dropped node now s _ _ (told_each (heed_deadlines (drop_requests node now s).config now) (drop_requests node now s));
  on_time = told_each (heed_deadlines s.config now) s;
})

ends : (s : Core) → Telling s (end_step s)
ends s = at_end_step (λ (x : Called ℕ). Telling s x) s (nothing s) (ended_all (told_each (give_up Ended) s))
  where
    ended_all : Telling s (at_each (give_up Ended) s) → Telling s (end_all s)
    ended_all x = record { shape = record { config = x.shape.config; partitions = x.shape.partitions; senders = x.shape.senders }; waiting = x.waiting }

closes : (s : Core) → Tells s [] (close_step s)
closes s = at_close (λ (t : Core). Tells s [] t) s (nothing s) (others s (record s { closing = true }) refl refl refl)

disconnects : (node now : ℕ) (s : Core) → Tells s [] (disconnect_step node now s)
disconnects node now s = at_disconnect (λ (t : Core). Tells s [] t) node now s (nothing s) (dropped node now s)

leads : (p leader now : ℕ) (s : Core) → Tells s [] (lead_step p leader now s)
unfolding lead_step
leads p leader now s = others s (lead_step p leader now s) refl (length-set s.partitions p _) refl

flushes : (s : Core) → Tells s [] (flush_step s)
unfolding flush_step
flushes s = others s (flush_step s) refl (length-map s.partitions mark) refl

-- ---- fetching

-- the reports of the sender that the call fetches
abbrev pub fetched_by : ℕ → Call → List Report
fetched_by i (call.Fetch j (Some r)) = if i == j then r ∷ [] else []
fetched_by i x = []

-- ---- any call

to_after : {A : Type 0} (s t : Core) (x : Called A) → t ≡ x.after → Telling s x → Tells s x.told t
to_after s t x is tells = subst (λ (u : Core). Tells s x.told u) (sym is) tells

stays : (s t : Core) → t ≡ s → Tells s [] t
stays s t is = subst (λ (u : Core). Tells s [] u) (sym is) (nothing s)

-- What a call tells waits behind what waited before, until it is fetched, and all else is so many as it was.
pub record Continues (s : Core) (x : Call) (t : Core) : Type 0 where
  pub shape : SameShape s t
  pub waiting : (i : ℕ) → i < length s.reports → waiting_of s i ++ reports_to i (told_by s x) ≡ fetched_by i x ++ waiting_of t i

-- a call that fetches nothing
unfetched : (s t : Core) (x : Call) (told : List Told) → told ≡ told_by s x → ((i : ℕ) → fetched_by i x ≡ []) → Tells s told t → Continues s x t
unfetched s t x told is none tells = record {
  shape = tells.shape;
  waiting = λ i near.
      ap (λ (ts : List Told). waiting_of s i ++ reports_to i ts) (sym is) ∙ sym (tells.waiting i near)
      ∙ ap (λ (rs : List Report). rs ++ waiting_of t i) (sym (none i));
}

fetches : (s : Core) (j : ℕ) → SameShape s (fetch_step j s).after
fetches s j = record { config = refl; partitions = refl; senders = length-set s.reports j _ }

-- the first of a list, and the others
first_off : (xs : List Report) → option_to_list (slice_get xs 0) ++ drop 1 xs ≡ xs
first_off [] = refl
first_off (x ∷ xs) = refl

pub here_fetched : (j : ℕ) (answer : Option Report) → fetched_by j (call.Fetch j answer) ≡ option_to_list answer
here_fetched j None = refl
here_fetched j (Some r) = rw (eq-eqb j j refl) refl

pub elsewhere : (i j : ℕ) (answer : Option Report) → i ≢ j → fetched_by i (call.Fetch j answer) ≡ []
elsewhere i j None other = refl
elsewhere i j (Some r) other = rw (ne_eqb i j other) refl

fetched : (s t : Core) (j : ℕ) (answer : Option Report) → Gives (fetch_step j s) answer t → Continues s (call.Fetch j answer) t
fetched s t j answer gives = subst (λ (u : Core). Continues s (call.Fetch j answer) u) (sym gives.1) (record { shape = fetches s j; waiting = waiting })
  where
    rest : List Report
    rest = drop 1 (waiting_of s j)

    at_its_place : (i : ℕ) → i ≡ j → i < length s.reports
        → waiting_of s i ++ [] ≡ fetched_by i (call.Fetch j answer) ++ get_or (set s.reports j rest) i []
    at_its_place i same near =
        let inside : j < length s.reports = subst (λ (k : ℕ). k < length s.reports) same near in
        let now_first : fetched_by j (call.Fetch j answer) ≡ option_to_list (slice_get (waiting_of s j) 0) =
        here_fetched j answer ∙ ap (λ (o : Option Report). option_to_list o) (sym gives.0) in
        subst (λ (k : ℕ). waiting_of s k ++ [] ≡ fetched_by k (call.Fetch j answer) ++ get_or (set s.reports j rest) k []) (sym same)
        (append-nil (waiting_of s j) ∙ sym (first_off (waiting_of s j))
        ∙ ap (λ (xs : List Report). option_to_list (slice_get (waiting_of s j) 0) ++ xs) (sym (get_or-set_same s.reports j rest [] inside))
        ∙ ap (λ (xs : List Report). xs ++ get_or (set s.reports j rest) j []) (sym now_first))

    waiting : (i : ℕ) → i < length s.reports → waiting_of s i ++ [] ≡ fetched_by i (call.Fetch j answer) ++ get_or (set s.reports j rest) i []
    waiting i near = ⊎_elim
        (λ (k : (eqb i j ≡ true) × (i ≡ j)). at_its_place i k.1 near)
        (λ (k : (eqb i j ≡ false) × (i ≡ j → ⊥)).
        append-nil (waiting_of s i) ∙ sym (get_or-set_other s.reports j i rest [] k.1)
        ∙ ap (λ (xs : List Report). xs ++ get_or (set s.reports j rest) i []) (sym (elsewhere i j answer k.1)))
        (eqb_tells i j)

pub each_call : (s t : Core) (x : Call) → Step s x t → Continues s x t
each_call s t (call.Append i (Err append.OutOfMemory)) step = unfetched s t _ [] refl (λ i. refl) (stays s t step.1)
each_call s t (call.Append i answer) step = unfetched s t (call.Append i answer) (append_step i s).told refl (λ i. refl) (to_after s t (append_step i s) step.1 (appends i s))
each_call s t (call.Request node now (Err fault.OutOfMemory)) step = unfetched s t _ [] refl (λ i. refl) (stays s t step.1)
each_call s t (call.Request node now answer) step = unfetched s t (call.Request node now answer) [] refl (λ i. refl) (subst (λ (u : Core). Tells s [] u) (sym step.1) (asks node now s))
each_call s t (call.Reply now content (Err fault.OutOfMemory)) step = unfetched s t _ [] refl (λ i. refl) (stays s t step.1)
each_call s t (call.Reply now content answer) step = unfetched s t (call.Reply now content answer) (reply_step now content s).told refl (λ i. refl) (to_after s t (reply_step now content s) step.1 (hears now content s))
each_call s t (call.Tick node now answer) step = unfetched s t (call.Tick node now answer) (tick_step node now s).told refl (λ i. refl) (to_after s t (tick_step node now s) step.1 (ticks node now s))
each_call s t (call.Disconnect node now) step = unfetched s t (call.Disconnect node now) [] refl (λ i. refl) (subst (λ (u : Core). Tells s [] u) (sym step) (disconnects node now s))
each_call s t (call.Lead p leader now) step = unfetched s t (call.Lead p leader now) [] refl (λ i. refl) (subst (λ (u : Core). Tells s [] u) (sym step) (leads p leader now s))
each_call s t call.Close step = unfetched s t call.Close [] refl (λ i. refl) (subst (λ (u : Core). Tells s [] u) (sym step) (closes s))
each_call s t call.Flush step = unfetched s t call.Flush [] refl (λ i. refl) (subst (λ (u : Core). Tells s [] u) (sym step) (flushes s))
each_call s t (call.End reports) step = unfetched s t (call.End reports) (end_step s).told refl (λ i. refl) (to_after s t (end_step s) step.1 (ends s))
each_call s t (call.Fetch j answer) step = fetched s t j answer step
