-- An event of the world that is seen is the event of its world.
use Rattle.std.proofs.Common.{◌≡◌, ℕ, zero, suc, ◌+◌, ◌≤◌, Bool, true, false, not, cond, ◌&&◌, List, [], ◌∷◌, ◌++◌, length, get_or, set, map, replicate, eqb, Result, Ok, Err, OnOk, refl, sym, ap, subst, ◌∙◌, append-nil, append_assoc, length-append, arith}
use Rattle.std.specs.List.{enumerate_from, flat_map, range_with_len}
use Rattle.std.proofs.lemmas.List.{length-map, length-set, map-append, length-replicate}
use Rattle.std.proofs.lemmas.List.FromFn.{length-enumerate_from}
use Rattle.std.proofs.lemmas.Bool.Decides.{nat_tests}
use Rattle.std.proofs.Math.Seq.{get_or-append_seam}
use Rattle.kp_accum.specs.Config.{checked}
use Rattle.kp_accum.specs.declared.config.Config.{Config}
use Rattle.kp_accum.specs.declared.item.Item.{Item}
use Rattle.kp_rules.specs.declared.outcome.Report.{Report}
use Rattle.kp_rules.specs.declared.ticked.Ticked.{Ticked}
use Rattle.kp_rules.specs.Closing.{close_step, end_step}
use Rattle.kp_rules.specs.Dropping.{disconnect_step}
use Rattle.kp_rules.specs.Fetched.{after_fetched, before_each, with_fetched}
use Rattle.kp_rules.specs.Flush.{flush_step, is_flushed}
use Rattle.kp_rules.specs.Records.{Core, Told, Called, quietly}
use Rattle.kp_rules.specs.Reports.{reports_to, with_reports}
use Rattle.kp_rules.specs.Tick.{tick_step}
use Rattle.kp_rules.proofs.FetchedLemmas.{tick_behind, end_behind, disconnect_behind, close_behind, flush_behind}
use Rattle.kp_rules.proofs.OrderedCallLemmas.{length-reports}
use Rattle.kp_log.specs.History.{empty_history}
use Rattle.kp_log.specs.KeptBatches.{IsHistoryOf, kept_in}
use Rattle.kp_log.specs.Log.{Log, empty}
use Rattle.kp_rules.specs.Auditing.{opened}
use Rattle.kp_rules.specs.Opening.{new_core}
use Rattle.kp_rules.specs.Partitions.{all_untold, is_empty, new_partition}
use Rattle.kp_world.specs.Client.{client, flush_line}
use Rattle.kp_world.specs.Line.{Line}
use Rattle.kp_world.specs.Line as line
use Rattle.kp_world.specs.Noting.{noted}
use Rattle.kp_world.specs.Replay.{stepped}
use Rattle.kp_world.specs.World.{World, Happened, names, opening, scheduled}
use Rattle.kp_world.specs.declared.event.Event.{Event}
use Rattle.kp_world.specs.declared.event.Event.TheVariants as event
use Rattle.kp_replay.specs.Bounds.{IsInBounds}
use Rattle.kp_replay.specs.Fetching.{all_fetched, by_sender}
use Rattle.kp_replay.specs.Shown.{Each, LeadsOn, Noted, Seen, Shows, noted_of, with_noted}
use Rattle.kp_replay.proofs.TellingLemmas.{Tells, tells-quietly, tells-tick, tells-end, tells-disconnect, tells-close, tells-flush}

-- ---- reports

same-empty : (xs ys : List (List Report)) → length xs ≡ length ys → ◌≡◌ {A = List (List Report)} (map (λ r. []) xs) (map (λ r. []) ys)
same-empty [] [] same = refl
same-empty [] (y ∷ ys) same = absurd (omega (arith, same))
same-empty (x ∷ xs) [] same = absurd (omega (arith, same))
same-empty (x ∷ xs) (y ∷ ys) same = ap (λ (es : List (List Report)). [] ∷ es) (same-empty xs ys (omega (arith, same)))

back-from : (front xs : List (List Report)) (k : ℕ) → k ≡ length front → map (λ (x : ℕ × List Report). get_or (front ++ xs) x.0 [] ++ x.1) (enumerate_from k (map (λ r. []) xs)) ≡ xs
back-from front [] k count = refl
back-from front (x ∷ xs) k count =
    let here : get_or (front ++ x ∷ xs) k [] ++ [] ≡ x = append-nil (get_or (front ++ x ∷ xs) k []) ∙ ap (λ n. get_or (front ++ x ∷ xs) n []) count ∙ get_or-append_seam front x xs [] in
    let others : map (λ (y : ℕ × List Report). get_or (front ++ x ∷ xs) y.0 [] ++ y.1) (enumerate_from (k + 1) (map (λ r. []) xs)) ≡ xs =
    subst (λ (all : List (List Report)). map (λ (y : ℕ × List Report). get_or all y.0 [] ++ y.1) (enumerate_from (k + 1) (map (λ r. []) xs)) ≡ xs)
    (append_assoc front (x ∷ []) xs) (back-from (front ++ x ∷ []) xs (k + 1) (omega (arith, count, length-append front (x ∷ [])))) in
    λ i. here i ∷ others i

-- the reports that were fetched stand in front again
pub refetched : (s : Core) → with_fetched s.reports (all_fetched s) ≡ s
refetched s = λ i. record s { reports = back-from [] s.reports 0 refl i }

told-from : (told : List Told) (k : ℕ) (xs : List (List Report)) → by_sender (map (λ (x : ℕ × List Report). x.1 ++ reports_to x.0 told) (enumerate_from k (map (λ r. []) xs))) ≡ flat_map (λ i. reports_to i told) (range_with_len k (length xs))
told-from told k [] = refl
told-from told k (x ∷ xs) = ap (λ (es : List Report). reports_to k told ++ es) (told-from told (k + 1) xs)

told-by_sender : (told : List Told) (xs : List (List Report)) → by_sender (with_reports told (map (λ r. []) xs)) ≡ flat_map (λ i. reports_to i told) (range_with_len 0 (length xs))
unfolding with_reports
told-by_sender told xs = told-from told 0 xs

-- ---- a call, noted

module _ {A : Type 0} (call : Core → Called A) (behind : (r : List (List Report)) (s : Core) → call (with_fetched r s) ≡ after_fetched r (call s)) (tells : (s : Core) → Tells s (call s)) where
  at-fetched : (s : Core) → call s ≡ after_fetched s.reports (call (all_fetched s))
  at-fetched s = ap call (sym (refetched s)) ∙ behind s.reports (all_fetched s)

  pub same-answer : (s : Core) → (call s).answer ≡ (call (all_fetched s)).answer
  same-answer s = ap (λ (x : Called A). x.answer) (at-fetched s)

  same-told : (s : Core) → (call s).told ≡ (call (all_fetched s)).told
  same-told s = ap (λ (x : Called A). x.told) (at-fetched s)

  same-core : (s : Core) → all_fetched (call (all_fetched s)).after ≡ all_fetched (call s).after
  same-core s =
      let after = (call (all_fetched s)).after in
      let count : length (before_each s.reports after.reports) ≡ length after.reports = length-map (enumerate_from 0 after.reports) _ ∙ length-enumerate_from 0 after.reports in
      sym (ap (λ (x : Called A). all_fetched x.after) (at-fetched s) ∙ (λ i. record after { reports = same-empty (before_each s.reports after.reports) after.reports count i }))

  same-flushed : (s : Core) → is_flushed (call (all_fetched s)).after ≡ is_flushed (call s).after
  unfolding is_flushed
  same-flushed s = sym (ap (λ (x : Called A). is_flushed x.after) (at-fetched s))

  same-reports : (s : Core) → by_sender (call (all_fetched s)).after.reports ≡ flat_map (λ i. reports_to i (call s).told) (range_with_len 0 (length s.reports))
  same-reports s =
      ap by_sender (tells (all_fetched s)).reports ∙ told-by_sender (call (all_fetched s)).told s.reports
      ∙ ap (λ told. flat_map (λ i. reports_to i told) (range_with_len 0 (length s.reports))) (sym (same-told s))

  was-flushed : (s : Core) → is_flushed (all_fetched s) ≡ is_flushed s
  unfolding is_flushed
  was-flushed s = refl

  -- what is seen of the world behind the call, and noted
  pub shows-noted : (c : Config) (w : World) (a : Seen) → Shows c w a → (ls : List Line)
      → Shows c (noted (call w.core).after ls (call w.core).told w) (with_noted ls (is_flushed a.core) (record a { core = (call a.core).after }))
  unfolding noted
  shows-noted c w a sh ls = record {
    config = (tells w.core).config ∙ sh.config;
    called = (tells w.core).names ∙ sh.called;
    senders = ap length (tells w.core).reports ∙ length-reports (call w.core).told w.core.reports ∙ sh.senders;
    core = ap (λ s. all_fetched (call s).after) sh.core ∙ same-core w.core;
    accepted = sh.accepted;
    taken = sh.taken;
    packets = sh.packets;
    replies = sh.replies;
    logs = sh.logs;
    drawn = sh.drawn;
    moment = sh.moment;
    is_shut = sh.is_shut;
    past = past;
  }
    where
      happened : Happened
      happened = record { answer = ls; told = (call w.core).told; flushed = not (is_flushed w.core) && is_flushed (call w.core).after }

      reports : by_sender (call a.core).after.reports ≡ flat_map (λ i. reports_to i (call w.core).told) (range_with_len 0 (length w.accepted))
      reports = ap (λ s. by_sender (call s).after.reports) sh.core ∙ same-reports w.core ∙ ap (λ n. flat_map (λ i. reports_to i (call w.core).told) (range_with_len 0 n)) sh.senders

      flushed : (not (is_flushed a.core) && is_flushed (call a.core).after) ≡ (not (is_flushed w.core) && is_flushed (call w.core).after)
      flushed =
          ap (λ s. not (is_flushed s) && is_flushed (call s).after) sh.core
          ∙ (λ i. not (was-flushed w.core i) && same-flushed w.core i)

      one : ◌≡◌ {A = Noted} (record { answer = ls; reports = by_sender (call a.core).after.reports; flushed = not (is_flushed a.core) && is_flushed (call a.core).after }) (noted_of (length w.accepted) happened)
      one = λ i. record { answer = ls; reports = reports i; flushed = flushed i }

      past : a.past ++ (record { answer = ls; reports = by_sender (call a.core).after.reports; flushed = not (is_flushed a.core) && is_flushed (call a.core).after }) ∷ [] ≡ map (noted_of (length w.accepted)) (w.past ++ happened ∷ [])
      past = (λ i. sh.past i ++ one i ∷ []) ∙ sym (map-append (noted_of (length w.accepted)) w.past (happened ∷ []))

-- the bounds speak of the configuration, and of how many senders and partitions there are
pub kept-within : {accepted taken logs moment : ℕ} (s t : Core) → t.config ≡ s.config → length t.reports ≡ length s.reports → length t.partitions ≡ length s.partitions → IsInBounds s accepted taken logs moment → IsInBounds t accepted taken logs moment
kept-within s t config reports partitions bounds = record {
  config = ap checked config ∙ bounds.config;
  partitions = omega (arith, partitions, bounds.partitions);
  senders = omega (arith, reports, bounds.senders);
  accepted = bounds.accepted ∙ sym reports;
  taken = bounds.taken ∙ sym reports;
  logs = bounds.logs ∙ sym partitions;
  moment = bounds.moment;
}

-- ---- the events

at-moment : (c : Config) (w : World) (a : Seen) (m : ℕ) → Shows c w a → Shows c (record w { moment = m }) (record a { moment = m })
at-moment c w a m sh = record {
  config = sh.config;
  called = sh.called;
  senders = sh.senders;
  core = sh.core;
  accepted = sh.accepted;
  taken = sh.taken;
  packets = sh.packets;
  replies = sh.replies;
  logs = sh.logs;
  drawn = sh.drawn;
  moment = refl;
  is_shut = sh.is_shut;
  past = sh.past;
}

shut : (c : Config) (w : World) (a : Seen) → Shows c w a → Shows c (record w { is_shut = true }) (record a { is_shut = true })
shut c w a sh = record {
  config = sh.config;
  called = sh.called;
  senders = sh.senders;
  core = sh.core;
  accepted = sh.accepted;
  taken = sh.taken;
  packets = sh.packets;
  replies = sh.replies;
  logs = sh.logs;
  drawn = sh.drawn;
  moment = sh.moment;
  is_shut = refl;
  past = sh.past;
}

pub now-leads : (a b : Seen) (m : ℕ) → b ≡ with_noted [] (is_flushed a.core) (record a { moment = m }) → LeadsOn (event.Now m) a b
unfolding stepped client
now-leads a b m is = λ c w replayed sh. (
  noted w.core [] [] (record w { moment = m }),
  refl,
  subst (Shows c (noted w.core [] [] (record w { moment = m }))) (sym is)
      (shows-noted (λ s. quietly s (tt {0})) (λ r s. refl) (λ s. tells-quietly s (tt {0})) c (record w { moment = m }) (record a { moment = m }) (at-moment c w a m sh) []),
)

pub drop-leads : (node : ℕ) (a b : Seen) → b ≡ with_noted [] (is_flushed a.core) (record a { core = disconnect_step node a.moment a.core }) → LeadsOn (event.DropNode node) a b
unfolding stepped client
drop-leads node a b is = λ c w replayed sh.
    let call : Core → Called (Unit {0}) = λ s. quietly (disconnect_step node w.moment s) (tt {0}) in
    let same : b ≡ with_noted [] (is_flushed a.core) (record a { core = disconnect_step node w.moment a.core }) = is ∙ ap (λ m. with_noted [] (is_flushed a.core) (record a { core = disconnect_step node m a.core })) sh.moment in (
      noted (disconnect_step node w.moment w.core) [] [] w,
      refl,
      subst (Shows c (noted (disconnect_step node w.moment w.core) [] [] w)) (sym same)
          (shows-noted call (λ r s. ap (λ (t : Core). let x : Called (Unit {0}) = quietly t (tt {0}) in x) (disconnect_behind r node w.moment s)) (tells-disconnect node w.moment) c w a sh []),
    )

pub close-leads : (a b : Seen) → b ≡ with_noted [] (is_flushed a.core) (record a { core = close_step a.core; is_shut = true }) → LeadsOn event.Close a b
unfolding stepped client
close-leads a b is = λ c w replayed sh.
    let call : Core → Called (Unit {0}) = λ s. quietly (close_step s) (tt {0}) in (
      noted (close_step w.core) [] [] (record w { is_shut = true }),
      refl,
      subst (Shows c (noted (close_step w.core) [] [] (record w { is_shut = true }))) (sym is)
          (shows-noted call (λ r s. ap (λ (t : Core). let x : Called (Unit {0}) = quietly t (tt {0}) in x) (close_behind r s)) tells-close c (record w { is_shut = true }) (record a { is_shut = true }) (shut c w a sh) []),
    )

pub end-leads : (a b : Seen) → b ≡ with_noted [] (is_flushed a.core) (record a { core = (end_step a.core).after }) → LeadsOn event.End a b
unfolding stepped client
end-leads a b is = λ c w replayed sh. (
  noted (end_step w.core).after [] (end_step w.core).told w,
  refl,
  subst (Shows c (noted (end_step w.core).after [] (end_step w.core).told w)) (sym is)
      (shows-noted end_step end_behind tells-end c w a sh []),
)

-- the line of a tick
abbrev pub tick_line : Bool → List Line
tick_line reconnect = cond reconnect (line.Reconnect ∷ []) []

pub tick-leads : (node : ℕ) (a b : Seen) → b ≡ with_noted (tick_line (tick_step node a.moment a.core).answer.reconnect) (is_flushed a.core) (record a { core = (tick_step node a.moment a.core).after }) → LeadsOn (event.TickNode node) a b
unfolding stepped client
tick-leads node a b is = λ c w replayed sh.
    let answer : (tick_step node a.moment a.core).answer ≡ (tick_step node w.moment w.core).answer = (λ i. (tick_step node (sh.moment i) (sh.core i)).answer) ∙ sym (ap (λ (x : Called Ticked). x.answer) (at-fetched (tick_step node w.moment) (λ r s. tick_behind r node w.moment s) (tells-tick node w.moment) w.core)) in
    let same : b ≡ with_noted (tick_line (tick_step node w.moment w.core).answer.reconnect) (is_flushed a.core) (record a { core = (tick_step node w.moment a.core).after }) =
    is ∙ (λ i. with_noted (tick_line (answer i).reconnect) (is_flushed a.core) (record a { core = (tick_step node (sh.moment i) a.core).after })) in
    let ls = tick_line (tick_step node w.moment w.core).answer.reconnect in (
      noted (tick_step node w.moment w.core).after ls (tick_step node w.moment w.core).told w,
      refl,
      subst (Shows c (noted (tick_step node w.moment w.core).after ls (tick_step node w.moment w.core).told w)) (sym same)
          (shows-noted (tick_step node w.moment) (λ r s. tick_behind r node w.moment s) (tells-tick node w.moment) c w a sh ls),
    )

pub flush-leads : (a b : Seen) → b ≡ with_noted (flush_line a.core ∷ []) (is_flushed a.core) (record a { core = flush_step a.core }) → LeadsOn event.Flush a b
unfolding stepped client
flush-leads a b is = λ c w replayed sh.
    let call : Core → Called (Unit {0}) = λ s. quietly (flush_step s) (tt {0}) in
    let same : b ≡ with_noted (flush_line w.core ∷ []) (is_flushed a.core) (record a { core = flush_step a.core }) =
    is ∙ ap (λ s. with_noted (flush_line s ∷ []) (is_flushed a.core) (record a { core = flush_step a.core })) sh.core in (
      noted (flush_step w.core) (flush_line w.core ∷ []) [] w,
      refl,
      subst (Shows c (noted (flush_step w.core) (flush_line w.core ∷ []) [] w)) (sym same)
          (shows-noted call (λ r s. ap (λ (t : Core). let x : Called (Unit {0}) = quietly t (tt {0}) in x) (flush_behind r s)) tells-flush c w a sh (flush_line w.core ∷ [])),
    )

-- nothing is untold
pub flush-line : (s : Core) → flush_line s ≡ cond (eqb (length (all_untold s)) 0) line.Flushed line.Flushing
flush-line s = at-untold (all_untold s)
  where
    at-untold : (is : List Item) → cond (not (is_empty is)) line.Flushing line.Flushed ≡ cond (eqb (length is) 0) line.Flushed line.Flushing
    at-untold [] = refl
    at-untold (i ∷ is) = let some : eqb (length (i ∷ is)) 0 ≡ false = grind (arith, nat_tests) in rw some refl

-- ---- the opening world

none-replicated : (n : ℕ) → ◌≡◌ {A = List (List Report)} (replicate n []) (map (λ r. []) (replicate {A = List Report} n []))
none-replicated zero = refl
none-replicated (suc n) = ap (λ (es : List (List Report)). [] ∷ es) (none-replicated n)

empty-history : IsHistoryOf empty_history empty
unfolding kept_in
empty-history = record { records = refl; kept = λ id. refl }

empty-logs : (n : ℕ) → Each IsHistoryOf (replicate n empty_history) (replicate n empty)
empty-logs zero = tt
empty-logs (suc n) = (empty-history, empty-logs n)

pub opened-shows : (c : Config) (partitions senders : ℕ) (a : Seen) → a.core ≡ opened true (new_core c names partitions senders 1000 2) → a.accepted ≡ replicate senders [] → a.taken ≡ replicate senders 0
    → a.packets ≡ [] → a.replies ≡ [] → a.logs ≡ replicate partitions empty → a.drawn ≡ 1 → a.moment ≡ 0 → a.is_shut ≡ false → a.past ≡ [] → Shows c (opening (scheduled c partitions senders)) a
unfolding opening new_core
opened-shows c partitions senders a core accepted taken packets replies logs drawn moment is_shut past = record {
  config = refl;
  called = refl;
  senders = length-replicate senders [] ∙ sym (length-replicate senders []);
  core = core ∙ (λ i. record (new_core c names partitions senders 1000 2) { reports = none-replicated senders i });
  accepted = accepted;
  taken = taken;
  packets = rw packets tt;
  replies = rw replies tt;
  logs = rw logs (empty-logs partitions);
  drawn = drawn;
  moment = moment;
  is_shut = is_shut;
  past = past;
}

pub more-taken : {s : Core} {accepted logs moment : ℕ} (taken : List ℕ) (sender n : ℕ) → IsInBounds s accepted (length taken) logs moment → IsInBounds s accepted (length (set taken sender n)) logs moment
more-taken taken sender n bounds = record {
  config = bounds.config;
  partitions = bounds.partitions;
  senders = bounds.senders;
  accepted = bounds.accepted;
  taken = length-set taken sender n ∙ bounds.taken;
  logs = bounds.logs;
  moment = bounds.moment;
}

pub opened-within : (c : Config) (partitions senders : ℕ) (s : Core) → s ≡ opened true (new_core c names partitions senders 1000 2) → checked c ≡ Ok tt → partitions ≤ 1024 → senders ≤ 64
    → (accepted : List (List Item)) → accepted ≡ replicate senders [] → (taken : List ℕ) → taken ≡ replicate senders 0 → (logs : List Log) → logs ≡ replicate partitions empty → (moment : ℕ) → moment ≡ 0 → IsInBounds s (length accepted) (length taken) (length logs) moment
unfolding new_core
opened-within c partitions senders s is let_through few_partitions few_senders accepted accepted-is taken taken-is logs logs-is moment first =
    let reports : length s.reports ≡ senders = ap (λ (s : Core). length s.reports) is ∙ length-replicate {A = List Report} senders [] in
    let count : length s.partitions ≡ partitions = ap (λ (s : Core). length s.partitions) is ∙ length-replicate partitions (new_partition 1000) in
    record {
      config = ap (λ (s : Core). checked s.config) is ∙ let_through;
      partitions = omega (arith, count, few_partitions);
      senders = omega (arith, reports, few_senders);
      accepted = omega (arith, ap length accepted-is, length-replicate {A = List Item} senders [], reports);
      taken = omega (arith, ap length taken-is, length-replicate {A = ℕ} senders 0, reports);
      logs = omega (arith, ap length logs-is, length-replicate partitions empty, count);
      moment = omega (arith, first);
    }

-- ---- what names no node is of node 0

pub tick-bare : {T E : Type 0} (r : Result T E) (a b : Seen) → OnOk r (LeadsOn (event.TickNode 0) a b) → OnOk r (LeadsOn event.Tick a b)
unfolding stepped
tick-bare r a b leads = leads

pub send-bare : {T E : Type 0} (r : Result T E) (a b : Seen) → OnOk r (LeadsOn (event.SendNode 0) a b) → OnOk r (LeadsOn event.Send a b)
unfolding stepped
send-bare r a b leads = leads

pub drop-bare : {T E : Type 0} (r : Result T E) (a b : Seen) → OnOk r (LeadsOn (event.DropNode 0) a b) → OnOk r (LeadsOn event.Drop a b)
unfolding stepped
drop-bare r a b leads = leads

-- ---- what is left of an event

pub within : {A : Type 0} {accepted taken logs moment : ℕ} (s : Core) (called : Called A) → Tells s called → (t : Core) → t ≡ called.after → IsInBounds s accepted taken logs moment → IsInBounds t accepted taken logs moment
within s called tells t is bounds =
    let reports : length t.reports ≡ length s.reports = ap (λ (s : Core). length s.reports) is ∙ ap length tells.reports ∙ length-reports called.told s.reports in
    let partitions : length t.partitions ≡ length s.partitions = ap (λ (s : Core). length s.partitions) is ∙ tells.partitions in
    kept-within s t (ap (λ (s : Core). s.config) is ∙ tells.config) reports partitions bounds

pub lead-on : {T E : Type 0} (ls : List Line) (was : Bool) (e : Event) (a mid b : Seen) (r : Result T E) → (b ≡ with_noted ls was mid → LeadsOn e a b) → OnOk r (b ≡ with_noted ls was mid) → OnOk r (LeadsOn e a b)
lead-on ls was e a mid b (Ok x) leads noted = leads noted
lead-on ls was e a mid b (Err fault) leads noted = noted

module _ {T E : Type 0} (r : Result T E) (a v b : Seen) (is : v ≡ a) (was : Bool) (flushed : was ≡ is_flushed v.core) where
  pub now-returns : (m : ℕ) → OnOk r (b ≡ with_noted [] was (record v { moment = m })) → OnOk r (LeadsOn (event.Now m) a b)
  now-returns m = lead-on [] was (event.Now m) a (record v { moment = m }) b r (λ same.
      subst (λ a. LeadsOn (event.Now m) a b) is (now-leads v b m (same ∙ (λ i. with_noted [] (flushed i) (record v { moment = m })))))

  pub drop-returns : (node : ℕ) (t : Core) → t ≡ disconnect_step node v.moment v.core → OnOk r (b ≡ with_noted [] was (record v { core = t })) → OnOk r (LeadsOn (event.DropNode node) a b)
  drop-returns node t step = lead-on [] was (event.DropNode node) a (record v { core = t }) b r (λ same.
      subst (λ a. LeadsOn (event.DropNode node) a b) is (drop-leads node v b (same ∙ (λ i. with_noted [] (flushed i) (record v { core = step i })))))

  pub close-returns : (t : Core) → t ≡ close_step v.core → OnOk r (b ≡ with_noted [] was (record v { core = t; is_shut = true })) → OnOk r (LeadsOn event.Close a b)
  close-returns t step = lead-on [] was event.Close a (record v { core = t; is_shut = true }) b r (λ same.
      subst (λ a. LeadsOn event.Close a b) is (close-leads v b (same ∙ (λ i. with_noted [] (flushed i) (record v { core = step i; is_shut = true })))))

  pub end-returns : (t : Core) → t ≡ (end_step v.core).after → OnOk r (b ≡ with_noted [] was (record v { core = t })) → OnOk r (LeadsOn event.End a b)
  end-returns t step = lead-on [] was event.End a (record v { core = t }) b r (λ same.
      subst (λ a. LeadsOn event.End a b) is (end-leads v b (same ∙ (λ i. with_noted [] (flushed i) (record v { core = step i })))))

  pub tick-returns : (node : ℕ) (t : Core) (answer : Ticked) → (tick_step node v.moment v.core).answer ≡ answer → t ≡ (tick_step node v.moment v.core).after → (ls : List Line) → ls ≡ tick_line answer.reconnect
      → OnOk r (b ≡ with_noted ls was (record v { core = t })) → OnOk r (LeadsOn (event.TickNode node) a b)
  tick-returns node t answer answered step ls lines = lead-on ls was (event.TickNode node) a (record v { core = t }) b r (λ same.
      let told : ls ≡ tick_line (tick_step node v.moment v.core).answer.reconnect = lines ∙ ap (λ (x : Ticked). tick_line x.reconnect) (sym answered) in
      subst (λ a. LeadsOn (event.TickNode node) a b) is (tick-leads node v b (same ∙ (λ i. with_noted (told i) (flushed i) (record v { core = step i })))))

  pub flush-returns : (t : Core) → t ≡ flush_step v.core → (l : Line) → l ≡ flush_line v.core → OnOk r (b ≡ with_noted (l ∷ []) was (record v { core = t })) → OnOk r (LeadsOn event.Flush a b)
  flush-returns t step l lines = lead-on (l ∷ []) was event.Flush a (record v { core = t }) b r (λ same.
      subst (λ a. LeadsOn event.Flush a b) is (flush-leads v b (same ∙ (λ i. with_noted (lines i ∷ []) (flushed i) (record v { core = step i })))))
