-- An append, case by case: what it answers, and what it leaves.
use Rattle.std.proofs.Common.{◌≡◌, ◌∙◌, ℕ, ◌+◌, ◌<◌, ◌≤◌, Bool, true, false, not, List, [], ◌∷◌, length, min, Ok, Err, inl, inr, refl, sym, ap, subst, rules, arith}
use Rattle.std.specs.Prelude.{IsOk, sum_by, if◌then◌else◌, slice_set, nat_le, nat_lt, ◌&&◌}
use Rattle.std.proofs.lemmas.Bool.{cases_lt}
use Rattle.std.proofs.lemmas.Bool.Decides.{nat_tests}
use Rattle.std.proofs.lemmas.List.{get_or-set_same, length-map}
use Rattle.std.proofs.lemmas.List.Sums.{sum_by-cons}
use Rattle.kp_accum.specs.declared.config.Config.{Config}
use Rattle.kp_accum.specs.declared.fault.AppendFault.TheVariants.{BufferFull, OutOfMemory}
use Rattle.kp_accum.specs.declared.item.Item.{Item}
use Rattle.kp_accum.specs.Config.{checked, is_outside}
use Rattle.kp_accum.specs.Queue.{charge_of}
use Rattle.kp_accum.proofs.QueueLemmas.{length-small}
use Rattle.kp_rules.specs.declared.outcome.Outcome.TheVariants.{Unsent}
use Rattle.kp_rules.specs.declared.outcome.Reason.{Reason}
use Rattle.kp_rules.specs.declared.outcome.Reason.TheVariants as reason
use Rattle.kp_rules.specs.declared.outcome.Report.{Report}
use Rattle.kp_rules.specs.Appending.{Appends, append_step, enqueue, may_append, turn_away, with_queued, would_exhaust}
use Rattle.kp_rules.specs.Calls.{Append, Step}
use Rattle.kp_rules.specs.Partitions.{all_untold, partition_at, used}
use Rattle.kp_rules.specs.Records.{Core, Partition, quietly}
use Rattle.kp_rules.specs.Reports.{with_reports}
use Rattle.kp_rules.specs.Telling.{told_all}
use Rattle.kp_rules.proofs.OrderedCallLemmas.{has_bounds}
use Rattle.kp_parts.specs.Desk.{Line, Desk, all_reports, line_of, no_line, reports_of, tell_free, with_place}
use Rattle.kp_parts.proofs.DeskKeeping.{all_reports-with_place}
use Rattle.kp_parts.proofs.DeskLemmas.{all_reports-free}
use Rattle.kp_core.specs.Keeping.{IsKept}

-- ---- what may be appended

pub sender_there : (i : Item) (s : Core) → may_append i s ≡ true → i.sender < length s.reports
unfolding may_append
sender_there i s may = grind (arith, nat_tests)

pub line_there : (i : Item) (s : Core) (d : Desk) → s.reports ≡ all_reports d → may_append i s ≡ true → i.sender < length d.lines
line_there i s d is may = omega (arith, sender_there i s may, ap (λ (r : List (List Report)). length r) is, length-map d.lines reports_of)

pub charge_fits : (i : Item) (s : Core) → may_append i s ≡ true → charge_of i ≤ s.config.max_request_size
unfolding may_append
charge_fits i s may = grind (arith, nat_tests)

pub memory_limit : (c : Config) → checked c ≡ Ok tt → c.buffer_memory ≤ 1073741824
unfolding checked is_outside
memory_limit c e = grind (arith, nat_tests)

-- a place was kept
pub place_kept : (sender : ℕ) (d : Desk) → sender < length d.lines → 0 < (line_of sender (with_place sender d).lines).room
place_kept sender d there =
    let line = line_of sender d.lines in
    let more : Line = record line { room = line.room + 1 } in
    let at = get_or-set_same d.lines sender more no_line there in
    omega (arith, ap (λ (l : Line). l.room) at)

-- each item takes memory
pub many_charged : (items : List Item) → length items ≤ sum_by charge_of items
many_charged [] = omega arith
many_charged (i ∷ items) = omega (arith, many_charged items, sum_by-cons charge_of i items, length-small (i ∷ []))

-- ---- the step

abbrev by_room : Item → Core → Bool → Appends
by_room i s b = if b then quietly (record s { exhausted = true }) (Err BufferFull) else quietly (with_queued i s) (Ok tt)

abbrev by_fence : Item → Core → Bool → Appends
by_fence i s b = if b then turn_away reason.Fenced i s else by_room i s (would_exhaust i s)

abbrev by_end : Item → Core → Bool → Appends
by_end i s b = if b then turn_away reason.Ended i s else by_fence i s (partition_at i.partition s.partitions).fenced

may_go : (i : Item) (s : Core) → may_append i s ≡ true → append_step i s ≡ by_end i s s.ended
unfolding append_step
may_go i s may = ap (λ (b : Bool). if not b then quietly s (Err BufferFull) else by_end i s s.ended) may

pub at_end : (i : Item) (s : Core) → may_append i s ≡ true → s.ended ≡ true → append_step i s ≡ turn_away reason.Ended i s
at_end i s may e = may_go i s may ∙ ap (by_end i s) e

pub at_fence : (i : Item) (s : Core) → may_append i s ≡ true → s.ended ≡ false → (partition_at i.partition s.partitions).fenced ≡ true
    → append_step i s ≡ turn_away reason.Fenced i s
at_fence i s may e f = may_go i s may ∙ ap (by_end i s) e ∙ ap (by_fence i s) f

going : (i : Item) (s : Core) → may_append i s ≡ true → s.ended ≡ false → (partition_at i.partition s.partitions).fenced ≡ false
    → append_step i s ≡ by_room i s (would_exhaust i s)
going i s may e f = may_go i s may ∙ ap (by_end i s) e ∙ ap (by_fence i s) f

-- ---- the call

pub answers_full : (i : Item) (s : Core) → may_append i s ≡ true → s.ended ≡ false → (partition_at i.partition s.partitions).fenced ≡ false
    → would_exhaust i s ≡ true → Step s (Append i (Err BufferFull)) (record s { exhausted = true })
answers_full i s may e f g =
    let is = going i s may e f ∙ ap (by_room i s) g in
    (ap (λ (x : Appends). x.answer) is, ap (λ (x : Appends). x.after) (sym is))

pub answers_queued : (i : Item) (s t : Core) → may_append i s ≡ true → s.ended ≡ false → (partition_at i.partition s.partitions).fenced ≡ false
    → would_exhaust i s ≡ false → t ≡ with_queued i s → Step s (Append i (Ok tt)) t
answers_queued i s t may e f g after =
    let is = going i s may e f ∙ ap (by_room i s) g in
    (ap (λ (x : Appends). x.answer) is, after ∙ ap (λ (x : Appends). x.after) (sym is))

pub answers_no_room : (i : Item) (s : Core) → may_append i s ≡ true → s.ended ≡ false → (partition_at i.partition s.partitions).fenced ≡ false
    → would_exhaust i s ≡ false → Step s (Append i (Err OutOfMemory)) s
answers_no_room i s may e f g =
    let is = going i s may e f ∙ ap (by_room i s) g in
    (subst (λ (x : Appends). IsOk x.answer) (sym is) (search rules), refl)

pub answers_turned : (why : Reason) (i : Item) (s t : Core) → append_step i s ≡ turn_away why i s → t ≡ (turn_away why i s).after
    → Step s (Append i (Ok tt)) t
answers_turned why i s t is after = (ap (λ (x : Appends). x.answer) is, after ∙ ap (λ (x : Appends). x.after) (sym is))

pub answers_no_place : (why : Reason) (i : Item) (s : Core) → append_step i s ≡ turn_away why i s → Step s (Append i (Err OutOfMemory)) s
answers_no_place why i s is = (subst (λ (x : Appends). IsOk x.answer) (sym is) (search rules), refl)

-- ---- the core then

pub turned-is : (why : Reason) (i : Item) (s : Core) (d e : Desk) → all_reports d ≡ s.reports
    → e ≡ tell_free (told_all (Unsent why) (i ∷ [])) (with_place i.sender d)
    → record s { reports = all_reports e } ≡ (turn_away why i s).after
turned-is why i s d e is tells =
    ap (λ (r : List (List Report)). let x : Core = record s { reports = r } in x)
    (ap all_reports tells ∙ all_reports-free (told_all (Unsent why) (i ∷ [])) (with_place i.sender d)
    ∙ ap (with_reports (told_all (Unsent why) (i ∷ []))) (all_reports-with_place i.sender d ∙ is))

pub queued-is : (i : Item) (s : Core) (ts : List Partition) (d e : Desk) → all_reports d ≡ s.reports
    → ts ≡ slice_set s.partitions i.partition (enqueue s.config i (partition_at i.partition s.partitions))
    → e ≡ record (with_place i.sender d) { untold = d.untold + 1; used = d.used + charge_of i }
    → record s { partitions = ts; reports = all_reports e } ≡ with_queued i s
queued-is i s ts d e is changed tells =
    ap (λ (us : List Partition). let x : Core = record s { partitions = us; reports = all_reports e } in x) changed
    ∙ ap (λ (r : List (List Report)). let x : Core = record (with_queued i s) { reports = r } in x)
    (ap all_reports tells ∙ all_reports-with_place i.sender d ∙ is)

-- a core of which nothing has changed
pub restored : (s : Core) (ts : List Partition) (d e : Desk) → all_reports d ≡ s.reports → ts ≡ s.partitions → e ≡ d
    → record s { partitions = ts; reports = all_reports e } ≡ s
restored s ts d e is same back =
    ap (λ (us : List Partition). let x : Core = record s { partitions = us; reports = all_reports e } in x) same
    ∙ ap (λ (r : List (List Report)). let x : Core = record s { reports = r } in x) (ap all_reports back ∙ is)

-- ---- the memory

pub room_left : (i : Item) (s : Core) → would_exhaust i s ≡ false → used s + charge_of i ≤ s.config.buffer_memory
unfolding would_exhaust
room_left i s e = grind (arith, nat_tests)

pub few_untold : {s : Core} {d : Desk} → IsKept s d → d.untold ≤ 1073741824
unfolding used
few_untold {s} {d} k = omega (arith, k.untold, many_charged (all_untold s), k.order.memory, memory_limit s.config k.order.config)

-- what a desk with this charge says of the room
pub exhausts-is : {s : Core} {d : Desk} (i : Item) (charge : ℕ) → IsKept s d → charge ≡ charge_of i
    → would_exhaust i s ≡ not (nat_le (d.used + charge) d.limit)
unfolding would_exhaust
exhausts-is {s} {d} i charge k is =
    let sum : d.used + charge ≡ used s + charge_of i = omega (arith, k.used, is) in
    other (used s + charge_of i) s.config.buffer_memory ∙ ap (λ (n : ℕ). not (nat_le n s.config.buffer_memory)) (sym sum)
    ∙ ap (λ (n : ℕ). not (nat_le (d.used + charge) n)) (sym k.limit)
  where
    other : (n m : ℕ) → nat_lt m n ≡ not (nat_le n m)
    other n m = grind (arith, nat_tests)

-- ---- the test of what may be appended

pub no_sender : (i : Item) (s : Core) → length s.reports ≤ i.sender → false ≡ may_append i s
unfolding may_append
no_sender i s past = rw (none i.sender (length s.reports) past) refl
  where
    none : (n m : ℕ) → m ≤ n → nat_lt n m ≡ false
    none n m le = grind (arith, nat_tests)

pub no_partition : (i : Item) (s : Core) → i.sender < length s.reports → length s.partitions ≤ i.partition → false ≡ may_append i s
unfolding may_append
no_partition i s there past = rw (some i.sender (length s.reports) there, none i.partition (length s.partitions) past) refl
  where
    some : (n m : ℕ) → n < m → nat_lt n m ≡ true
    some n m lt = grind (arith, nat_tests)

    none : (n m : ℕ) → m ≤ n → nat_lt n m ≡ false
    none n m le = grind (arith, nat_tests)

pub by_size : (i : Item) (s : Core) (charge : ℕ) → checked s.config ≡ Ok tt → i.sender < length s.reports → i.partition < length s.partitions
    → (charge_of i ≤ 2147483647 → charge ≡ charge_of i) → (charge ≤ 2147483647 → charge ≡ charge_of i)
    → nat_le charge (min s.config.max_request_size s.config.buffer_memory) ≡ may_append i s
unfolding may_append
by_size i s charge ok sender partition exact told =
    rw (some i.sender (length s.reports) sender, some i.partition (length s.partitions) partition)
    (either charge (charge_of i) s.config.max_request_size s.config.buffer_memory (has_bounds s.config ok).request exact told)
  where
    some : (n m : ℕ) → n < m → nat_lt n m ≡ true
    some n m lt = grind (arith, nat_tests)

    either : (n m a b : ℕ) → a ≤ 8388608 → (m ≤ 2147483647 → n ≡ m) → (n ≤ 2147483647 → n ≡ m) → nat_le n (min a b) ≡ (nat_le m a && nat_le m b)
    either n m a b small here there = elim (cases_lt 2147483647 m) [
      | inl large ↦
          let larger : 2147483647 < n = elim (cases_lt 2147483647 n) [ inl l ↦ l | inr le ↦ absurd (omega (arith, there le, large)) ] in
          grind (arith, nat_tests)
      | inr fits ↦ let same = here fits in grind (arith, nat_tests)
    ]
