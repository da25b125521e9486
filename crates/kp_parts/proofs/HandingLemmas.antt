-- A batch of a partition goes out, and the places that it leaves.
use Rattle.std.proofs.Common.{◌≡◌, ◌∙◌, ℕ, zero, suc, ◌+◌, ◌-◌, ◌*◌, ◌^◌, ◌≤◌, ◌<◌, Bool, true, false, Bor, List, [], ◌∷◌, ◌++◌, length, take, drop, get_or, set, Option, Some, None, refl, sym, ap, subst, arith, length-append}
use Rattle.std.specs.Prelude.{if◌then◌else◌, slice_get, is_some, option_map, IfSome, ◌&&◌, nat_le, nat_lt}
use Rattle.std.proofs.lemmas.Bool.{ltb-true}
use Rattle.std.proofs.lemmas.Bool.Decides.{nat_tests}
use Rattle.std.specs.Option.{option_copied}
use Rattle.kp_accum.specs.declared.config.Config.{Config}
use Rattle.kp_accum.specs.declared.item.Item.{Item}
use Rattle.kp_accum.specs.Queue.{Pending, begun_by, joined_by, joins, with_item}
use Rattle.kp_rules.specs.declared.run.Run.{Run}
use Rattle.kp_rules.specs.Attempts.{is_waiting, lowest_waiting}
use Rattle.kp_rules.specs.HandingOver.{again_in, audited, hand_over_in, opened_in, send_again_in, send_in, sent_again}
use Rattle.kp_parts.specs.PartitionRooms.{Audit, runs_of, CountsAtMost, IsAuditFor, HasRooms, front_fits, has_place}
use Rattle.kp_rules.specs.Partitions.{items_queued}
use Rattle.kp_rules.specs.Records.{Open, Partition}
use Rattle.kp_parts.proofs.AuditLemmas.{counts-audited, counts-weaker}

-- ---- the lowest batch that waits goes out again

pub send_again-here : (k : ℕ) (os : List Open) (n : ℕ) (d : Open) → n < length os → is_waiting (get_or os n d) ≡ true
    → set os n (again_in k (get_or os n d)) ≡ take n os ++ send_again_in k (drop n os)
unfolding send_again_in
send_again-here k [] n d lt e = absurd (omega arith)
send_again-here k (o ∷ os) zero d lt e = sym (ap (λ (z : Bool). if z then again_in k o ∷ os else o ∷ send_again_in k os) e)
send_again-here k (o ∷ os) (suc n) d lt e = ap (λ (z : List Open). o ∷ z) (send_again-here k os n d (omega arith) e)

pub send_again-next : (k : ℕ) (os : List Open) (n : ℕ) (d : Open) → n < length os → is_waiting (get_or os n d) ≡ false
    → take (suc n) os ++ send_again_in k (drop (suc n) os) ≡ take n os ++ send_again_in k (drop n os)
unfolding send_again_in
send_again-next k [] n d lt e = absurd (omega arith)
send_again-next k (o ∷ os) zero d lt e = sym (ap (λ (z : Bool). if z then again_in k o ∷ os else o ∷ send_again_in k os) e)
send_again-next k (o ∷ os) (suc n) d lt e = ap (λ (z : List Open). o ∷ z) (send_again-next k os n d (omega arith) e)

pub send_again-end : (k : ℕ) (os : List Open) (n : ℕ) → length os ≤ n → os ≡ take n os ++ send_again_in k (drop n os)
unfolding send_again_in
send_again-end k [] zero le = refl
send_again-end k [] (suc n) le = refl
send_again-end k (o ∷ os) zero le = absurd (omega arith)
send_again-end k (o ∷ os) (suc n) le = ap (λ (z : List Open). o ∷ z) (send_again-end k os n (omega arith))

-- ---- what goes out

pub send_in-again : (k : ℕ) (t : Partition) → is_some (lowest_waiting t) ≡ true → send_in k t ≡ sent_again k t
unfolding send_in
send_in-again k t e = at_option (lowest_waiting t) e
  where
    at_option : (w : Option Open) → is_some w ≡ true
        → (elim w [
          | Some lowest ↦ record t { open_batches = send_again_in k t.open_batches; attempts_sent = t.attempts_sent + 1 }
          | None ↦ hand_over_in k t t.queue
        ]) ≡ sent_again k t
    at_option None f = cc
    at_option (Some o) f = refl

pub send_in-new : (k : ℕ) (t : Partition) → is_some (lowest_waiting t) ≡ false → send_in k t ≡ hand_over_in k t t.queue
unfolding send_in
send_in-new k t e = at_option (lowest_waiting t) e
  where
    at_option : (w : Option Open) → is_some w ≡ false
        → (elim w [
          | Some lowest ↦ record t { open_batches = send_again_in k t.open_batches; attempts_sent = t.attempts_sent + 1 }
          | None ↦ hand_over_in k t t.queue
        ]) ≡ hand_over_in k t t.queue
    at_option None f = refl
    at_option (Some o) f = cc

-- ---- the front batch is handed over

pub handed-none : (k : ℕ) (t : Partition) (q : List Pending) → slice_get t.queue 0 ≡ None → q ≡ drop 1 t.queue → record t { queue = q } ≡ hand_over_in k t t.queue
unfolding hand_over_in
handed-none k t q e f = at_queue t.queue refl
  where
    at_queue : (z : List Pending) → t.queue ≡ z → record t { queue = q } ≡ hand_over_in k t z
    at_queue [] h =
        let gone : q ≡ t.queue = f ∙ ap (drop 1) h ∙ sym h in
        ap (λ (x : List Pending). record t { queue = x }) gone
    at_queue (b ∷ bs) h = let is : slice_get (b ∷ bs) 0 ≡ None = subst (λ (z : List Pending). slice_get z 0 ≡ None) h e in cc

handed_over : ℕ → Partition → Pending → List Pending → List Open → ℕ → Option (List Run) → Partition
handed_over k t b q os count runs = record t {
  queue = q;
  open_batches = os;
  next_number = t.next_number + 1;
  next_sequence = t.next_sequence + count;
  attempts_sent = t.attempts_sent + 1;
  audit = runs;
}

pub handed-is : (k : ℕ) (t : Partition) (b : Pending) (q : List Pending) (os : List Open) (count : ℕ) (runs : Option (List Run))
    → slice_get t.queue 0 ≡ Some b → q ≡ drop 1 t.queue → os ≡ t.open_batches ++ opened_in k t b ∷ [] → count ≡ length b.items
    → runs ≡ option_map (λ rs. audited rs b.items) t.audit
    → record t {
      queue = q;
      open_batches = os;
      next_number = t.next_number + 1;
      next_sequence = t.next_sequence + count;
      attempts_sent = t.attempts_sent + 1;
      audit = runs;
    } ≡ hand_over_in k t t.queue
unfolding hand_over_in handed_over
handed-is k t b q os count runs e f g h i = at_queue t.queue refl
  where
    at_queue : (z : List Pending) → t.queue ≡ z → handed_over k t b q os count runs ≡ hand_over_in k t z
    at_queue [] j = let is : slice_get [] 0 ≡ Some b = subst (λ (z : List Pending). slice_get z 0 ≡ Some b) j e in cc
    at_queue (front ∷ behind) j =
        let is : slice_get (front ∷ behind) 0 ≡ Some b = subst (λ (z : List Pending). slice_get z 0 ≡ Some b) j e in
        let same : b ≡ front = cc in
        let rest : q ≡ behind = f ∙ ap (drop 1) j in
        ap (λ (x : List Pending). handed_over k t b x os count runs) rest
        ∙ ap (λ (x : List Open). handed_over k t b behind x count runs) g
        ∙ ap (λ (x : ℕ). handed_over k t b behind (t.open_batches ++ opened_in k t b ∷ []) x runs) h
        ∙ ap (λ (x : Option (List Run)). handed_over k t b behind (t.open_batches ++ opened_in k t b ∷ []) (length b.items) x) i
        ∙ ap (λ (x : Pending). handed_over k t x behind (t.open_batches ++ opened_in k t x ∷ []) (length x.items) (option_map (λ rs. audited rs x.items) t.audit)) same

-- the items of the front batch, and those behind it
pub queued-front : (q : List Pending) (b : Pending) → slice_get q 0 ≡ Some b → length (items_queued q) ≡ length b.items + length (items_queued (drop 1 q))
queued-front [] b e = cc
queued-front (front ∷ behind) b e =
    let same : front ≡ b = cc in
    length-append front.items (items_queued behind) ∙ ap (λ (x : Pending). length x.items + length (items_queued behind)) same

pub fitting_front : (sequence : ℕ) (q : List Pending) (b : Pending) → slice_get q 0 ≡ Some b → front_fits sequence q ≡ true → sequence + length b.items ≤ 2 ^ 31
fitting_front sequence [] b e fits = cc
fitting_front sequence (front ∷ behind) b e fits =
    let same : front ≡ b = cc in
    let few : sequence + length front.items ≤ 2 ^ 31 = within (sequence + length front.items) fits in
    subst (λ (x : Pending). sequence + length x.items ≤ 2 ^ 31) same few
  where
    within : (n : ℕ) → nat_le n (2 ^ 31) ≡ true → n ≤ 2 ^ 31
    within n e = grind (arith, nat_tests)

-- ---- a batch more has a place

pub record Place (t : Partition) : Type 0 where
  pub attempts : t.attempts_sent < 2 ^ 63
  pub place : length t.open_batches < 5
  pub number : t.next_number < 2 ^ 31
  pub front : front_fits t.next_sequence t.queue ≡ true

all_four : (a b c d : Bool) → (a && b && c && d) ≡ true → (a ≡ true) × (b ≡ true) × (c ≡ true) × (d ≡ true)
all_four true true true true e = (refl, refl, refl, refl)
all_four true true true false e = cc
all_four true true false d e = cc
all_four true false c d e = cc
all_four false b c d e = cc

pub placed : (t : Partition) → has_place t ≡ true → Place t
unfolding has_place
placed t e =
    let tests = all_four (nat_lt t.attempts_sent (2 ^ 63)) (nat_lt (length t.open_batches) 5) (nat_lt t.next_number (2 ^ 31)) (front_fits t.next_sequence t.queue) e in
    record {
      attempts = ltb-true t.attempts_sent (2 ^ 63) tests.0;
      place = ltb-true (length t.open_batches) 5 tests.1;
      number = ltb-true t.next_number (2 ^ 31) tests.2;
      front = tests.3;
    }

pub counts-few : (items n : ℕ) (audit : Option Audit) → n < 2 ^ 31 → IfSome audit (IsAuditFor items n) → IfSome audit (λ a. CountsAtMost (2 ^ 63) a.runs)
counts-few items n None lt h = tt
counts-few items n (Some a) lt h = counts-weaker (n * 2 ^ 31) (2 ^ 63) a.runs (omega arith) h.counts

pub room-enough : (items n count : ℕ) (audit : Option Audit) → count ≤ items → IfSome audit (IsAuditFor items n) → IfSome audit (λ a. count ≤ a.room)
room-enough items n count None le h = tt
room-enough items n count (Some a) le h = omega (arith, h.room)

pub audit-room : (items n : ℕ) (audit : Option Audit) → IfSome audit (IsAuditFor items n) → IfSome audit (λ a. items ≤ a.room)
audit-room items n None h = tt
audit-room items n (Some a) h = h.room

-- the audit's runs with these items are the runs of the audit with them
pub audited_each : (items : List Item) (audit : Option Audit)
    → option_map (λ a. audited a.runs items) audit ≡ option_map (λ runs. audited runs items) (option_map runs_of audit)
audited_each items None = refl
audited_each items (Some a) = refl

pub rooms-handed : (q q' : List Pending) (b : Pending) (capacity capacity' : ℕ) (ids : List ℕ) (n : ℕ) (audit audit' : Option Audit) (items count : ℕ)
    → slice_get q 0 ≡ Some b → q' ≡ drop 1 q → capacity' ≡ capacity → count ≡ length b.items → count ≤ 2 ^ 31
    → option_map runs_of audit' ≡ option_map (λ a. audited a.runs b.items) audit
    → ((m : ℕ) → IfSome audit (λ a. m + count ≤ a.room) → IfSome audit' (λ a. m ≤ a.room))
    → HasRooms q capacity ids n audit items → HasRooms q' capacity' ids (n + 1) audit' (items - count)
rooms-handed q q' b capacity capacity' ids n audit audit' items count e f g h few runs room rooms = record {
  open_room = omega (arith, g, rooms.open_room);
  known = rooms.known;
  queued =
      let now : length (items_queued q') ≡ length (items_queued (drop 1 q)) = ap (λ (z : List Pending). length (items_queued z)) f in
      omega (arith, now, queued-front q b e, rooms.queued, h);
  audit = at_audit audit audit' rooms.audit runs (room (items - count));
}
  where
    at_audit : (a a' : Option Audit) → IfSome a (IsAuditFor items n) → option_map runs_of a' ≡ option_map (λ x. audited x.runs b.items) a
        → (IfSome a (λ x. items - count + count ≤ x.room) → IfSome a' (λ x. items - count ≤ x.room))
        → IfSome a' (IsAuditFor (items - count) (n + 1))
    at_audit a None is same more = tt
    at_audit None (Some a') is same more = cc
    at_audit (Some a) (Some a') is same more = record {
      room = more (omega (arith, is.room, rooms.queued, queued-front q b e, h));
      counts =
          let runs-are : a'.runs ≡ audited a.runs b.items = cc in
          let wide : n * 2 ^ 31 + length b.items ≤ (n + 1) * 2 ^ 31 = omega (arith, h, few) in
          subst (CountsAtMost ((n + 1) * 2 ^ 31)) (sym runs-are)
          (counts-weaker (n * 2 ^ 31 + length b.items) ((n + 1) * 2 ^ 31) (audited a.runs b.items) wide (counts-audited b.items (n * 2 ^ 31) a.runs is.counts));
    }

-- ---- an item is queued

pub queued-with_item : (c : Config) (i : Item) (q : List Pending) → length (items_queued (with_item c i q)) ≡ length (items_queued q) + 1
unfolding with_item
queued-with_item c i [] = omega arith
queued-with_item c i (b ∷ []) = at_test (joins c i b)
  where
    at_test : (z : Bool) → length (items_queued (if z then joined_by i b ∷ [] else b ∷ begun_by i ∷ [])) ≡ length (items_queued (b ∷ [])) + 1
    at_test true = omega (arith, length-append (b.items ++ i ∷ []) [], length-append b.items (i ∷ []), length-append {A = Item} b.items [])
    at_test false = omega (arith, length-append b.items (i ∷ []), length-append {A = Item} b.items [])
queued-with_item c i (b ∷ b' ∷ bs) =
    omega (arith, queued-with_item c i (b' ∷ bs), length-append b.items (items_queued (with_item c i (b' ∷ bs))), length-append b.items (items_queued (b' ∷ bs)))

pub rooms-with_item : (c : Config) (i : Item) (q q' : List Pending) (capacity : ℕ) (ids : List ℕ) (n : ℕ) (audit audit' : Option Audit) (items : ℕ)
    → q' ≡ with_item c i q → option_map runs_of audit' ≡ option_map runs_of audit → IfSome audit' (λ a. items + 1 ≤ a.room)
    → HasRooms q capacity ids n audit items → HasRooms q' capacity ids n audit' (items + 1)
rooms-with_item c i q q' capacity ids n audit audit' items e runs room rooms = record {
  open_room = rooms.open_room;
  known = rooms.known;
  queued = omega (arith, rooms.queued, queued-with_item c i q, ap (λ (z : List Pending). length (items_queued z)) e);
  audit = at_audit audit audit' rooms.audit runs room;
}
  where
    at_audit : (a a' : Option Audit) → IfSome a (IsAuditFor items n) → option_map runs_of a' ≡ option_map runs_of a
        → IfSome a' (λ x. items + 1 ≤ x.room) → IfSome a' (IsAuditFor (items + 1) n)
    at_audit a None is same more = tt
    at_audit None (Some a') is same more = cc
    at_audit (Some a) (Some a') is same more = record {
      room = more;
      counts = let runs-are : a'.runs ≡ a.runs = cc in subst (CountsAtMost (n * 2 ^ 31)) (sym runs-are) is.counts;
    }

pub is_some-copied : {A : Type 0} (r : Option (Bor A)) → is_some (option_copied r) ≡ is_some r
is_some-copied None = refl
is_some-copied (Some x) = refl
