-- What a world has in which a law does not hold, so that it can be computed.
use Rattle.std.proofs.Common.{◌≡◌, ℕ, suc, zero, ◌+◌, ◌<◌, Bool, true, false, not, List, [], ◌∷◌, ◌++◌, length, map, ℤ, pos, negsuc, Some, None, refl, sym, ap, ◌∙◌, subst, arith, Contains}
use Rattle.std.specs.Prelude.{Option, Ok, unwrap_or, flat_map, take, slice_get, ◌||◌}
use Rattle.std.specs.List.{AllByRecursion, list_all, list_any}
use Rattle.std.specs.Ordering.{int_eq}
use Rattle.std.proofs.lemmas.Bool.{true≢false, and_parts}
use Rattle.std.specs.Str.{bytes_eq}
use Rattle.std.proofs.lemmas.Slice.Eq.{bytes_eq-Decides}
use Rattle.std.proofs.lemmas.List.{map-append}
use Rattle.std.proofs.lemmas.List.Sums.{length-filter, count_by-le-length, AllPass-from_list_all}
use Rattle.std.proofs.lemmas.List.Folds.{list_any-append}
use Rattle.std.proofs.lemmas.List.Concat.{flat_map-append}
use Rattle.kp_accum.specs.Config.{checked}
use Rattle.kp_accum.specs.declared.config.Config.{Config}
use Rattle.kp_accum.specs.declared.item.Item.{Item}
use Rattle.kp_accum.specs.Queue.{body_of}
use Rattle.kp_batch.specs.declared.record.Record.{Record}
use Rattle.kp_log.specs.History.{own, is_under}
use Rattle.kp_log.specs.Log.{NO_ID}
use Rattle.kp_log.specs.declared.stored.Stored.{Stored}
use Rattle.kp_rules.specs.declared.attempt.Attempt.{Attempt}
use Rattle.kp_rules.specs.declared.attempt.Attempt.TheVariants.{InFlight, Waiting}
use Rattle.kp_rules.specs.declared.outcome.Outcome.{Outcome}
use Rattle.kp_rules.specs.declared.outcome.Outcome.TheVariants.{Delivered, DeliveredNoOffset, Unknown, Rejected, Unsent}
use Rattle.kp_rules.specs.Attempts.{is_waiting}
use Rattle.kp_rules.specs.OutcomeRule.{Telling, Append, Tick, Reply as ToReply, End, MayTell}
use Rattle.kp_rules.specs.Partitions.{partition_at}
use Rattle.kp_rules.specs.Records.{Core, Partition, HandedBatch, Told}
use Rattle.kp_rules.proofs.ListLemmas.{contains_head, contains_tail}
use Rattle.kp_world.specs.Facts.{Facts, facts}
use Rattle.kp_world.specs.declared.event.Event.{Event}
use Rattle.kp_world.specs.Accounts.{items_handed, is_among, is_same, unsent_among, IsNeverSent}
use Rattle.kp_world.specs.Delivering.{log_at}
use Rattle.kp_world.specs.LogLaws.{partition_of, own_records, IsPrefix, EachDeliveryHasItsOffset, ToldOffsetsStand, StandsAt}
use Rattle.kp_world.specs.Causes.{call_of, MayBeTold, TellsByRule}
use Rattle.kp_world.specs.OtherRules.{Breaks, TellsAgainstRule}
use Rattle.kp_world.specs.Run.{Producer}
use Rattle.kp_world.specs.World.{World, opening, scheduled}
use Rattle.kp_log.proofs.PlaceLemmas.{In-from_contains}
use Rattle.kp_world.specs.Events.{WorldEvent, events_of}
use Rattle.kp_world.specs.Events as event
use Rattle.kp_world.proofs.LeavingLemmas.{awaits_is}
use Rattle.kp_world.proofs.HandedLemmas.{bodies_as_stored}
use Rattle.kp_world.proofs.ListLemmas.{all_at, got_at}
use Rattle.kp_world.proofs.ToldLemmas.{same_itself}
use Rattle.kp_world.proofs.ReachingLemmas.{may_begin}
use Rattle.kp_world.proofs.ChosenRuns.{Choice, are_there, AreHonest, end_of, run_of}

-- ---- a world that breaks a law

any_contained : {A : Type 0} (test : A → Bool) (xs : List A) → list_any test xs ≡ true → (x : A) × Contains xs x × (test x ≡ true)
any_contained test [] e = absurd cc
any_contained {A = A} test (x ∷ xs) e = at_test (test x) refl e (λ e'. any_contained test xs e')
  where
    at_test : (b : Bool) → test x ≡ b → b || list_any test xs ≡ true → (list_any test xs ≡ true → (y : A) × Contains xs y × (test y ≡ true)) → (y : A) × Contains (x ∷ xs) y × (test y ≡ true)
    at_test true is e' later = (x, contains_head x xs, is)
    at_test false is e' later = let h = later e' in (h.0, contains_tail h.0 x xs h.1, h.2)

-- something was told that passes this test
abbrev pub has_told : (Told → Bool) → Facts → Bool
has_told test f = list_any test f.told

-- a delivery without an offset

abbrev is_without_offset : Outcome → Bool
is_without_offset DeliveredNoOffset = true
is_without_offset _ = false

without_offset_is : (o : Outcome) → is_without_offset o ≡ true → o ≡ DeliveredNoOffset
without_offset_is DeliveredNoOffset e = refl
without_offset_is (Delivered base) e = absurd cc
without_offset_is Unknown e = absurd cc
without_offset_is (Rejected code) e = absurd cc
without_offset_is (Unsent why) e = absurd cc

pub offset_is_missing : (f : Facts) → has_told (λ t. is_without_offset t.outcome) f ≡ true → EachDeliveryHasItsOffset f → ⊥
offset_is_missing f e law =
    let t = any_contained (λ t. is_without_offset t.outcome) f.told e in law t.0 t.1 (without_offset_is t.0.outcome t.2)

-- an item that was told Unsent, and was handed over

pub unsent_is_sent : (f : Facts) → list_any (λ i. is_among i (unsent_among f.told)) (items_handed 0 f) ≡ true → IsNeverSent 0 f → ⊥
unsent_is_sent f e law = at_items (items_handed 0 f) e law
  where
    at_items : (is : List Item) → list_any (λ i. is_among i (unsent_among f.told)) is ≡ true → AllByRecursion (λ i. is_among i (unsent_among f.told) ≡ false) is → ⊥
    at_items [] e h = absurd cc
    at_items (i ∷ is) e h = at_items is (sym (ap (λ (b : Bool). b || list_any (λ i. is_among i (unsent_among f.told)) is) h.0) ∙ e) h.1

-- an item that was told a wrong offset

abbrev at_offset : (ℕ → Bool) → Outcome → Bool
at_offset test (Delivered (pos k)) = test k
at_offset test o = false

offset_passes : (test : ℕ → Bool) (o : Outcome) → at_offset test o ≡ true → (k : ℕ) × (o ≡ Delivered (pos k)) × (test k ≡ true)
offset_passes test (Delivered (pos k)) e = (k, refl, e)
offset_passes test (Delivered (negsuc k)) e = absurd cc
offset_passes test DeliveredNoOffset e = absurd cc
offset_passes test Unknown e = absurd cc
offset_passes test (Rejected code) e = absurd cc
offset_passes test (Unsent why) e = absurd cc

offset_stands_not : (f : Facts) (is_wrong : Item → ℕ → Bool) → ((i : Item) (k : ℕ) → StandsAt f i (pos k) → is_wrong i k ≡ false)
    → has_told (λ t. at_offset (is_wrong t.item) t.outcome) f ≡ true → ToldOffsetsStand f → ⊥
offset_stands_not f is_wrong right e law =
    let t = any_contained (λ t. at_offset (is_wrong t.item) t.outcome) f.told e in
    let k = offset_passes (is_wrong t.0.item) t.0.outcome t.2 in
    absurd (true≢false (sym k.2 ∙ right t.0.item k.0 (law t.0 (pos k.0) t.1 k.1)))

-- it is below the item's place among what was handed over

abbrev is_before_place : Facts → Item → ℕ → Bool
is_before_place f i k = not (is_among i (take (k + 1) (items_handed i.partition f)))

among_first : (i : Item) (earlier later : List Item) (n : ℕ) → length earlier < n → is_among i (take n (earlier ++ i ∷ later)) ≡ true
among_first i [] later zero l = absurd (omega (arith, l))
among_first i [] later (suc n) l = ap (λ (b : Bool). b || is_among i (take n later)) (same_itself i)
among_first i (x ∷ earlier) later zero l = absurd (omega (arith, l))
among_first i (x ∷ earlier) later (suc n) l = at_test (is_same i x) (among_first i earlier later n (omega (arith, l)))
  where
    at_test : (b : Bool) → is_among i (take n (earlier ++ i ∷ later)) ≡ true → b || is_among i (take n (earlier ++ i ∷ later)) ≡ true
    at_test true e = refl
    at_test false e = e

place_is_above : (f : Facts) (i : Item) (k : ℕ) → StandsAt f i (pos k) → is_before_place f i k ≡ false
unfolding own
place_is_above f i k s =
    let is_own = is_under (map pos (partition_of i.partition f).ids) in
    let own_before = length-filter is_own s.before in
    let no_more = count_by-le-length is_own s.before in
    let before : k ≡ length s.before = cc in
    let early : length s.earlier < k + 1 = omega (arith, own_before, no_more, before, s.place) in
    ap (λ is. not (is_among i (take (k + 1) is))) s.handed ∙ ap not (among_first i s.earlier s.later (k + 1) early)

pub offset_is_early : (f : Facts) → has_told (λ t. at_offset (is_before_place f t.item) t.outcome) f ≡ true → ToldOffsetsStand f → ⊥
offset_is_early f e law = offset_stands_not f (is_before_place f) (place_is_above f) e law

-- another producer's record stands there

abbrev is_of_none : Option Stored → Bool
is_of_none (Some r) = int_eq r.producer_id NO_ID
is_of_none None = false

abbrev is_anothers : Facts → Item → ℕ → Bool
is_anothers f i k = is_of_none (slice_get (log_at i.partition f.logs).records k)

own_is_there : (f : Facts) (i : Item) (k : ℕ) → StandsAt f i (pos k) → is_anothers f i k ≡ false
own_is_there f i k s =
    let before : k ≡ length s.before = cc in
    ap is_of_none (ap (λ rs. slice_get rs k) s.record_is ∙ got_at s.before s.after _ k before)

pub offset_is_anothers : (f : Facts) → has_told (λ t. at_offset (is_anothers f t.item) t.outcome) f ≡ true → ToldOffsetsStand f → ⊥
offset_is_anothers f e law = offset_stands_not f (is_anothers f) (own_is_there f) e law

-- a log that has another record where one stands in what was handed over

abbrev value_of : Record → List ℕ
value_of r = unwrap_or r.value []

abbrev is_unlike : List Record → List Record → Bool
is_unlike (x ∷ xs) (y ∷ ys) = not (bytes_eq (value_of x) (value_of y)) || is_unlike xs ys
is_unlike xs ys = false

like_itself : (xs ys : List Record) → is_unlike xs (xs ++ ys) ≡ false
like_itself [] ys = refl
like_itself (x ∷ xs) ys = ap (λ (b : Bool). not b || is_unlike xs (xs ++ ys)) ((bytes_eq-Decides (value_of x) (value_of x)).1 refl) ∙ like_itself xs ys

pub log_is_unlike : (f : Facts) → is_unlike (map (λ s. s.body) (own_records 0 f)) (map body_of (items_handed 0 f)) ≡ true → IsPrefix 0 f → ⊥
log_is_unlike f e law =
    let mine : map (λ s. s.body) (own_records 0 f) ≡ map body_of (flat_map (λ b. b.items) law.stored) = ap (map (λ s. s.body)) law.records ∙ bodies_as_stored law.stored in
    let all : map body_of (items_handed 0 f) ≡ map body_of (flat_map (λ b. b.items) law.stored) ++ map body_of (flat_map (λ b. b.items) law.rest) =
    ap (λ z. map body_of (flat_map (λ b. b.items) z)) law.handed ∙ ap (map body_of) (flat_map-append (λ (b : HandedBatch). b.items) law.stored law.rest) ∙ map-append body_of (flat_map (λ b. b.items) law.stored) (flat_map (λ b. b.items) law.rest) in
    absurd (true≢false (sym e ∙ ap (λ z. is_unlike z (map body_of (items_handed 0 f))) mine ∙ ap (is_unlike (map body_of (flat_map (λ b. b.items) law.stored))) all ∙ like_itself (map body_of (flat_map (λ b. b.items) law.stored)) (map body_of (flat_map (λ b. b.items) law.rest))))

-- an item was told that it was delivered, where no batch was in flight before

abbrev all_wait : Partition → Bool
all_wait t = list_all is_waiting t.open_batches

abbrev is_delivered : Outcome → Bool
is_delivered (Delivered offset) = true
is_delivered o = false

delivered_is : (o : Outcome) → is_delivered o ≡ true → (offset : ℤ) × (o ≡ Delivered offset)
delivered_is (Delivered offset) e = (offset, refl)
delivered_is DeliveredNoOffset e = absurd cc
delivered_is Unknown e = absurd cc
delivered_is (Rejected code) e = absurd cc
delivered_is (Unsent why) e = absurd cc

wait_at : (ts : List Partition) (p : ℕ) → list_all all_wait ts ≡ true → all_wait (partition_at p ts) ≡ true
wait_at [] p e = refl
wait_at (t ∷ ts) zero e = (and_parts (all_wait t) (list_all all_wait ts) e).0
wait_at (t ∷ ts) (suc p) e = wait_at ts p (and_parts (all_wait t) (list_all all_wait ts) e).1

abbrev waits : Attempt → Bool
waits a = elim a [ InFlight c ↦ false | Waiting since ↦ true ]

none_delivered : (s : Core) (c : Option Telling) (t : Told) (offset : ℤ) → list_all all_wait s.partitions ≡ true → t.outcome ≡ Delivered offset → MayBeTold s c t → ⊥
unfolding MayTell
none_delivered s None t offset still is h = h
none_delivered s (Some c) t offset still is h = at_call c (subst (MayTell s c t.item) is h)
  where
    at_call : (call : Telling) → MayTell s call t.item (Delivered offset) → ⊥
    at_call (Append i) m = m
    at_call (Tick node now) m = m
    at_call (ToReply now response) m =
        let o = m.0.batch in
        let place = m.0.answered.is_open in
        let batches = (partition_at m.0.partition s.partitions).open_batches in
        let waiting : is_waiting o ≡ true = sym (ap is_waiting place.2) ∙ AllPass-from_list_all is_waiting batches (wait_at s.partitions m.0.partition still) place.0 o place.1 in
        absurd (true≢false (sym waiting ∙ ap waits (awaits_is m.0.answered.correlation o m.0.answered.in_flight)))
    at_call End m = m

last_passes : {A : Type 0} (test : A → Bool) (xs : List A) (x : A) → list_any test xs ≡ false → list_any test (xs ++ x ∷ []) ≡ true → test x ≡ true
last_passes test xs x none e =
    at_test (test x) (sym (list_any-append test xs (x ∷ []) ∙ ap (λ (b : Bool). b || (test x || false)) none) ∙ e)
  where
    at_test : (b : Bool) → b || false ≡ true → b ≡ true
    at_test true e' = refl
    at_test false e' = absurd cc

abbrev has_noted : (Told → Bool) → World → Bool
has_noted test w = list_any (λ h. list_any test h.told) w.past

pub told_against_rule : (e : WorldEvent) (w v : World) → list_all all_wait w.core.partitions ≡ true → has_noted (λ t. is_delivered t.outcome) w ≡ false → has_noted (λ t. is_delivered t.outcome) v ≡ true
    → TellsByRule e w v → ⊥
told_against_rule x w v still none some law =
    let last = last_passes (λ h. list_any (λ t. is_delivered t.outcome) h.told) w.past law.event none (sym (ap (list_any (λ h. list_any (λ t. is_delivered t.outcome) h.told)) law.noted) ∙ some) in
    let t = any_contained (λ t. is_delivered t.outcome) law.event.told last in
    let offset = delivered_is t.0.outcome t.2 in
    none_delivered w.core (call_of x w) t.0 offset.0 still offset.1 (all_at (MayBeTold w.core (call_of x w)) law.event.told t.0 law.ruled (In-from_contains law.event.told t.0 t.1))

-- ---- a schedule that breaks a law

-- What the world at its end has is computed.
pub breaks : (producer : Producer) (cs : List Choice) (c : Config) (es : List Event) (Law : Facts → Type 0) → checked c ≡ Ok tt → are_there producer cs (events_of 0 es) (opening (scheduled c 1 1)) ≡ true
    → AreHonest producer cs (events_of 0 es) (opening (scheduled c 1 1)) → (test : Facts → Bool) → ((f : Facts) → test f ≡ true → Law f → ⊥) → test (facts (end_of producer cs (events_of 0 es) (opening (scheduled c 1 1)))) ≡ true → Breaks producer c es Law
breaks producer cs c es Law e t h test none is = record {
  may_begin = may_begin c e;
  world = end_of producer cs (events_of 0 es) (opening (scheduled c 1 1));
  run = run_of producer cs (events_of 0 es) (opening (scheduled c 1 1)) t h;
  broken = none (facts (end_of producer cs (events_of 0 es) (opening (scheduled c 1 1)))) is;
}

pub breaks_outcome_rule : (producer : Producer) (cs : List Choice) (c : Config) (es : List Event) (j : ℕ) → checked c ≡ Ok tt → are_there producer cs (events_of 0 es) (opening (scheduled c 1 1)) ≡ true
    → AreHonest producer cs (events_of 0 es) (opening (scheduled c 1 1)) → (v : World) → producer (event.Reply j) (end_of producer cs (events_of 0 es) (opening (scheduled c 1 1))) ≡ Some v
    → (TellsByRule (event.Reply j) (end_of producer cs (events_of 0 es) (opening (scheduled c 1 1))) v → ⊥) → TellsAgainstRule producer c es (event.Reply j)
breaks_outcome_rule producer cs c es j e t h v step broken =
    record { may_begin = may_begin c e; before = end_of producer cs (events_of 0 es) (opening (scheduled c 1 1)); run = run_of producer cs (events_of 0 es) (opening (scheduled c 1 1)) t h; after = v; step = step; broken = broken }
