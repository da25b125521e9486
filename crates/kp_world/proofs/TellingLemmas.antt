-- What a call on the core tells of each partition's items, and what it keeps.
use Rattle.kp_rules.proofs.ListLemmas.{at_set, at_put}
use Rattle.kp_rules.specs.Leading.{led_by, lead_step}
use Rattle.kp_rules.specs.Auditing.{unaudited, without_audits}
use Rattle.kp_rules.specs.Attempts.{asks_for_id, goes_to}
use Rattle.kp_rules.specs.Attempts.{partitions_of}
use Rattle.kp_rules.specs.Records.{Called}
use Rattle.kp_rules.specs.Records.{Demand}
use Rattle.std.proofs.Common.{length-set}
use Rattle.kp_rules.specs.Fence.{give_up}
use Rattle.kp_rules.specs.InOrder.{AreDistinct}
use Rattle.kp_rules.specs.Mismatch.{entries_for}
use Rattle.kp_rules.specs.Partitions.{with_partition}
use Rattle.kp_rules.specs.Replies.{give_id}
use Rattle.kp_rules.specs.Replies.{settle_id}
use Rattle.std.proofs.Common.{not}
use Rattle.std.proofs.Common.{◌≡◌, ℕ, zero, suc, ◌+◌, ◌<◌, ◌≤◌, Bool, true, false, cond, List, [], ◌∷◌, ◌++◌, length, get_or, map, pos, Some, refl, sym, ap, ◌∙◌, subst, arith}
use Rattle.std.specs.Prelude.{if◌then◌else◌, flat_map, nat_abs, ◌==◌, ◌||◌, slice_set}
use Rattle.std.specs.List.{AllByRecursion, filter, range_with_len}
use Rattle.std.proofs.lemmas.Bool.{eqb-true, eqb-false, eq-eqb, ne_eqb}
use Rattle.std.proofs.lemmas.List.{append-nil, get_or-map, length-map}
use Rattle.std.proofs.lemmas.List.Elements.{filter-append}
use Rattle.kp_accum.specs.declared.item.Item.{Item}
use Rattle.kp_frames.specs.declared.producer_id.InitProducerIdResponse.{InitProducerIdResponse}
use Rattle.kp_frames.specs.declared.produce.ProduceResponse.{ProduceResponse}
use Rattle.kp_frames.specs.declared.response.Response.{Response}
use Rattle.kp_rules.proofs.CallLemmas.{at_close, at_disconnect, at_end_step, at_response, at_tick}
use Rattle.kp_rules.proofs.OutcomeLemmas.{by_entries, answered_so, in_flight}
use Rattle.kp_rules.specs.declared.outcome.Reason.TheVariants as reason
use Rattle.kp_rules.specs.Closing.{close_step, end_step}
use Rattle.kp_rules.specs.Flush.{flush_step}
use Rattle.kp_rules.specs.Replies.{response_step, go_on_under}
use Rattle.kp_rules.specs.Tick.{tick_step, heed_deadlines}
use Rattle.kp_rules.specs.Attempts.{awaiting, is_live}
use Rattle.kp_rules.specs.Causes.{IsAnswered}
use Rattle.kp_rules.specs.Dropping.{disconnect_step, drop_requests, drop_led}
use Rattle.kp_rules.specs.Flush.{mark}
use Rattle.kp_rules.specs.MaySend.{wants_id}
use Rattle.kp_rules.specs.Mismatch.{is_given}
use Rattle.kp_rules.specs.Partitions.{partition_at, changed_at, new_partition, is_in, untold}
use Rattle.kp_rules.specs.Records.{Open, Partition, Request, Core, Told, Effect}
use Rattle.kp_rules.specs.Replies.{Replies}
use Rattle.kp_rules.specs.Telling.{with_partitions, at_each, at_these}
use Rattle.kp_rules.specs.Tick.{Ticks}
use Rattle.kp_world.proofs.ConservationLemmas.{items_told, attempt_count, Tells, tells_same, tells_both, tells_nothing, tells_marked, tells_given_up, tells_passed, tells_answered, tells_led, tells_lead}
use Rattle.kp_world.proofs.FateLemmas.{filter_other, filter_same}
use Rattle.kp_world.proofs.WeightLemmas.{weigh, weigh-append, weigh_at, weigh_none}
use Rattle.kp_rules.proofs.PartitionLemmas.{at-changed_at, length-changed_at}
use Rattle.kp_frames.specs.declared.produce.PartitionProduceResponse.{PartitionProduceResponse}
use Rattle.kp_rules.proofs.OutcomeLemmas.{all_places}
use Rattle.kp_rules.proofs.ListLemmas.{all_flat_map}
use Rattle.kp_rules.proofs.ListLemmas.{all_filter, all_say, all_weaker}
use Rattle.kp_world.proofs.ListLemmas.{all_at}
use Rattle.kp_log.proofs.PlaceLemmas.{In-from_contains}

-- ---- what is told, by partition

abbrev partition_told : Told → ℕ
partition_told t = t.item.partition

abbrev pub told_for : ℕ → List Told → List Told
told_for p told = filter (λ t. t.item.partition == p) told

abbrev AllFor : ℕ → List Told → Type 0
AllFor p told = AllByRecursion (λ t. t.item.partition ≡ p) told

all_told : (P : Item → Type 0) (told : List Told) → AllByRecursion P (items_told told) → AllByRecursion (λ (t : Told). P t.item) told
all_told P [] h = tt
all_told P (t ∷ told) h = (h.0, all_told P told h.1)

for_append : (p : ℕ) (a b : List Told) → told_for p (a ++ b) ≡ told_for p a ++ told_for p b
for_append p a b = filter-append (λ (t : Told). t.item.partition == p) a b

-- each place tells of its own
abbrev ByPlace : ℕ → (Partition → List Told) → List Partition → Partition → Type 0
ByPlace k f ts d = (q : ℕ) → q < length ts → AllFor (k + q) (f (get_or ts q d))

by_place_rest : (k : ℕ) (f : Partition → List Told) (t : Partition) (ts : List Partition) (d : Partition) → ByPlace k f (t ∷ ts) d → ByPlace (k + 1) f ts d
by_place_rest k f t ts d h q l =
    let same : k + suc q ≡ k + 1 + q = omega arith in
    subst (λ (n : ℕ). AllFor n (f (get_or ts q d))) same (h (suc q) (omega (arith, l)))

by_place_first : (k : ℕ) (f : Partition → List Told) (t : Partition) (ts : List Partition) (d : Partition) → ByPlace k f (t ∷ ts) d → AllFor k (f t)
by_place_first k f t ts d h = let same : k + 0 ≡ k = omega arith in subst (λ (n : ℕ). AllFor n (f t)) same (h 0 (omega arith))

none_each : (f : Partition → List Told) (ts : List Partition) (d : Partition) (k m : ℕ) → m < k → ByPlace k f ts d → told_for m (flat_map f ts) ≡ []
none_each f [] d k m l h = refl
none_each f (t ∷ ts) d k m l h =
    for_append m (f t) (flat_map f ts)
    ∙ ap (λ r. r ++ told_for m (flat_map f ts)) (filter_other partition_told k m (f t) (λ e. omega (arith, e, l)) (by_place_first k f t ts d h))
    ∙ none_each f ts d (k + 1) m (omega (arith, l)) (by_place_rest k f t ts d h)

told_each : (f : Partition → List Told) (ts : List Partition) (d : Partition) (k p : ℕ) → p < length ts → ByPlace k f ts d
    → told_for (k + p) (flat_map f ts) ≡ f (get_or ts p d)
told_each f [] d k p l h = absurd (omega arith)
told_each f (t ∷ ts) d k zero l h =
    let same : k + 0 ≡ k = omega arith in
    ap (λ (n : ℕ). told_for n (flat_map f (t ∷ ts))) same
    ∙ for_append k (f t) (flat_map f ts)
    ∙ ap (λ r. r ++ told_for k (flat_map f ts)) (filter_same partition_told k (f t) (by_place_first k f t ts d h))
    ∙ ap (λ r. f t ++ r) (none_each f ts d (k + 1) k (omega arith) (by_place_rest k f t ts d h))
    ∙ append-nil (f t)
told_each f (t ∷ ts) d k (suc p) l h =
    let same : k + suc p ≡ k + 1 + p = omega arith in
    ap (λ (n : ℕ). told_for n (flat_map f (t ∷ ts))) same
    ∙ for_append (k + 1 + p) (f t) (flat_map f ts)
    ∙ ap (λ r. r ++ told_for (k + 1 + p) (flat_map f ts)) (filter_other partition_told k (k + 1 + p) (f t) (λ e. omega (arith, e)) (by_place_first k f t ts d h))
    ∙ told_each f ts d (k + 1) p (omega (arith, l)) (by_place_rest k f t ts d h)

told_these : (g : ℕ → List Told) → ((q : ℕ) → AllFor q (g q)) → (ps : List ℕ) (p : ℕ) → AreDistinct ps
    → told_for p (flat_map g ps) ≡ (if is_in p ps then g p else [])
told_these g home [] p h = refl
told_these g home (q ∷ qs) p h = for_append p (g q) (flat_map g qs) ∙ at_test (told_these g home qs p h.1) (q == p) refl
  where
    at_test : told_for p (flat_map g qs) ≡ (if is_in p qs then g p else []) → (b : Bool) → (q == p) ≡ b → told_for p (g q) ++ told_for p (flat_map g qs) ≡ (if b || is_in p qs then g p else [])
    at_test rest true is =
        let e : q ≡ p = eqb-true q p is in
        let none : is_in p qs ≡ false = subst (λ (n : ℕ). is_in n qs ≡ false) e h.0 in
        ap (λ r. r ++ told_for p (flat_map g qs)) (filter_same partition_told p (g q) (subst (λ (n : ℕ). AllFor n (g q)) e (home q)))
        ∙ ap (λ r. g q ++ r) (rest ∙ ap (λ (b : Bool). if b then g p else []) none)
        ∙ append-nil (g q) ∙ ap g e
    at_test rest false is =
        ap (λ r. r ++ told_for p (flat_map g qs)) (filter_other partition_told q p (g q) (eqb-false q p is) (home q)) ∙ rest

-- ---- the core

abbrev pub AtHome : List Partition → Type 0
AtHome ts = (p : ℕ) → AllByRecursion (λ i. i.partition ≡ p) (untold (partition_at p ts))

pub record CoreTells (s : Core) (told : List Told) (s' : Core) : Type 1 where
  pub count : length s'.partitions ≡ length s.partitions
  pub each : (p : ℕ) → p < length s.partitions → Tells (partition_at p s.partitions) (told_for p told) (partition_at p s'.partitions)
  pub requests : (P : Request → Type 0) → AllByRecursion P s.requests → AllByRecursion P s'.requests
  pub there : AllByRecursion (λ t. t.item.partition < length s.partitions) told

-- the partitions are the same
pub core_alike : (s s' : Core) → s'.partitions ≡ s.partitions → ((P : Request → Type 0) → AllByRecursion P s.requests → AllByRecursion P s'.requests) → CoreTells s [] s'
core_alike s s' same requests = record {
  count = ap length same;
  each = λ p h. subst (Tells (partition_at p s.partitions) []) (sym (ap (partition_at p) same)) (tells_nothing (partition_at p s.partitions));
  requests = requests;
  there = tt;
}

core_nothing : (s : Core) → CoreTells s [] s
core_nothing s = core_alike s s refl (λ P h. h)

core_then : (s u v : Core) (told : List Told) → CoreTells s [] u → CoreTells u told v → CoreTells s told v
core_then s u v told a b = record {
  count = b.count ∙ a.count;
  each = λ p h.
      tells_both (partition_at p s.partitions) (partition_at p u.partitions) (partition_at p v.partitions) [] (told_for p told) (a.each p h) (b.each p (subst (λ (n : ℕ). p < n) (sym a.count) h));
  requests = λ P h. b.requests P (a.requests P h);
  there = subst (λ (n : ℕ). AllByRecursion (λ t. t.item.partition < n) told) a.count b.there;
}

-- past the last partition nothing is there
past_last : (P : Item → Type 0) (ts : List Partition) (n : ℕ) → (n < length ts → AllByRecursion P (untold (partition_at n ts))) → AllByRecursion P (untold (partition_at n ts))
unfolding untold
past_last P [] n h = tt
past_last P (t ∷ ts) zero h = h (omega arith)
past_last P (t ∷ ts) (suc n) h = past_last P ts n (λ l. h (omega (arith, l)))

pub home_past : (ts : List Partition) → ((p : ℕ) → p < length ts → AllByRecursion (λ i. i.partition ≡ p) (untold (partition_at p ts))) → AtHome ts
home_past ts h p = past_last (λ i. i.partition ≡ p) ts p (h p)

-- the items of a partition are of one that is there
home_below : (ts : List Partition) → AtHome ts → (p : ℕ) → AllByRecursion (λ i. i.partition < length ts) (untold (partition_at p ts))
home_below ts home p = past_last (λ i. i.partition < length ts) ts p (λ l. all_weaker (λ i. i.partition ≡ p) (λ i. i.partition < length ts) (λ i e. omega (arith, e, l)) (untold (partition_at p ts)) (home p))

home_mapped : (f : Partition → Partition) → ((t : Partition) → Tells t [] (f t)) → (ts : List Partition) → AtHome ts → AtHome (map f ts)
home_mapped f c ts home = home_past (map f ts) (λ p l.
    let size : length (map f ts) ≡ length ts = length-map ts f in
    let within : p < length ts = omega (arith, l, size) in
    subst (λ (t : Partition). AllByRecursion (λ i. i.partition ≡ p) (untold t)) (sym (get_or-map f ts p (new_partition 0) (new_partition 0) within)) ((c (partition_at p ts)).left_from (λ i. i.partition ≡ p) (home p)))

core_map : (f : Partition → Partition) → ((t : Partition) → Tells t [] (f t)) → (s s' : Core) → s'.partitions ≡ map f s.partitions
    → ((P : Request → Type 0) → AllByRecursion P s.requests → AllByRecursion P s'.requests) → CoreTells s [] s'
core_map f k s s' e requests = record {
  count = ap length e ∙ length-map s.partitions f;
  each = λ p h. subst (Tells (partition_at p s.partitions) []) (sym (ap (partition_at p) e ∙ get_or-map f s.partitions p (new_partition 0) (new_partition 0) h)) (k (partition_at p s.partitions));
  requests = requests;
  there = tt;
}

pub core_dropped : (node now : ℕ) (s : Core) → CoreTells s [] (drop_requests node now s)
unfolding drop_requests
core_dropped node now s = core_map (drop_led node now) (tells_led node now) s (drop_requests node now s) refl (λ P h. all_filter P (λ r. not (goes_to node r)) s.requests h)

pub core_flushed : (s : Core) → CoreTells s [] (flush_step s)
unfolding flush_step
core_flushed s = core_map mark tells_marked s (flush_step s) refl (λ P h. h)

tells_unaudited : (t : Partition) → Tells t [] (unaudited t)
unfolding untold
tells_unaudited t = tells_same t (unaudited t) refl refl

pub core_unaudited : (s : Core) → CoreTells s [] (without_audits s)
unfolding without_audits
core_unaudited s = core_map unaudited tells_unaudited s (without_audits s) refl (λ P h. h)

pub core_disconnected : (node now : ℕ) (s : Core) → CoreTells s [] (disconnect_step node now s)
core_disconnected node now s = at_disconnect (CoreTells s []) node now s (core_nothing s) (core_dropped node now s)

pub core_led : (p leader now : ℕ) (s : Core) → CoreTells s [] (lead_step p leader now s)
unfolding lead_step
core_led p leader now s = record {
  count = length-set s.partitions p moved;
  each = λ q h. at_put (Tells (partition_at q s.partitions) []) s.partitions p q moved (new_partition 0)
      (λ same. subst (λ (n : ℕ). Tells (partition_at n s.partitions) [] moved) (sym same) (tells_lead leader now (partition_at p s.partitions))) (tells_nothing (partition_at q s.partitions));
  requests = λ P h. all_filter P (is_live (slice_set s.partitions p moved)) s.requests h;
  there = tt;
}
  where
    moved : Partition
    moved = led_by leader now (partition_at p s.partitions)

pub core_closed : (s : Core) → CoreTells s [] (close_step s)
core_closed s = at_close (CoreTells s []) s (core_nothing s) (core_alike s (record s { closing = true }) refl (λ P h. h))

core_at_each : (rule : Partition → Effect) → ((t : Partition) → Tells t (rule t).told (rule t).after)
    → (s : Core) → AtHome s.partitions → CoreTells s (at_each rule s).told (at_each rule s).after
unfolding at_each with_partitions
core_at_each rule tells s home = record {
  count = length-map s.partitions (λ t. (rule t).after);
  each = λ p h.
      let t = partition_at p s.partitions in
      let told : told_for p (flat_map (λ t. (rule t).told) s.partitions) ≡ (rule (partition_at p s.partitions)).told =
      ap (λ (n : ℕ). told_for n (flat_map (λ t. (rule t).told) s.partitions)) (let same : p ≡ 0 + p = omega arith in same)
      ∙ told_each (λ t. (rule t).told) s.partitions (new_partition 0) 0 p h
      (λ q l. let same : q ≡ 0 + q = omega arith in subst (λ (n : ℕ). AllFor n (rule (partition_at q s.partitions)).told) same
      (all_told (λ i. i.partition ≡ q) (rule (partition_at q s.partitions)).told ((tells (partition_at q s.partitions)).told_from (λ i. i.partition ≡ q) (home q)))) in
      let after : partition_at p (map (λ t. (rule t).after) s.partitions) ≡ (rule (partition_at p s.partitions)).after = get_or-map (λ t. (rule t).after) s.partitions p (new_partition 0) (new_partition 0) h in
      subst (λ (u : Partition). Tells (partition_at p s.partitions) (told_for p (flat_map (λ t. (rule t).told) s.partitions)) u) (sym after)
      (subst (λ (x : List Told). Tells (partition_at p s.partitions) x (rule (partition_at p s.partitions)).after) (sym told)
      (tells (partition_at p s.partitions)));
  requests = λ P h. all_filter P (is_live (map (λ t. (rule t).after) s.partitions)) s.requests h;
  there = all_places (λ (t : Told). t.item.partition < length s.partitions) (λ t. (rule t).told) s.partitions
      (λ q. all_told (λ i. i.partition < length s.partitions) (rule (partition_at q s.partitions)).told ((tells (partition_at q s.partitions)).told_from (λ i. i.partition < length s.partitions) (home_below s.partitions home q)));
}

core_at_these : (ps : List ℕ) (rule : ℕ → Partition → Effect) → (s : Core)
    → ((p : ℕ) → Tells (partition_at p s.partitions) (rule p (partition_at p s.partitions)).told (rule p (partition_at p s.partitions)).after) → AreDistinct ps → AtHome s.partitions → CoreTells s (at_these ps rule s).told (at_these ps rule s).after
unfolding at_these with_partitions
core_at_these ps rule s tells distinct home = record {
  count = length-changed_at ps (λ p t. (rule p t).after) s.partitions;
  each = λ p h.
      let told : told_for p (flat_map (λ q. (rule q (partition_at q s.partitions)).told) ps) ≡ (if is_in p ps then (rule p (partition_at p s.partitions)).told else []) =
      told_these (λ q. (rule q (partition_at q s.partitions)).told)
      (λ q. all_told (λ i. i.partition ≡ q) (rule q (partition_at q s.partitions)).told ((tells q).told_from (λ i. i.partition ≡ q) (home q))) ps p distinct in
      subst (λ (u : Partition). Tells (partition_at p s.partitions) (told_for p (flat_map (λ q. (rule q (partition_at q s.partitions)).told) ps)) u) (sym (at-changed_at ps (λ p t. (rule p t).after) s.partitions p h))
      (subst (λ (x : List Told). Tells (partition_at p s.partitions) x (if is_in p ps then (rule p (partition_at p s.partitions)).after else partition_at p s.partitions)) (sym told)
      (at_test p (is_in p ps)));
  requests = λ P h. all_filter P (is_live (changed_at ps (λ p t. (rule p t).after) s.partitions)) s.requests h;
  there = all_flat_map (λ (t : Told). t.item.partition < length s.partitions) (λ q. (rule q (partition_at q s.partitions)).told) ps
      (λ q c. all_told (λ i. i.partition < length s.partitions) (rule q (partition_at q s.partitions)).told ((tells q).told_from (λ i. i.partition < length s.partitions) (home_below s.partitions home q)));
}
  where
    at_test : (p : ℕ) (b : Bool) → Tells (partition_at p s.partitions) (if b then (rule p (partition_at p s.partitions)).told else []) (if b then (rule p (partition_at p s.partitions)).after else partition_at p s.partitions)
    at_test p true = tells p
    at_test p false = tells_nothing (partition_at p s.partitions)

-- ---- weighed

weigh_items : (f : Item → ℕ) (told : List Told) → weigh f (items_told told) ≡ weigh (λ (t : Told). f t.item) told
weigh_items f [] = refl
weigh_items f (t ∷ told) = ap (λ (n : ℕ). f t.item + n) (weigh_items f told)

-- what is told is what is told of each partition
told_parts : (g : Told → ℕ) (n : ℕ) (told : List Told) → AllByRecursion (λ t. t.item.partition < n) told → weigh (λ p. weigh g (told_for p told)) (range_with_len 0 n) ≡ weigh g told
told_parts g n [] h = weigh_none (λ p. 0) (range_with_len 0 n) (all_say (λ p. 0 ≡ 0) (λ p. refl) (range_with_len 0 n))
told_parts g n (t ∷ told) h =
    let one : weigh (λ p. weigh g (told_for p (t ∷ told))) (range_with_len 0 n) ≡ weigh (λ p. weigh g (told_for p told)) (range_with_len 0 n) + g t =
    weigh_at (λ p. weigh g (told_for p told)) (λ p. weigh g (told_for p (t ∷ told))) t.item.partition (g t) here other 0 n (omega arith) (omega (arith, h.0)) in
    let rest : weigh (λ p. weigh g (told_for p told)) (range_with_len 0 n) ≡ weigh g told = told_parts g n told h.1 in
    omega (arith, one, rest)
  where
    here : weigh g (cond (t.item.partition == t.item.partition) (t ∷ told_for t.item.partition told) (told_for t.item.partition told)) ≡ weigh g (told_for t.item.partition told) + g t
    here = ap (λ (b : Bool). weigh g (cond b (t ∷ told_for t.item.partition told) (told_for t.item.partition told))) (eq-eqb t.item.partition t.item.partition refl) ∙ (let swap : g t + weigh g (told_for t.item.partition told) ≡ weigh g (told_for t.item.partition told) + g t = omega arith in swap)

    other : (p : ℕ) → (p == t.item.partition) ≡ false → weigh g (cond (t.item.partition == p) (t ∷ told_for p told) (told_for p told)) ≡ weigh g (told_for p told)
    other p is = ap (λ (b : Bool). weigh g (cond b (t ∷ told_for p told) (told_for p told))) (ne_eqb t.item.partition p (λ (e : t.item.partition ≡ p). eqb-false p t.item.partition is (sym e)))

-- place by place: what a place loses, by its number
pub weigh_places : (g : ℕ → ℕ) (f : Item → ℕ) (k : ℕ) (ts ts' : List Partition) (d : Partition) → length ts' ≡ length ts
    → ((q : ℕ) → q < length ts → g (k + q) + weigh f (untold (get_or ts' q d)) ≡ weigh f (untold (get_or ts q d)))
    → weigh g (range_with_len k (length ts)) + weigh f (flat_map untold ts') ≡ weigh f (flat_map untold ts)
weigh_places g f k [] [] d e h = refl
weigh_places g f k [] (t' ∷ ts') d e h = absurd (omega (arith, e))
weigh_places g f k (t ∷ ts) [] d e h = absurd (omega (arith, e))
weigh_places g f k (t ∷ ts) (t' ∷ ts') d e h =
    let zero_on : k + 0 ≡ k = omega arith in
    let here : g k + weigh f (untold t') ≡ weigh f (untold t) = subst (λ (n : ℕ). g n + weigh f (untold t') ≡ weigh f (untold t)) zero_on (h 0 (omega arith)) in
    let rest : weigh g (range_with_len (k + 1) (length ts)) + weigh f (flat_map untold ts') ≡ weigh f (flat_map untold ts) =
    weigh_places g f (k + 1) ts ts' d (omega (arith, e)) (λ q l. let next : k + suc q ≡ k + 1 + q = omega arith in subst (λ (n : ℕ). g n + weigh f (untold (get_or ts' q d)) ≡ weigh f (untold (get_or ts q d))) next (h (suc q) (omega (arith, l)))) in
    let b : weigh f (untold t' ++ flat_map untold ts') ≡ weigh f (untold t') + weigh f (flat_map untold ts') = weigh-append f (untold t') (flat_map untold ts') in
    let c : weigh f (untold t ++ flat_map untold ts) ≡ weigh f (untold t) + weigh f (flat_map untold ts) = weigh-append f (untold t) (flat_map untold ts) in
    omega (arith, here, rest, b, c)

pub core_weighs : (s : Core) (told : List Told) (s' : Core) → CoreTells s told s' → (f : Item → ℕ)
    → weigh f (items_told told) + weigh f (flat_map untold s'.partitions) ≡ weigh f (flat_map untold s.partitions)
core_weighs s told s' k f =
    let places : weigh (λ p. weigh (λ (t : Told). f t.item) (told_for p told)) (range_with_len 0 (length s.partitions)) + weigh f (flat_map untold s'.partitions) ≡ weigh f (flat_map untold s.partitions) =
    weigh_places (λ p. weigh (λ (t : Told). f t.item) (told_for p told)) f 0 s.partitions s'.partitions (new_partition 0) k.count (λ q l.
    let same : q ≡ 0 + q = omega arith in
    subst (λ (n : ℕ). weigh (λ (t : Told). f t.item) (told_for n told) + weigh f (untold (partition_at q s'.partitions)) ≡ weigh f (untold (partition_at q s.partitions))) same
    (ap (λ (n : ℕ). n + weigh f (untold (partition_at q s'.partitions))) (sym (weigh_items f (told_for q told))) ∙ (k.each q l).weighs f)) in
    let parts : weigh (λ p. weigh (λ (t : Told). f t.item) (told_for p told)) (range_with_len 0 (length s.partitions)) ≡ weigh (λ (t : Told). f t.item) told = told_parts (λ (t : Told). f t.item) (length s.partitions) told k.there in
    let items : weigh f (items_told told) ≡ weigh (λ (t : Told). f t.item) told = weigh_items f told in
    omega (arith, places, parts, items)

-- ---- the calls

home_dropped : (node now : ℕ) (s : Core) → AtHome s.partitions → AtHome (drop_requests node now s).partitions
unfolding drop_requests
home_dropped node now s home = home_mapped (drop_led node now) (tells_led node now) s.partitions home

pub core_ticked : (node now : ℕ) (s : Core) → AtHome s.partitions → CoreTells s (tick_step node now s).told (tick_step node now s).after
core_ticked node now s home = at_tick (λ (x : Ticks). CoreTells s x.told x.after) node now s (record {
  ended = core_nothing s;
  timed_out = core_then s (drop_requests node now s) (at_each (heed_deadlines (drop_requests node now s).config now) (drop_requests node now s)).after (at_each (heed_deadlines (drop_requests node now s).config now) (drop_requests node now s)).told (core_dropped node now s)
      (core_at_each (heed_deadlines (drop_requests node now s).config now) (tells_passed (drop_requests node now s).config now) (drop_requests node now s) (home_dropped node now s home));
  on_time = core_at_each (heed_deadlines s.config now) (tells_passed s.config now) s home;
})

pub core_ended : (s : Core) → AtHome s.partitions → CoreTells s (end_step s).told (end_step s).after
core_ended s home = at_end_step (λ (x : Called ℕ). CoreTells s x.told x.after) s (core_nothing s) (record { count = k.count; each = k.each; requests = λ P h. tt; there = k.there })
  where
    k : CoreTells s (at_each (give_up reason.Ended) s).told (at_each (give_up reason.Ended) s).after
    k = core_at_each (give_up reason.Ended) (tells_given_up reason.Ended) s home

-- ---- a reply

tells_entries : (now k : ℕ) (response : ProduceResponse) (p : ℕ) (t : Partition)
    → ((a : PartitionProduceResponse) (rest : List PartitionProduceResponse) → entries_for p response ≡ a ∷ rest → (o : Open) → awaiting k t ≡ Some o → attempt_count k t.open_batches ≤ 1)
    → Tells t (by_entries now k t (entries_for p response)).told (by_entries now k t (entries_for p response)).after
tells_entries now k response p t one = at_first (entries_for p response) refl
  where
    at_first : (xs : List PartitionProduceResponse) → entries_for p response ≡ xs → Tells t (by_entries now k t xs).told (by_entries now k t xs).after
    at_first [] is = tells_nothing t
    at_first (a ∷ xs) is = tells_answered now k t a (one a xs is)

-- where the response answers a batch of a partition, that is the only one of the partition in its request
abbrev pub IsSingle : Core → Response → Type 0
IsSingle s response = (p k : ℕ) (o : Open) (a : PartitionProduceResponse) → IsAnswered s response p o a → pos k ≡ response.correlation → attempt_count k (partition_at p s.partitions).open_batches ≤ 1

tells_under : (id : ℕ) (t : Partition) → Tells t [] (go_on_under id t)
unfolding untold
tells_under id t = tells_same t (go_on_under id t) refl refl

core_set : (p : ℕ) (t : Partition) (s : Core) → Tells (partition_at p s.partitions) [] t → CoreTells s [] (with_partition p t s)
core_set p t s k = record {
  count = length-set s.partitions p t;
  each = λ q h. at_set (Tells (partition_at q s.partitions) []) s.partitions p q t (new_partition 0)
      (λ e. (subst (λ (n : ℕ). n < length s.partitions) e h, subst (λ (n : ℕ). Tells (partition_at n s.partitions) [] t) (sym e) k)) (tells_nothing (partition_at q s.partitions));
  requests = λ P h. h;
  there = tt;
}

core_given : (id p : ℕ) (s : Core) → CoreTells s [] (give_id id p s)
core_given id p s = at_want (wants_id s.config (partition_at p s.partitions))
  where
    at_want : (b : Bool) → CoreTells s [] (if b then with_partition p (go_on_under id (partition_at p s.partitions)) s else s)
    at_want true = core_set p (go_on_under id (partition_at p s.partitions)) s (tells_under id (partition_at p s.partitions))
    at_want false = core_nothing s

abbrev idle : Core → Core
idle s = record s { requests = filter (λ r. not (asks_for_id r)) s.requests }

core_id : (now p : ℕ) (x : InitProducerIdResponse) (s : Core) → CoreTells s [] (settle_id now p x s)
core_id now p x s = at_given (is_given x)
  where
    idles : CoreTells s [] (idle s)
    idles = core_alike s (idle s) refl (λ P h. all_filter P (λ r. not (asks_for_id r)) s.requests h)

    at_given : (b : Bool) → CoreTells s [] (if b then give_id (nat_abs x.producer_id) p (idle s) else record (idle s) { id_waits = Some now })
    at_given true = core_then s (idle s) (give_id (nat_abs x.producer_id) p (idle s)) [] idles (core_given (nat_abs x.producer_id) p (idle s))
    at_given false = core_alike s (record (idle s) { id_waits = Some now }) refl (λ P h. all_filter P (λ r. not (asks_for_id r)) s.requests h)

-- each request has each of its partitions once
abbrev pub HasDistinct : Request → Type 0
HasDistinct r = AreDistinct (partitions_of r.demand)

pub core_replied : (now : ℕ) (response : Response) (s : Core) → IsSingle s response → AllByRecursion HasDistinct s.requests → AtHome s.partitions
    → CoreTells s (response_step now response s).told (response_step now response s).after
core_replied now response s single distinct home = at_response (λ (x : Replies). CoreTells s x.told x.after) now response s (record {
  same = λ answer. core_nothing s;
  batches = λ r ps produce it demand is fits.
      core_at_these ps (λ p t. by_entries now r.correlation t (entries_for p produce)) s
      (λ p. tells_entries now r.correlation produce p (partition_at p s.partitions) (λ a rest first o at. single p r.correlation o a (answered_so s response r ps produce it is fits p a rest first o at) (in_flight response.correlation s r it).1))
      (subst (λ (d : Demand ℕ). AreDistinct (partitions_of d)) demand (all_at HasDistinct s.requests r distinct (In-from_contains s.requests r (in_flight response.correlation s r it).0))) home;
  id = λ r p x it demand is fits. core_id now p x s;
})
