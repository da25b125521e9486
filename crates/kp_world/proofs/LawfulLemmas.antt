-- What holds of every world of a run, for any honest broker; and that it holds still when the core was
-- called, and when a request has gone out.
use Rattle.kp_rules.specs.Attempts.{asks_for_id}
use Rattle.kp_rules.specs.Records.{Request}
use Rattle.kp_rules.specs.Requesting.{go_out}
use Rattle.std.proofs.Common.{◌≡◌, ◌⊎◌, ℕ, ◌+◌, ◌<◌, ◌≤◌, Bool, true, false, List, [], ◌∷◌, ◌++◌, length, Some, None, refl, sym, ap, ◌∙◌, subst, inl, inr, ⊎_elim, arith}
use Rattle.std.specs.Prelude.{Option, if◌then◌else◌, ◌&&◌}
use Rattle.std.specs.List.{AllByRecursion}
use Rattle.std.proofs.lemmas.Bool.{and_parts}
use Rattle.kp_accum.specs.declared.config.Config.{Config}
use Rattle.kp_accum.specs.declared.flags.Flags.{Flags}
use Rattle.kp_accum.specs.Queue.{Pending}
use Rattle.kp_accum.specs.Ready.{is_ready}
use Rattle.kp_log.specs.HandedOver.{IsStored}
use Rattle.kp_log.specs.History.{History}
use Rattle.kp_log.proofs.PlaceLemmas.{In, In-head, In-append_left, In-append_right}
use Rattle.kp_rules.proofs.CallLemmas.{at_request}
use Rattle.kp_rules.proofs.SendingLemmas.{IsSent, demand_is_sent}
use Rattle.kp_rules.specs.Requesting.{request_step}
use Rattle.kp_rules.specs.Attempts.{lowest_waiting}
use Rattle.kp_rules.specs.HandingOver.{hand_over_in, send_in}
use Rattle.kp_rules.specs.MaySend.{is_rested, is_confirmed, is_in_span, is_within_limit, may_hand_over, new_batch, sends}
use Rattle.kp_rules.specs.Next.{Sending, flags_of, next_demand}
use Rattle.kp_rules.specs.Partitions.{partition_at, is_in}
use Rattle.kp_rules.specs.Records.{Demand, Produce, InitProducerId, HandedBatch, Open, Partition, Core}
use Rattle.kp_rules.specs.Requesting.{Packet, Requested, partitions_in, sent_out}
use Rattle.kp_world.specs.Client.{grown_by, handed_at, with_sendings, sending}
use Rattle.kp_world.specs.Delivering.{log_at, given}
use Rattle.kp_world.specs.Message.{sent_of, Answers}
use Rattle.kp_world.specs.Noting.{noted}
use Rattle.kp_world.specs.World.{Reply, World}
use Rattle.kp_world.proofs.BrokerLemmas.{AllAgree, Agrees, PartAgrees}
use Rattle.kp_world.proofs.FlightLemmas.{sent_again_in, Says, Steady, steady_kept, steady_passed_by, steady_again, steady_handed, Carries, says_same}
use Rattle.kp_rules.proofs.PartitionLemmas.{length-changed_at}
use Rattle.kp_world.proofs.LeavingLemmas.{CoreLeaves}
use Rattle.kp_world.proofs.RequestLemmas.{Only, not_in_request, at_sent_out, grown_known, grown_new, length-with_sendings}
use Rattle.kp_world.proofs.SendingLemmas.{find_open, opens_again}
use Rattle.kp_world.proofs.SoundLemmas.{Sound, sound_kept, sound_handed}
use Rattle.kp_rules.proofs.ListLemmas.{all_weaker}
use Rattle.kp_world.proofs.ListLemmas.{all_at, all_in, one_more}

-- ---- packets and replies

-- each of the packet's batches was handed over for its partition
abbrev pub PartsIn : ℕ → List (List HandedBatch) → Demand Sending → Type 0
PartsIn n handed (Produce xs) = AllByRecursion (λ (x : Sending). (x.partition < n)
    × In x.batch (handed_at x.partition handed)) xs
PartsIn n handed (InitProducerId p) = Unit {0}

pub record Went (n : ℕ) (handed : List (List HandedBatch)) (core : Core) (o : Packet) : Type 0 where
  pub before : o.correlation < core.correlation
  pub parts : PartsIn n handed o.demand

pub record Given (n : ℕ) (ids : List ℕ) (core : Core) (r : Reply) : Type 0 where
  pub before : r.correlation < core.correlation
  pub answers : Answers r.correlation r.content r.response
  pub drawn : (id : ℕ) → r.content ≡ given id → In id ids
  pub spare : (id : ℕ) (q : Request) → r.content ≡ given id → In q core.requests → asks_for_id q ≡ true
      → q.correlation ≡ r.correlation
      → (p : ℕ) → p < n → In id (partition_at p core.partitions).ids → ⊥

-- ---- what holds

pub record Lawful (most n : ℕ) (core : Core) (logs : List History) (handed : List (List HandedBatch)) (packets : List Packet) (replies : List Reply) (ids : List ℕ) : Type 0 where
  pub count : length core.partitions ≡ n
  pub handed_count : length handed ≡ n
  pub logs_count : length logs ≡ n
  pub window : core.config.max_in_flight_requests_per_connection ≤ most
  pub some : 0 < most
  pub agree : AllAgree most n ids core handed logs packets replies
  pub went : (o : Packet) → In o packets → Went n handed core o
  pub gave : (r : Reply) → In r replies → Given n ids core r
  pub asked : (q : Request) → In q core.requests → q.correlation < core.correlation

-- with at most so many requests in flight
abbrev pub IsLawfulWithin : ℕ → ℕ → World → Type 0
IsLawfulWithin most n w = Lawful most n w.core w.logs w.handed w.packets w.replies w.ids

-- with at most five, as a producer's configuration allows
abbrev pub IsLawful : ℕ → World → Type 0
IsLawful n w = IsLawfulWithin 5 n w

-- the batch is stored in its partition's log
abbrev pub StoredAt : List History → ℕ → HandedBatch → Type 0
StoredAt logs p b = IsStored (log_at p logs).records (sent_of b)

-- ---- a call of the core

pub lawful_core : {most : ℕ} (n : ℕ) (s s' : Core) (logs : List History) (handed : List (List HandedBatch)) (packets : List Packet) (replies : List Reply) (ids : List ℕ)
    → Lawful most n s logs handed packets replies ids → CoreLeaves (StoredAt logs) s s' → Lawful most n s' logs handed packets replies ids
lawful_core {most = most} n s s' logs handed packets replies ids g l = record {
  count = l.count ∙ g.count;
  handed_count = g.handed_count;
  logs_count = g.logs_count;
  window = subst (λ (c : Config). c.max_in_flight_requests_per_connection ≤ most) (sym l.config) g.window;
  some = g.some;
  agree = λ p h. record {
    sound = sound_kept ids (partition_at p s.partitions) (partition_at p s'.partitions) (handed_at p handed) (log_at p logs) (g.agree p h).sound (l.each p (within p h)).keeps;
    steady = subst (λ (next : ℕ). Steady most p s'.ended next (partition_at p s'.partitions) (handed_at p handed) (log_at p logs) packets replies) (sym l.correlation)
        (steady_kept p s.correlation ids s.ended s'.ended (partition_at p s.partitions) (partition_at p s'.partitions) (handed_at p handed) (log_at p logs) packets replies (g.agree p h).sound (g.agree p h).steady l.ended (l.each p (within p h)));
  };
  went = λ o i. let w = g.went o i in record { before = subst (λ (m : ℕ). o.correlation < m) (sym l.correlation) w.before; parts = w.parts };
  gave = λ r i. let w = g.gave r i in record {
    before = subst (λ (m : ℕ). r.correlation < m) (sym l.correlation) w.before;
    answers = w.answers;
    drawn = w.drawn;
    spare = λ id q e a x c p h at. w.spare id q e (l.requests q a) x c p h (subst (λ (is : List ℕ). In id is) (l.each p (within p h)).keeps.ids at);
  };
  asked = λ q e. subst (λ (m : ℕ). q.correlation < m) (sym l.correlation) (g.asked q (l.requests q e));
}
  where
    within : (p : ℕ) → p < n → p < length s.partitions
    within p h = subst (λ (m : ℕ). p < m) (sym g.count) h

-- ---- what goes out of a partition

-- its lowest batch that waits
pub record GoesAgain (k : ℕ) (t : Partition) (b : HandedBatch) : Type 0 where
  pub lowest : Open
  pub waits : lowest_waiting t ≡ Some lowest
  pub batch : lowest.batch ≡ b
  pub after_is : send_in k t ≡ sent_again_in k t

-- or the front of its queue, which may be handed over
pub record GoesFirst (k : ℕ) (c : Config) (t : Partition) (b : HandedBatch) : Type 0 where
  pub front : Pending
  pub queue : List Pending
  pub queue_is : t.queue ≡ front ∷ queue
  pub batch : b ≡ new_batch t front
  pub confirmed : is_confirmed t ≡ true
  pub in_span : is_in_span c t.next_number t.open_batches ≡ true
  pub after_is : send_in k t ≡ hand_over_in k t (front ∷ queue)

abbrev by_front : Config → Flags → ℕ → Partition → List Pending → Option HandedBatch
by_front c f now t q = elim q [ [] ↦ None | front ∷ behind ↦ if may_hand_over c f now t front then Some (new_batch t front) else None ]

abbrev by_lowest : Config → Flags → ℕ → Partition → Option Open → Option HandedBatch
by_lowest c f now t o = elim o [ Some lowest ↦ if is_rested c now lowest then Some lowest.batch else None | None ↦ by_front c f now t t.queue ]

abbrev by_waiting : ℕ → Partition → Option Open → Partition
by_waiting k t o = elim o [
  | Some lowest ↦ sent_again_in k t
  | None ↦ hand_over_in k t t.queue
]

pub sends_cases : (c : Config) (f : Flags) (now k : ℕ) (t : Partition) (b : HandedBatch) → sends c f now t ≡ Some b → GoesAgain k t b ⊎ GoesFirst k c t b
unfolding sends send_in
sends_cases c f now k t b e = at_fence t.fenced e
  where
    at_front : lowest_waiting t ≡ None → (q : List Pending) → t.queue ≡ q → by_front c f now t q ≡ Some b → GoesFirst k c t b
    at_front none [] is e' = absurd cc
    at_front none (front ∷ queue) is e' = at_may (may_hand_over c f now t front) refl e'
      where
        at_may : (may : Bool) → may_hand_over c f now t front ≡ may → (if may then Some (new_batch t front) else None) ≡ Some b → GoesFirst k c t b
        at_may false m same = absurd cc
        at_may true m same =
            let three = and_parts (is_ready c f now t.queue && is_confirmed t && is_in_span c t.next_number t.open_batches) (is_within_limit c t front) m in
            let two = and_parts (is_ready c f now t.queue && is_confirmed t) (is_in_span c t.next_number t.open_batches) three.0 in
            let one = and_parts (is_ready c f now t.queue) (is_confirmed t) two.0 in
            record { front = front; queue = queue; queue_is = is; batch = cc; confirmed = one.1; in_span = two.1; after_is = ap (by_waiting k t) none ∙ ap (hand_over_in k t) is }

    at_lowest : (o : Option Open) → lowest_waiting t ≡ o → by_lowest c f now t o ≡ Some b → GoesAgain k t b ⊎ GoesFirst k c t b
    at_lowest None is e' = inr (at_front is t.queue refl e')
    at_lowest (Some lowest) is e' = inl (at_test (is_rested c now lowest) e')
      where
        at_test : (rested : Bool) → (if rested then Some lowest.batch else None) ≡ Some b → GoesAgain k t b
        at_test true same = let known : lowest.batch ≡ b = cc in record { lowest = lowest; waits = is; batch = known; after_is = ap (by_waiting k t) is }
        at_test false same = absurd cc

    at_fence : (fence : Bool) → (if fence then None else by_lowest c f now t (lowest_waiting t)) ≡ Some b → GoesAgain k t b ⊎ GoesFirst k c t b
    at_fence true e' = absurd cc
    at_fence false e' = at_lowest (lowest_waiting t) refl e'

-- ---- a partition once a request has gone out

-- What is sent for it was handed over.
record Agreed (most p : ℕ) (ids : List ℕ) (e : Bool) (next : ℕ) (t t' : Partition) (handed handed' : List HandedBatch) (h : History) (packets : List Packet) (replies : List Reply) (o : Packet) : Type 0 where
  pub agrees : PartAgrees most p ids e (next + 1) t' handed' h (packets ++ o ∷ []) replies
  pub more : (c : HandedBatch) → In c handed → In c handed'
  pub known : (c : HandedBatch) → Carries p c o.demand → In c handed'
  pub same_ids : t'.ids ≡ t.ids

agreed_again : {most : ℕ} (p : ℕ) (ids : List ℕ) (e : Bool) (next : ℕ) (t : Partition) (handed : List HandedBatch) (h : History) (packets : List Packet) (replies : List Reply) (o : Packet) (b : HandedBatch)
    → Sound ids t handed h → Steady most p e next t handed h packets replies → ((x : Packet) → In x packets → x.correlation < next) → o.correlation ≡ next → Says p b o.demand → GoesAgain next t b
    → Agreed most p ids e next t (send_in next t) handed (grown_by b handed) h packets replies o
agreed_again {most = most} p ids e next t handed h packets replies o b s k below named says a =
    subst (λ (bs : List HandedBatch). Agreed most p ids e next t (send_in next t) handed bs h packets replies o) (sym (grown_known b handed (s.numbers b known)))
    (subst (λ (u : Partition). Agreed most p ids e next t u handed handed h packets replies o) (sym a.after_is) (record {
      agrees = record {
        sound = sound_kept ids t (sent_again_in next t) handed h s (record { number = refl; sequence = refl; ids = refl; opens = λ bs all. opens_again next bs t.open_batches all; queue = λ q. q });
        steady = steady_again p next e t handed h packets replies o a.lowest k below named a.waits (subst (λ (c : HandedBatch). Says p c o.demand) (sym a.batch) says);
      };
      more = λ c i. i;
      same_ids = refl;
      known = λ c carries. subst (λ (x : HandedBatch). In x handed) (sym (says_same p b c o.demand says carries)) known;
    }))
  where
    known : In b handed
    known = subst (λ (c : HandedBatch). In c handed) a.batch (find_open handed t.open_batches a.lowest a.waits s.opens)

agreed_first : {most : ℕ} (p : ℕ) (ids : List ℕ) (c : Config) (e : Bool) (next : ℕ) (t : Partition) (handed : List HandedBatch) (h : History) (packets : List Packet) (replies : List Reply) (o : Packet) (b : HandedBatch)
    → c.max_in_flight_requests_per_connection ≤ most → 0 < most → Sound ids t handed h → Steady most p e next t handed h packets replies → ((x : Packet) → In x packets → x.correlation < next) → o.correlation ≡ next → Says p b o.demand → GoesFirst next c t b
    → Agreed most p ids e next t (send_in next t) handed (grown_by b handed) h packets replies o
unfolding hand_over_in
agreed_first {most = most} p ids c e next t handed h packets replies o b few some s k below named says a =
    subst (λ (bs : List HandedBatch). Agreed most p ids e next t (send_in next t) handed bs h packets replies o) (sym grown)
    (subst (λ (u : Partition). Agreed most p ids e next t u handed (handed ++ b ∷ []) h packets replies o) (sym a.after_is) (record {
      agrees = subst (λ (x : HandedBatch). PartAgrees most p ids e (next + 1) (hand_over_in next t (a.front ∷ a.queue)) (handed ++ x ∷ []) h (packets ++ o ∷ []) replies) (sym a.batch) (record {
        sound = sound_handed ids t handed h next a.front a.queue s a.queue_is;
        steady = steady_handed p next ids c e t handed h packets replies o a.front a.queue few some s k below named a.confirmed a.in_span (subst (λ (x : HandedBatch). Says p x o.demand) a.batch says);
      });
      more = λ x i. In-append_left x handed (b ∷ []) i;
      same_ids = refl;
      known = λ c carries. subst (λ (x : HandedBatch). In x (handed ++ b ∷ [])) (sym (says_same p b c o.demand says carries)) (In-append_right b handed (b ∷ []) (In-head b []));
    }))
  where
    grown : grown_by b handed ≡ handed ++ b ∷ []
    grown = grown_new b handed (ap (λ (x : HandedBatch). x.number) a.batch ∙ s.number)

-- ---- all partitions

abbrev packet : Core → Demand Sending → Packet
packet s d = record { correlation = s.correlation; demand = d }

-- the request with these batches, as it is remembered
abbrev produced : ℕ → ℕ → Core → List Sending → Request
produced node now s xs = record { correlation = s.correlation; node = node; sent = now; demand = Produce (partitions_in xs) }

not_asking : (q : Request) → asks_for_id q ≡ true → asks_for_id q ≡ false → ⊥
not_asking q a b = let both : true ≡ false = sym a ∙ b in cc

-- the request for an id
abbrev asking : ℕ → ℕ → Core → ℕ → Request
asking node now s p = record { correlation = s.correlation; node = node; sent = now; demand = InitProducerId p }

lawful_batches : {most : ℕ} (n node now : ℕ) (s : Core) (logs : List History) (handed : List (List HandedBatch)) (packets : List Packet) (replies : List Reply) (ids : List ℕ) (xs : List Sending)
    → Lawful most n s logs handed packets replies ids → AllByRecursion (IsSent now s) xs
    → Lawful most n (sent_out node now s (Produce xs)) logs (with_sendings xs handed) (packets ++ packet s (Produce xs) ∷ []) replies ids
lawful_batches {most = most} n node now s logs handed packets replies ids xs g all = record {
  count = length-changed_at (partitions_in xs) (λ p t. send_in s.correlation t) s.partitions ∙ g.count;
  handed_count = length-with_sendings xs handed ∙ g.handed_count;
  logs_count = g.logs_count;
  window = g.window;
  some = g.some;
  agree = λ p h. (at p h).agrees;
  went = λ o i. ⊎_elim (λ (j : In o packets). earlier o (g.went o j)) (λ (same : o ≡ packet s (Produce xs)). subst (Went n (with_sendings xs handed) (sent_out node now s (Produce xs))) (sym same) newest) (one_more packets (packet s (Produce xs)) o i);
  gave = λ r i. let w = g.gave r i in record {
    before = let b : r.correlation < s.correlation = w.before in omega arith;
    answers = w.answers;
    drawn = w.drawn;
    spare = λ id q e a x c p h j. ⊎_elim
        (λ (there : In q s.requests). w.spare id q e there x c p h (subst (λ (is : List ℕ). In id is) (at p h).same_ids j))
        (λ (same : q ≡ produced node now s xs). absurd (not_asking q x (ap (λ (y : Request). asks_for_id y) same))) (one_more s.requests (produced node now s xs) q a);
  };
  asked = λ q i. ⊎_elim (λ (there : In q s.requests). let b : q.correlation < s.correlation = g.asked q there in omega (arith, b))
      (λ (same : q ≡ produced node now s xs). let k : q.correlation ≡ s.correlation = ap (λ (y : Request). y.correlation) same in omega (arith, k)) (one_more s.requests (produced node now s xs) q i);
}
  where
    below : (x : Packet) → In x packets → x.correlation < s.correlation
    below x i = (g.went x i).before

    within : (p : ℕ) → p < n → p < length s.partitions
    within p h = subst (λ (m : ℕ). p < m) (sym g.count) h

    at : (p : ℕ) → p < n
        → Agreed most p ids s.ended s.correlation (partition_at p s.partitions) (partition_at p (sent_out node now s (Produce xs)).partitions) (handed_at p handed) (handed_at p (with_sendings xs handed)) (log_at p logs) packets replies (packet s (Produce xs))
    at p h = at_sent_out (λ (u : Partition) (hs : List HandedBatch). Agreed most p ids s.ended s.correlation (partition_at p s.partitions) u (handed_at p handed) hs (log_at p logs) packets replies (packet s (Produce xs))) node now s xs handed p all (g.count ∙ sym g.handed_count) (within p h) (record { passed_by = passed_by; sent = sent })
      where
        mine : Agrees most n ids s handed logs packets replies p
        mine = g.agree p h

        passed_by : is_in p (partitions_in xs) ≡ false → Agreed most p ids s.ended s.correlation (partition_at p s.partitions) (partition_at p s.partitions) (handed_at p handed) (handed_at p handed) (log_at p logs) packets replies (packet s (Produce xs))
        passed_by is = record {
          agrees = record { sound = mine.sound; steady = steady_passed_by p s.correlation s.ended (partition_at p s.partitions) (handed_at p handed) (log_at p logs) packets replies (packet s (Produce xs)) mine.steady refl };
          more = λ c i. i;
          known = λ c carries. absurd (not_in_request xs p is carries.0 carries.1 carries.2);
          same_ids = refl;
        }

        sent : (b : HandedBatch) → sends s.config (flags_of s) now (partition_at p s.partitions) ≡ Some b → Only p b xs
            → Agreed most p ids s.ended s.correlation (partition_at p s.partitions) (send_in s.correlation (partition_at p s.partitions)) (handed_at p handed) (grown_by b (handed_at p handed)) (log_at p logs) packets replies (packet s (Produce xs))
        sent b goes only =
            let says : Says p b (Produce xs) = λ y j e. all_at (λ (z : Sending). z.partition ≡ p → z.batch ≡ b) xs y only j e in
            ⊎_elim
            (λ (a : GoesAgain s.correlation (partition_at p s.partitions) b). agreed_again p ids s.ended s.correlation (partition_at p s.partitions) (handed_at p handed) (log_at p logs) packets replies (packet s (Produce xs)) b mine.sound mine.steady below refl says a)
            (λ (a : GoesFirst s.correlation s.config (partition_at p s.partitions) b). agreed_first p ids s.config s.ended s.correlation (partition_at p s.partitions) (handed_at p handed) (log_at p logs) packets replies (packet s (Produce xs)) b g.window g.some mine.sound mine.steady below refl says a)
            (sends_cases s.config (flags_of s) now s.correlation (partition_at p s.partitions) b goes)

    more_parts : (d : Demand Sending) → PartsIn n handed d → PartsIn n (with_sendings xs handed) d
    more_parts (Produce ys) h = all_weaker (λ (x : Sending). (x.partition < n) × In x.batch (handed_at x.partition handed)) (λ (x : Sending). (x.partition < n) × In x.batch (handed_at x.partition (with_sendings xs handed))) (λ x k. (k.0, (at x.partition k.0).more x.batch k.1)) ys h
    more_parts (InitProducerId p) h = tt

    earlier : (o : Packet) → Went n handed s o → Went n (with_sendings xs handed) (sent_out node now s (Produce xs)) o
    earlier o w = record { before = let b : o.correlation < s.correlation = w.before in omega arith; parts = more_parts o.demand w.parts }

    newest : Went n (with_sendings xs handed) (sent_out node now s (Produce xs)) (packet s (Produce xs))
    newest = record {
      before = omega arith;
      parts = all_in (λ (x : Sending). (x.partition < n) × In x.batch (handed_at x.partition (with_sendings xs handed))) xs (λ x i. let h : x.partition < n = subst (λ (m : ℕ). x.partition < m) g.count (all_at (IsSent now s) xs x all i).there in (h, (at x.partition h).known x.batch (x, i, refl, refl)));
    }

lawful_id : {most : ℕ} (n node now : ℕ) (s : Core) (logs : List History) (handed : List (List HandedBatch)) (packets : List Packet) (replies : List Reply) (ids : List ℕ) (p : ℕ)
    → Lawful most n s logs handed packets replies ids
    → Lawful most n (sent_out node now s (InitProducerId p)) logs handed (packets ++ packet s (InitProducerId p) ∷ []) replies ids
lawful_id n node now s logs handed packets replies ids p g = record {
  count = g.count;
  handed_count = g.handed_count;
  logs_count = g.logs_count;
  window = g.window;
  some = g.some;
  agree = λ q h. record {
    sound = (g.agree q h).sound;
    steady = steady_passed_by q s.correlation s.ended (partition_at q s.partitions) (handed_at q handed) (log_at q logs) packets replies (packet s (InitProducerId p)) (g.agree q h).steady refl;
  };
  went = λ o i. ⊎_elim (λ (j : In o packets). let w = g.went o j in record { before = let b : o.correlation < s.correlation = w.before in omega arith; parts = w.parts }) (λ (same : o ≡ packet s (InitProducerId p)). subst (Went n handed (sent_out node now s (InitProducerId p))) (sym same) (record { before = omega arith; parts = tt })) (one_more packets (packet s (InitProducerId p)) o i);
  gave = λ r i. let w = g.gave r i in record {
    before = let b : r.correlation < s.correlation = w.before in omega arith;
    answers = w.answers;
    drawn = w.drawn;
    spare = λ id q e a x c p' h at. ⊎_elim
        (λ (there : In q s.requests). w.spare id q e there x c p' h at)
        (λ (same : q ≡ asking node now s p).
        let b : r.correlation < s.correlation = w.before in
        let k : q.correlation ≡ s.correlation = ap (λ (y : Request). y.correlation) same in
        absurd (omega (arith, b, k, c))) (one_more s.requests (asking node now s p) q a);
  };
  asked = λ q i. ⊎_elim (λ (there : In q s.requests). let b : q.correlation < s.correlation = g.asked q there in omega (arith, b))
      (λ (same : q ≡ asking node now s p). let k : q.correlation ≡ s.correlation = ap (λ (y : Request). y.correlation) same in omega (arith, k)) (one_more s.requests (asking node now s p) q i);
}

pub lawful_sending : {most : ℕ} (n node : ℕ) (w : World) → IsLawfulWithin most n w → IsLawfulWithin most n (sending w (request_step node w.moment w.core).after (request_step node w.moment w.core).answer)
unfolding noted
lawful_sending {most = most} n node w g =
    at_request (λ (r : Requested). IsLawfulWithin most n (sending w r.after r.answer)) node w.moment w.core (record { ended = g; idle = g; spent = g; out = λ going d e unspent. out d e })
  where
    out : (d : Demand Sending) → next_demand node w.moment w.core ≡ Some d → IsLawfulWithin most n (sending w (go_out node w.moment w.core d).after (go_out node w.moment w.core d).answer)
    out (Produce xs) e = lawful_batches n node w.moment w.core w.logs w.handed w.packets w.replies w.ids xs g (demand_is_sent node w.moment w.core xs e)
    out (InitProducerId p) e = lawful_id n node w.moment w.core w.logs w.handed w.packets w.replies w.ids p g
