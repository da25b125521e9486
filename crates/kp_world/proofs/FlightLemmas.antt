-- A partition's open batches, the packets and replies that have something for it, and its log: they
-- agree, whatever happens.
use Rattle.std.proofs.Common.{◌≡◌, ◌⊎◌, ℕ, ◌+◌, ◌-◌, ◌<◌, ◌≤◌, Bool, true, false, cond, List, [], ◌∷◌, ◌++◌, length, Some, refl, sym, ap, ◌∙◌, subst, inl, inr, ⊎_elim, arith, length-append}
use Rattle.std.specs.Prelude.{find, if◌then◌else◌}
use Rattle.std.proofs.lemmas.Bool.{ltb-true}
use Rattle.kp_accum.specs.declared.config.Config.{Config}
use Rattle.kp_accum.specs.Queue.{Pending}
use Rattle.kp_log.specs.declared.stored.Stored.{Stored}
use Rattle.kp_log.specs.BrokerStep.{Answered, Stands, NO_ERROR, DUPLICATE_SEQUENCE_NUMBER}
use Rattle.kp_log.specs.HandedOver.{IsStored}
use Rattle.kp_log.specs.History.{History, empty_history}
use Rattle.kp_log.proofs.OffsetLemmas.{stands_still, stored_still}
use Rattle.kp_log.proofs.PlaceLemmas.{In, In-nil, In-cons, In-head, In-tail, In-append_left, In-append_right}
use Rattle.kp_rules.proofs.SendingLemmas.{all_again}
use Rattle.kp_rules.specs.Replies.{go_on_under}
use Rattle.kp_rules.specs.declared.attempt.Attempt.TheVariants.{InFlight}
use Rattle.kp_rules.specs.Attempts.{is_waiting, lowest_waiting}
use Rattle.kp_rules.specs.HandingOver.{again_in, send_again_in, opened_in, hand_over_in}
use Rattle.kp_rules.specs.MaySend.{is_confirmed, is_in_span, new_batch}
use Rattle.kp_rules.specs.Next.{Sending}
use Rattle.kp_rules.specs.Partitions.{new_partition, present_id}
use Rattle.kp_rules.specs.Records.{Demand, Produce, InitProducerId, HandedBatch, Open, Partition}
use Rattle.kp_rules.specs.Requesting.{Packet}
use Rattle.kp_world.specs.Message.{sent_of}
use Rattle.kp_world.specs.World.{PartAnswer, ReplyContent, Batches, Id, Reply}
use Rattle.kp_world.proofs.LeavingLemmas.{Rising, CameFrom, IsOpen, Leaves}
use Rattle.kp_world.proofs.PrefixLemmas.{Cut, Grown, cut_empty, cut_kept, cut_handed, cut_fresh, stored_landed}
use Rattle.kp_world.proofs.SoundLemmas.{Sound}
use Rattle.kp_world.proofs.ListLemmas.{all_at, one_more}
use Rattle.kp_wire.proofs.ListLemmas.{all_append}

-- ---- packets

-- what is sent for this partition, if anything, is this batch
abbrev pub Says : ℕ → HandedBatch → Demand Sending → Type 0
Says p b (Produce xs) = (x : Sending) → In x xs → x.partition ≡ p → x.batch ≡ b
Says p b (InitProducerId q) = Unit {0}

abbrev pub Carries : ℕ → HandedBatch → Demand Sending → Type 0
Carries p b (Produce xs) = (x : Sending) × In x xs × (x.partition ≡ p) × (x.batch ≡ b)
Carries p b (InitProducerId q) = ⊥

pub says_same : (p : ℕ) (b c : HandedBatch) (d : Demand Sending) → Says p b d → Carries p c d → c ≡ b
says_same p b c (Produce xs) says carries =
    sym carries.3 ∙ says carries.0 carries.1 carries.2
says_same p b c (InitProducerId q) says carries = absurd carries

-- the packet with this correlation id went out, and has this batch
pub record Carried (p k : ℕ) (packets : List Packet) (b : HandedBatch) : Type 0 where
  pub packet : Packet
  pub sent : In packet packets
  pub named : packet.correlation ≡ k
  pub carries : Carries p b packet.demand

-- a batch in flight: what went out with this correlation id is it
pub record Flies (p next k : ℕ) (packets : List Packet) (b : HandedBatch) : Type 0 where
  pub before : k < next
  pub says : (o : Packet) → In o packets → o.correlation ≡ k → Says p b o.demand

pub flies_same : (p next k : ℕ) (packets : List Packet) (b c : HandedBatch) → Flies p next k packets b → Carried p k packets c → c ≡ b
flies_same p next k packets b c f x =
    says_same p b c x.packet.demand (f.says x.packet x.sent x.named) x.carries

-- ---- open batches

-- an open batch of a partition with this present id, for which so many batches were handed over: it is near the last
pub record Aloft (most p id count next : ℕ) (packets : List Packet) (o : Open) : Type 0 where
  pub current : o.batch.id ≡ id
  pub near : count ≤ o.batch.number + most
  pub flies : (k : ℕ) → o.attempt ≡ InFlight k → Flies p next k packets o.batch

-- ---- replies

-- the batch to which this was answered: it stands where the answer says; or it is called a duplicate, and then it is stored
-- and five later ones were handed over
pub record PartHolds (p count k : ℕ) (packets : List Packet) (records : List Stored) (a : Answered) : Type 0 where
  pub batch : HandedBatch
  pub carried : Carried p k packets batch
  pub stored : a.code ≡ NO_ERROR → Stands records (sent_of batch) a.base
  pub kept : a.code ≡ DUPLICATE_SEQUENCE_NUMBER → IsStored records (sent_of batch)
  pub old : a.code ≡ DUPLICATE_SEQUENCE_NUMBER → batch.number + 6 ≤ count

abbrev pub ContentHolds : ℕ → ℕ → ℕ → List Packet → List Stored → ReplyContent → Type 0
ContentHolds p count k packets records (Batches parts) = (a : PartAnswer) → In a parts → a.partition ≡ p → PartHolds p count k packets records a.answer
ContentHolds p count k packets records (Id code id) = Unit {0}

-- ---- all of a partition

-- Of partition p, with the next correlation id, and all packets and replies.
pub record Steady (most p : ℕ) (ended : Bool) (next : ℕ) (t : Partition) (handed : List HandedBatch) (h : History) (packets : List Packet) (replies : List Reply) : Type 0 where
  pub cut : Cut t handed h
  pub rising : Rising t.open_batches
  pub aloft : (o : Open) → In o t.open_batches → Aloft most p (present_id t) (length handed) next packets o
  pub waiting : ended ≡ false → t.fenced ≡ false → (b : HandedBatch) → In b handed → IsStored h.records (sent_of b) ⊎ IsOpen t.open_batches b
  pub heard : (r : Reply) → In r replies → ContentHolds p (length handed) r.correlation packets h.records r.content

pub steady_new : {most : ℕ} (p next id : ℕ) → Steady most p false next (new_partition id) [] empty_history [] []
steady_new p next id = record {
  cut = cut_empty id;
  rising = tt;
  aloft = λ o i. absurd (In-nil o i);
  waiting = λ e f b i. absurd (In-nil b i);
  heard = λ r i. absurd (In-nil r i);
}

-- ---- a call of the core that acknowledges only what is stored

pub steady_kept : {most : ℕ} (p next : ℕ) (ids : List ℕ) (e e' : Bool) (t t' : Partition) (handed : List HandedBatch) (h : History) (packets : List Packet) (replies : List Reply) → Sound ids t handed h → Steady most p e next t handed h packets replies
    → (e' ≡ false → e ≡ false) → Leaves (λ b. IsStored h.records (sent_of b)) e' t t' → Steady most p e' next t' handed h packets replies
steady_kept {most = most} p next ids e e' t t' handed h packets replies s k ended l = record {
  cut = cut_kept ids t t' handed h e' s k.cut l;
  rising = l.rises k.rising;
  aloft = λ o i. aloft o (l.opens o i);
  waiting = λ g f b i. ⊎_elim (λ (stored : IsStored h.records (sent_of b)). inl stored) (λ (x : IsOpen t.open_batches b). still g f b x) (k.waiting (ended g) (l.fence f) b i);
  heard = k.heard;
}
  where
    present : present_id t ≡ present_id t'
    present = rw l.keeps.ids refl

    aloft : (o : Open) → CameFrom t.open_batches o → Aloft most p (present_id t') (length handed) next packets o
    aloft o c =
        let a : Aloft most p (present_id t) (length handed) next packets c.it = k.aloft c.it c.there in record {
          current = ap (λ (b : HandedBatch). b.id) c.batch ∙ a.current ∙ present;
          near = subst (λ (b : HandedBatch). length handed ≤ b.number + most) (sym c.batch) a.near;
          flies = λ q f. subst (Flies p next q packets) (sym c.batch) (a.flies q (c.flight q f));
        }

    still : e' ≡ false → t'.fenced ≡ false → (b : HandedBatch) → IsOpen t.open_batches b → IsStored h.records (sent_of b) ⊎ IsOpen t'.open_batches b
    still g f b x = subst (λ (c : HandedBatch). IsStored h.records (sent_of c) ⊎ IsOpen t'.open_batches c) x.batch (l.stays g f x.it x.there)

-- ---- one packet more

carried_more : (p k : ℕ) (packets : List Packet) (o : Packet) (b : HandedBatch) → Carried p k packets b → Carried p k (packets ++ o ∷ []) b
carried_more p k packets o b c = record { packet = c.packet; sent = In-append_left c.packet packets (o ∷ []) c.sent; named = c.named; carries = c.carries }

-- what was in flight before is not named by the new packet
flies_more : (p next k : ℕ) (packets : List Packet) (o : Packet) (b : HandedBatch) → o.correlation ≡ next → Flies p next k packets b → Flies p (next + 1) k (packets ++ o ∷ []) b
flies_more p next k packets o b named f = record {
  before = let below : k < next = f.before in omega arith;
  says = λ x i e. ⊎_elim (λ (j : In x packets). f.says x j e) (λ (same : x ≡ o). absurd (let below : k < next = f.before in let at : x.correlation ≡ o.correlation = ap (λ (y : Packet). y.correlation) same in omega arith)) (one_more packets o x i);
}

-- the batch that the new packet has is in flight in it
flies_newest : (p next : ℕ) (packets : List Packet) (o : Packet) (b : HandedBatch) → ((x : Packet) → In x packets → x.correlation < next) → o.correlation ≡ next → Says p b o.demand → Flies p (next + 1) next (packets ++ o ∷ []) b
flies_newest p next packets o b below named says = record {
  before = omega arith;
  says = λ x i e. ⊎_elim (λ (j : In x packets). absurd (let less : x.correlation < next = below x j in omega arith)) (λ (same : x ≡ o). subst (λ (y : Packet). Says p b y.demand) (sym same) says) (one_more packets o x i);
}

content_more : (p count count' k : ℕ) (packets : List Packet) (o : Packet) (records : List Stored) (c : ReplyContent) → count ≤ count' → ContentHolds p count k packets records c → ContentHolds p count' k (packets ++ o ∷ []) records c
content_more p count count' k packets o records (Batches parts) more h = λ a i e.
    let x : PartHolds p count k packets records a.answer = h a i e in
    record { batch = x.batch; carried = carried_more p k packets o x.batch x.carried; stored = x.stored; kept = x.kept; old = λ d. let old : x.batch.number + 6 ≤ count = x.old d in omega arith }
content_more p count count' k packets o records (Id code id) more h = tt

-- nothing is in it for this partition, or an open batch is
aloft_more : {most : ℕ} (p id count count' next : ℕ) (packets : List Packet) (o : Packet) (x : Open) → o.correlation ≡ next → count' ≤ x.batch.number + most → Aloft most p id count next packets x → Aloft most p id count' (next + 1) (packets ++ o ∷ []) x
aloft_more p id count count' next packets o x named near a = record { current = a.current; near = near; flies = λ k f. flies_more p next k packets o x.batch named (a.flies k f) }

pub steady_passed_by : {most : ℕ} (p next : ℕ) (e : Bool) (t : Partition) (handed : List HandedBatch) (h : History) (packets : List Packet) (replies : List Reply) (o : Packet) → Steady most p e next t handed h packets replies → o.correlation ≡ next
    → Steady most p e (next + 1) t handed h (packets ++ o ∷ []) replies
steady_passed_by p next e t handed h packets replies o k named = record {
  cut = k.cut;
  rising = k.rising;
  aloft = λ x i. let a = k.aloft x i in aloft_more p (present_id t) (length handed) (length handed) next packets o x named a.near a;
  waiting = k.waiting;
  heard = λ r i. content_more p (length handed) (length handed) r.correlation packets o h.records r.content (omega arith) (k.heard r i);
}

-- ---- an open batch goes out again

-- what is open then: the batch that goes out, and the others as they were
pub record SentAgain (k : ℕ) (os : List Open) (lowest x : Open) : Type 0 where
  pub it : Open
  pub there : In it os
  pub batch : x.batch ≡ it.batch
  pub attempt : (x.attempt ≡ it.attempt) ⊎ ((x.batch ≡ lowest.batch) × (x.attempt ≡ InFlight k))

again_from : (k : ℕ) (os : List Open) (lowest : Open) → find is_waiting os ≡ Some lowest → (x : Open) → In x (send_again_in k os) → SentAgain k os lowest x
unfolding send_again_in
again_from k [] lowest e x i = absurd cc
again_from k (y ∷ os) lowest e x i = at_test (is_waiting y) e i (λ (e' : find is_waiting os ≡ Some lowest) (j : In x (send_again_in k os)). again_from k os lowest e' x j)
  where
    behind : In x os → SentAgain k (y ∷ os) lowest x
    behind j = record { it = x; there = In-tail x y os j; batch = refl; attempt = inl refl }

    at_test : (b : Bool) → cond b (Some y) (find is_waiting os) ≡ Some lowest → In x (if b then again_in k y ∷ os else y ∷ send_again_in k os)
        → (find is_waiting os ≡ Some lowest → In x (send_again_in k os) → SentAgain k os lowest x) → SentAgain k (y ∷ os) lowest x
    at_test true e' j later =
        let same : y ≡ lowest = cc in
        ⊎_elim
        (λ (is : x ≡ again_in k y). record { it = y; there = In-head y os; batch = ap (λ (z : Open). z.batch) is; attempt = inr (ap (λ (z : Open). z.batch) is ∙ ap (λ (z : Open). z.batch) same, ap (λ (z : Open). z.attempt) is) })
        (λ (l : In x os). behind l)
        (In-cons x (again_in k y) os j)
    at_test false e' j later =
        ⊎_elim
        (λ (is : x ≡ y). record { it = y; there = In-head y os; batch = ap (λ (z : Open). z.batch) is; attempt = inl (ap (λ (z : Open). z.attempt) is) })
        (λ (l : In x (send_again_in k os)). let m = later e' l in record { it = m.it; there = In-tail m.it y os m.there; batch = m.batch; attempt = m.attempt })
        (In-cons x y (send_again_in k os) j)

again_open : (k : ℕ) (os : List Open) (b : HandedBatch) → IsOpen os b → IsOpen (send_again_in k os) b
unfolding send_again_in
again_open k [] b x = absurd (In-nil x.it x.there)
again_open k (y ∷ os) b x = at_test (is_waiting y) (λ (z : IsOpen os b). again_open k os b z)
  where
    at_test : (w : Bool) → (IsOpen os b → IsOpen (send_again_in k os) b) → IsOpen (if w then again_in k y ∷ os else y ∷ send_again_in k os) b
    at_test true later =
        ⊎_elim
        (λ (is : x.it ≡ y). record { it = again_in k y; there = In-head (again_in k y) os; batch = ap (λ (z : Open). z.batch) (sym is) ∙ x.batch })
        (λ (l : In x.it os). record { it = x.it; there = In-tail x.it (again_in k y) os l; batch = x.batch })
        (In-cons x.it y os x.there)
    at_test false later =
        ⊎_elim
        (λ (is : x.it ≡ y). record { it = y; there = In-head y (send_again_in k os); batch = ap (λ (z : Open). z.batch) (sym is) ∙ x.batch })
        (λ (l : In x.it os). let m = later (record { it = x.it; there = l; batch = x.batch }) in record { it = m.it; there = In-tail m.it y (send_again_in k os) m.there; batch = m.batch })
        (In-cons x.it y os x.there)

rising_again : (k : ℕ) (os : List Open) → Rising os → Rising (send_again_in k os)
unfolding send_again_in
rising_again k [] r = tt
rising_again k (y ∷ os) r = at_test (is_waiting y) (rising_again k os r.1)
  where
    at_test : (w : Bool) → Rising (send_again_in k os) → Rising (if w then again_in k y ∷ os else y ∷ send_again_in k os)
    at_test true rest = r
    at_test false rest = (all_again (λ (b : HandedBatch). y.batch.number < b.number) k os r.0, rest)

-- the partition once its lowest batch that waits went out again
abbrev pub sent_again_in : ℕ → Partition → Partition
sent_again_in k t = record t { open_batches = send_again_in k t.open_batches; attempts_sent = t.attempts_sent + 1 }

pub steady_again : {most : ℕ} (p next : ℕ) (e : Bool) (t : Partition) (handed : List HandedBatch) (h : History) (packets : List Packet) (replies : List Reply) (o : Packet) (lowest : Open)
    → Steady most p e next t handed h packets replies → ((x : Packet) → In x packets → x.correlation < next) → o.correlation ≡ next → lowest_waiting t ≡ Some lowest → Says p lowest.batch o.demand
    → Steady most p e (next + 1) (sent_again_in next t) handed h (packets ++ o ∷ []) replies
steady_again {most = most} p next e t handed h packets replies o lowest k below named is says = record {
  cut = record { landed = k.cut.landed; rest = k.cut.rest; split = k.cut.split; appended = k.cut.appended; owned = k.cut.owned; places = k.cut.places; current = k.cut.current; first = k.cut.first; heard = k.cut.heard };
  rising = rising_again next t.open_batches k.rising;
  aloft = λ x i. aloft x (again_from next t.open_batches lowest is x i);
  waiting = λ g f b i. ⊎_elim (λ (stored : IsStored h.records (sent_of b)). inl stored) (λ (x : IsOpen t.open_batches b). inr (again_open next t.open_batches b x)) (k.waiting g f b i);
  heard = λ r i. content_more p (length handed) (length handed) r.correlation packets o h.records r.content (omega arith) (k.heard r i);
}
  where
    in_flight : (x : Open) (q : ℕ) → x.batch ≡ lowest.batch → x.attempt ≡ InFlight next → x.attempt ≡ InFlight q → Flies p (next + 1) q (packets ++ o ∷ []) x.batch
    in_flight x q b a f =
        let same : next ≡ q = cc in
        subst (λ (n : ℕ). Flies p (next + 1) n (packets ++ o ∷ []) x.batch) same (subst (Flies p (next + 1) next (packets ++ o ∷ [])) (sym b) (flies_newest p next packets o lowest.batch below named says))

    aloft : (x : Open) → SentAgain next t.open_batches lowest x → Aloft most p (present_id t) (length handed) (next + 1) (packets ++ o ∷ []) x
    aloft x s =
        let a : Aloft most p (present_id t) (length handed) next packets s.it = k.aloft s.it s.there in record {
          current = ap (λ (b : HandedBatch). b.id) s.batch ∙ a.current;
          near = subst (λ (b : HandedBatch). length handed ≤ b.number + most) (sym s.batch) a.near;
          flies = λ q f. ⊎_elim
              (λ (same : x.attempt ≡ s.it.attempt). subst (Flies p (next + 1) q (packets ++ o ∷ [])) (sym s.batch) (flies_more p next q packets o s.it.batch named (a.flies q (sym same ∙ f))))
              (λ (newest : (x.batch ≡ lowest.batch) × (x.attempt ≡ InFlight next)). in_flight x q newest.0 newest.1 f)
              s.attempt;
        }

-- ---- the front batch is handed over

-- if any is open, the first is one of the last so many
abbrev LowestIsNear : ℕ → ℕ → List Open → Type 0
LowestIsNear most count [] = Unit {0}
LowestIsNear most count (o ∷ os) = count - o.batch.number < most

near_all : (span most count : ℕ) (os : List Open) → span ≤ most → Rising os → LowestIsNear span count os → (x : Open) → In x os → count + 1 ≤ x.batch.number + most
near_all span most count [] few r near x i = absurd (In-nil x i)
near_all span most count (o ∷ os) few r near x i =
    ⊎_elim
    (λ (same : x ≡ o). let n : x.batch.number ≡ o.batch.number = ap (λ (y : Open). y.batch.number) same in omega (arith, near, n))
    (λ (j : In x os). let n : o.batch.number < x.batch.number = all_at (λ (y : Open). o.batch.number < y.batch.number) os x r.0 j in omega (arith, near, n))
    (In-cons x o os i)

lowest_is_near : (c : Config) (count : ℕ) (os : List Open) → is_in_span c count os ≡ true → LowestIsNear c.max_in_flight_requests_per_connection count os
unfolding is_in_span
lowest_is_near c count [] e = tt
lowest_is_near c count (o ∷ os) e = ltb-true (count - o.batch.number) c.max_in_flight_requests_per_connection e

rising_last : (os : List Open) (o : Open) → Rising os → ((x : Open) → In x os → x.batch.number < o.batch.number) → Rising (os ++ o ∷ [])
rising_last [] o r below = (tt, tt)
rising_last (y ∷ os) o r below =
    (all_append (λ (x : Open). y.batch.number < x.batch.number) os (o ∷ []) r.0 (below y (In-head y os), tt), rising_last os o r.1 (λ x i. below x (In-tail x y os i)))

open_more : (os : List Open) (o : Open) (b : HandedBatch) → IsOpen os b → IsOpen (os ++ o ∷ []) b
open_more os o b x = record { it = x.it; there = In-append_left x.it os (o ∷ []) x.there; batch = x.batch }

pub steady_handed : {most : ℕ} (p next : ℕ) (ids : List ℕ) (c : Config) (e : Bool) (t : Partition) (handed : List HandedBatch) (h : History) (packets : List Packet) (replies : List Reply) (o : Packet) (front : Pending) (queue : List Pending)
    → c.max_in_flight_requests_per_connection ≤ most → 0 < most → Sound ids t handed h → Steady most p e next t handed h packets replies → ((x : Packet) → In x packets → x.correlation < next) → o.correlation ≡ next
    → is_confirmed t ≡ true → is_in_span c t.next_number t.open_batches ≡ true → Says p (new_batch t front) o.demand
    → Steady most p e (next + 1) (hand_over_in next t (front ∷ queue)) (handed ++ new_batch t front ∷ []) h (packets ++ o ∷ []) replies
unfolding hand_over_in
steady_handed {most = most} p next ids c e t handed h packets replies o front queue few some s k below named first span says = record {
  cut = cut_handed ids t handed h next front queue s k.cut first;
  rising = rising_last t.open_batches new k.rising (λ x i. lower x (all_at (λ (y : Open). In y.batch handed) t.open_batches x s.opens i));
  aloft = λ x i. ⊎_elim (λ (j : In x t.open_batches). aloft_more p (present_id t) (length handed) (length (handed ++ new_batch t front ∷ [])) next packets o x named (near x j) (k.aloft x j)) (λ (same : x ≡ new). subst (Aloft most p (present_id t) (length (handed ++ new_batch t front ∷ [])) (next + 1) (packets ++ o ∷ [])) (sym same) newest) (one_more t.open_batches new x i);
  waiting = λ g f b i. ⊎_elim (λ (j : In b handed). ⊎_elim (λ (stored : IsStored h.records (sent_of b)). inl stored) (λ (x : IsOpen t.open_batches b). inr (open_more t.open_batches new b x)) (k.waiting g f b j)) (λ (same : b ≡ new_batch t front). inr (record { it = new; there = In-append_right new t.open_batches (new ∷ []) (In-head new []); batch = sym same })) (one_more handed (new_batch t front) b i);
  heard = λ r i. content_more p (length handed) (length (handed ++ new_batch t front ∷ [])) r.correlation packets o h.records r.content (omega (arith, long)) (k.heard r i);
}
  where
    new : Open
    new = opened_in next t front

    long : length (handed ++ new_batch t front ∷ []) ≡ length handed + 1
    long = length-append handed (new_batch t front ∷ [])

    number : t.next_number ≡ length handed
    number = s.number

    lower : (x : Open) → In x.batch handed → x.batch.number < t.next_number
    lower x i = let n : x.batch.number < length handed = s.numbers x.batch i in omega (arith, n, number)

    near : (x : Open) → In x t.open_batches → length (handed ++ new_batch t front ∷ []) ≤ x.batch.number + most
    near x i =
        let n : t.next_number + 1 ≤ x.batch.number + most = near_all c.max_in_flight_requests_per_connection most t.next_number t.open_batches few k.rising (lowest_is_near c t.next_number t.open_batches span) x i in
        omega (arith, n, number, long)

    flying : (q : ℕ) → InFlight next ≡ InFlight q → Flies p (next + 1) q (packets ++ o ∷ []) (new_batch t front)
    flying q f =
        let same : next ≡ q = cc in
        subst (λ (n : ℕ). Flies p (next + 1) n (packets ++ o ∷ []) (new_batch t front)) same (flies_newest p next packets o (new_batch t front) below named says)

    newest : Aloft most p (present_id t) (length (handed ++ new_batch t front ∷ [])) (next + 1) (packets ++ o ∷ []) (opened_in next t front)
    newest = record { current = refl; near = omega (arith, number, long, some); flies = flying }

-- ---- the log grows, and an answer is given

pub part_grown : (p count k : ℕ) (packets : List Packet) (records more : List Stored) (a : Answered) → PartHolds p count k packets records a → PartHolds p count k packets (records ++ more) a
part_grown p count k packets records more a x = record { batch = x.batch; carried = x.carried; stored = λ s. stands_still records more (sent_of x.batch) a.base (x.stored s); kept = λ d. stored_still records more (sent_of x.batch) (x.kept d); old = x.old }

content_grown : (p count k : ℕ) (packets : List Packet) (records more : List Stored) (c : ReplyContent) → ContentHolds p count k packets records c → ContentHolds p count k packets (records ++ more) c
content_grown p count k packets records more (Batches parts) h = λ a i e. part_grown p count k packets records more a.answer (h a i e)
content_grown p count k packets records more (Id code id) h = tt

pub steady_grown : {most : ℕ} (p next : ℕ) (e : Bool) (t : Partition) (handed : List HandedBatch) (h h' : History) (packets : List Packet) (replies : List Reply) → Steady most p e next t handed h packets replies → Grown t handed h h'
    → Steady most p e next t handed h' packets replies
steady_grown p next e t handed h h' packets replies k g = record {
  cut = g.cut;
  rising = k.rising;
  aloft = k.aloft;
  waiting = λ f u b i. ⊎_elim (λ (stored : IsStored h.records (sent_of b)). inl (subst (λ (rs : List Stored). IsStored rs (sent_of b)) (sym g.records) (stored_still h.records g.more (sent_of b) stored))) (λ (x : IsOpen t.open_batches b). inr x) (k.waiting f u b i);
  heard = λ r i. subst (λ (rs : List Stored). ContentHolds p (length handed) r.correlation packets rs r.content) (sym g.records) (content_grown p (length handed) r.correlation packets h.records g.more r.content (k.heard r i));
}

pub steady_replied : {most : ℕ} (p next : ℕ) (e : Bool) (t : Partition) (handed : List HandedBatch) (h : History) (packets : List Packet) (replies : List Reply) (r : Reply) → Steady most p e next t handed h packets replies
    → ContentHolds p (length handed) r.correlation packets h.records r.content → Steady most p e next t handed h packets (replies ++ r ∷ [])
steady_replied p next e t handed h packets replies r k c = record {
  cut = k.cut;
  rising = k.rising;
  aloft = k.aloft;
  waiting = k.waiting;
  heard = λ x i. ⊎_elim (λ (j : In x replies). k.heard x j) (λ (same : x ≡ r). subst (λ (y : Reply). ContentHolds p (length handed) y.correlation packets h.records y.content) (sym same) c) (one_more replies r x i);
}

-- ---- a fresh id

none_left : {most : ℕ} (ids : List ℕ) (t : Partition) (handed : List HandedBatch) (h : History) (p next : ℕ) (packets : List Packet) (replies : List Reply) → Sound ids t handed h → (k : Steady most p false next t handed h packets replies)
    → t.open_batches ≡ [] → t.fenced ≡ false → (rest : List HandedBatch) → k.cut.rest ≡ rest → k.cut.rest ≡ []
none_left ids t handed h p next packets replies s k none free [] e = e
none_left ids t handed h p next packets replies s k none free (b ∷ rest) e =
    absurd (⊎_elim
    (λ (stored : IsStored h.records (sent_of b)). stored_landed ids t handed h s k.cut b stored there)
    (λ (x : IsOpen t.open_batches b). In-nil x.it (subst (λ (os : List Open). In x.it os) none x.there))
    (k.waiting refl free b (subst (λ (bs : List HandedBatch). In b bs) (sym k.cut.split) (In-append_right b k.cut.landed k.cut.rest there))))
  where
    there : In b k.cut.rest
    there = subst (λ (bs : List HandedBatch). In b bs) (sym e) (In-head b rest)

pub steady_fresh : {most : ℕ} (ids : List ℕ) (t : Partition) (handed : List HandedBatch) (h : History) (p next id : ℕ) (packets : List Packet) (replies : List Reply) → Sound ids t handed h → Sound ids (go_on_under id t) handed h
    → Steady most p false next t handed h packets replies → t.open_batches ≡ [] → t.fenced ≡ false → Steady most p false next (go_on_under id t) handed h packets replies
steady_fresh ids t handed h p next id packets replies s s' k none free = record {
  cut = cut_fresh ids t handed h id s' k.cut (none_left ids t handed h p next packets replies s k none free k.cut.rest refl);
  rising = k.rising;
  aloft = λ o i. absurd (In-nil o (subst (λ (os : List Open). In o os) none i));
  waiting = k.waiting;
  heard = k.heard;
}
