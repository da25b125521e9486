-- What any honest broker does with a packet that went out: each partition, what was handed over for
-- it, and its log agree still, and what is answered is true of them.
use Rattle.std.proofs.Common.{◌≡◌, ℕ, suc, ◌+◌, ◌<◌, ◌≤◌, Bool, true, false, List, [], ◌∷◌, ◌++◌, length, pos, refl, sym, ap, ◌∙◌, subst, ⊎_elim, arith, length-append, append_assoc, not, eqb}
use Rattle.std.specs.Prelude.{◌==◌, slice_set}
use Rattle.std.proofs.lemmas.List.{length-set, length-map, get_or-set_same, get_or-set_other, map-append, append-nil}
use Rattle.std.proofs.lemmas.List.Concat.{flat_map-append}
use Rattle.std.proofs.lemmas.List.Elements.{All-contains}
use Rattle.std.proofs.lemmas.List.Filters.{length-filter_both}
use Rattle.std.proofs.lemmas.Bool.Decides.{eqb_tells}
use Rattle.kp_log.specs.declared.stored.Stored.{Stored}
use Rattle.kp_log.specs.BrokerStep.{Answered, MayAppend, IsOld, BrokerStep}
use Rattle.kp_log.specs.HandedOver.{Follows, AreInSequence, IsStored}
use Rattle.kp_log.specs.History.{Sent, History, stored_of, records_of, of_id, with_batch, empty_history}
use Rattle.kp_log.specs.Log.{count_of}
use Rattle.kp_log.proofs.LoopbackLemmas.{some_of}
use Rattle.kp_log.proofs.LogLemmas.{count_of-append, count_of_own}
use Rattle.kp_log.proofs.PlaceLemmas.{In, In-nil, In-cons, In-head, In-tail, cut_cases, contains_from_In}
use Rattle.kp_rules.specs.Next.{Sending}
use Rattle.kp_rules.specs.Partitions.{partition_at}
use Rattle.kp_rules.specs.Records.{HandedBatch, Partition, Core}
use Rattle.kp_rules.specs.Requesting.{Packet}
use Rattle.kp_world.specs.Client.{handed_at}
use Rattle.kp_world.specs.Delivering.{log_at, PartDelivers, PartsDeliver}
use Rattle.kp_world.specs.Message.{sent_of}
use Rattle.kp_world.specs.World.{PartAnswer, Reply}
use Rattle.kp_world.proofs.FlightLemmas.{Carried, PartHolds, Steady, part_grown, steady_grown}
use Rattle.kp_world.proofs.PrefixLemmas.{Cut, Grown, lands, lands_at, grown_same, grown_appended}
use Rattle.kp_world.proofs.SoundLemmas.{Sound, sents, came_appended, sound_history}
use Rattle.kp_rules.proofs.ListLemmas.{at_set}
use Rattle.kp_world.proofs.ListLemmas.{In-map}

-- ---- a batch that is old

-- of two places of one batch neither is before the other
not_before : (handed : List Sent) → AreInSequence handed → (b : Sent) (first : List Sent) (first_later : List Sent) (second : List Sent) (second_later : List Sent)
    → handed ≡ first ++ b ∷ first_later → handed ≡ second ++ b ∷ second_later → length first ≤ length second
not_before handed s b first first_later second second_later e f =
    ⊎_elim
    (λ (k : (more : _) × (first ≡ second ++ b ∷ more)). absurd (twice k.0 k.1))
    (λ (k : (more : _) × (b ∷ first_later ≡ more ++ b ∷ second_later) × (second ≡ first ++ more)). let long : length second ≡ length first + length k.0 = ap length k.2 ∙ length-append first k.0 in omega (arith, long))
    (cut_cases second b second_later first (b ∷ first_later) (sym f ∙ e))
  where
    twice : (more : List Sent) → first ≡ second ++ b ∷ more → ⊥
    twice more is =
        let one : Follows first b = s.each first first_later b e in
        let two : Follows second b = s.each second second_later b f in
        let split : count_of (pos b.id) (records_of first) ≡ count_of (pos b.id) (records_of second) + count_of (pos b.id) (stored_of b ++ records_of more) =
        ap (λ z. count_of (pos b.id) (records_of z)) is ∙ ap (count_of (pos b.id)) (flat_map-append stored_of second (b ∷ more)) ∙ count_of-append (pos b.id) (records_of second) (stored_of b ++ records_of more) in
        let parts : count_of (pos b.id) (stored_of b ++ records_of more) ≡ count_of (pos b.id) (stored_of b) + count_of (pos b.id) (records_of more) = count_of-append (pos b.id) (stored_of b) (records_of more) in
        let own : count_of (pos b.id) (stored_of b) ≡ length b.bodies = count_of_own (pos b.id) b.bodies in
        let some : 0 < length b.bodies = one.some_records in
        let at_one : b.sequence ≡ count_of (pos b.id) (records_of first) = one.sequence in
        let at_two : b.sequence ≡ count_of (pos b.id) (records_of second) = two.sequence in
        omega (arith, split, parts, own, some, at_one, at_two)

-- where five later batches were appended, its number is six below how many were handed over
old_number : (ids : List ℕ) (t : Partition) (handed : List HandedBatch) (h : History) → Sound ids t handed h → Cut t handed h → (b : HandedBatch) → In b handed → IsOld h.batches (sent_of b) → b.number + 6 ≤ length handed
old_number ids t handed h s cut b i old =
    let all : sents handed ≡ h.batches ++ sents cut.rest = ap sents cut.split ∙ map-append sent_of cut.landed cut.rest ∙ ap (λ z. z ++ sents cut.rest) (sym cut.appended) in
    let split : sents handed ≡ old.earlier ++ sent_of b ∷ (old.later ++ sents cut.rest) = all ∙ ap (λ z. z ++ sents cut.rest) old.split ∙ append_assoc old.earlier (sent_of b ∷ old.later) (sents cut.rest) in
    let place : sents handed ≡ sents i.earlier ++ sent_of b ∷ sents i.later = ap sents i.split ∙ map-append sent_of i.earlier (b ∷ i.later) in
    let before : length (sents i.earlier) ≤ length old.earlier = not_before (sents handed) s.in_sequence (sent_of b) (sents i.earlier) (sents i.later) old.earlier (old.later ++ sents cut.rest) place split in
    let number : b.number ≡ length i.earlier = cut.places i.earlier i.later b i.split in
    let same : length (sents i.earlier) ≡ length i.earlier = length-map i.earlier sent_of in
    let long : length (sents handed) ≡ length old.earlier + suc (length (old.later ++ sents cut.rest)) = ap length split ∙ length-append old.earlier (sent_of b ∷ (old.later ++ sents cut.rest)) in
    let behind : length (old.later ++ sents cut.rest) ≡ length old.later + length (sents cut.rest) = length-append old.later (sents cut.rest) in
    let size : length (sents handed) ≡ length handed = length-map handed sent_of in
    let left = length-filter_both (λ (c : Sent). c.id == b.id) (λ (c : Sent). not (c.id == b.id)) (λ c. refl) old.later in
    let more : 5 ≤ length (of_id b.id old.later) = old.more in
    omega (arith, before, number, same, long, behind, size, left, more)

-- ---- one part of a packet

-- A partition, what was handed over for it, its log, and all packets and replies.
pub record PartAgrees (most p : ℕ) (ids : List ℕ) (ended : Bool) (next : ℕ) (t : Partition) (handed : List HandedBatch) (h : History) (packets : List Packet) (replies : List Reply) : Type 0 where
  pub sound : Sound ids t handed h
  pub steady : Steady most p ended next t handed h packets replies

pub record Delivered (most p k : ℕ) (ids : List ℕ) (e : Bool) (next : ℕ) (t : Partition) (handed : List HandedBatch) (h h' : History) (packets : List Packet) (replies : List Reply) (a : Answered) : Type 0 where
  pub agrees : PartAgrees most p ids e next t handed h' packets replies
  pub part : PartHolds p (length handed) k packets h'.records a
  pub more : List Stored
  pub records : h'.records ≡ h.records ++ more

delivered : {most : ℕ} (p k : ℕ) (ids : List ℕ) (e : Bool) (next : ℕ) (t : Partition) (handed : List HandedBatch) (h h' : History) (packets : List Packet) (replies : List Reply) (b : HandedBatch) (a : Answered)
    → PartAgrees most p ids e next t handed h packets replies → In b handed → Carried p k packets b → BrokerStep h (sent_of b) a h' → Delivered most p k ids e next t handed h h' packets replies a
delivered {most = most} p k ids e next t handed h h' packets replies b a before i carried step =
    let g : (Sound ids t handed h') × Grown t handed h h' = grown in
    record {
      agrees = record { sound = g.0; steady = steady_grown p next e t handed h h' packets replies before.steady g.1 };
      part = record { batch = b; carried = carried; stored = step.stands; kept = λ d. kept g.0 (step.is_old d); old = λ d. old_number ids t handed h' g.0 g.1.cut b i (step.is_old d) };
      more = g.1.more;
      records = g.1.records;
    }
  where
    kept : Sound ids t handed h' → IsOld h'.batches (sent_of b) → IsStored h'.records (sent_of b)
    kept after old = All-contains (IsStored h'.records) h'.batches (sent_of b) after.came.whole (contains_from_In h'.batches (sent_of b) (record { earlier = old.earlier; later = old.later; split = old.split }))

    appended : (later : List HandedBatch) → before.steady.cut.rest ≡ b ∷ later → (Sound ids t handed (with_batch (sent_of b) h)) × Grown t handed h (with_batch (sent_of b) h)
    appended later is = (
      sound_history ids t handed h (with_batch (sent_of b) h) before.sound (came_appended ids h (sent_of b) (some_of (sents handed) (sent_of b) before.sound.in_sequence (contains_from_In (sents handed) (sent_of b) (In-map sent_of b handed i))) before.sound.came (lands_at ids t handed h before.sound before.steady.cut b later is)),
      grown_appended ids t handed h before.sound before.steady.cut b later is i,
    )

    grown : (Sound ids t handed h') × Grown t handed h h'
    grown =
        ⊎_elim
        (λ (same : h' ≡ h). subst (λ (l : History). (Sound ids t handed l) × Grown t handed h l) (sym same) (before.sound, grown_same t handed h before.steady.cut))
        (λ (may : MayAppend h (sent_of b) × (h' ≡ with_batch (sent_of b) h)).
        let head = lands ids t handed h before.sound before.steady.cut b i may.0 in
        subst (λ (l : History). (Sound ids t handed l) × Grown t handed h l) (sym may.1) (appended head.0 head.1))
        step.change

-- ---- all parts of a packet

abbrev pub Agrees : ℕ → ℕ → List ℕ → Core → List (List HandedBatch) → List History → List Packet → List Reply → ℕ → Type 0
Agrees most n ids core handed logs packets replies p = PartAgrees most p ids core.ended core.correlation (partition_at p core.partitions) (handed_at p handed) (log_at p logs) packets replies

abbrev pub AllAgree : ℕ → ℕ → List ℕ → Core → List (List HandedBatch) → List History → List Packet → List Reply → Type 0
AllAgree most n ids core handed logs packets replies = (p : ℕ) → p < n → Agrees most n ids core handed logs packets replies p

-- one partition's log is another one now, and agrees
pub agree_set : {most : ℕ} (n : ℕ) (ids : List ℕ) (core : Core) (handed : List (List HandedBatch)) (logs : List History) (packets : List Packet) (replies : List Reply) (p : ℕ) (log : History)
    → p < length logs → AllAgree most n ids core handed logs packets replies → PartAgrees most p ids core.ended core.correlation (partition_at p core.partitions) (handed_at p handed) log packets replies
    → AllAgree most n ids core handed (slice_set logs p log) packets replies
agree_set {most = most} n ids core handed logs packets replies p log within all agrees q h =
    at_set (λ (l : History). PartAgrees most q ids core.ended core.correlation (partition_at q core.partitions) (handed_at q handed) l packets replies) logs p q log empty_history
    (λ e. (within, subst (λ (r : ℕ). PartAgrees most r ids core.ended core.correlation (partition_at r core.partitions) (handed_at r handed) log packets replies) (sym e) agrees))
    (all q h)

-- each part is there, was handed over, and went out with this correlation id
abbrev pub Known : ℕ → ℕ → List (List HandedBatch) → List Packet → List Sending → Type 0
Known n k handed packets xs = (x : Sending) → In x xs → (x.partition < n) × In x.batch (handed_at x.partition handed) × Carried x.partition k packets x.batch

pub record PartsDelivered (most n k : ℕ) (ids : List ℕ) (core : Core) (handed : List (List HandedBatch)) (logs logs' : List History) (packets : List Packet) (replies : List Reply) (answers : List PartAnswer) : Type 0 where
  pub count : length logs' ≡ length logs
  pub agree : AllAgree most n ids core handed logs' packets replies
  pub parts : (a : PartAnswer) → In a answers → (a.partition < n) × PartHolds a.partition (length (handed_at a.partition handed)) k packets (log_at a.partition logs').records a.answer
  pub grown : (p : ℕ) → (more : List Stored) × ((log_at p logs').records ≡ (log_at p logs).records ++ more)

pub parts_delivered : {most : ℕ} (n k : ℕ) (ids : List ℕ) (core : Core) (handed : List (List HandedBatch)) (logs logs' : List History) (packets : List Packet) (replies : List Reply) (xs : List Sending) (answers : List PartAnswer)
    → length logs ≡ n → AllAgree most n ids core handed logs packets replies → Known n k handed packets xs → PartsDeliver logs xs answers logs' → PartsDelivered most n k ids core handed logs logs' packets replies answers
unfolding PartsDeliver
parts_delivered {most = most} n k ids core handed logs logs' packets replies [] [] size all known d =
    subst (λ (ls : List History). PartsDelivered most n k ids core handed logs ls packets replies []) (sym d)
    (record { count = refl; agree = all; parts = λ a i. absurd (In-nil a i); grown = λ p. ([], sym (append-nil (log_at p logs).records)) })
parts_delivered n k ids core handed logs logs' packets replies [] (a ∷ answers) size all known d = absurd d
parts_delivered n k ids core handed logs logs' packets replies (x ∷ xs) [] size all known d = absurd d
parts_delivered {most = most} n k ids core handed logs logs' packets replies (x ∷ xs) (a ∷ answers) size all known d =
    let rest : PartsDelivered most n k ids core handed d.0 logs' packets replies answers =
    parts_delivered n k ids core handed d.0 logs' packets replies xs answers (one.count ∙ size) one.agree (λ y i. known y (In-tail y x xs i)) d.2 in
    record {
      count = rest.count ∙ one.count;
      agree = rest.agree;
      parts = λ b i. ⊎_elim (λ (same : b ≡ a). subst (λ (c : PartAnswer). (c.partition < n) × PartHolds c.partition (length (handed_at c.partition handed)) k packets (log_at c.partition logs').records c.answer) (sym same) (first (rest.grown a.partition))) (λ (j : In b answers). rest.parts b j) (In-cons b a answers i);
      grown = λ p. more p (one.grown p) (rest.grown p);
    }
  where
    mine : (x.partition < n) × In x.batch (handed_at x.partition handed) × Carried x.partition k packets x.batch
    mine = known x (In-head x xs)

    step : PartDelivers logs x a d.0
    step = d.1

    within : x.partition < length logs
    within = subst (λ (m : ℕ). x.partition < m) (sym size) mine.0

    here : Delivered most x.partition k ids core.ended core.correlation (partition_at x.partition core.partitions) (handed_at x.partition handed) (log_at x.partition logs) step.log packets replies a.answer
    here = delivered x.partition k ids core.ended core.correlation (partition_at x.partition core.partitions) (handed_at x.partition handed) (log_at x.partition logs) step.log packets replies x.batch a.answer (all x.partition mine.0) mine.1 mine.2 step.step

    here_is : log_at x.partition d.0 ≡ step.log
    here_is = ap (log_at x.partition) step.after_is ∙ get_or-set_same logs x.partition step.log empty_history within

    other_is : (p : ℕ) → (p ≡ x.partition → ⊥) → log_at p d.0 ≡ log_at p logs
    other_is p apart = ap (log_at p) step.after_is ∙ get_or-set_other logs x.partition p step.log empty_history apart

    more : (p : ℕ) → (m : List Stored) × ((log_at p d.0).records ≡ (log_at p logs).records ++ m) → (m : List Stored) × ((log_at p logs').records ≡ (log_at p d.0).records ++ m) → (m : List Stored) × ((log_at p logs').records ≡ (log_at p logs).records ++ m)
    more p u v = (u.0 ++ v.0, v.1 ∙ ap (λ z. z ++ v.0) u.1 ∙ append_assoc (log_at p logs).records u.0 v.0)

    one : PartsDelivered most n k ids core handed logs d.0 packets replies []
    one = record {
      count = ap length step.after_is ∙ length-set logs x.partition step.log;
      agree = subst (λ (ls : List History). AllAgree most n ids core handed ls packets replies) (sym step.after_is) (agree_set n ids core handed logs packets replies x.partition step.log within all here.agrees);
      parts = λ b i. absurd (In-nil b i);
      grown = λ p. ⊎_elim (λ (k : (eqb p x.partition ≡ true) × (p ≡ x.partition)). subst (λ (q : ℕ). (m : List Stored) × ((log_at q d.0).records ≡ (log_at q logs).records ++ m)) (sym k.1) (here.more, ap (λ (l : History). l.records) here_is ∙ here.records))
          (λ (k : (eqb p x.partition ≡ false) × (p ≡ x.partition → ⊥)). ([], ap (λ (l : History). l.records) (other_is p k.1) ∙ sym (append-nil (log_at p logs).records))) (eqb_tells p x.partition);
    }

    first : (m : List Stored) × ((log_at a.partition logs').records ≡ (log_at a.partition d.0).records ++ m) → (a.partition < n) × PartHolds a.partition (length (handed_at a.partition handed)) k packets (log_at a.partition logs').records a.answer
    first m =
        let there : PartHolds x.partition (length (handed_at x.partition handed)) k packets (log_at x.partition d.0).records a.answer = subst (λ (l : History). PartHolds x.partition (length (handed_at x.partition handed)) k packets l.records a.answer) (sym here_is) here.part in
        let moved : (a.partition < n) × PartHolds a.partition (length (handed_at a.partition handed)) k packets (log_at a.partition d.0).records a.answer = subst (λ (q : ℕ). (q < n) × PartHolds q (length (handed_at q handed)) k packets (log_at q d.0).records a.answer) (sym step.partition) (mine.0, there) in
        (moved.0, subst (λ (rs : List Stored). PartHolds a.partition (length (handed_at a.partition handed)) k packets rs a.answer) (sym m.1) (part_grown a.partition (length (handed_at a.partition handed)) k packets (log_at a.partition d.0).records m.0 a.answer moved.1))
