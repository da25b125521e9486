-- Each request of a core in order fits: it has a spelling, no longer than a frame may be, and so has each batch in it.
use Rattle.std.proofs.Common.{◌≡◌, ℕ, suc, ◌+◌, ◌-◌, ◌^◌, ◌<◌, ◌≤◌, Bool, true, false, List, [], ◌∷◌, length, map, take, drop, sum_by, Some, None, pos, refl, ap, subst, arith}
use Rattle.std.specs.Prelude.{Ok, if◌then◌else◌, filter_map, nat_le}
use Rattle.std.specs.List.{AllByRecursion, enumerate_from}
use Rattle.std.proofs.lemmas.Bool.{ltb-false, leb-true}
use Rattle.std.proofs.lemmas.List.{length-append, length-map, take-append-drop}
use Rattle.std.proofs.lemmas.List.FromFn.{length-enumerate_from}
use Rattle.std.proofs.lemmas.List.Sums.{sum_by-cons}
use Rattle.kp_batch.specs.Spelling.{HasSpelling}
use Rattle.kp_accum.specs.declared.config.Config.{Config}
use Rattle.kp_accum.specs.declared.flags.Flags.{Flags}
use Rattle.kp_accum.specs.declared.item.Item.{Item}
use Rattle.kp_accum.specs.Queue.{Pending, body_of, size_of}
use Rattle.kp_frames.specs.declared.produce.PartitionProduceData.{PartitionProduceData}
use Rattle.kp_rules.specs.Attempts.{is_waiting, lowest_waiting}
use Rattle.kp_rules.specs.Framing.{head_of, batch_of, data_of, message_of, FitsPacket}
use Rattle.kp_rules.specs.Held.{IsRecord}
use Rattle.kp_rules.specs.InOrder.{IsItemOf, AreItemsOf, IsOpenOf, IsPartition, IsInOrder}
use Rattle.kp_rules.specs.MaySend.{may_hand_over, new_batch, sends}
use Rattle.kp_rules.specs.Next.{Sending, in_turn, used_up_to, sending_by, fitting, next_batches, next_demand, flags_of}
use Rattle.kp_rules.specs.Partitions.{partition_at}
use Rattle.kp_rules.specs.Records.{HandedBatch, Open, Partition, Demand, Produce, InitProducerId, Core}
use Rattle.kp_rules.specs.Requesting.{AsksOfLed, Packet, Requested, is_spent, go_out, request_step}
use Rattle.kp_rules.proofs.BatchFitLemmas.{batch_fits, length_spelled, head_fits}
use Rattle.kp_rules.proofs.CallLemmas.{at_request}
use Rattle.kp_rules.proofs.ListLemmas.{all_map, all_weaker, at_contained, found, last_below, length-filter_map}
use Rattle.kp_rules.proofs.OrderedCallLemmas.{HasBounds, has_bounds, places}
use Rattle.kp_rules.proofs.RequestFitLemmas.{produce_fits, id_request_fits}
use Rattle.kp_rules.proofs.SendingLemmas.{IsSent, asks_of_led, at_sends, demand_is_next, demand_is_sent, handed_over}

-- ---- a batch that is sent has records, and numbers that fit

pub record IsFit (c : Config) (b : HandedBatch) : Type 0 where
  pub some : 0 < length b.items
  pub size : size_of b.items ≤ c.max_request_size
  pub records : AllByRecursion IsRecord (map body_of b.items)
  pub id : b.id < 2 ^ 63
  pub sequence : b.sequence + length b.items ≤ c.sequence_limit

records_of : (senders p : ℕ) (items : List Item) → AllByRecursion (IsItemOf senders p) items → AllByRecursion IsRecord (map body_of items)
records_of senders p items h = all_map (IsItemOf senders p) IsRecord body_of (λ i is. is.body) items h

sent_fits : (c : Config) (senders correlation p : ℕ) (flags : Flags) (now : ℕ) (t : Partition) → IsPartition c senders correlation p t
    → (b : HandedBatch) → sends c flags now t ≡ Some b → IsFit c b
sent_fits c senders correlation p flags now t is = at_sends (λ b after. IsFit c b) c flags now 0 t (record { again = again; first = first })
  where
    again : t.fenced ≡ false → (o : Open) → lowest_waiting t ≡ Some o → IsFit c o.batch
    again free o e =
        let here = (found is_waiting t.open_batches o e).0 in
        let own : IsOpenOf c senders p t o = at_contained (IsOpenOf c senders p t) t.open_batches o is.opens here in
        record {
          some = own.items.some;
          size = own.items.fits;
          records = records_of senders p o.batch.items own.items.each;
          id = own.id;
          sequence = own.sequence;
        }

    first : t.fenced ≡ false → (front : Pending) (behind : List Pending) → t.queue ≡ front ∷ behind
        → may_hand_over c flags now t front ≡ true → IsFit c (new_batch t front)
    first free front behind queue may =
        let items : AreItemsOf c senders p front.items = (subst (AllByRecursion (λ (x : Pending). AreItemsOf c senders p x.items)) queue is.queue).0 in
        record {
          some = items.some;
          size = items.fits;
          records = records_of senders p front.items items.each;
          id = last_below (2 ^ 63) None t.ids (omega arith) is.ids;
          sequence = (handed_over c flags now t front may).1;
        }

fit_spelled : (c : Config) → HasBounds c → (b : HandedBatch) → IsFit c b → HasSpelling (batch_of b)
unfolding size_of
fit_spelled c most b fit =
    let count = length-map b.items body_of in
    batch_fits (head_of b) (map body_of b.items) fit.records (omega (arith, count, fit.some)) (omega (arith, fit.size, most.request))
    (head_fits b.id b.sequence fit.id (omega (arith, fit.sequence, fit.some, most.sequence)))

-- ---- the batches of a request

pub sending_fits : (now : ℕ) (s : Core) → IsInOrder s → (x : Sending) → IsSent now s x → IsFit s.config x.batch
sending_fits now s order x is = sent_fits s.config (length s.reports) s.correlation x.partition (flags_of s) now (partition_at x.partition s.partitions)
    (places s order x.partition is.there) x.batch is.sends

abbrev sizes : List Sending → ℕ
sizes xs = sum_by (λ x. size_of x.batch.items) xs

sizes_fitting : (room : ℕ) (xs : List Sending) → sizes (fitting room xs) ≤ room
unfolding fitting
sizes_fitting room [] = omega arith
sizes_fitting room (x ∷ xs) = at_test (nat_le (size_of x.batch.items) room) refl (sizes_fitting (room - size_of x.batch.items) xs)
  where
    at_test : (b : Bool) → nat_le (size_of x.batch.items) room ≡ b → sizes (fitting (room - size_of x.batch.items) xs) ≤ room - size_of x.batch.items
        → sizes (if b then x ∷ fitting (room - size_of x.batch.items) xs else []) ≤ room
    at_test true is rest = omega (arith, leb-true _ _ is, sum_by-cons (λ (y : Sending). size_of y.batch.items) x (fitting (room - size_of x.batch.items) xs))
    at_test false is rest = omega arith

length-fitting : (room : ℕ) (xs : List Sending) → length (fitting room xs) ≤ length xs
unfolding fitting
length-fitting room [] = omega arith
length-fitting room (x ∷ xs) = at_test (nat_le (size_of x.batch.items) room) (length-fitting (room - size_of x.batch.items) xs)
  where
    at_test : (b : Bool) → length (fitting (room - size_of x.batch.items) xs) ≤ length xs
        → length (if b then x ∷ fitting (room - size_of x.batch.items) xs else []) ≤ suc (length xs)
    at_test true rest = omega arith
    at_test false rest = omega arith

few_batches : (node now : ℕ) (s : Core) → length (next_batches node now s) ≤ length s.partitions
unfolding next_batches
few_batches node now s =
    let n = used_up_to node s.turns in
    let all : List (ℕ × Partition) = enumerate_from 0 s.partitions in
    let whole = ap length (take-append-drop n all) in
    omega (
      arith,
      length-fitting s.config.max_request_size (filter_map (sending_by sends node s now) (in_turn node s)),
      length-filter_map (sending_by sends node s now) (in_turn node s),
      length-append (drop n all) (take n all),
      length-append (take n all) (drop n all),
      whole,
      length-enumerate_from 0 s.partitions,
    )

small_batches : (node now : ℕ) (s : Core) → sizes (next_batches node now s) ≤ s.config.max_request_size
unfolding next_batches
small_batches node now s = sizes_fitting s.config.max_request_size (filter_map (sending_by sends node s now) (in_turn node s))

-- ---- their data

bytes_are : (xs : List Sending) → sum_by (λ d. length d.records) (map data_of xs) ≡ sizes xs
unfolding size_of
bytes_are [] = refl
bytes_are (x ∷ xs) =
    omega (
      arith,
      sum_by-cons (λ (d : PartitionProduceData). length d.records) (data_of x) (map data_of xs),
      sum_by-cons (λ (y : Sending). size_of y.batch.items) x xs,
      length_spelled (head_of x.batch) (map body_of x.batch.items),
      bytes_are xs,
    )

-- ---- the request

pub demand_fits : (node now : ℕ) (s : Core) → IsInOrder s → (d : Demand Sending) → next_demand node now s ≡ Some d → s.correlation < 2 ^ 31
    → FitsPacket s.config s.names (record { correlation = s.correlation; demand = d })
unfolding message_of
demand_fits node now s order (InitProducerId p) e small =
    let fits = id_request_fits s.correlation s.names.client small order.names.client order.names.client_is_text in
    record { message = fits.0; content = fits.1; batches = tt }
demand_fits node now s order (Produce xs) e small =
    let most = has_bounds s.config order.config in
    let all = demand_is_sent node now s xs e in
    let next = demand_is_next node now s xs e in
    let few : length xs ≤ length s.partitions = subst (λ (ys : List Sending). length ys ≤ length s.partitions) next (few_batches node now s) in
    let room : sizes xs ≤ s.config.max_request_size = subst (λ (ys : List Sending). sizes ys ≤ s.config.max_request_size) next (small_batches node now s) in
    let fits = produce_fits s.correlation s.config.request_timeout_ms s.names.client s.names.topic (map data_of xs) small (omega (arith, most.timeout))
    order.names.client order.names.client_is_text order.names.topic order.names.topic_is_text
    (omega (arith, few, order.partition_limit, length-map xs data_of))
    (all_map (IsSent now s) (λ d. (p : ℕ) × (p < 1024) × (d.partition ≡ pos p)) data_of
    (λ x is. (x.partition, omega (arith, is.there, order.partition_limit), refl)) xs all)
    (omega (arith, bytes_are xs, room, most.request)) in
    record {
      message = fits.0;
      content = fits.1;
      batches = all_weaker (IsSent now s) (λ x. HasSpelling (batch_of x.batch))
          (λ x is. fit_spelled s.config most x.batch (sending_fits now s order x is)) xs all;
    }

pub request_fits : (node now : ℕ) (s : Core) (packet : Packet) → IsInOrder s → (request_step node now s).answer ≡ Ok (Some packet) → FitsPacket s.config s.names packet
request_fits node now s packet order = at_request (λ (x : Requested). x.answer ≡ Ok (Some packet) → FitsPacket s.config s.names packet) node now s (record {
  ended = λ e. absurd cc;
  idle = λ e. absurd cc;
  spent = λ e. absurd cc;
  out = out;
})
  where
    out : s.ended ≡ false → (d : Demand Sending) → next_demand node now s ≡ Some d → is_spent s ≡ false → (go_out node now s d).answer ≡ Ok (Some packet)
        → FitsPacket s.config s.names packet
    out going d wanted left e =
        let same : (record { correlation = s.correlation; demand = d }) ≡ packet = cc in
        subst (FitsPacket s.config s.names) same (demand_fits node now s order d wanted (omega (arith, ltb-false _ _ left)))

-- ---- it is the node's

pub request_is_led : (node now : ℕ) (s : Core) (packet : Packet) → (request_step node now s).answer ≡ Ok (Some packet) → AsksOfLed node s packet.demand
request_is_led node now s packet = at_request (λ (x : Requested). x.answer ≡ Ok (Some packet) → AsksOfLed node s packet.demand) node now s (record {
  ended = λ e. absurd cc;
  idle = λ e. absurd cc;
  spent = λ e. absurd cc;
  out = out;
})
  where
    out : s.ended ≡ false → (d : Demand Sending) → next_demand node now s ≡ Some d → is_spent s ≡ false → (go_out node now s d).answer ≡ Ok (Some packet)
        → AsksOfLed node s packet.demand
    out going d wanted left e = let its : d ≡ packet.demand = cc in subst (AsksOfLed node s) its (asks_of_led node now s d wanted)
