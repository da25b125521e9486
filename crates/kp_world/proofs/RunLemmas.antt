-- What holds of every world of a run, whatever comes to an honest broker: from the opening world on,
-- event by event.
use Rattle.std.proofs.Common.{◌≡◌, ◌⊎◌, ℕ, ◌<◌, ◌≤◌, Bool, true, false, List, [], ◌∷◌, ◌++◌, length, replicate, pos, Some, refl, sym, ◌∙◌, subst, inl, inr, ⊎_elim, arith}
use Rattle.std.specs.Prelude.{Result, Ok, Err, if◌then◌else◌, ◌||◌, nat_lt}
use Rattle.std.proofs.lemmas.Bool.{ltb-false}
use Rattle.std.proofs.lemmas.List.{get_or-replicate, length-replicate, length-set}
use Rattle.kp_accum.specs.declared.config.Config.{Config}
use Rattle.kp_accum.specs.declared.fault.ConfigFault.{ConfigFault}
use Rattle.kp_accum.specs.declared.fault.ConfigFault.TheVariants.{BatchSize, Linger, BufferMemory, MaxRequestSize, RequestTimeout, DeliveryTimeout, RetryBackoff, MaxInFlight}
use Rattle.kp_accum.specs.declared.item.Item.{Item}
use Rattle.kp_accum.specs.Config.{is_outside, checked}
use Rattle.kp_frames.specs.declared.response.Response.{Response}
use Rattle.kp_log.specs.declared.stored.Stored.{Stored}
use Rattle.kp_log.specs.History.{History, empty_history}
use Rattle.kp_log.proofs.PlaceLemmas.{In, In-nil, In-head, In-append_left, In-append_right}
use Rattle.kp_rules.specs.Leading.{lead_step}
use Rattle.kp_rules.specs.Closing.{close_step, end_step}
use Rattle.kp_rules.specs.Flush.{flush_step}
use Rattle.kp_rules.specs.Tick.{tick_step}
use Rattle.kp_rules.specs.Appending.{append_step}
use Rattle.kp_rules.specs.Dropping.{disconnect_step}
use Rattle.kp_rules.specs.Next.{Sending}
use Rattle.kp_rules.specs.Auditing.{opened, without_audits}
use Rattle.kp_rules.specs.Opening.{new_core}
use Rattle.kp_rules.specs.Partitions.{partition_at, new_partition}
use Rattle.kp_rules.specs.Records.{Demand, Produce, InitProducerId, HandedBatch, Partition, Core}
use Rattle.kp_rules.specs.Requesting.{Packet}
use Rattle.kp_world.specs.Events.{WorldEvent}
use Rattle.kp_world.specs.Accepting.{taking}
use Rattle.kp_world.specs.Client.{handed_at}
use Rattle.kp_world.specs.Delivering.{log_at, PartsDeliver, Delivery, HasNone, IsFresh, IsError, Delivers, given, AreOthers, with_records, logs_with_others}
use Rattle.kp_world.specs.Noting.{noted}
use Rattle.kp_world.specs.Message.{Answers}
use Rattle.kp_world.specs.Run.{with_delivery, Steps, IsReached}
use Rattle.kp_world.specs.World.{PartAnswer, ReplyContent, Batches, Id, Reply, World, Opening, opening}
use Rattle.kp_world.proofs.BrokerLemmas.{Agrees, AllAgree, Known, PartsDelivered, parts_delivered, agree_set, PartAgrees}
use Rattle.kp_world.proofs.EventLemmas.{at_taken, OfEvent, at_step, OfStep, at_run}
use Rattle.kp_world.proofs.FlightLemmas.{Carries, PartHolds, ContentHolds, steady_new, steady_grown, steady_replied}
use Rattle.kp_world.proofs.HearingLemmas.{lawful_reply}
use Rattle.kp_world.proofs.LawfulLemmas.{Lawful, IsLawful, StoredAt, lawful_core, lawful_sending, IsLawfulWithin, PartsIn, Given}
use Rattle.kp_world.proofs.LeavingLemmas.{CoreLeaves, left_appended, left_ticked, left_ended, left_flushed, left_disconnected, left_closed, left_unaudited, left_led}
use Rattle.kp_world.proofs.PrefixLemmas.{grown_others, sound_drawn}
use Rattle.kp_world.proofs.SoundLemmas.{came_others, sound_new, sound_history}
use Rattle.kp_world.proofs.ListLemmas.{all_at, all_place, in_at, one_more}

-- ---- a packet comes

-- what was given before is as it was, and the newest reply is this one
lawful_answered : {most : ℕ} (n : ℕ) (core : Core) (logs logs' : List History) (handed : List (List HandedBatch)) (packets : List Packet) (replies : List Reply) (ids ids' : List ℕ) (r : Reply)
    → Lawful most n core logs handed packets replies ids → length logs' ≡ n → AllAgree most n ids' core handed logs' packets replies → ((id : ℕ) → In id ids → In id ids') → Given n ids' core r
    → ((p : ℕ) → p < n → ContentHolds p (length (handed_at p handed)) r.correlation packets (log_at p logs').records r.content)
    → Lawful most n core logs' handed packets (replies ++ r ∷ []) ids'
lawful_answered n core logs logs' handed packets replies ids ids' r g size agree more newest content = record {
  count = g.count;
  handed_count = g.handed_count;
  logs_count = size;
  window = g.window;
  some = g.some;
  agree = λ p h. record {
    sound = (agree p h).sound;
    steady = steady_replied p core.correlation core.ended (partition_at p core.partitions) (handed_at p handed) (log_at p logs') packets replies r (agree p h).steady (content p h);
  };
  went = g.went;
  gave = λ x i. ⊎_elim (λ (j : In x replies). let w = g.gave x j in record { before = w.before; answers = w.answers; drawn = λ id e. more id (w.drawn id e); spare = w.spare }) (λ (same : x ≡ r). subst (Given n ids' core) (sym same) newest) (one_more replies r x i);
  asked = g.asked;
}

-- a reply that gives no id
gives_none : (n : ℕ) (ids : List ℕ) (core : Core) (r : Reply) → r.correlation < core.correlation → Answers r.correlation r.content r.response → ((id : ℕ) → r.content ≡ given id → ⊥) → Given n ids core r
gives_none n ids core r b a none = record { before = b; answers = a; drawn = λ id e. absurd (none id e); spare = λ id q e a x c p h at. none id e }

abbrev reply : Packet → ReplyContent → Response → Reply
reply o content response = record { correlation = o.correlation; content = content; response = response }

-- ---- batches

-- each of a packet's batches was handed over, and went out with it
pub parts_known : {most : ℕ} (n : ℕ) (w : World) (o : Packet) (xs : List Sending) → IsLawfulWithin most n w → In o w.packets → o.demand ≡ Produce xs → Known n o.correlation w.handed w.packets xs
parts_known n w o xs g i is x j =
    let parts : PartsIn n w.handed (Produce xs) = subst (PartsIn n w.handed) is (g.went o i).parts in
    let one = all_at (λ (y : Sending). (y.partition < n) × In y.batch (handed_at y.partition w.handed)) xs x parts j in
    (one.0, one.1, record { packet = o; sent = i; named = refl; carries = subst (λ (e : Demand Sending). Carries x.partition x.batch e) (sym is) (x, j, refl, refl) })

pub parts_came : {most : ℕ} (n : ℕ) (w : World) (o : Packet) (xs : List Sending) (logs : List History) (answers : List PartAnswer) → IsLawfulWithin most n w → In o w.packets → o.demand ≡ Produce xs → PartsDeliver w.logs xs answers logs
    → PartsDelivered most n o.correlation w.ids w.core w.handed w.logs logs w.packets w.replies answers
parts_came n w o xs logs answers g i is deliver =
    parts_delivered n o.correlation w.ids w.core w.handed w.logs logs w.packets w.replies xs answers g.logs_count g.agree (parts_known n w o xs g i is) deliver

came_parts : {most : ℕ} (n : ℕ) (w : World) (o : Packet) (xs : List Sending) (d : Delivery) (x : Response) → IsLawfulWithin most n w → In o w.packets → o.demand ≡ Produce xs → Delivers w (Produce xs) d
    → Answers o.correlation d.content x → Lawful most n w.core d.logs w.handed w.packets (w.replies ++ reply o d.content x ∷ []) d.ids
unfolding Delivers
came_parts {most = most} n w o xs d x g i is honest says =
    subst (λ (is' : List ℕ). Lawful most n w.core d.logs w.handed w.packets (w.replies ++ reply o d.content x ∷ []) is') (sym honest.3)
    (subst (λ (c : ReplyContent). Lawful most n w.core d.logs w.handed w.packets (w.replies ++ reply o c x ∷ []) w.ids) (sym honest.2)
    (lawful_answered n w.core w.logs d.logs w.handed w.packets w.replies w.ids w.ids (reply o (Batches honest.0) x) g (all.count ∙ g.logs_count) all.agree (λ id j. j)
    (gives_none n w.ids w.core (reply o (Batches honest.0) x) (g.went o i).before (subst (λ (c : ReplyContent). Answers o.correlation c x) honest.2 says) (λ id e. absurd cc)) content))
  where
    all : PartsDelivered most n o.correlation w.ids w.core w.handed w.logs d.logs w.packets w.replies honest.0
    all = parts_came n w o xs d.logs honest.0 g i is honest.1

    content : (p : ℕ) → p < n → (a : PartAnswer) → In a honest.0 → a.partition ≡ p → PartHolds p (length (handed_at p w.handed)) o.correlation w.packets (log_at p d.logs).records a.answer
    content p h a j at = subst (λ (q : ℕ). PartHolds q (length (handed_at q w.handed)) o.correlation w.packets (log_at q d.logs).records a.answer) at (all.parts a j).1

-- ---- an id

no_parts : (p count k : ℕ) (packets : List Packet) (h : History) (c : ReplyContent) → IsError c → ContentHolds p count k packets h.records c
no_parts p count k packets h (Batches parts) e = absurd e
no_parts p count k packets h (Id code id) e = tt

not_given : (c : ReplyContent) → IsError c → (id : ℕ) → c ≡ given id → ⊥
not_given (Batches parts) e id is = absurd e
not_given (Id code z) e id is = let zero : code ≡ pos 0 = cc in e zero

fresh_apart : (logs : List History) (ids : List ℕ) (id : ℕ) → IsFresh logs ids id → In id ids → ⊥
fresh_apart logs ids id f i = all_at (λ (x : ℕ). x ≡ id → ⊥) ids id f.0 i refl

came_error : {most : ℕ} (n : ℕ) (w : World) (o : Packet) (c : ReplyContent) (x : Response) → IsLawfulWithin most n w → In o w.packets → IsError c → Answers o.correlation c x
    → Lawful most n w.core w.logs w.handed w.packets (w.replies ++ reply o c x ∷ []) w.ids
came_error n w o c x g i e says =
    lawful_answered n w.core w.logs w.logs w.handed w.packets w.replies w.ids w.ids (reply o c x) g g.logs_count g.agree (λ id j. j)
    (gives_none n w.ids w.core (reply o c x) (g.went o i).before says (not_given c e)) (λ p h. no_parts p (length (handed_at p w.handed)) o.correlation w.packets (log_at p w.logs) c e)

came_drawn : {most : ℕ} (n : ℕ) (w : World) (o : Packet) (c : ReplyContent) (x : Response) (id : ℕ) → IsLawfulWithin most n w → In o w.packets → IsFresh w.logs w.ids id → IsError c ⊎ (c ≡ given id) → Answers o.correlation c x
    → Lawful most n w.core w.logs w.handed w.packets (w.replies ++ reply o c x ∷ []) (w.ids ++ id ∷ [])
came_drawn {most = most} n w o c x id g i fresh what says =
    lawful_answered n w.core w.logs w.logs w.handed w.packets w.replies w.ids (w.ids ++ id ∷ []) (reply o c x) g g.logs_count agree (λ m j. In-append_left m w.ids (id ∷ []) j) (newest what) (λ p h. content p what)
  where
    agree : AllAgree most n (w.ids ++ id ∷ []) w.core w.handed w.logs w.packets w.replies
    agree p h = record {
      sound = sound_drawn w.ids id (partition_at p w.core.partitions) (handed_at p w.handed) (log_at p w.logs) (g.agree p h).sound (g.agree p h).steady.cut (fresh_apart w.logs w.ids id fresh)
          (all_place (λ (l : History). HasNone l.records id) w.logs empty_history refl p fresh.1);
      steady = (g.agree p h).steady;
    }

    same_id : (m : ℕ) → given id ≡ given m → id ≡ m
    same_id m e = cc

    newest : IsError c ⊎ (c ≡ given id) → Given n (w.ids ++ id ∷ []) w.core (reply o c x)
    newest (inl e) = gives_none n (w.ids ++ id ∷ []) w.core (reply o c x) (g.went o i).before says (not_given c e)
    newest (inr is) = record {
      before = (g.went o i).before;
      answers = says;
      drawn = λ m e. subst (λ (x : ℕ). In x (w.ids ++ id ∷ [])) (same_id m (sym is ∙ e)) (In-append_right id w.ids (id ∷ []) (In-head id []));
      spare = λ m q e a x b p h at. fresh_apart w.logs w.ids id fresh ((g.agree p h).sound.drawn_all id (subst (λ (x : ℕ). In x (partition_at p w.core.partitions).ids) (sym (same_id m (sym is ∙ e))) at));
    }

    content : (p : ℕ) → IsError c ⊎ (c ≡ given id) → ContentHolds p (length (handed_at p w.handed)) o.correlation w.packets (log_at p w.logs).records c
    content p (inl e) = no_parts p (length (handed_at p w.handed)) o.correlation w.packets (log_at p w.logs) c e
    content p (inr is) = subst (ContentHolds p (length (handed_at p w.handed)) o.correlation w.packets (log_at p w.logs).records) (sym is) tt

came_id : {most : ℕ} (n p : ℕ) (w : World) (o : Packet) (d : Delivery) (x : Response) → IsLawfulWithin most n w → In o w.packets → Delivers w (InitProducerId p) d → Answers o.correlation d.content x
    → Lawful most n w.core d.logs w.handed w.packets (w.replies ++ reply o d.content x ∷ []) d.ids
unfolding Delivers
came_id {most = most} n p w o d x g i honest says =
    subst (λ (ls : List History). Lawful most n w.core ls w.handed w.packets (w.replies ++ reply o d.content x ∷ []) d.ids) (sym honest.1)
    (⊎_elim
    (λ (e : IsError d.content × (d.ids ≡ w.ids)). subst (λ (is : List ℕ). Lawful most n w.core w.logs w.handed w.packets (w.replies ++ reply o d.content x ∷ []) is) (sym e.1) (came_error n w o d.content x g i e.0 says))
    (λ (e : (id : ℕ) × IsFresh w.logs w.ids id × (d.ids ≡ w.ids ++ id ∷ []) × (IsError d.content ⊎ (d.content ≡ given id))).
    subst (λ (is : List ℕ). Lawful most n w.core w.logs w.handed w.packets (w.replies ++ reply o d.content x ∷ []) is) (sym e.2) (came_drawn n w o d.content x e.0 g i e.1 e.3 says))
    honest.0)

-- ---- the broker's events

lawful_arrives : {most : ℕ} (n : ℕ) (w : World) (o : Packet) (d : Delivery) (x : Response) → IsLawfulWithin most n w → In o w.packets → Delivers w o.demand d → Answers o.correlation d.content x → IsLawfulWithin most n (with_delivery o d x w)
unfolding with_delivery noted
lawful_arrives {most = most} n w o d x g i honest says = at_demand o.demand refl honest
  where
    at_demand : (e : Demand Sending) → o.demand ≡ e → Delivers w e d → Lawful most n w.core d.logs w.handed w.packets (w.replies ++ reply o d.content x ∷ []) d.ids
    at_demand (Produce xs) is honest' = came_parts n w o xs d x g i is honest' says
    at_demand (InitProducerId p) is honest' = came_id n p w o d x g i honest' says

lawful_others : {most : ℕ} (n p : ℕ) (records : List Stored) (core : Core) (logs : List History) (handed : List (List HandedBatch)) (packets : List Packet) (replies : List Reply) (ids : List ℕ)
    → p < length logs → AreOthers ids records → Lawful most n core logs handed packets replies ids → Lawful most n core (logs_with_others p records logs) handed packets replies ids
lawful_others {most = most} n p records core logs handed packets replies ids within others g = record {
  count = g.count;
  handed_count = g.handed_count;
  logs_count = length-set logs p (with_records records (log_at p logs)) ∙ g.logs_count;
  window = g.window;
  some = g.some;
  agree = agree_set n ids core handed logs packets replies p (with_records records (log_at p logs)) within g.agree (record {
    sound = sound_history ids (partition_at p core.partitions) (handed_at p handed) (log_at p logs) (with_records records (log_at p logs)) mine.sound (came_others ids (log_at p logs) records others mine.sound.came);
    steady = steady_grown p core.correlation core.ended (partition_at p core.partitions) (handed_at p handed) (log_at p logs) (with_records records (log_at p logs)) packets replies mine.steady (grown_others ids (partition_at p core.partitions) (handed_at p handed) (log_at p logs) records mine.sound others mine.steady.cut);
  });
  went = g.went;
  gave = g.gave;
  asked = g.asked;
}
  where
    mine : Agrees most n ids core handed logs packets replies p
    mine = g.agree p (subst (λ (x : ℕ). p < x) g.logs_count within)

-- ---- the producer's events

lawful_called : {most : ℕ} (n : ℕ) (w : World) (s : Core) → IsLawfulWithin most n w → CoreLeaves (StoredAt w.logs) w.core s → Lawful most n s w.logs w.handed w.packets w.replies w.ids
lawful_called n w s g l = lawful_core n w.core s w.logs w.handed w.packets w.replies w.ids g l

lawful_taken : {most : ℕ} (n s : ℕ) (i : Item) (w : World) → IsLawfulWithin most n w → IsLawfulWithin most n (taking s (Some i) w)
unfolding noted
lawful_taken {most = most} n s i w g =
    let after : Lawful most n (append_step i w.core).after w.logs w.handed w.packets w.replies w.ids = lawful_called n w (append_step i w.core).after g (left_appended (StoredAt w.logs) i w.core) in
    at_taken (IsLawfulWithin most n) s i w after after

lawful_client : {most : ℕ} (n : ℕ) (w : World) → IsLawfulWithin most n w → OfEvent (λ e. IsLawfulWithin most n) w
unfolding noted
lawful_client n w g = record {
  not_accepted = λ s p at body. (g, g);
  accepted = λ s p at body there within going fits. g;
  none_taken = λ s none. g;
  taken = λ s i there is. lawful_taken n s i w g;
  now = λ moment. g;
  tick = λ node. lawful_called n w (tick_step node w.moment w.core).after g (left_ticked (StoredAt w.logs) node w.moment w.core);
  send = λ node. lawful_sending n node w g;
  reply = λ j r is. lawful_reply n w.moment w.core w.logs w.handed w.packets w.replies w.ids r g (in_at w.replies j r is);
  lost = λ node. lawful_called n w (disconnect_step node w.moment w.core) g (left_disconnected (StoredAt w.logs) node w.moment w.core);
  led = λ p node. lawful_called n w (lead_step p node w.moment w.core) g (left_led (StoredAt w.logs) p node w.moment w.core);
  close = lawful_called n w (close_step w.core) g (left_closed (StoredAt w.logs) w.core);
  end = lawful_called n w (end_step w.core).after g (left_ended (StoredAt w.logs) w.core);
  flush = lawful_called n w (flush_step w.core) g (left_flushed (StoredAt w.logs) w.core);
}

-- ---- runs

lawful_event : {most : ℕ} (n : ℕ) (w : World) → IsLawfulWithin most n w → OfStep (λ e. IsLawfulWithin most n) w
unfolding noted
lawful_event n w g = record {
  client = lawful_client n w g;
  arrives = λ k o d x is honest says. lawful_arrives n w o d x g (in_at w.packets k o is) honest says;
  others = λ p records there within. lawful_others n p records w.core w.logs w.handed w.packets w.replies w.ids within there g;
}

pub lawful_step : {most : ℕ} (n : ℕ) (e : WorldEvent) (w v : World) → Steps w e v → IsLawfulWithin most n w → IsLawfulWithin most n v
lawful_step {most = most} n e w v s g = at_step (λ e. IsLawfulWithin most n) w (lawful_event n w g) e v s

-- ---- the opening world

-- a list of checks that passed passed each
passed_on : (b : Bool) (f : ConfigFault) (r : Result (Unit {0}) ConfigFault) → (if b then Err f else r) ≡ Ok tt → (b ≡ false) × (r ≡ Ok tt)
passed_on true f r e = absurd cc
passed_on false f r e = (refl, e)

pub within_five : (c : Config) → checked c ≡ Ok tt → c.max_in_flight_requests_per_connection ≤ 5
unfolding checked is_outside
within_five c e =
    let a = passed_on _ BatchSize _ e in
    let b = passed_on _ Linger _ a.1 in
    let d = passed_on _ BufferMemory _ b.1 in
    let f = passed_on _ MaxRequestSize _ d.1 in
    let g = passed_on _ RequestTimeout _ f.1 in
    let h = passed_on _ DeliveryTimeout _ g.1 in
    let i = passed_on _ RetryBackoff _ h.1 in
    let j = passed_on _ MaxInFlight _ i.1 in
    at_least (nat_lt c.max_in_flight_requests_per_connection 1) (nat_lt 5 c.max_in_flight_requests_per_connection) refl j.0
  where
    at_most : (b : Bool) → nat_lt 5 c.max_in_flight_requests_per_connection ≡ b → b ≡ false → c.max_in_flight_requests_per_connection ≤ 5
    at_most true is e' = absurd cc
    at_most false is e' = ltb-false 5 c.max_in_flight_requests_per_connection is

    at_least : (a b : Bool) → nat_lt 5 c.max_in_flight_requests_per_connection ≡ b → a || b ≡ false → c.max_in_flight_requests_per_connection ≤ 5
    at_least true b is e' = absurd cc
    at_least false b is e' = at_most b is e'

abbrev pub first_core : Opening → Core
first_core o = new_core o.config o.names o.partitions o.senders o.id o.correlation

abbrev LawfulAtFirst : ℕ → Opening → Core → Type 0
LawfulAtFirst most o core = Lawful most o.partitions core (replicate o.partitions empty_history) (replicate o.partitions []) [] [] (o.id ∷ [])

lawful_first : {most : ℕ} (o : Opening) → o.config.max_in_flight_requests_per_connection ≤ most → 0 < most → LawfulAtFirst most o (first_core o)
unfolding new_core
lawful_first {most = most} o few some = record {
  count = length-replicate o.partitions (new_partition o.id);
  handed_count = let none : List HandedBatch = [] in length-replicate o.partitions none;
  logs_count = length-replicate o.partitions empty_history;
  window = few;
  some = some;
  agree = each;
  went = λ x i. absurd (In-nil x i);
  gave = λ r i. absurd (In-nil r i);
  asked = λ q i. absurd (In-nil q i);
}
  where
    each : (p : ℕ) → p < o.partitions → PartAgrees most p (o.id ∷ []) false o.correlation (partition_at p (replicate o.partitions (new_partition o.id))) (handed_at p (replicate o.partitions [])) (log_at p (replicate o.partitions empty_history)) [] []
    each p h =
        subst (λ (u : Partition). PartAgrees most p (o.id ∷ []) false o.correlation u (handed_at p (replicate o.partitions [])) (log_at p (replicate o.partitions empty_history)) [] []) (sym (get_or-replicate o.partitions p (new_partition o.id) (new_partition 0) h))
        (subst (λ (hs : List HandedBatch). PartAgrees most p (o.id ∷ []) false o.correlation (new_partition o.id) hs (log_at p (replicate o.partitions empty_history)) [] []) (sym (get_or-replicate {A = List HandedBatch} o.partitions p [] [] h))
        (subst (λ (l : History). PartAgrees most p (o.id ∷ []) false o.correlation (new_partition o.id) [] l [] []) (sym (get_or-replicate o.partitions p empty_history empty_history h)) (record { sound = sound_new o.id; steady = steady_new p o.correlation o.id })))

pub lawful_opening_within : {most : ℕ} (o : Opening) → o.config.max_in_flight_requests_per_connection ≤ most → 0 < most → IsLawfulWithin most o.partitions (opening o)
unfolding opening
lawful_opening_within {most = most} o few some = at_audits o.audits
  where
    first : LawfulAtFirst most o (first_core o)
    first = lawful_first o few some

    at_audits : (audits : Bool) → LawfulAtFirst most o (opened audits (first_core o))
    at_audits true = first
    at_audits false =
        lawful_core o.partitions (first_core o) (without_audits (first_core o)) (replicate o.partitions empty_history) (replicate o.partitions []) [] [] (o.id ∷ []) first
        (left_unaudited (StoredAt (replicate o.partitions empty_history)) (first_core o))

pub lawful_opening : (o : Opening) → o.config.max_in_flight_requests_per_connection ≤ 5 → IsLawful o.partitions (opening o)
lawful_opening o five = lawful_opening_within o five (omega arith)

-- Every world that a schedule leads to.
pub lawful_reached : (o : Opening) (es : List WorldEvent) (w : World) → IsReached o es w → IsLawful o.partitions w
lawful_reached o es w r =
    at_run (IsLawful o.partitions) (λ u g e v s. lawful_step o.partitions e u v s g) es (opening o) w r.run (lawful_opening o (within_five o.config r.may_begin.config))
