-- The laws of every run on audits, on the first batch under an id, and on a partition's ids.
use Rattle.std.proofs.Common.{◌≡◌, ◌⊎◌, ℕ, suc, ◌<◌, Bool, true, false, cond, List, [], ◌∷◌, length, map, ℤ, pos, Some, None, refl, sym, ap, ◌∙◌, subst, inl, inr, ⊎_elim, arith}
use Rattle.std.specs.Prelude.{Option, Ok, filter, if◌then◌else◌, nat_abs, slice_get, ◌==◌, ◌||◌}
use Rattle.std.specs.List.{list_any}
use Rattle.std.specs.Ordering.{int_eq}
use Rattle.std.proofs.lemmas.Bool.{eq-eqb, true≢false}
use Rattle.std.proofs.lemmas.Bool.Decides.{Decides-int_eq}
use Rattle.std.proofs.lemmas.List.{get_or-set_same}
use Rattle.kp_accum.specs.declared.item.Item.{Item}
use Rattle.kp_frames.specs.declared.producer_id.InitProducerIdResponse.{InitProducerIdResponse}
use Rattle.kp_frames.specs.declared.response.Response.{Response}
use Rattle.kp_frames.specs.declared.response.ResponseBody.{ResponseBody}
use Rattle.kp_frames.specs.declared.response.ResponseBody.TheVariants as body
use Rattle.kp_frames.specs.declared.fault.FrameFault.TheVariants.{Mismatch}
use Rattle.kp_log.specs.declared.stored.Stored.{Stored}
use Rattle.kp_log.specs.History.{History, is_under, own, records_of}
use Rattle.kp_log.specs.Log.{count_of}
use Rattle.kp_log.proofs.PlaceLemmas.{In, In-nil, In-cons, In-head, In-tail, In-append_left, In-from_contains, contains_from_In}
use Rattle.kp_rules.specs.declared.fault.CoreFault.TheVariants as fault
use Rattle.kp_rules.specs.declared.outcome.Outcome.TheVariants.{Delivered, DeliveredNoOffset}
use Rattle.kp_rules.specs.HandingOver.{audited, hand_over_in}
use Rattle.kp_rules.specs.MaySend.{wants_id}
use Rattle.kp_rules.specs.Mismatch.{answers_id}
use Rattle.kp_rules.specs.Partitions.{is_in, new_partition, with_partition}
use Rattle.kp_rules.specs.Records.{Demand, InitProducerId, HandedBatch, Partition, Request, Core, Told, quietly}
use Rattle.kp_rules.specs.Replies.{Replies, awaited, go_on_under, give_id, settle_id, refuse_as, unknown, known, settle, response_step}
use Rattle.kp_rules.proofs.CallLemmas.{idle}
use Rattle.kp_rules.proofs.ListLemmas.{all_weaker}
use Rattle.kp_world.specs.Accounts.{items_handed}
use Rattle.kp_world.specs.Client.{client, handed_at, reply_line, replying}
use Rattle.kp_world.specs.Delivering.{given, log_at}
use Rattle.kp_world.specs.Events.{WorldEvent}
use Rattle.kp_world.specs.Events as event
use Rattle.kp_world.specs.Facts.{facts, told_in}
use Rattle.kp_world.specs.FreshIds.{AreDrawn, GivesId, GoesOnUnder, KeepsIds}
use Rattle.kp_world.specs.Handed.{IsAudited, WasDelivered, FirstWasDelivered}
use Rattle.kp_world.specs.Message.{SaysContent}
use Rattle.kp_world.specs.Noting.{noted}
use Rattle.kp_world.specs.Run.{Steps, IsReached}
use Rattle.kp_world.specs.World.{Reply, World, Opening}
use Rattle.kp_world.proofs.AccountRunLemmas.{IsInOrder, order_reached}
use Rattle.kp_world.proofs.AuditedLemmas.{are_runs}
use Rattle.kp_world.proofs.FaredLemmas.{at, in_places, PartStep, Faring, Handing, GoingOn, part_step}
use Rattle.kp_world.proofs.FaringLemmas.{WasHeard}
use Rattle.kp_world.proofs.KeptLemmas.{kept_reached}
use Rattle.kp_world.proofs.ListLemmas.{in_at}
use Rattle.kp_world.proofs.PrefixLemmas.{Cut, any_known}
use Rattle.kp_world.proofs.SoundLemmas.{Sound, count_none}
use Rattle.kp_world.proofs.StandingLemmas.{counts_first, each_delivery_has_its_offset}

-- ---- the audit

pub is_audited : (o : Opening) (es : List WorldEvent) (w : World) → IsReached o es w → (p : ℕ) → p < o.partitions → IsAudited o.audits p (facts w)
is_audited o es w r p l = at_audits o.audits ((kept_reached o es w r).1 p l).audit
  where
    at_audits : (audits : Bool) → (at p w.core).audit ≡ (if audits then Some (audited [] (items_handed p (facts w))) else None) → IsAudited audits p (facts w)
    at_audits true e = (audited [] (items_handed p (facts w)), e, are_runs (items_handed p (facts w)))
    at_audits false e = e

-- ---- the first batch under an id

was_delivered : (o : Opening) (es : List WorldEvent) (w : World) → IsReached o es w → (i : Item) → WasHeard (told_in w.past) i → WasDelivered (facts w) i
was_delivered o es w r i h = ⊎_elim
    (λ (x : (offset : ℤ) × (h.it.outcome ≡ Delivered offset)). (x.0, contains_from_In (told_in w.past) (told x.0) (subst (λ (t : Told). In t (told_in w.past)) (it_is x.0 x.1) h.there)))
    (λ (none : h.it.outcome ≡ DeliveredNoOffset). absurd (each_delivery_has_its_offset o es w r h.it (contains_from_In (told_in w.past) h.it h.there) none))
    h.stored
  where
    told : ℤ → Told
    told offset = record { item = i; outcome = Delivered offset }

    it_is : (offset : ℤ) → h.it.outcome ≡ Delivered offset → h.it ≡ told offset
    it_is offset e = ap (λ (j : Item). let t : Told = record { item = j; outcome = h.it.outcome } in t) h.item ∙ ap (λ x. let t : Told = record { item = i; outcome = x } in t) e

pub first_was_delivered : (o : Opening) (es : List WorldEvent) (w : World) → IsReached o es w → (p : ℕ) → p < o.partitions → FirstWasDelivered p (facts w)
first_was_delivered o es w r p l b c i j same zero_sequence above =
    all_weaker (WasHeard (told_in w.past)) (WasDelivered (facts w)) (was_delivered o es w r) b.items
    (((kept_reached o es w r).1 p l).second b c (In-from_contains (handed_at p w.handed) b i) (In-from_contains (handed_at p w.handed) c j) same zero_sequence above)

-- ---- a partition's ids

place_in : (p : ℕ) (ps : List ℕ) → In p ps → is_in p ps ≡ true
place_in p [] i = absurd (In-nil p i)
place_in p (q ∷ ps) i = ⊎_elim
    (λ (same : p ≡ q). ap (λ (b : Bool). b || is_in p ps) (eq-eqb q p (sym same)))
    (λ (j : In p ps). at_test (q == p) (place_in p ps j))
    (In-cons p q ps i)
  where
    at_test : (b : Bool) → is_in p ps ≡ true → b || is_in p ps ≡ true
    at_test true e = refl
    at_test false e = e

-- a record under one of these ids
under_one : (z : ℤ) (ids : List ℕ) → list_any (int_eq z) (map pos ids) ≡ true → (id : ℕ) × In id ids × (z ≡ pos id)
under_one z [] e = absurd cc
under_one z (x ∷ ids) e = at_test (int_eq z (pos x)) refl e (under_one z ids)
  where
    at_test : (b : Bool) → int_eq z (pos x) ≡ b → b || list_any (int_eq z) (map pos ids) ≡ true → (list_any (int_eq z) (map pos ids) ≡ true → (id : ℕ) × In id ids × (z ≡ pos id)) → (id : ℕ) × In id (x ∷ ids) × (z ≡ pos id)
    at_test true is e' later = (x, In-head x ids, (Decides-int_eq z (pos x)).0 is)
    at_test false is e' later = let k = later e' in (k.0, In-tail k.0 x ids k.1, k.2)

-- Where nothing is under the other ids that were drawn, these ids read what all read.
read_alike : (ids drawn : List ℕ) → ((id : ℕ) → In id ids → In id drawn) → (rs : List Stored) → ((id : ℕ) → In id drawn → In id ids ⊎ (count_of (pos id) rs ≡ 0)) → own drawn rs ≡ own ids rs
unfolding own
read_alike ids drawn more [] none = refl
read_alike ids drawn more (r ∷ rs) none =
    ap (λ (b : Bool). cond b (r ∷ filter (is_under (map pos drawn)) rs) (filter (is_under (map pos drawn)) rs)) (at_tests (is_under (map pos drawn) r) (is_under (map pos ids) r) refl refl)
    ∙ ap (λ (z : List Stored). cond (is_under (map pos ids) r) (r ∷ z) z) (read_alike ids drawn more rs later)
  where
    others : (b : Bool) (n : ℕ) → cond b (suc n) n ≡ 0 → n ≡ 0
    others true n e = absurd (omega (arith, e))
    others false n e = e

    later : (id : ℕ) → In id drawn → In id ids ⊎ (count_of (pos id) rs ≡ 0)
    later id i = ⊎_elim (λ (j : In id ids). inl j) (λ (zero_of : count_of (pos id) (r ∷ rs) ≡ 0). inr (others (int_eq r.producer_id (pos id)) (count_of (pos id) rs) zero_of)) (none id i)

    known_id : (id : ℕ) → r.producer_id ≡ pos id → (is : List ℕ) → In id is → is_under (map pos is) r ≡ true
    known_id id e is i = ap (λ (z : ℤ). list_any (int_eq z) (map pos is)) e ∙ any_known id is i

    at_tests : (b c : Bool) → is_under (map pos drawn) r ≡ b → is_under (map pos ids) r ≡ c → b ≡ c
    at_tests true true x y = refl
    at_tests false false x y = refl
    at_tests false true x y =
        let k = under_one r.producer_id ids y in absurd (true≢false (sym (known_id k.0 k.2 drawn (more k.0 k.1)) ∙ x))
    at_tests true false x y =
        let k = under_one r.producer_id drawn x in
        absurd (⊎_elim
        (λ (j : In k.0 ids). true≢false (sym (known_id k.0 k.2 ids j) ∙ y))
        (λ (zero_of : count_of (pos k.0) (r ∷ rs) ≡ 0). counts_first (pos k.0) r rs k.2 zero_of)
        (none k.0 k.1))

-- what is under no id of the partition's is not under one that was drawn
none_beside : (drawn : List ℕ) (t : Partition) (handed : List HandedBatch) (h : History) → Sound drawn t handed h → Cut t handed h → (id : ℕ) → In id drawn → In id t.ids ⊎ (count_of (pos id) h.records ≡ 0)
none_beside drawn t handed h s cut id i = at_test (is_in id t.ids) refl
  where
    at_test : (b : Bool) → is_in id t.ids ≡ b → In id t.ids ⊎ (count_of (pos id) h.records ≡ 0)
    at_test true is = inl (in_places id t.ids is)
    at_test false is = inr (s.came.counted id i ∙ ap (λ z. count_of (pos id) (records_of z)) cut.appended ∙ count_none id cut.landed (λ b j same.
        true≢false (sym (place_in id t.ids (subst (λ (n : ℕ). In n t.ids) same (s.under b (subst (λ (bs : List HandedBatch). In b bs) (sym cut.split) (In-append_left b cut.landed cut.rest j))))) ∙ is)))

pub are_drawn : (o : Opening) (es : List WorldEvent) (w : World) → IsReached o es w → (p : ℕ) → p < o.partitions → AreDrawn p (facts w)
are_drawn o es w r p l =
    let kept = kept_reached o es w r in
    let both = kept.0.0.agree p l in
    record {
      distinct = (kept.1 p l).distinct;
      drawn = λ id c. contains_from_In w.ids id (both.sound.drawn_all id (In-from_contains (at p w.core).ids id c));
      alone = read_alike (at p w.core).ids w.ids both.sound.drawn_all (log_at p w.logs).records (none_beside w.ids (at p w.core) (handed_at p w.handed) (log_at p w.logs) both.sound both.steady.cut);
    }

-- ---- an id is given

keeps_ids : (n p : ℕ) (w : World) → IsInOrder n w → p < n → (e : WorldEvent) (v : World) → Steps w e v → KeepsIds p e w v
unfolding hand_over_in
keeps_ids n p w g l e v s = at_part (part_step n p w g l e v s)
  where
    at_part : PartStep e w v p → KeepsIds p e w v
    at_part (Faring x) = inl x.fares.ids
    at_part (Handing x) = inl (ap (λ (t : Partition). t.ids) x.after_is)
    at_part (GoingOn x) = inr (x.id, x.gives)

pub ids_are_kept : (o : Opening) (es : List WorldEvent) (w : World) (e : WorldEvent) (v : World) → IsReached o es w → Steps w e v → (p : ℕ) → p < o.partitions → KeepsIds p e w v
ids_are_kept o es w e v r s p l = keeps_ids o.partitions p w (order_reached o es w r) l e v s

-- the message that says that this id is given
given_by : (id : ℕ) (b : ResponseBody) → SaysContent (given id) b → (x : InitProducerIdResponse) × (b ≡ body.InitProducerId x) × (x.error_code ≡ pos 0) × (x.producer_id ≡ pos id)
given_by id (body.Produce x) says = absurd says
given_by id (body.Metadata x) says = absurd says
given_by id (body.InitProducerId x) says = (x, refl, says.0, says.1 refl)

abbrev by_end : Core → Bool → Replies → Replies
by_end s ended heard = if ended then refuse_as fault.Ended s else heard

abbrev by_validity : ℕ → ℕ → InitProducerIdResponse → Core → Bool → Replies
by_validity now p x s valid = if valid then known (quietly (settle_id now p x s) 0) else refuse_as (fault.ReplyFault Mismatch) s

heard_as : (now : ℕ) (response : Response) (s : Core) (q : Request) (p : ℕ) (x : InitProducerIdResponse) → awaited response.correlation s ≡ Some q → q.demand ≡ InitProducerId p → response.body ≡ body.InitProducerId x
    → response_step now response s ≡ by_end s s.ended (by_validity now p x s (answers_id x))
unfolding response_step
heard_as now response s q p x who demand is =
    ap (λ (o : Option Request). by_end s s.ended (elim o [ None ↦ unknown s | Some r ↦ settle now s r.correlation r.demand response.body ])) who
    ∙ ap (λ (d : Demand ℕ). by_end s s.ended (settle now s q.correlation d response.body)) demand
    ∙ ap (λ (b : ResponseBody). by_end s s.ended (settle now s q.correlation (InitProducerId p) b)) is

settled : (now p id : ℕ) (x : InitProducerIdResponse) (s : Core) → x.error_code ≡ pos 0 → x.producer_id ≡ pos id → wants_id s.config (at p s) ≡ true → settle_id now p x s ≡ with_partition p (go_on_under id (at p s)) (idle s)
settled now p id x s code is wants =
    ap (λ (b : Bool). if b then give_id (nat_abs x.producer_id) p (idle s) else record (idle s) { id_waits = Some now }) ((Decides-int_eq x.error_code (pos 0)).1 code)
    ∙ ap (λ (z : ℤ). give_id (nat_abs z) p (idle s)) is
    ∙ ap (λ (b : Bool). if b then with_partition p (go_on_under id (at p s)) (idle s) else idle s) wants

-- the partition in the core after a reply that gives it an id
gone_on : (now p id : ℕ) (x : InitProducerIdResponse) (s : Core) → x.error_code ≡ pos 0 → x.producer_id ≡ pos id → wants_id s.config (at p s) ≡ true → p < length s.partitions
    → (by_end s s.ended (by_validity now p x s (answers_id x))).answer ≡ Ok (record { known = true; reports = 0 }) → at p (by_end s s.ended (by_validity now p x s (answers_id x))).after ≡ go_on_under id (at p s)
gone_on now p id x s code is wants l = at_end s.ended (answers_id x)
  where
    at_end : (ended valid : Bool) → (by_end s ended (by_validity now p x s valid)).answer ≡ Ok (record { known = true; reports = 0 }) → at p (by_end s ended (by_validity now p x s valid)).after ≡ go_on_under id (at p s)
    at_end true valid e = absurd cc
    at_end false false e = absurd cc
    at_end false true e = ap (at p) (settled now p id x s code is wants) ∙ get_or-set_same s.partitions p (go_on_under id (at p s)) (new_partition 0) l

replied : (p j : ℕ) (r : Reply) (w v : World) → slice_get w.replies j ≡ Some r → Steps w (event.Reply j) v → at p v.core ≡ at p (response_step w.moment r.response w.core).after
unfolding Steps client noted
replied p j r w v there s =
    let e : replying j (Some r) w ≡ Some v = sym (ap (λ (o : Option Reply). replying j o w) there) ∙ s in
    let is : noted (response_step w.moment r.response w.core).after (reply_line j (response_step w.moment r.response w.core).answer) (response_step w.moment r.response w.core).told w ≡ v = cc in
    ap (λ (u : World). at p u.core) (sym is)

pub goes_on_under : (o : Opening) (es : List WorldEvent) (w : World) (e : WorldEvent) (v : World) → IsReached o es w → Steps w e v → (p id : ℕ) → p < o.partitions → GivesId w e p id → GoesOnUnder p id (facts w) (facts v)
goes_on_under o es w e v r s p id l x =
    let g = (order_reached o es w r).0 in
    let answers = (g.gave x.reply (in_at w.replies x.number x.reply x.came)).answers in
    let it = given_by id x.reply.response.body (subst (λ c. SaysContent c x.reply.response.body) x.content answers.says) in
    let who : awaited x.reply.response.correlation w.core ≡ Some x.request = ap (λ (k : ℤ). awaited k w.core) answers.named ∙ x.in_flight in
    let is = heard_as w.moment x.reply.response w.core x.request p it.0 who x.demand it.1 in
    let after : at p (response_step w.moment x.reply.response w.core).after ≡ go_on_under id (at p w.core) =
    ap (λ (y : Replies). at p y.after) is ∙ gone_on w.moment p id it.0 w.core it.2 it.3 x.wanted (subst (λ (m : ℕ). p < m) (sym g.count) l) (ap (λ (y : Replies). y.answer) (sym is) ∙ x.known) in
    let came : at p v.core ≡ at p (response_step w.moment x.reply.response w.core).after = replied p x.number x.reply w v x.came (subst (λ (y : WorldEvent). Steps w y v) x.is_reply s) in
    record { ids = ap (λ (t : Partition). t.ids) (came ∙ after); sequence = ap (λ (t : Partition). t.next_sequence) (came ∙ after) }
