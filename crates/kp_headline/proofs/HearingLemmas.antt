-- A reply that the core knew is one that a world gives; any other changes nothing.
use Rattle.std.proofs.Common.{◌≡◌, ◌⊎◌, ℕ, zero, suc, ◌<◌, Bool, true, false, List, [], ◌∷◌, ◌++◌, length, get_or, pos, Some, refl, sym, ap, ◌∙◌, subst, inl, inr, ⊎_elim, arith, Contains}
use Rattle.std.specs.Prelude.{Option, Result, Ok, Err, slice_get, ◌==◌, ◌&&◌}
use Rattle.std.specs.List.{list_all}
use Rattle.std.proofs.lemmas.Bool.{and_parts, eqb-true}
use Rattle.std.proofs.lemmas.Bool.Decides.{Decides-int_eq}
use Rattle.std.proofs.lemmas.List.Sums.{AllPass-from_list_all}
use Rattle.kp_frames.specs.declared.api.Api.TheVariants as api
use Rattle.kp_frames.specs.declared.produce.PartitionProduceResponse.{PartitionProduceResponse}
use Rattle.kp_frames.specs.declared.produce.ProduceResponse.{ProduceResponse}
use Rattle.kp_frames.specs.declared.response.Response.{Response}
use Rattle.kp_frames.specs.declared.response.ResponseBody.{ResponseBody}
use Rattle.kp_frames.specs.declared.response.ResponseBody.TheVariants as body
use Rattle.kp_log.proofs.PlaceLemmas.{In, In-nil, In-cons, In-filter, In-from_contains, contains_from_In}
use Rattle.kp_rules.specs.declared.fault.CoreFault.{CoreFault}
use Rattle.kp_rules.specs.declared.fault.CoreFault.TheVariants as fault
use Rattle.kp_rules.specs.declared.ticked.Replied.{Replied}
use Rattle.kp_rules.specs.Attempts.{awaiting}
use Rattle.kp_rules.specs.Calls.{Step}
use Rattle.kp_rules.specs.Calls as call
use Rattle.kp_rules.specs.Fetched.{after_fetched}
use Rattle.kp_rules.specs.Mismatch.{is_one_topic, entries_of, is_for, entries_for, has_offsets, answers_batches}
use Rattle.kp_rules.specs.Next.{Sending}
use Rattle.kp_rules.specs.Partitions.{partition_at}
use Rattle.kp_rules.specs.Records.{Demand, Produce, Request, Core, Told}
use Rattle.kp_rules.specs.Replies.{Replies, awaited, api_of, response_step, reply_step}
use Rattle.kp_rules.specs.Requesting.{Packet, partitions_in}
use Rattle.kp_rules.proofs.CallLemmas.{at_response, at_reply}
use Rattle.kp_rules.proofs.FetchedLemmas.{response_behind}
use Rattle.kp_rules.proofs.HearingLemmas.{heard_as_response}
use Rattle.kp_rules.proofs.ListLemmas.{all_weaker, at_contained}
use Rattle.kp_world.specs.Client.{reply_line, replying, client}
use Rattle.kp_world.specs.Delivering.{PartsDeliver}
use Rattle.kp_world.specs.Events as event
use Rattle.kp_world.specs.Facts.{Facts}
use Rattle.kp_world.specs.Message.{SaysContent}
use Rattle.kp_world.specs.Noting.{noted}
use Rattle.kp_world.specs.Run.{with_delivery, Steps}
use Rattle.kp_world.specs.World.{PartAnswer, Batches, Reply, World}
use Rattle.kp_world.proofs.EventLemmas.{run_one, run_append}
use Rattle.kp_world.proofs.ListLemmas.{In-map, in_at}
use Rattle.kp_headline.specs.Assumptions.{Repeats, IsReply, IsIdReply, IsNotMadeUp}
use Rattle.kp_headline.specs.Matching.{remembered, IsPartOf, IsGiven, MayAgain, Matches, CanFollow}
use Rattle.kp_headline.specs.Moves.{Calling}
use Rattle.kp_headline.specs.Outside.{Said, State}
use Rattle.kp_headline.proofs.AnsweringLemmas.{all_stay, SaysAgain, Answered_by, AreApart, put_together}
use Rattle.kp_headline.proofs.CallingLemmas.{Leads}
use Rattle.kp_headline.proofs.EventLemmas.{at_moment, run_at, stepped, facts_at, facts_delivered}
use Rattle.kp_headline.proofs.InFlightLemmas.{shrinks_replied, is_of_packet, read_as}
use Rattle.kp_headline.proofs.MatchLemmas.{core_is, same_by, in_flight_still, parts_still, given_still, contained_front, stays_so}
use Rattle.kp_headline.proofs.MeetingLemmas.{arrives, arrival, comes, went_out_there}

-- ---- what a response does

-- It is one to batches in flight, and each of them has one entry.
pub record IsToBatches (response : Response) (s : Core) : Type 0 where
  pub request : Request
  pub partitions : List ℕ
  pub produce : ProduceResponse
  pub in_flight : awaited response.correlation s ≡ Some request
  pub demand : request.demand ≡ Produce partitions
  pub is_produce : response.body ≡ body.Produce produce
  pub fits : answers_batches request.correlation partitions s produce ≡ true

abbrev IsId : ResponseBody → Type 0
IsId (body.InitProducerId x) = Unit {0}
IsId (body.Produce x) = ⊥
IsId (body.Metadata x) = ⊥

-- Nothing changes, or batches are settled, or it has an id.
abbrev pub Does : Response → Core → Replies → Type 0
Does response s x = ((x.after ≡ s) × (x.told ≡ [])) ⊎ (IsToBatches response s ⊎ IsId response.body)

pub does : (now : ℕ) (response : Response) (s : Core) → Does response s (response_step now response s)
does now response s = at_response (Does response s) now response s (record {
  same = λ answer. inl (refl, refl);
  batches = λ r ps produce is demand has fits. inr (inl (record { request = r; partitions = ps; produce = produce; in_flight = is; demand = demand; is_produce = has; fits = fits }));
  id = λ r p x is demand has fits. inr (inr (subst IsId (sym has) tt));
})

-- ---- what is not known changes nothing

abbrev IsUnknown : Result Replied CoreFault → Type 0
IsUnknown (Ok r) = r.known ≡ false
IsUnknown (Err refusal) = Unit {0}

abbrev Leaves : Core → Replies → Type 0
Leaves s x = IsUnknown x.answer → (x.after ≡ s) × (x.told ≡ [])

unknown_leaves : (now : ℕ) (content : List ℕ) (s : Core) → Leaves s (reply_step now content s)
unknown_leaves now content s = at_reply (Leaves s) now content s (λ answer u. (refl, refl)) (λ a x e. at_response (Leaves s) now x s (record {
  same = λ answer u. (refl, refl);
  batches = λ r ps produce is demand has fits u. absurd cc;
  id = λ r p y is demand has fits u. absurd cc;
}))

-- ---- no two entries are for one partition

second_of_four : (a b c d : Bool) → (a && b && c && d) ≡ true → c ≡ true
second_of_four a b c d e = (and_parts (a && b) c (and_parts (a && b && c) d e).0).1

alone : {A : Type 0} (xs : List A) (x y : A) → length xs ≡ 1 → In x xs → In y xs → x ≡ y
alone [] x y e i j = absurd (In-nil x i)
alone (z ∷ []) x y e i j = ⊎_elim (λ (a : x ≡ z). ⊎_elim (λ (b : y ≡ z). a ∙ sym b) (λ (k : In y []). absurd (In-nil y k)) (In-cons y z [] j)) (λ (k : In x []). absurd (In-nil x k)) (In-cons x z [] i)
alone (z ∷ z' ∷ xs) x y e i j = absurd (omega (arith, e))

apart : (s : Core) (k : ℕ) (ps : List ℕ) (produce : ProduceResponse) → answers_batches k ps s produce ≡ true
    → ((x : PartitionProduceResponse) → Contains (entries_of produce) x → (p : ℕ) × Contains ps p × (x.partition ≡ pos p)) → AreApart (entries_of produce)
unfolding answers_batches
apart s k ps produce fits of x y i j same =
    let one : list_all (λ (p : ℕ). length (entries_for p produce) == 1) ps ≡ true = second_of_four (is_one_topic s.names.topic produce.topics)
    (length (entries_of produce) == length ps)
    (list_all (λ (p : ℕ). length (entries_for p produce) == 1) ps)
    (list_all (λ (p : ℕ). list_all (has_offsets (awaiting k (partition_at p s.partitions))) (entries_for p produce)) ps) fits in
    let h = of x i in
    let single : (length (entries_for h.0 produce) == 1) ≡ true = sym (ap (λ (p : ℕ). length (entries_for p produce) == 1) h.1.2) ∙ AllPass-from_list_all (λ (p : ℕ). length (entries_for p produce) == 1) ps one h.1.0 h.0 h.1.1 in
    alone (entries_for h.0 produce) x y (eqb-true (length (entries_for h.0 produce)) 1 single)
    (In-filter (is_for h.0) x (entries_of produce) ((Decides-int_eq x.partition (pos h.0)).1 h.2) (In-from_contains (entries_of produce) x i))
    (In-filter (is_for h.0) y (entries_of produce) ((Decides-int_eq y.partition (pos h.0)).1 (sym same ∙ h.2)) (In-from_contains (entries_of produce) y j))

-- ---- a reply to batches: the packet comes again and changes nothing, and its reply is heard

repeated : (a : State) (w : World) (content : List ℕ) (x : IsReply a content) (e : PartitionProduceResponse) → Matches a w → Repeats a.outside.said x.number e → SaysAgain a.outside.logs x.parts e
repeated a w content x e m r =
    let said : Said = record { packet = x.number; part = r.part; answer = r.answer } in
    let p = at_contained (IsPartOf a.outside.packets w.replies) a.outside.said said m.said r.said in
    let found : Some p.packet ≡ Some x.packet = sym p.went_out ∙ x.went_out in
    let same : p.packet ≡ x.packet = cc in
    let asked : Produce p.parts ≡ Produce x.parts = sym p.demand ∙ ap (λ (o : Packet). o.demand) same ∙ x.demand in
    let parts : p.parts ≡ x.parts = cc in
    record {
      part = r.part;
      place = subst (λ (ps : List Sending). Contains ps r.part) parts p.part;
      answer = r.answer;
      step = at_contained (MayAgain a.outside.logs) a.outside.said said m.again r.said;
      partition = r.partition;
      code = r.code;
      base = r.base;
    }

-- the request in flight to which it is one has the packet's partitions
its_partitions : (a : State) (w : World) (content : List ℕ) (x : IsReply a content) → Matches a w → (to : IsToBatches x.response a.core) → to.partitions ≡ partitions_in x.parts
its_partitions a w content x m to =
    let sent = contains_from_In a.outside.packets x.packet (in_at a.outside.packets x.number x.packet x.went_out) in
    let is : to.request.demand ≡ remembered x.packet.demand = is_of_packet a.core a.outside.packets x.packet x.response.correlation to.request m.in_flight sent x.named to.in_flight in
    let both : Produce to.partitions ≡ Produce (partitions_in x.parts) = sym to.demand ∙ is ∙ ap remembered x.demand in
    cc

answered : (a : State) (w : World) (content : List ℕ) (x : IsReply a content) → Matches a w → IsToBatches x.response a.core → Answered_by a.outside.logs x.parts (entries_of x.produce)
answered a w content x m to =
    put_together a.outside.logs x.parts (entries_of x.produce)
    (all_weaker (Repeats a.outside.said x.number) (SaysAgain a.outside.logs x.parts) (λ e r. repeated a w content x e m r) (entries_of x.produce) x.entries)
    (apart a.core to.request.correlation (partitions_in x.parts) x.produce fits of)
  where
    produces : to.produce ≡ x.produce
    produces = let both : body.Produce to.produce ≡ body.Produce x.produce = sym to.is_produce ∙ x.is_produce in cc

    fits : answers_batches to.request.correlation (partitions_in x.parts) a.core x.produce ≡ true
    fits = subst (λ (y : ProduceResponse). answers_batches to.request.correlation (partitions_in x.parts) a.core y ≡ true) produces
        (subst (λ (ps : List ℕ). answers_batches to.request.correlation ps a.core to.produce ≡ true) (its_partitions a w content x m to) to.fits)

    of : (e : PartitionProduceResponse) → Contains (entries_of x.produce) e → (p : ℕ) × Contains (partitions_in x.parts) p × (e.partition ≡ pos p)
    of e i =
        let r = repeated a w content x e m (at_contained (Repeats a.outside.said x.number) (entries_of x.produce) e x.entries i) in
        (r.part.partition, contains_from_In (partitions_in x.parts) r.part.partition (In-map (λ (y : Sending). y.partition) r.part x.parts (In-from_contains x.parts r.part r.place)), r.partition)

-- ---- in a world

last_there : {A : Type 0} (xs : List A) (x : A) → slice_get (xs ++ x ∷ []) (length xs) ≡ Some x
last_there [] x = refl
last_there (y ∷ xs) x = last_there xs x

there_at : {A : Type 0} (xs : List A) (j : ℕ) (x : A) → j < length xs → get_or xs j x ≡ x → slice_get xs j ≡ Some x
there_at [] j x l e = absurd (omega (arith, l))
there_at (y ∷ xs) zero x l e = ap Some e
there_at (y ∷ xs) (suc j) x l e = there_at xs j x (omega (arith, l)) e

abbrev given : World → Packet → List PartAnswer → Response → World
given w o answers response = with_delivery o (comes w.logs answers w) response w

abbrev heard_in : ℕ → ℕ → Response → World → World
heard_in now j response w =
    let step = response_step now response w.core in
    noted step.after (reply_line j step.answer) step.told (at_moment now w)

abbrev pub told_so : State → List Told → Core → State
told_so a told t = record { core = t; outside = record a.outside { told = a.outside.told ++ told } }

-- what the world hears is what the core heard
hears_so : (a : State) (w : World) (now : ℕ) (content : List ℕ) (response : Response) → Matches a w → reply_step now content a.core ≡ response_step now response a.core
    → response_step now response w.core ≡ after_fetched a.outside.fetched (reply_step now content a.core)
hears_so a w now content response m hears =
    ap (response_step now response) (core_is a w m) ∙ response_behind a.outside.fetched now response a.core ∙ ap (after_fetched a.outside.fetched) (sym hears)

abbrev reply_of : Packet → List PartAnswer → Response → Reply
reply_of o answers response = record { correlation = o.correlation; content = Batches answers; response = response }

to_batches : (a : State) (w : World) (t : Core) (now : ℕ) (content : List ℕ) → Matches a w → (x : IsReply a content) → IsToBatches x.response a.core
    → reply_step now content a.core ≡ response_step now x.response a.core → t ≡ (reply_step now content a.core).after → CanFollow w (told_so a (reply_step now content a.core).told t)
unfolding Steps client with_delivery noted
to_batches a w t now content m x to hears leaves = record {
  events = event.Deliver x.number ∷ event.Now now ∷ event.Reply (length w.replies) ∷ [];
  world = heard_in now (length w.replies) x.response again;
  run = run_append (event.Deliver x.number ∷ []) (event.Now now ∷ event.Reply (length w.replies) ∷ []) w again (heard_in now (length w.replies) x.response again)
      (run_one w (event.Deliver x.number) again (arrives w x.number again (arrival w x.number x.packet x.parts w.logs says.answers x.response (went_out_there a w x.number x.packet m x.went_out) x.demand parts (record { named = x.named; says = said }))))
      (run_at again now (event.Reply (length w.replies)) (heard_in now (length w.replies) x.response again) (ap (λ (o : Option Reply). replying (length w.replies) o (at_moment now again)) (last_there w.replies (reply_of x.packet says.answers x.response))));
  matches = record {
    same = same_by (λ f. f) a w (heard_in now (length w.replies) x.response again) (response_step now x.response w.core) (reply_step now content a.core) t m
        (facts_at now (response_step now x.response w.core).after _ (response_step now x.response w.core).told again
        ∙ ap (stepped (response_step now x.response w.core).after (response_step now x.response w.core).told) (facts_delivered x.packet (comes w.logs says.answers w) x.response w))
        (hears_so a w now content x.response m hears) leaves;
    shut = m.shut;
    said = parts_still a.outside.packets a.outside.packets w.replies (w.replies ++ reply_of x.packet says.answers x.response ∷ []) a.outside.said (λ n o e. e) (contained_front w.replies (reply_of x.packet says.answers x.response ∷ [])) m.said;
    answered = given_still a.outside.packets a.outside.packets w.replies (w.replies ++ reply_of x.packet says.answers x.response ∷ []) a.outside.answered (λ o i. i) (contained_front w.replies (reply_of x.packet says.answers x.response ∷ [])) m.answered;
    again = m.again;
    in_flight = in_flight_still a w (reply_step now content a.core).after t m (shrinks_replied now content a.core) leaves;
  };
}
  where
    says : Answered_by a.outside.logs x.parts (entries_of x.produce)
    says = answered a w content x m to

    again : World
    again = given w x.packet says.answers x.response

    parts : PartsDeliver w.logs x.parts says.answers w.logs
    parts = subst (λ (f : Facts). PartsDeliver f.logs x.parts says.answers f.logs) (sym m.same) (all_stay a.outside.logs x.parts says.answers says.stay)

    said : SaysContent (Batches says.answers) x.response.body
    said = subst (SaysContent (Batches says.answers)) (sym x.is_produce) says.says

-- nothing is heard
nothing_heard : (a : State) (w : World) (t : Core) (y : Replies) → Matches a w → t ≡ y.after → y.after ≡ a.core → y.told ≡ [] → CanFollow w (told_so a y.told t)
nothing_heard a w t y m leaves same silent =
    subst (λ (told : List Told). CanFollow w (told_so a told t)) (sym silent) (stays_so a w t m (leaves ∙ same))

not_produce : (response : Response) (produce : ProduceResponse) → response.body ≡ body.Produce produce → IsId response.body → ⊥
not_produce response produce is h = subst IsId is h

reply_heard : (a : State) (w : World) (t : Core) (now : ℕ) (content : List ℕ) → Matches a w → IsReply a content → t ≡ (reply_step now content a.core).after → CanFollow w (told_so a (reply_step now content a.core).told t)
reply_heard a w t now content m x leaves =
    let sent = contains_from_In a.outside.packets x.packet (in_at a.outside.packets x.number x.packet x.went_out) in
    let hears : reply_step now content a.core ≡ response_step now x.response a.core = heard_as_response api.Produce now content a.core x.response x.spells
    (read_as a.core a.outside.packets x.packet x.response.correlation api.Produce m.in_flight sent x.named (ap (λ (d : Demand Sending). api_of (remembered d)) x.demand)) in
    ⊎_elim
    (λ (none : ((response_step now x.response a.core).after ≡ a.core) × ((response_step now x.response a.core).told ≡ [])).
    nothing_heard a w t (reply_step now content a.core) m leaves (ap (λ (y : Replies). y.after) hears ∙ none.0) (ap (λ (y : Replies). y.told) hears ∙ none.1))
    (λ (some : IsToBatches x.response a.core ⊎ IsId x.response.body). ⊎_elim
    (λ (to : IsToBatches x.response a.core). to_batches a w t now content m x to hears leaves)
    (λ (id : IsId x.response.body). absurd (not_produce x.response x.produce x.is_produce id)) some)
    (does now x.response a.core)

-- ---- a reply with an id, which was given

id_heard : (a : State) (w : World) (t : Core) (now : ℕ) (content : List ℕ) → Matches a w → IsIdReply a content → t ≡ (reply_step now content a.core).after → CanFollow w (told_so a (reply_step now content a.core).told t)
unfolding Steps client noted
id_heard a w t now content m x leaves = record {
  events = event.Now now ∷ event.Reply is.given.0 ∷ [];
  world = heard_in now is.given.0 x.reply.response w;
  run = run_at w now (event.Reply is.given.0) (heard_in now is.given.0 x.reply.response w) (ap (λ (o : Option Reply). replying is.given.0 o (at_moment now w)) (there_at w.replies is.given.0 x.reply is.given.1 is.given.2));
  matches = record {
    same = same_by (λ f. f) a w (heard_in now is.given.0 x.reply.response w) (response_step now x.reply.response w.core) (reply_step now content a.core) t m
        (facts_at now (response_step now x.reply.response w.core).after _ (response_step now x.reply.response w.core).told w)
        (hears_so a w now content x.reply.response m hears) leaves;
    shut = m.shut;
    said = m.said;
    answered = m.answered;
    again = m.again;
    in_flight = in_flight_still a w (reply_step now content a.core).after t m (shrinks_replied now content a.core) leaves;
  };
}
  where
    is : IsGiven a.outside.packets w.replies x.reply
    is = at_contained (IsGiven a.outside.packets w.replies) a.outside.answered x.reply m.answered x.given

    hears : reply_step now content a.core ≡ response_step now x.reply.response a.core
    hears = heard_as_response api.InitProducerId now content a.core x.reply.response x.spells
        (read_as a.core a.outside.packets is.packet x.reply.response.correlation api.InitProducerId m.in_flight is.sent is.named (ap (λ (d : Demand Sending). api_of (remembered d)) is.demand))

-- ---- any reply

refusal_moved : (a : State) (w : World) (t : Core) (now : ℕ) (content : List ℕ) (f : CoreFault) → Matches a w → (reply_step now content a.core).answer ≡ Err f → t ≡ (reply_step now content a.core).after → CanFollow w (told_so a (reply_step now content a.core).told t)
refusal_moved a w t now content f m is leaves =
    let u = unknown_leaves now content a.core (subst IsUnknown (sym is) tt) in
    nothing_heard a w t (reply_step now content a.core) m leaves u.0 u.1

pub reply_moved : (a : State) (w : World) (t : Core) (now : ℕ) (content : List ℕ) (answer : Result Replied CoreFault) → Matches a w → IsNotMadeUp a (Calling (call.Reply now content answer) t) → Step a.core (call.Reply now content answer) t → Leads a w (call.Reply now content answer) t
reply_moved a w t now content (Ok r) m fair step = at_known r.known refl
  where
    at_known : (b : Bool) → r.known ≡ b → CanFollow w (told_so a (reply_step now content a.core).told t)
    at_known true is = ⊎_elim (λ (x : IsReply a content). reply_heard a w t now content m x step.1) (λ (x : IsIdReply a content). id_heard a w t now content m x step.1) (fair is)
    at_known false is =
        let u = unknown_leaves now content a.core (subst IsUnknown (sym step.0) is) in
        nothing_heard a w t (reply_step now content a.core) m step.1 u.0 u.1
reply_moved a w t now content (Err fault.OutOfMemory) m fair step = stays_so a w t m step.1
reply_moved a w t now content (Err fault.Ended) m fair step = refusal_moved a w t now content fault.Ended m step.0 step.1
reply_moved a w t now content (Err fault.CorrelationSpent) m fair step = refusal_moved a w t now content fault.CorrelationSpent m step.0 step.1
reply_moved a w t now content (Err (fault.ReplyFault f)) m fair step = refusal_moved a w t now content (fault.ReplyFault f) m step.0 step.1
