-- A part of a packet that comes alone is a packet that comes whole, of which the broker refuses the other parts unseen.
use Rattle.std.proofs.Common.{◌≡◌, ℕ, zero, suc, ◌<◌, List, [], ◌∷◌, ◌++◌, length, get_or, pos, Some, refl, sym, ap, ◌∙◌, subst, arith, Contains}
use Rattle.std.specs.Prelude.{slice_get, slice_set}
use Rattle.std.proofs.lemmas.List.{get_or-set_same}
use Rattle.kp_wire.proofs.ListLemmas.{all_append}
use Rattle.kp_frames.specs.declared.response.Response.{Response}
use Rattle.kp_frames.specs.declared.response.ResponseBody.TheVariants as body
use Rattle.kp_log.specs.BrokerStep.{Answered, BrokerStep}
use Rattle.kp_log.specs.History.{History, empty_history}
use Rattle.kp_log.proofs.PlaceLemmas.{contains_from_In}
use Rattle.kp_rules.specs.Next.{Sending}
use Rattle.kp_rules.specs.Records.{Demand, Produce}
use Rattle.kp_rules.specs.Requesting.{Packet}
use Rattle.kp_rules.proofs.ListLemmas.{contains_head, contains_tail}
use Rattle.kp_world.specs.Delivering.{Delivery, log_at, PartDelivers, PartsDeliver, IdDelivers, Delivers}
use Rattle.kp_world.specs.Events.{WorldEvent}
use Rattle.kp_world.specs.Events as event
use Rattle.kp_world.specs.Facts.{Facts}
use Rattle.kp_world.specs.Message.{sent_of, Answers}
use Rattle.kp_world.specs.Noting.{noted}
use Rattle.kp_world.specs.Run.{with_delivery, Arrives, Steps}
use Rattle.kp_world.specs.World.{PartAnswer, Batches, Reply, World}
use Rattle.kp_world.proofs.EventLemmas.{run_one}
use Rattle.kp_world.proofs.ListLemmas.{in_at}
use Rattle.kp_headline.specs.Assumptions.{IsHonest, KeepsIdsApart}
use Rattle.kp_headline.specs.Matching.{IsPartOf, IsGiven, MayAgain, Matches, CanFollow}
use Rattle.kp_headline.specs.Moves.{Meeting, Drawing, Comes, Asks, after}
use Rattle.kp_headline.specs.Outside.{State}
use Rattle.kp_headline.proofs.AgainLemmas.{Grows, again_now, grows_step, grown_at, all_again_later}
use Rattle.kp_headline.proofs.AnsweringLemmas.{part_answer, one_stays, unseen, refused}
use Rattle.kp_headline.proofs.EventLemmas.{facts_delivered}
use Rattle.kp_headline.proofs.MatchLemmas.{parts_still, given_still, contained_front, contained_last}

-- ---- a packet comes

pub arrives : (w : World) (k : ℕ) (v : World) → Arrives w k v → Steps w (event.Deliver k) v
unfolding Steps
arrives w k v a = a

abbrev pub comes : List History → List PartAnswer → World → Delivery
comes logs answers w = record { logs = logs; ids = w.ids; content = Batches answers }

pub arrival : (w : World) (k : ℕ) (o : Packet) (xs : List Sending) (logs : List History) (answers : List PartAnswer) (response : Response) → slice_get w.packets k ≡ Some o → o.demand ≡ Produce xs
    → PartsDeliver w.logs xs answers logs → Answers o.correlation (Batches answers) response → Arrives w k (with_delivery o (comes logs answers w) response w)
unfolding Delivers
arrival w k o xs logs answers response there is parts says = record {
  packet = o;
  went_out = there;
  delivery = comes logs answers w;
  honest = subst (λ (d : Demand Sending). Delivers w d (comes logs answers w)) (sym is) (answers, parts, refl, refl);
  response = response;
  answers = says;
  after_is = refl;
}

pub went_out_there : (a : State) (w : World) (k : ℕ) (o : Packet) → Matches a w → slice_get a.outside.packets k ≡ Some o → slice_get w.packets k ≡ Some o
went_out_there a w k o m there = ap (λ (f : Facts). slice_get f.packets k) m.same ∙ there

-- ---- one part of it meets its log

-- what was answered, and among it this
abbrev Met : List History → List Sending → List History → PartAnswer → Type 0
Met before xs logs a = (answers : List PartAnswer) × PartsDeliver before xs answers logs × Contains answers a

others_refused : (xs : List Sending) (logs : List History) → (answers : List PartAnswer) × PartsDeliver logs xs answers logs
unfolding PartsDeliver
others_refused [] logs = ([], refl)
others_refused (x ∷ xs) logs =
    let rest = others_refused xs logs in
    (part_answer x unseen ∷ rest.0, (logs, one_stays logs x (part_answer x unseen) (refused logs x), rest.1))

one_meets : (xs : List Sending) (logs : List History) (j : ℕ) (x : Sending) (answer : Answered) (log : History) → j < length xs → get_or xs j x ≡ x
    → BrokerStep (log_at x.partition logs) (sent_of x.batch) answer log → Met logs xs (slice_set logs x.partition log) (part_answer x answer)
unfolding PartsDeliver
one_meets [] logs j x answer log l at s = absurd (omega (arith, l))
one_meets (y ∷ ys) logs zero x answer log l at s =
    let same : y ≡ x = at in
    let rest = others_refused ys (slice_set logs x.partition log) in
    let one : PartDelivers logs y (part_answer x answer) (slice_set logs x.partition log) = record {
      partition = ap (λ (z : Sending). z.partition) (sym same);
      log = log;
      step = subst (λ (z : Sending). BrokerStep (log_at z.partition logs) (sent_of z.batch) answer log) (sym same) s;
      after_is = ap (λ (z : Sending). slice_set logs z.partition log) (sym same);
    } in
    (part_answer x answer ∷ rest.0, (slice_set logs x.partition log, one, rest.1), contains_head (part_answer x answer) rest.0)
one_meets (y ∷ ys) logs (suc j) x answer log l at s =
    let rest = one_meets ys logs j x answer log (omega (arith, l)) at s in
    (part_answer y unseen ∷ rest.0, (logs, one_stays logs y (part_answer y unseen) (refused logs y), rest.1), contains_tail (part_answer x answer) (part_answer y unseen) rest.0 rest.2)

-- a message that says nothing of any part
abbrev silent : Packet → Response
silent o = record { correlation = pos o.correlation; body = body.Produce (record { topics = []; throttle_time_ms = pos 0 }) }

abbrev reply_of : Packet → List PartAnswer → Response → Reply
reply_of o answers response = record { correlation = o.correlation; content = Batches answers; response = response }

abbrev met_with : ℕ → History → Facts → Facts
met_with p log f = record f { logs = slice_set f.logs p log }

pub met : (a : State) (w : World) (k : ℕ) (x : Sending) (answer : Answered) (log : History) → Matches a w → Comes a k x → IsHonest a (Meeting k x answer log) → CanFollow w (after (Meeting k x answer log) a)
unfolding with_delivery noted
met a w k x answer log m c honest = record {
  events = event.Deliver k ∷ [];
  world = with_delivery c.packet (comes (slice_set w.logs x.partition log) all.0 w) (silent c.packet) w;
  run = run_one w (event.Deliver k) (with_delivery c.packet (comes (slice_set w.logs x.partition log) all.0 w) (silent c.packet) w)
      (arrives w k (with_delivery c.packet (comes (slice_set w.logs x.partition log) all.0 w) (silent c.packet) w) (arrival w k c.packet c.parts (slice_set w.logs x.partition log) all.0 (silent c.packet) (went_out_there a w k c.packet m c.went_out) c.demand all.1 (record { named = refl; says = tt })));
  matches = record {
    same = facts_delivered c.packet (comes (slice_set w.logs x.partition log) all.0 w) (silent c.packet) w ∙ ap (met_with x.partition log) m.same;
    shut = m.shut;
    said = all_append (IsPartOf a.outside.packets (w.replies ++ reply_of c.packet all.0 (silent c.packet) ∷ [])) a.outside.said ((record { packet = k; part = x; answer = answer }) ∷ [])
        (parts_still a.outside.packets a.outside.packets w.replies (w.replies ++ reply_of c.packet all.0 (silent c.packet) ∷ []) a.outside.said (λ n o e. e) (contained_front w.replies (reply_of c.packet all.0 (silent c.packet) ∷ [])) m.said) (part, tt);
    answered = given_still a.outside.packets a.outside.packets w.replies (w.replies ++ reply_of c.packet all.0 (silent c.packet) ∷ []) a.outside.answered (λ o i. i) (contained_front w.replies (reply_of c.packet all.0 (silent c.packet) ∷ [])) m.answered;
    again = all_append (MayAgain (slice_set a.outside.logs x.partition log)) a.outside.said ((record { packet = k; part = x; answer = answer }) ∷ [])
        (all_again_later a.outside.logs (slice_set a.outside.logs x.partition log) a.outside.said grown m.again) (newest, tt);
    in_flight = m.in_flight;
  };
}
  where
    all : Met w.logs c.parts (slice_set w.logs x.partition log) (part_answer x answer)
    all = one_meets c.parts w.logs c.part.0 x answer log c.part.1 c.part.2 (subst (λ (f : Facts). BrokerStep (log_at x.partition f.logs) (sent_of x.batch) answer log) (sym m.same) honest)

    part : IsPartOf a.outside.packets (w.replies ++ reply_of c.packet all.0 (silent c.packet) ∷ []) (record { packet = k; part = x; answer = answer })
    part = record {
      packet = c.packet;
      went_out = c.went_out;
      parts = c.parts;
      demand = c.demand;
      part = c.part;
      reply = reply_of c.packet all.0 (silent c.packet);
      given = contained_last w.replies (reply_of c.packet all.0 (silent c.packet));
      correlation = refl;
      answers = all.0;
      content = refl;
      answer = all.2;
    }

    grown : (q : ℕ) → Grows (log_at q a.outside.logs) (log_at q (slice_set a.outside.logs x.partition log))
    grown = grown_at a.outside.logs x.partition log c.there (grows_step (log_at x.partition a.outside.logs) (sent_of x.batch) answer log honest)

    newest : MayAgain (slice_set a.outside.logs x.partition log) (record { packet = k; part = x; answer = answer })
    newest = subst (λ (h : History). BrokerStep h (sent_of x.batch) answer h) (sym (get_or-set_same a.outside.logs x.partition log empty_history c.there)) (again_now (log_at x.partition a.outside.logs) (sent_of x.batch) answer log honest)

-- ---- a request for an id comes

abbrev drawing : List ℕ → Reply → World → Delivery
drawing ids reply w = record { logs = w.logs; ids = ids; content = reply.content }

abbrev drawn_with : List ℕ → Facts → Facts
drawn_with ids f = record f { ids = ids }

pub drawn : (a : State) (w : World) (k : ℕ) (ids : List ℕ) (reply : Reply) → Matches a w → Asks a k reply → KeepsIdsApart a (Drawing k ids reply) → CanFollow w (after (Drawing k ids reply) a)
unfolding with_delivery noted Delivers
drawn a w k ids reply m c honest = record {
  events = event.Deliver k ∷ [];
  world = with_delivery c.packet (drawing ids reply w) reply.response w;
  run = run_one w (event.Deliver k) (with_delivery c.packet (drawing ids reply w) reply.response w) (arrives w k (with_delivery c.packet (drawing ids reply w) reply.response w) (record {
    packet = c.packet;
    went_out = went_out_there a w k c.packet m c.went_out;
    delivery = drawing ids reply w;
    honest = subst (λ (d : Demand Sending). Delivers w d (drawing ids reply w)) (sym c.demand) (subst (λ (f : Facts). IdDelivers f.logs f.ids reply.content ids) (sym m.same) honest, refl);
    response = reply.response;
    answers = c.answers;
    after_is = refl;
  }));
  matches = record {
    same = facts_delivered c.packet (drawing ids reply w) reply.response w ∙ ap (drawn_with ids) m.same;
    shut = m.shut;
    said = parts_still a.outside.packets a.outside.packets w.replies (w.replies ++ answer ∷ []) a.outside.said (λ n o e. e) (contained_front w.replies (answer ∷ [])) m.said;
    answered = all_append (IsGiven a.outside.packets (w.replies ++ answer ∷ [])) a.outside.answered (reply ∷ [])
        (given_still a.outside.packets a.outside.packets w.replies (w.replies ++ answer ∷ []) a.outside.answered (λ o i. i) (contained_front w.replies (answer ∷ [])) m.answered) (given, tt);
    again = m.again;
    in_flight = m.in_flight;
  };
}
  where
    answer : Reply
    answer = record { correlation = c.packet.correlation; content = reply.content; response = reply.response }

    given : IsGiven a.outside.packets (w.replies ++ answer ∷ []) reply
    given = record {
      packet = c.packet;
      sent = contains_from_In a.outside.packets c.packet (in_at a.outside.packets k c.packet c.went_out);
      partition = c.partition;
      demand = c.demand;
      named = c.answers.named;
      given = subst (λ (n : ℕ). Contains (w.replies ++ answer ∷ []) (record { correlation = n; content = reply.content; response = reply.response })) (sym c.correlation) (contained_last w.replies answer);
    }
