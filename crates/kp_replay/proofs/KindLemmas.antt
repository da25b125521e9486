-- What is in flight, and what was answered, is of the kind of the packet that went out.
use Rattle.std.proofs.Common.{◌≡◌, ℕ, List, [], ◌∷◌, ◌++◌, pos, Some, None, refl, sym, ap, ◌∙◌, subst, ⊎_elim, arith}
use Rattle.std.specs.Prelude.{Option, not}
use Rattle.kp_accum.specs.declared.item.Item.{Item}
use Rattle.kp_frames.specs.declared.api.Api.{Api}
use Rattle.kp_frames.specs.declared.api.Api.TheVariants as api
use Rattle.kp_frames.specs.declared.response.Response.{Response}
use Rattle.kp_frames.specs.declared.response.ResponseBody.{ResponseBody}
use Rattle.kp_frames.specs.declared.response.ResponseBody.TheVariants as body
use Rattle.kp_frames.specs.Response as response
use Rattle.kp_log.proofs.PlaceLemmas.{In, In-append_left}
use Rattle.kp_rules.specs.Appending.{append_step}
use Rattle.kp_rules.specs.Attempts.{asks_for_id, is_live}
use Rattle.kp_rules.specs.Next.{Sending}
use Rattle.kp_rules.specs.Records.{Demand, Produce, InitProducerId, Request, Core}
use Rattle.kp_rules.specs.Replies.{Replies, IsReadAs, api_of, awaited, response_step}
use Rattle.kp_rules.specs.Requesting.{Packet, Requested, go_out, partitions_in, request_of, request_step}
use Rattle.kp_rules.specs.Telling.{at_these, with_partitions}
use Rattle.kp_rules.proofs.CallLemmas.{at_id, at_request, at_response}
use Rattle.kp_world.specs.Client.{sending}
use Rattle.kp_world.specs.Delivering.{Delivers, Delivery, IsError}
use Rattle.kp_world.specs.Events.{WorldEvent}
use Rattle.kp_world.specs.Message.{SaysContent}
use Rattle.kp_world.specs.Noting.{noted}
use Rattle.kp_world.specs.Run.{Steps, with_delivery}
use Rattle.kp_world.specs.World.{Reply, ReplyContent, Batches, Id, World}
use Rattle.kp_world.proofs.EventLemmas.{OfEvent, OfStep, at_step, at_taken}
use Rattle.kp_world.proofs.HearingLemmas.{names_its, same_correlation}
use Rattle.kp_world.proofs.LawfulLemmas.{IsLawful}
use Rattle.kp_world.proofs.LeavingLemmas.{left_appended, left_closed, left_disconnected, left_ended, left_flushed, left_led, left_ticked}
use Rattle.kp_world.proofs.ListLemmas.{in_at, left_in, one_more}

-- ---- kinds

abbrev pub kind_of : Demand Sending → Api
kind_of (Produce xs) = api.Produce
kind_of (InitProducerId p) = api.InitProducerId

abbrev said_by : ReplyContent → Api
said_by (Batches parts) = api.Produce
said_by (Id code id) = api.InitProducerId

-- the packet that was answered
pub record IsTo (packets : List Packet) (r : Response) : Type 0 where
  pub packet : Packet
  pub sent : In packet packets
  pub named : r.correlation ≡ pos packet.correlation
  pub kind : response.api_of r.body ≡ kind_of packet.demand

pub record OfKinds (asked : List Request) (packets : List Packet) (given : List Reply) : Type 0 where
  pub requests : (q : Request) → In q asked → (o : Packet) → In o packets → o.correlation ≡ q.correlation → api_of q.demand ≡ kind_of o.demand
  pub replies : (r : Reply) → In r given → IsTo packets r.response

abbrev pub Kinds : World → Type 0
Kinds w = OfKinds w.core.requests w.packets w.replies

fewer : (rs rs' : List Request) (ps : List Packet) (xs : List Reply) → ((q : Request) → In q rs' → In q rs) → OfKinds rs ps xs → OfKinds rs' ps xs
fewer rs rs' ps xs less k = record { requests = λ q i. k.requests q (less q i); replies = k.replies }

-- ---- answers

says_kind : (c : ReplyContent) (b : ResponseBody) → SaysContent c b → response.api_of b ≡ said_by c
says_kind (Batches parts) (body.Produce x) says = refl
says_kind (Id code id) (body.InitProducerId x) says = refl
says_kind (Batches parts) (body.InitProducerId x) says = absurd says
says_kind (Batches parts) (body.Metadata x) says = absurd says
says_kind (Id code id) (body.Produce x) says = absurd says
says_kind (Id code id) (body.Metadata x) says = absurd says

error_kind : (c : ReplyContent) → IsError c → said_by c ≡ api.InitProducerId
error_kind (Id code id) is = refl
error_kind (Batches parts) is = absurd is

delivered_kind : (w : World) (e : Demand Sending) (d : Delivery) → Delivers w e d → said_by d.content ≡ kind_of e
unfolding Delivers
delivered_kind w (Produce xs) d honest = ap said_by honest.2
delivered_kind w (InitProducerId p) d honest = ⊎_elim
    (λ refused. error_kind d.content refused.0)
    (λ drawn. ⊎_elim (λ (is : IsError d.content). error_kind d.content is) (λ is. ap said_by is) drawn.3)
    honest.0

-- ---- a request goes out

abbrev of_request : Demand Sending → Demand ℕ
of_request (Produce xs) = Produce (partitions_in xs)
of_request (InitProducerId p) = InitProducerId p

same_kind : (d : Demand Sending) → api_of (of_request d) ≡ kind_of d
same_kind (Produce xs) = refl
same_kind (InitProducerId p) = refl

one_goes : (n node : ℕ) (w : World) (d : Demand Sending) → IsLawful n w → Kinds w → OfKinds (w.core.requests ++ request_of node w.moment w.core (of_request d) ∷ []) (w.packets ++ (record { correlation = w.core.correlation; demand = d }) ∷ []) w.replies
one_goes n node w d g k = record {
  requests = λ q i o j same. ⊎_elim
      (λ (q_old : In q w.core.requests). ⊎_elim
      (λ (o_old : In o w.packets). k.requests q q_old o o_old same)
      (λ (o_new : o ≡ packet). let below = g.asked q q_old in let at : o.correlation ≡ w.core.correlation = ap (λ (x : Packet). x.correlation) o_new in absurd (omega (arith, below, at, same)))
      (one_more w.packets packet o j))
      (λ (q_new : q ≡ request). ⊎_elim
      (λ (o_old : In o w.packets). let below = (g.went o o_old).before in let at : q.correlation ≡ w.core.correlation = ap (λ (x : Request). x.correlation) q_new in absurd (omega (arith, below, at, same)))
      (λ (o_new : o ≡ packet). ap (λ (x : Request). api_of x.demand) q_new ∙ same_kind d ∙ ap (λ (x : Packet). kind_of x.demand) (sym o_new))
      (one_more w.packets packet o j))
      (one_more w.core.requests request q i);
  replies = λ r i. let x = k.replies r i in record { packet = x.packet; sent = In-append_left x.packet w.packets (packet ∷ []) x.sent; named = x.named; kind = x.kind };
}
  where
    packet : Packet
    packet = record { correlation = w.core.correlation; demand = d }

    request : Request
    request = request_of node w.moment w.core (of_request d)

goes : (n node : ℕ) (w : World) → IsLawful n w → Kinds w → Kinds (sending w (request_step node w.moment w.core).after (request_step node w.moment w.core).answer)
unfolding noted
goes n node w g k = at_request (λ (r : Requested). Kinds (sending w r.after r.answer)) node w.moment w.core (record { ended = k; idle = k; spent = k; out = λ going d wanted unspent. out d })
  where
    out : (d : Demand Sending) → Kinds (sending w (go_out node w.moment w.core d).after (go_out node w.moment w.core d).answer)
    out (Produce xs) = one_goes n node w (Produce xs) g k
    out (InitProducerId p) = one_goes n node w (InitProducerId p) g k

-- ---- a reply comes

fewer_awaited : (now : ℕ) (x : Response) (s : Core) (q : Request) → In q (response_step now x s).after.requests → In q s.requests
unfolding at_these with_partitions
fewer_awaited now x s q = at_response (λ (y : Replies). In q y.after.requests → In q s.requests) now x s (record {
  same = λ answer i. i;
  batches = λ r ps produce named demand body answers i. (left_in (is_live _) s.requests q i).0;
  id = λ r p response named demand body answers. at_id (λ (t : Core). In q t.requests → In q s.requests) now p response s (record {
    wanted = λ given i. (left_in (λ r. not (asks_for_id r)) s.requests q i).0;
    unwanted = λ i. (left_in (λ r. not (asks_for_id r)) s.requests q i).0;
    refused = λ i. (left_in (λ r. not (asks_for_id r)) s.requests q i).0;
  });
})

-- ---- a step

kinds_client : (n : ℕ) (w : World) → IsLawful n w → Kinds w → OfEvent (λ e v. Kinds v) w
unfolding noted
kinds_client n w g k = record {
  not_accepted = λ s p at body. (k, k);
  accepted = λ s p at body here there going fits. k;
  none_taken = λ s none. k;
  taken = λ s i there is. let after : OfKinds (append_after i).requests w.packets w.replies = fewer w.core.requests (append_after i).requests w.packets w.replies (left_appended (λ p b. Unit {0}) i w.core).requests k in at_taken Kinds s i w after after;
  now = λ moment. k;
  tick = λ node. fewer w.core.requests _ w.packets w.replies (left_ticked (λ p b. Unit {0}) node w.moment w.core).requests k;
  send = λ node. goes n node w g k;
  reply = λ j r is. fewer w.core.requests _ w.packets w.replies (fewer_awaited w.moment r.response w.core) k;
  lost = λ node. fewer w.core.requests _ w.packets w.replies (left_disconnected (λ p b. Unit {0}) node w.moment w.core).requests k;
  led = λ p node. fewer w.core.requests _ w.packets w.replies (left_led (λ p b. Unit {0}) p node w.moment w.core).requests k;
  close = fewer w.core.requests _ w.packets w.replies (left_closed (λ p b. Unit {0}) w.core).requests k;
  end = fewer w.core.requests _ w.packets w.replies (left_ended (λ p b. Unit {0}) w.core).requests k;
  flush = fewer w.core.requests _ w.packets w.replies (left_flushed (λ p b. Unit {0}) w.core).requests k;
}
  where
    append_after : Item → Core
    append_after i = (append_step i w.core).after

kinds_event : (n : ℕ) (w : World) → IsLawful n w → Kinds w → OfStep (λ e v. Kinds v) w
unfolding noted with_delivery
kinds_event n w g k = record {
  client = kinds_client n w g k;
  arrives = λ j o d x is honest says. record {
    requests = k.requests;
    replies = λ r i. ⊎_elim (λ (old : In r w.replies). k.replies r old)
        (λ new. subst (λ (y : Reply). IsTo w.packets y.response) (sym new) (record {
          packet = o;
          sent = in_at w.packets j o is;
          named = says.named;
          kind = says_kind d.content x.body says.says ∙ delivered_kind w o.demand d honest;
        })) (one_more w.replies _ r i);
  };
  others = λ p records there within. k;
}

pub kinds_step : (n : ℕ) (e : WorldEvent) (w v : World) → Steps w e v → IsLawful n w → Kinds w → Kinds v
kinds_step n e w v s g k = at_step (λ e. Kinds) w (kinds_event n w g k) e v s

-- ---- a reply is read as what it is

pub read-as : (w : World) (r : Reply) → Kinds w → In r w.replies → IsReadAs (response.api_of r.response.body) (awaited r.response.correlation w.core)
read-as w r k i = at-request (awaited r.response.correlation w.core) refl
  where
    x : IsTo w.packets r.response
    x = k.replies r i

    at-request : (o : Option Request) → awaited r.response.correlation w.core ≡ o → IsReadAs (response.api_of r.response.body) o
    at-request None e = tt
    at-request (Some q) e =
        let its = names_its r.response.correlation w.core q e in
        k.requests q its.0 x.packet x.sent (same_correlation x.packet.correlation q.correlation (sym (its.1 ∙ x.named))) ∙ sym x.kind
