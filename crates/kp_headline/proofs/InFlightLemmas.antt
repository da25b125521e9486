-- The core remembers what is in flight: what went out under the correlation id of a request in flight is this request,
-- whatever is called.
use Rattle.std.proofs.Common.{◌≡◌, ◌⊎◌, ℕ, ◌+◌, ◌<◌, List, [], ◌∷◌, ◌++◌, pos, Some, None, refl, sym, ap, ◌∙◌, subst, inl, inr, ⊎_elim, arith, Contains}
use Rattle.std.specs.Prelude.{ℤ, Option, Result, Ok, Err}
use Rattle.std.specs.List.{AllByRecursion}
use Rattle.std.specs.Ordering.{int_eq}
use Rattle.std.proofs.lemmas.Bool.Decides.{Decides-int_eq}
use Rattle.kp_wire.proofs.ListLemmas.{all_append}
use Rattle.kp_accum.specs.declared.item.Item.{Item}
use Rattle.kp_frames.specs.declared.api.Api.{Api}
use Rattle.kp_frames.specs.declared.response.Response.{Response}
use Rattle.kp_log.proofs.PlaceLemmas.{In, In-from_contains, contains_from_In}
use Rattle.kp_rules.specs.declared.fault.CoreFault.{CoreFault}
use Rattle.kp_rules.specs.Appending.{Appends, append_step}
use Rattle.kp_rules.specs.Closing.{close_step, end_step}
use Rattle.kp_rules.specs.Dropping.{drop_requests, disconnect_step}
use Rattle.kp_rules.specs.Flush.{flush_step}
use Rattle.kp_rules.specs.Next.{Sending}
use Rattle.kp_rules.specs.Leading.{lead_step}
use Rattle.kp_rules.specs.Records.{Demand, Produce, InitProducerId, Request, Core, Called}
use Rattle.kp_rules.specs.Replies.{Replies, api_of, awaited, response_step, reply_step, IsReadAs}
use Rattle.kp_rules.specs.Requesting.{Packet, Requested, request_of, sent_out, request_step}
use Rattle.kp_rules.specs.Telling.{with_partitions, at_each, at_these}
use Rattle.kp_rules.specs.Tick.{Ticks, tick_step}
use Rattle.kp_rules.proofs.CallLemmas.{at_append, at_request, at_id, at_response, at_reply, at_tick, at_end_step, at_disconnect, at_close}
use Rattle.kp_rules.proofs.ListLemmas.{found, at_contained, all_weaker, all_filter}
use Rattle.kp_world.proofs.ListLemmas.{one_more}
use Rattle.kp_headline.specs.Matching.{remembered, IsOfPackets, Remembers}

-- ---- calls after which no more is in flight

pub record Shrinks (s t : Core) : Type 1 where
  pub correlation : t.correlation ≡ s.correlation
  pub requests : (P : Request → Type 0) → AllByRecursion P s.requests → AllByRecursion P t.requests

pub shrinks_not : (s : Core) → Shrinks s s
shrinks_not s = record { correlation = refl; requests = λ P h. h }

pub remembers_still : (s t : Core) (packets : List Packet) → Shrinks s t → Remembers s packets → Remembers t packets
remembers_still s t packets h k = record {
  used = subst (λ (n : ℕ). AllByRecursion (λ (x : Packet). x.correlation < n) packets) (sym h.correlation) k.used;
  requests = h.requests (IsOfPackets t.correlation packets) (subst (λ (n : ℕ). AllByRecursion (IsOfPackets n packets) s.requests) (sym h.correlation) k.requests);
}

pub shrinks_appended : (i : Item) (s : Core) → Shrinks s (append_step i s).after
shrinks_appended i s = at_append (λ (x : Appends). Shrinks s x.after) i s (record {
  outside = shrinks_not s;
  past_end = λ m e. record { correlation = refl; requests = λ P h. h };
  by_fence = λ m e f. record { correlation = refl; requests = λ P h. h };
  full = record { correlation = refl; requests = λ P h. h };
  room = λ m e f r. record { correlation = refl; requests = λ P h. h };
})

shrinks_dropped : (node now : ℕ) (s : Core) → Shrinks s (drop_requests node now s)
unfolding drop_requests
shrinks_dropped node now s = record { correlation = refl; requests = λ P h. all_filter P _ s.requests h }

pub shrinks_ticked : (node now : ℕ) (s : Core) → Shrinks s (tick_step node now s).after
unfolding at_each with_partitions drop_requests
shrinks_ticked node now s = at_tick (λ (x : Ticks). Shrinks s x.after) node now s (record {
  ended = shrinks_not s;
  timed_out = record { correlation = refl; requests = λ P h. all_filter P _ _ (all_filter P _ s.requests h) };
  on_time = record { correlation = refl; requests = λ P h. all_filter P _ s.requests h };
})

shrinks_response : (now : ℕ) (response : Response) (s : Core) → Shrinks s (response_step now response s).after
unfolding at_these with_partitions
shrinks_response now response s = at_response (λ (x : Replies). Shrinks s x.after) now response s (record {
  same = λ answer. shrinks_not s;
  batches = λ r ps produce is demand body fits. record { correlation = refl; requests = λ P h. all_filter P _ s.requests h };
  id = λ r p x is demand body fits. at_id (Shrinks s) now p x s (record {
    wanted = λ given. record { correlation = refl; requests = λ P h. all_filter P _ s.requests h };
    unwanted = record { correlation = refl; requests = λ P h. all_filter P _ s.requests h };
    refused = record { correlation = refl; requests = λ P h. all_filter P _ s.requests h };
  });
})

pub shrinks_replied : (now : ℕ) (content : List ℕ) (s : Core) → Shrinks s (reply_step now content s).after
shrinks_replied now content s = at_reply (λ (x : Replies). Shrinks s x.after) now content s (λ answer. shrinks_not s) (λ a x e. shrinks_response now x s)

pub shrinks_ended : (s : Core) → Shrinks s (end_step s).after
unfolding at_each with_partitions
shrinks_ended s = at_end_step (λ (x : Called ℕ). Shrinks s x.after) s (shrinks_not s) (record { correlation = refl; requests = λ P h. tt })

pub shrinks_disconnected : (node now : ℕ) (s : Core) → Shrinks s (disconnect_step node now s)
shrinks_disconnected node now s = at_disconnect (Shrinks s) node now s (shrinks_not s) (shrinks_dropped node now s)

pub shrinks_led : (p leader now : ℕ) (s : Core) → Shrinks s (lead_step p leader now s)
unfolding lead_step
shrinks_led p leader now s = record { correlation = refl; requests = λ P h. all_filter P _ s.requests h }

pub shrinks_closed : (s : Core) → Shrinks s (close_step s)
shrinks_closed s = at_close (Shrinks s) s (shrinks_not s) (record { correlation = refl; requests = λ P h. h })

pub shrinks_flushed : (s : Core) → Shrinks s (flush_step s)
unfolding flush_step
shrinks_flushed s = record { correlation = refl; requests = λ P h. h }

-- ---- a request goes out

abbrev pub AfterRequest : ℕ → ℕ → Core → Result (Option Packet) CoreFault → Core → Type 0
AfterRequest node now s (Ok (Some x)) t = (x.correlation ≡ s.correlation) × (t ≡ sent_out node now s x.demand)
AfterRequest node now s (Ok None) t = t ≡ s
AfterRequest node now s (Err f) t = t ≡ s

pub after_request : (node now : ℕ) (s : Core) → AfterRequest node now s (request_step node now s).answer (request_step node now s).after
after_request node now s = at_request (λ (x : Requested). AfterRequest node now s x.answer x.after) node now s (record { ended = refl; idle = refl; spent = refl; out = λ e d is going. (refl, refl) })

cases : (packets : List Packet) (o x : Packet) → Contains (packets ++ o ∷ []) x → Contains packets x ⊎ (x ≡ o)
cases packets o x i = ⊎_elim (λ (j : In x packets). inl (contains_from_In packets x j)) (λ (e : x ≡ o). inr e) (one_more packets o x (In-from_contains (packets ++ o ∷ []) x i))

pub remembers_one_more : (node now : ℕ) (s : Core) (packets : List Packet) (o : Packet) → o.correlation ≡ s.correlation → Remembers s packets → Remembers (sent_out node now s o.demand) (packets ++ o ∷ [])
remembers_one_more node now s packets o named k = at_demand o.demand refl
  where
    used : AllByRecursion (λ (x : Packet). x.correlation < s.correlation + 1) (packets ++ o ∷ [])
    used = all_append (λ (x : Packet). x.correlation < s.correlation + 1) packets (o ∷ [])
        (all_weaker (λ (x : Packet). x.correlation < s.correlation) (λ (x : Packet). x.correlation < s.correlation + 1) (λ x h. omega (arith, h)) packets k.used)
        (omega (arith, named), tt)

    older : (r : Request) → IsOfPackets s.correlation packets r → IsOfPackets (s.correlation + 1) (packets ++ o ∷ []) r
    older r h = record {
      used = let below = h.used in omega (arith, below);
      same = λ x i e. ⊎_elim (λ (j : Contains packets x). h.same x j e) (λ (is : x ≡ o). let n : x.correlation ≡ o.correlation = ap (λ (y : Packet). y.correlation) is in let below = h.used in absurd (omega (arith, n, named, below, e))) (cases packets o x i);
    }

    newest : IsOfPackets (s.correlation + 1) (packets ++ o ∷ []) (request_of node now s (remembered o.demand))
    newest = record {
      used = omega arith;
      same = λ x i e. ⊎_elim
          (λ (j : Contains packets x). let below = at_contained (λ (y : Packet). y.correlation < s.correlation) packets x k.used j in absurd (omega (arith, below, e)))
          (λ (is : x ≡ o). ap (λ (y : Packet). remembered y.demand) (sym is)) (cases packets o x i);
    }

    requests : AllByRecursion (IsOfPackets (s.correlation + 1) (packets ++ o ∷ [])) (s.requests ++ request_of node now s (remembered o.demand) ∷ [])
    requests = all_append (IsOfPackets (s.correlation + 1) (packets ++ o ∷ [])) s.requests (request_of node now s (remembered o.demand) ∷ [])
        (all_weaker (IsOfPackets s.correlation packets) (IsOfPackets (s.correlation + 1) (packets ++ o ∷ [])) older s.requests k.requests) (newest, tt)

    at_demand : (d : Demand Sending) → o.demand ≡ d → Remembers (sent_out node now s d) (packets ++ o ∷ [])
    at_demand (Produce xs) is = record {
      used = used;
      requests = subst (λ (d : Demand Sending). AllByRecursion (IsOfPackets (s.correlation + 1) (packets ++ o ∷ [])) (s.requests ++ request_of node now s (remembered d) ∷ [])) is requests;
    }
    at_demand (InitProducerId p) is = record {
      used = used;
      requests = subst (λ (d : Demand Sending). AllByRecursion (IsOfPackets (s.correlation + 1) (packets ++ o ∷ [])) (s.requests ++ request_of node now s (remembered d) ∷ [])) is requests;
    }

-- ---- which request a reply names

pub is_of_packet : (s : Core) (packets : List Packet) (o : Packet) (k : ℤ) (r : Request) → Remembers s packets → Contains packets o → k ≡ pos o.correlation → awaited k s ≡ Some r → r.demand ≡ remembered o.demand
unfolding awaited
is_of_packet s packets o k r h i named is =
    let f = found (λ (x : Request). int_eq (pos x.correlation) k) s.requests r is in
    let at : pos r.correlation ≡ k = (Decides-int_eq (pos r.correlation) k).0 f.1 in
    let same : o.correlation ≡ r.correlation = cc in
    (at_contained (IsOfPackets s.correlation packets) s.requests r h.requests f.0).same o i same

pub read_as : (s : Core) (packets : List Packet) (o : Packet) (k : ℤ) (a : Api) → Remembers s packets → Contains packets o → k ≡ pos o.correlation → api_of (remembered o.demand) ≡ a → IsReadAs a (awaited k s)
read_as s packets o k a h i named is = at_request (awaited k s) refl
  where
    at_request : (x : Option Request) → awaited k s ≡ x → IsReadAs a x
    at_request None e = tt
    at_request (Some r) e = ap api_of (is_of_packet s packets o k r h i named e) ∙ is
