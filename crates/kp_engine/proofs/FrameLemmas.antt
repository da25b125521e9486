-- What goes over the connection, by the calls of a turn.
use Rattle.std.proofs.Common.{◌≡◌, ℕ, Bool, List, [], ◌∷◌, ◌++◌, map, refl, sym, ap, ◌∙◌, append-nil}
use Rattle.std.specs.Prelude.{Option, Some, None, Result, Ok, Err, flat_map}
use Rattle.std.specs.Option.{ForSome}
use Rattle.std.proofs.lemmas.Grind.{flat_map-append}
use Rattle.kp_frames.specs.declared.fault.FrameFault.{FrameFault}
use Rattle.kp_rules.specs.Calls.{Call, Tick}
use Rattle.kp_rules.specs.declared.fault.CoreFault.{CoreFault}
use Rattle.kp_rules.specs.declared.outgoing.Outgoing.{Outgoing}
use Rattle.kp_rules.specs.declared.ticked.Ticked.{Ticked}
use Rattle.kp_engine.specs.Exchange.{mail_of, senders_of, side_of}
use Rattle.kp_engine.specs.Polls.{TalkUntil, Turn, TurnUntil, is_cut}
use Rattle.kp_engine.specs.Serving.{asked_by, replied_by}
use Rattle.kp_engine.specs.Talking.{contents_of, frames_of}
use Rattle.kp_engine.specs.Turn.{GivesNone, Heard, ItemsPart, RequestsPart, TickPart, asks, hears, requests}
use Rattle.kp_engine.specs.declared.exchange.Exchange.{Exchange}
use Rattle.kp_engine.specs.declared.stop.Cause.{Cause}
use Rattle.kp_engine.proofs.ServingLemmas.{before_nothing, items_none, items_until_none, none_asked, none_of, reports_none, reports_until_none}

-- ---- requests

none_given : (node now : ℕ) (last : Option (Result (Option Outgoing) CoreFault)) → ForSome last GivesNone → flat_map asked_by (asks node now last) ≡ []
none_given node now None none = refl
none_given node now (Some (Ok None)) none = refl
none_given node now (Some (Ok (Some request))) none = absurd (none (Ok (Some request)) refl)
none_given node now (Some (Err fault)) none = refl

all_given : (node now : ℕ) (sent : List Outgoing) → flat_map asked_by (requests node now sent) ≡ frames_of sent
all_given node now [] = refl
all_given node now (request ∷ sent) = ap (λ (frames : List (List ℕ)). request.bytes ∷ frames) (all_given node now sent)

given : (node now : ℕ) (sent : List Outgoing) (calls : List Call) → RequestsPart node now sent calls → flat_map asked_by calls ≡ frames_of sent
given node now sent calls p =
    ap (flat_map asked_by) p.made ∙ before_nothing asked_by (requests node now sent) (asks node now p.last) (frames_of sent) (all_given node now sent) (none_given node now p.last p.none)

unheard : (node now : ℕ) (sent : List Outgoing) (calls : List Call) → RequestsPart node now sent calls → flat_map replied_by calls ≡ []
unheard node now sent calls p = ap (flat_map replied_by) p.made ∙ none_asked replied_by (λ node n answer. refl) node now sent p.last

-- ---- replies

all_heard : (now : ℕ) (heard : List Heard) → flat_map replied_by (map (hears now) heard) ≡ contents_of heard
all_heard now [] = refl
all_heard now (reply ∷ heard) = ap (λ (contents : List (List ℕ)). reply.content ∷ contents) (all_heard now heard)

none_asked_in : (now : ℕ) (heard : List Heard) → flat_map asked_by (map (hears now) heard) ≡ []
none_asked_in now heard = none_of asked_by (hears now) (λ reply. refl) heard

-- ---- requests and replies

-- What goes over the connection by these calls: these frames, and perhaps more, and these contents.
record Goes (calls : List Call) (frames more contents : List (List ℕ)) : Type 0 where
  out : flat_map asked_by calls ≡ frames ++ more
  back : flat_map replied_by calls ≡ contents

nothing_goes : (calls : List Call) → flat_map asked_by calls ≡ [] → flat_map replied_by calls ≡ [] → Goes calls [] [] []
nothing_goes calls p q = record { out = p; back = q }

both_go : (node now : ℕ) (sent : List Outgoing) (heard : List Heard) (asked replied : List Call) → RequestsPart node now sent asked → replied ≡ map (hears now) heard
    → Goes (asked ++ replied) (frames_of sent) [] (contents_of heard)
both_go node now sent heard asked replied p is = record {
  out = before_nothing asked_by asked replied (frames_of sent) (given node now sent asked p) (ap (flat_map asked_by) is ∙ none_asked_in now heard) ∙ sym (append-nil (frames_of sent));
  back =
      flat_map-append replied_by asked replied
      ∙ ap (λ (contents : List (List ℕ)). contents ++ flat_map replied_by replied) (unheard node now sent asked p)
      ∙ ap (flat_map replied_by) is
      ∙ all_heard now heard;
}

record Talked (sent : List Outgoing) (heard : List Heard) (calls : List Call) : Type 0 where
  more : List (List ℕ)
  goes : Goes calls (frames_of sent) more (contents_of heard)

talked : (node now : ℕ) (sent : List Outgoing) (heard : List Heard) (calls : List Call) → TalkUntil node now sent heard calls → Talked sent heard calls
talked node now _ _ _ (TalkUntil.in_requests sent asked p) = record {
  more = flat_map asked_by (asks node now p.last);
  goes = record {
    out = ap (flat_map asked_by) p.made ∙ flat_map-append asked_by (requests node now sent) (asks node now p.last) ∙ ap (λ (frames : List (List ℕ)). frames ++ flat_map asked_by (asks node now p.last)) (all_given node now sent);
    back = ap (flat_map replied_by) p.made ∙ none_asked replied_by (λ node n answer. refl) node now sent p.last;
  };
}
talked node now _ _ _ (TalkUntil.in_replies sent heard asked replied p q) = record { more = []; goes = both_go node now sent heard asked replied p q.made }

pub talk_goes : (node now : ℕ) (sent : List Outgoing) (heard : List Heard) (asked replied : List Call) → RequestsPart node now sent asked → replied ≡ map (hears now) heard
    → (flat_map asked_by (asked ++ replied) ≡ frames_of sent) × (flat_map replied_by (asked ++ replied) ≡ contents_of heard)
talk_goes node now sent heard asked replied p is = let goes = both_go node now sent heard asked replied p is in (goes.out ∙ append-nil (frames_of sent), goes.back)

pub talk_until_goes : (node now : ℕ) (sent : List Outgoing) (heard : List Heard) (calls : List Call) → TalkUntil node now sent heard calls
    → (more : List (List ℕ)) × (flat_map asked_by calls ≡ frames_of sent ++ more) × (flat_map replied_by calls ≡ contents_of heard)
talk_until_goes node now sent heard calls p = let spoke = talked node now sent heard calls p in (spoke.more, spoke.goes.out, spoke.goes.back)

-- ---- with the other parts around them

pub around : {A : Type 0} (f : Call → List A) (items tick talk reports : List Call) → flat_map f items ≡ [] → flat_map f tick ≡ [] → flat_map f reports ≡ []
    → flat_map f (items ++ tick ++ talk ++ reports) ≡ flat_map f talk
around {A = A} f items tick talk reports p q r =
    before_nothing f (items ++ tick ++ talk) reports (flat_map f talk)
    (flat_map-append f (items ++ tick) talk ∙ ap (λ (zs : List A). zs ++ flat_map f talk) (before_nothing f items tick [] p q)) r

pub tick_none : {A : Type 0} (f : Call → List A) (node now : ℕ) (ticked : Ticked) (tick : List Call) → TickPart node now ticked tick → f (Tick node now ticked) ≡ [] → flat_map f tick ≡ []
tick_none {A = A} f node now ticked tick is none = ap (flat_map f) is ∙ ap (λ (zs : List A). zs ++ []) none

goes_around : (items tick talk reports : List Call) (frames more contents : List (List ℕ))
    → Goes items [] [] [] → Goes tick [] [] [] → Goes reports [] [] [] → Goes talk frames more contents → Goes (items ++ tick ++ talk ++ reports) frames more contents
goes_around items tick talk reports frames more contents p q r s = record {
  out = around asked_by items tick talk reports p.out q.out r.out ∙ s.out;
  back = around replied_by items tick talk reports p.back q.back r.back ∙ s.back;
}

tick_goes : (node now : ℕ) (ticked : Ticked) (tick : List Call) → TickPart node now ticked tick → Goes tick [] [] []
tick_goes node now ticked tick is = nothing_goes tick (tick_none asked_by node now ticked tick is refl) (tick_none replied_by node now ticked tick is refl)

module _ (x y : Exchange) (closes : Bool) (items : List Call) (p : ItemsPart (senders_of x) (side_of x) closes items (side_of y)) where
  items_go : Goes items [] [] []
  items_go = nothing_goes items
      (items_none asked_by (λ i answer. refl) refl refl (senders_of x) (side_of x) (side_of y) closes items p)
      (items_none replied_by (λ i answer. refl) refl refl (senders_of x) (side_of x) (side_of y) closes items p)

pub turn_goes : (node now : ℕ) (x y : Exchange) (sent : List Outgoing) (heard : List Heard) (refused : Option (List ℕ × FrameFault)) (cut : Option Cause) (calls : List Call)
    → Turn node now x sent heard refused cut calls y → (flat_map asked_by calls ≡ frames_of sent) × (flat_map replied_by calls ≡ contents_of heard)
turn_goes node now x y sent heard refused cut calls t =
    let goes = goes_around t.items t.tick (t.asked ++ t.replied) t.reports (frames_of sent) [] (contents_of heard)
    (items_go x y t.closes t.items t.of_items) (tick_goes node now t.ticked t.tick t.of_tick)
    (nothing_goes t.reports
    (reports_none asked_by (λ i answer. refl) (senders_of x) node now (is_cut cut) (mail_of x) (mail_of y) t.reports refl t.of_reports)
    (reports_none replied_by (λ i answer. refl) (senders_of x) node now (is_cut cut) (mail_of x) (mail_of y) t.reports refl t.of_reports))
    (both_go node now sent heard t.asked t.replied t.of_requests t.of_replies.made) in
    (ap (flat_map asked_by) t.made ∙ goes.out ∙ append-nil (frames_of sent), ap (flat_map replied_by) t.made ∙ goes.back)

pub until_goes : (node now : ℕ) (x y : Exchange) (sent : List Outgoing) (heard : List Heard) (calls : List Call) → TurnUntil node now x y sent heard calls
    → (more : List (List ℕ)) × (flat_map asked_by calls ≡ frames_of sent ++ more) × (flat_map replied_by calls ≡ contents_of heard)
until_goes node now x y _ _ _ (TurnUntil.in_items calls p closed same) = (
  [],
  items_until_none asked_by (λ i answer. refl) refl (side_of x) (side_of y) calls p,
  items_until_none replied_by (λ i answer. refl) refl (side_of x) (side_of y) calls p,
)
until_goes node now x y _ _ _ (TurnUntil.before_the_tick closes items p closed same) = let goes = items_go x y closes items p in ([], goes.out, goes.back)
until_goes node now x y _ _ _ (TurnUntil.in_talk closes ticked items tick spoken sent heard p closed t q same) =
    let spoke = talked node now sent heard spoken q in
    let goes = goes_around items tick spoken [] (frames_of sent) spoke.more (contents_of heard)
    (items_go x y closes items p) (tick_goes node now ticked tick t) (nothing_goes [] refl refl) spoke.goes in (
      spoke.more,
      ap (flat_map asked_by) (sym (append-nil (items ++ tick ++ spoken))) ∙ goes.out,
      ap (flat_map replied_by) (sym (append-nil (items ++ tick ++ spoken))) ∙ goes.back,
    )
until_goes node now x y _ _ _ (TurnUntil.in_reports closes ticked items tick asked replied reports sent heard refused cut p closed t q r s) =
    let goes = goes_around items tick (asked ++ replied) reports (frames_of sent) [] (contents_of heard)
    (items_go x y closes items p) (tick_goes node now ticked tick t)
    (nothing_goes reports
    (reports_until_none asked_by (λ i answer. refl) node now cut (mail_of x) (mail_of y) reports refl s)
    (reports_until_none replied_by (λ i answer. refl) node now cut (mail_of x) (mail_of y) reports refl s))
    (both_go node now sent heard asked replied q r.made) in
    ([], goes.out, goes.back)
