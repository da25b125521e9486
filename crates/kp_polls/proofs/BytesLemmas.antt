-- The bytes that are written on a stream are those of packets that went out.
use Rattle.std.proofs.Common.{◌≡◌, ℕ, ◌≤◌, true, false, List, [], ◌∷◌, ◌++◌, length, map, refl, sym, ap, ◌∙◌, subst, append_assoc, append-nil}
use Rattle.std.specs.Prelude.{Bool, Option, Some, None, Result, Ok, Err, flat_map}
use Rattle.std.specs.List.{AllByRecursion, concat}
use Rattle.std.specs.Str.{IsUtf8}
use Rattle.std.proofs.lemmas.List.Folds.{concat-append}
use Rattle.std.proofs.lemmas.List.Concat.{flat_map-append}
use Rattle.kp_accum.specs.declared.config.Config.{Config}
use Rattle.kp_connection.specs.Answers.{Answer, gone}
use Rattle.kp_connection.specs.Wire.{Told, Wired}
use Rattle.kp_connection.proofs.WireLemmas.{Stops-first}
use Rattle.kp_engine.specs.Closing.{Polled, calls_of_poll}
use Rattle.kp_engine.specs.Engine.{fresh_wire}
use Rattle.kp_engine.specs.Exchange.{with_strays}
use Rattle.kp_engine.specs.Serving.{HasPlaces, Served, asked_by, replied_by}
use Rattle.kp_engine.specs.declared.engine.Line.{Line}
use Rattle.kp_engine.specs.declared.engine.Line.TheVariants.{Open, Stopped}
use Rattle.kp_engine.specs.declared.exchange.Exchange.{Exchange}
use Rattle.kp_engine.specs.declared.stop.Stop.TheVariants.{NeedStream}
use Rattle.kp_engine.proofs.ClosingLemmas.{polls_serve, polls_then}
use Rattle.kp_engine.proofs.RoundLemmas.{made_behind, round_made, serves_behind}
use Rattle.kp_engine.proofs.ServedLemmas.{away_serves, poll_serves_its}
use Rattle.kp_frames.specs.declared.frame.TheConstants.{CONTENT_LIMIT}
use Rattle.kp_frames.specs.Stream.{Split, at_most, frame, stream}
use Rattle.kp_frames.proofs.StreamLemmas.{passes_spelled, stream_more}
use Rattle.kp_rules.specs.declared.fault.CoreFault.{CoreFault}
use Rattle.kp_rules.specs.declared.names.Names.{Names}
use Rattle.kp_rules.specs.declared.outgoing.Outgoing.{Outgoing}
use Rattle.kp_rules.specs.Auditing.{opened, without_audits}
use Rattle.kp_rules.specs.Calls.{Call, Life, Lives, Step, answered_as, packet_in, packets_by}
use Rattle.kp_rules.specs.Calls as call
use Rattle.kp_rules.specs.Framing.{content_of, frame_of}
use Rattle.kp_rules.specs.InOrder.{IsHeld, IsInOrder}
use Rattle.kp_rules.specs.Opening.{new_core}
use Rattle.kp_rules.specs.Records.{Core}
use Rattle.kp_rules.specs.Requesting.{Packet, request_step}
use Rattle.kp_rules.proofs.FittingLemmas.{request_fits}
use Rattle.kp_rules.proofs.LeadingOnLemmas.{led_on}
use Rattle.kp_rules.proofs.OrderedCallLemmas.{kept, new_in_order, order_unaudited}
use Rattle.kp_world.specs.Run.{MayBegin}
use Rattle.kp_world.specs.World.{Opening}
use Rattle.kp_polls.specs.Bytes.{Among, AreWritten, GoesOnOver, GoesOver, OverStream, SentOver}
use Rattle.kp_polls.specs.Polling.{Polling, core_of}
use Rattle.kp_polls.proofs.AroundLemmas.{served}
use Rattle.kp_polls.proofs.NameLemmas.{SameNames, same_names}
use Rattle.kp_polls.proofs.StreamLemmas.{GoesBy, StopsBy, stopped_so, went_over}

-- ---- the packets of calls, and their frames

-- These frames are those of the packets, each of which fits one.
record AreFrames (c : Config) (names : Names) (fs : List (List ℕ)) (packets : List Packet) : Type 0 where
  are : fs ≡ map (frame_of c names) packets
  fit : AllByRecursion (λ content. length content ≤ CONTENT_LIMIT) (map (content_of c names) packets)

none_framed : (c : Config) (names : Names) → AreFrames c names [] []
none_framed c names = record { are = refl; fit = tt }

map_then : {A B : Type 0} (f : A → B) (xs ys : List A) → map f (xs ++ ys) ≡ map f xs ++ map f ys
map_then f [] ys = refl
map_then {B = B} f (x ∷ xs) ys = ap (λ (zs : List B). f x ∷ zs) (map_then f xs ys)

all_then : {A : Type 0} (P : A → Type 0) (xs ys : List A) → AllByRecursion P xs → AllByRecursion P ys → AllByRecursion P (xs ++ ys)
all_then P [] ys h k = k
all_then P (x ∷ xs) ys h k = (h.0, all_then P xs ys h.1 k)

framed_then : (c : Config) (names : Names) (fs gs : List (List ℕ)) (xs ys : List Packet) → AreFrames c names fs xs → AreFrames c names gs ys → AreFrames c names (fs ++ gs) (xs ++ ys)
framed_then c names fs gs xs ys p q = record {
  are = ap (λ (zs : List (List ℕ)). zs ++ gs) p.are ∙ ap (λ (zs : List (List ℕ)). map (frame_of c names) xs ++ zs) q.are ∙ sym (map_then (frame_of c names) xs ys);
  fit = subst (AllByRecursion (λ content. length content ≤ CONTENT_LIMIT)) (sym (map_then (content_of c names) xs ys))
      (all_then (λ content. length content ≤ CONTENT_LIMIT) (map (content_of c names) xs) (map (content_of c names) ys) p.fit q.fit);
}

-- a request that goes out
bytes_in : Result (Option Outgoing) CoreFault → List ℕ
bytes_in (Ok (Some request)) = request.bytes
bytes_in (Ok None) = []
bytes_in (Err fault) = []

out_framed : (node now : ℕ) (s : Core) (request : Outgoing) → IsInOrder s → (r : Result (Option Packet) CoreFault) → (request_step node now s).answer ≡ r
    → answered_as s r ≡ Ok (Some request) → AreFrames s.config s.names (request.bytes ∷ []) (packet_in r)
unfolding bytes_in frame
out_framed node now s request h (Ok (Some packet)) is answer = record {
  are = ap (λ (bytes : List ℕ). bytes ∷ []) (sym (ap bytes_in answer));
  fit = ((request_fits node now s packet h is).content, tt);
}
out_framed node now s request h (Ok None) is answer = absurd cc
out_framed node now s request h (Err fault) is answer = absurd cc

none_out : (node now : ℕ) (s : Core) (r : Result (Option Packet) CoreFault) → answered_as s r ≡ Ok None → AreFrames s.config s.names [] (packet_in r)
none_out node now s (Ok (Some packet)) answer = absurd cc
none_out node now s (Ok None) answer = none_framed s.config s.names
none_out node now s (Err fault) answer = none_framed s.config s.names

call_framed : (s t : Core) (c : Call) → IsInOrder s → Step s c t → AreFrames s.config s.names (asked_by c) (packets_by s c)
call_framed s t (call.Request node now (Ok (Some request))) h x = out_framed node now s request h (request_step node now s).answer refl x.0
call_framed s t (call.Request node now (Ok None)) h x = none_out node now s (request_step node now s).answer x.0
call_framed s t (call.Request node now (Err fault)) h x = none_framed s.config s.names
call_framed s t (call.Append i answer) h x = none_framed s.config s.names
call_framed s t (call.Reply now content answer) h x = none_framed s.config s.names
call_framed s t (call.Tick node now answer) h x = none_framed s.config s.names
call_framed s t (call.Disconnect node now) h x = none_framed s.config s.names
call_framed s t (call.Lead p leader now) h x = none_framed s.config s.names
call_framed s t call.Close h x = none_framed s.config s.names
call_framed s t call.Flush h x = none_framed s.config s.names
call_framed s t (call.End reports) h x = none_framed s.config s.names
call_framed s t (call.Fetch sender answer) h x = none_framed s.config s.names

record Framed (c : Config) (names : Names) (calls : List Call) (packets : List Packet) (t : Core) : Type 0 where
  frames : AreFrames c names (flat_map asked_by calls) packets
  config : t.config ≡ c
  named : t.names ≡ names
  order : IsInOrder t

calls_framed : (s : Core) (calls : List Call) (life : Life) (t : Core) → Lives s calls life t → AllByRecursion IsHeld calls → IsInOrder s → Framed s.config s.names calls life.packets t
unfolding Lives
calls_framed s [] life t lives held h = record {
  frames = subst (AreFrames s.config s.names []) (ap (λ (l : Life). l.packets) (sym lives.0)) (none_framed s.config s.names);
  config = ap (λ (u : Core). u.config) lives.1;
  named = ap (λ (u : Core). u.names) lives.1;
  order = subst IsInOrder (sym lives.1) h;
}
calls_framed s (c ∷ calls) life t lives held h =
    let m : Core = lives.0 in
    let same : SameNames s m = same_names s m c lives.2 in
    let rest : Framed m.config m.names calls lives.1.packets t = calls_framed m calls lives.1 t lives.3 held.1 (kept s m c held.0 lives.2 h) in
    record {
      frames = subst (AreFrames s.config s.names (asked_by c ++ flat_map asked_by calls)) (ap (λ (l : Life). l.packets) (sym lives.4))
          (framed_then s.config s.names (asked_by c) (flat_map asked_by calls) (packets_by s c) lives.1.packets (call_framed s m c h lives.2)
          (subst (λ (n : Names). AreFrames s.config n (flat_map asked_by calls) lives.1.packets) same.names
          (subst (λ (g : Config). AreFrames g m.names (flat_map asked_by calls) lives.1.packets) same.config rest.frames)));
      config = rest.config ∙ same.config;
      named = rest.named ∙ same.names;
      order = rest.order;
    }

-- ---- from frames to bytes

spelled : (c : Config) (names : Names) (packets : List Packet) → concat (map (frame_of c names) packets) ≡ flat_map frame.spell (map (content_of c names) packets)
spelled c names [] = refl
spelled c names (x ∷ packets) = ap (λ (bytes : List ℕ). frame_of c names x ++ bytes) (spelled c names packets)

flat : (c : Config) (names : Names) (packets : List Packet) → concat (map (frame_of c names) packets) ≡ flat_map (frame_of c names) packets
flat c names [] = refl
flat c names (x ∷ packets) = ap (λ (bytes : List ℕ). frame_of c names x ++ bytes) (flat c names packets)

-- the first of packets, as their contents are the first
record Cut {A B : Type 0} (f : A → B) (xs : List A) (front : List B) : Type 0 where
  whole : List A
  others : List A
  first : xs ≡ whole ++ others
  are : front ≡ map f whole

cut : {A B : Type 0} (f : A → B) (xs : List A) (front back : List B) → front ++ back ≡ map f xs → Cut f xs front
cut f xs [] back is = record { whole = []; others = xs; first = refl; are = refl }
cut f [] (y ∷ front) back is = absurd cc
cut {A = A} {B = B} f (x ∷ xs) (y ∷ front) back is =
    let head : y ≡ f x = cc in
    let tail : front ++ back ≡ map f xs = cc in
    let rest : Cut f xs front = cut f xs front back tail in
    record {
      whole = x ∷ rest.whole;
      others = rest.others;
      first = ap (λ (zs : List A). x ∷ zs) rest.first;
      are = ap (λ (z : B). z ∷ front) head ∙ ap (λ (zs : List B). f x ∷ zs) rest.are;
    }

written : (c : Config) (names : Names) (fs : List (List ℕ)) (packets : List Packet) (bytes unwritten : List ℕ) → AreFrames c names fs packets → bytes ++ unwritten ≡ concat fs
    → AreWritten c names packets bytes
unfolding at_most
written c names fs packets bytes unwritten h is =
    let contents : List (List ℕ) = map (content_of c names) packets in
    let all : bytes ++ unwritten ≡ concat (map (frame_of c names) packets) = is ∙ ap concat h.are in
    let bytes_are : bytes ++ unwritten ≡ flat_map frame.spell contents ++ [] = all ∙ spelled c names packets ∙ sym (append-nil (flat_map frame.spell contents)) in
    let frames : (stream bytes).frames ++ (stream ((stream bytes).rest ++ unwritten)).frames ≡ contents =
    ap (λ (s : Split). s.frames) (sym (stream_more bytes unwritten) ∙ ap stream bytes_are ∙ (passes_spelled contents h.fit).over [])
    ∙ append-nil contents in
    let parts : Cut (content_of c names) packets (stream bytes).frames = cut (content_of c names) packets (stream bytes).frames (stream ((stream bytes).rest ++ unwritten)).frames frames in
    record {
      unwritten = unwritten;
      begins = all ∙ flat c names packets;
      whole = parts.whole;
      others = parts.others;
      first = parts.first;
      frames = parts.are;
    }

-- ---- an engine over one stream

core_in_order : (o : Opening) (audits : Bool) → MayBegin o → IsUtf8 o.names.topic → IsUtf8 o.names.client → IsInOrder (opened audits (new_core o.config o.names o.partitions o.senders o.id o.correlation))
core_in_order o true may topic client = new_in_order o.config o.names o.partitions o.senders o.id o.correlation may topic client
core_in_order o false may topic client = order_unaudited (new_core o.config o.names o.partitions o.senders o.id o.correlation) (new_in_order o.config o.names o.partitions o.senders o.id o.correlation may topic client)

new_config : (o : Opening) (audits : Bool) → (opened audits (new_core o.config o.names o.partitions o.senders o.id o.correlation)).config ≡ o.config
unfolding new_core without_audits
new_config o true = refl
new_config o false = refl

new_names : (o : Opening) (audits : Bool) → (opened audits (new_core o.config o.names o.partitions o.senders o.id o.correlation)).names ≡ o.names
unfolding new_core without_audits
new_names o true = refl
new_names o false = refl

over_polls : {S : Type 0} (answers : Told S) (first : Exchange) (calls : List Call) (given : S) (x : Exchange) (more mine : List Call) (xs : List Answer) (y : Exchange) (line : Line S)
    → Polled answers first calls x → OverStream answers given x more mine xs y line → Polled answers first (calls ++ more) y
over_polls answers first calls given x _ _ _ _ _ p OverStream.not_yet = subst (λ (cs : List Call). Polled answers first cs x) (sym (append-nil calls)) p
over_polls answers first calls given x _ _ _ _ _ p (OverStream.once_more y z more mine xs line left result before poll) =
    subst (λ (cs : List Call). Polled answers first cs z) (append_assoc calls more (calls_of_poll answers line y result z left poll))
    (Polled.once_more y z (calls ++ more) line left result (over_polls answers first calls given x more mine xs y line p before) poll)
over_polls answers first calls given x _ _ _ _ _ p (OverStream.talked y z more mine its xs news most node now strays wire left before round) =
    subst (λ (cs : List Call). Polled answers first cs z) (append_assoc calls more its)
    (made_behind answers strays first y z (calls ++ more) its (over_polls answers first calls given x more mine xs y (Open wire) p before)
    (round_made answers most node now (with_strays strays y) wire its news z left round))
over_polls answers first calls given x _ _ _ _ _ p (OverStream.away y z more mine xs cause stop before turn) =
    subst (λ (cs : List Call). Polled answers first cs z) (append_assoc calls more turn.calls)
    (Polled.away y z (calls ++ more) cause stop (over_polls answers first calls given x more mine xs y (Stopped (NeedStream cause)) p before) turn)
over_polls answers first calls given x _ _ _ _ _ p (OverStream.meanwhile y z more mine others xs line before polled) =
    subst (λ (cs : List Call). Polled answers first cs z) (append_assoc calls more others)
    (polls_then answers first y z (calls ++ more) others (over_polls answers first calls given x more mine xs y line p before) polled)

-- ---- some packets among others

among_none : {A : Type 0} (ys : List A) → Among [] ys
among_none [] = Among.none
among_none (y ∷ ys) = Among.passed y [] ys (among_none ys)

among_all : {A : Type 0} (ys : List A) → Among ys ys
among_all [] = Among.none
among_all (y ∷ ys) = Among.taken y ys ys (among_all ys)

among_both : {A : Type 0} (xs ys zs : List A) → Among xs ys → Among (xs ++ zs) (ys ++ zs)
among_both _ _ zs Among.none = among_all zs
among_both _ _ zs (Among.taken x xs ys h) = Among.taken x (xs ++ zs) (ys ++ zs) (among_both xs ys zs h)
among_both _ _ zs (Among.passed y xs ys h) = Among.passed y (xs ++ zs) (ys ++ zs) (among_both xs ys zs h)

among_more : {A : Type 0} (xs ys zs : List A) → Among xs ys → Among xs (ys ++ zs)
among_more _ _ zs Among.none = among_none zs
among_more _ _ zs (Among.taken x xs ys h) = Among.taken x xs (ys ++ zs) (among_more xs ys zs h)
among_more _ _ zs (Among.passed y xs ys h) = Among.passed y xs (ys ++ zs) (among_more xs ys zs h)

-- The frames of a stream's own calls are those of some of the packets that went out.
record FramedOver (c : Config) (names : Names) (x : Exchange) (calls mine : List Call) (y : Exchange) : Type 0 where
  life : Life
  lives : Lives x.core calls life y.core
  places : HasPlaces y
  packets : List Packet
  among : Among packets life.packets
  frames : AreFrames c names (flat_map asked_by mine) packets
  config : y.core.config ≡ c
  named : y.core.names ≡ names
  order : IsInOrder y.core

module _ (c : Config) (names : Names) (x y z : Exchange) (calls mine its : List Call) (p : FramedOver c names x calls mine y) (s : Served y its z) where
  its_framed : Framed c names its s.life.packets z.core
  its_framed =
      subst (λ (n : Names). Framed c n its s.life.packets z.core) p.named
      (subst (λ (g : Config). Framed g y.core.names its s.life.packets z.core) p.config (calls_framed y.core its s.life z.core s.lives s.held p.order))

  mine_then : FramedOver c names x (calls ++ its) (mine ++ its) z
  mine_then = record {
    life = call.followed_by p.life s.life;
    lives = led_on x.core y.core z.core calls its p.life s.life p.lives s.lives;
    places = s.places;
    packets = p.packets ++ s.life.packets;
    among = among_both p.packets p.life.packets s.life.packets p.among;
    frames = subst (λ (fs : List (List ℕ)). AreFrames c names fs (p.packets ++ s.life.packets)) (sym (flat_map-append asked_by mine its))
        (framed_then c names (flat_map asked_by mine) (flat_map asked_by its) p.packets s.life.packets p.frames its_framed.frames);
    config = its_framed.config;
    named = its_framed.named;
    order = its_framed.order;
  }

  others_then : FramedOver c names x (calls ++ its) mine z
  others_then = record {
    life = call.followed_by p.life s.life;
    lives = led_on x.core y.core z.core calls its p.life s.life p.lives s.lives;
    places = s.places;
    packets = p.packets;
    among = among_more p.packets p.life.packets s.life.packets p.among;
    frames = p.frames;
    config = its_framed.config;
    named = its_framed.named;
    order = its_framed.order;
  }

over_framed : {S : Type 0} (answers : Told S) (c : Config) (names : Names) (given : S) (x : Exchange) (calls mine : List Call) (xs : List Answer) (y : Exchange) (line : Line S)
    → HasPlaces x → x.core.config ≡ c → x.core.names ≡ names → IsInOrder x.core → OverStream answers given x calls mine xs y line → FramedOver c names x calls mine y
over_framed answers c names given x _ _ _ _ _ places config named order OverStream.not_yet =
    let stays : Served x [] x = polls_serve answers x x [] places Polled.not_yet in
    record { life = stays.life; lives = stays.lives; places = places; packets = []; among = among_none stays.life.packets; frames = none_framed c names; config = config; named = named; order = order }
over_framed answers c names given x _ _ _ _ _ places config named order (OverStream.once_more y z calls mine xs line left result before poll) =
    let p : FramedOver c names x calls mine y = over_framed answers c names given x calls mine xs y line places config named order before in
    mine_then c names x y z calls mine (calls_of_poll answers line y result z left poll) p (poll_serves_its answers line y result z left p.places poll)
over_framed answers c names given x _ _ _ _ _ places config named order (OverStream.talked y z calls mine its xs news most node now strays wire left before round) =
    let p : FramedOver c names x calls mine y = over_framed answers c names given x calls mine xs y (Open wire) places config named order before in
    mine_then c names x y z calls mine its p (serves_behind strays y z its p.places (round_made answers most node now (with_strays strays y) wire its news z left round))
over_framed answers c names given x _ _ _ _ _ places config named order (OverStream.away y z calls mine xs cause stop before turn) =
    let p : FramedOver c names x calls mine y = over_framed answers c names given x calls mine xs y (Stopped (NeedStream cause)) places config named order before in
    mine_then c names x y z calls mine turn.calls p (away_serves cause y stop z p.places turn)
over_framed answers c names given x _ _ _ _ _ places config named order (OverStream.meanwhile y z calls mine others xs line before polled) =
    let p : FramedOver c names x calls mine y = over_framed answers c names given x calls mine xs y line places config named order before in
    others_then c names x y z calls mine others p (polls_serve answers y z others p.places polled)

module _ {S : Type 0} (answers : Told S) (nothing : (s : S) → answers s [] s)
    (in_order : (a : S) (xs : List Answer) (b : S) (ys : List Answer) (c : S) → answers a xs b → answers b ys c → answers a (xs ++ ys) c) where
  framed_over : (o : Opening) (calls : List Call) (x : Exchange) (given : S) (more mine : List Call) (xs : List Answer) (y : Exchange) (line : Line S)
      → Polling answers o calls x → OverStream answers given x more mine xs y line → FramedOver o.config o.names x more mine y
  framed_over o calls x given more mine xs y line p over =
      let before : Served p.first calls x = served answers o calls x p in
      let config_is : (core_of o).config ≡ o.config = new_config o o.audits in
      let names_are : (core_of o).names ≡ o.names = new_names o o.audits in
      let order : IsInOrder p.first.core = subst IsInOrder (sym p.is_new.core)
      (core_in_order o o.audits p.may_begin (subst IsUtf8 (ap (λ (n : Names). n.topic) names_are) p.is_new.topic) (subst IsUtf8 (ap (λ (n : Names). n.client) names_are) p.is_new.client)) in
      let first : Framed p.first.core.config p.first.core.names calls before.life.packets x.core = calls_framed p.first.core calls before.life x.core before.lives before.held order in
      let config : x.core.config ≡ o.config = first.config ∙ ap (λ (s : Core). s.config) p.is_new.core ∙ config_is in
      let names : x.core.names ≡ o.names = first.named ∙ ap (λ (s : Core). s.names) p.is_new.core ∙ names_are in
      over_framed answers o.config o.names given x more mine xs y line before.places config names first.order over

  abbrev sent_over : (o : Opening) (x y : Exchange) (more mine : List Call) → FramedOver o.config o.names x more mine y → SentOver o.config o.names x.core more mine y.core
  sent_over o x y more mine all = record { life = all.life; lives = all.lives; packets = all.packets; among = all.among; its = all.frames.are }

  pub goes_over : (o : Opening) (calls : List Call) (x : Exchange) (given : S) (more mine : List Call) (xs : List Answer) (y : Exchange) (line : Line S)
      → Polling answers o calls x → OverStream answers given x more mine xs y line → GoesOver answers given o.config o.names x.core more mine xs y.core
  goes_over o calls x given more mine xs y line p over =
      let all : FramedOver o.config o.names x more mine y = framed_over o calls x given more mine xs y line p over in
      let went : StopsBy answers (fresh_wire given) mine xs = stopped_so answers nothing in_order (fresh_wire given) mine xs line (went_over answers nothing in_order given x more mine xs y line over) in
      let bytes : gone xs ++ (went.stops.unwritten ++ concat went.more) ≡ concat (flat_map asked_by mine) =
      sym (append_assoc (gone xs) went.stops.unwritten (concat went.more))
      ∙ ap (λ (zs : List ℕ). zs ++ concat went.more) went.stops.written
      ∙ sym (concat-append went.sent went.more)
      ∙ ap concat (sym went.asked) in
      record {
        left = went.left.stream;
        told = went.stops.told;
        sent = sent_over o x y more mine all;
        written = written o.config o.names (flat_map asked_by mine) all.packets (gone xs) (went.stops.unwritten ++ concat went.more) all.frames bytes;
        heard = Stops-first answers (fresh_wire given) went.left went.sent (flat_map replied_by mine) xs went.stops;
      }

  -- while the stream is there
  pub goes_on_over : (o : Opening) (calls : List Call) (x : Exchange) (given : S) (more mine : List Call) (xs : List Answer) (y : Exchange) (wire : Wired S)
      → Polling answers o calls x → OverStream answers given x more mine xs y (Open wire) → GoesOnOver answers given o.config o.names x.core more mine xs y.core wire
  goes_on_over o calls x given more mine xs y wire p over =
      let all : FramedOver o.config o.names x more mine y = framed_over o calls x given more mine xs y (Open wire) p over in
      let goes : GoesBy answers (fresh_wire given) mine xs wire = went_over answers nothing in_order given x more mine xs y (Open wire) over in
      record {
        told = goes.told;
        sent = sent_over o x y more mine all;
        written = goes.written ∙ ap concat all.frames.are ∙ flat o.config o.names all.packets;
        heard = goes.read;
      }

  -- a stretch over a stream is polls
  pub over_a_stream : (o : Opening) (calls : List Call) (x : Exchange) (given : S) (more mine : List Call) (xs : List Answer) (y : Exchange) (line : Line S)
      → Polling answers o calls x → OverStream answers given x more mine xs y line → Polling answers o (calls ++ more) y
  over_a_stream o calls x given more mine xs y line p over = record {
    may_begin = p.may_begin;
    intake = p.intake;
    may_turn = p.may_turn;
    keeps = p.keeps;
    first = p.first;
    is_new = p.is_new;
    polled = over_polls answers p.first calls given x more mine xs y line p.polled over;
  }
