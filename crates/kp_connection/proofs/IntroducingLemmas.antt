-- What a handshake did from its beginning on, put together of its polls.
use Rattle.std.proofs.Common.{◌≡◌, ◌⊎◌, ℕ, ◌≤◌, List, [], ◌∷◌, ◌++◌, length, Ok, refl, sym, ap, subst, ◌∙◌, inl, inr, append_assoc, append-nil, arith}
use Rattle.std.specs.List.{concat}
use Rattle.std.proofs.lemmas.List.{append_cancel_left, length-append, nil_from_length}
use Rattle.std.proofs.lemmas.List.Concat.{flat_map-append}
use Rattle.kp_wire.proofs.ReadLemmas.{done}
use Rattle.kp_frames.specs.declared.fault.FrameFault.{FrameFault}
use Rattle.kp_frames.specs.declared.fault.FrameFault.TheVariants as frame
use Rattle.kp_frames.specs.declared.frame.TheConstants.{CONTENT_LIMIT}
use Rattle.kp_frames.specs.Stream as framing
use Rattle.kp_frames.proofs.FirstLemmas.{first_short, front_first, frame_front}
use Rattle.kp_rules.specs.declared.names.Names.{Names}
use Rattle.kp_hello.specs.declared.fault.HandshakeFault.{HandshakeFault}
use Rattle.kp_hello.specs.declared.fault.HandshakeFault.TheVariants.{Io, Frame, BadAnswer, Refused, OutOfMemory}
use Rattle.kp_connection.specs.declared.handshake.stage.Stage.{Stage}
use Rattle.kp_connection.specs.declared.handshake.stage.Stage.TheVariants.{Opening, Metadata, ProducerId}
use Rattle.kp_hello.specs.declared.hello.Hello.{Hello}
use Rattle.kp_connection.specs.Answers.{Answer, came, gone, came_by, gone_by}
use Rattle.kp_hello.specs.Asking.{frame_of, metadata_request, producer_id_request}
use Rattle.kp_connection.specs.Handshake.{Talking, Waits, Comes, Concludes, Refuses, Overflows, Unasked, HalfAsked, EndsWith, asked, Hears, Turns, InTurn}
use Rattle.kp_hello.specs.Hello.{metadata_given}
use Rattle.kp_connection.specs.Introducing.{fresh, Waited, Begins, Asks, AsksInTurn, IsTwoAtMost, Speaks, Introduces, MetAWait}
use Rattle.kp_connection.specs.Talking.{Steps}
use Rattle.kp_connection.specs.Wire.{Told, Wired, frames, AreContents, IsOneAtMost, Stops}
use Rattle.kp_connection.proofs.HandshakeLemmas.{steps_then}
use Rattle.kp_connection.proofs.TalkLemmas.{one_of_none, one_frame, comes_on, waits_step}
use Rattle.kp_connection.proofs.WireLemmas.{Goes-nothing, Goes-stops}

-- ---- lists

-- the one of two beginnings of a list goes on to the other
split : {A : Type 0} (xs ys us vs : List A) → xs ++ ys ≡ us ++ vs → ((w : List A) × (us ≡ xs ++ w)) ⊎ ((w : List A) × (xs ≡ us ++ w) × (vs ≡ w ++ ys))
split [] ys us vs e = inl (us, refl)
split (x ∷ xs) ys [] vs e = inr (x ∷ xs, refl, sym e)
split (x ∷ xs) ys (u ∷ us) vs e =
    elim (split xs ys us vs (tail e)) [
      | inl h ↦ inl (h.0, headed (sym e) h.1)
      | inr h ↦ inr (h.0, headed e h.1, h.2)
    ]
  where
    tail : {A : Type 0} {x u : A} {fs bs : List A} → x ∷ fs ≡ u ∷ bs → fs ≡ bs
    tail e = cc

    headed : {A : Type 0} {x u : A} {fs bs ps qs : List A} → x ∷ fs ≡ u ∷ bs → ps ≡ qs → x ∷ ps ≡ u ∷ qs
    headed e h = cc

-- what went in two stretches
went : (xs ys : List Answer) (left : List ℕ) → gone (xs ++ ys) ++ left ≡ gone xs ++ (gone ys ++ left)
went xs ys left = ap (λ (zs : List ℕ). zs ++ left) (flat_map-append gone_by xs ys) ∙ append_assoc (gone xs) (gone ys) left

-- ---- what was read behind the answers

left_of : (heard last : List (List ℕ)) → AreContents (heard ++ last) → AreContents heard
left_of [] last small = tt
left_of (content ∷ heard) last small = (small.0, left_of heard last small.1)

right_of : (heard last : List (List ℕ)) → AreContents (heard ++ last) → AreContents last
right_of [] last small = small
right_of (content ∷ heard) last small = right_of heard last small.1

-- the frame at the beginning
spelled_first : (content rest : List ℕ) → length content ≤ CONTENT_LIMIT → framing.first (framing.frame.spell content ++ rest) ≡ Ok (content, rest)
spelled_first content rest small = front_first (framing.frame.spell content) content rest (frame_front content small)

same_rest : {x y : List ℕ × List ℕ} → done {E = FrameFault} x ≡ done y → x.1 ≡ y.1
same_rest {x = x} {y = y} e =
    let same : x ≡ y = cc in
    ap (λ (z : List ℕ × List ℕ). z.1) same

nothing_left : (xs ys : List ℕ) → xs ++ ys ≡ [] → ys ≡ []
nothing_left xs ys none = nil_from_length ys (omega (arith, length-append xs ys, ap length none))

two_of_none : (heard : List (List ℕ)) (rest read : List ℕ) → heard ≡ [] → IsOneAtMost rest → frames heard ++ rest ≡ read → IsTwoAtMost read
two_of_none heard rest read none one parts first second more a b is =
    let at : rest ≡ framing.frame.spell first ++ (framing.frame.spell second ++ more) =
    ap (λ (zs : List (List ℕ)). frames zs ++ rest) (sym none) ∙ parts ∙ is ∙ append_assoc (framing.frame.spell first) (framing.frame.spell second) more in
    nothing_left (framing.frame.spell second) more
    (one first (framing.frame.spell second ++ more) (ap framing.first at ∙ spelled_first first (framing.frame.spell second ++ more) a))

two_at_most : (topic : List ℕ) (stage : Stage) (heard : List (List ℕ)) (rest read : List ℕ) → Hears topic Opening heard stage → AreContents heard → IsOneAtMost rest → frames heard ++ rest ≡ read → IsTwoAtMost read
two_at_most topic Opening heard rest read none small one parts first second more a b is = two_of_none heard rest read none one parts first second more a b is
two_at_most topic Metadata heard rest read none small one parts first second more a b is = two_of_none heard rest read none one parts first second more a b is
two_at_most topic (ProducerId n) heard rest read hears small one parts first second more a b is =
    let content = hears.0 in
    let fits : length content ≤ CONTENT_LIMIT = (subst AreContents hears.1 small).0 in
    let at : framing.frame.spell content ++ rest ≡ framing.frame.spell first ++ (framing.frame.spell second ++ more) =
    ap (λ (zs : List ℕ). zs ++ rest) (sym (ap frames hears.1 ∙ append-nil (framing.frame.spell content))) ∙ parts ∙ is
    ∙ append_assoc (framing.frame.spell first) (framing.frame.spell second) more in
    let behind : rest ≡ framing.frame.spell second ++ more =
    same_rest (sym (spelled_first content rest fits) ∙ ap framing.first at ∙ spelled_first first (framing.frame.spell second ++ more) a) in
    one second more (ap framing.first behind ∙ spelled_first second more b)

-- ---- the turn of the second request

module _ {S : Type 0} (names : Names) (stream : S) where
  abbrev first : List ℕ
  first = frame_of (metadata_request names)

  abbrev second : List ℕ
  second = frame_of (producer_id_request names)

  abbrev idle : Wired S
  idle = record { stream = stream; kept = []; held = [] }

  module _ (xs : List Answer) (left : List ℕ) where
    begun : first ≡ gone xs ++ left → AsksInTurn names xs
    begun whole until behind is =
        inl (gone behind ++ left, sym (went until behind left) ∙ ap (λ (zs : List Answer). gone zs ++ left) (sym is) ∙ sym whole)

    unasked : gone xs ++ left ≡ [] → AsksInTurn names xs
    unasked none until behind is =
        inl (
          (gone behind ++ left) ++ first,
          sym (append_assoc (gone until) (gone behind ++ left) first)
              ∙ ap (λ (zs : List ℕ). zs ++ first) (sym (went until behind left) ∙ ap (λ (zs : List Answer). gone zs ++ left) (sym is) ∙ none),
        )

    asked_again : (content : List ℕ) (n : ℕ) (heard : List (List ℕ)) → heard ≡ content ∷ [] → metadata_given names.topic content ≡ Ok n → Turns idle (first ∷ []) heard xs → gone xs ++ left ≡ concat (first ∷ second ∷ []) → AsksInTurn names xs
    asked_again content n heard one given t whole until behind is =
        let asks : gone t.until ≡ first = t.written ∙ append-nil first in
        elim (split until behind t.until t.behind (sym is ∙ t.is)) [
          | inl h ↦ inl (gone h.0, sym (flat_map-append gone_by until h.0) ∙ ap gone (sym h.1) ∙ asks)
          | inr h ↦ inr (record {
            content = content;
            partitions = n;
            more = gone h.0;
            behind = came h.0;
            asked = ap gone h.1 ∙ flat_map-append gone_by t.until h.0 ∙ ap (λ (zs : List ℕ). zs ++ gone h.0) asks;
            answered =
                ap came h.1 ∙ flat_map-append came_by t.until h.0
                ∙ ap (λ (zs : List ℕ). zs ++ came h.0) (t.read ∙ ap frames one ∙ append-nil (framing.frame.spell content));
            given = given;
            begins = (
              gone behind ++ left,
              append_cancel_left first (gone h.0 ++ (gone behind ++ left)) second
                  (ap (λ (zs : List ℕ). zs ++ (gone h.0 ++ (gone behind ++ left))) (sym asks)
                  ∙ ap (λ (zs : List ℕ). gone t.until ++ zs) (sym (went h.0 behind left) ∙ ap (λ (zs : List Answer). gone zs ++ left) (sym h.2))
                  ∙ sym (went t.until t.behind left) ∙ ap (λ (zs : List Answer). gone zs ++ left) (sym t.is)
                  ∙ whole ∙ ap (λ (zs : List ℕ). first ++ zs) (append-nil second)),
            );
          })
        ]

    in_turn : (stage : Stage) (sent heard : List (List ℕ)) → sent ≡ asked names stage → Hears names.topic Opening heard stage → InTurn names Opening idle heard xs stage → gone xs ++ left ≡ concat sent → AsksInTurn names xs
    in_turn Opening sent heard asks hears turn whole = unasked (whole ∙ ap concat asks)
    in_turn Metadata sent heard asks hears turn whole = begun (sym (whole ∙ ap concat asks ∙ append-nil first))
    in_turn (ProducerId n) sent heard asks hears turn whole = asked_again hears.0 n heard hears.1 hears.2 turn (whole ∙ ap concat asks)

  -- what was written until the last answer is a beginning of both requests
  begins_both : (written read : List ℕ) → Asks names written read → Begins written (first ++ second)
  begins_both written read (inl h) = (h.0 ++ second, sym (append_assoc written h.0 second) ∙ ap (λ (zs : List ℕ). zs ++ second) h.1)
  begins_both written read (inr a) = (
    a.begins.0,
    ap (λ (zs : List ℕ). zs ++ a.begins.0) a.asked ∙ append_assoc first a.more a.begins.0
        ∙ ap (λ (zs : List ℕ). first ++ zs) a.begins.1,
  )

  module _ (answers : Told S) where
    speaks : (stage : Stage) (sent heard more : List (List ℕ)) (xs : List Answer) (wire : Wired S) → sent ≡ asked names stage → Hears names.topic Opening heard stage → InTurn names Opening idle heard xs stage
        → (stops : Stops answers idle sent more xs wire) → (rest : List ℕ) → AreContents heard → IsOneAtMost rest → frames heard ++ rest ≡ came xs → Speaks answers names stream wire.stream
    speaks stage sent heard more xs wire asks hears turn stops rest small one read =
        let turns = in_turn xs stops.unwritten stage sent heard asks hears turn stops.written in
        record {
          xs = xs;
          told = stops.told;
          asks = turns;
          written = begins_both (gone xs) (came xs) (turns xs [] (sym (append-nil xs)));
          two = two_at_most names.topic stage heard rest (came xs) hears small one read;
        }

    pub speaks_to : (stage : Stage) (last : List (List ℕ)) (xs : List Answer) (wire : Wired S) → Comes answers (fresh names stream) stage last xs wire → IsOneAtMost (frames last ++ wire.held) → Speaks answers names stream wire.stream
    speaks_to stage last xs wire c one =
        let read : frames c.heard ++ (frames last ++ wire.held) ≡ came xs =
        sym (append_assoc (frames c.heard) (frames last) wire.held) ∙ ap (λ (zs : List ℕ). zs ++ wire.held) (sym (flat_map-append framing.frame.spell c.heard last)) ∙ c.goes.read in
        speaks stage c.sent c.heard (c.heard ++ last) xs wire c.asks c.hears c.turn (Goes-stops answers idle wire c.sent (c.heard ++ last) xs c.goes)
        (frames last ++ wire.held) (left_of c.heard last c.goes.contents) one read

    -- an answer was read last, and nothing behind it
    speaks_at : (stage : Stage) (content : List ℕ) (xs : List Answer) (wire : Wired S) → Comes answers (fresh names stream) stage (content ∷ []) xs wire → wire.held ≡ [] → Speaks answers names stream wire.stream
    speaks_at stage content xs wire c none =
        speaks_to stage (content ∷ []) xs wire c (one_frame content wire.held (right_of c.heard (content ∷ []) c.goes.contents).0 none)

    abbrev EndsSo : HandshakeFault → Type 0
    EndsSo fault = (Refuses answers (fresh names stream) fault ⊎ Overflows answers (fresh names stream) fault) ⊎ (Unasked answers (fresh names stream) fault ⊎ HalfAsked answers (fresh names stream) fault)

    ends_so : (fault : HandshakeFault) → EndsSo fault → (left : S) × Speaks answers names stream left
    ends_so fault (inl (inl q)) = (q.wire.stream, speaks_at q.stage q.content q.xs q.wire q.comes q.read)
    ends_so fault (inl (inr q)) = (q.wire.stream, speaks_to q.stage [] q.xs q.wire q.comes (one_of_none q.wire.held frame.TooLarge q.large))
    ends_so fault (inr (inl q)) = (q.wire.stream, speaks_to Opening [] q.xs q.wire q.comes (one_of_none q.wire.held frame.Short q.partial))
    ends_so fault (inr (inr q)) = (q.wire.stream, speaks_at Metadata q.content q.xs q.wire q.comes q.read)

    pub ends_speaking : (fault : HandshakeFault) → EndsWith answers (fresh names stream) fault → (left : S) × Speaks answers names stream left
    ends_speaking Io q = (q.wire.stream, speaks_to q.stage [] q.xs q.wire q.comes (one_of_none q.wire.held frame.Short q.partial))
    ends_speaking OutOfMemory q = (q.wire.stream, speaks q.stage q.sent q.heard q.heard q.xs q.wire q.asks q.hears q.turn q.stops q.stops.unheard q.stops.contents q.one q.stops.read)
    ends_speaking (Frame fault) q = ends_so (Frame fault) q
    ends_speaking BadAnswer q = ends_so BadAnswer q
    ends_speaking (Refused code) q = ends_so (Refused code) q

    pub introduces : (hello : Hello) (back : S) → Concludes answers (fresh names stream) hello back → Introduces answers names stream hello back
    introduces hello back q =
        let c = q.comes in
        let written : gone q.xs ≡ first ++ second =
        sym (append-nil (gone q.xs)) ∙ ap (λ (zs : List ℕ). gone q.xs ++ zs) (sym q.written) ∙ c.goes.written ∙ ap concat c.asks
        ∙ ap (λ (zs : List ℕ). first ++ zs) (append-nil second) in
        let both : c.heard ++ (q.content ∷ []) ≡ c.hears.0 ∷ q.content ∷ [] = ap (λ (zs : List (List ℕ)). zs ++ (q.content ∷ [])) c.hears.1 in
        record {
          xs = q.xs;
          told = subst (λ (s : S). answers stream q.xs s) (sym q.back) c.goes.told;
          asks = in_turn q.xs q.wire.kept (ProducerId hello.partitions) c.sent c.heard c.asks c.hears c.turn c.goes.written;
          written = written;
          first = c.hears.0;
          second = q.content;
          read =
              sym c.goes.read ∙ ap (λ (zs : List ℕ). frames (c.heard ++ (q.content ∷ [])) ++ zs) q.read
              ∙ append-nil (frames (c.heard ++ (q.content ∷ []))) ∙ ap frames both
              ∙ ap (λ (zs : List ℕ). framing.frame.spell c.hears.0 ++ zs) (append-nil (framing.frame.spell q.content));
          partitions = c.hears.2;
          id = q.id;
          correlation = q.correlation;
        }

-- ---- polls, one behind the other

module _ {S : Type 0} (answers : Told S) (nothing : (s : S) → answers s [] s) (in_order : (a : S) (xs : List Answer) (b : S) (ys : List Answer) (c : S) → answers a xs b → answers b ys c → answers a (xs ++ ys) c) (first : Talking S) where
  pub waited_steps : (last : Talking S) → Waited answers first last → Steps answers first last
  waited_steps last Waited.unpolled = record { xs = []; names = refl; comes = comes_on answers first [] [] first.wire (Goes-nothing answers nothing first.wire) }
  waited_steps last (Waited.polled old new before w) = steps_then answers in_order first old new (waited_steps old before) (waits_step answers old new w)

-- behind such polls at most a part of a frame is held
pub waited_one : {S : Type 0} (answers : Told S) (names : Names) (stream : S) (last : Talking S) → Waited answers (fresh names stream) last → IsOneAtMost last.wire.held
waited_one answers names stream last Waited.unpolled = one_of_none [] frame.Short (first_short [] (omega arith))
waited_one answers names stream last (Waited.polled old after before w) = one_of_none after.wire.held frame.Short w.partial

-- a wait that it met, whichever
pub met_a_wait : {S : Type 0} (answers : Told S) (old new : Talking S) → Waits answers old new → MetAWait answers old.wire.stream new.wire.stream
met_a_wait answers old new w =
    record { xs = w.xs; told = w.comes.goes.told; met = elim w.met [ inl h ↦ inl h.1 | inr h ↦ inr h ] }
