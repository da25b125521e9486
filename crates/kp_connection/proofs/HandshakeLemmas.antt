-- What a handshake does behind what it did.
use Rattle.std.proofs.Common.{◌≡◌, ◌⊎◌, ℕ, List, [], ◌∷◌, ◌++◌, Result, Ok, Err, sym, ap, subst, ◌∙◌, inl, inr, append_assoc, append-nil}
use Rattle.std.specs.List.{concat}
use Rattle.std.proofs.lemmas.List.Concat.{flat_map-append}
use Rattle.std.proofs.lemmas.List.Elements.{Contains-append_right}
use Rattle.std.proofs.lemmas.List.Folds.{concat-append}
use Rattle.kp_frames.specs.Stream as framing
use Rattle.kp_wire.proofs.ReadLemmas.{done}
use Rattle.kp_rules.specs.declared.names.Names.{Names}
use Rattle.kp_hello.specs.declared.fault.HandshakeFault.{HandshakeFault}
use Rattle.kp_hello.specs.declared.fault.HandshakeFault.TheVariants.{Io, Frame, BadAnswer, Refused, OutOfMemory}
use Rattle.kp_connection.specs.declared.handshake.stage.Stage.{Stage}
use Rattle.kp_connection.specs.declared.handshake.stage.Stage.TheVariants.{Opening, Metadata, ProducerId}
use Rattle.kp_hello.specs.declared.hello.Hello.{Hello}
use Rattle.kp_connection.specs.Answers.{Answer, came, gone, came_by, gone_by}
use Rattle.kp_hello.specs.Asking.{frame_of, Unwritable, metadata_request, producer_id_request}
use Rattle.kp_connection.specs.Handshake.{Talking, asked, Counts, Hears, Turns, InTurn, Comes, Waits, Concludes, HasFailed, Fails, Lacks, GivesFault, Refuses, Overflows, Unasked, HalfAsked, EndsWith, Ends}
use Rattle.kp_hello.specs.Hello.{metadata_given}
use Rattle.kp_connection.specs.Talking.{Steps}
use Rattle.kp_connection.specs.Wire.{Told, Wired, frames, Goes, Met}
use Rattle.kp_connection.proofs.WireLemmas.{through, Goes-then, Stops-then}

-- ---- what is heard from stage to stage

counts_then : (topic : List ℕ) (a : Stage) (h more : List (List ℕ)) (m n : ℕ) → Counts topic a h m → more ≡ [] → m ≡ n → Counts topic a (h ++ more) n
counts_then topic Opening h more m n p none same =
    (p.0, ap (λ (xs : List (List ℕ)). h ++ xs) none ∙ append-nil h ∙ p.1, p.2 ∙ ap (λ (k : ℕ). done {E = HandshakeFault} k) same)
counts_then topic Metadata h more m n p none same =
    (p.0, ap (λ (xs : List (List ℕ)). h ++ xs) none ∙ append-nil h ∙ p.1, p.2 ∙ ap (λ (k : ℕ). done {E = HandshakeFault} k) same)
counts_then topic (ProducerId k) h more m n p none same =
    (ap (λ (xs : List (List ℕ)). h ++ xs) none ∙ append-nil h ∙ p.0, p.1 ∙ same)

none_then : (h more list : List (List ℕ)) → h ≡ [] → more ≡ list → h ++ more ≡ list
none_then h more list none is = ap (λ (xs : List (List ℕ)). xs ++ more) none ∙ is

pub hears_then : (topic : List ℕ) (a b c : Stage) (h more : List (List ℕ)) → Hears topic a h b → Hears topic b more c → Hears topic a (h ++ more) c
hears_then topic a (ProducerId m) (ProducerId n) h more p q = counts_then topic a h more m n p q.0 q.1
hears_then topic Opening Opening (ProducerId n) h more p q = (q.0, none_then h more _ p q.1, q.2)
hears_then topic Opening Metadata (ProducerId n) h more p q = (q.0, none_then h more _ p q.1, q.2)
hears_then topic Metadata Opening (ProducerId n) h more p q = absurd p
hears_then topic Metadata Metadata (ProducerId n) h more p q = (q.0, none_then h more _ p q.1, q.2)
hears_then topic (ProducerId k) Opening (ProducerId n) h more p q = absurd p
hears_then topic (ProducerId k) Metadata (ProducerId n) h more p q = absurd p
hears_then topic a (ProducerId m) Opening h more p q = absurd q
hears_then topic a (ProducerId m) Metadata h more p q = absurd q
hears_then topic a Metadata Opening h more p q = absurd q
hears_then topic Opening Opening Opening h more p q = none_then h more [] p q
hears_then topic Metadata Opening Opening h more p q = absurd p
hears_then topic (ProducerId k) Opening Opening h more p q = absurd p
hears_then topic Opening Opening Metadata h more p q = none_then h more [] p q
hears_then topic Metadata Opening Metadata h more p q = absurd p
hears_then topic (ProducerId k) Opening Metadata h more p q = absurd p
hears_then topic Opening Metadata Metadata h more p q = none_then h more [] p q
hears_then topic Metadata Metadata Metadata h more p q = none_then h more [] p q
hears_then topic (ProducerId k) Metadata Metadata h more p q = absurd p

-- ---- the turn of the second request

-- nothing is asked for where it stays
pub in_turn_none : {S : Type 0} (names : Names) (stage : Stage) (w : Wired S) (heard : List (List ℕ)) (xs : List Answer) → InTurn names stage w heard xs stage
in_turn_none names Opening w heard xs = tt
in_turn_none names Metadata w heard xs = tt
in_turn_none names (ProducerId n) w heard xs = tt

module _ {S : Type 0} (w v : Wired S) (first heard more : List (List ℕ)) (xs ys : List Answer) where
  turns_before : more ≡ [] → Turns w first heard xs → Turns w first (heard ++ more) (xs ++ ys)
  turns_before none t = record {
    until = t.until;
    behind = t.behind ++ ys;
    is = ap (λ (zs : List Answer). zs ++ ys) t.is ∙ append_assoc t.until t.behind ys;
    written = t.written;
    read = t.read ∙ ap frames (sym (append-nil heard) ∙ ap (λ (zs : List (List ℕ)). heard ++ zs) (sym none));
  }

  turns_behind : (sent : List (List ℕ)) → gone xs ++ v.kept ≡ w.kept ++ concat sent → frames heard ++ v.held ≡ w.held ++ came xs → Turns v first more ys → Turns w (sent ++ first) (heard ++ more) (xs ++ ys)
  turns_behind sent written read t = record {
    until = xs ++ t.until;
    behind = t.behind;
    is = ap (λ (zs : List Answer). xs ++ zs) t.is ∙ sym (append_assoc xs t.until t.behind);
    written =
        flat_map-append gone_by xs t.until ∙ sym (append-nil (gone xs ++ gone t.until))
        ∙ through (gone xs) (gone t.until) w.kept v.kept [] (concat sent) (concat first) written (append-nil (gone t.until) ∙ t.written)
        ∙ ap (λ (zs : List ℕ). w.kept ++ zs) (sym (concat-append sent first));
    read =
        ap (λ (zs : List ℕ). w.held ++ zs) (flat_map-append came_by xs t.until) ∙ sym (append_assoc w.held (came xs) (came t.until))
        ∙ ap (λ (zs : List ℕ). zs ++ came t.until) (sym read) ∙ append_assoc (frames heard) v.held (came t.until)
        ∙ ap (λ (zs : List ℕ). frames heard ++ zs) t.read ∙ sym (flat_map-append framing.frame.spell heard more);
  }

module _ {S : Type 0} (names : Names) (w v : Wired S) (sent heard more : List (List ℕ)) (xs ys : List Answer) (written : gone xs ++ v.kept ≡ w.kept ++ concat sent) (read : frames heard ++ v.held ≡ w.held ++ came xs) where
  turns_on : (first before : List (List ℕ)) → sent ++ first ≡ before → Turns v first more ys → Turns w before (heard ++ more) (xs ++ ys)
  turns_on first before is t =
      subst (λ (zs : List (List ℕ)). Turns w zs (heard ++ more) (xs ++ ys)) is (turns_behind w v first heard more xs ys sent written read t)

  pub in_turn_then : (a b c : Stage) → asked names a ++ sent ≡ asked names b → Hears names.topic a heard b → Hears names.topic b more c → InTurn names a w heard xs b → InTurn names b v more ys c → InTurn names a w (heard ++ more) (xs ++ ys) c
  in_turn_then (ProducerId k) b c asks h q s t = tt
  in_turn_then Opening b Opening asks h q s t = tt
  in_turn_then Opening b Metadata asks h q s t = tt
  in_turn_then Metadata b Opening asks h q s t = tt
  in_turn_then Metadata b Metadata asks h q s t = tt
  in_turn_then Opening Opening (ProducerId n) asks h q s t = turns_on (frame_of (metadata_request names) ∷ []) (frame_of (metadata_request names) ∷ []) (ap (λ (zs : List (List ℕ)). zs ++ (frame_of (metadata_request names) ∷ [])) asks) t
  in_turn_then Opening Metadata (ProducerId n) asks h q s t = turns_on [] (frame_of (metadata_request names) ∷ []) (append-nil sent ∙ asks) t
  in_turn_then Opening (ProducerId m) (ProducerId n) asks h q s t = turns_before w v (frame_of (metadata_request names) ∷ []) heard more xs ys q.0 s
  in_turn_then Metadata Opening (ProducerId n) asks h q s t = absurd h
  in_turn_then Metadata Metadata (ProducerId n) asks h q s t = turns_on [] [] (append-nil sent ∙ behind_first asks) t
    where
      behind_first : {x : List ℕ} {ys zs : List (List ℕ)} → x ∷ ys ≡ x ∷ zs → ys ≡ zs
      behind_first e = cc
  in_turn_then Metadata (ProducerId m) (ProducerId n) asks h q s t = turns_before w v [] heard more xs ys q.0 s

-- ---- one stretch, and then another

pub failed_then : (xs ys : List Answer) → HasFailed ys → HasFailed (xs ++ ys)
failed_then xs ys (inl (inl h)) = inl (inl (Contains-append_right xs ys _ h))
failed_then xs ys (inl (inr h)) = inl (inr (Contains-append_right xs ys _ h))
failed_then xs ys (inr (inl h)) = inr (inl (Contains-append_right xs ys _ h))
failed_then xs ys (inr (inr h)) = inr (inr (Contains-append_right xs ys _ h))

module _ {S : Type 0} (answers : Told S) (in_order : (a : S) (xs : List Answer) (b : S) (ys : List Answer) (c : S) → answers a xs b → answers b ys c → answers a (xs ++ ys) c) (old mid : Talking S) where
  asks_then : (stage : Stage) (sent more : List (List ℕ)) → mid.names ≡ old.names → asked old.names old.stage ++ sent ≡ asked old.names mid.stage → asked mid.names mid.stage ++ more ≡ asked mid.names stage
      → asked old.names old.stage ++ (sent ++ more) ≡ asked old.names stage
  asks_then stage sent more names p q =
      sym (append_assoc (asked old.names old.stage) sent more) ∙ ap (λ (zs : List (List ℕ)). zs ++ more) p
      ∙ subst (λ (n : Names). asked n mid.stage ++ more ≡ asked n stage) names q

  hears_on : (stage : Stage) (heard more : List (List ℕ)) → mid.names ≡ old.names → Hears old.names.topic old.stage heard mid.stage → Hears mid.names.topic mid.stage more stage → Hears old.names.topic old.stage (heard ++ more) stage
  hears_on stage heard more names p q =
      hears_then old.names.topic old.stage mid.stage stage heard more p (subst (λ (n : Names). Hears n.topic mid.stage more stage) names q)

  turn_on : (s : Steps answers old mid) (stage : Stage) (more : List (List ℕ)) (ys : List Answer) → Hears mid.names.topic mid.stage more stage → InTurn mid.names mid.stage mid.wire more ys stage
      → InTurn old.names old.stage old.wire (s.comes.heard ++ more) (s.xs ++ ys) stage
  turn_on s stage more ys hears turn =
      let p = s.comes in
      in_turn_then old.names old.wire mid.wire p.sent p.heard more s.xs ys p.goes.written
      (ap (λ (zs : List (List ℕ)). frames zs ++ mid.wire.held) (sym (append-nil p.heard)) ∙ p.goes.read)
      old.stage mid.stage stage p.asks p.hears
      (subst (λ (n : Names). Hears n.topic mid.stage more stage) s.names hears) p.turn
      (subst (λ (n : Names). InTurn n mid.stage mid.wire more ys stage) s.names turn)

  pub comes_then : (s : Steps answers old mid) (stage : Stage) (last : List (List ℕ)) (ys : List Answer) (wire : Wired S) → Comes answers mid stage last ys wire → Comes answers old stage last (s.xs ++ ys) wire
  comes_then s stage last ys wire q =
      let p = s.comes in
      let joined = Goes-then answers in_order old.wire mid.wire wire p.sent (p.heard ++ []) q.sent (q.heard ++ last) s.xs ys p.goes q.goes in
      let same : (p.heard ++ []) ++ (q.heard ++ last) ≡ (p.heard ++ q.heard) ++ last =
      ap (λ (zs : List (List ℕ)). zs ++ (q.heard ++ last)) (append-nil p.heard) ∙ sym (append_assoc p.heard q.heard last) in
      record {
        sent = p.sent ++ q.sent;
        heard = p.heard ++ q.heard;
        asks = asks_then stage p.sent q.sent s.names p.asks q.asks;
        hears = hears_on stage p.heard q.heard s.names p.hears q.hears;
        turn = turn_on s stage q.heard ys q.hears q.turn;
        goes = subst (λ (zs : List (List ℕ)). Goes answers old.wire (p.sent ++ q.sent) zs (s.xs ++ ys) wire) same joined;
      }

  pub steps_then : (new : Talking S) → Steps answers old mid → Steps answers mid new → Steps answers old new
  steps_then new s t = record {
    xs = s.xs ++ t.xs;
    names = t.names ∙ s.names;
    comes = comes_then s new.stage [] t.xs new.wire t.comes;
  }

  pub waits_then : (new : Talking S) → Steps answers old mid → Waits answers mid new → Waits answers old new
  waits_then new s q = record {
    xs = s.xs ++ q.xs;
    names = q.names ∙ s.names;
    asked = q.asked;
    comes = comes_then s new.stage [] q.xs new.wire q.comes;
    partial = q.partial;
    met = on_met q.met;
  }
    where
      on_met : {A : Type 0} {x y : Answer} → (A × Met x q.xs) ⊎ Met y q.xs → (A × Met x (s.xs ++ q.xs)) ⊎ Met y (s.xs ++ q.xs)
      on_met {x = x} (inl h) = inl (h.0, Contains-append_right s.xs q.xs x h.1)
      on_met {y = y} (inr h) = inr (Contains-append_right s.xs q.xs y h)

  pub concludes_then : (hello : Hello) (stream : S) → Steps answers old mid → Concludes answers mid hello stream → Concludes answers old hello stream
  concludes_then hello stream s q = record {
    xs = s.xs ++ q.xs;
    wire = q.wire;
    content = q.content;
    comes = comes_then s (ProducerId hello.partitions) (q.content ∷ []) q.xs q.wire q.comes;
    written = q.written;
    read = q.read;
    id = q.id;
    correlation = q.correlation;
    back = q.back;
  }

  fails_then : Steps answers old mid → Fails answers mid → Fails answers old
  fails_then s q = record {
    xs = s.xs ++ q.xs;
    stage = q.stage;
    wire = q.wire;
    comes = comes_then s q.stage [] q.xs q.wire q.comes;
    partial = q.partial;
    failed = failed_then s.xs q.xs q.failed;
  }

  lacks_then : Steps answers old mid → Lacks answers mid → Lacks answers old
  unfolding Stops-then
  lacks_then s q =
      let p = s.comes in
      let goes = subst (λ (zs : List (List ℕ)). Goes answers old.wire p.sent zs s.xs mid.wire) (append-nil p.heard) p.goes in
      record {
        xs = s.xs ++ q.xs;
        stage = q.stage;
        wire = q.wire;
        sent = p.sent ++ q.sent;
        heard = p.heard ++ q.heard;
        asks = asks_then q.stage p.sent q.sent s.names p.asks q.asks;
        hears = hears_on q.stage p.heard q.heard s.names p.hears q.hears;
        turn = turn_on s q.stage q.heard q.xs q.hears q.turn;
        stops = Stops-then answers in_order old.wire mid.wire q.wire p.sent p.heard q.sent q.heard s.xs q.xs goes q.stops;
        one = q.one;
      }

  refuses_then : (fault : HandshakeFault) → Steps answers old mid → Refuses answers mid fault → Refuses answers old fault
  refuses_then fault s q = record {
    xs = s.xs ++ q.xs;
    stage = q.stage;
    wire = q.wire;
    content = q.content;
    comes = comes_then s q.stage (q.content ∷ []) q.xs q.wire q.comes;
    written = q.written;
    read = q.read;
    gives = subst (λ (n : Names). GivesFault n.topic q.stage q.content fault) s.names q.gives;
  }

  overflows_then : (fault : HandshakeFault) → Steps answers old mid → Overflows answers mid fault → Overflows answers old fault
  overflows_then fault s q = record {
    xs = s.xs ++ q.xs;
    stage = q.stage;
    wire = q.wire;
    comes = comes_then s q.stage [] q.xs q.wire q.comes;
    written = q.written;
    size = q.size;
    large = q.large;
    is = q.is;
  }

  unasked_then : (fault : HandshakeFault) → Steps answers old mid → Unasked answers mid fault → Unasked answers old fault
  unasked_then fault s q = record {
    xs = s.xs ++ q.xs;
    wire = q.wire;
    comes = comes_then s Opening [] q.xs q.wire q.comes;
    partial = q.partial;
    refused = subst (λ (n : Names). Unwritable (metadata_request n) fault) s.names q.refused;
  }

  half_then : (fault : HandshakeFault) → Steps answers old mid → HalfAsked answers mid fault → HalfAsked answers old fault
  half_then fault s q = record {
    xs = s.xs ++ q.xs;
    wire = q.wire;
    content = q.content;
    partitions = q.partitions;
    comes = comes_then s Metadata (q.content ∷ []) q.xs q.wire q.comes;
    written = q.written;
    read = q.read;
    given = subst (λ (n : Names). metadata_given n.topic q.content ≡ Ok q.partitions) s.names q.given;
    refused = subst (λ (n : Names). Unwritable (producer_id_request n) fault) s.names q.refused;
  }

  abbrev EndsSo : Talking S → HandshakeFault → Type 0
  EndsSo t fault = (Refuses answers t fault ⊎ Overflows answers t fault) ⊎ (Unasked answers t fault ⊎ HalfAsked answers t fault)

  ends_so_then : (fault : HandshakeFault) → Steps answers old mid → EndsSo mid fault → EndsSo old fault
  ends_so_then fault s (inl (inl q)) = inl (inl (refuses_then fault s q))
  ends_so_then fault s (inl (inr q)) = inl (inr (overflows_then fault s q))
  ends_so_then fault s (inr (inl q)) = inr (inl (unasked_then fault s q))
  ends_so_then fault s (inr (inr q)) = inr (inr (half_then fault s q))

  pub ends_with_then : (fault : HandshakeFault) → Steps answers old mid → EndsWith answers mid fault → EndsWith answers old fault
  ends_with_then Io s q = fails_then s q
  ends_with_then OutOfMemory s q = lacks_then s q
  ends_with_then (Frame fault) s q = ends_so_then (Frame fault) s q
  ends_with_then BadAnswer s q = ends_so_then BadAnswer s q
  ends_with_then (Refused code) s q = ends_so_then (Refused code) s q

  pub ends_then : (out : Result (Hello × S) HandshakeFault) → Steps answers old mid → Ends answers mid out → Ends answers old out
  ends_then (Ok x) s q = concludes_then x.0 x.1 s q
  ends_then (Err fault) s q = ends_with_then fault s q
