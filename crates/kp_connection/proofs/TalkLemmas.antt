-- The steps of a handshake.
use Rattle.std.proofs.Common.{◌≡◌, ◌≤◌, ℕ, List, [], ◌∷◌, ◌++◌, length, Result, Ok, Err, Some, None, true, false, refl, sym, ap, subst, ◌∙◌, inl, inr, append-nil, arith}
use Rattle.std.specs.Prelude.{Option, IsSome, IfSome}
use Rattle.futures.specs.Poll.{OnPending}
use Rattle.std.specs.Global.{Vec}
use Rattle.std.specs.Result.{IsErrAnd}
use Rattle.std.proofs.lemmas.Result.{err_from_is_err_and}
use Rattle.kp_wire.proofs.ReadLemmas.{done, failed}
use Rattle.kp_frames.proofs.FirstLemmas.{first_short, front_first, frame_front}
use Rattle.kp_frames.specs.declared.fault.FrameFault.{FrameFault}
use Rattle.kp_frames.specs.declared.fault.FrameFault.TheVariants as frame
use Rattle.kp_frames.specs.declared.frame.TheConstants.{CONTENT_LIMIT}
use Rattle.kp_rules.specs.declared.names.Names.{Names}
use Rattle.kp_hello.specs.declared.fault.HandshakeFault.{HandshakeFault}
use Rattle.kp_hello.specs.declared.fault.HandshakeFault.TheVariants.{Io, Frame, BadAnswer, Refused, OutOfMemory}
use Rattle.kp_connection.specs.declared.handshake.stage.Stage.{Stage}
use Rattle.kp_connection.specs.declared.handshake.stage.Stage.TheVariants.{Opening, Metadata, ProducerId}
use Rattle.kp_hello.specs.declared.hello.Hello.{Hello}
use Rattle.kp_connection.specs.Answers.{Answer, gone}
use Rattle.kp_hello.specs.Asking.{frame_of, IsWritten, metadata_request, producer_id_request}
use Rattle.kp_connection.specs.Handshake.{Talking, asked, Hears, InTurn, Comes, Waits, Concludes, Lacks, GivesFault, Ends, EndsWith}
use Rattle.kp_frames.specs.Stream as framing
use Rattle.kp_hello.specs.Hello.{metadata_given, producer_id_given, UnlessMemory}
use Rattle.kp_connection.specs.Listening as listening
use Rattle.kp_connection.specs.Talking.{IsCounted, IsSound, Steps, StepsTo, Learns, Talks}
use Rattle.futures.specs.declared.task.Poll.{Poll}
use Rattle.futures.specs.declared.task.Poll.TheVariants.{Ready, Pending}
use Rattle.kp_connection.specs.Wire.{Told, Wired, frames, Goes, IsOneAtMost}
use Rattle.kp_connection.proofs.HandshakeLemmas.{in_turn_none, waits_then, concludes_then, ends_with_then, ends_then}
use Rattle.kp_connection.proofs.WireLemmas.{Goes-then, Goes-nothing}

-- ---- at its beginning

-- a handshake of which nothing was said
pub fresh : {S : Type 0} (names : Names) (stream : S) → IsSound (record { names = names; stage = Opening; wire = record { stream = stream; kept = []; held = [] } })
fresh names stream = record { partial = first_short [] (omega arith); opening = λ is. refl; counted = tt }

pub some_is : {A : Type 0} (x y : A) → Some x ≡ Some y → x ≡ y
some_is x y e = cc

-- ---- what was read and not heard

-- where no frame is at its beginning
pub one_of_none : (bytes : List ℕ) (fault : FrameFault) → framing.first bytes ≡ Err fault → IsOneAtMost bytes
one_of_none bytes fault none content rest e = absurd (apart (sym none ∙ e))
  where
    apart : {A : Type 0} {x : A} → failed fault ≡ done x → ⊥
    apart e = cc

-- where there is one whole frame
pub one_frame : (content held : List ℕ) → length content ≤ CONTENT_LIMIT → held ≡ [] → IsOneAtMost (frames (content ∷ []) ++ held)
one_frame content held small none more rest e =
    let whole : frames (content ∷ []) ++ held ≡ framing.frame.spell content ++ [] =
    ap (λ (zs : List ℕ). frames (content ∷ []) ++ zs) none ∙ append-nil (frames (content ∷ [])) in
    let first : framing.first (framing.frame.spell content ++ []) ≡ Ok (content, []) = front_first (framing.frame.spell content) content [] (frame_front content small) in
    ap (λ (x : List ℕ × List ℕ). x.1) (sym (same (sym first ∙ sym (ap framing.first whole) ∙ e)))
  where
    same : {x y : List ℕ × List ℕ} → done {E = FrameFault} x ≡ done y → x ≡ y
    same e = cc

-- ---- where it is

hears_none : (topic : List ℕ) (stage : Stage) → Hears topic stage [] stage
hears_none topic Opening = refl
hears_none topic Metadata = refl
hears_none topic (ProducerId n) = (refl, refl)

module _ {S : Type 0} (answers : Told S) (old : Talking S) where
  -- a stretch on the wire alone
  pub comes_on : (last : List (List ℕ)) (xs : List Answer) (wire : Wired S) → Goes answers old.wire [] last xs wire → Comes answers old old.stage last xs wire
  comes_on last xs wire goes = record {
    sent = [];
    heard = [];
    asks = append-nil (asked old.names old.stage);
    hears = hears_none old.names.topic old.stage;
    turn = in_turn_none old.names old.stage old.wire [] xs;
    goes = goes;
  }

  -- memory is refused behind one
  pub lacks_on : (last : List (List ℕ)) (xs : List Answer) (wire : Wired S) → Goes answers old.wire [] last xs wire → IsOneAtMost (frames last ++ wire.held) → Lacks answers old
  lacks_on last xs wire goes one = record {
    xs = xs;
    stage = old.stage;
    wire = wire;
    sent = [];
    heard = [];
    asks = append-nil (asked old.names old.stage);
    hears = hears_none old.names.topic old.stage;
    turn = in_turn_none old.names old.stage old.wire [] xs;
    stops = record {
      told = goes.told;
      unwritten = wire.kept;
      written = goes.written;
      unheard = frames last ++ wire.held;
      read = goes.read;
      contents = tt;
    };
    one = one;
  }

  -- ---- it begins

  pub not_written : ((s : S) → answers s [] s) → (fault : HandshakeFault) → old.stage ≡ Opening → framing.first old.wire.held ≡ Err frame.Short → IsWritten (metadata_request old.names) (Err fault) → EndsWith answers old fault
  not_written nothing Io is partial p = absurd p
  not_written nothing BadAnswer is partial p = absurd p
  not_written nothing (Refused code) is partial p = absurd p
  not_written nothing OutOfMemory is partial p = lacks_on [] [] old.wire (Goes-nothing answers nothing old.wire) (one_of_none old.wire.held frame.Short partial)
  not_written nothing (Frame fault) is partial p =
      inr (inl (record {
        xs = [];
        wire = old.wire;
        comes = subst (λ (stage : Stage). Comes answers old stage [] [] old.wire) is (comes_on [] [] old.wire (Goes-nothing answers nothing old.wire));
        partial = partial;
        refused = p;
      }))

  pub opened : (names : Names) (bytes : List ℕ) (wire : Wired S) → IsSound old → old.stage ≡ Opening → names ≡ old.names → bytes ≡ frame_of (metadata_request old.names)
      → Goes answers old.wire (bytes ∷ []) [] [] wire → wire.held ≡ old.wire.held → StepsTo answers old Metadata (record { names = names; stage = Metadata; wire = wire })
  opened names bytes wire sound is same written goes held = record {
    steps = record {
      xs = [];
      names = same;
      comes = record {
        sent = bytes ∷ [];
        heard = [];
        asks = ap (λ (stage : Stage). asked old.names stage ++ (bytes ∷ [])) is ∙ ap (λ (b : List ℕ). b ∷ []) written;
        hears = subst (λ (stage : Stage). Hears old.names.topic stage [] Metadata) (sym is) refl;
        turn = subst (λ (stage : Stage). InTurn old.names stage old.wire [] [] Metadata) (sym is) tt;
        goes = goes;
      };
    };
    to = refl;
    sound = record { partial = ap framing.first held ∙ sound.partial; opening = λ e. absurd (apart e); counted = tt };
  }
    where
      apart : Metadata ≡ Opening → ⊥
      apart e = cc

  -- ---- it waits, or the stream fails

  pub listens_on : (names : Names) (stage : Stage) (wire : Wired S) → IsSound old → (old.stage ≡ Opening → ⊥) → names ≡ old.names → stage ≡ old.stage → listening.Waits answers old.wire wire
      → Waits answers old (record { names = names; stage = stage; wire = wire }) × IsSound (record { names = names; stage = stage; wire = wire })
  listens_on names stage wire sound not same is w = (
    record {
      xs = w.xs;
      names = same;
      asked = λ e. not (sym is ∙ e);
      comes = subst (λ (s : Stage). Comes answers old s [] w.xs wire) (sym is) (comes_on [] w.xs wire w.goes);
      partial = w.partial;
      met = w.met;
    },
    record { partial = w.partial; opening = λ e. absurd (not (sym is ∙ e)); counted = subst IsCounted (sym is) sound.counted },
  )

  pub listens_not : (fault : HandshakeFault) (wire : Wired S) → listening.Listens answers old.wire (Err fault) wire → EndsWith answers old fault
  listens_not Io wire p = record { xs = p.xs; stage = old.stage; wire = wire; comes = comes_on [] p.xs wire p.goes; partial = p.partial; failed = p.failed }
  listens_not OutOfMemory wire p = record {
    xs = p.xs;
    stage = old.stage;
    wire = wire;
    sent = [];
    heard = [];
    asks = append-nil (asked old.names old.stage);
    hears = hears_none old.names.topic old.stage;
    turn = in_turn_none old.names old.stage old.wire [] p.xs;
    stops = p.stops;
    one = p.one;
  }
  listens_not (Frame frame.TooLarge) wire p =
      inl (inr (record {
        xs = p.xs;
        stage = old.stage;
        wire = wire;
        comes = comes_on [] p.xs wire p.goes;
        written = p.written;
        size = p.size;
        large = p.large;
        is = refl;
      }))
  listens_not (Frame frame.Short) wire p = absurd p
  listens_not (Frame frame.Trailing) wire p = absurd p
  listens_not (Frame frame.UnknownApi) wire p = absurd p
  listens_not (Frame frame.UnknownVersion) wire p = absurd p
  listens_not (Frame (frame.Wire fault)) wire p = absurd p
  listens_not (Frame frame.OutOfMemory) wire p = absurd p
  listens_not (Frame frame.Mismatch) wire p = absurd p
  listens_not BadAnswer wire p = absurd p
  listens_not (Refused code) wire p = absurd p

  -- ---- an answer was read

  -- it gives a fault, unless memory was refused
  pub judged_not : {A : Type 0} (fault : HandshakeFault) (content : List ℕ) (wire : Wired S) (given : Result A HandshakeFault) → listening.Hears answers old.wire content wire
      → (given ≡ Err fault → GivesFault old.names.topic old.stage content fault) → UnlessMemory (Err fault) given → (given ≡ Err Io → ⊥) → EndsWith answers old fault
  judged_not Io content wire given h gives p not = absurd (not (sym p))
  judged_not OutOfMemory content wire given h gives p not = lacks_on (content ∷ []) h.xs wire h.goes (one_frame content wire.held h.goes.contents.0 h.read)
  judged_not (Frame fault) content wire given h gives p not = inl (inl (record {
    xs = h.xs;
    stage = old.stage;
    wire = wire;
    content = content;
    comes = comes_on (content ∷ []) h.xs wire h.goes;
    written = h.written;
    read = h.read;
    gives = gives (sym p);
  }))
  judged_not BadAnswer content wire given h gives p not = inl (inl (record {
    xs = h.xs;
    stage = old.stage;
    wire = wire;
    content = content;
    comes = comes_on (content ∷ []) h.xs wire h.goes;
    written = h.written;
    read = h.read;
    gives = gives (sym p);
  }))
  judged_not (Refused code) content wire given h gives p not = inl (inl (record {
    xs = h.xs;
    stage = old.stage;
    wire = wire;
    content = content;
    comes = comes_on (content ∷ []) h.xs wire h.goes;
    written = h.written;
    read = h.read;
    gives = gives (sym p);
  }))

  -- the request behind it has no frame
  pub half_written : (fault : HandshakeFault) (content : List ℕ) (wire : Wired S) (n : ℕ) → old.stage ≡ Metadata → listening.Hears answers old.wire content wire → metadata_given old.names.topic content ≡ Ok n
      → IsWritten (producer_id_request old.names) (Err fault) → EndsWith answers old fault
  half_written Io content wire n is h given p = absurd p
  half_written BadAnswer content wire n is h given p = absurd p
  half_written (Refused code) content wire n is h given p = absurd p
  half_written OutOfMemory content wire n is h given p = lacks_on (content ∷ []) h.xs wire h.goes (one_frame content wire.held h.goes.contents.0 h.read)
  half_written (Frame fault) content wire n is h given p =
      inr (inr (record {
        xs = h.xs;
        wire = wire;
        content = content;
        partitions = n;
        comes = subst (λ (stage : Stage). Comes answers old stage (content ∷ []) h.xs wire) is (comes_on (content ∷ []) h.xs wire h.goes);
        written = h.written;
        read = h.read;
        given = given;
        refused = p;
      }))

  -- it tells how many partitions there are, and the request behind it is handed to write
  pub learned : ((a : S) (xs : List Answer) (b : S) (ys : List Answer) (c : S) → answers a xs b → answers b ys c → answers a (xs ++ ys) c) → (names : Names) (content bytes : List ℕ) (mid wire : Wired S) (n : ℕ)
      → old.stage ≡ Metadata → names ≡ old.names → listening.Hears answers old.wire content mid → metadata_given old.names.topic content ≡ Ok n → (1 ≤ n) × (n ≤ 1024)
      → bytes ≡ frame_of (producer_id_request old.names) → Goes answers mid (bytes ∷ []) [] [] wire → wire.held ≡ mid.held → StepsTo answers old (ProducerId n) (record { names = names; stage = ProducerId n; wire = wire })
  learned in_order names content bytes mid wire n is same h given counted written goes held = record {
    steps = record {
      xs = h.xs ++ [];
      names = same;
      comes = record {
        sent = bytes ∷ [];
        heard = content ∷ [];
        asks = ap (λ (stage : Stage). asked old.names stage ++ (bytes ∷ [])) is ∙ ap (λ (b : List ℕ). frame_of (metadata_request old.names) ∷ b ∷ []) written;
        hears = subst (λ (stage : Stage). Hears old.names.topic stage (content ∷ []) (ProducerId n)) (sym is) (content, refl, given);
        turn = subst (λ (stage : Stage). InTurn old.names stage old.wire (content ∷ []) (h.xs ++ []) (ProducerId n)) (sym is) (record {
          until = h.xs;
          behind = [];
          is = refl;
          written = sym (append-nil (gone h.xs)) ∙ ap (λ (zs : List ℕ). gone h.xs ++ zs) (sym h.written) ∙ h.goes.written;
          read = sym h.goes.read ∙ ap (λ (zs : List ℕ). frames (content ∷ []) ++ zs) h.read ∙ append-nil (frames (content ∷ []));
        });
        goes = Goes-then answers in_order old.wire mid wire [] (content ∷ []) (bytes ∷ []) [] h.xs [] h.goes goes;
      };
    };
    to = refl;
    sound = record { partial = ap framing.first (held ∙ h.read) ∙ first_short [] (omega arith); opening = λ e. absurd (apart e); counted = counted };
  }
    where
      apart : ProducerId n ≡ Opening → ⊥
      apart e = cc

  -- it tells the producer id
  pub concluded : (hello : Hello) (content : List ℕ) (wire : Wired S) (stream : S) → old.stage ≡ ProducerId hello.partitions → listening.Hears answers old.wire content wire → producer_id_given content ≡ Ok hello.producer_id
      → hello.next_correlation ≡ 2 → stream ≡ wire.stream → Concludes answers old hello stream
  concluded hello content wire stream is h given two back = record {
    xs = h.xs;
    wire = wire;
    content = content;
    comes = subst (λ (stage : Stage). Comes answers old stage (content ∷ []) h.xs wire) is (comes_on (content ∷ []) h.xs wire h.goes);
    written = h.written;
    read = h.read;
    id = given;
    correlation = two;
    back = back;
  }

-- what a `?` gives back
pub given_back : {A : Type 0} (P : Result A HandshakeFault → Type 0) (got : Result A HandshakeFault) (fault : HandshakeFault) → IsErrAnd got (λ e. e ≡ fault) → P (Err fault) → P got
given_back {A = A} P got fault is p =
    let q = err_from_is_err_and got is in
    subst P (sym (q.1 ∙ ap (λ (e : HandshakeFault). failed {A = A} e) q.2)) p

-- an answer that was heard, as its poll gave it
pub heard_by : {S : Type 0} (answers : Told S) (old inside new : Wired S) (r : Poll (Vec ℕ)) (content : Vec ℕ) → inside ≡ old → r ≡ Ready content → listening.Listens answers inside (Ok r) new → listening.Hears answers old content.items new
heard_by {S = S} answers old inside new r content same is listens =
    subst (λ (x : Poll (Vec ℕ)). listening.Listens answers old (Ok x) new) is (subst (λ (w : Wired S). listening.Listens answers w (Ok r) new) same listens)

pub waited_by : {S : Type 0} (answers : Told S) (old inside new : Wired S) (r : Poll (Vec ℕ)) → inside ≡ old → r ≡ Pending → listening.Listens answers inside (Ok r) new → listening.Waits answers old new
waited_by {S = S} answers old inside new r same is listens =
    subst (λ (x : Poll (Vec ℕ)). listening.Listens answers old (Ok x) new) is (subst (λ (w : Wired S). listening.Listens answers w (Ok r) new) same listens)

-- ---- one step behind another

module _ {S : Type 0} (answers : Told S) (in_order : (a : S) (xs : List Answer) (b : S) (ys : List Answer) (c : S) → answers a xs b → answers b ys c → answers a (xs ++ ys) c) (old mid new : Talking S) where
  pub talks_then : (r : Result (Poll Hello) HandshakeFault) → Steps answers old mid → Talks answers mid r new → Talks answers old r new
  talks_then (Ok Pending) s q = (waits_then answers in_order old mid new s q.0, q.1)
  talks_then (Ok (Ready hello)) s q = concludes_then answers in_order old mid hello new.wire.stream s q
  talks_then (Err fault) s q = ends_with_then answers in_order old mid fault s q

-- a poll that waited is a step
pub waits_step : {S : Type 0} (answers : Told S) (old new : Talking S) → Waits answers old new → Steps answers old new
waits_step answers old new w = record { xs = w.xs; names = w.names; comes = w.comes }

module _ {S : Type 0} (answers : Told S) (old new : Talking S) (fault : HandshakeFault) where
  pub learns_back : (got : Result (Poll ℕ) HandshakeFault) → IsErrAnd got (λ e. e ≡ fault) → EndsWith answers old fault → Learns answers old got new
  learns_back got is ends = given_back (λ r. Learns answers old r new) got fault is ends

  pub talks_back : (got : Result (Poll Hello) HandshakeFault) → IsErrAnd got (λ e. e ≡ fault) → EndsWith answers old fault → Talks answers old got new
  talks_back got is ends = given_back (λ r. Talks answers old r new) got fault is ends

none_is : false ≡ true → ⊥
none_is e = cc

-- what it gives behind a poll that waited, it gives from before
pub same_behind : {S : Type 0} (answers : Told S) → ((a : S) (xs : List Answer) (b : S) (ys : List Answer) (c : S) → answers a xs b → answers b ys c → answers a (xs ++ ys) c) → (r : Poll (Result (Hello × S) HandshakeFault)) (old new : Option (Talking S))
    → OnPending r (IfSome old (λ o. IfSome new (λ n. Waits answers o n))) → OnPending r (IsSome new) → OnPending r ((x : Result (Hello × S) HandshakeFault) → IfSome new (λ n. Ends answers n x) → IfSome old (λ o. Ends answers o x))
same_behind answers in_order (Ready out) old new waits again = tt
same_behind answers in_order Pending None new waits again = λ x ends. tt
same_behind answers in_order Pending (Some old) None waits again = absurd (none_is again)
same_behind answers in_order Pending (Some old) (Some new) waits again = λ x ends. ends_then answers in_order old new x (waits_step answers old new waits) ends
