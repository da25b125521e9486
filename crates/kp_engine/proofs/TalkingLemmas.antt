-- Requests and replies of a turn together.
use Rattle.std.proofs.Common.{◌≡◌, ◌⊎◌, ℕ, Bool, true, false, List, [], ◌++◌, ◌≤◌, length, map, Some, None, Ok, Err, refl, sym, ap, subst, ◌∙◌, inl, inr, append-nil, append_assoc, arith}
use Rattle.std.specs.Prelude.{Option, Result}
use Rattle.std.specs.declared.alloc.AllocError.{AllocError}
use Rattle.std.proofs.lemmas.List.Concat.{flat_map-append}
use Rattle.std.proofs.lemmas.List.Elements.{Contains-append_right, Contains-append_left}
use Rattle.kp_connection.specs.Answers.{Answer, came, came_by}
use Rattle.kp_connection.specs.Answers.Answer.{Came, Read_failed, Read_waits, Write_waits}
use Rattle.kp_connection.specs.Wire.{Told, Wired, Met}
use Rattle.kp_connection.proofs.WireLemmas.{Goes-stops, Stops-then}
use Rattle.kp_frames.specs.declared.fault.FrameFault.{FrameFault}
use Rattle.kp_frames.specs.Stream.{stream, is_faulty}
use Rattle.kp_rules.specs.Calls.{Call}
use Rattle.kp_rules.specs.declared.outgoing.Outgoing.{Outgoing}
use Rattle.kp_engine.specs.Exchange.{OnlyCore}
use Rattle.kp_engine.specs.Polls.{CutFor, TalkUntil, TalksAll, TalksCut, TalksOn, TalksOut}
use Rattle.kp_engine.specs.Talking.{CutBy, HeardAll, ListensCut, ListensOn, ListensUntil, Listens, Talks, TalksUntil, WritesCut, WritesOn, WritesUntil, contents_of, frames_of}
use Rattle.kp_engine.specs.Turn.{Heard, RepliesPart, RequestsPart, asks, hears, lacking_memory, refused_with, requests}
use Rattle.kp_engine.specs.declared.exchange.Exchange.{Exchange}
use Rattle.kp_engine.specs.declared.stop.Cause.{Cause}
use Rattle.kp_engine.specs.declared.stop.Cause.TheVariants.{Io, TimedOut, BadReply}
use Rattle.kp_engine.proofs.AgreementLemmas.{none_some}
use Rattle.kp_engine.proofs.RunLemmas.{runs_then}
use Rattle.kp_engine.proofs.TalkLemmas.{contents_then, frames_then, only_then, talks_none, talks_then}

no_replies : (now : ℕ) → RepliesPart now [] None []
no_replies now = record { before = []; are_heard = refl; few = omega arith; going = tt; made = refl }

module _ {S : Type 0} (answers : Told S) where
  pub talks_until : (x y : Exchange) (w v : Wired S) (sent : List Outgoing) (heard : List Heard) (calls : List Call) (xs : List Answer)
      → Talks answers x w sent heard calls xs y v → TalksUntil answers x w sent heard calls xs y v
  talks_until x y w v sent heard calls xs p = record {
    runs = p.runs;
    only = p.only;
    stops = Goes-stops answers w v (frames_of sent) (contents_of heard) xs p.goes;
  }

  -- nothing was tried, since a request has waited too long
  pub too_late : ((s : S) → answers s [] s) → (most node now : ℕ) (late : Bool) (x : Exchange) (w : Wired S) → late ≡ true → TalksCut answers most node now late x w TimedOut x w
  too_late nothing most node now late x w is = record {
    sent = [];
    heard = [];
    refused = None;
    asked = [];
    replied = [];
    xs = [];
    of_requests = record { last = None; few = omega arith; none = λ answer some. absurd (none_some some); made = refl };
    of_replies = no_replies now;
    within = omega arith;
    talks = talks_until x x w w [] [] [] [] (talks_none answers nothing x w);
    cut = (is, refl, refl);
  }

  -- a write failed
  pub cut_by_write : (most node now : ℕ) (x y : Exchange) (w v : Wired S) → most ≤ 16 → WritesCut answers most node now x w y v → TalksCut answers most node now false x w Io y v
  cut_by_write most node now x y w v bound p = record {
    sent = p.sent;
    heard = [];
    refused = None;
    asked = requests node now p.sent;
    replied = [];
    xs = p.xs;
    of_requests = record { last = None; few = omega (arith, p.few, bound); none = λ answer some. absurd (none_some some); made = sym (append-nil (requests node now p.sent)) };
    of_replies = no_replies now;
    within = p.few;
    talks = subst (λ (c : List Call). TalksUntil answers x w p.sent [] c p.xs y v) (sym (append-nil (requests node now p.sent)))
        (talks_until x y w v p.sent [] (requests node now p.sent) p.xs p.talks);
    cut = (refl, refl, inr p.failed);
  }

  -- memory was refused while requests were asked for
  pub out_in_requests : (most node now : ℕ) (x y : Exchange) (w v : Wired S) → most ≤ 16 → WritesUntil answers most node now x w y v → TalksOut answers most node now x w y v
  out_in_requests most node now x y w v bound p = record {
    sent = p.sent;
    heard = [];
    calls = requests node now p.sent ++ asks node now p.last;
    xs = p.xs;
    until = TalkUntil.in_requests p.sent (requests node now p.sent ++ asks node now p.last) (record { last = p.last; few = omega (arith, p.few, bound); lacking = p.lacking; made = refl });
    within = omega (arith, p.few);
    talks = talks_until x y w v p.sent [] (requests node now p.sent ++ asks node now p.last) p.xs p.talks;
  }

  module _ (in_order : (a : S) (xs : List Answer) (b : S) (ys : List Answer) (c : S) → answers a xs b → answers b ys c → answers a (xs ++ ys) c) where
    pub talks_then_until : (x y z : Exchange) (w v u : Wired S) (sent more : List Outgoing) (heard news : List Heard) (calls others : List Call) (xs ys : List Answer)
        → Talks answers x w sent heard calls xs y v → TalksUntil answers y v more news others ys z u
        → TalksUntil answers x w (sent ++ more) (heard ++ news) (calls ++ others) (xs ++ ys) z u
    talks_then_until x y z w v u sent more heard news calls others xs ys p q = record {
      runs = runs_then x y z calls others p.runs q.runs;
      only = only_then x y z p.only q.only;
      stops = rw (frames_then sent more, contents_then heard news)
          (Stops-then answers in_order w v u (frames_of sent) (contents_of heard) (frames_of more) (contents_of news) xs ys p.goes q.stops);
    }

    module _ (most node now : ℕ) (x y z : Exchange) (w v u : Wired S) (bound : most ≤ 16) (writes : WritesOn answers most node now x w y v) where
      abbrev asked : List Call
      asked = requests node now writes.sent ++ asks node now writes.last

      abbrev of_requests : RequestsPart node now writes.sent asked
      of_requests = record { last = writes.last; few = omega (arith, writes.few, bound); none = writes.none; made = refl }

      -- requests were written, and replies heard
      pub went_on : ListensOn answers now 16 y v z u → TalksOn answers most node now x w z u
      went_on p = record {
        sent = writes.sent;
        heard = p.heard;
        asked = asked;
        replied = map (hears now) p.heard;
        xs = writes.xs ++ p.xs;
        of_requests = of_requests;
        of_replies = record { before = p.heard; are_heard = sym (append-nil p.heard); few = p.few; going = p.on.going; made = refl };
        talks = subst (λ (sent : List Outgoing). Talks answers x w sent p.heard (asked ++ map (hears now) p.heard) (writes.xs ++ p.xs) z u) (append-nil writes.sent)
            (talks_then answers in_order x y z w v u writes.sent [] [] p.heard asked (map (hears now) p.heard) writes.xs p.xs writes.talks p.on.talks);
        within = omega (arith, writes.few);
        waits = record { all = all writes.all; kept = kept writes.kept; enough = enough p.enough };
        sound = p.sound;
      }
        where
          all : {A : Type 0} → A ⊎ Met Write_waits writes.xs → A ⊎ Met Write_waits (writes.xs ++ p.xs)
          all (inl h) = inl h
          all (inr h) = inr (Contains-append_left writes.xs p.xs Write_waits h)

          kept : (v.kept ≡ []) ⊎ Met Write_waits writes.xs → (u.kept ≡ []) ⊎ Met Write_waits (writes.xs ++ p.xs)
          kept (inl h) = inl (p.on.kept ∙ h)
          kept (inr h) = inr (Contains-append_left writes.xs p.xs Write_waits h)

          enough : {A B : Type 0} → A ⊎ (Met Read_waits p.xs × B) → A ⊎ (Met Read_waits (writes.xs ++ p.xs) × B)
          enough (inl h) = inl h
          enough (inr h) = inr (Contains-append_right writes.xs p.xs Read_waits h.0, h.1)

      -- what was read until then is held
      held_then : (ys : List Answer) → v.held ++ came ys ≡ w.held ++ came (writes.xs ++ ys)
      held_then ys =
          ap (λ (zs : List ℕ). zs ++ came ys) writes.talks.goes.read
          ∙ append_assoc w.held (came writes.xs) (came ys)
          ∙ ap (λ (zs : List ℕ). w.held ++ zs) (sym (flat_map-append came_by writes.xs ys))

      heard_behind : (ys : List Answer) (heard : List Heard) → HeardAll 16 v.held ys heard → HeardAll 16 w.held (writes.xs ++ ys) heard
      heard_behind ys heard h = subst (λ (bytes : List ℕ). (length heard ≡ 16) ⊎ ((stream bytes).frames ≡ contents_of heard)) (held_then ys) h

      by_behind : (ys : List Answer) (refused : Option (List ℕ × FrameFault)) (cause : Cause) → CutBy v.held ys refused cause → CutBy w.held (writes.xs ++ ys) refused cause
      by_behind ys refused Io h = (failed h.0, h.1)
        where
          failed : Met Read_failed ys ⊎ Met (Came []) ys → Met Read_failed (writes.xs ++ ys) ⊎ Met (Came []) (writes.xs ++ ys)
          failed (inl m) = inl (Contains-append_right writes.xs ys Read_failed m)
          failed (inr m) = inr (Contains-append_right writes.xs ys (Came []) m)
      by_behind ys refused TimedOut h = absurd h
      by_behind ys refused (BadReply fault) (inl m) = inl m
      by_behind ys refused (BadReply fault) (inr m) = inr (m.0, ap is_faulty (sym (held_then ys)) ∙ m.1, m.2)

      cut_behind : (ys : List Answer) (heard : List Heard) (refused : Option (List ℕ × FrameFault)) (calls : List Call) (cause : Cause)
          → CutBy v.held ys refused cause → (refused ≡ None → HeardAll 16 v.held ys heard) → CutFor false w.held (writes.xs ++ ys) heard refused calls cause
      cut_behind ys heard refused calls Io h all = (refl, h.1, inl (by_behind ys refused Io h, heard_behind ys heard (all h.1)))
      cut_behind ys heard refused calls TimedOut h all = absurd h
      cut_behind ys heard refused calls (BadReply fault) h all = (refl, by_behind ys refused (BadReply fault) h, λ none. heard_behind ys heard (all none))

      -- nothing was refused: all that was heard came before
      heard_before : (ys : List Answer) (before : List Heard) (refused : Option (List ℕ × FrameFault)) → HeardAll 16 v.held ys before → refused ≡ None → HeardAll 16 v.held ys (before ++ refused_with refused)
      heard_before ys before refused h none =
          subst (λ (o : Option (List ℕ × FrameFault)). HeardAll 16 v.held ys (before ++ refused_with o)) (sym none)
          (subst (λ (heard : List Heard). HeardAll 16 v.held ys heard) (sym (append-nil before)) h)

      -- requests were written, and the connection was of no use any more while replies were heard
      pub cut_by_read : (cause : Cause) → ListensCut answers now 16 y v cause z u → TalksCut answers most node now false x w cause z u
      cut_by_read cause p =
          let heard = p.before ++ refused_with p.refused in
          record {
            sent = writes.sent;
            heard = heard;
            refused = p.refused;
            asked = asked;
            replied = map (hears now) heard;
            xs = writes.xs ++ p.xs;
            of_requests = of_requests;
            of_replies = record { before = p.before; are_heard = refl; few = p.few; going = p.going; made = refl };
            within = omega (arith, writes.few);
            talks = subst (λ (sent : List Outgoing). TalksUntil answers x w sent heard (asked ++ map (hears now) heard) (writes.xs ++ p.xs) z u) (append-nil writes.sent)
                (talks_then_until x y z w v u writes.sent [] [] heard asked (map (hears now) heard) writes.xs p.xs writes.talks p.talks);
            cut = cut_behind p.xs heard p.refused (asked ++ map (hears now) heard) cause p.cut (λ none. heard_before p.xs p.before p.refused (p.all none) none);
          }

      -- requests were written, and memory was refused while replies were heard
      pub out_in_replies : ListensUntil answers now 16 y v z u → TalksOut answers most node now x w z u
      out_in_replies p =
          let heard = p.before ++ lacking_memory p.lacking in
          record {
            sent = writes.sent;
            heard = heard;
            calls = asked ++ map (hears now) heard;
            xs = writes.xs ++ p.xs;
            until = TalkUntil.in_replies writes.sent heard asked (map (hears now) heard) of_requests
                (record { before = p.before; lacking = p.lacking; are_heard = refl; few = p.few; going = p.going; made = refl });
            within = omega (arith, writes.few);
            talks = subst (λ (sent : List Outgoing). TalksUntil answers x w sent heard (asked ++ map (hears now) heard) (writes.xs ++ p.xs) z u) (append-nil writes.sent)
                (talks_then_until x y z w v u writes.sent [] [] heard asked (map (hears now) heard) writes.xs p.xs writes.talks p.talks);
          }

      -- whatever listening answered
      pub talked : (late : Bool) → late ≡ false → (r : Result (Option Cause) AllocError) → Listens answers now 16 y v r z u → TalksAll answers most node now late x w r z u
      talked late on_time (Ok None) p = (on_time, went_on p)
      talked late on_time (Ok (Some cause)) p = subst (λ (b : Bool). TalksCut answers most node now b x w cause z u) (sym on_time) (cut_by_read cause p)
      talked late on_time (Err refused) p = out_in_replies p

-- whatever was answered, calls were made on the core alone
pub talks_only : {S : Type 0} (answers : Told S) (most node now : ℕ) (late : Bool) (x : Exchange) (w : Wired S) (r : Result (Option Cause) AllocError) (y : Exchange) (v : Wired S) → TalksAll answers most node now late x w r y v → OnlyCore x y
talks_only answers most node now late x w (Ok None) y v p = p.1.talks.only
talks_only answers most node now late x w (Ok (Some cause)) y v p = p.talks.only
talks_only answers most node now late x w (Err refused) y v p = p.talks.only
