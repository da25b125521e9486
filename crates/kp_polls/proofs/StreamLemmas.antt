-- What goes over one stream, by the calls of the polls over it.
use Rattle.std.proofs.Common.{◌≡◌, ℕ, List, [], ◌∷◌, ◌++◌, refl, sym, ap, ◌∙◌, subst, inl, inr, append_assoc, append-nil}
use Rattle.std.specs.Prelude.{Some, None, flat_map}
use Rattle.std.proofs.lemmas.Grind.{flat_map-append}
use Rattle.futures.specs.declared.task.Poll.{Poll}
use Rattle.futures.specs.declared.task.Poll.TheVariants.{Ready, Pending}
use Rattle.kp_connection.specs.Answers.{Answer}
use Rattle.kp_connection.specs.Wire.{Goes, Stops, Told, Wired}
use Rattle.kp_connection.proofs.WireLemmas.{Goes-then, Goes-nothing, Goes-stops, Stops-then}
use Rattle.kp_engine.specs.Closing.{calls_of_poll, calls_of_turn}
use Rattle.kp_engine.specs.Engine.{Polls, fresh_wire, line_after}
use Rattle.kp_engine.specs.Exchange.{with_strays}
use Rattle.kp_engine.specs.Polls.{Turns}
use Rattle.kp_engine.specs.Serving.{asked_by, replied_by}
use Rattle.kp_engine.specs.Talking.{contents_of, frames_of}
use Rattle.kp_engine.specs.declared.engine.Line.{Line}
use Rattle.kp_engine.specs.declared.engine.Line.TheVariants.{Open, Stopped}
use Rattle.kp_engine.specs.declared.exchange.Exchange.{Exchange}
use Rattle.kp_engine.specs.declared.stop.Cause.{Cause}
use Rattle.kp_engine.specs.declared.stop.Stop.{Stop}
use Rattle.kp_engine.specs.declared.stop.Stop.TheVariants.{Done, NeedStream, OutOfMemory}
use Rattle.kp_engine.proofs.AwayLemmas.{none_goes}
use Rattle.kp_engine.specs.Rounds.{IsCut, Rounds}
use Rattle.kp_engine.proofs.FrameLemmas.{talk_goes, talk_until_goes, turn_goes, until_goes}
use Rattle.kp_engine.proofs.ServingLemmas.{before_nothing}
use Rattle.kp_rules.specs.Calls.{Call, Disconnect}
use Rattle.kp_polls.specs.Bytes.{OverStream, answered_in_poll, answered_in_turn}

-- These calls asked for these frames, and perhaps more, and heard these contents; the stream's calls answered so, and
-- bytes may have been given up at the end.
pub record StopsBy {S : Type 0} (answers : Told S) (w : Wired S) (calls : List Call) (xs : List Answer) : Type 0 where
  pub sent : List (List ℕ)
  pub more : List (List ℕ)
  pub left : Wired S
  pub asked : flat_map asked_by calls ≡ sent ++ more
  pub stops : Stops answers w sent (flat_map replied_by calls) xs left

-- while the stream is there
abbrev pub GoesBy : {S : Type 0} → Told S → Wired S → List Call → List Answer → Wired S → Type 0
GoesBy answers w calls xs v = Goes answers w (flat_map asked_by calls) (flat_map replied_by calls) xs v

-- What went over the stream, and whether it is still there.
abbrev pub WentOver : {S : Type 0} → Told S → Wired S → List Call → List Answer → Line S → Type 0
WentOver answers w calls xs (Open v) = GoesBy answers w calls xs v
WentOver answers w calls xs (Stopped stop) = StopsBy answers w calls xs

module _ {S : Type 0} (answers : Told S) (nothing : (s : S) → answers s [] s)
    (in_order : (a : S) (xs : List Answer) (b : S) (ys : List Answer) (c : S) → answers a xs b → answers b ys c → answers a (xs ++ ys) c) where
  -- where it goes, these may have been the calls
  goes_by : (w v : Wired S) (sent heard : List (List ℕ)) (calls : List Call) (xs : List Answer) → flat_map asked_by calls ≡ sent → flat_map replied_by calls ≡ heard
      → Goes answers w sent heard xs v → GoesBy answers w calls xs v
  goes_by w v sent heard calls xs p q goes =
      subst (λ (fs : List (List ℕ)). Goes answers w fs (flat_map replied_by calls) xs v) (sym p)
      (subst (λ (cs : List (List ℕ)). Goes answers w sent cs xs v) (sym q) goes)

  stops_by : (w v : Wired S) (sent more heard : List (List ℕ)) (calls : List Call) (xs : List Answer) → flat_map asked_by calls ≡ sent ++ more → flat_map replied_by calls ≡ heard
      → Stops answers w sent heard xs v → StopsBy answers w calls xs
  stops_by w v sent more heard calls xs p q stops = record {
    sent = sent;
    more = more;
    left = v;
    asked = p;
    stops = subst (λ (cs : List (List ℕ)). Stops answers w sent cs xs v) (sym q) stops;
  }

  turn_over : (node now : ℕ) (x : Exchange) (w : Wired S) (result : Poll Stop) (y : Exchange) (v : Wired S) → (t : Turns answers node now x w result y v)
      → WentOver answers w (calls_of_turn answers node now x w result y v t) (answered_in_turn answers node now x w result y v t) (line_after result v)
  turn_over node now x w Pending y v t =
      let g = turn_goes node now x y t.sent t.heard None None t.calls t.turn in goes_by w v (frames_of t.sent) (contents_of t.heard) t.calls t.xs g.0 g.1 t.goes
  turn_over node now x w (Ready Done) y v (done, inl t) =
      let g = turn_goes node now x y t.sent t.heard None None t.calls t.turn in
      stops_by w v (frames_of t.sent) [] (contents_of t.heard) t.calls t.xs (g.0 ∙ sym (append-nil (frames_of t.sent))) g.1
      (Goes-stops answers w v (frames_of t.sent) (contents_of t.heard) t.xs t.goes)
  turn_over node now x w (Ready Done) y v (done, inr (cause, t)) =
      let g = turn_goes node now x y t.sent t.heard t.refused (Some cause) t.calls t.turn in
      stops_by w v (frames_of t.sent) [] (contents_of t.heard) t.calls t.xs (g.0 ∙ sym (append-nil (frames_of t.sent))) g.1 t.stops
  turn_over node now x w (Ready (NeedStream cause)) y v t =
      let g = turn_goes node now x y t.sent t.heard t.refused (Some cause) t.calls t.turn in
      stops_by w v (frames_of t.sent) [] (contents_of t.heard) t.calls t.xs (g.0 ∙ sym (append-nil (frames_of t.sent))) g.1 t.stops
  turn_over node now x w (Ready OutOfMemory) y v t =
      let g = until_goes node now x y t.sent t.heard t.calls t.turn in stops_by w v (frames_of t.sent) g.0 (contents_of t.heard) t.calls t.xs g.1 g.2 t.stops

  -- one stretch behind another
  joined : (w v : Wired S) (calls more : List Call) (xs ys : List Answer) (line : Line S) → GoesBy answers w calls xs v → WentOver answers v more ys line
      → WentOver answers w (calls ++ more) (xs ++ ys) line
  joined w v calls more xs ys (Open u) g h =
      goes_by w u (flat_map asked_by calls ++ flat_map asked_by more) (flat_map replied_by calls ++ flat_map replied_by more) (calls ++ more) (xs ++ ys)
      (flat_map-append asked_by calls more) (flat_map-append replied_by calls more)
      (Goes-then answers in_order w v u (flat_map asked_by calls) (flat_map replied_by calls) (flat_map asked_by more) (flat_map replied_by more) xs ys g h)
  joined w v calls more xs ys (Stopped stop) g h =
      stops_by w h.left (flat_map asked_by calls ++ h.sent) h.more (flat_map replied_by calls ++ flat_map replied_by more) (calls ++ more) (xs ++ ys)
      (flat_map-append asked_by calls more ∙ ap (λ (fs : List (List ℕ)). flat_map asked_by calls ++ fs) h.asked ∙ sym (append_assoc (flat_map asked_by calls) h.sent h.more))
      (flat_map-append replied_by calls more)
      (Stops-then answers in_order w v h.left (flat_map asked_by calls) (flat_map replied_by calls) h.sent (flat_map replied_by more) xs ys g h.stops)

  -- calls that ask for nothing and hear nothing
  silently : (w : Wired S) (calls more : List Call) (xs : List Answer) (line : Line S) → flat_map asked_by more ≡ [] → flat_map replied_by more ≡ []
      → WentOver answers w calls xs line → WentOver answers w (calls ++ more) xs line
  silently w calls more xs (Open u) p q h = goes_by w u (flat_map asked_by calls) (flat_map replied_by calls) (calls ++ more) xs
      (before_nothing asked_by calls more (flat_map asked_by calls) refl p) (before_nothing replied_by calls more (flat_map replied_by calls) refl q) h
  silently w calls more xs (Stopped stop) p q h = stops_by w h.left h.sent h.more (flat_map replied_by calls) (calls ++ more) xs
      (before_nothing asked_by calls more (flat_map asked_by calls) refl p ∙ h.asked) (before_nothing replied_by calls more (flat_map replied_by calls) refl q) h.stops

  poll_over : (w : Wired S) (calls : List Call) (xs : List Answer) (line : Line S) (y : Exchange) (result : Poll Stop) (z : Exchange) (left : Line S)
      → WentOver answers w calls xs line → (poll : Polls answers line y result z left)
      → WentOver answers w (calls ++ calls_of_poll answers line y result z left poll) (xs ++ answered_in_poll answers line y result z left poll) left
  poll_over w calls xs (Open v) y result z left h p =
      subst (WentOver answers w (calls ++ calls_of_poll answers (Open v) y result z left p) (xs ++ answered_in_poll answers (Open v) y result z left p)) (sym p.line)
      (joined w v calls (calls_of_poll answers (Open v) y result z left p) xs (answered_in_poll answers (Open v) y result z left p) (line_after result p.after) h
      (turn_over p.node p.now p.begun v result z p.after p.turns))
  poll_over w calls xs (Stopped stop) y result z left h p =
      subst (WentOver answers w (calls ++ []) (xs ++ [])) (sym p.2)
      (subst (λ (ys : List Answer). WentOver answers w (calls ++ []) ys (Stopped stop)) (sym (append-nil xs))
      (silently w calls [] xs (Stopped stop) refl refl h))

  -- a round
  cut_over : (most node now : ℕ) (x : Exchange) (w : Wired S) (calls : List Call) (xs : List Answer) (cause : Cause) (y : Exchange) (v : Wired S) (stop : Stop)
      → IsCut answers most node now x w calls xs cause y v → WentOver answers w calls xs (Stopped stop)
  cut_over most node now x w _ _ _ _ _ stop (IsCut.by_talk cause y v t) =
      let g = talk_goes node now t.sent t.heard t.asked t.replied t.of_requests t.of_replies.made in
      stops_by w v (frames_of t.sent) [] (contents_of t.heard) (t.asked ++ t.replied) t.xs (g.0 ∙ sym (append-nil (frames_of t.sent))) g.1 t.talks.stops
  cut_over most node now x w _ _ _ _ _ stop (IsCut.by_strays y v on_time t many) =
      let g = talk_goes node now t.sent t.heard t.asked t.replied t.of_requests t.of_replies.made in
      stops_by w v (frames_of t.sent) [] (contents_of t.heard) (t.asked ++ t.replied) t.xs (g.0 ∙ sym (append-nil (frames_of t.sent))) g.1
      (Goes-stops answers w v (frames_of t.sent) (contents_of t.heard) t.xs t.talks.goes)

  round_over : (most node now : ℕ) (x : Exchange) (w : Wired S) (calls : List Call) (xs : List Answer) (y : Exchange) (left : Line S) → Rounds answers most node now x w calls xs y left
      → WentOver answers w calls xs left
  round_over most node now x w _ _ _ _ (Rounds.goes_on y v on_time t few) =
      let g = talk_goes node now t.sent t.heard t.asked t.replied t.of_requests t.of_replies.made in
      goes_by w v (frames_of t.sent) (contents_of t.heard) (t.asked ++ t.replied) t.xs g.0 g.1 t.talks.goes
  round_over most node now x w _ _ _ _ (Rounds.is_cut calls xs after y cause v cut drops) =
      silently w calls (Disconnect node now ∷ []) xs (Stopped (NeedStream cause)) refl refl (cut_over most node now x w calls xs cause after v (NeedStream cause) cut)
  round_over most node now x w _ _ _ _ (Rounds.no_talk y v t) =
      let g = talk_until_goes node now t.sent t.heard t.calls t.until in
      stops_by w v (frames_of t.sent) g.0 (contents_of t.heard) t.calls t.xs g.1 g.2 t.talks.stops
  round_over most node now x w _ _ _ _ (Rounds.no_drop calls xs after y cause v cut none) = cut_over most node now x w calls xs cause after v OutOfMemory cut

  pub went_over : (given : S) (x : Exchange) (calls mine : List Call) (xs : List Answer) (y : Exchange) (line : Line S) → OverStream answers given x calls mine xs y line
      → WentOver answers (fresh_wire given) mine xs line
  went_over given x _ _ _ _ _ OverStream.not_yet = Goes-nothing answers nothing (fresh_wire given)
  went_over given x _ _ _ _ _ (OverStream.once_more y z calls mine xs line left result before poll) =
      poll_over (fresh_wire given) mine xs line y result z left (went_over given x calls mine xs y line before) poll
  went_over given x _ _ _ _ _ (OverStream.talked y z calls mine its xs news most node now strays wire left before round) =
      joined (fresh_wire given) wire mine its xs news left (went_over given x calls mine xs y (Open wire) before) (round_over most node now (with_strays strays y) wire its news z left round)
  went_over given x _ _ _ _ _ (OverStream.away y z calls mine xs cause stop before turn) =
      let silent = none_goes cause y stop z turn in
      silently (fresh_wire given) mine turn.calls xs (Stopped stop) silent.0 silent.1 (went_over given x calls mine xs y (Stopped (NeedStream cause)) before)
  went_over given x _ _ _ _ _ (OverStream.meanwhile y z calls mine others xs line before polled) = went_over given x calls mine xs y line before

  -- also where it is still there
  pub stopped_so : (w : Wired S) (calls : List Call) (xs : List Answer) (line : Line S) → WentOver answers w calls xs line → StopsBy answers w calls xs
  stopped_so w calls xs (Open v) h = record {
    sent = flat_map asked_by calls;
    more = [];
    left = v;
    asked = sym (append-nil (flat_map asked_by calls));
    stops = Goes-stops answers w v (flat_map asked_by calls) (flat_map replied_by calls) xs h;
  }
  stopped_so w calls xs (Stopped stop) h = h
