-- A piece of a connection's stream, and the frames that are whole with it.
use Rattle.std.proofs.Common.{◌≡◌, ◌≢◌, ℕ, true, false, List, [], ◌++◌, Some, None, Result, Ok, Err, IsErrAnd, refl, sym, ap, subst, ◌∙◌, append-nil}
use Rattle.kp_frames.specs.declared.fault.FrameFault.{FrameFault}
use Rattle.kp_frames.specs.declared.fault.FrameFault.TheVariants as frame_fault
use Rattle.kp_frames.specs.Life.{Feeds}
use Rattle.kp_frames.specs.Stream.{stream, is_faulty, kept}
use Rattle.kp_frames.proofs.KeptLemmas.{kept_open, keeps}
use Rattle.kp_broker.specs.declared.fault.BrokerFault.{BrokerFault}
use Rattle.kp_broker.specs.declared.fault.BrokerFault.TheVariants.{Frame, Io, OutOfMemory, TooLong}
use Rattle.kp_broker.specs.declared.serving.Served.{Served}
use Rattle.kp_broker.specs.declared.serving.Served.TheVariants.{End, HungUp}
use Rattle.kp_broker.specs.Broker.{Broker}
use Rattle.kp_broker.specs.Calls.{Answer, Told, gone, AreGood}
use Rattle.kp_broker.specs.Fault.{of_frame}
use Rattle.kp_broker.specs.Plan.{Plan}
use Rattle.kp_broker.specs.Serving.{Course, Ending, Refuses, HangsUp, and_then, served, heard, behind_frames, Breaks, LosesMemory, ServesFrames, ServesAs}
use Rattle.kp_broker.specs.Taking.{GoBy, TakesFrames, TakesPiece}
use Rattle.kp_broker.proofs.ReplyLemmas.{and_then-open}
use Rattle.kp_broker.proofs.CourseLemmas.{and_then-ended, still-breaks, breaks-behind}
use Rattle.kp_broker.proofs.ConnectionLemmas.{err-is, serves-more}

-- ---- what is heard of bytes

-- frames that end the connection end it whatever stands behind them
heard-ended : (node : ℕ) (plan : Plan) (b : Broker) (bytes : List ℕ) (w : List ℕ) (after : Broker) (e : Ending) → served node plan b (stream bytes).frames ≡ record { written = w; broker = after; ending = Some e } → heard node plan b bytes ≡ record { written = w; broker = after; ending = Some e }
heard-ended node plan b bytes w after e is =
    ap (λ c. and_then c (behind_frames (is_faulty bytes))) is ∙ and_then-ended w after e (behind_frames (is_faulty bytes))

pub serves-frames : (node : ℕ) (plan : Plan) (b : Broker) (bytes : List ℕ) (r : Result Served BrokerFault) → r ≢ Ok End → (w : List ℕ) (after : Broker) → ServesFrames node plan b (stream bytes).frames r w after → ServesAs node plan b bytes r w after
serves-frames node plan b bytes (Ok End) other w after s = absurd (other refl)
serves-frames node plan b bytes (Ok HungUp) other w after s = heard-ended node plan b bytes w after HangsUp s
serves-frames node plan b bytes (Err (Frame fault)) other w after s = heard-ended node plan b bytes w after (Refuses fault) s
serves-frames node plan b bytes (Err Io) other w after s = s
serves-frames node plan b bytes (Err OutOfMemory) other w after s = s
serves-frames node plan b bytes (Err TooLong) other w after s = absurd s

heard-behind : (node : ℕ) (plan : Plan) (b : Broker) (bytes : List ℕ) (w : List ℕ) (after : Broker) → served node plan b (stream bytes).frames ≡ record { written = w; broker = after; ending = None } → heard node plan b bytes ≡ record { written = w; broker = after; ending = (behind_frames (is_faulty bytes) after).ending }
heard-behind node plan b bytes w after is =
    ap (λ c. and_then c (behind_frames (is_faulty bytes))) is ∙ and_then-open w after (behind_frames (is_faulty bytes)) ∙ nothing-more (is_faulty bytes)
  where
    nothing-more : (faulty : _) → ◌≡◌ {A = Course} (record { written = w ++ (behind_frames faulty after).written; broker = (behind_frames faulty after).broker; ending = (behind_frames faulty after).ending }) (record { written = w; broker = after; ending = (behind_frames faulty after).ending })
    nothing-more true = λ i. record { written = append-nil w i; broker = after; ending = Some (Refuses frame_fault.TooLarge) }
    nothing-more false = λ i. record { written = append-nil w i; broker = after; ending = None }

pub heard-open : (node : ℕ) (plan : Plan) (b : Broker) (bytes : List ℕ) (w : List ℕ) (after : Broker) → served node plan b (stream bytes).frames ≡ record { written = w; broker = after; ending = None } → is_faulty bytes ≡ false → heard node plan b bytes ≡ record { written = w; broker = after; ending = None }
heard-open node plan b bytes w after is whole = heard-behind node plan b bytes w after is ∙ (λ i. record { written = w; broker = after; ending = (behind_frames (whole i) after).ending })

pub heard-faulty : (node : ℕ) (plan : Plan) (b : Broker) (bytes : List ℕ) (w : List ℕ) (after : Broker) → served node plan b (stream bytes).frames ≡ record { written = w; broker = after; ending = None } → is_faulty bytes ≡ true → heard node plan b bytes ≡ record { written = w; broker = after; ending = Some (Refuses frame_fault.TooLarge) }
heard-faulty node plan b bytes w after is faulty = heard-behind node plan b bytes w after is ∙ (λ i. record { written = w; broker = after; ending = (behind_frames (faulty i) after).ending })

-- all frames were handled, and then memory or the connection failed
pub breaks-after : (Within : Broker → List ℕ → List ℕ → Broker → Type 0) (node : ℕ) (plan : Plan) (b : Broker) (xs ys : List (List ℕ)) (w : List ℕ) (after : Broker) → served node plan b xs ≡ record { written = w; broker = after; ending = None } → Breaks Within node plan b (xs ++ ys) w after
breaks-after Within node plan b xs ys w after is =
    subst (λ u. Breaks Within node plan b (xs ++ ys) u after) (append-nil w) (breaks-behind Within node plan b xs ys w after [] after is (still-breaks Within node plan after ys))

-- ---- a piece that was fed

-- the frames at hand are the first of those of all bytes
pub record IsFed (bytes mid : List ℕ) : Type 0 where
  pub more : List (List ℕ)
  pub frames : (stream bytes).frames ≡ (stream mid).frames ++ more

fed-whole : (bytes mid : List ℕ) → (stream mid).frames ≡ (stream bytes).frames → IsFed bytes mid
fed-whole bytes mid same = record { more = []; frames = sym same ∙ sym (append-nil (stream mid).frames) }

fed-kept : (bytes mid : List ℕ) → mid ≡ kept bytes → IsFed bytes mid
fed-kept bytes mid same = fed-whole bytes mid (ap (λ (t : List ℕ). (stream t).frames) same ∙ (keeps bytes).frames)

pub fed : (held piece : List ℕ) → (stream held).frames ≡ [] → (r : Result (Unit {0}) FrameFault) (mid : List ℕ) → Feeds held piece r mid → IsFed (held ++ piece) mid
fed held piece none (Ok done) mid feeds = fed-kept (held ++ piece) mid feeds.1
fed held piece none (Err frame_fault.TooLarge) mid feeds = fed-kept (held ++ piece) mid feeds.1
fed held piece none (Err frame_fault.OutOfMemory) mid feeds =
    record { more = (stream (held ++ piece)).frames; frames = ap (λ fs. fs ++ (stream (held ++ piece)).frames) (sym (ap (λ (t : List ℕ). (stream t).frames) feeds ∙ none)) }
fed held piece none (Err frame_fault.Short) mid feeds = absurd feeds
fed held piece none (Err frame_fault.Trailing) mid feeds = absurd feeds
fed held piece none (Err frame_fault.UnknownApi) mid feeds = absurd feeds
fed held piece none (Err frame_fault.UnknownVersion) mid feeds = absurd feeds
fed held piece none (Err (frame_fault.Wire w)) mid feeds = absurd feeds
fed held piece none (Err frame_fault.Mismatch) mid feeds = absurd feeds

module _ (node : ℕ) (plan : Plan) (before : Broker) (held piece : List ℕ) (none : (stream held).frames ≡ []) (r : Result (Unit {0}) FrameFault) (mid : List ℕ) (feeds : Feeds held piece r mid) {C : Type 0} (answers : Told C) (old : C) (left : List ℕ) (new : C) (after : Broker) where
  pub piece-ended : (result : Result Served BrokerFault) → result ≢ Ok End → TakesFrames answers node plan before mid old result left new after → TakesPiece answers node plan before held piece old result left new after
  piece-ended result other t =
      let f = fed held piece none r mid feeds in
      let all = subst (λ fs. ServesFrames node plan before fs result (gone t.xs) after) (sym f.frames) (serves-more node plan before (stream mid).frames f.more result other (gone t.xs) after t.served) in
      record { xs = t.xs; told = t.told; no_reads = t.no_reads; go = t.go; served = serves-frames node plan before (held ++ piece) result other (gone t.xs) after all; in_time = λ late. subst (λ r. ServesFrames node plan before (stream mid).frames r (gone t.xs) after) late t.served; rest = λ ended. absurd (other ended) }

-- once the frames at hand are handled, a piece that was not taken ends the connection
stopped-at : (node : ℕ) (plan : Plan) (before : Broker) (held piece : List ℕ) → (stream held).frames ≡ [] → (fault : FrameFault) (mid : List ℕ) → Feeds held piece (Err fault) mid → (w : List ℕ) (after : Broker) → served node plan before (stream mid).frames ≡ record { written = w; broker = after; ending = None } → ServesAs node plan before (held ++ piece) (Err (of_frame fault)) w after
stopped-at node plan before held piece none frame_fault.TooLarge mid feeds w after is =
    let frames = ap (λ (t : List ℕ). (stream t).frames) feeds.1 ∙ (keeps (held ++ piece)).frames in
    heard-faulty node plan before (held ++ piece) w after (ap (served node plan before) (sym frames) ∙ is) feeds.0
stopped-at node plan before held piece none frame_fault.OutOfMemory mid feeds w after is =
    let f = fed held piece none (Err frame_fault.OutOfMemory) mid feeds in
    subst (λ fs. Breaks (LosesMemory node plan) node plan before fs w after) (sym f.frames) (breaks-after (LosesMemory node plan) node plan before (stream mid).frames f.more w after is)
stopped-at node plan before held piece none frame_fault.Short mid feeds w after is = absurd feeds
stopped-at node plan before held piece none frame_fault.Trailing mid feeds w after is = absurd feeds
stopped-at node plan before held piece none frame_fault.UnknownApi mid feeds w after is = absurd feeds
stopped-at node plan before held piece none frame_fault.UnknownVersion mid feeds w after is = absurd feeds
stopped-at node plan before held piece none (frame_fault.Wire f) mid feeds w after is = absurd feeds
stopped-at node plan before held piece none frame_fault.Mismatch mid feeds w after is = absurd feeds

in_frame : (fault : FrameFault) → ◌≡◌ {A = Result Served BrokerFault} (Err (of_frame fault)) (Err TooLong) → ⊥
in_frame frame_fault.Short is = absurd cc
in_frame frame_fault.Trailing is = absurd cc
in_frame frame_fault.UnknownApi is = absurd cc
in_frame frame_fault.UnknownVersion is = absurd cc
in_frame (frame_fault.Wire w) is = absurd cc
in_frame frame_fault.TooLarge is = absurd cc
in_frame frame_fault.OutOfMemory is = absurd cc
in_frame frame_fault.Mismatch is = absurd cc

module _ {C : Type 0} (answers : Told C) (node : ℕ) (plan : Plan) (before : Broker) (held piece : List ℕ) where
  pub piece-stopped : (stream held).frames ≡ [] → (fault : FrameFault) (mid : List ℕ) → Feeds held piece (Err fault) mid → (old new : C) (left left' : List ℕ) (after : Broker) → TakesFrames answers node plan before mid old (Ok End) left new after
      → (result : Result Served BrokerFault) → IsErrAnd result (λ e. e ≡ of_frame fault) → TakesPiece answers node plan before held piece old result left' new after
  piece-stopped none fault mid feeds old new left left' after t result is =
      let refused = err-is result (of_frame fault) is in
      record {
        xs = t.xs;
        told = t.told;
        no_reads = t.no_reads;
        go = subst (λ r. GoBy r t.xs) (sym refused) (good-at fault t.xs t.go);
        served = subst (λ r. ServesAs node plan before (held ++ piece) r (gone t.xs) after) (sym refused) (stopped-at node plan before held piece none fault mid feeds (gone t.xs) after t.served);
        in_time = λ late. in_frame fault (sym refused ∙ late);
        rest = λ ended. let no = sym refused ∙ ended in absurd cc;
      }
    where
      good-at : (fault : FrameFault) (xs : List Answer) → AreGood xs → GoBy (Err (of_frame fault)) xs
      good-at frame_fault.Short xs good = good
      good-at frame_fault.Trailing xs good = good
      good-at frame_fault.UnknownApi xs good = good
      good-at frame_fault.UnknownVersion xs good = good
      good-at (frame_fault.Wire w) xs good = good
      good-at frame_fault.TooLarge xs good = good
      good-at frame_fault.OutOfMemory xs good = good
      good-at frame_fault.Mismatch xs good = good

  pub piece-taken : (done : Unit {0}) (mid : List ℕ) → Feeds held piece (Ok done) mid → (old new : C) (left : List ℕ) (after : Broker) → TakesFrames answers node plan before mid old (Ok End) left new after → TakesPiece answers node plan before held piece old (Ok End) left new after
  piece-taken done mid feeds old new left after t =
      let same : mid ≡ held ++ piece = feeds.1 ∙ kept_open (held ++ piece) feeds.0 in
      record {
        xs = t.xs;
        told = t.told;
        no_reads = t.no_reads;
        go = t.go;
        served = heard-open node plan before (held ++ piece) (gone t.xs) after (ap (λ (u : List ℕ). served node plan before (stream u).frames) (sym same) ∙ t.served) feeds.0;
        in_time = λ late. absurd cc;
        rest = λ e. t.rest e ∙ ap (λ (u : List ℕ). (stream u).rest) same;
      }
