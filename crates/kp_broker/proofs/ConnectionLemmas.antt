-- The frames of a connection, taken one after the other.
use Rattle.std.proofs.Common.{◌≡◌, ◌≢◌, ℕ, List, [], ◌∷◌, ◌++◌, Option, Some, None, Result, Ok, Err, IsErrAnd, refl, sym, ap, subst, ◌∙◌, append_assoc, append-nil, arith}
use Rattle.kp_frames.specs.declared.fault.FrameFault.{FrameFault}
use Rattle.kp_frames.specs.declared.fault.FrameFault.TheVariants as frame_fault
use Rattle.kp_frames.specs.Life.{Next, behind}
use Rattle.kp_broker.specs.Fault.{of_frame}
use Rattle.kp_frames.specs.Stream.{Split, first, stream}
use Rattle.kp_frames.proofs.StreamLemmas.{first_then, first_none}
use Rattle.kp_broker.specs.declared.fault.BrokerFault.{BrokerFault}
use Rattle.kp_broker.specs.declared.fault.BrokerFault.TheVariants.{Frame, Io, OutOfMemory, TooLong}
use Rattle.kp_broker.specs.declared.serving.Served.{Served}
use Rattle.kp_broker.specs.declared.serving.Served.TheVariants.{End, HungUp}
use Rattle.kp_broker.specs.Broker.{Broker}
use Rattle.kp_broker.specs.Calls.{Answer, Told, gone, reads, AreGood}
use Rattle.kp_broker.specs.Plan.{Plan}
use Rattle.kp_broker.specs.Serving.{Ending, Refuses, HangsUp, and_then, served, Breaks, LosesAnswer, LosesMemory, ServesFrames}
use Rattle.kp_broker.specs.Taking.{GoBy, TakesFrame, TakesFrames}
use Rattle.kp_broker.proofs.CallLemmas.{gone_behind, reads_behind, good_behind, goes_behind}
use Rattle.kp_broker.proofs.ReplyLemmas.{and_then-open}
use Rattle.kp_broker.proofs.CourseLemmas.{served-append, and_then-ended, still-breaks, breaks-more, breaks-behind}

-- ---- frames behind frames

-- an end stays one, whatever frames come behind it
served-ended : (node : ℕ) (plan : Plan) (b : Broker) (xs ys : List (List ℕ)) (w : List ℕ) (m : Broker) (e : Ending) → served node plan b xs ≡ record { written = w; broker = m; ending = Some e } → served node plan b (xs ++ ys) ≡ record { written = w; broker = m; ending = Some e }
served-ended node plan b xs ys w m e is =
    served-append node plan b xs ys ∙ ap (λ c. and_then c (λ n. served node plan n ys)) is ∙ and_then-ended w m e (λ n. served node plan n ys)

pub serves-more : (node : ℕ) (plan : Plan) (b : Broker) (xs ys : List (List ℕ)) (r : Result Served BrokerFault) → r ≢ Ok End → (w : List ℕ) (after : Broker) → ServesFrames node plan b xs r w after → ServesFrames node plan b (xs ++ ys) r w after
serves-more node plan b xs ys (Ok End) other w after s = absurd (other refl)
serves-more node plan b xs ys (Ok HungUp) other w after s = served-ended node plan b xs ys w after HangsUp s
serves-more node plan b xs ys (Err (Frame fault)) other w after s = served-ended node plan b xs ys w after (Refuses fault) s
serves-more node plan b xs ys (Err Io) other w after s = breaks-more (LosesAnswer node plan) node plan b xs ys w after s
serves-more node plan b xs ys (Err OutOfMemory) other w after s = breaks-more (LosesMemory node plan) node plan b xs ys w after s
serves-more node plan b xs ys (Err TooLong) other w after s = s

served-behind : (node : ℕ) (plan : Plan) (b : Broker) (xs ys : List (List ℕ)) (w : List ℕ) (m : Broker) → served node plan b xs ≡ record { written = w; broker = m; ending = None } → (v : List ℕ) (after : Broker) (e : Option Ending) → served node plan m ys ≡ record { written = v; broker = after; ending = e }
    → served node plan b (xs ++ ys) ≡ record { written = w ++ v; broker = after; ending = e }
served-behind node plan b xs ys w m is v after e later =
    served-append node plan b xs ys ∙ ap (λ c. and_then c (λ n. served node plan n ys)) is ∙ and_then-open w m (λ n. served node plan n ys)
    ∙ (λ i. record { written = w ++ (later i).written; broker = (later i).broker; ending = (later i).ending })

pub serves-behind : (node : ℕ) (plan : Plan) (b : Broker) (xs ys : List (List ℕ)) (w : List ℕ) (m : Broker) → served node plan b xs ≡ record { written = w; broker = m; ending = None } → (r : Result Served BrokerFault) (v : List ℕ) (after : Broker) → ServesFrames node plan m ys r v after → ServesFrames node plan b (xs ++ ys) r (w ++ v) after
serves-behind node plan b xs ys w m is (Ok End) v after s = served-behind node plan b xs ys w m is v after None s
serves-behind node plan b xs ys w m is (Ok HungUp) v after s = served-behind node plan b xs ys w m is v after (Some HangsUp) s
serves-behind node plan b xs ys w m is (Err (Frame fault)) v after s = served-behind node plan b xs ys w m is v after (Some (Refuses fault)) s
serves-behind node plan b xs ys w m is (Err Io) v after s = breaks-behind (LosesAnswer node plan) node plan b xs ys w m v after is s
serves-behind node plan b xs ys w m is (Err OutOfMemory) v after s = breaks-behind (LosesMemory node plan) node plan b xs ys w m v after is s
serves-behind node plan b xs ys w m is (Err TooLong) v after s = s

-- ---- a stream with no frame

rest-at : (bytes : List ℕ) (r : Result (List ℕ × List ℕ) FrameFault) → first bytes ≡ r → (stream bytes).frames ≡ [] → (stream bytes).rest ≡ bytes
rest-at bytes (Ok x) is none =
    let some = ap (λ (s : Split). s.frames) (first_then bytes x is) in
    absurd cc
rest-at bytes (Err fault) is none = ap (λ (s : Split). s.rest) (first_none bytes fault is)

pub no_frames-rest : (bytes : List ℕ) → (stream bytes).frames ≡ [] → (stream bytes).rest ≡ bytes
no_frames-rest bytes none = rest-at bytes (first bytes) refl none

only_memory : (held : List ℕ) (fault : FrameFault) (after : List ℕ) → Next held (Err fault) after → fault ≡ frame_fault.OutOfMemory
only_memory held frame_fault.OutOfMemory after next = refl
only_memory held frame_fault.Short after next = absurd next
only_memory held frame_fault.Trailing after next = absurd next
only_memory held frame_fault.UnknownApi after next = absurd next
only_memory held frame_fault.UnknownVersion after next = absurd next
only_memory held (frame_fault.Wire w) after next = absurd next
only_memory held frame_fault.TooLarge after next = absurd next
only_memory held frame_fault.Mismatch after next = absurd next

pub err-is : {A : Type 0} (r : Result A BrokerFault) (fault : BrokerFault) → IsErrAnd r (λ e. e ≡ fault) → r ≡ Err fault
err-is (Ok x) fault is = absurd is
err-is (Err e) fault is = ap Err is

-- ---- some frames were taken

pub record HasTaken {C : Type 0} (answers : Told C) (node : ℕ) (plan : Plan) (before : Broker) (bytes : List ℕ) (old : C) (left : List ℕ) (new : C) (after : Broker) : Type 0 where
  pub earlier : List (List ℕ)
  pub xs : List Answer
  pub told : answers old xs new
  pub no_reads : reads xs ≡ 0
  pub good : AreGood xs
  pub course : served node plan before earlier ≡ record { written = gone xs; broker = after; ending = None }
  pub frames : (stream bytes).frames ≡ earlier ++ (stream left).frames
  pub rest : (stream bytes).rest ≡ (stream left).rest

pub none-taken : {C : Type 0} (answers : Told C) → ((s : C) → answers s [] s) → (node : ℕ) (plan : Plan) (before : Broker) (bytes : List ℕ) (old : C) → HasTaken answers node plan before bytes old bytes old before
none-taken answers nothing node plan before bytes old = record { earlier = []; xs = []; told = nothing old; no_reads = refl; good = tt; course = refl; frames = refl; rest = refl }

module _ {C : Type 0} (answers : Told C) (in_order : (a : C) (xs : List Answer) (b : C) (ys : List Answer) (c : C) → answers a xs b → answers b ys c → answers a (xs ++ ys) c)
    (node : ℕ) (plan : Plan) (before : Broker) (bytes : List ℕ) (old : C) (left : List ℕ) (now : C) (mid : Broker) (has : HasTaken answers node plan before bytes old left now mid) where
  pub all-taken : (stream left).frames ≡ [] → (left' : List ℕ) → left' ≡ left → TakesFrames answers node plan before bytes old (Ok End) left' now mid
  all-taken none left' same = record {
    xs = has.xs;
    told = has.told;
    no_reads = has.no_reads;
    go = has.good;
    served = ap (served node plan before) (has.frames ∙ ap (λ fs. has.earlier ++ fs) none ∙ append-nil has.earlier) ∙ has.course;
    rest = λ _. same ∙ sym (no_frames-rest left none) ∙ sym has.rest;
  }

  still : Breaks (LosesMemory node plan) node plan before (stream bytes).frames (gone has.xs) mid
  still =
      let breaks = breaks-behind (LosesMemory node plan) node plan before has.earlier (stream left).frames (gone has.xs) mid [] mid has.course (still-breaks (LosesMemory node plan) node plan mid (stream left).frames) in
      subst (λ fs. Breaks (LosesMemory node plan) node plan before fs (gone has.xs) mid) (sym has.frames)
      (subst (λ w. Breaks (LosesMemory node plan) node plan before (has.earlier ++ (stream left).frames) w mid) (append-nil (gone has.xs)) breaks)

  pub memory-refused : (fault : FrameFault) (left' : List ℕ) → Next left (Err fault) left' → (r : Result Served BrokerFault) → IsErrAnd r (λ e. e ≡ of_frame fault) → TakesFrames answers node plan before bytes old r left' now mid
  memory-refused fault left' next r is =
      let refused : r ≡ Err OutOfMemory = err-is r (of_frame fault) is ∙ ap (λ f. Err (of_frame f)) (only_memory left fault left' next) in
      record {
        xs = has.xs;
        told = has.told;
        no_reads = has.no_reads;
        go = subst (λ r. GoBy r has.xs) (sym refused) has.good;
        served = subst (λ r. ServesFrames node plan before (stream bytes).frames r (gone has.xs) mid) (sym refused) still;
        rest = λ ended. let no = sym refused ∙ ended in absurd cc;
      }

  module _ (content : List ℕ) (left' : List ℕ) (next : stream left ≡ behind (content ∷ []) (stream left')) (new : C) (after : Broker) where
    none-read : (ys : List Answer) → reads ys ≡ 0 → reads (has.xs ++ ys) ≡ 0
    none-read ys none = omega (arith, reads_behind has.xs ys, has.no_reads)

    pub ended-taken : (r : Result Served BrokerFault) → r ≢ Ok End → TakesFrame answers node plan mid content now r new after → TakesFrames answers node plan before bytes old r left' new after
    ended-taken r other t =
        let frames : content ∷ (stream left').frames ≡ (stream left).frames = sym (ap (λ (s : Split). s.frames) next) in
        let all = serves-more node plan mid (content ∷ []) (stream left').frames r other (gone t.xs) after t.served in
        let taken = serves-behind node plan before has.earlier (content ∷ (stream left').frames) (gone has.xs) mid has.course r (gone t.xs) after all in
        record {
          xs = has.xs ++ t.xs;
          told = in_order old has.xs now t.xs new has.told t.told;
          no_reads = none-read t.xs t.no_reads;
          go = goes_behind r has.xs t.xs has.good t.go;
          served = subst (λ w. ServesFrames node plan before (stream bytes).frames r w after) (sym (gone_behind has.xs t.xs))
              (subst (λ fs. ServesFrames node plan before fs r (gone has.xs ++ gone t.xs) after) (sym (has.frames ∙ ap (λ fs. has.earlier ++ fs) (sym frames))) taken);
          rest = λ ended. absurd (other ended);
        }

    pub one-more : TakesFrame answers node plan mid content now (Ok End) new after → HasTaken answers node plan before bytes old left' new after
    one-more t = record {
      earlier = has.earlier ++ content ∷ [];
      xs = has.xs ++ t.xs;
      told = in_order old has.xs now t.xs new has.told t.told;
      no_reads = none-read t.xs t.no_reads;
      good = good_behind has.xs t.xs has.good t.go;
      course = served-behind node plan before has.earlier (content ∷ []) (gone has.xs) mid has.course (gone t.xs) after None t.served
          ∙ (λ i. record { written = sym (gone_behind has.xs t.xs) i; broker = after; ending = None });
      frames = has.frames ∙ ap (λ (s : Split). has.earlier ++ s.frames) next ∙ sym (append_assoc has.earlier (content ∷ []) (stream left').frames);
      rest = has.rest ∙ ap (λ (s : Split). s.rest) next;
    }
