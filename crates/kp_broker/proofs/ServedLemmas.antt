-- A connection, read by pieces.
use Rattle.std.proofs.Common.{◌≡◌, ◌≢◌, ℕ, ◌+◌, ◌*◌, ◌<◌, ◌≤◌, Bool, true, false, List, [], ◌∷◌, ◌++◌, length, Option, Some, None, Result, Ok, Err, IsErrAnd, refl, sym, ap, subst, ◌∙◌, append_assoc, append-nil, arith}
use Rattle.std.proofs.lemmas.List.{length-append}
use Rattle.kp_frames.specs.Stream.{Split, at_most, stream, is_faulty}
use Rattle.kp_frames.proofs.StreamLemmas.{stream_more, faulty_so, stays, parts_of}
use Rattle.kp_frames.proofs.KeptLemmas.{none_faulty}
use Rattle.kp_broker.specs.declared.fault.BrokerFault.{BrokerFault}
use Rattle.kp_broker.specs.declared.fault.BrokerFault.TheVariants.{Frame, Io, OutOfMemory, TooLong}
use Rattle.kp_broker.specs.declared.serving.Served.{Served}
use Rattle.kp_broker.specs.declared.serving.Served.TheVariants.{End, HungUp}
use Rattle.kp_broker.specs.declared.serving.TheConstants.{READ_LIMIT}
use Rattle.kp_broker.specs.declared.serving.streams.TheConstants.{PIECE_LIMIT}
use Rattle.kp_broker.specs.Broker.{Broker}
use Rattle.kp_broker.specs.Calls.{Answer, Told, came, gone, reads, AreGood, EndsWith, HasFailed, MetEnd}
use Rattle.kp_broker.specs.Calls.Answer.{Came, Read_failed}
use Rattle.kp_broker.specs.Plan.{Plan}
use Rattle.kp_broker.specs.Serving.{Course, Ending, Refuses, HangsUp, and_then, served, heard, behind_frames, Breaks, LosesAnswer, LosesMemory, ServesAs, EndBy, IsServedAs}
use Rattle.kp_broker.specs.Taking.{GoBy, TakesPiece}
use Rattle.kp_broker.proofs.CallLemmas.{came_behind, gone_behind, reads_behind, good_behind, goes_behind, none_came}
use Rattle.kp_broker.proofs.ReplyLemmas.{and_then-open}
use Rattle.kp_broker.proofs.CourseLemmas.{Opens, opens, and_then-assoc, served-append, still-breaks, breaks-behind}
use Rattle.kp_broker.proofs.ConnectionLemmas.{err-is}
use Rattle.kp_broker.proofs.PieceLemmas.{heard-open, breaks-after}

-- ---- bytes behind bytes

module _ (node : ℕ) (plan : Plan) (before : Broker) (read : List ℕ) (w : List ℕ) (mid : Broker) (course : served node plan before (stream read).frames ≡ record { written = w; broker = mid; ending = None }) (piece : List ℕ) where
  rest : List ℕ
  rest = (stream read).rest ++ piece

  frames-behind : (stream (read ++ piece)).frames ≡ (stream read).frames ++ (stream rest).frames
  unfolding rest
  frames-behind = ap (λ (s : Split). s.frames) (stream_more read piece)

  rest-behind : (stream (read ++ piece)).rest ≡ (stream rest).rest
  unfolding rest
  rest-behind = ap (λ (s : Split). s.rest) (stream_more read piece)

  heard-behind : heard node plan before (read ++ piece) ≡ record { written = w ++ (heard node plan mid rest).written; broker = (heard node plan mid rest).broker; ending = (heard node plan mid rest).ending }
  heard-behind =
      (λ i. and_then (served node plan before (frames-behind i)) (behind_frames (faulty_so (read ++ piece) rest rest-behind i)))
      ∙ ap (λ c. and_then c (behind_frames (is_faulty rest))) (served-append node plan before (stream read).frames (stream rest).frames)
      ∙ and_then-assoc (served node plan before (stream read).frames) (λ m. served node plan m (stream rest).frames) (behind_frames (is_faulty rest))
      ∙ ap (λ c. and_then c (λ m. heard node plan m rest)) course
      ∙ and_then-open w mid (λ m. heard node plan m rest)

  heard-so : (v : List ℕ) (after : Broker) (e : Option Ending) → heard node plan mid rest ≡ record { written = v; broker = after; ending = e } → heard node plan before (read ++ piece) ≡ record { written = w ++ v; broker = after; ending = e }
  heard-so v after e is = heard-behind ∙ (λ i. record { written = w ++ (is i).written; broker = (is i).broker; ending = (is i).ending })

  breaks-so : (Within : Broker → List ℕ → List ℕ → Broker → Type 0) (v : List ℕ) (after : Broker) → Breaks Within node plan mid (stream rest).frames v after → Breaks Within node plan before (stream (read ++ piece)).frames (w ++ v) after
  breaks-so Within v after breaks = subst (λ fs. Breaks Within node plan before fs (w ++ v) after) (sym frames-behind) (breaks-behind Within node plan before (stream read).frames (stream rest).frames w mid v after course breaks)

  pub serves-behind : (r : Result Served BrokerFault) (v : List ℕ) (after : Broker) → ServesAs node plan mid ((stream read).rest ++ piece) r v after → ServesAs node plan before (read ++ piece) r (w ++ v) after
  unfolding rest
  serves-behind (Ok End) v after s = heard-so v after None s
  serves-behind (Ok HungUp) v after s = heard-so v after (Some HangsUp) s
  serves-behind (Err (Frame fault)) v after s = heard-so v after (Some (Refuses fault)) s
  serves-behind (Err Io) v after s = breaks-so (LosesAnswer node plan) v after s
  serves-behind (Err OutOfMemory) v after s = breaks-so (LosesMemory node plan) v after s
  serves-behind (Err TooLong) v after s = heard-so v after None s

-- ---- some pieces were taken

pub record HasServed {C : Type 0} (answers : Told C) (node : ℕ) (plan : Plan) (before : Broker) (old new : C) (left : List ℕ) (count : ℕ) (after : Broker) : Type 0 where
  pub xs : List Answer
  pub told : answers old xs new
  pub good : AreGood xs
  pub counted : reads xs ≡ count
  pub course : served node plan before (stream (came xs)).frames ≡ record { written = gone xs; broker = after; ending = None }
  pub whole : is_faulty (came xs) ≡ false
  pub rest : left ≡ (stream (came xs)).rest
  pub none : (stream left).frames ≡ []
  pub at_most : length (came xs) ≤ count * PIECE_LIMIT

-- ---- what was heard, and did not end the connection

parts-at : (c : Course) (faulty : Bool) (v : List ℕ) (after : Broker) → Opens c (behind_frames faulty) v after → (c ≡ record { written = v; broker = after; ending = None }) × (faulty ≡ false)
parts-at c true v after o = let e = ap (λ (d : Course). d.ending) o.later in absurd cc
parts-at c false v after o =
    (λ i. record { written = (sym (append-nil c.written) ∙ sym o.split) i; broker = ap (λ (d : Course). d.broker) o.later i; ending = o.goes_on i }, refl)

pub heard-parts : (node : ℕ) (plan : Plan) (b : Broker) (bytes : List ℕ) (v : List ℕ) (after : Broker) → heard node plan b bytes ≡ record { written = v; broker = after; ending = None }
    → (served node plan b (stream bytes).frames ≡ record { written = v; broker = after; ending = None }) × (is_faulty bytes ≡ false)
heard-parts node plan b bytes v after is =
    parts-at (served node plan b (stream bytes).frames) (is_faulty bytes) v after (opens (served node plan b (stream bytes).frames) (behind_frames (is_faulty bytes)) v after is)

nothing-split : stream [] ≡ record { frames = []; rest = [] }
unfolding at_most
nothing-split = refl

pub rest-split : (bytes : List ℕ) → (stream (stream bytes).rest).frames ≡ []
rest-split bytes = ap (λ (s : Split). s.frames) (stays (stream bytes).rest (parts_of bytes).no_more)

-- ---- before anything was read

module _ {C : Type 0} (answers : Told C) (nothing : (s : C) → answers s [] s) (node : ℕ) (plan : Plan) (before : Broker) (old : C) where
  pub not-begun : (r : Result Served BrokerFault) → IsErrAnd r (λ e. e ≡ OutOfMemory) → IsServedAs answers node plan before old r old before
  not-begun r is =
      let refused = err-is r OutOfMemory is in
      record {
        xs = [];
        told = nothing old;
        end = subst (λ r. EndBy r []) (sym refused) tt;
        served = subst (λ r. ServesAs node plan before [] r [] before) (sym refused) (still-breaks (LosesMemory node plan) node plan before (stream []).frames);
        in_time = omega arith;
        too_long = λ late. let no = sym refused ∙ late in absurd cc;
        pieces = omega arith;
      }

  pub begun : (left : List ℕ) → left ≡ [] → HasServed answers node plan before old old left 0 before
  begun left new = record {
    xs = [];
    told = nothing old;
    good = tt;
    counted = refl;
    course = ap (λ (s : Split). served node plan before s.frames) nothing-split;
    whole = none_faulty;
    rest = new ∙ sym (ap (λ (s : Split). s.rest) nothing-split);
    none = ap (λ (t : List ℕ). (stream t).frames) new ∙ ap (λ (s : Split). s.frames) nothing-split;
    at_most = omega arith;
  }

-- ---- the next read

module _ {C : Type 0} (answers : Told C) (in_order : (a : C) (xs : List Answer) (b : C) (ys : List Answer) (c : C) → answers a xs b → answers b ys c → answers a (xs ++ ys) c)
    (node : ℕ) (plan : Plan) (before : Broker) (old now : C) (left : List ℕ) (count : ℕ) (mid : Broker) (has : HasServed answers node plan before old now left count mid) where
  few : count ≤ READ_LIMIT → length (came has.xs) ≤ READ_LIMIT * PIECE_LIMIT
  few in_time = omega (arith, has.at_most)

  -- one read more that brought nothing
  module _ (last : Answer) (one : reads (last ∷ []) ≡ 1) (brought : came (last ∷ []) ≡ []) (wrote : gone (last ∷ []) ≡ []) (new : C) (read : answers now (last ∷ []) new) (in_time : count < READ_LIMIT) where
    extended : List Answer
    extended = has.xs ++ last ∷ []

    same-came : came extended ≡ came has.xs
    unfolding extended
    same-came = came_behind has.xs (last ∷ []) ∙ ap (λ (b : List ℕ). came has.xs ++ b) brought ∙ append-nil (came has.xs)

    same-gone : gone extended ≡ gone has.xs
    unfolding extended
    same-gone = gone_behind has.xs (last ∷ []) ∙ ap (λ (b : List ℕ). gone has.xs ++ b) wrote ∙ append-nil (gone has.xs)

    unfoldable read-last : (Holds : Answer → Type 0) → Holds last → (r : Result Served BrokerFault) → (EndsWith Holds extended → EndBy r extended) → r ≢ Err TooLong → ServesAs node plan before (came has.xs) r (gone has.xs) mid → IsServedAs answers node plan before old r new mid
    unfolding extended
    read-last Holds holds r ends other served = record {
      xs = extended;
      told = in_order old has.xs now (last ∷ []) new has.told read;
      end = ends (record { before = has.xs; last = last; are = refl; good = has.good; holds = holds });
      served = subst (λ (b : List ℕ). ServesAs node plan before b r (gone extended) mid) (sym same-came) (subst (λ (w : List ℕ). ServesAs node plan before (came has.xs) r w mid) (sym same-gone) served);
      in_time = omega (arith, reads_behind has.xs (last ∷ []), has.counted);
      too_long = λ late. absurd (other late);
      pieces = subst (λ (b : List ℕ). length b ≤ READ_LIMIT * PIECE_LIMIT) (sym same-came) (few (omega arith));
    }

  pub read-failed : count < READ_LIMIT → (new : C) → answers now (Read_failed ∷ []) new → (r : Result Served BrokerFault) → r ≡ Err Io → IsServedAs answers node plan before old r new mid
  read-failed in_time new read r failed =
      subst (λ r. IsServedAs answers node plan before old r new mid) (sym failed)
      (read-last Read_failed refl refl refl new read in_time HasFailed tt (Err Io) (λ e. e) (λ late. absurd cc)
      (subst (λ fs. Breaks (LosesAnswer node plan) node plan before fs (gone has.xs) mid) (append-nil (stream (came has.xs)).frames) (breaks-after (LosesAnswer node plan) node plan before (stream (came has.xs)).frames [] (gone has.xs) mid has.course)))

  pub input-ended : count < READ_LIMIT → (new : C) → answers now (Came [] ∷ []) new → IsServedAs answers node plan before old (Ok End) new mid
  input-ended in_time new read =
      read-last (Came []) refl refl refl new read in_time MetEnd refl (Ok End) (λ e. e) (λ late. absurd cc) (heard-open node plan before (came has.xs) (gone has.xs) mid has.course has.whole)

  pub reads-spent : count ≡ READ_LIMIT → IsServedAs answers node plan before old (Err TooLong) now mid
  reads-spent all = record {
    xs = has.xs;
    told = has.told;
    end = has.good;
    served = heard-open node plan before (came has.xs) (gone has.xs) mid has.course has.whole;
    in_time = omega (arith, has.counted);
    too_long = λ _. has.counted ∙ all;
    pieces = few (omega arith);
  }

  module _ (piece : List ℕ) (between : C) (read : answers now (Came piece ∷ []) between) (some : 1 ≤ length piece) (room : length piece ≤ PIECE_LIMIT) (in_time : count < READ_LIMIT) (new : C) (left' : List ℕ) (after : Broker) where
    -- the read, and the writes behind it
    behind : List Answer → List Answer
    behind ys = has.xs ++ Came piece ∷ ys

    came-all : (ys : List Answer) → reads ys ≡ 0 → came (behind ys) ≡ came has.xs ++ piece
    unfolding behind
    came-all ys none =
        came_behind has.xs (Came piece ∷ ys) ∙ ap (λ (b : List ℕ). came has.xs ++ (piece ++ b)) (none_came ys none) ∙ ap (λ (b : List ℕ). came has.xs ++ b) (append-nil piece)

    gone-all : (ys : List Answer) → gone (behind ys) ≡ gone has.xs ++ gone ys
    unfolding behind
    gone-all ys = gone_behind has.xs (Came piece ∷ ys)

    told-all : (ys : List Answer) → answers between ys new → answers old (behind ys) new
    unfolding behind
    told-all ys t = in_order old has.xs now (Came piece ∷ ys) new has.told (in_order now (Came piece ∷ []) between ys new read t)

    reads-all : (ys : List Answer) → reads ys ≡ 0 → reads (behind ys) ≡ count + 1
    unfolding behind
    reads-all ys none = omega (arith, reads_behind has.xs (Came piece ∷ ys), reads_behind (Came piece ∷ []) ys, has.counted)

    good-read : AreGood (has.xs ++ Came piece ∷ [])
    good-read = good_behind has.xs (Came piece ∷ []) has.good (omega arith, tt)

    goes-all : (r : Result Served BrokerFault) (ys : List Answer) → GoBy r ys → GoBy r (behind ys)
    unfolding behind
    goes-all r ys go = subst (GoBy r) (append_assoc has.xs (Came piece ∷ []) ys) (goes_behind r (has.xs ++ Came piece ∷ []) ys good-read go)

    -- an answer that ends the connection, but not at the end of the input
    ends-so : (r : Result Served BrokerFault) → r ≢ Ok End → (ys : List Answer) → GoBy r ys → EndBy r ys
    ends-so (Ok End) other ys go = absurd (other refl)
    ends-so (Ok HungUp) other ys go = go
    ends-so (Err (Frame fault)) other ys go = go
    ends-so (Err Io) other ys go = go
    ends-so (Err OutOfMemory) other ys go = go
    ends-so (Err TooLong) other ys go = go

    serves' : (r : Result Served BrokerFault) (t : TakesPiece answers node plan mid left piece between r left' new after) → ServesAs node plan before (came has.xs ++ piece) r (gone has.xs ++ gone t.xs) after
    serves' r t = serves-behind node plan before (came has.xs) (gone has.xs) mid has.course piece r (gone t.xs) after (subst (λ u. ServesAs node plan mid (u ++ piece) r (gone t.xs) after) has.rest t.served)

    pub connection-ended : (r : Result Served BrokerFault) → r ≢ Ok End → TakesPiece answers node plan mid left piece between r left' new after → IsServedAs answers node plan before old r new after
    connection-ended r other t = record {
      xs = behind t.xs;
      told = told-all t.xs t.told;
      end = ends-so r other (behind t.xs) (goes-all r t.xs t.go);
      served = subst (λ (b : List ℕ). ServesAs node plan before b r (gone (behind t.xs)) after) (sym (came-all t.xs t.no_reads))
          (subst (λ (w : List ℕ). ServesAs node plan before (came has.xs ++ piece) r w after) (sym (gone-all t.xs)) (serves' r t));
      in_time = omega (arith, reads-all t.xs t.no_reads);
      too_long = λ late. absurd (t.in_time late);
      pieces = omega (arith, ap length (came-all t.xs t.no_reads), length-append (came has.xs) piece, has.at_most);
    }

    pub next-piece : TakesPiece answers node plan mid left piece between (Ok End) left' new after → HasServed answers node plan before old new left' (count + 1) after
    next-piece t =
        let both = heard-parts node plan before (came has.xs ++ piece) (gone has.xs ++ gone t.xs) after (serves' (Ok End) t) in
        let rest = t.rest refl ∙ ap (λ (u : List ℕ). (stream (u ++ piece)).rest) has.rest ∙ sym (ap (λ (s : Split). s.rest) (stream_more (came has.xs) piece)) in
        let all = came-all t.xs t.no_reads in
        record {
          xs = behind t.xs;
          told = told-all t.xs t.told;
          good = goes-all (Ok End) t.xs t.go;
          counted = reads-all t.xs t.no_reads;
          course = ap (λ (b : List ℕ). served node plan before (stream b).frames) all ∙ both.0 ∙ (λ i. record { written = sym (gone-all t.xs) i; broker = after; ending = None });
          whole = ap is_faulty all ∙ both.1;
          rest = rest ∙ ap (λ (b : List ℕ). (stream b).rest) (sym all);
          none = ap (λ (u : List ℕ). (stream u).frames) rest ∙ rest-split (came has.xs ++ piece);
          at_most = omega (arith, ap length all, length-append (came has.xs) piece, has.at_most);
        }
