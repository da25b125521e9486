-- Replies that are heard over a wire, and the reads behind them.
use Rattle.std.proofs.Common.{◌≡◌, ◌⊎◌, ℕ, zero, suc, ◌+◌, ◌-◌, ◌*◌, ◌^◌, ◌<◌, ◌≤◌, false, List, [], ◌∷◌, ◌++◌, length, map, refl, sym, ap, subst, ◌∙◌, inl, inr, append_assoc, append-nil, arith}
use Rattle.std.specs.Prelude.{Option, Some, None, Result, Ok, Err}
use Rattle.std.specs.Global.{Vec}
use Rattle.std.specs.List.{AllByRecursion}
use Rattle.std.specs.declared.alloc.AllocError.{AllocError}
use Rattle.std.proofs.lemmas.List.{length-append, map-append, nil_from_length}
use Rattle.std.proofs.lemmas.List.Concat.{flat_map-append}
use Rattle.std.proofs.lemmas.List.Elements.{Contains-append_right}
use Rattle.std.proofs.lemmas.Nat.{mul-le}
use Rattle.futures.specs.declared.task.Poll.TheVariants.{Ready}
use Rattle.kp_wire.proofs.ListLemmas.{all_append}
use Rattle.kp_connection.specs.Answers.{Answer, came, came_by, gone}
use Rattle.kp_connection.specs.Answers.Answer.{Came, Read_waits, Read_failed}
use Rattle.kp_connection.specs.Wire.{Told, Wired, Goes, Stops, Met, frames, Brings, Refuses, Lacks, Reads, Gives, Hears}
use Rattle.kp_connection.specs.declared.fault.ReadFault.{ReadFault}
use Rattle.kp_connection.proofs.WantLemmas.{part_small, still_part}
use Rattle.kp_connection.proofs.WireLemmas.{Goes-then, Goes-nothing, Goes-stops, Goes-stream, Stops-then, Breaks-before, Breaks-stops}
use Rattle.kp_frames.specs.Life.{behind}
use Rattle.kp_frames.specs.Stream.{Split, stream, is_faulty}
use Rattle.kp_frames.specs.declared.fault.FrameFault.{FrameFault}
use Rattle.kp_frames.specs.declared.fault.FrameFault.TheVariants.{TooLarge}
use Rattle.kp_frames.proofs.KeptLemmas.{keeps}
use Rattle.kp_frames.proofs.StreamLemmas.{faulty_so, passes_spelled}
use Rattle.kp_rules.specs.Calls.{Call}
use Rattle.kp_rules.specs.declared.fault.CoreFault.TheVariants.{OutOfMemory, ReplyFault}
use Rattle.kp_engine.specs.Exchange.{OnlyCore, Runs, notes_in}
use Rattle.kp_engine.specs.Talking.{CutBy, HearsAtHand, HearsEach, HearsLast, HearsNext, HearsOn, HearsOne, HeardAll, HearsUntil, Listens, ListensCut, ListensOn, ListensOnce, ListensUntil, ReadsOn, Talks, TalksUntil, contents_of, steps_left}
use Rattle.kp_engine.specs.Turn.{GoesOn, Heard, hears, lacking_memory, refused_with}
use Rattle.kp_engine.specs.declared.exchange.Exchange.{Exchange}
use Rattle.kp_engine.specs.declared.stop.Cause.{Cause}
use Rattle.kp_engine.specs.declared.stop.Cause.TheVariants.{Io, TimedOut, BadReply}
use Rattle.kp_engine.specs.declared.turn.hearing.AtHand.{AtHand}
use Rattle.kp_engine.specs.declared.turn.hearing.AtHand.TheVariants as at_hand
use Rattle.kp_engine.specs.declared.turn.hearing.Listened.{Listened}
use Rattle.kp_engine.specs.declared.turn.hearing.Listened.TheVariants as listened
use Rattle.kp_engine.specs.declared.turn.hearing.Next.{Next}
use Rattle.kp_engine.specs.declared.turn.hearing.Next.TheVariants as next
use Rattle.kp_engine.proofs.RunLemmas.{runs_none, runs_then}
use Rattle.kp_engine.proofs.TalkLemmas.{only_same, only_then}

-- ---- what stays the same

-- Nothing was made of the core, but perhaps room in its notes.
pub record Still (x y : Exchange) : Type 0 where
  pub core : y.core ≡ x.core
  pub calls : notes_in y ≡ notes_in x
  pub only : OnlyCore x y

pub still_same : (x : Exchange) → Still x x
still_same x = record { core = refl; calls = refl; only = only_same x }

-- where nothing was handed to write and nothing went
same_kept : {S : Type 0} (answers : Told S) (w v : Wired S) (heard : List (List ℕ)) (xs : List Answer) → gone xs ≡ [] → Goes answers w [] heard xs v → v.kept ≡ w.kept
same_kept answers w v heard xs none goes = ap (λ (zs : List ℕ). zs ++ v.kept) (sym none) ∙ goes.written ∙ append-nil w.kept

-- where nothing was heard and nothing came
same_held : {S : Type 0} (answers : Told S) (w v : Wired S) (xs : List Answer) → came xs ≡ [] → Goes answers w [] [] xs v → v.held ≡ w.held
same_held answers w v xs none goes = goes.read ∙ ap (λ (zs : List ℕ). w.held ++ zs) none ∙ append-nil w.held

-- ---- a stretch in which replies are heard

abbrev HearsSome : {S : Type 0} → Told S → ℕ → Exchange → Wired S → List Heard → List Answer → Exchange → Wired S → Type 0
HearsSome answers now x w heard xs y v = Talks answers x w [] heard (map (hears now) heard) xs y v

abbrev HearsSomeUntil : {S : Type 0} → Told S → ℕ → Exchange → Wired S → List Heard → List Answer → Exchange → Wired S → Type 0
HearsSomeUntil answers now x w heard xs y v = TalksUntil answers x w [] heard (map (hears now) heard) xs y v

module _ {S : Type 0} (answers : Told S) (now : ℕ) (x : Exchange) (w : Wired S) (y : Exchange) (v : Wired S) where
  pub some_none : Still x y → Goes answers w [] [] [] v → HearsSome answers now x w [] [] y v
  some_none still goes = record { runs = runs_none x y still.core still.calls; only = still.only; goes = goes }

  pub some_until : (heard : List Heard) (xs : List Answer) → HearsSome answers now x w heard xs y v → HearsSomeUntil answers now x w heard xs y v
  some_until heard xs p = record { runs = p.runs; only = p.only; stops = Goes-stops answers w v [] (contents_of heard) xs p.goes }

module _ {S : Type 0} (answers : Told S) (in_order : (a : S) (xs : List Answer) (b : S) (ys : List Answer) (c : S) → answers a xs b → answers b ys c → answers a (xs ++ ys) c) (now : ℕ) (x : Exchange) (w : Wired S) (y : Exchange) (v : Wired S) (z : Exchange) (u : Wired S) (before heard : List Heard) (xs ys : List Answer) where
  runs_both : Runs x (map (hears now) before) y → Runs y (map (hears now) heard) z → Runs x (map (hears now) (before ++ heard)) z
  runs_both p q =
      subst (λ (calls : List Call). Runs x calls z) (sym (map-append (hears now) before heard))
      (runs_then x y z (map (hears now) before) (map (hears now) heard) p q)

  pub some_then : HearsSome answers now x w before xs y v → HearsSome answers now y v heard ys z u → HearsSome answers now x w (before ++ heard) (xs ++ ys) z u
  some_then p q = record {
    runs = runs_both p.runs q.runs;
    only = only_then x y z p.only q.only;
    goes = subst (λ (contents : List (List ℕ)). Goes answers w [] contents (xs ++ ys) u) (sym (map-append (λ (reply : Heard). reply.content) before heard))
        (Goes-then answers in_order w v u [] (contents_of before) [] (contents_of heard) xs ys p.goes q.goes);
  }

  pub until_then : HearsSome answers now x w before xs y v → HearsSomeUntil answers now y v heard ys z u → HearsSomeUntil answers now x w (before ++ heard) (xs ++ ys) z u
  until_then p q = record {
    runs = runs_both p.runs q.runs;
    only = only_then x y z p.only q.only;
    stops = subst (λ (contents : List (List ℕ)). Stops answers w [] contents (xs ++ ys) u) (sym (map-append (λ (reply : Heard). reply.content) before heard))
        (Stops-then answers in_order w v u [] (contents_of before) [] (contents_of heard) xs ys p.goes q.stops);
  }

  pub on_then : HearsOn answers now x w before xs y v → HearsOn answers now y v heard ys z u → HearsOn answers now x w (before ++ heard) (xs ++ ys) z u
  on_then p q = record {
    going = all_append (λ reply. GoesOn reply.answer) before heard p.going q.going;
    talks = some_then p.talks q.talks;
    kept = q.kept ∙ p.kept;
  }

-- ---- one frame at hand

module _ {S : Type 0} (answers : Told S) (nothing : (s : S) → answers s [] s) (now : ℕ) (x y : Exchange) (w v : Wired S) (still : Still x y) where
  untouched : v ≡ w → Goes answers w [] [] [] v
  untouched same = subst (λ (t : Wired S). Goes answers w [] [] [] t) (sym same) (Goes-nothing answers nothing w)

  pub none_heard : ((stream w.held).frames ≡ []) × (v ≡ w) → HearsOn answers now x w [] [] y v × ((stream v.held).frames ≡ [])
  none_heard h = (
    record { going = tt; talks = some_none answers now x w y v still (untouched h.1); kept = ap (λ (t : Wired S). t.kept) h.1 },
    ap (λ (t : Wired S). (stream t.held).frames) h.1 ∙ h.0,
  )

  pub no_room : v ≡ w → (lacking : Option (List ℕ)) × HearsLast answers now x w [] (lacking_memory lacking) y v
  no_room same = (None, record { going = tt; talks = some_none answers now x w y v still (untouched same) })

module _ {S : Type 0} (answers : Told S) (now : ℕ) (x y z : Exchange) (w v : Wired S) (content : List ℕ) (still : Still x y) (gives : Gives answers w content v) (only : OnlyCore y z) where
  one_heard : (reply : Heard) → reply.content ≡ content → Runs y (hears now reply ∷ []) z → HearsSome answers now x w (reply ∷ []) [] z v
  one_heard reply is runs = record {
    runs = runs_then x y z [] (hears now reply ∷ []) (runs_none x y still.core still.calls) runs;
    only = only_then x y z still.only only;
    goes = subst (λ (bytes : List ℕ). Goes answers w [] (bytes ∷ []) [] v) (sym is) gives.goes;
  }

  pub heard_next : HearsOne now content y (Ok None) z → (reply : Heard) × HearsOn answers now x w (reply ∷ []) [] z v
  heard_next h =
      let reply : Heard = record { content = content; answer = h.0 } in (
        reply,
        record {
          going = (h.1, tt);
          talks = one_heard reply refl h.2;
          kept = same_kept answers w v (content ∷ []) [] refl gives.goes;
        },
      )

  pub refused_next : (fault : FrameFault) → HearsOne now content y (Ok (Some fault)) z → (bytes : List ℕ) × HearsLast answers now x w [] (refused_with (Some (bytes, fault))) z v
  refused_next fault runs = (content, record { going = tt; talks = one_heard (record { content = content; answer = Err (ReplyFault fault) }) refl runs })

  pub lacking_next : (refused : AllocError) → HearsOne now content y (Err refused) z → (lacking : Option (List ℕ)) × HearsLast answers now x w [] (lacking_memory lacking) z v
  lacking_next refused runs = (Some content, record { going = tt; talks = one_heard (record { content = content; answer = Err OutOfMemory }) refl runs })

-- ---- answers under a pattern

pub given_by : {S : Type 0} (answers : Told S) (w v : Wired S) (r : Option (Vec ℕ)) (content : Vec ℕ) → r ≡ Some content → Hears answers w (Ok r) v → Gives answers w content.items v
given_by answers w v r content is hears = subst (λ (o : Option (Vec ℕ)). Hears answers w (Ok o) v) is hears

pub none_by : {S : Type 0} (answers : Told S) (w v : Wired S) (r : Option (Vec ℕ)) → r ≡ None → Hears answers w (Ok r) v → ((stream w.held).frames ≡ []) × (v ≡ w)
none_by answers w v r is hears = subst (λ (o : Option (Vec ℕ)). Hears answers w (Ok o) v) is hears

pub one_by : (now : ℕ) (content : List ℕ) (x y : Exchange) (r fault : Option FrameFault) → r ≡ fault → HearsOne now content x (Ok r) y → HearsOne now content x (Ok fault) y
one_by now content x y r fault is hears = subst (λ (o : Option FrameFault). HearsOne now content x (Ok o) y) is hears

-- ---- the frames at hand

-- So many replies were heard.
pub record HeardSoFar {S : Type 0} (answers : Told S) (now : ℕ) (x : Exchange) (w : Wired S) (count : ℕ) (y : Exchange) (v : Wired S) : Type 0 where
  pub heard : List Heard
  pub len : length heard ≡ count
  pub on : HearsOn answers now x w heard [] y v

pub nobody_heard : {S : Type 0} (answers : Told S) (nothing : (s : S) → answers s [] s) (now : ℕ) (x : Exchange) (w : Wired S) → HeardSoFar answers now x w 0 x w
nobody_heard answers nothing now x w = record {
  heard = [];
  len = refl;
  on = record { going = tt; talks = some_none answers now x w x w (still_same x) (Goes-nothing answers nothing w); kept = refl };
}

module _ {S : Type 0} (answers : Told S) (in_order : (a : S) (xs : List Answer) (b : S) (ys : List Answer) (c : S) → answers a xs b → answers b ys c → answers a (xs ++ ys) c) (now count : ℕ) (x : Exchange) (w : Wired S) (y : Exchange) (v : Wired S) (z : Exchange) (u : Wired S) (so : HeardSoFar answers now x w count y v) where
  pub one_more : HearsNext answers now y v (Ok next.Heard) z u → HeardSoFar answers now x w (count + 1) z u
  one_more n = record {
    heard = so.heard ++ n.0 ∷ [];
    len = omega (arith, length-append so.heard (n.0 ∷ []), so.len);
    on = on_then answers in_order now x w y v z u so.heard (n.0 ∷ []) [] [] so.on n.1;
  }

  pub each_heard : (most : ℕ) → count < most → HearsNext answers now y v (Ok next.None) z u → HearsAtHand answers now most x w (Ok (at_hand.All count)) z u
  each_heard most lt n = (
    lt,
    record {
      heard = so.heard ++ [];
      len = omega (arith, length-append so.heard [], so.len);
      on = on_then answers in_order now x w y v z u so.heard [] [] [] so.on n.0;
      none_left = n.1;
    },
  )

  pub last_heard : (most : ℕ) (last : List Heard) → count < most → HearsLast answers now y v [] last z u → HearsUntil answers now most x w last z u
  last_heard most last lt p = record {
    before = so.heard;
    few = omega (arith, so.len);
    hears_last = record {
      going = so.on.going;
      talks = some_then answers in_order now x w y v z u so.heard last [] [] so.on.talks p.talks;
    };
  }

-- ---- what was read and heard, behind replies that were heard before

module _ {S : Type 0} (answers : Told S) (now : ℕ) (x : Exchange) (w : Wired S) (y : Exchange) (v : Wired S) (heard : List Heard) (xs : List Answer) (on : HearsOn answers now x w heard xs y v) where
  -- what is read behind it is split as it is split alone
  stream_behind : (ys : List Answer) → stream (w.held ++ came (xs ++ ys)) ≡ behind (contents_of heard) (stream (v.held ++ came ys))
  stream_behind ys =
      let spelled : List ℕ = frames (contents_of heard) in
      let all : w.held ++ came (xs ++ ys) ≡ spelled ++ (v.held ++ came ys) =
      ap (λ (zs : List ℕ). w.held ++ zs) (flat_map-append came_by xs ys) ∙ sym (append_assoc w.held (came xs) (came ys)) ∙ ap (λ (zs : List ℕ). zs ++ came ys) (sym on.talks.goes.read) ∙ append_assoc spelled v.held (came ys)
      in
      ap stream all ∙ (passes_spelled (contents_of heard) on.talks.goes.contents).over (v.held ++ came ys)

  -- the size of no frame is read behind it where it is read at all
  pub faulty_behind : (ys : List Answer) → is_faulty (w.held ++ came (xs ++ ys)) ≡ is_faulty (v.held ++ came ys)
  faulty_behind ys = faulty_so (w.held ++ came (xs ++ ys)) (v.held ++ came ys) (ap (λ (s : Split). s.rest) (stream_behind ys))

  pub still_sound : came xs ≡ [] → is_faulty w.held ≡ false → is_faulty v.held ≡ false
  still_sound none sound =
      sym (faulty_so (w.held ++ came xs) v.held (ap (λ (s : Split). s.rest) (Goes-stream answers w v [] (contents_of heard) xs on.talks.goes))) ∙ ap (λ (zs : List ℕ). is_faulty (w.held ++ zs)) none ∙ ap is_faulty (append-nil w.held) ∙ sound

  cut_behind : (ys : List Answer) (refused : Option (List ℕ × FrameFault)) (cause : Cause) → CutBy v.held ys refused cause → CutBy w.held (xs ++ ys) refused cause
  cut_behind ys refused Io (inl failed, none) = (inl (Contains-append_right xs ys Read_failed failed), none)
  cut_behind ys refused Io (inr ended, none) = (inr (Contains-append_right xs ys (Came []) ended), none)
  cut_behind ys refused TimedOut cut = absurd cut
  cut_behind ys refused (BadReply fault) (inl reply) = inl reply
  cut_behind ys refused (BadReply fault) (inr large) = inr (large.0, faulty_behind ys ∙ large.1, large.2)

  module _ (in_order : (a : S) (ps : List Answer) (b : S) (qs : List Answer) (c : S) → answers a ps b → answers b qs c → answers a (ps ++ qs) c) (left most : ℕ) (count : length heard + left ≡ most) (z : Exchange) (u : Wired S) where
    few_behind : (before last : List Heard) → length (before ++ last) ≤ left → length ((heard ++ before) ++ last) ≤ most
    few_behind before last few = omega (arith, few, count, ap length (append_assoc heard before last) ∙ length-append heard (before ++ last))

    last_behind : (before last : List Heard) (ys : List Answer) → HearsSomeUntil answers now y v (before ++ last) ys z u → HearsSomeUntil answers now x w ((heard ++ before) ++ last) (xs ++ ys) z u
    last_behind before last ys p =
        subst (λ (replies : List Heard). HearsSomeUntil answers now x w replies (xs ++ ys) z u) (sym (append_assoc heard before last))
        (until_then answers in_order now x w y v z u heard (before ++ last) xs ys on.talks p)

    going_behind : (before : List Heard) → AllByRecursion (λ reply. GoesOn reply.answer) before → AllByRecursion (λ reply. GoesOn reply.answer) (heard ++ before)
    going_behind before going = all_append (λ reply. GoesOn reply.answer) heard before on.going going

    enough_behind : (more : List Heard) (ys : List Answer) → (length more ≡ left) ⊎ (Met Read_waits ys × ((stream u.held).frames ≡ [])) → (length (heard ++ more) ≡ most) ⊎ (Met Read_waits (xs ++ ys) × ((stream u.held).frames ≡ []))
    enough_behind more ys (inl all) = inl (omega (arith, all, count, length-append heard more))
    enough_behind more ys (inr waits) = inr (Contains-append_right xs ys Read_waits waits.0, waits.1)

    all_behind : (before : List Heard) (ys : List Answer) → HeardAll left v.held ys before → HeardAll most w.held (xs ++ ys) (heard ++ before)
    all_behind before ys (inl enough) = inl (omega (arith, enough, count, length-append heard before))
    all_behind before ys (inr each) =
        inr (
        ap (λ (s : Split). s.frames) (stream_behind ys) ∙ ap (λ (more : List (List ℕ)). contents_of heard ++ more) each
        ∙ sym (map-append (λ (reply : Heard). reply.content) heard before)
        )

    on_behind : ListensOn answers now left y v z u → ListensOn answers now most x w z u
    on_behind q = record {
      heard = heard ++ q.heard;
      xs = xs ++ q.xs;
      few = omega (arith, q.few, count, length-append heard q.heard);
      on = on_then answers in_order now x w y v z u heard q.heard xs q.xs on q.on;
      sound = q.sound;
      enough = enough_behind q.heard q.xs q.enough;
    }

    ends_behind : (cause : Cause) → ListensCut answers now left y v cause z u → ListensCut answers now most x w cause z u
    ends_behind cause q = record {
      before = heard ++ q.before;
      refused = q.refused;
      xs = xs ++ q.xs;
      few = few_behind q.before (refused_with q.refused) q.few;
      going = going_behind q.before q.going;
      talks = last_behind q.before (refused_with q.refused) q.xs q.talks;
      cut = cut_behind q.xs q.refused cause q.cut;
      all = λ none. all_behind q.before q.xs (q.all none);
    }

    until_behind : ListensUntil answers now left y v z u → ListensUntil answers now most x w z u
    until_behind q = record {
      before = heard ++ q.before;
      lacking = q.lacking;
      xs = xs ++ q.xs;
      few = few_behind q.before (lacking_memory q.lacking) q.few;
      going = going_behind q.before q.going;
      talks = last_behind q.before (lacking_memory q.lacking) q.xs q.talks;
    }

    -- what a step of listening comes to, with the replies before it
    pub once_behind : steps_left left v.held ≤ steps_left most w.held → (r : Result Listened AllocError) → ListensOnce answers now left y v r z u → ListensOnce answers now most x w r z u
    once_behind closer (Ok (listened.More after)) q = record {
      heard = heard ++ q.heard;
      xs = xs ++ q.xs;
      count = omega (arith, q.count, count, length-append heard q.heard);
      some_left = q.some_left;
      on = on_then answers in_order now x w y v z u heard q.heard xs q.xs on q.on;
      sound = q.sound;
      nearer = below_all (steps_left after u.held) (steps_left left v.held) (steps_left most w.held) q.nearer closer;
    }
      where
        below_all : (a b c : ℕ) → a < b → b ≤ c → a < c
        below_all a b c lt le = omega arith
    once_behind closer (Ok listened.Waits) q = on_behind q
    once_behind closer (Ok (listened.Cut cause)) q = ends_behind cause q
    once_behind closer (Err refused) q = until_behind q

    -- and what listening comes to
    pub listens_behind : (r : Result (Option Cause) AllocError) → Listens answers now left y v r z u → Listens answers now most x w r z u
    listens_behind (Ok None) q = on_behind q
    listens_behind (Ok (Some cause)) q = ends_behind cause q
    listens_behind (Err refused) q = until_behind q

is_refused : (x : List ℕ × FrameFault) → Some x ≡ None → ⊥
is_refused x none = cc

-- ---- one read, where no frame is at hand

-- a read of more bytes than none takes steps away
sooner : (base k a b : ℕ) → a < b → a < k → base + (k - b) < base + (k - a)
sooner base k a b more below = omega arith

-- and so do replies that are heard
closer_by : (k left most a b : ℕ) → left < most → left * k + (k - a) ≤ most * k + (k - b)
closer_by k left most a b less = let rises : (left + 1) * k ≤ most * k = mul-le (left + 1) k most k (omega arith) (omega arith) in let adds : (left + 1) * k ≡ left * k + k = omega arith in omega arith

module _ {S : Type 0} (answers : Told S) (now : ℕ) (x : Exchange) (w v : Wired S) where
  read_on : (xs : List Answer) → gone xs ≡ [] → Goes answers w [] [] xs v → HearsOn answers now x w [] xs x v
  read_on xs none goes = record {
    going = tt;
    talks = record { runs = runs_none x x refl refl; only = only_same x; goes = goes };
    kept = same_kept answers w v [] xs none goes;
  }

  stopped : (xs : List Answer) → Stops answers w [] [] xs v → HearsSomeUntil answers now x w [] xs x v
  stopped xs stops = record { runs = runs_none x x refl refl; only = only_same x; stops = stops }

  pub read_waits : (most : ℕ) → is_faulty w.held ≡ false → (stream w.held).frames ≡ [] → Goes answers w [] [] (Read_waits ∷ []) v → ListensOn answers now most x w x v
  read_waits most sound none goes =
      let same = same_held answers w v (Read_waits ∷ []) refl goes in
      record {
        heard = [];
        xs = Read_waits ∷ [];
        few = omega arith;
        on = read_on (Read_waits ∷ []) refl goes;
        sound = ap is_faulty same ∙ sound;
        enough = inr ((0, omega arith, refl), ap (λ (held : List ℕ). (stream held).frames) same ∙ none);
      }

  no_use : (most : ℕ) (xs : List Answer) → came xs ≡ [] → (stream w.held).frames ≡ [] → Met Read_failed xs ⊎ Met (Came []) xs → Goes answers w [] [] xs v → ListensCut answers now most x w Io x v
  no_use most xs nothing none met goes = record {
    before = [];
    refused = None;
    xs = xs;
    few = omega arith;
    going = tt;
    talks = stopped xs (Goes-stops answers w v [] [] xs goes);
    cut = (met, refl);
    all = λ _. inr (ap (λ (bytes : List ℕ). (stream (w.held ++ bytes)).frames) nothing ∙ ap (λ (bytes : List ℕ). (stream bytes).frames) (append-nil w.held) ∙ none);
  }

  pub read_failed : (most : ℕ) → (stream w.held).frames ≡ [] → Goes answers w [] [] (Read_failed ∷ []) v → ListensCut answers now most x w Io x v
  read_failed most none goes = no_use most (Read_failed ∷ []) refl none (inl (0, omega arith, refl)) goes

  pub read_ended : (most n : ℕ) → (stream w.held).frames ≡ [] → Brings answers n w 0 v → ListensCut answers now most x w Io x v
  read_ended most n left b =
      let none : b.bytes ≡ [] = nil_from_length b.bytes b.len in
      no_use most (Came [] ∷ []) refl left (inr (0, omega arith, refl)) (subst (λ (bytes : List ℕ). Goes answers w [] [] (Came bytes ∷ []) v) none b.goes)

  pub read_lacked : (most n : ℕ) → Lacks answers n w v → ListensUntil answers now most x w x v
  read_lacked most n l = record {
    before = [];
    lacking = None;
    xs = l.xs;
    few = omega arith;
    going = tt;
    talks = stopped l.xs l.stops;
  }

  pub read_more : (most n count : ℕ) → 0 < most → is_faulty w.held ≡ false → (stream w.held).frames ≡ [] → (count ≡ 0 → ⊥) → Brings answers n w count v → ReadsOn answers now most x w most x v
  read_more most n count some sound none not b =
      let held : v.held ≡ w.held ++ b.bytes = b.goes.read ∙ ap (λ (zs : List ℕ). w.held ++ zs) (append-nil b.bytes) in
      let longer : length w.held < length v.held = omega (arith, ap length held ∙ length-append w.held b.bytes, b.len, not) in
      let small : length w.held < 2 ^ 65 = omega (arith, part_small w.held (still_part w.held sound none)) in
      record {
        heard = [];
        xs = Came b.bytes ∷ [];
        count = omega arith;
        some_left = some;
        on = read_on (Came b.bytes ∷ []) refl b.goes;
        sound = ap is_faulty held ∙ b.sound;
        nearer = sooner (most * 2 ^ 65) (2 ^ 65) (length w.held) (length v.held) longer small;
      }

-- The size of no frame was read, and then the frames before it were heard.
module _ {S : Type 0} (answers : Told S) (in_order : (a : S) (xs : List Answer) (b : S) (ys : List Answer) (c : S) → answers a xs b → answers b ys c → answers a (xs ++ ys) c) (now most n : ℕ) (x : Exchange) (w mid : Wired S) (y : Exchange) (v : Wired S) (r : Refuses answers n w mid) where
  behind_break : (heard : List Heard) → HearsSome answers now x mid heard [] y v → HearsSomeUntil answers now x w heard (Came r.bytes ∷ []) y v
  behind_break heard p = record {
    runs = p.runs;
    only = p.only;
    stops = Breaks-stops answers w v [] (contents_of heard) (Came r.bytes ∷ [])
        (Breaks-before answers in_order w mid v [] [] [] (contents_of heard) (Came r.bytes ∷ []) [] r.breaks refl p.goes);
  }

  pub large_then_refused : (fault : FrameFault) → HearsAtHand answers now most x mid (Ok (at_hand.Refused fault)) y v → ListensCut answers now most x w (BadReply fault) y v
  large_then_refused fault (content, h) = record {
    before = h.before;
    refused = Some (content, fault);
    xs = Came r.bytes ∷ [];
    few = omega (arith, h.few, length-append h.before (refused_with (Some (content, fault))));
    going = h.hears_last.going;
    talks = behind_break (h.before ++ refused_with (Some (content, fault))) h.hears_last.talks;
    cut = inl (content, refl);
    all = λ none. absurd (is_refused (content, fault) none);
  }

  pub large_then_lacking : (refused : AllocError) → HearsAtHand answers now most x mid (Err refused) y v → ListensUntil answers now most x w y v
  large_then_lacking refused (lacking, h) = record {
    before = h.before;
    lacking = lacking;
    xs = Came r.bytes ∷ [];
    few = last_fits lacking;
    going = h.hears_last.going;
    talks = behind_break (h.before ++ lacking_memory lacking) h.hears_last.talks;
  }
    where
      last_fits : (last : Option (List ℕ)) → length (h.before ++ lacking_memory last) ≤ most
      last_fits None = omega (arith, h.few, length-append h.before [])
      last_fits (Some content) = omega (arith, h.few, length-append h.before (lacking_memory (Some content)))

  each_at_hand : (heard : List Heard) → HearsOn answers now x mid heard [] y v → (stream v.held).frames ≡ [] → (stream (w.held ++ came (Came r.bytes ∷ []))).frames ≡ contents_of heard
  each_at_hand heard on none =
      let same : (stream mid.held).frames ≡ (stream (w.held ++ r.bytes)).frames = ap (λ (bytes : List ℕ). (stream bytes).frames) r.held ∙ (keeps (w.held ++ r.bytes)).frames in
      let given : (stream (mid.held ++ [])).frames ≡ contents_of heard ++ (stream v.held).frames = ap (λ (s : Split). s.frames) (Goes-stream answers mid v [] (contents_of heard) [] on.talks.goes) in
      ap (λ (bytes : List ℕ). (stream (w.held ++ bytes)).frames) (append-nil r.bytes) ∙ sym same ∙ ap (λ (bytes : List ℕ). (stream bytes).frames) (sym (append-nil mid.held)) ∙ given
      ∙ ap (λ (more : List (List ℕ)). contents_of heard ++ more) none ∙ append-nil (contents_of heard)

  large_heard : (heard : List Heard) → length heard ≤ most → HearsOn answers now x mid heard [] y v → HeardAll most w.held (Came r.bytes ∷ []) heard → ListensCut answers now most x w (BadReply TooLarge) y v
  large_heard heard few on all = record {
    before = heard;
    refused = None;
    xs = Came r.bytes ∷ [];
    few = omega (arith, few, length-append heard []);
    going = on.going;
    talks = subst (λ (replies : List Heard). HearsSomeUntil answers now x w replies (Came r.bytes ∷ []) y v) (sym (append-nil heard)) (behind_break heard on.talks);
    cut = inr (refl, ap (λ (bytes : List ℕ). is_faulty (w.held ++ bytes)) (append-nil r.bytes) ∙ r.faulty, refl);
    all = λ _. all;
  }

  pub large_then_all : (count : ℕ) → HearsAtHand answers now most x mid (Ok (at_hand.All count)) y v → ListensCut answers now most x w (BadReply TooLarge) y v
  large_then_all count h = large_heard h.1.heard (omega (arith, h.0, h.1.len)) h.1.on (inr (each_at_hand h.1.heard h.1.on h.1.none_left))

  pub large_then_enough : HearsAtHand answers now most x mid (Ok at_hand.Enough) y v → ListensCut answers now most x w (BadReply TooLarge) y v
  large_then_enough h = large_heard h.0 (omega (arith, h.1)) h.2 (inl h.1)

-- ---- the frames at hand, and one read

module _ {S : Type 0} (answers : Told S) (now most : ℕ) (x : Exchange) (w : Wired S) (y : Exchange) (v : Wired S) where
  pub at_hand_lacking : (refused : AllocError) → HearsAtHand answers now most x w (Err refused) y v → ListensUntil answers now most x w y v
  at_hand_lacking refused (lacking, h) = record {
    before = h.before;
    lacking = lacking;
    xs = [];
    few = last_fits lacking;
    going = h.hears_last.going;
    talks = some_until answers now x w y v (h.before ++ lacking_memory lacking) [] h.hears_last.talks;
  }
    where
      last_fits : (last : Option (List ℕ)) → length (h.before ++ lacking_memory last) ≤ most
      last_fits None = omega (arith, h.few, length-append h.before [])
      last_fits (Some content) = omega (arith, h.few, length-append h.before (lacking_memory (Some content)))

  pub at_hand_refused : (fault : FrameFault) → HearsAtHand answers now most x w (Ok (at_hand.Refused fault)) y v → ListensCut answers now most x w (BadReply fault) y v
  at_hand_refused fault (content, h) = record {
    before = h.before;
    refused = Some (content, fault);
    xs = [];
    few = omega (arith, h.few, length-append h.before (refused_with (Some (content, fault))));
    going = h.hears_last.going;
    talks = some_until answers now x w y v (h.before ++ refused_with (Some (content, fault))) [] h.hears_last.talks;
    cut = inl (content, refl);
    all = λ none. absurd (is_refused (content, fault) none);
  }

  pub at_hand_enough : is_faulty w.held ≡ false → HearsAtHand answers now most x w (Ok at_hand.Enough) y v → ListensOn answers now most x w y v
  at_hand_enough sound h = record {
    heard = h.0;
    xs = [];
    few = omega (arith, h.1);
    on = h.2;
    sound = still_sound answers now x w y v h.0 [] h.2 refl sound;
    enough = inl h.1;
  }

  pub at_hand_sound : (count : ℕ) → is_faulty w.held ≡ false → HearsAtHand answers now most x w (Ok (at_hand.All count)) y v → is_faulty v.held ≡ false
  at_hand_sound count sound h = still_sound answers now x w y v h.1.heard [] h.1.on refl sound

  nothing_held : (heard : List Heard) → heard ≡ [] → HearsOn answers now x w heard [] y v → v.held ≡ w.held
  nothing_held heard none on = same_held answers w v [] refl (subst (λ (replies : List Heard). Goes answers w [] (contents_of replies) [] v) none on.talks.goes)

  at_hand_closer : (count left : ℕ) → count + left ≡ most → HearsEach answers now x w count y v → steps_left left v.held ≤ steps_left most w.held
  at_hand_closer zero left is h =
      let held = nothing_held h.heard (nil_from_length h.heard h.len) h.on in
      let same : left ≡ most = omega (arith, is) in
      subst (λ (steps : ℕ). steps ≤ steps_left most w.held) (ap (λ (k : ℕ). steps_left k w.held) (sym same) ∙ ap (λ (bytes : List ℕ). steps_left left bytes) (sym held)) (omega arith)
  at_hand_closer (suc count) left is h = closer_by (2 ^ 65) left most (length v.held) (length w.held) (omega (arith, is))

  pub at_hand_then : (in_order : (a : S) (xs : List Answer) (b : S) (ys : List Answer) (c : S) → answers a xs b → answers b ys c → answers a (xs ++ ys) c) (count left : ℕ) → count + left ≡ most → HearsAtHand answers now most x w (Ok (at_hand.All count)) y v
      → (z : Exchange) (u : Wired S) (r : Result Listened AllocError) → ListensOnce answers now left y v r z u → ListensOnce answers now most x w r z u
  at_hand_then in_order count left is h z u r q =
      once_behind answers now x w y v h.1.heard [] h.1.on in_order left most (omega (arith, is, h.1.len)) z u (at_hand_closer count left is h.1) r q

-- ---- until enough were heard

-- Of so many replies some were heard, and so many may still be.
pub record ListenedSoFar {S : Type 0} (answers : Told S) (now most : ℕ) (x : Exchange) (w : Wired S) (left : ℕ) (y : Exchange) (v : Wired S) : Type 0 where
  pub heard : List Heard
  pub xs : List Answer
  pub count : length heard + left ≡ most
  pub some_left : 0 < left
  pub on : HearsOn answers now x w heard xs y v
  pub sound : is_faulty v.held ≡ false

pub nothing_listened : {S : Type 0} (answers : Told S) (nothing : (s : S) → answers s [] s) (now most : ℕ) (x : Exchange) (w : Wired S) → 0 < most → is_faulty w.held ≡ false → ListenedSoFar answers now most x w most x w
nothing_listened answers nothing now most x w some sound =
    let none = nobody_heard answers nothing now x w in
    record { heard = none.heard; xs = []; count = omega (arith, none.len); some_left = some; on = none.on; sound = sound }

module _ {S : Type 0} (answers : Told S) (in_order : (a : S) (xs : List Answer) (b : S) (ys : List Answer) (c : S) → answers a xs b → answers b ys c → answers a (xs ++ ys) c) (now most left : ℕ) (x : Exchange) (w : Wired S) (y : Exchange) (v : Wired S) (z : Exchange) (u : Wired S) (so : ListenedSoFar answers now most x w left y v) where
  pub listened_more : (after : ℕ) → ListensOnce answers now left y v (Ok (listened.More after)) z u → ListenedSoFar answers now most x w after z u
  listened_more after q = record {
    heard = so.heard ++ q.heard;
    xs = so.xs ++ q.xs;
    count = omega (arith, q.count, so.count, length-append so.heard q.heard);
    some_left = q.some_left;
    on = on_then answers in_order now x w y v z u so.heard q.heard so.xs q.xs so.on q.on;
    sound = q.sound;
  }

  pub listened_then : (r : Result (Option Cause) AllocError) → Listens answers now left y v r z u → Listens answers now most x w r z u
  listened_then r q = listens_behind answers now x w y v so.heard so.xs so.on in_order left most so.count z u r q

-- ---- more answers under a pattern

pub next_by : {S : Type 0} (answers : Told S) (now : ℕ) (x : Exchange) (w : Wired S) (y : Exchange) (v : Wired S) (r found : Next) → r ≡ found → HearsNext answers now x w (Ok r) y v → HearsNext answers now x w (Ok found) y v
next_by answers now x w y v r found is hears = subst (λ (a : Next). HearsNext answers now x w (Ok a) y v) is hears

pub at_hand_by : {S : Type 0} (answers : Told S) (now most : ℕ) (x : Exchange) (w : Wired S) (y : Exchange) (v : Wired S) (r found : AtHand) → r ≡ found → HearsAtHand answers now most x w (Ok r) y v → HearsAtHand answers now most x w (Ok found) y v
at_hand_by answers now most x w y v r found is hears = subst (λ (a : AtHand). HearsAtHand answers now most x w (Ok a) y v) is hears

pub read_by : {S : Type 0} (answers : Told S) (n : ℕ) (w v : Wired S) (r found : Result ℕ ReadFault) → r ≡ found → Reads answers n w (Ready r) v → Reads answers n w (Ready found) v
read_by answers n w v r found is reads = subst (λ (a : Result ℕ ReadFault). Reads answers n w (Ready a) v) is reads

pub fault_by : {S : Type 0} (answers : Told S) (n : ℕ) (w v : Wired S) (r : Result ℕ ReadFault) (fault found : ReadFault) → r ≡ Err fault → fault ≡ found → Reads answers n w (Ready r) v → Reads answers n w (Ready (Err found)) v
fault_by answers n w v r fault found is same reads = subst (λ (a : ReadFault). Reads answers n w (Ready (Err a)) v) same (read_by answers n w v r (Err fault) is reads)

pub listened_by : {S : Type 0} (answers : Told S) (now most : ℕ) (x : Exchange) (w : Wired S) (y : Exchange) (v : Wired S) (r found : Listened) → r ≡ found → ListensOnce answers now most x w (Ok r) y v → ListensOnce answers now most x w (Ok found) y v
listened_by answers now most x w y v r found is listens = subst (λ (a : Listened). ListensOnce answers now most x w (Ok a) y v) is listens
