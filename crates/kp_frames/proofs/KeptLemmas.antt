-- What is kept of bytes, and of pieces of them.
use Rattle.std.proofs.Common.{◌≡◌, ℕ, ◌+◌, ◌-◌, ◌≤◌, Bool, true, false, cond, List, [], ◌∷◌, ◌++◌, length, take, Err, refl, sym, ap, ◌∙◌, inl, inr, append_assoc, arith}
use Rattle.std.specs.List.{fold, concat}
use Rattle.std.proofs.lemmas.Bool.{cases_Bool}
use Rattle.std.proofs.lemmas.List.{length-append, append-nil, take_at}
use Rattle.std.proofs.Math.Seq.{take-append-add}
use Rattle.kp_wire.proofs.ReadLemmas.{end_is}
use Rattle.kp_frames.specs.declared.fault.FrameFault.TheVariants.{Short, TooLarge}
use Rattle.kp_frames.specs.Life.{behind}
use Rattle.kp_frames.specs.Stream.{first, Split, stream, is_faulty_rest, is_faulty, kept}
use Rattle.kp_frames.proofs.FirstLemmas.{First, first_short, large}
use Rattle.kp_frames.proofs.StreamLemmas.{stops_at, Passes, parts_of, faulty_so, stays}

pub faulty_behind : (front : List ℕ) (frames : List (List ℕ)) (rest : List ℕ) → Passes front frames → is_faulty (front ++ rest) ≡ is_faulty rest
unfolding is_faulty
faulty_behind front frames rest p = ap (λ (s : Split). is_faulty_rest (first s.rest)) (p.over rest)

pub rest_shorter : (bytes : List ℕ) → length (stream bytes).rest ≤ length bytes
rest_shorter bytes = let p = parts_of bytes in (end_is bytes p.front (stream bytes).rest p.parts).0

cut_behind : (b : Bool) (front rest : List ℕ) (n m : ℕ) → n ≡ length front + m → cond b (take n (front ++ rest)) (front ++ rest) ≡ front ++ cond b (take m rest) rest
cut_behind true front rest n m e = ap (λ (k : ℕ). take k (front ++ rest)) e ∙ take-append-add front rest m
cut_behind false front rest n m e = refl

pub kept_behind : (front : List ℕ) (frames : List (List ℕ)) (rest : List ℕ) → Passes front frames → kept (front ++ rest) ≡ front ++ kept rest
unfolding kept
kept_behind front frames rest p =
    let same : length (stream (front ++ rest)).rest ≡ length (stream rest).rest = ap (λ (s : Split). length s.rest) (p.over rest) in
    let less = rest_shorter rest in
    ap (λ (b : Bool). cond b (take (length (front ++ rest) - length (stream (front ++ rest)).rest + 4) (front ++ rest)) (front ++ rest)) (faulty_behind front frames rest p)
    ∙ cut_behind (is_faulty rest) front rest (length (front ++ rest) - length (stream (front ++ rest)).rest + 4) (length rest - length (stream rest).rest + 4) (omega (arith, length-append front rest))

pub kept_open : (bytes : List ℕ) → is_faulty bytes ≡ false → kept bytes ≡ bytes
unfolding kept
kept_open bytes e = rw e refl

kept_rest : (rest : List ℕ) → stream rest ≡ record { frames = []; rest = rest } → kept rest ≡ cond (is_faulty rest) (take 4 rest) rest
unfolding kept
kept_rest rest e =
    let n : length rest - length (stream rest).rest + 4 ≡ 4 = omega (arith, ap (λ (s : Split). length s.rest) e) in
    ap (λ (k : ℕ). cond (is_faulty rest) (take k rest) rest) n

-- The bytes are these frames and the size of no frame, and what stands behind it.
pub record Stops (bytes : List ℕ) (frames : List (List ℕ)) : Type 0 where
  pub front : List ℕ
  pub size : List ℕ
  pub rest : List ℕ
  pub parts : bytes ≡ (front ++ size) ++ rest
  pub passes : Passes front frames
  pub four : length size ≡ 4
  pub again : (other : List ℕ) → first (size ++ other) ≡ Err TooLarge

is_too_large : (r : First) → is_faulty_rest r ≡ true → r ≡ Err TooLarge
is_too_large (Err TooLarge) e = refl
is_too_large r e = absurd cc

pub stops_of : (bytes : List ℕ) → is_faulty bytes ≡ true → Stops bytes (stream bytes).frames
unfolding is_faulty
stops_of bytes e =
    let p = parts_of bytes in
    let l = large (stream bytes).rest (is_too_large (first (stream bytes).rest) e) in
    record {
      front = p.front;
      size = l.size;
      rest = l.behind;
      parts = p.parts ∙ ap (λ (t : List ℕ). p.front ++ t) l.parts ∙ sym (append_assoc p.front l.size l.behind);
      passes = p.passes;
      four = l.len;
      again = l.again;
    }

-- what follows, whatever stands behind the size
pub record Stopped (bytes : List ℕ) (frames : List (List ℕ)) (until size rest : List ℕ) : Type 0 where
  pub splits : stream bytes ≡ record { frames = frames; rest = size ++ rest }
  pub faulty : is_faulty bytes ≡ true
  pub keeps : kept bytes ≡ until

large_alone : (size rest : List ℕ) → length size ≡ 4 → first (size ++ rest) ≡ Err TooLarge → Stopped (size ++ rest) [] size size rest
unfolding is_faulty kept
large_alone size rest four e =
    let s : stream (size ++ rest) ≡ record { frames = []; rest = size ++ rest } = stops_at (length (size ++ rest)) (size ++ rest) TooLarge e in
    let f : is_faulty (size ++ rest) ≡ true = ap (λ (x : Split). is_faulty_rest (first x.rest)) s ∙ ap is_faulty_rest e in
    let n : length (size ++ rest) - length (stream (size ++ rest)).rest + 4 ≡ 4 = omega (arith, ap (λ (x : Split). length x.rest) s) in
    record {
      splits = s;
      faulty = f;
      keeps = ap (λ (b : Bool). cond b (take (length (size ++ rest) - length (stream (size ++ rest)).rest + 4) (size ++ rest)) (size ++ rest)) f
          ∙ ap (λ (k : ℕ). take k (size ++ rest)) n ∙ take_at size rest 4 four;
    }

pub stopped : (bytes : List ℕ) (frames : List (List ℕ)) (p : Stops bytes frames) (rest : List ℕ) → Stopped ((p.front ++ p.size) ++ rest) frames (p.front ++ p.size) p.size rest
stopped bytes frames p rest =
    let alone = large_alone p.size rest p.four (p.again rest) in
    let e = append_assoc p.front p.size rest in
    record {
      splits = ap stream e ∙ p.passes.over (p.size ++ rest) ∙ ap (behind frames) alone.splits
          ∙ ap (λ (f : List (List ℕ)). record { frames = f; rest = p.size ++ rest }) (append-nil frames);
      faulty = ap is_faulty e ∙ faulty_behind p.front frames (p.size ++ rest) p.passes ∙ alone.faulty;
      keeps = ap kept e ∙ kept_behind p.front frames (p.size ++ rest) p.passes ∙ ap (λ (t : List ℕ). p.front ++ t) alone.keeps;
    }

-- the bytes that are kept, where the rest begins with the size of no frame, and what was behind them
stopped_whole : (bytes : List ℕ) (e : is_faulty bytes ≡ true) → let p = stops_of bytes e in kept bytes ≡ p.front ++ p.size
stopped_whole bytes e =
    let p = stops_of bytes e in
    ap kept p.parts ∙ (stopped bytes (stream bytes).frames p p.rest).keeps

pub kept_again : (bytes more : List ℕ) → kept (kept bytes ++ more) ≡ kept (bytes ++ more)
kept_again bytes more =
    elim (cases_Bool (is_faulty bytes)) [
      | inl e ↦
          let p = stops_of bytes e in
          let frames = (stream bytes).frames in
          ap (λ (t : List ℕ). kept (t ++ more)) (stopped_whole bytes e) ∙ (stopped bytes frames p more).keeps
          ∙ sym (ap (λ (t : List ℕ). kept (t ++ more)) p.parts ∙ ap kept (append_assoc (p.front ++ p.size) p.rest more) ∙ (stopped bytes frames p (p.rest ++ more)).keeps)
      | inr e ↦ ap (λ (t : List ℕ). kept (t ++ more)) (kept_open bytes e)
    ]

pub kept_kept : (bytes : List ℕ) → kept (kept bytes) ≡ kept bytes
kept_kept bytes = ap kept (sym (append-nil (kept bytes))) ∙ kept_again bytes [] ∙ ap kept (append-nil bytes)

-- what is kept has the same frames, and 4 bytes of a rest that begins with the size of no frame
pub record Keeps (bytes : List ℕ) : Type 0 where
  pub frames : (stream (kept bytes)).frames ≡ (stream bytes).frames
  pub faulty : is_faulty (kept bytes) ≡ is_faulty bytes
  pub rest : (stream (kept bytes)).rest ≡ cond (is_faulty bytes) (take 4 (stream bytes).rest) (stream bytes).rest

pub keeps : (bytes : List ℕ) → Keeps bytes
keeps bytes =
    elim (cases_Bool (is_faulty bytes)) [
      | inl e ↦
          let p = stops_of bytes e in
          let now = stopped bytes (stream bytes).frames p [] in
          let then = stopped bytes (stream bytes).frames p p.rest in
          let same = stopped_whole bytes e ∙ sym (append-nil (p.front ++ p.size)) in
          let was : (stream bytes).rest ≡ p.size ++ p.rest = ap (λ (t : List ℕ). (stream t).rest) p.parts ∙ ap (λ (s : Split). s.rest) then.splits in
          let four : take 4 (stream bytes).rest ≡ p.size = ap (take 4) was ∙ take_at p.size p.rest 4 p.four in
          record {
            frames = ap (λ (t : List ℕ). (stream t).frames) same ∙ ap (λ (s : Split). s.frames) now.splits;
            faulty = ap is_faulty same ∙ now.faulty ∙ sym e;
            rest = ap (λ (t : List ℕ). (stream t).rest) same ∙ ap (λ (s : Split). s.rest) now.splits ∙ append-nil p.size ∙ sym (rw e four);
          }
      | inr e ↦
          let same = kept_open bytes e in
          record {
            frames = ap (λ (t : List ℕ). (stream t).frames) same;
            faulty = ap is_faulty same;
            rest = ap (λ (t : List ℕ). (stream t).rest) same ∙ sym (rw e refl);
          }
    ]

-- what is kept behind the frames
pub kept_parts : (bytes : List ℕ) → kept bytes ≡ (parts_of bytes).front ++ cond (is_faulty bytes) (take 4 (stream bytes).rest) (stream bytes).rest
kept_parts bytes =
    let p = parts_of bytes in
    let rest = (stream bytes).rest in
    let alone = stays rest p.no_more in
    let same : is_faulty rest ≡ is_faulty bytes = faulty_so rest bytes (ap (λ (s : Split). s.rest) alone) in
    ap kept p.parts ∙ kept_behind p.front (stream bytes).frames rest p.passes ∙ ap (λ (t : List ℕ). p.front ++ t) (kept_rest rest alone)
    ∙ ap (λ (b : Bool). p.front ++ cond b (take 4 rest) rest) same

-- ---- pieces of a stream

pub kept_pieces : (bytes : List ℕ) (pieces : List (List ℕ)) → fold (λ held piece. kept (held ++ piece)) (kept bytes) pieces ≡ kept (bytes ++ concat pieces)
kept_pieces bytes [] = ap kept (sym (append-nil bytes))
kept_pieces bytes (piece ∷ pieces) =
    ap (λ (t : List ℕ). fold (λ held next. kept (held ++ next)) t pieces) (kept_again bytes piece)
    ∙ kept_pieces (bytes ++ piece) pieces
    ∙ ap kept (append_assoc bytes piece (concat pieces))

pub none_faulty : is_faulty [] ≡ false
unfolding is_faulty
none_faulty =
    let e : first [] ≡ Err Short = first_short [] (omega arith) in
    ap (λ (x : Split). is_faulty_rest (first x.rest)) (stops_at 0 [] Short e) ∙ ap is_faulty_rest e

pub kept_none : kept [] ≡ []
kept_none = kept_open [] none_faulty

pub pieces_from_nothing : (pieces : List (List ℕ)) → fold (λ held piece. kept (held ++ piece)) [] pieces ≡ kept (concat pieces)
pieces_from_nothing pieces =
    ap (λ (t : List ℕ). fold (λ held piece. kept (held ++ piece)) t pieces) (sym kept_none) ∙ kept_pieces [] pieces
