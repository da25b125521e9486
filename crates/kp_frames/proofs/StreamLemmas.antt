-- All frames at the front of bytes, and the rest.
use Rattle.std.proofs.Common.{◌≡◌, ℕ, zero, suc, ◌+◌, ◌-◌, ◌≤◌, List, [], ◌∷◌, ◌++◌, length, drop, Ok, Err, refl, sym, ap, subst, ◌∙◌, append_assoc, arith}
use Rattle.std.specs.Prelude.{IsErr}
use Rattle.std.specs.List.{flat_map, AllByRecursion}
use Rattle.std.proofs.lemmas.List.{length-append, append-nil}
use Rattle.kp_wire.proofs.ReadLemmas.{IsBytes, IsBytes-left, IsBytes-right, end_is, failed}
use Rattle.kp_frames.specs.declared.fault.FrameFault.{FrameFault}
use Rattle.kp_frames.specs.declared.fault.FrameFault.TheVariants.{Short}
use Rattle.kp_frames.specs.declared.frame.TheConstants.{CONTENT_LIMIT}
use Rattle.kp_frames.specs.Life.{behind}
use Rattle.kp_frames.specs.Stream.{frame, first, Split, at_most, stream, is_faulty_rest, is_faulty, Splits}
use Rattle.kp_frames.proofs.FirstLemmas.{First, first_short, IsFront, front_len, front_first, Fronted, fronted, frame_front, front_spelled}

pub stops_at : (n : ℕ) (bytes : List ℕ) (f : FrameFault) → first bytes ≡ Err f → at_most n bytes ≡ record { frames = []; rest = bytes }
unfolding at_most
stops_at zero bytes f e = refl
stops_at (suc n) bytes f e = rw e refl

goes_on : (n : ℕ) (bytes : List ℕ) (x : List ℕ × List ℕ) → first bytes ≡ Ok x → at_most (suc n) bytes ≡ behind (x.0 ∷ []) (at_most n x.1)
unfolding at_most
goes_on n bytes x e = rw e refl

pub shorter : (bytes : List ℕ) (x : List ℕ × List ℕ) → first bytes ≡ Ok x → 4 + length x.1 ≤ length bytes
shorter bytes x e =
    let p = fronted bytes x e in
    let whole : length bytes ≡ length p.front + length x.1 = ap length p.parts ∙ length-append p.front x.1 in
    let len = front_len p.front x.0 p.is_front in
    omega arith

-- any number of frames that is enough is as good as another
enough_by : (n m : ℕ) (bytes : List ℕ) (r : First) → first bytes ≡ r → ((x : List ℕ × List ℕ) → first bytes ≡ Ok x → at_most n x.1 ≡ at_most m x.1) → at_most (suc n) bytes ≡ at_most (suc m) bytes
enough_by n m bytes (Err f) e more = stops_at (suc n) bytes f e ∙ sym (stops_at (suc m) bytes f e)
enough_by n m bytes (Ok x) e more = goes_on n bytes x e ∙ ap (behind (x.0 ∷ [])) (more x e) ∙ sym (goes_on m bytes x e)

enough : (n m : ℕ) (bytes : List ℕ) → length bytes ≤ n → length bytes ≤ m → at_most n bytes ≡ at_most m bytes
enough zero m bytes le le' =
    let e : first bytes ≡ Err Short = first_short bytes (omega arith) in
    stops_at zero bytes Short e ∙ sym (stops_at m bytes Short e)
enough (suc n) zero bytes le le' =
    let e : first bytes ≡ Err Short = first_short bytes (omega arith) in
    stops_at (suc n) bytes Short e ∙ sym (stops_at zero bytes Short e)
enough (suc n) (suc m) bytes le le' =
    enough_by n m bytes (first bytes) refl (λ x e. let less = shorter bytes x e in enough n m x.1 (omega arith) (omega arith))

-- These bytes are these frames, whatever stands behind them.
pub record Passes (bytes : List ℕ) (frames : List (List ℕ)) : Type 0 where
  pub over : (rest : List ℕ) → stream (bytes ++ rest) ≡ behind frames (stream rest)

pub passes_none : Passes [] []
passes_none = record { over = λ rest. refl }

pub passes_frame : (front content : List ℕ) → IsFront front content → Passes front (content ∷ [])
passes_frame front content p = record {
  over = λ rest.
      let len : length (front ++ rest) ≡ suc (3 + length content + length rest) = omega (arith, length-append front rest, front_len front content p) in
      ap (λ (n : ℕ). at_most n (front ++ rest)) len
      ∙ goes_on (3 + length content + length rest) (front ++ rest) (content, rest) (front_first front content rest p)
      ∙ ap (behind (content ∷ [])) (enough (3 + length content + length rest) (length rest) rest (omega arith) (omega arith));
}

pub passes_then : (a b : List ℕ) (f g : List (List ℕ)) → Passes a f → Passes b g → Passes (a ++ b) (f ++ g)
passes_then a b f g p q = record {
  over = λ rest.
      ap stream (append_assoc a b rest) ∙ p.over (b ++ rest) ∙ ap (behind f) (q.over rest)
      ∙ ap (λ (frames : List (List ℕ)). record { frames = frames; rest = (stream rest).rest }) (sym (append_assoc f g (stream rest).frames));
}

pub passes_spelled : (frames : List (List ℕ)) → AllByRecursion (λ content. length content ≤ CONTENT_LIMIT) frames → Passes (flat_map frame.spell frames) frames
passes_spelled [] small = passes_none
passes_spelled (content ∷ frames) small =
    passes_then (frame.spell content) (flat_map frame.spell frames) (content ∷ []) frames (passes_frame (frame.spell content) content (frame_front content small.0)) (passes_spelled frames small.1)

-- what bytes are split into
pub record Parts (bytes : List ℕ) (s : Split) : Type 0 where
  pub front : List ℕ
  pub parts : bytes ≡ front ++ s.rest
  pub passes : Passes front s.frames
  pub no_more : IsErr (first s.rest)
  pub sizes : AllByRecursion (λ content. length content ≤ CONTENT_LIMIT) s.frames
  pub spelled : IsBytes bytes → front ≡ flat_map frame.spell s.frames

no_parts : (bytes : List ℕ) (f : FrameFault) → first bytes ≡ Err f → Parts bytes (record { frames = []; rest = bytes })
no_parts bytes f e = record { front = []; parts = refl; passes = passes_none; no_more = rw e refl; sizes = tt; spelled = λ fits. refl }

more_parts : (bytes content rest : List ℕ) (s : Split) → Fronted bytes content rest → Parts rest s → Parts bytes (behind (content ∷ []) s)
more_parts bytes content rest s p q = record {
  front = p.front ++ q.front;
  parts = p.parts ∙ ap (λ (t : List ℕ). p.front ++ t) q.parts ∙ sym (append_assoc p.front q.front s.rest);
  passes = passes_then p.front q.front (content ∷ []) s.frames (passes_frame p.front content p.is_front) q.passes;
  no_more = q.no_more;
  sizes = (p.is_front.small, q.sizes);
  spelled = λ fits.
      let both : IsBytes (p.front ++ rest) = subst IsBytes p.parts fits in
      let a = front_spelled p.front content (IsBytes-left p.front rest both) p.is_front in
      let b = q.spelled (IsBytes-right p.front rest both) in
      ap (λ (t : List ℕ). t ++ q.front) a ∙ ap (λ (t : List ℕ). frame.spell content ++ t) b;
}

parts_by : (n : ℕ) (bytes : List ℕ) (r : First) → first bytes ≡ r → ((x : List ℕ × List ℕ) → first bytes ≡ Ok x → Parts x.1 (at_most n x.1)) → Parts bytes (at_most (suc n) bytes)
parts_by n bytes (Err f) e more = subst (Parts bytes) (sym (stops_at (suc n) bytes f e)) (no_parts bytes f e)
parts_by n bytes (Ok x) e more =
    subst (Parts bytes) (sym (goes_on n bytes x e)) (more_parts bytes x.0 x.1 (at_most n x.1) (fronted bytes x e) (more x e))

parts_at : (n : ℕ) (bytes : List ℕ) → length bytes ≤ n → Parts bytes (at_most n bytes)
parts_at zero bytes le =
    let e : first bytes ≡ Err Short = first_short bytes (omega arith) in
    subst (Parts bytes) (sym (stops_at zero bytes Short e)) (no_parts bytes Short e)
parts_at (suc n) bytes le = parts_by n bytes (first bytes) refl (λ x e. let less = shorter bytes x e in parts_at n x.1 (omega arith))

pub parts_of : (bytes : List ℕ) → Parts bytes (stream bytes)
parts_of bytes = parts_at (length bytes) bytes (omega arith)

-- ---- one frame more, and more bytes

pub first_then : (bytes : List ℕ) (x : List ℕ × List ℕ) → first bytes ≡ Ok x → stream bytes ≡ behind (x.0 ∷ []) (stream x.1)
first_then bytes x e =
    let p = fronted bytes x e in
    ap stream p.parts ∙ (passes_frame p.front x.0 p.is_front).over x.1

pub first_none : (bytes : List ℕ) (f : FrameFault) → first bytes ≡ Err f → stream bytes ≡ record { frames = []; rest = bytes }
first_none bytes f e = stops_at (length bytes) bytes f e

-- a faulty rest is a matter of the rest
pub faulty_so : (a b : List ℕ) → (stream a).rest ≡ (stream b).rest → is_faulty a ≡ is_faulty b
unfolding is_faulty
faulty_so a b e = ap (λ (rest : List ℕ). is_faulty_rest (first rest)) e

pub faulty_none : (bytes : List ℕ) (f : FrameFault) → first bytes ≡ Err f → is_faulty bytes ≡ is_faulty_rest (failed f)
unfolding is_faulty
faulty_none bytes f e = ap (λ (s : Split). is_faulty_rest (first s.rest)) (first_none bytes f e) ∙ ap is_faulty_rest e

pub stream_more : (bytes more : List ℕ) → stream (bytes ++ more) ≡ behind (stream bytes).frames (stream ((stream bytes).rest ++ more))
stream_more bytes more =
    let p = parts_of bytes in
    ap stream (ap (λ (t : List ℕ). t ++ more) p.parts ∙ append_assoc p.front (stream bytes).rest more) ∙ p.passes.over ((stream bytes).rest ++ more)

pub at_rest : (bytes : List ℕ) → drop (length bytes - length (stream bytes).rest) bytes ≡ (stream bytes).rest
at_rest bytes = let p = parts_of bytes in sym (end_is bytes p.front (stream bytes).rest p.parts).1

-- ---- the only splitting

err_of : (r : First) → IsErr r → (f : FrameFault) × (r ≡ Err f)
err_of (Ok x) h = absurd cc
err_of (Err f) h = (f, refl)

pub stays : (rest : List ℕ) → IsErr (first rest) → stream rest ≡ record { frames = []; rest = rest }
stays rest h = let f = err_of (first rest) h in stops_at (length rest) rest f.0 f.1

pub is_split : (bytes : List ℕ) → IsBytes bytes → Splits bytes (stream bytes)
is_split bytes fits =
    let p = parts_of bytes in
    record { parts = p.parts ∙ ap (λ (t : List ℕ). t ++ (stream bytes).rest) (p.spelled fits); sizes = p.sizes; no_more = p.no_more }

pub is_only : (bytes : List ℕ) (s : Split) → Splits bytes s → s ≡ stream bytes
is_only bytes s p =
    let e : stream bytes ≡ behind s.frames (record { frames = []; rest = s.rest }) =
    ap stream p.parts ∙ (passes_spelled s.frames p.sizes).over s.rest ∙ ap (behind s.frames) (stays s.rest p.no_more) in
    sym (e ∙ ap (λ (frames : List (List ℕ)). record { frames = frames; rest = s.rest }) (append-nil s.frames))
