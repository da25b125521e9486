-- What a splitter's fields say, from one call to the next.
use Rattle.std.proofs.Common.{◌≡◌, ℕ, ◌+◌, ◌-◌, ◌≤◌, true, false, List, [], ◌∷◌, ◌++◌, length, take, drop, Ok, Err, refl, sym, ap, subst, ◌∙◌, arith}
use Rattle.std.specs.Prelude.{Option, Result, OnOk}
use Rattle.std.specs.Result.{IsErrAnd}
use Rattle.std.specs.Global.{Vec}
use Rattle.std.proofs.lemmas.Result.{err_from_is_err_and}
use Rattle.std.proofs.lemmas.List.{length-append, length-drop, drop_at, drop-drop, drop-take, drop-append-le, append_cancel_left, take_rest, nil_from_length, length-take, append_assoc}
use Rattle.kp_frames.specs.declared.fault.FrameFault.{FrameFault}
use Rattle.kp_frames.specs.declared.fault.FrameFault.TheVariants.{OutOfMemory}
use Rattle.kp_frames.specs.declared.splitter.Tail.{Tail}
use Rattle.kp_frames.specs.declared.splitter.Tail.TheVariants.{Open, Stopped}
use Rattle.kp_frames.specs.Stream.{Split, first, stream, is_faulty, kept}
use Rattle.kp_frames.specs.Life.{Feeds, Next}
use Rattle.kp_frames.specs.Held.{is_stopped, IsHeld, IsInOrder, IsDropped}
use Rattle.kp_frames.proofs.FirstLemmas.{fronted, front_len}
use Rattle.kp_frames.proofs.StreamLemmas.{passes_frame, first_then, first_none, stream_more, faulty_so, at_rest}
use Rattle.kp_frames.proofs.KeptLemmas.{rest_shorter, kept_behind, kept_open, kept_none, none_faulty, kept_kept, keeps, faulty_behind, stops_of, stopped}

pub held_none : IsInOrder [] 0 0 Open
held_none = record {
  held = record {
    given_before = omega arith;
    whole_before = omega arith;
    rest = none_rest;
    stops = sym none_faulty;
    kept = kept_none;
  };
  few_given = omega arith;
}
  where
    none_rest : (stream []).rest ≡ []
    none_rest =
        let n : length (stream []).rest ≡ 0 = omega (arith, rest_shorter []) in
        nil_from_length (stream []).rest n

-- what holds of the fields holds of them once bytes that were given are dropped
pub dropped : (bytes left : List ℕ) (given whole given_left whole_left : ℕ) (tail : Tail) → IsHeld bytes given whole tail
    → IsDropped bytes given whole left given_left whole_left → IsInOrder left given_left whole_left tail
dropped bytes left given whole given_left whole_left tail p d = record {
  held = record {
    given_before = d.given_before;
    whole_before = d.whole_before;
    rest = ap (λ (t : List ℕ). (stream t).rest) d.waiting ∙ p.rest ∙ sym d.rest;
    stops = p.stops ∙ ap is_faulty (sym d.waiting);
    kept = ap kept d.waiting ∙ p.kept ∙ sym d.waiting;
  };
  few_given = d.few_given;
}

-- more waits once a piece is behind it
pub still_few : (held piece all : List ℕ) (given : ℕ) → drop given all ≡ held ++ piece → given ≤ length held → given ≤ length (drop given all)
still_few held piece all given view few = omega (arith, ap length view ∙ length-append held piece)

-- ---- a piece is fed

-- a slice to the end
pub from_here : (slice items : List ℕ) (at : ℕ) → slice ≡ items → take (length slice - at) (drop at slice) ≡ drop at items
from_here slice items at e = take_rest slice at ∙ ap (drop at) e

-- what the fields say once a piece stands behind the bytes: `n` is the length of the rest
pub record Grown (held piece all : List ℕ) (given len n : ℕ) (tail : Tail) : Type 0 where
  pub view : drop given all ≡ held ++ piece
  pub all_len : len ≡ length all
  pub fits : n ≤ len
  pub given_before : given ≤ len - n
  pub rest : (stream (drop given all)).rest ≡ drop (len - n) all
  pub rest_len : length (stream (drop given all)).rest ≡ n
  pub stops : is_stopped tail ≡ is_faulty (drop given all)

pub grown : (bytes piece held all slice : List ℕ) (given whole len n : ℕ) (old tail : Tail) → IsHeld bytes given whole old → drop given bytes ≡ held
    → all ≡ bytes ++ piece → slice ≡ all → len ≡ length slice
    → n ≡ length (stream (take (length slice - whole) (drop whole slice))).rest → is_stopped tail ≡ is_faulty (take (length slice - whole) (drop whole slice))
    → Grown held piece all given len n tail
grown bytes piece held all slice given whole len n old tail p view_is e same_slice slice_len rest_len stops =
    let before : given ≤ length bytes = omega (arith, p.given_before, p.whole_before) in
    let longer : length all ≡ length bytes + length piece = ap length e ∙ length-append bytes piece in
    let all_len : len ≡ length all = slice_len ∙ ap length same_slice in
    let here = from_here slice all whole same_slice in
    let n_is : n ≡ length (stream (drop whole all)).rest = rest_len ∙ ap (λ (t : List ℕ). length (stream t).rest) here in
    let view : drop given all ≡ drop given bytes ++ piece = ap (drop given) e ∙ drop-append-le given bytes piece before in
    let from : (stream (drop given bytes)).rest ++ piece ≡ drop whole all =
    ap (λ (t : List ℕ). t ++ piece) p.rest ∙ sym (drop-append-le whole bytes piece p.whole_before) ∙ ap (drop whole) (sym e) in
    let same : (stream (drop given all)).rest ≡ (stream (drop whole all)).rest =
    ap (λ (t : List ℕ). (stream t).rest) view ∙ ap (λ (s : Split). s.rest) (stream_more (drop given bytes) piece)
    ∙ ap (λ (t : List ℕ). (stream t).rest) from in
    let less = rest_shorter (drop whole all) in
    let left = length-drop whole all in
    let ahead = p.whole_before in
    let ordered = p.given_before in
    let at : whole + (length (drop whole all) - length (stream (drop whole all)).rest) ≡ len - n = omega arith in
    record {
      view = view ∙ ap (λ (t : List ℕ). t ++ piece) view_is;
      all_len = all_len;
      fits = omega arith;
      given_before = omega arith;
      rest = same ∙ sym (at_rest (drop whole all)) ∙ drop-drop (length (drop whole all) - length (stream (drop whole all)).rest) whole all
          ∙ ap (λ (k : ℕ). drop k all) at;
      rest_len = ap length same ∙ sym n_is;
      stops = stops ∙ ap is_faulty here ∙ sym (faulty_so (drop given all) (drop whole all) same);
    }

-- what is answered, and what is held then
pub record Fed (held piece bytes : List ℕ) (given whole : ℕ) (tail : Tail) : Type 0 where
  pub faulty : is_faulty (held ++ piece) ≡ is_stopped tail
  pub view : drop given bytes ≡ kept (held ++ piece)
  pub invariant : IsHeld bytes given whole tail

pub fed_open : (held piece all : List ℕ) (given len n : ℕ) (tail : Tail) → Grown held piece all given len n tail → tail ≡ Open → Fed held piece all given (len - n) tail
fed_open held piece all given len n tail g is =
    let sound : is_faulty (drop given all) ≡ false = sym g.stops ∙ ap is_stopped is in
    let whole = kept_open (drop given all) sound in
    record {
      faulty = ap is_faulty (sym g.view) ∙ sym g.stops;
      view = sym whole ∙ ap kept g.view;
      invariant = record {
        given_before = g.given_before;
        whole_before = omega (arith, g.all_len);
        rest = g.rest;
        stops = g.stops;
        kept = whole;
      };
    }

-- the bytes up to the size of no frame are those that are kept
cut_kept : (held piece all : List ℕ) (given len n : ℕ) (tail : Tail) → Grown held piece all given len n tail → tail ≡ Stopped
    → drop given (take (len - n + 4) all) ≡ kept (drop given all)
unfolding kept
cut_kept held piece all given len n tail g is =
    let faulty : is_faulty (drop given all) ≡ true = sym g.stops ∙ ap is_stopped is in
    let left = length-drop given all in
    let m = length (drop given all) - length (stream (drop given all)).rest + 4 in
    let same : len - n + 4 ≡ given + m = omega (arith, g.rest_len, g.given_before, g.fits, g.all_len) in
    ap (λ (k : ℕ). drop given (take k all)) same ∙ drop-take given m all ∙ sym (rw faulty refl)

pub fed_stopped : (held piece all cut : List ℕ) (given len n : ℕ) (tail : Tail) → Grown held piece all given len n tail → tail ≡ Stopped
    → cut ≡ take (len - n + 4) all → Fed held piece cut given (len - n) tail
fed_stopped held piece all cut given len n tail g is e =
    let now = drop given all in
    let to = len - n in
    let same : drop given cut ≡ kept now = ap (drop given) e ∙ cut_kept held piece all given len n tail g is in
    let faulty : is_faulty now ≡ true = sym g.stops ∙ ap is_stopped is in
    let k = keeps now in
    let cut_len : length cut ≡ length (take (to + 4) all) = ap length e in
    record {
      faulty = ap is_faulty (sym g.view) ∙ sym g.stops;
      view = same ∙ ap kept g.view;
      invariant = record {
        given_before = g.given_before;
        whole_before = omega (arith, length-take (to + 4) all, g.all_len);
        rest = ap (λ (t : List ℕ). (stream t).rest) same ∙ k.rest ∙ rw faulty (ap (take 4) g.rest) ∙ sym (drop-take to 4 all) ∙ ap (drop to) (sym e);
        stops = g.stops ∙ sym k.faulty ∙ ap is_faulty (sym same);
        kept = ap kept same ∙ kept_kept now ∙ sym same;
      };
    }

-- a piece that was taken is behind what was held
pub fed_whole : (held piece : List ℕ) (r : Result (Unit {0}) FrameFault) (after : List ℕ) → Feeds held piece r after → OnOk r (after ≡ held ++ piece)
fed_whole held piece (Ok done) after p = p.1 ∙ kept_open (held ++ piece) p.0
fed_whole held piece (Err fault) after p = tt

-- nothing is put behind the size of no frame
pub kept_stopped : (held piece : List ℕ) → kept held ≡ held → is_faulty held ≡ true → (is_faulty (held ++ piece) ≡ true) × (held ≡ kept (held ++ piece))
kept_stopped held piece keeps_all faulty =
    let p = stops_of held faulty in
    let frames = (stream held).frames in
    let all = stopped held frames p (p.rest ++ piece) in
    let parts : held ++ piece ≡ (p.front ++ p.size) ++ (p.rest ++ piece) = ap (λ (t : List ℕ). t ++ piece) p.parts ∙ append_assoc (p.front ++ p.size) p.rest piece in
    let now : kept held ≡ p.front ++ p.size = ap kept p.parts ∙ (stopped held frames p p.rest).keeps in
    (ap is_faulty parts ∙ all.faulty, sym keeps_all ∙ now ∙ sym all.keeps ∙ ap kept (sym parts))

-- ---- a frame is given

-- what the fields say once the frame at the front is given
pub record Given (bytes content rest : List ℕ) (given whole : ℕ) (tail : Tail) : Type 0 where
  pub fits : given + (4 + length content) ≤ length bytes
  pub view : drop (given + (4 + length content)) bytes ≡ rest
  pub held : IsHeld bytes (given + (4 + length content)) whole tail

pub gives_frame : (bytes content rest : List ℕ) (given whole : ℕ) (tail : Tail) → IsHeld bytes given whole tail → first (drop given bytes) ≡ Ok (content, rest) → Given bytes content rest given whole tail
gives_frame bytes content rest given whole tail p e =
    let held = drop given bytes in
    let f = fronted held (content, rest) e in
    let front = passes_frame f.front content f.is_front in
    let then = first_then held (content, rest) e in
    let size = front_len f.front content f.is_front in
    let whole_len : length held ≡ length f.front + length rest = ap length f.parts ∙ length-append f.front rest in
    let held_len = length-drop given bytes in
    let view : drop (given + (4 + length content)) bytes ≡ rest =
    sym (drop-drop (4 + length content) given bytes) ∙ ap (drop (4 + length content)) f.parts ∙ drop_at f.front rest (4 + length content) size in
    let less = rest_shorter rest in
    let same : (stream rest).rest ≡ drop whole bytes = sym (ap (λ (s : Split). s.rest) then) ∙ p.rest in
    let same_len : length (stream rest).rest ≡ length bytes - whole = ap length same ∙ length-drop whole bytes in
    let within = p.whole_before in
    record {
      fits = omega arith;
      view = view;
      held = record {
        given_before = omega arith;
        whole_before = p.whole_before;
        rest = ap (λ (t : List ℕ). (stream t).rest) view ∙ same;
        stops = p.stops ∙ ap is_faulty f.parts ∙ faulty_behind f.front (content ∷ []) rest front ∙ ap is_faulty (sym view);
        kept = ap kept view
            ∙ append_cancel_left f.front (kept rest) rest (sym (kept_behind f.front (content ∷ []) rest front) ∙ ap kept (sym f.parts) ∙ p.kept ∙ f.parts)
            ∙ sym view;
      };
    }

-- all that is held is in no whole frame: there is none
pub none_whole : (held : List ℕ) → (stream held).rest ≡ held → (stream held).frames ≡ []
none_whole held all = whole_or_not (first held) refl
  where
    whole_or_not : (r : Result (List ℕ × List ℕ) FrameFault) → first held ≡ r → (stream held).frames ≡ []
    whole_or_not (Err f) e = ap (λ (s : Split). s.frames) (first_none held f e)
    whole_or_not (Ok x) e =
        let f = fronted held x e in
        let size = front_len f.front x.0 f.is_front in
        let sum : length held ≡ length f.front + length x.1 = ap length f.parts ∙ length-append f.front x.1 in
        let less = rest_shorter x.1 in
        let same : length (stream x.1).rest ≡ length held = ap length (sym (ap (λ (s : Split). s.rest) (first_then held x e)) ∙ all) in
        absurd (omega arith)

-- no memory for the content
pub refused : (held : List ℕ) (content : List ℕ) (rest : List ℕ) (r : Result (Option (Vec ℕ)) FrameFault) → first held ≡ Ok (content, rest) → IsErrAnd r (λ e. e ≡ OutOfMemory) → Next held r held
refused held content rest r e is_memory =
    let f = err_from_is_err_and r is_memory in
    let some : (stream held).frames ≡ [] → ⊥ = λ (none : (stream held).frames ≡ []). no_list (stream rest).frames (sym none ∙ ap (λ (s : Split). s.frames) (first_then held (content, rest) e)) in
    let memory : r ≡ Err OutOfMemory = f.1 ∙ ap (λ (x : FrameFault). Err x) f.2 in
    subst (λ (x : Result (Option (Vec ℕ)) FrameFault). Next held x held) (sym memory) (some, refl)
  where
    no_list : (frames : List (List ℕ)) → [] ≡ content ∷ frames → ⊥
    no_list frames same = cc
