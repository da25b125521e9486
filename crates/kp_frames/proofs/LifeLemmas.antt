-- Frames that are given while pieces are fed.
use Rattle.std.proofs.Common.{◌≡◌, ℕ, ◌+◌, ◌-◌, ◌≤◌, List, [], ◌∷◌, ◌++◌, length, Ok, sym, ap, subst, ◌∙◌, inl, inr, append_assoc}
use Rattle.std.specs.List.{flat_map, AllByRecursion}
use Rattle.std.proofs.lemmas.List.{append-nil}
use Rattle.std.proofs.lemmas.List.Concat.{flat_map-append}
use Rattle.kp_wire.proofs.ReadLemmas.{IsBytes, IsBytes-left, IsBytes-right, IsBytes-take}
use Rattle.kp_wire.proofs.ListLemmas.{all_append}
use Rattle.std.proofs.lemmas.Bool.{cases_Bool}
use Rattle.kp_frames.specs.declared.frame.TheConstants.{CONTENT_LIMIT}
use Rattle.kp_frames.specs.Life.{behind, Event, fed, gave, Lives, Lived, taken, given}
use Rattle.kp_frames.specs.Stream.{frame, first, Split, stream, is_faulty, kept}
use Rattle.kp_frames.proofs.FirstLemmas.{fronted, front_spelled}
use Rattle.kp_frames.proofs.StreamLemmas.{passes_spelled}
use Rattle.kp_frames.proofs.KeptLemmas.{faulty_behind, kept_behind, kept_again, keeps, kept_none}

IsBytes-kept : (bytes : List ℕ) → IsBytes bytes → IsBytes (kept bytes)
unfolding kept
IsBytes-kept bytes fits =
    elim (cases_Bool (is_faulty bytes)) [
      | inl e ↦ rw e (IsBytes-take (length bytes - length (stream bytes).rest + 4) bytes fits)
      | inr e ↦ rw e fits
    ]

-- What was taken is kept as the frames that were given, and behind them what is held.
pub record Has (all : List ℕ) (frames : List (List ℕ)) (held : List ℕ) : Type 0 where
  pub parts : kept all ≡ flat_map frame.spell frames ++ held
  pub sizes : AllByRecursion (λ content. length content ≤ CONTENT_LIMIT) frames

has_more : (all : List ℕ) (frames : List (List ℕ)) (held piece : List ℕ) → Has all frames held → Has (all ++ piece) frames (kept (held ++ piece))
has_more all frames held piece p =
    let before = flat_map frame.spell frames in
    record {
      parts = sym (kept_again all piece) ∙ ap (λ (t : List ℕ). kept (t ++ piece)) p.parts ∙ ap kept (append_assoc before held piece)
          ∙ kept_behind before frames (held ++ piece) (passes_spelled frames p.sizes);
      sizes = p.sizes;
    }

has_less : (all : List ℕ) (frames : List (List ℕ)) (held content behind : List ℕ) → IsBytes all → first held ≡ Ok (content, behind) → Has all frames held → Has all (frames ++ content ∷ []) behind
has_less all frames held content behind fits e p =
    let before = flat_map frame.spell frames in
    let f = fronted held (content, behind) e in
    let small = IsBytes-right before held (subst IsBytes p.parts (IsBytes-kept all fits)) in
    let same = front_spelled f.front content (IsBytes-left f.front behind (subst IsBytes f.parts small)) f.is_front in
    let more : flat_map frame.spell (frames ++ content ∷ []) ≡ before ++ frame.spell content =
    flat_map-append frame.spell frames (content ∷ []) ∙ ap (λ (t : List ℕ). before ++ t) (append-nil (frame.spell content)) in
    record {
      parts = p.parts ∙ ap (λ (t : List ℕ). before ++ t) (f.parts ∙ ap (λ (t : List ℕ). t ++ behind) same)
          ∙ sym (append_assoc before (frame.spell content) behind) ∙ ap (λ (t : List ℕ). t ++ behind) (sym more);
      sizes = all_append (λ c. length c ≤ CONTENT_LIMIT) frames (content ∷ []) p.sizes (f.is_front.small, tt);
    }

has_after : (events : List Event) (all : List ℕ) (frames : List (List ℕ)) (held after : List ℕ) → IsBytes (all ++ taken events) → Has all frames held → Lives held events after → Has (all ++ taken events) (frames ++ given events) after
has_after [] all frames held after fits p e =
    subst (λ (h : List ℕ). Has (all ++ []) (frames ++ []) h) (sym e)
    (subst (λ (a : List ℕ). Has a (frames ++ []) held) (sym (append-nil all))
    (subst (λ (f : List (List ℕ)). Has all f held) (sym (append-nil frames)) p))
has_after (fed piece ∷ events) all frames held after fits p e =
    let same = append_assoc all piece (taken events) in
    subst (λ (a : List ℕ). Has a (frames ++ given events) after) same
    (has_after events (all ++ piece) frames (kept (held ++ piece)) after (subst IsBytes (sym same) fits) (has_more all frames held piece p) e)
has_after (gave content ∷ events) all frames held after fits p e =
    let less = has_less all frames held content e.0 (IsBytes-left all (taken events) fits) e.1 p in
    subst (λ (f : List (List ℕ)). Has (all ++ taken events) f after) (append_assoc frames (content ∷ []) (given events))
    (has_after events all (frames ++ content ∷ []) e.0 after fits less e.2)

pub lived : (events : List Event) (after : List ℕ) → IsBytes (taken events) → Lives [] events after → Lived events after
lived events after fits e =
    let none : Has [] [] [] = record { parts = kept_none; sizes = tt } in
    let p = has_after events [] [] [] after fits none e in
    let all = keeps (taken events) in
    let before = passes_spelled (given events) p.sizes in
    record {
      bytes = p.parts;
      frames = sym all.frames ∙ ap (λ (t : List ℕ). (stream t).frames) p.parts ∙ ap (λ (s : Split). s.frames) (before.over after);
      faulty = sym all.faulty ∙ ap is_faulty p.parts ∙ faulty_behind (flat_map frame.spell (given events)) (given events) after before;
    }
