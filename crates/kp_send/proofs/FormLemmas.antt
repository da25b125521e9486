-- Where the first delimiter of a line stands.
use Rattle.std.proofs.Common.{◌≡◌, ◌≢◌, ℕ, ◌+◌, List, ◌++◌, length, get_or, take, drop, ap, sym, ◌∙◌, append_assoc, length-append, inl, inr, arith}
use Rattle.std.proofs.lemmas.Bool.{cases_lt}
use Rattle.std.proofs.lemmas.List.{get_or-append-add, get_or_append_left, length-take-le, take-append-drop}
use Rattle.memchr.specs.Find.{NoneBefore, Nowhere, OccursAt}
use Rattle.memchr.proofs.lemmas.MatchLemmas.{OccursAt-split}
use Rattle.kp_send.specs.Form.{IsFirstCut}

module _ (delimiter line : List ℕ) where
  -- where the delimiter is written, it occurs
  occurs : (front behind : List ℕ) → line ≡ front ++ delimiter ++ behind → OccursAt line delimiter (length front)
  occurs front behind is = record {
    fits = omega (arith, ap length is, length-append (front ++ delimiter) behind, length-append front delimiter);
    reads = λ j within. ap (λ (xs : List ℕ). get_or xs (length front + j) 0) (is ∙ append_assoc front delimiter behind)
        ∙ get_or-append-add front (delimiter ++ behind) j 0 ∙ get_or_append_left delimiter behind 0 j within;
  }

  -- where it occurs, it can be written
  written : (k : ℕ) → OccursAt line delimiter k → line ≡ take k line ++ delimiter ++ drop (k + length delimiter) line
  written k there =
      let behind = drop (k + length delimiter) line in
      sym (take-append-drop k line) ∙ ap (λ (xs : List ℕ). take k line ++ xs) (OccursAt-split line delimiter k there)
      ∙ sym (append_assoc (take k line) delimiter behind)

  pub first_cut : (k : ℕ) → NoneBefore (OccursAt line delimiter) 0 (length line + 1) k → OccursAt line delimiter k
      → IsFirstCut delimiter line (take k line) (drop (k + length delimiter) line)
  first_cut k before there =
      let fits = there.fits in
      let len = length-take-le k line (omega arith) in
      record {
        parts = written k there;
        first = λ front behind is.
            elim (cases_lt (length front) k) [
              | inl sooner ↦ absurd (before.before (length front) (omega arith) sooner (occurs front behind is))
              | inr later ↦ omega (arith, len, later)
            ];
      }

  pub no_cut : Nowhere (OccursAt line delimiter) 0 (length line + 1) → (front behind : List ℕ) → line ≢ front ++ delimiter ++ behind
  no_cut none front behind is =
      let there = occurs front behind is in
      let fits = there.fits in
      none (length front) (omega arith) (omega (arith, fits)) there
