-- Bytes split at a delimiter.
use Rattle.std.proofs.Common.{◌≡◌, ◌≢◌, ℕ, List, [], ◌∷◌, ◌++◌, refl, ap, ap₂, sym, ◌∙◌, append_assoc}
use Rattle.std.specs.Prelude.{All}
use Rattle.std.specs.List.{flat_map}
use Rattle.std.proofs.lemmas.List.Concat.{flat_map-append}
use Rattle.std.proofs.lemmas.List.Elements.{All-nil, All-head, All-tail, All-append}
use Rattle.kp_lines.specs.Split.{HasNone, SplitsAt}

abbrev head_of : ℕ → List ℕ → ℕ
head_of d [] = d
head_of d (x ∷ xs) = x

abbrev tail_of : List ℕ → List ℕ
tail_of [] = []
tail_of (x ∷ xs) = xs

module _ (d : ℕ) where
  abbrev ended : List ℕ → List ℕ
  ended line = line ++ d ∷ []

  -- nothing is split
  pub nothing_split : (rest : List ℕ) → HasNone d rest → SplitsAt d rest [] rest
  nothing_split rest none = record { spelled = refl; none_in_lines = All-nil (HasNone d); none_in_rest = none }

  -- more bytes behind what was left
  pub split_more : (bytes more rest last : List ℕ) (lines others : List (List ℕ)) → SplitsAt d bytes lines rest → SplitsAt d (rest ++ more) others last
      → SplitsAt d (bytes ++ more) (lines ++ others) last
  split_more bytes more rest last lines others first later =
      let front = flat_map ended lines in record {
        spelled = ap (λ (xs : List ℕ). xs ++ more) first.spelled ∙ append_assoc front rest more
            ∙ ap (λ (xs : List ℕ). front ++ xs) later.spelled ∙ sym (append_assoc front (flat_map ended others) last)
            ∙ ap (λ (xs : List ℕ). xs ++ last) (sym (flat_map-append ended lines others));
        none_in_lines = All-append (HasNone d) lines others first.none_in_lines later.none_in_lines;
        none_in_rest = later.none_in_rest;
      }

  -- ---- one way

  -- the first delimiter ends the first line
  first_line : (a b x y : List ℕ) → HasNone d a → HasNone d b → a ++ d ∷ x ≡ b ++ d ∷ y → (a ≡ b) × (x ≡ y)
  first_line [] [] x y none none' same = (refl, ap tail_of same)
  first_line [] (c ∷ b) x y none none' same = absurd (All-head (λ b. b ≢ d) c b none' (sym (ap (head_of d) same)))
  first_line (c ∷ a) [] x y none none' same = absurd (All-head (λ b. b ≢ d) c a none (ap (head_of d) same))
  first_line (c ∷ a) (e ∷ b) x y none none' same =
      let later = first_line a b x y (All-tail (λ b. b ≢ d) c a none) (All-tail (λ b. b ≢ d) e b none') (ap tail_of same) in
      (ap₂ (λ (z : ℕ) (zs : List ℕ). z ∷ zs) (ap (head_of d) same) later.0, later.1)

  -- a rest has no line in it
  no_line : (rest line behind : List ℕ) → HasNone d rest → rest ≡ line ++ d ∷ behind → ⊥
  no_line [] [] behind none same = cc
  no_line [] (c ∷ line) behind none same = cc
  no_line (b ∷ rest) [] behind none same = All-head (λ b. b ≢ d) b rest none (ap (head_of d) same)
  no_line (b ∷ rest) (c ∷ line) behind none same = no_line rest line behind (All-tail (λ b. b ≢ d) b rest none) (ap tail_of same)

  -- a line, and what stands behind it
  apart : (line behind rest : List ℕ) → ((line ++ d ∷ []) ++ behind) ++ rest ≡ line ++ d ∷ (behind ++ rest)
  apart line behind rest = append_assoc (line ++ d ∷ []) behind rest ∙ append_assoc line (d ∷ []) (behind ++ rest)

  one_way : (a b : List (List ℕ)) (x y : List ℕ) → All (HasNone d) a → All (HasNone d) b → HasNone d x → HasNone d y
      → flat_map ended a ++ x ≡ flat_map ended b ++ y → (a ≡ b) × (x ≡ y)
  one_way [] [] x y ones others none none' same = (refl, same)
  one_way [] (l ∷ b) x y ones others none none' same =
      absurd (no_line x l (flat_map ended b ++ y) none (same ∙ apart l (flat_map ended b) y))
  one_way (k ∷ a) [] x y ones others none none' same =
      absurd (no_line y k (flat_map ended a ++ x) none' (sym same ∙ apart k (flat_map ended a) x))
  one_way (k ∷ a) (l ∷ b) x y ones others none none' same =
      let first = first_line k l (flat_map ended a ++ x) (flat_map ended b ++ y) (All-head (HasNone d) k a ones) (All-head (HasNone d) l b others)
      (sym (apart k (flat_map ended a) x) ∙ same ∙ apart l (flat_map ended b) y) in
      let later = one_way a b x y (All-tail (HasNone d) k a ones) (All-tail (HasNone d) l b others) none none' first.1 in
      (ap₂ (λ (z : List ℕ) (zs : List (List ℕ)). z ∷ zs) first.0 later.0, later.1)

  pub split_one_way : (bytes : List ℕ) (a b : List (List ℕ)) (x y : List ℕ) → SplitsAt d bytes a x → SplitsAt d bytes b y → (a ≡ b) × (x ≡ y)
  split_one_way bytes a b x y s t =
      one_way a b x y s.none_in_lines t.none_in_lines s.none_in_rest t.none_in_rest (sym s.spelled ∙ t.spelled)
