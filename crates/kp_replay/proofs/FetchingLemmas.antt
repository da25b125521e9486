-- Reports that are fetched sender by sender.
use Rattle.std.proofs.Common.{◌≡◌, ℕ, zero, suc, ◌+◌, ◌<◌, List, [], ◌∷◌, ◌++◌, length, get_or, set, take, drop, slice_get, map, Some, refl, sym, ap, ◌∙◌, append-nil, append_assoc, add-one, arith}
use Rattle.std.proofs.lemmas.List.{length-set, get_or-set_same}
use Rattle.kp_rules.specs.Records.{Core}
use Rattle.kp_rules.specs.declared.outcome.Report.{Report}
use Rattle.kp_replay.specs.Fetching.{by_sender, fetched_of}

-- the first so many have none
abbrev pub emptied : ℕ → List (List Report) → List (List Report)
emptied zero rs = rs
emptied (suc k) [] = []
emptied (suc k) (r ∷ rs) = [] ∷ emptied k rs

pub emptied-more : (k : ℕ) (rs : List (List Report)) → k < length rs → set (emptied k rs) k [] ≡ emptied (suc k) rs
emptied-more zero [] inside = absurd (omega arith)
emptied-more zero (r ∷ rs) inside = refl
emptied-more (suc k) [] inside = absurd (omega arith)
emptied-more (suc k) (r ∷ rs) inside = ap (λ (es : List (List Report)). [] ∷ es) (emptied-more k rs (omega arith))

pub emptied-at : (k : ℕ) (rs : List (List Report)) → k < length rs → get_or (emptied k rs) k [] ≡ get_or rs k []
emptied-at zero rs inside = refl
emptied-at (suc k) [] inside = absurd (omega arith)
emptied-at (suc k) (r ∷ rs) inside = emptied-at k rs (omega arith)

pub emptied-all : (rs : List (List Report)) → emptied (length rs) rs ≡ map (λ r. []) rs
emptied-all [] = refl
emptied-all (r ∷ rs) = ap (λ (es : List (List Report)). [] ∷ es) (emptied-all rs)

pub length-emptied : (k : ℕ) (rs : List (List Report)) → length (emptied k rs) ≡ length rs
length-emptied zero rs = refl
length-emptied (suc k) [] = refl
length-emptied (suc k) (r ∷ rs) = ap suc (length-emptied k rs)

pub by_sender-more : (k : ℕ) (rs : List (List Report)) → k < length rs → by_sender (take (suc k) rs) ≡ by_sender (take k rs) ++ get_or rs k []
by_sender-more zero [] inside = absurd (omega arith)
by_sender-more zero (r ∷ rs) inside = append-nil r
by_sender-more (suc k) [] inside = absurd (omega arith)
by_sender-more (suc k) (r ∷ rs) inside =
    ap (λ (es : List Report). r ++ es) (by_sender-more k rs (omega arith)) ∙ sym (append_assoc r (by_sender (take k rs)) (get_or rs k []))

pub by_sender-all : (rs : List (List Report)) → by_sender (take (length rs) rs) ≡ by_sender rs
by_sender-all [] = refl
by_sender-all (r ∷ rs) = ap (λ (es : List Report). r ++ es) (by_sender-all rs)

-- ---- one report

twice-set : (i : ℕ) (xs : List (List Report)) (a b : List Report) → set (set xs i a) i b ≡ set xs i b
twice-set i [] a b = refl
twice-set zero (x ∷ xs) a b = refl
twice-set (suc i) (x ∷ xs) a b = ap (λ (ys : List (List Report)). x ∷ ys) (twice-set i xs a b)

first-is : (xs : List Report) (r : Report) → slice_get xs 0 ≡ Some r → xs ≡ r ∷ drop 1 xs
first-is [] r is = absurd cc
first-is (x ∷ xs) r is = let same : x ≡ r = cc in λ i. same i ∷ xs

pub record IsFetched (sender : ℕ) (s t : Core) (r : Report) : Type 0 where
  pub senders : length t.reports ≡ length s.reports
  pub others : fetched_of sender t ≡ fetched_of sender s
  pub first : get_or s.reports sender [] ≡ r ∷ get_or t.reports sender []

pub one-fetched : (sender : ℕ) (s t : Core) (r : Report) → sender < length s.reports → slice_get (get_or s.reports sender []) 0 ≡ Some r
    → t ≡ record s { reports = set s.reports sender (drop 1 (get_or s.reports sender [])) } → IsFetched sender s t r
one-fetched sender s t r there is step =
    let rest = drop 1 (get_or s.reports sender []) in
    let left : get_or t.reports sender [] ≡ rest = ap (λ (s : Core). get_or s.reports sender []) step ∙ get_or-set_same s.reports sender rest [] there in
    record {
      senders = ap (λ (s : Core). length s.reports) step ∙ length-set s.reports sender rest;
      others = ap (fetched_of sender) step ∙ (λ i. record s { reports = twice-set sender s.reports rest [] i });
      first = first-is (get_or s.reports sender []) r is ∙ ap (λ (rs : List Report). r ∷ rs) (sym left);
    }

-- the reports at hand, with those that wait
pub still-all : (old new waiting left all : List Report) (r : Report) → waiting ≡ r ∷ left → new ≡ old ++ r ∷ [] → old ++ waiting ≡ all → new ++ left ≡ all
still-all old new waiting left all r first pushed invariant =
    ap (λ (rs : List Report). rs ++ left) pushed ∙ append_assoc old (r ∷ []) left ∙ ap (λ (rs : List Report). old ++ rs) (sym first) ∙ invariant

pub one-emptied : (k : ℕ) (s l t : Core) → k < length s.reports → ◌≡◌ {A = Core} l (record s { reports = emptied k s.reports }) → t ≡ fetched_of k l → ◌≡◌ {A = Core} t (record s { reports = emptied (k + 1) s.reports })
one-emptied k s l t inside before step =
    step ∙ ap (fetched_of k) before ∙ (λ i. record s { reports = (emptied-more k s.reports inside ∙ ap (λ n. emptied n s.reports) (sym (add-one k))) i })

pub one-more : (k : ℕ) (s l : Core) (old new : List Report) → k < length s.reports → ◌≡◌ {A = Core} l (record s { reports = emptied k s.reports }) → old ≡ by_sender (take k s.reports) → new ≡ old ++ get_or l.reports k [] → new ≡ by_sender (take (k + 1) s.reports)
one-more k s l old new inside before had step =
    let there : get_or l.reports k [] ≡ get_or s.reports k [] = ap (λ (s : Core). get_or s.reports k []) before ∙ emptied-at k s.reports inside in
    step ∙ (λ i. had i ++ there i) ∙ sym (by_sender-more k s.reports inside) ∙ ap (λ n. by_sender (take n s.reports)) (sym (add-one k))

pub none-left : (k : ℕ) (s l : Core) → k ≡ length s.reports → ◌≡◌ {A = Core} l (record s { reports = emptied k s.reports }) → ◌≡◌ {A = Core} l (record s { reports = map (λ r. []) s.reports })
none-left k s l all before = before ∙ (λ i. record s { reports = (ap (λ n. emptied n s.reports) all ∙ emptied-all s.reports) i })
