-- The runs that an audit has are those of the items: as many, in order, and as long as can be.
use Rattle.std.proofs.Common.{◌≡◌, ℕ, zero, suc, ◌+◌, ◌<◌, Bool, true, false, List, [], ◌∷◌, ◌++◌, map, refl, sym, ap, ◌∙◌, arith, append_assoc}
use Rattle.std.specs.Prelude.{flat_map, if◌then◌else◌, ◌==◌}
use Rattle.std.specs.List.{AllByRecursion, range_with_len}
use Rattle.std.proofs.lemmas.Bool.{and_parts, eqb-true}
use Rattle.std.proofs.lemmas.List.{append-nil, map-append}
use Rattle.kp_accum.specs.declared.item.Item.{Item}
use Rattle.kp_rules.specs.declared.run.Run.{Run}
use Rattle.kp_rules.specs.HandingOver.{run_of, goes_on, with_audited, audited}
use Rattle.kp_world.specs.Handed.{named_by, name_of, AreApart, AreRunsOf}

-- one number more
range_more : (a n : ℕ) → range_with_len a (n + 1) ≡ range_with_len a n ++ (a + n) ∷ []
range_more a zero = let same : a + 0 ≡ a = omega arith in ap (λ (m : ℕ). m ∷ []) (sym same)
range_more a (suc n) =
    let more : suc n + 1 ≡ suc (n + 1) = omega arith in
    let last : a + 1 + n ≡ a + suc n = omega arith in
    ap (range_with_len a) more ∙ ap (λ (ns : List ℕ). a ∷ ns) (range_more (a + 1) n ∙ ap (λ (m : ℕ). range_with_len (a + 1) n ++ m ∷ []) last)

-- the run with one item more
abbrev longer : Run → Run
longer r = record r { count = r.count + 1 }

named_longer : (i : Item) (r : Run) → goes_on i r ≡ true → named_by (longer r) ≡ named_by r ++ name_of i ∷ []
named_longer i r e =
    let parts = and_parts (r.sender == i.sender) (r.first + r.count == i.number) e in
    let sender : r.sender ≡ i.sender = eqb-true r.sender i.sender parts.0 in
    let number : r.first + r.count ≡ i.number = eqb-true (r.first + r.count) i.number parts.1 in
    ap (map (λ (n : ℕ). (r.sender, n))) (range_more r.first r.count)
    ∙ map-append (λ (n : ℕ). (r.sender, n)) (range_with_len r.first r.count) ((r.first + r.count) ∷ [])
    ∙ ap (λ (n : ℕ). named_by r ++ (r.sender, n) ∷ []) number
    ∙ ap (λ (s : ℕ). named_by r ++ (s, i.number) ∷ []) sender

named_with : (i : Item) (runs : List Run) → flat_map named_by (with_audited i runs) ≡ flat_map named_by runs ++ name_of i ∷ []
unfolding with_audited
named_with i [] = refl
named_with i (r ∷ []) = at_test (goes_on i r) refl
  where
    at_test : (b : Bool) → goes_on i r ≡ b → flat_map named_by (if b then longer r ∷ [] else r ∷ run_of i ∷ []) ≡ (named_by r ++ []) ++ name_of i ∷ []
    at_test true is = append-nil (named_by (longer r)) ∙ named_longer i r is ∙ ap (λ ns. ns ++ name_of i ∷ []) (sym (append-nil (named_by r)))
    at_test false is = ap (λ ns. ns ++ name_of i ∷ []) (sym (append-nil (named_by r)))
named_with i (r ∷ r' ∷ rs) = ap (λ ns. named_by r ++ ns) (named_with i (r' ∷ rs)) ∙ sym (append_assoc (named_by r) (flat_map named_by (r' ∷ rs)) (name_of i ∷ []))

some_with : (i : Item) (runs : List Run) → AllByRecursion (λ (r : Run). 0 < r.count) runs → AllByRecursion (λ (r : Run). 0 < r.count) (with_audited i runs)
unfolding with_audited
some_with i [] h = (omega arith, tt)
some_with i (r ∷ []) h = at_test (goes_on i r)
  where
    at_test : (b : Bool) → AllByRecursion (λ (x : Run). 0 < x.count) (if b then longer r ∷ [] else r ∷ run_of i ∷ [])
    at_test true = (omega (arith, h.0), tt)
    at_test false = (h.0, (omega arith, tt))
some_with i (r ∷ r' ∷ rs) h = (h.0, some_with i (r' ∷ rs) h.1)

apart_with : (i : Item) (runs : List Run) → AreApart runs → AreApart (with_audited i runs)
unfolding with_audited
apart_with i [] h = tt
apart_with i (r ∷ []) h = at_test (goes_on i r) refl
  where
    at_test : (b : Bool) → goes_on i r ≡ b → AreApart (if b then longer r ∷ [] else r ∷ run_of i ∷ [])
    at_test true is = tt
    at_test false is = (is, tt)
apart_with i (r ∷ r' ∷ []) h = at_test (goes_on i r') refl
  where
    at_test : (b : Bool) → goes_on i r' ≡ b → AreApart (r ∷ (if b then longer r' ∷ [] else r' ∷ run_of i ∷ []))
    at_test true is = (h.0, tt)
    at_test false is = (h.0, (is, tt))
apart_with i (r ∷ r' ∷ r'' ∷ rs) h = (h.0, apart_with i (r' ∷ r'' ∷ rs) h.1)

abbrev Many : List Run → Type 0
Many runs = AllByRecursion (λ (r : Run). 0 < r.count) runs × AreApart runs

named_all : (runs : List Run) (items : List Item) → flat_map named_by (audited runs items) ≡ flat_map named_by runs ++ map name_of items
unfolding audited
named_all runs [] = sym (append-nil (flat_map named_by runs))
named_all runs (i ∷ items) =
    named_all (with_audited i runs) items ∙ ap (λ ns. ns ++ map name_of items) (named_with i runs) ∙ append_assoc (flat_map named_by runs) (name_of i ∷ []) (map name_of items)

many_all : (runs : List Run) (items : List Item) → Many runs → Many (audited runs items)
unfolding audited
many_all runs [] h = h
many_all runs (i ∷ items) h = many_all (with_audited i runs) items (some_with i runs h.0, apart_with i runs h.1)

pub are_runs : (items : List Item) → AreRunsOf items (audited [] items)
are_runs items = let many = many_all [] items (tt, tt) in record { named = named_all [] items; some = many.0; apart = many.1 }
