-- Each step of the gate keeps its rule.
use Rattle.std.proofs.Common.{◌≡◌, ℕ, zero, suc, ◌+◌, ◌-◌, ◌*◌, ◌/◌, ◌%◌, ◌^◌, ◌<◌, ◌≤◌, ◌≢◌, ◌⊎◌, Bool, true, false, eqb, List, [], ◌∷◌, ◌++◌, get_or, set, cond, sym, refl, ap, ◌∙◌, subst, inl, inr, ⊎_elim, arith, length-set, get_or-set_same, eq-eqb, ne_eqb, ◌||◌, max}
use Rattle.std.specs.Prelude.{MatchBool}
use mathlib.Core.Logic.{dite}
use mathlib.Core.Option.{none, some, some-injective, some-ne-none}
use native.Mathlib.Decide.{ℕ_discrete}
use lib.ListN.{get_elem?}
use Rattle.std.specs.Int.Bits.{bit_or, or_step, or_zero_r}
use Rattle.std.proofs.lemmas.Bool.{eqb-true}
use Rattle.atomic_table.specs.Table.{step, keeps, stepped, Allows, Splits}
use Rattle.atomic_table.proofs.Lists.{at_set, at_snoc}
use Rattle.kp_lanes.specs.declared.gate.view.Stage.{Stage}
use Rattle.kp_lanes.specs.declared.gate.view.Stage.TheVariants.{Out, Trying, Inside}
use Rattle.kp_lanes.specs.declared.gate.view.View.{View}
use Rattle.kp_lanes.specs.Gate.{stage_entered, stage_inside, entered, inside, room, shutting, total, Fits, Gated, GateState, Keeps, newcomer, admitted, refused, outside, told_shut, looked, less_room, Sat, Entering, Leaving, Shutting, Looking, NobodyInside, OneShuts}

total_set : (f : View → ℕ) (views : List View) (id : ℕ) (v w : View) → get_elem? views id ≡ some v → total f (set views id w) + f v ≡ total f views + f w
total_set f [] id v w e = absurd (some-ne-none v (sym e))
total_set f (x ∷ xs) zero v w e = let is : f x ≡ f v = ap f (some-injective x v e) in omega arith
total_set f (x ∷ xs) (suc id) v w e = let r = total_set f xs id v w e in omega arith

total_snoc : (f : View → ℕ) (views : List View) (w : View) → total f (views ++ w ∷ []) ≡ total f views + f w
total_snoc f [] w = omega arith
total_snoc f (x ∷ xs) w = let r = total_snoc f xs w in omega arith

total_at_most : (f g : View → ℕ) (views : List View) → ((id : ℕ) (v : View) → get_elem? views id ≡ some v → f v ≤ g v) → total f views ≤ total g views
total_at_most f g [] h = omega arith
total_at_most f g (x ∷ xs) h = let r = total_at_most f g xs (λ id v e. h (suc id) v e) in let x_is = h zero x refl in omega arith

stage_at_most : (s : Stage) → stage_entered s ≤ 1
stage_at_most Out = omega arith
stage_at_most Trying = omega arith
stage_at_most Inside = omega arith

inside_entered : (s : Stage) → stage_inside s ≤ stage_entered s
inside_entered Out = omega arith
inside_entered Trying = omega arith
inside_entered Inside = omega arith

entered_room : (word : ℕ) (views : List View) (v : View) → Fits word views v → entered v ≤ v.room
entered_room word views v fit = let few = stage_at_most v.stage in dite (ℕ_discrete (entered v) 1) (λ one. let r = fit.one_room one in omega arith) (λ none. omega arith)

-- no more than 64 seats are trying or inside
few : (word : ℕ) (views : List View) → Gated word views → total entered views ≤ 64
few word views g = let r = total_at_most entered room views (λ id v e. entered_room word views v (g.fits id v e)) in let s = g.rooms in omega arith

nobody_inside : (views : List View) → total entered views ≡ 0 → total inside views ≡ 0
nobody_inside views e = let r = total_at_most inside entered views (λ id v at. inside_entered v.stage) in omega arith

at_most_total : (f : View → ℕ) (views : List View) (id : ℕ) (v : View) → get_elem? views id ≡ some v → f v ≤ total f views
at_most_total f [] id v e = absurd (some-ne-none v (sym e))
at_most_total f (x ∷ xs) zero v e = let is : f x ≡ f v = ap f (some-injective x v e) in omega arith
at_most_total f (x ∷ xs) (suc id) v e = let r = at_most_total f xs id v e in omega arith

set_elsewhere : (views : List View) (id j : ℕ) (w u : View) → j ≢ id → get_elem? views j ≡ some u → get_elem? (set views id w) j ≡ some u
set_elsewhere [] id j w u other e = absurd (some-ne-none u (sym e))
set_elsewhere (x ∷ xs) zero zero w u other e = absurd (other refl)
set_elsewhere (x ∷ xs) zero (suc j) w u other e = e
set_elsewhere (x ∷ xs) (suc id) zero w u other e = e
set_elsewhere (x ∷ xs) (suc id) (suc j) w u other e = set_elsewhere xs id j w u (λ same. other (ap suc same)) e

-- where one seat may shut, no other may
alone : (views : List View) (id j : ℕ) (v u : View) → total shutting views ≤ 1 → get_elem? views id ≡ some v → v.may_shut ≡ true → j ≢ id → get_elem? views j ≡ some u → u.may_shut ≡ true → ⊥
alone views id j v u one at may other there also =
    let gone = total_set shutting views id v (newcomer 0) at in
    let still : get_elem? (set views id (newcomer 0)) j ≡ some u = set_elsewhere views id j (newcomer 0) u other there in
    let most = at_most_total shutting (set views id (newcomer 0)) j u still in
    let first : shutting v ≡ 1 = rw may refl in let second : shutting u ≡ 1 = rw also refl in
    absurd (omega arith)

-- a step of one seat keeps the rule where the count follows its view, the gate stays shut, nobody comes inside once it is, it is shut by no other than who may, and what the seat then knows is so
pub changes : (word : ℕ) (views : List View) → Gated word views → (id : ℕ) (v w : View) (n : ℕ) → get_elem? views id ≡ some v
    → n / 2 + entered v ≡ word / 2 + entered w → w.room ≡ v.room → w.may_shut ≡ v.may_shut → (word % 2 ≡ 1 → n % 2 ≡ 1) → (word % 2 ≡ 1 → inside w ≤ inside v)
    → (n % 2 ≡ 1 → (word % 2 ≡ 1) ⊎ (v.may_shut ≡ true))
    → Fits n (set views id w) w
    → Gated n (set views id w)
changes word views g id v w n at count same may stays out by fit =
    let t = total_set entered views id v w at in
    let r : total room (set views id w) + v.room ≡ total room views + w.room = total_set room views id v w at in
    let i = total_set inside views id v w at in
    let s : total shutting (set views id w) + shutting v ≡ total shutting views + shutting w = total_set shutting views id v w at in
    let same_may : shutting w ≡ shutting v = ap (λ b. cond b 1 0) may in
    let half = g.half in let rooms = g.rooms in let one = g.one_shuts in record {
      half = omega arith;
      rooms = omega arith;
      one_shuts = omega arith;
      fits = λ j u e. ⊎_elim
          (λ (here : (j ≡ id) × (w ≡ u)). subst (Fits n (set views id w)) here.1 fit)
          (λ (there : (j ≢ id) × (get_elem? views j ≡ some u)). let old = g.fits j u there.1 in record {
            one_room = old.one_room;
            shut = λ k. stays (old.shut k);
            quiet = λ k. let q = old.quiet k in let o = out q.0 in (stays q.0, omega arith);
            has_shut = λ m odd. ⊎_elim (λ before. old.has_shut m before) (λ mine. absurd (alone views id j v u g.one_shuts at mine there.0 there.1 m)) (by odd);
          })
          (at_set views id j w u e);
    }

abbrev St : Type 0
St = GateState

-- the same of the table, whose one word is the gate's
placed : (s : St) → Keeps s → (n id : ℕ) (me : Sat) (w : View) → Gated n (set s.views id w) → Keeps (stepped s 0 n id me.1 w keeps)
placed s r n id me w g = let wide = r.0 in (length-set s.words 0 n ∙ wide, subst (λ (x : ℕ). Gated x (set s.views id w)) (sym (get_or-set_same s.words 0 n 0 (omega arith))) g)

unknown : (b : Bool) → b ≢ true → b ≡ false
unknown true n = absurd (n refl)
unknown false n = refl

false_true : false ≡ true → ⊥
false_true e = grind (arith, e)

or_cases : (a b : Bool) → (a || b) ≡ true → (a ≡ true) ⊎ (b ≡ true)
or_cases true b e = inl refl
or_cases false b e = inr e

or_left : (a b : Bool) → a ≡ true → (a || b) ≡ true
or_left true b e = refl
or_left false b e = absurd (false_true e)

-- what a seat knew stays so, where it doesn't come inside
knew : (word : ℕ) (views : List View) → Gated word views → (id : ℕ) (v w : View) → get_elem? views id ≡ some v → (word % 2 ≡ 1 → inside w ≤ inside v)
    → v.knows_quiet ≡ true → (word % 2 ≡ 1) × (total inside (set views id w) ≡ 0)
knew word views g id v w at out k = let i = total_set inside views id v w at in let q = (g.fits id v at).quiet k in let o = out q.0 in (q.0, omega arith)

odd_or : (n : ℕ) → (bit_or n 1 / 2 ≡ n / 2) × (bit_or n 1 % 2 ≡ 1)
odd_or n = let s : bit_or n 1 ≡ bit_or (n / 2) 0 * 2 + max (n % 2) 1 = or_step n 1 in let z : bit_or (n / 2) 0 ≡ n / 2 = or_zero_r (n / 2) in
    let m : max (n % 2) 1 ≡ 1 = omega arith in let all : bit_or n 1 ≡ (n / 2) * 2 + 1 = s ∙ (λ k. z k * 2 + m k) in (omega arith, omega arith)

module _ (slots id : ℕ) (me : Sat) where
  pub enters : me.0.stage ≡ Out → me.0.room ≡ 1 → Allows Keeps slots id me 0 (λ n. (n + 2) % 2 ^ 64) (Entering (step slots 0 2 0 none) me)
  enters out one s r _ at small =
      let word : ℕ = get_or s.words 0 0 in let v : View = me.0 in let g = r.1 in let fit = g.fits id v at in
      let at_most = few word s.views g in let half = g.half in
      let n : ℕ = (word + 2) % 2 ^ 64 in let n_is : n ≡ word + 2 = omega arith in
      let v_entered : entered v ≡ 0 = ap stage_entered out in let v_inside : inside v ≡ 0 = ap stage_inside out in
      dite (ℕ_discrete (word % 2) 1)
      (λ odd. let w : View = refused v in (
        w,
        keeps,
        tt,
        placed s r n id me w (changes word s.views g id v w n at (omega arith) refl refl (λ _. omega arith) (λ _. omega arith) (λ _. inl odd) record {
          one_room = λ _. one;
          shut = λ _. omega arith;
          quiet = λ k. let q = knew word s.views g id v w at (λ _. omega arith) k in (omega arith, q.1);
          has_shut = λ _ _. refl;
        }),
        subst (λ b. MatchBool b (w ≡ refused v) ((v.knows_shut ≡ false) × (w ≡ admitted v))) (sym (eq-eqb (word % 2) 1 odd)) refl,
      ))
      (λ even. let w : View = admitted v in (
        w,
        keeps,
        tt,
        placed s r n id me w (changes word s.views g id v w n at (omega arith) refl refl (λ odd. absurd (even odd)) (λ odd. absurd (even odd)) (λ odd. absurd (even (omega arith))) record {
          one_room = λ _. one;
          shut = λ k. absurd (even (fit.shut k));
          quiet = λ k. absurd (even (fit.quiet k).0);
          has_shut = λ _ odd. absurd (even (omega arith));
        }),
        subst (λ b. MatchBool b (w ≡ refused v) ((v.knows_shut ≡ false) × (w ≡ admitted v))) (sym (ne_eqb (word % 2) 1 even)) (unknown v.knows_shut (λ k. even (fit.shut k)), refl),
      ))

  -- backing out and leaving: the seat was counted
  pub leaves : entered me.0 ≡ 1 → Allows Keeps slots id me 0 (λ n. (n + (2 ^ 64 - 2)) % 2 ^ 64) (Leaving (step slots 0 2 0 none) me)
  leaves counted s r _ at small =
      let word : ℕ = get_or s.words 0 0 in let v : View = me.0 in let g = r.1 in let fit = g.fits id v at in let w : View = outside v in
      let half = g.half in let t : total entered (set s.views id w) + entered v ≡ total entered s.views + 0 = total_set entered s.views id v w at in
      let fits_word : word < 18446744073709551616 = small in
      let n : ℕ = (word + (2 ^ 64 - 2)) % 2 ^ 64 in let n_is : n + 2 ≡ word = omega arith in (
        w,
        keeps,
        tt,
        placed s r n id me w (changes word s.views g id v w n at (omega arith) refl refl (λ odd. omega arith) (λ odd. omega arith) (λ odd. inl (omega arith)) record {
          one_room = λ e. absurd (omega arith);
          shut = λ k. let o = fit.shut k in omega arith;
          quiet = λ k. let q = knew word s.views g id v w at (λ _. omega arith) k in let o = q.0 in (omega arith, q.1);
          has_shut = λ m odd. fit.has_shut m (omega arith);
        }),
        refl,
      )

  pub shuts : me.0.may_shut ≡ true → Allows Keeps slots id me 0 (λ n. bit_or n 1) (Shutting (step slots 0 1 0 none) me)
  shuts may s r _ at small =
      let word : ℕ = get_or s.words 0 0 in let v : View = me.0 in let g = r.1 in let fit = g.fits id v at in let w : View = told_shut v in
      let n : ℕ = bit_or word 1 in let o = odd_or word in let halves = o.0 in (
        w,
        keeps,
        tt,
        placed s r n id me w (changes word s.views g id v w n at (omega arith) refl refl (λ odd. o.1) (λ odd. omega arith) (λ _. inr may) record {
          one_room = fit.one_room;
          shut = λ k. o.1;
          quiet = λ k. (o.1, (knew word s.views g id v w at (λ _. omega arith) k).1);
          has_shut = λ _ _. refl;
        }),
        refl,
      )

  pub looks : Allows Keeps slots id me 0 (λ n. n) (Looking (step slots 0 0 0 none) me)
  looks s r _ at small =
      let word : ℕ = get_or s.words 0 0 in let v : View = me.0 in let g = r.1 in let fit = g.fits id v at in let w : View = looked v word in
      let half = g.half in let i : total inside (set s.views id w) + inside v ≡ total inside s.views + inside v = total_set inside s.views id v w at in (
        w,
        keeps,
        tt,
        placed s r word id me w (changes word s.views g id v w word at (omega arith) refl refl (λ odd. odd) (λ odd. omega arith) (λ odd. inl odd) record {
          one_room = fit.one_room;
          has_shut = λ m odd. or_left v.knows_shut (eqb (word % 2) 1) (fit.has_shut m odd);
          shut = λ k. ⊎_elim fit.shut (λ found. eqb-true (word % 2) 1 found) (or_cases v.knows_shut (eqb (word % 2) 1) k);
          quiet = λ k. ⊎_elim
              (λ before. knew word s.views g id v w at (λ _. omega arith) before)
              (λ found. let one : word ≡ 1 = eqb-true word 1 found in let none_inside = nobody_inside s.views (omega arith) in (omega arith, omega arith))
              (or_cases v.knows_quiet (eqb word 1) k);
        }),
        (refl, fit.has_shut),
      )

-- room for k senders goes to a new seat
pub seats : (id : ℕ) (v : View) (k : ℕ) → v.stage ≡ Out → k ≤ v.room → Splits Keeps id v (less_room k v) (newcomer k)
seats id v k out enough s r at =
    let word : ℕ = get_or s.words 0 0 in let g = r.1 in let fit = g.fits id v at in let w : View = less_room k v in let new : View = newcomer k in
    let half = g.half in let rooms = g.rooms in
    let v_entered : entered v ≡ 0 = ap stage_entered out in
    let te : total entered (set s.views id w) + entered v ≡ total entered s.views + entered v = total_set entered s.views id v w at in
    let ti : total inside (set s.views id w) + inside v ≡ total inside s.views + inside v = total_set inside s.views id v w at in
    let ts : total shutting (set s.views id w) + shutting v ≡ total shutting s.views + shutting v = total_set shutting s.views id v w at in
    let ss : total shutting (set s.views id w ++ new ∷ []) ≡ total shutting (set s.views id w) + 0 = total_snoc shutting (set s.views id w) new in
    let one = g.one_shuts in
    let tr : total room (set s.views id w) + v.room ≡ total room s.views + (v.room - k) = total_set room s.views id v w at in
    let se : total entered (set s.views id w ++ new ∷ []) ≡ total entered (set s.views id w) + 0 = total_snoc entered (set s.views id w) new in
    let si : total inside (set s.views id w ++ new ∷ []) ≡ total inside (set s.views id w) + 0 = total_snoc inside (set s.views id w) new in
    let sr : total room (set s.views id w ++ new ∷ []) ≡ total room (set s.views id w) + k = total_snoc room (set s.views id w) new in (
      r.0,
      record {
        half = omega arith;
        rooms = omega arith;
        one_shuts = omega arith;
        fits = λ j u e. ⊎_elim
            (λ (old : get_elem? (set s.views id w) j ≡ some u). ⊎_elim
            (λ (here : (j ≡ id) × (w ≡ u)). subst (Fits word (set s.views id w ++ new ∷ [])) here.1 record {
              one_room = λ c. absurd (omega arith);
              shut = fit.shut;
              quiet = λ q. let known = fit.quiet q in let none_inside = known.1 in (known.0, omega arith);
              has_shut = fit.has_shut;
            })
            (λ (there : (j ≢ id) × (get_elem? s.views j ≡ some u)). let other = g.fits j u there.1 in record {
              one_room = other.one_room;
              shut = other.shut;
              quiet = λ q. let known = other.quiet q in let none_inside = known.1 in (known.0, omega arith);
              has_shut = other.has_shut;
            })
            (at_set s.views id j w u old))
            (λ (is : new ≡ u). subst (Fits word (set s.views id w ++ new ∷ [])) is record {
              one_room = λ c. absurd (omega arith);
              shut = λ f. absurd (false_true f);
              quiet = λ f. absurd (false_true f);
              has_shut = λ f. absurd (false_true f);
            })
            (at_snoc (set s.views id w) new u j e);
      },
    )

pub nobody : NobodyInside
nobody word views g i j v w at_i at_j quiet = let q = (g.fits i v at_i).quiet quiet in let none_inside = q.1 in let r = at_most_total inside views j w at_j in (
  (λ (is : w.stage ≡ Inside). let one : inside w ≡ 1 = ap stage_inside is in absurd (omega arith)),
  q.0,
)

pub one_shuts : OneShuts
one_shuts word views g i j v w at_i at_j may not_yet = unknown w.knows_shut (λ k. false_true (sym not_yet ∙ (g.fits i v at_i).has_shut may ((g.fits j w at_j).shut k)))
