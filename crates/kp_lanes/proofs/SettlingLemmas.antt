-- Settling one sender after another.
use Rattle.std.proofs.Common.{◌≡◌, ℕ, zero, suc, ◌+◌, ◌<◌, ◌≤◌, List, [], ◌∷◌, ◌++◌, map, length, length-set, get_or, set, sym, refl, ap, ◌∙◌, subst, arith}
use Rattle.std.specs.Prelude.{vec_capacity}
use Rattle.std.proofs.lemmas.List.{length-map}
use mathlib.Core.Logic.{dite}
use native.Mathlib.Decide.{ℕ_discrete}
use Rattle.std.specs.declared.alloc.Global.{Global}
use Rattle.std.specs.declared.vec.Vec.{Vec}
use Rattle.kp_accum.specs.declared.item.Item.{Item}
use Rattle.kp_rules.specs.declared.outcome.Report.{Report}
use Rattle.kp_lanes.specs.declared.intake.Intake.{Intake}
use Rattle.kp_lanes.specs.declared.intake.port.Port.{Port}
use Rattle.kp_lanes.specs.declared.limits.Limits.{Limits}
use Rattle.kp_lanes.specs.declared.sender.Finished.{Finished}
use Rattle.kp_lanes.specs.declared.settling.Settled.{Settled}
use Rattle.kp_lanes.specs.Rings.{RingId}
use Rattle.kp_lanes.specs.Intake.{common_of, intake_limits, lanes_of}
use Rattle.kp_lanes.specs.Lane.{LaneId}
use Rattle.kp_lanes.specs.Limits.{AreInPlace}
use mathlib.Core.List.{IsPrefix}
use Rattle.kp_lanes.specs.declared.entry.Entry.{Entry}
use Rattle.kp_lanes.specs.Port.{Common, port_id, passed, taken, told}
use Rattle.kp_lanes.specs.Sender.{finished_id, all_entered, all_accepted, all_got}
use Rattle.kp_lanes.specs.Sender.{finished_number}
use Rattle.kp_lanes.specs.Settling.{IsInPlace, numbers, port_rings, finished_rings, left_items, left_reports, Differ, MeetAt, RingsMeet, HasRooms, AddsAt, IsOf, Placed, SamePorts, SameFinished}
use Rattle.kp_lanes.proofs.EachLemmas.{same_default, here, here_set, else_set}

module _ {A : Type 0} where
  pub carry : {B : Type 0} (f : A → B) (xs ys : List A) (i : ℕ) (e : B) → length ys ≡ length xs → ((d : A) → get_or ys i d ≡ get_or xs i d) → get_or (map f ys) i e ≡ get_or (map f xs) i e
  carry f [] [] i e long same = refl
  carry f [] (y ∷ ys) i e long same = absurd (omega arith)
  carry f (x ∷ xs) [] i e long same = absurd (omega arith)
  carry f (x ∷ xs) (y ∷ ys) zero e long same = ap f (same x)
  carry f (x ∷ xs) (y ∷ ys) (suc i) e long same = carry f xs ys i e (omega arith) same

pub meets : (ps : List Port) (fs : List Finished) (i j : ℕ) → i < length ps → j < length fs → RingsMeet (map port_rings ps) (map finished_rings fs) i j → MeetAt ps fs i j
meets ps fs i j near there meet p f is_p is_f =
    let d : RingId × RingId = port_rings p in
    let e : port_rings p ≡ finished_rings f = sym (here port_rings ps i p d near (sym is_p)) ∙ (meet d ∙ here finished_rings fs j f d there (sym is_f)) in
    (ap (λ (r : RingId × RingId). r.0) e, sym (ap (λ (r : RingId × RingId). r.1) e))

pub more_rooms : (ps : List Port) (fs : List Finished) (s s' : Settled) (n i : ℕ) (v : Vec Item Global) (w : Vec Report Global) → HasRooms ps fs s n → Differ (numbers fs) → n < length fs
    → i ≡ get_or (numbers fs) n 0 → i < length ps
    → s'.left.items ≡ set s.left.items i v → s'.reports.items ≡ set s.reports.items i w → v.items ≡ [] → w.items ≡ []
    → length (get_or (map all_accepted fs) n []) ≤ length (get_or (map taken ps) i []) + vec_capacity v
    → length (get_or (map told ps) i []) ≤ length (get_or (map all_got fs) n []) + vec_capacity w
    → HasRooms ps fs s' (n + 1)
more_rooms ps fs s s' n i v w old differ there is near ls rs no_items no_reports items reports =
    let near_l : i < length s.left.items = let e = old.wide.0 in omega arith in
    let near_r : i < length s.reports.items = let e = old.wide.1 in omega arith in
    let all : n < length (numbers fs) = subst (λ k. n < k) (sym (length-map fs finished_number)) there in record {
      wide = (ap length ls ∙ (length-set s.left.items i v ∙ old.wide.0), ap length rs ∙ (length-set s.reports.items i w ∙ old.wide.1));
      empty = λ k. dite (ℕ_discrete k i)
          (λ e. (
            subst (λ x. get_or (left_items s'.left.items) x [] ≡ []) (sym e) (ap (λ l. get_or (left_items l) i []) ls ∙ (here_set (λ (x : Vec Item Global). x.items) s.left.items i v [] near_l ∙ no_items)),
            subst (λ x. get_or (left_reports s'.reports.items) x [] ≡ []) (sym e) (ap (λ l. get_or (left_reports l) i []) rs ∙ (here_set (λ (x : Vec Report Global). x.items) s.reports.items i w [] near_r ∙ no_reports)),
          ))
          (λ other. (
            ap (λ l. get_or (left_items l) k []) ls ∙ (else_set (λ (x : Vec Item Global). x.items) s.left.items i k v [] other ∙ (old.empty k).0),
            ap (λ l. get_or (left_reports l) k []) rs ∙ (else_set (λ (x : Vec Report Global). x.items) s.reports.items i k w [] other ∙ (old.empty k).1),
          ));
      items = λ j below. dite (ℕ_discrete j n)
          (λ e. subst (λ x. length (get_or (map all_accepted fs) x []) ≤ length (get_or (map taken ps) (get_or (numbers fs) x 0) []) + get_or (map vec_capacity s'.left.items) (get_or (numbers fs) x 0) 0) (sym e)
          (subst (λ x. length (get_or (map all_accepted fs) n []) ≤ length (get_or (map taken ps) x []) + get_or (map vec_capacity s'.left.items) x 0) is
          (subst (λ c. length (get_or (map all_accepted fs) n []) ≤ length (get_or (map taken ps) i []) + c) (sym (ap (λ l. get_or (map vec_capacity l) i 0) ls ∙ here_set vec_capacity s.left.items i v 0 near_l)) items)))
          (λ other. let apart = differ j n (omega arith) all in
          subst (λ c. length (get_or (map all_accepted fs) j []) ≤ length (get_or (map taken ps) (get_or (numbers fs) j 0) []) + c)
          (sym (ap (λ l. get_or (map vec_capacity l) (get_or (numbers fs) j 0) 0) ls ∙ else_set vec_capacity s.left.items i (get_or (numbers fs) j 0) v 0 (λ e. apart (e ∙ is)))) (old.items j (omega arith)));
      reports = λ j below. dite (ℕ_discrete j n)
          (λ e. subst (λ x. length (get_or (map told ps) (get_or (numbers fs) x 0) []) ≤ length (get_or (map all_got fs) x []) + get_or (map vec_capacity s'.reports.items) (get_or (numbers fs) x 0) 0) (sym e)
          (subst (λ x. length (get_or (map told ps) x []) ≤ length (get_or (map all_got fs) n []) + get_or (map vec_capacity s'.reports.items) x 0) is
          (subst (λ c. length (get_or (map told ps) i []) ≤ length (get_or (map all_got fs) n []) + c) (sym (ap (λ l. get_or (map vec_capacity l) i 0) rs ∙ here_set vec_capacity s.reports.items i w 0 near_r)) reports)))
          (λ other. let apart = differ j n (omega arith) all in
          subst (λ c. length (get_or (map told ps) (get_or (numbers fs) j 0) []) ≤ length (get_or (map all_got fs) j []) + c)
          (sym (ap (λ l. get_or (map vec_capacity l) (get_or (numbers fs) j 0) 0) rs ∙ else_set vec_capacity s.reports.items i (get_or (numbers fs) j 0) w 0 (λ e. apart (e ∙ is)))) (old.reports j (omega arith)));
    }

pub all_nil : {T : Type 0} (vs : List (Vec T Global)) → ((k : ℕ) (d : Vec T Global) → k < length vs → (get_or vs k d).items ≡ []) → (i : ℕ) → get_or (map (λ (v : Vec T Global). v.items) vs) i [] ≡ []
all_nil [] h i = refl
all_nil (x ∷ xs) h zero = h zero x (omega arith)
all_nil (x ∷ xs) h (suc i) = all_nil xs (λ k d below. h (suc k) d (omega arith)) i

pub same_length : {A B C : Type 0} (f : A → C) (g : B → C) (xs : List A) (ys : List B) → map f xs ≡ map g ys → length xs ≡ length ys
same_length f g xs ys e = sym (length-map xs f) ∙ (ap length e ∙ length-map ys g)

-- what the sender at place j of the lists as they now are is of the lists as they were
pub place : (ps cps : List Port) (fs cfs : List Finished) (j : ℕ) (f : Finished) → map port_rings cps ≡ map port_rings ps → map finished_number cfs ≡ map finished_number fs → map finished_rings cfs ≡ map finished_rings fs
    → Placed ps fs → j < length fs → f ≡ get_or cfs j f
    → (f.outbox.sender ≡ get_or (numbers fs) j 0) × (f.outbox.sender < length cps) × (f.outbox.sender < length ps) × MeetAt cps cfs f.outbox.sender j
place ps cps fs cfs j f rings ns ends of there is =
    let long_p : length cps ≡ length ps = same_length port_rings port_rings cps ps rings in let long_f : length cfs ≡ length fs = same_length finished_number finished_number cfs fs ns in
    let here_f : j < length cfs = omega arith in
    let number : f.outbox.sender ≡ get_or (numbers fs) j 0 = sym (here finished_number cfs j f 0 here_f is) ∙ ap (λ l. get_or l j 0) ns in
    let o = of j there in
    let near : f.outbox.sender < length ps = subst (λ k. k < length ps) (sym number) o.0 in
    let near_c : f.outbox.sender < length cps = omega arith in
    let meet : RingsMeet (map port_rings cps) (map finished_rings cfs) f.outbox.sender j =
    λ d. ap (λ l. get_or l f.outbox.sender d) rings ∙ (ap (λ k. get_or (map port_rings ps) k d) number ∙ (o.1 d ∙ ap (λ l. get_or l j d) (sym ends))) in
    (number, near_c, near, meets cps cfs f.outbox.sender j near_c here_f meet)

-- the same where only the places to come are as they were
pub place_left : (ps cps : List Port) (fs cfs : List Finished) (j : ℕ) (f : Finished) → length cps ≡ length ps → length cfs ≡ length fs → map finished_number cfs ≡ map finished_number fs
    → ((d : Port) → get_or cps (get_or (numbers fs) j 0) d ≡ get_or ps (get_or (numbers fs) j 0) d) → ((d : Finished) → get_or cfs j d ≡ get_or fs j d)
    → Placed ps fs → j < length fs → f ≡ get_or cfs j f
    → (f.outbox.sender ≡ get_or (numbers fs) j 0) × (f.outbox.sender < length cps) × (f.outbox.sender < length ps) × MeetAt cps cfs f.outbox.sender j
place_left ps cps fs cfs j f long_p long_f ns same_p same_f of there is =
    let here_f : j < length cfs = omega arith in
    let number : f.outbox.sender ≡ get_or (numbers fs) j 0 = sym (here finished_number cfs j f 0 here_f is) ∙ ap (λ l. get_or l j 0) ns in
    let o = of j there in
    let near : f.outbox.sender < length ps = subst (λ k. k < length ps) (sym number) o.0 in
    let near_c : f.outbox.sender < length cps = omega arith in
    let at : (d : Port) → get_or cps f.outbox.sender d ≡ get_or ps f.outbox.sender d = subst (λ i. (d : Port) → get_or cps i d ≡ get_or ps i d) (sym number) same_p in
    let meet : MeetAt ps fs f.outbox.sender j = meets ps fs f.outbox.sender j near there (subst (λ i. RingsMeet (map port_rings ps) (map finished_rings fs) i j) (sym number) o.1) in
    (number, near_c, near, λ p g is_p is_g. meet p g (sym (at p) ∙ is_p) (sym (same_f g) ∙ is_g))

pub at_number : {A B : Type 0} (f : A → B) (xs ys : List A) (i n : ℕ) (e : B) → n ≡ i → length ys ≡ length xs → ((d : A) → get_or ys i d ≡ get_or xs i d) → get_or (map f ys) n e ≡ get_or (map f xs) i e
at_number f xs ys i n e is long same = ap (λ k. get_or (map f ys) k e) is ∙ carry f xs ys i e long same

abbrev rings_of : LaneId → RingId × RingId
rings_of i = (i.items, i.reports)

through : (g : Common) (ps : List Port) (i : ℕ) (d : RingId × RingId) (e : LaneId) → i < length ps → get_or (map port_rings ps) i d ≡ rings_of (get_or (map (port_id g) ps) i e)
through g [] i d e near = absurd (omega arith)
through g (p ∷ ps) zero d e near = refl
through g (p ∷ ps) (suc i) d e near = through g ps i d e (omega arith)

pub of_placed : (g : Common) (ps : List Port) (fs : List Finished) → ((k : ℕ) (d : Finished) → k < length fs → IsOf (map (port_id g) ps) (get_or fs k d)) → Placed ps fs
of_placed g ps [] h j below = absurd (omega arith)
of_placed g ps (f ∷ fs) h zero below = let o = h zero f below in let near : f.outbox.sender < length ps = subst (λ n. f.outbox.sender < n) (length-map ps (port_id g)) o.0 in
    (near, λ d. through g ps f.outbox.sender d (finished_id f) near ∙ ap rings_of o.1)
of_placed g ps (f ∷ fs) h (suc j) below = of_placed g ps fs (λ k d b. h (suc k) d (omega arith)) j (omega arith)

module _ (ps ps' : List Port) (fs fs' : List Finished) (sp : SamePorts ps ps') (sf : SameFinished fs fs') where
  long_p : length ps' ≡ length ps
  long_p = same_length port_rings port_rings ps' ps sp.rings

  long_f : length fs' ≡ length fs
  long_f = same_length finished_number finished_number fs' fs sf.numbers

  pub moved : Placed ps fs → Placed ps' fs'
  moved of j below = let long = long_f in let o = of j (omega arith) in (
    subst (λ (z : ℕ × ℕ). z.0 < z.1) (λ i. (ap (λ l. get_or l j 0) (sym sf.numbers) i, sym long_p i)) o.0,
    subst (λ (z : List (RingId × RingId) × List (RingId × RingId) × List ℕ). RingsMeet z.0 z.1 (get_or z.2 j 0) j) (λ i. (sym sp.rings i, sym sf.rings i, sym sf.numbers i)) o.1,
  )

  pub moved_rooms : (s : Settled) (n : ℕ) → HasRooms ps fs s n → HasRooms ps' fs' s n
  moved_rooms s n old = record {
    wide = (old.wide.0 ∙ sym long_p, old.wide.1 ∙ sym long_p);
    empty = old.empty;
    items = λ j below. subst (λ (z : List (List Item) × List (List Item) × List ℕ). length (get_or z.0 j []) ≤ length (get_or z.1 (get_or z.2 j 0) []) + get_or (map vec_capacity s.left.items) (get_or z.2 j 0) 0)
        (λ i. (sym sf.accepted i, sym sp.taken i, sym sf.numbers i)) (old.items j below);
    reports = λ j below. subst (λ (z : List (List Report) × List (List Report) × List ℕ). length (get_or z.0 (get_or z.2 j 0) []) ≤ length (get_or z.1 j []) + get_or (map vec_capacity s.reports.items) (get_or z.2 j 0) 0)
        (λ i. (sym sp.told i, sym sf.got i, sym sf.numbers i)) (old.reports j below);
  }

  moved_adds : (s : Settled) (j : ℕ) → AddsAt ps' fs' s j → AddsAt ps fs s j
  moved_adds s j new = (
    subst (λ (z : List (List Item) × List (List Item) × List ℕ). get_or z.0 j [] ≡ get_or z.1 (get_or z.2 j 0) [] ++ get_or (left_items s.left.items) (get_or z.2 j 0) []) (λ i. (sf.accepted i, sp.taken i, sf.numbers i)) new.0,
    subst (λ (z : List (List Report) × List (List Report) × List ℕ). get_or z.0 (get_or z.2 j 0) [] ≡ get_or z.1 j [] ++ get_or (left_reports s.reports.items) (get_or z.2 j 0) []) (λ i. (sp.told i, sf.got i, sf.numbers i)) new.1,
    subst (λ (z : List (List Entry) × List (List Entry) × List ℕ). IsPrefix (get_or z.0 (get_or z.2 j 0) []) (get_or z.1 j [])) (λ i. (sp.passed i, sf.entered i, sf.numbers i)) new.2,
  )

  pub adds : (s : Settled) (k : ℕ) (f : Finished) → k < length fs → f ≡ get_or fs k f → AddsAt ps' fs' s k
      → (all_accepted f ≡ get_or (map taken ps) f.outbox.sender [] ++ get_or (left_items s.left.items) f.outbox.sender []) × (get_or (map told ps) f.outbox.sender [] ≡ all_got f ++ get_or (left_reports s.reports.items) f.outbox.sender [])
      × IsPrefix (get_or (map passed ps) f.outbox.sender []) (all_entered f)
  adds s k f below is new =
      let old = moved_adds s k new in let number : get_or (numbers fs) k 0 ≡ f.outbox.sender = here finished_number fs k f 0 below is in
      let e : get_or (map all_entered fs) k [] ≡ all_entered f = here all_entered fs k f [] below is in
      let a : get_or (map all_accepted fs) k [] ≡ all_accepted f = here all_accepted fs k f [] below is in let g : get_or (map all_got fs) k [] ≡ all_got f = here all_got fs k f [] below is in (
        subst (λ (z : List Item × ℕ). z.0 ≡ get_or (map taken ps) z.1 [] ++ get_or (left_items s.left.items) z.1 []) (λ i. (a i, number i)) old.0,
        subst (λ (z : List Report × ℕ). get_or (map told ps) z.1 [] ≡ z.0 ++ get_or (left_reports s.reports.items) z.1 []) (λ i. (g i, number i)) old.1,
        subst (λ (z : List Entry × ℕ). IsPrefix (get_or (map passed ps) z.1 []) z.0) (λ i. (e i, number i)) old.2,
      )

pub ports_more : {old mid new : List Port} → SamePorts mid new → SamePorts old mid → SamePorts old new
ports_more later sooner = record {
  rings = later.rings ∙ sooner.rings;
  ids = λ g. later.ids g ∙ sooner.ids g;
  passed = later.passed ∙ sooner.passed;
  taken = later.taken ∙ sooner.taken;
  told = later.told ∙ sooner.told;
  asked = later.asked ∙ sooner.asked;
}

pub finished_more : {old mid new : List Finished} → SameFinished mid new → SameFinished old mid → SameFinished old new
finished_more later sooner = record {
  numbers = later.numbers ∙ sooner.numbers;
  ids = later.ids ∙ sooner.ids;
  rings = later.rings ∙ sooner.rings;
  entered = later.entered ∙ sooner.entered;
  accepted = later.accepted ∙ sooner.accepted;
  got = later.got ∙ sooner.got;
}

-- at a fault the condition of settling holds again
pub still_of : (lanes : List LaneId) (fs gs : List Finished) → map finished_number gs ≡ map finished_number fs → map finished_id gs ≡ map finished_id fs
    → ((k : ℕ) (d : Finished) → k < length fs → IsOf lanes (get_or fs k d)) → (k : ℕ) (d : Finished) → k < length gs → IsOf lanes (get_or gs k d)
still_of lanes fs gs ns ids of k d below =
    let long : length gs ≡ length fs = same_length finished_number finished_number gs fs ns in let near : k < length fs = omega arith in
    let f : Finished = get_or fs k d in let g : Finished = get_or gs k d in
    let number : finished_number g ≡ finished_number f =
    sym (here finished_number gs k g 0 below (same_default gs k d g below)) ∙ (ap (λ l. get_or l k 0) ns ∙ here finished_number fs k f 0 near (same_default fs k d f near)) in
    let id : finished_id g ≡ finished_id f =
    sym (here finished_id gs k g (finished_id f) below (same_default gs k d g below)) ∙ (ap (λ l. get_or l k (finished_id f)) ids ∙ here finished_id fs k f (finished_id f) near (same_default fs k d f near)) in
    subst (λ (z : ℕ × LaneId). (z.0 < length lanes) × (get_or lanes z.0 z.1 ≡ z.1)) (λ i. (sym number i, sym id i)) (of k d near)

-- ---- numbers by place

common_at : (c : Common) (ps : List Port) (i : ℕ) (e : LaneId) → i < length ps → (get_or (map (port_id c) ps) i e).limits ≡ c.limits
common_at c [] i e near = absurd (omega arith)
common_at c (p ∷ ps) zero e near = refl
common_at c (p ∷ ps) (suc i) e near = common_at c ps i e (omega arith)

-- A sender whose lane is one of these has their limits.
pub in_place_in : (t : Intake) (f : Finished) → IsOf (lanes_of t) f → IsInPlace (intake_limits t) f
in_place_in t f o =
    let near : f.outbox.sender < length t.ports.items = subst (λ n. f.outbox.sender < n) (length-map t.ports.items (port_id (common_of t))) o.0 in
    let same : f.outbox.limits ≡ intake_limits t =
    sym (ap (λ (l : LaneId). l.limits) o.1) ∙ common_at (common_of t) t.ports.items f.outbox.sender (finished_id f) near in
    subst (λ (l : Limits). AreInPlace l f.outbox.sender (all_accepted f)) same f.outbox.in_place
