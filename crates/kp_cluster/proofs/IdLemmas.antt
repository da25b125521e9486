-- A slot stays its broker's, and a new one is for a broker that has none.
use Rattle.std.proofs.Common.{◌≡◌, inl, inr, refl, sym, ap, ◌∙◌, subst, ℕ, ℤ, zero, suc, ◌<◌, ◌≤◌, ◌⊎◌, Bool, true, false, true≢false, Option, Some, None, List, [], ◌∷◌, ◌++◌, length, map, get_or, nat_lt, arith}
use Rattle.std.specs.Prelude.{if◌then◌else◌, slice_get, position, unwrap_or}
use Rattle.std.specs.Ordering.{int_eq}
use Rattle.std.specs.List.{position_or_len}
use Rattle.std.specs.Option.{option_map_or}
use Rattle.std.proofs.lemmas.List.{map-append, append-nil, append_assoc}
use Rattle.std.proofs.lemmas.List.Sums.{fails_before_first}
use Rattle.std.proofs.lemmas.Grind.{common_steps}
use Rattle.std.proofs.lemmas.Option.{slice_get-get_or, slice_get_within}
use Rattle.std.proofs.lemmas.Bool.Decides.{Decides-int_eq}
use Rattle.kp_hello.specs.declared.Node.{Node}
use Rattle.kp_cluster.specs.declared.slot.Slot.{Slot}
use Rattle.kp_cluster.specs.declared.slot.Address.{Address}
use Rattle.kp_cluster.specs.declared.slot.Phase.{Phase}
use Rattle.kp_cluster.specs.declared.slot.Phase.TheVariants.{Away, Opening, Open, GivenUp, Closing}
use Rattle.kp_cluster.specs.declared.config.ClusterConfig.{ClusterConfig}
use Rattle.kp_cluster.specs.Slots.{is_live, is_spare, is_given_up, has_id, changed, in_phase, given_up, spare_given_up, opened, opened_from, wanted, answered}
use Rattle.kp_cluster.specs.Cluster.{Cluster, new_cluster, slot_of_address, is_broker_open, connected, chart_refused, asking_again, with_given_up}
use Rattle.kp_cluster.specs.Backoff.{lost_for, has_none, metadata_lost}
use Rattle.kp_cluster.specs.Metadata.{heeded_with, is_aged, is_late}
use Rattle.kp_cluster.specs.Actions.{closes, connects, tries, tried, is_due}
use Rattle.kp_cluster.specs.Learning.{SLOT_LIMIT, slot_of, has_address, renewed, new_slot, placed_at, placed, all_placed, marked_from, learned_over, charted, charted_to_one, charted_by_id, of_known, led_by_one, led_among}
use Rattle.kp_cluster.specs.Runs.{Call, Step, Runs, ids, id_of, GoesOn, AreDistinct}
use Rattle.kp_cluster.specs.Runs.Call.{NextAction, Connected, Lost, GiveUp, Want, Answered, Asked, AskAgain, RefuseChart, Heed, Learn}
use Rattle.kp_cluster.specs.Runs.Runs.{not_yet, once_more}

-- ---- lists of ids that grow

-- No place has this id.
abbrev pub IsNew : ℤ → List (Option ℤ) → Type 0
IsNew id xs = (i : ℕ) → slice_get xs i ≡ Some (Some id) → ⊥

-- The one list becomes the other by ids that are new to it.
pub data Grows (xs : List (Option ℤ)) : List (Option ℤ) → Type 0 where
  stays : Grows xs xs
  one_more : (ys : List (Option ℤ)) (id : ℤ) → Grows xs ys → IsNew id ys → Grows xs (ys ++ Some id ∷ [])

grows_along : (xs ys zs : List (Option ℤ)) → zs ≡ ys → Grows xs ys → Grows xs zs
grows_along xs ys zs same g = subst (λ (l : List (Option ℤ)). Grows xs l) (sym same) g

grows_on : (xs ys zs : List (Option ℤ)) → Grows xs ys → Grows ys zs → Grows xs zs
grows_on xs ys _ g Grows.stays = g
grows_on xs ys _ g (Grows.one_more zs id more new) = Grows.one_more zs id (grows_on xs ys zs g more) new

pub goes_on : (xs ys : List (Option ℤ)) → Grows xs ys → GoesOn xs ys
goes_on xs _ Grows.stays = record { more = []; is = sym (append-nil xs) }
goes_on xs _ (Grows.one_more ys id g new) =
    let before = goes_on xs ys g in
    record { more = before.more ++ Some id ∷ []; is = ap (λ (l : List (Option ℤ)). l ++ Some id ∷ []) before.is ∙ append_assoc xs before.more (Some id ∷ []) }

-- where one more stands behind, it stands at a place of old or is the last
at_last : (ys : List (Option ℤ)) (o : Option ℤ) (i : ℕ) (x : Option ℤ) → slice_get (ys ++ o ∷ []) i ≡ Some x
    → (slice_get ys i ≡ Some x) ⊎ ((i ≡ length ys) × (o ≡ x))
at_last [] o zero x e = inr (refl, ap (λ (p : Option (Option ℤ)). unwrap_or p x) e)
at_last [] o (suc i) x e = let no : ⊥ = cc in absurd no
at_last (y ∷ ys) o zero x e = inl e
at_last (y ∷ ys) o (suc i) x e =
    elim (at_last ys o i x e) as (λ _. (slice_get ys i ≡ Some x) ⊎ ((suc i ≡ suc (length ys)) × (o ≡ x))) [ inl here ↦ inl here | inr (last, is) ↦ inr (ap suc last, is) ]

same_id : (a b : ℤ) → ◌≡◌ {A = Option ℤ} (Some a) (Some b) → a ≡ b
same_id a b e = ap (λ (o : Option ℤ). unwrap_or o a) e

distinct_more : (ys : List (Option ℤ)) (own : ℤ) → AreDistinct ys → IsNew own ys → AreDistinct (ys ++ Some own ∷ [])
distinct_more ys own old new i j id at_i at_j =
    elim (at_last ys (Some own) i (Some id) at_i) as (λ _. i ≡ j) [
      | inl here ↦ elim (at_last ys (Some own) j (Some id) at_j) as (λ _. i ≡ j) [
        | inl there ↦ old i j id here there
        | inr (last, is) ↦ absurd (new i (here ∙ ap Some (sym is)))
      ]
      | inr (last, is) ↦ elim (at_last ys (Some own) j (Some id) at_j) as (λ _. i ≡ j) [
        | inl there ↦ absurd (new j (there ∙ ap Some (sym is)))
        | inr (end, also) ↦ last ∙ sym end
      ]
    ]

pub distinct_grown : (xs ys : List (Option ℤ)) → Grows xs ys → AreDistinct xs → AreDistinct ys
distinct_grown xs _ Grows.stays h = h
distinct_grown xs _ (Grows.one_more ys id g new) h = distinct_more ys id (distinct_grown xs ys g h) new

-- ---- changes that leave the ids

changed_ids : (f : Slot → Slot) (n : ℕ) (slots : List Slot) → ((s : Slot) → (f s).id ≡ s.id) → map id_of (changed f n slots) ≡ map id_of slots
changed_ids f n [] keeps = refl
changed_ids f zero (s ∷ slots) keeps = ap (λ (o : Option ℤ). o ∷ map id_of slots) (keeps s)
changed_ids f (suc n) (s ∷ slots) keeps = ap (λ (os : List (Option ℤ)). s.id ∷ os) (changed_ids f n slots keeps)

mapped_ids : (f : Slot → Slot) (slots : List Slot) → ((s : Slot) → (f s).id ≡ s.id) → map id_of (map f slots) ≡ map id_of slots
mapped_ids f [] keeps = refl
mapped_ids f (s ∷ slots) keeps = ap (λ (o : Option ℤ). o ∷ map id_of (map f slots)) (keeps s) ∙ ap (λ (os : List (Option ℤ)). s.id ∷ os) (mapped_ids f slots keeps)

marked_ids : (n : ℕ) (leaders : List (Option ℕ)) (slots : List Slot) → map id_of (marked_from n leaders slots) ≡ map id_of slots
marked_ids n leaders [] = refl
marked_ids n leaders (s ∷ slots) = ap (λ (os : List (Option ℤ)). s.id ∷ os) (marked_ids (suc n) leaders slots)

id_either_way : (b : Bool) (s t : Slot) (o : Option ℤ) → s.id ≡ o → t.id ≡ o → (if b then s else t).id ≡ o
id_either_way true s t o e f = e
id_either_way false s t o e f = f

ids_either_way : (b : Bool) (xs ys : List Slot) (os : List (Option ℤ)) → map id_of xs ≡ os → map id_of ys ≡ os → map id_of (if b then xs else ys) ≡ os
ids_either_way true xs ys os e f = e
ids_either_way false xs ys os e f = f

of_either : (b : Bool) (c d : Cluster) (os : List (Option ℤ)) → ids c ≡ os → ids d ≡ os → ids (if b then c else d) ≡ os
of_either true c d os e f = e
of_either false c d os e f = f

given_up_id : (s : Slot) → (given_up s).id ≡ s.id
given_up_id s = id_either_way (is_live s) (in_phase GivenUp s) s s.id refl refl

spare_id : (s : Slot) → (spare_given_up s).id ≡ s.id
spare_id s = id_either_way (is_spare s) (given_up s) s s.id (given_up_id s) refl

opened_from_id : (p : Phase) (s : Slot) → (opened_from p s).id ≡ s.id
opened_from_id Away s = refl
opened_from_id Opening s = refl
opened_from_id Open s = refl
opened_from_id GivenUp s = refl
opened_from_id Closing s = refl

opened_id : (s : Slot) → (opened s).id ≡ s.id
opened_id s = opened_from_id s.phase s

renewed_id : (node : Node) (s : Slot) → (renewed node s).id ≡ s.id
renewed_id node s =
    id_either_way (has_address node s) s (given_up (record s { host = node.host; port = node.port })) s.id refl
    (given_up_id (record s { host = node.host; port = node.port }))

-- ---- calls that leave the ids

ids_told_by : (now : ℕ) (c : Cluster) (o : Option ℕ) → ids (tries c o).cluster ≡ ids c
ids_told_by now c None = refl
ids_told_by now c (Some n) = changed_ids (in_phase Opening) n c.slots (λ s. refl)

ids_connects : (now : ℕ) (c : Cluster) (o : Option ℕ) → ids (connects now c o).cluster ≡ ids c
ids_connects now c None = ids_told_by now c (tried now c)
ids_connects now c (Some n) = changed_ids (in_phase Opening) n c.slots (λ s. refl)

ids_closes : (now : ℕ) (c : Cluster) (o : Option ℕ) → ids (closes now c o).cluster ≡ ids c
ids_closes now c None = ids_connects now c (position (is_due now) c.slots)
ids_closes now c (Some n) = changed_ids (in_phase Closing) n c.slots (λ s. refl)

ids_connected : (n : ℕ) (c : Cluster) → ids (connected n c) ≡ ids c
ids_connected n c =
    let slots = changed opened n c.slots in
    let same : map id_of slots ≡ ids c = changed_ids opened n c.slots opened_id in
    ids_either_way (option_map_or is_broker_open (slice_get slots n) false) (map spare_given_up slots) slots (ids c)
    (mapped_ids spare_given_up slots spare_id ∙ same) same

ids_lost : (n now wait : ℕ) (c : Cluster)
    → ids (if has_none n c.slots then c else record c { slots = changed (lost_for now wait) n c.slots; metadata = metadata_lost n c.metadata }) ≡ ids c
ids_lost n now wait c =
    of_either (has_none n c.slots) c (record c { slots = changed (lost_for now wait) n c.slots; metadata = metadata_lost n c.metadata }) (ids c) refl
    (changed_ids (lost_for now wait) n c.slots (λ s. refl))

ids_heeded : (now : ℕ) (c : Cluster) (o : Option ℕ) → ids (heeded_with now c o) ≡ ids c
ids_heeded now c None = of_either (is_aged now c) (asking_again c) c (ids c) refl refl
ids_heeded now c (Some n) =
    of_either (is_late now c) (chart_refused (with_given_up n c)) c (ids c) (changed_ids given_up n c.slots given_up_id) refl

-- ---- charts

-- a slot that has this id, where one is found
holder : (slots : List Slot) (i : ℕ) (id : ℤ) → slice_get (map id_of slots) i ≡ Some (Some id) → (s : Slot) × (slice_get slots i ≡ Some s) × (s.id ≡ Some id)
holder [] i id e = let no : ⊥ = cc in absurd no
holder (s ∷ slots) zero id e = (s, refl, ap (λ (o : Option (Option ℤ)). unwrap_or o s.id) e)
holder (s ∷ slots) (suc i) id e = holder slots i id e

-- an id that no slot has is new
new_of_unknown : (slots : List Slot) (id : ℤ) → slot_of id slots ≡ None → IsNew id (map id_of slots)
new_of_unknown slots id unknown i e =
    let held = holder slots i id e in
    let s = held.0 in
    let within : i < length slots = slice_get_within slots i s held.1 in
    let all : length slots ≤ position_or_len (has_id id) slots = grind (arith, common_steps) in
    let fails : has_id id (get_or slots i s) ≡ false = fails_before_first (has_id id) slots i s (omega (arith, within, all)) in
    let is : get_or slots i s ≡ s = ap (λ (o : Option Slot). unwrap_or o s) (sym (slice_get-get_or slots i s within) ∙ held.1) in
    let own : has_id id s ≡ true = ap (λ (o : Option ℤ). option_map_or (λ x. int_eq x id) o false) held.2 ∙ (Decides-int_eq id id).1 refl in
    true≢false (sym own ∙ ap (has_id id) (sym is) ∙ fails)

new_slot_grows : (b : Bool) (node : Node) (slots : List Slot) → slot_of node.id slots ≡ None
    → Grows (map id_of slots) (map id_of (if b then slots ++ new_slot node ∷ [] else slots))
new_slot_grows true node slots unknown =
    grows_along (map id_of slots) (map id_of slots ++ Some node.id ∷ []) _ (map-append id_of slots (new_slot node ∷ []))
    (Grows.one_more (map id_of slots) node.id Grows.stays (new_of_unknown slots node.id unknown))
new_slot_grows false node slots unknown = Grows.stays

placed_grows : (node : Node) (slots : List Slot) (o : Option ℕ) → slot_of node.id slots ≡ o → Grows (map id_of slots) (map id_of (placed_at node slots o))
placed_grows node slots None unknown = new_slot_grows (nat_lt (length slots) SLOT_LIMIT) node slots unknown
placed_grows node slots (Some n) known = grows_along _ _ _ (changed_ids (renewed node) n slots (renewed_id node)) Grows.stays

all_placed_ids : (nodes : List Node) (slots : List Slot) → Grows (map id_of slots) (map id_of (all_placed nodes slots))
all_placed_ids [] slots = Grows.stays
all_placed_ids (node ∷ nodes) slots =
    grows_on _ _ _ (placed_grows node slots (slot_of node.id slots) refl) (all_placed_ids nodes (placed slots node))

of_either_grows : (b : Bool) (xs : List (Option ℤ)) (c d : Cluster) → Grows xs (ids c) → Grows xs (ids d) → Grows xs (ids (if b then c else d))
of_either_grows true xs c d g h = g
of_either_grows false xs c d g h = h

learned_grows : (nodes : List Node) (leaders : List (Option ℤ)) (now : ℕ) (c : Cluster) (o : Option ℕ) → Grows (ids c) (ids (learned_over nodes leaders now c o))
learned_grows nodes leaders now c None = Grows.stays
learned_grows nodes leaders now c (Some n) =
    let known = of_known c.leaders leaders in
    let slots = all_placed nodes c.slots in
    of_either_grows (nat_lt (length leaders) (length c.leaders)) (ids c) (chart_refused c) (charted nodes leaders n now c) Grows.stays
    (of_either_grows c.config.keep_to_one (ids c) (charted_to_one leaders n now c) (charted_by_id nodes leaders now c)
    (grows_along _ _ _ (marked_ids 0 (map (led_by_one n) known) c.slots) Grows.stays)
    (grows_along _ _ _ (marked_ids 0 (map (led_among nodes slots) known) slots) (all_placed_ids nodes c.slots)))

-- ---- any calls

same_ids : (a b c : Cluster) → b ≡ c → ids c ≡ ids a → Grows (ids a) (ids b)
same_ids a b c is same = grows_along _ _ _ (ap ids is ∙ same) Grows.stays

step_grows : (a b : Cluster) (call : Call) → Step a call b → Grows (ids a) (ids b)
step_grows a b (NextAction now) s = same_ids a b _ s (ids_closes now a (position is_given_up a.slots))
step_grows a b (Connected n) s = same_ids a b _ s (ids_connected n a)
step_grows a b (Lost n now) s = same_ids a b _ s.is (ids_lost n now s.wait a)
step_grows a b (GiveUp n) s = same_ids a b _ s (changed_ids given_up n a.slots given_up_id)
step_grows a b (Want n) s = same_ids a b _ s (changed_ids wanted n a.slots (λ t. refl))
step_grows a b (Answered n) s = same_ids a b _ s (changed_ids answered n a.slots (λ t. refl))
step_grows a b (Asked n now) s = same_ids a b _ s.1 refl
step_grows a b AskAgain s = same_ids a b _ s refl
step_grows a b RefuseChart s = same_ids a b _ s refl
step_grows a b (Heed now) s = same_ids a b _ s (ids_heeded now a a.metadata.awaited)
step_grows a b (Learn nodes leaders now) s = grows_along _ _ _ (ap ids s) (learned_grows nodes leaders now a a.metadata.awaited)

run_grows : (a b : Cluster) (calls : List Call) → Runs a calls b → Grows (ids a) (ids b)
run_grows a _ _ not_yet = Grows.stays
run_grows a _ _ (once_more b c calls call runs step) = grows_on _ _ _ (run_grows a b calls runs) (step_grows b c call step)

pub run_goes_on : (a b : Cluster) (calls : List Call) → Runs a calls b → GoesOn (ids a) (ids b)
run_goes_on a b calls runs = goes_on (ids a) (ids b) (run_grows a b calls runs)

-- addresses that are given at first have no id
none_at_first : (addresses : List Address) (i : ℕ) (id : ℤ) → slice_get (map id_of (map slot_of_address addresses)) i ≡ Some (Some id) → ⊥
none_at_first [] i id e = cc
none_at_first (a ∷ addresses) zero id e =
    let no : ◌≡◌ {A = Option ℤ} None (Some id) = ap (λ (o : Option (Option ℤ)). unwrap_or o None) e in cc
none_at_first (a ∷ addresses) (suc i) id e = none_at_first addresses i id e

pub run_is_distinct : (config : ClusterConfig) (bootstrap : List Address) (calls : List Call) (c : Cluster)
    → Runs (new_cluster config bootstrap) calls c → AreDistinct (ids c)
run_is_distinct config bootstrap calls c runs =
    distinct_grown (ids (new_cluster config bootstrap)) (ids c) (run_grows (new_cluster config bootstrap) c calls runs)
    (λ i j id at_i at_j. absurd (none_at_first bootstrap i id at_i))
