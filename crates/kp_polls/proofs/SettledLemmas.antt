-- What senders had accepted, once their lanes are settled.
use Rattle.std.proofs.Common.{◌≡◌, ◌≢◌, ℕ, zero, suc, ◌+◌, ◌<◌, ◌≤◌, Bool, true, false, List, [], ◌∷◌, ◌++◌, length, map, get_or, refl, sym, ap, ◌∙◌, subst, ⊎_elim, inl, inr, ◌⊎◌, append-nil, append_assoc, arith, Contains}
use Rattle.std.specs.Prelude.{All, nat_le, replicate, slice_index_or, ◌==◌, if◌then◌else◌}
use Rattle.std.proofs.lemmas.Bool.{cases_eq, eq-eqb, leb-true, ne_eqb}
use Rattle.std.proofs.lemmas.Bool.Decides.{nat_tests}
use Rattle.std.proofs.lemmas.List.{length-map, length-replicate}
use Rattle.std.proofs.lemmas.List.Elements.{All-contains}
use Rattle.kp_accum.specs.declared.config.Config.{Config}
use Rattle.kp_accum.specs.declared.item.Item.{Item}
use Rattle.kp_accum.specs.Queue.{charge_of, size_of}
use Rattle.kp_accum.proofs.AccumLemmas.{within-is}
use Rattle.kp_connection.specs.Wire.{Told}
use Rattle.kp_engine.specs.Agreement.{Serves}
use Rattle.kp_engine.specs.declared.exchange.Exchange.{Exchange}
use Rattle.kp_headline.specs.Offering.{AllOffered, AreOffered, IsOffered}
use Rattle.kp_engine.proofs.FreshLemmas.{fresh_agrees}
use Rattle.kp_lanes.specs.Entries.{IsNext, count_of}
use Rattle.kp_lanes.specs.Intake.{intake_limits, lanes_of, taken_of}
use Rattle.kp_lanes.specs.Limits.{AreInPlace, Meets}
use Rattle.kp_lanes.specs.Sender.{accepted, all_accepted, finished_number, limits_of, sender_number}
use Rattle.kp_lanes.specs.Settling.{Adds, Differ, IsInPlace, left_items, numbers}
use Rattle.kp_lanes.specs.declared.intake.Intake.{Intake}
use Rattle.kp_lanes.specs.declared.limits.Limits.{Limits}
use Rattle.kp_lanes.specs.declared.sender.Finished.{Finished}
use Rattle.kp_lanes.specs.declared.sender.Sender.{Sender}
use Rattle.kp_lanes.specs.declared.settling.Settled.{Settled}
use Rattle.kp_rules.specs.Auditing.{opened, unaudited, without_audits}
use Rattle.kp_rules.specs.Calls.{Call}
use Rattle.kp_rules.specs.Opening.{new_core}
use Rattle.kp_rules.specs.Partitions.{new_partition}
use Rattle.kp_rules.proofs.ListLemmas.{contains_head, contains_tail}
use Rattle.kp_world.specs.Accepting.{for_partition}
use Rattle.kp_world.specs.World.{Opening}
use Rattle.kp_polls.specs.Polling.{HaveAccepted, Polling, core_of}
use Rattle.kp_polls.specs.Settled.{AreSettled, HadAccepted, IsSent}
use Rattle.kp_polls.proofs.AroundLemmas.{now_senders, now_sized, served}

-- ---- numbers by place

placed : (p : ℕ) (items : List Item) → count_of p items ≡ length (for_partition p items)
placed p [] = refl
placed p (x ∷ items) = ⊎_elim
    (λ (same : x.partition ≡ p). let e : (x.partition == p) ≡ true = eq-eqb x.partition p same in
    let r : count_of p items ≡ length (for_partition p items) = placed p items in rw e (omega (arith, r)))
    (λ (other : x.partition ≢ p). let e : (x.partition == p) ≡ false = ne_eqb x.partition p other in
    let r : count_of p items ≡ length (for_partition p items) = placed p items in rw e (omega (arith, r)))
    (cases_eq x.partition p)

one_more : (o : Opening) (s : ℕ) (earlier items : List Item) (x : Item) → AreOffered o s earlier items → IsOffered o s (earlier ++ items) x
    → AreOffered o s earlier (items ++ x ∷ [])
one_more o s earlier [] x h k = (subst (λ (xs : List Item). IsOffered o s xs x) (append-nil earlier) k, tt)
one_more o s earlier (i ∷ items) x h k =
    (h.0, one_more o s (earlier ++ i ∷ []) items x h.1 (subst (λ (xs : List Item). IsOffered o s xs x) (sym (append_assoc earlier (i ∷ []) items)) k))

partitions_in : (o : Opening) (audits : Bool) → length (opened audits (new_core o.config o.names o.partitions o.senders o.id o.correlation)).partitions ≡ o.partitions
unfolding new_core without_audits
partitions_in o true = length-replicate o.partitions (new_partition o.id)
partitions_in o false = length-map (replicate o.partitions (new_partition o.id)) unaudited ∙ length-replicate o.partitions (new_partition o.id)

config_in : (o : Opening) (audits : Bool) → (opened audits (new_core o.config o.names o.partitions o.senders o.id o.correlation)).config ≡ o.config
unfolding new_core without_audits
config_in o true = refl
config_in o false = refl

-- what is in its place may be offered
is_offered : (o : Opening) (limits : Limits) (s : ℕ) (earlier : List Item) (i : Item) → Serves (core_of o) limits → Meets limits s i → IsNext earlier i → IsOffered o s earlier i
unfolding size_of
is_offered o limits s earlier i serves meets next =
    let charge : nat_le (charge_of i) limits.max_record ≡ true = sym (within-is (charge_of i) _ limits.max_record refl serves.size) ∙ grind (arith, nat_tests, meets.its_charge) in
    let small : charge_of i ≤ limits.max_record = leb-true (charge_of i) limits.max_record charge in
    let many : length (core_of o).partitions ≡ o.partitions = partitions_in o o.audits in
    let same : (core_of o).config ≡ o.config = config_in o o.audits in record {
      sender = meets.its_sender;
      partition = omega (arith, meets.its_partition, serves.partitions, many);
      number = next ∙ placed i.partition earlier;
      fits_request = subst (λ (c : Config). charge_of i ≤ c.max_request_size) same (omega (arith, small, serves.request));
      fits_memory = subst (λ (c : Config). charge_of i ≤ c.buffer_memory) same (omega (arith, small, serves.memory));
    }

pub sent_is_offered : (o : Opening) (s : Sender) (i : Item) → Serves (core_of o) (limits_of s) → AreOffered o (sender_number s) [] (accepted s) → IsSent s i
    → AreOffered o (sender_number s) [] (accepted s ++ i ∷ [])
sent_is_offered o s i serves before sent =
    one_more o (sender_number s) [] (accepted s) i before (is_offered o (limits_of s) (sender_number s) (accepted s) i serves
    (record { its_sender = sent.sender; its_partition = sent.accepts.there; its_charge = sent.accepts.fits }) sent.number)

offered_in_place : (o : Opening) (limits : Limits) (s : ℕ) (all : List Item) → Serves (core_of o) limits → AreInPlace limits s all → (earlier items : List Item) → all ≡ earlier ++ items
    → AreOffered o s earlier items
offered_in_place o limits s all serves h earlier [] is = tt
offered_in_place o limits s all serves h earlier (i ∷ items) is =
    let its = h.each earlier i items is in (
      is_offered o limits s earlier i serves its.0 its.1,
      offered_in_place o limits s all serves h (earlier ++ i ∷ []) items (is ∙ sym (append_assoc earlier (i ∷ []) items)),
    )

-- ---- among so many numbers that differ and are below so many, each of these stands

abbrev Nowhere : ℕ → List ℕ → Type 0
Nowhere n [] = Unit {0}
Nowhere n (m ∷ ns) = (m ≢ n) × Nowhere n ns

abbrev Apart : List ℕ → Type 0
Apart [] = Unit {0}
Apart (n ∷ ns) = Nowhere n ns × Apart ns

abbrev Below : ℕ → List ℕ → Type 0
Below n [] = Unit {0}
Below n (m ∷ ns) = (m < n) × Below n ns

nowhere_of : (n : ℕ) (ns : List ℕ) → ((k : ℕ) → k < length ns → n ≢ get_or ns k 0) → Nowhere n ns
nowhere_of n [] h = tt
nowhere_of n (m ∷ ns) h = (λ same. h 0 (omega arith) (sym same), nowhere_of n ns (λ k near. h (suc k) (omega (arith, near))))

apart_of : (ns : List ℕ) → Differ ns → Apart ns
apart_of [] d = tt
apart_of (n ∷ ns) d = (
  nowhere_of n ns (λ k near. d 0 (suc k) (omega arith) (omega (arith, near))),
  apart_of ns (λ j k less near. d (suc j) (suc k) (omega (arith, less)) (omega (arith, near))),
)

-- x in place of n
abbrev moved : ℕ → ℕ → ℕ → ℕ
moved n x y = if y == n then x else y

moved_here : (n x y : ℕ) → y ≡ n → moved n x y ≡ x
moved_here n x y same = let e : (y == n) ≡ true = eq-eqb y n same in rw e refl

moved_else : (n x y : ℕ) → y ≢ n → moved n x y ≡ y
moved_else n x y other = let e : (y == n) ≡ false = ne_eqb y n other in rw e refl

moved_below : (n x : ℕ) (ns : List ℕ) → x < suc n → Nowhere x ns → Below (suc n) ns → Below n (map (moved n x) ns)
moved_below n x [] low none below = tt
moved_below n x (y ∷ ns) low none below = (
  ⊎_elim
      (λ (same : y ≡ n). let e = moved_here n x y same in let other : y ≢ x = none.0 in omega (arith, e, same, other, low))
      (λ (other : y ≢ n). let e = moved_else n x y other in let near : y < suc n = below.0 in omega (arith, e, other, near))
      (cases_eq y n),
  moved_below n x ns low none.1 below.1,
)

moved_nowhere : (n x z : ℕ) (ns : List ℕ) → z ≢ x → Nowhere x ns → Nowhere z ns → Nowhere (moved n x z) (map (moved n x) ns)
moved_nowhere n x z [] other none_x none_z = tt
moved_nowhere n x z (y ∷ ns) other none_x none_z = (
  λ same. ⊎_elim
      (λ (at_y : y ≡ n). ⊎_elim
      (λ (at_z : z ≡ n). none_z.0 (at_y ∙ sym at_z))
      (λ (not_z : z ≢ n). other (sym (moved_else n x z not_z) ∙ sym same ∙ moved_here n x y at_y))
      (cases_eq z n))
      (λ (not_y : y ≢ n). ⊎_elim
      (λ (at_z : z ≡ n). none_x.0 (sym (moved_else n x y not_y) ∙ same ∙ moved_here n x z at_z))
      (λ (not_z : z ≢ n). none_z.0 (sym (moved_else n x y not_y) ∙ same ∙ moved_else n x z not_z))
      (cases_eq z n))
      (cases_eq y n),
  moved_nowhere n x z ns other none_x.1 none_z.1,
)

moved_apart : (n x : ℕ) (ns : List ℕ) → Nowhere x ns → Apart ns → Apart (map (moved n x) ns)
moved_apart n x [] none apart = tt
moved_apart n x (y ∷ ns) none apart = (moved_nowhere n x y ns none.0 none.1 apart.0, moved_apart n x ns none.1 apart.1)

-- no more than n numbers below n differ
too_many : (n : ℕ) (ns : List ℕ) → n < length ns → Below n ns → Apart ns → ⊥
too_many n [] long below apart = omega (arith, long)
too_many zero (x ∷ ns) long below apart = let low : x < 0 = below.0 in omega (arith, low)
too_many (suc n) (x ∷ ns) long below apart = too_many n (map (moved n x) ns)
    (let wide : length (map (moved n x) ns) ≡ length ns = length-map ns (moved n x) in omega (arith, wide, long))
    (moved_below n x ns below.0 apart.0 below.1)
    (moved_apart n x ns apart.0 apart.1)

-- ---- each sender is among those that have finished

record IsAmong (i : ℕ) (fs : List Finished) : Type 0 where
  its : Finished
  there : Contains fs its
  number : finished_number its ≡ i

sought : (i : ℕ) (fs : List Finished) → IsAmong i fs ⊎ Nowhere i (numbers fs)
sought i [] = inr tt
sought i (f ∷ fs) = ⊎_elim
    (λ (same : finished_number f ≡ i). inl (record { its = f; there = contains_head f fs; number = same }))
    (λ (other : finished_number f ≢ i). ⊎_elim
    (λ (s : IsAmong i fs). inl (record { its = s.its; there = contains_tail s.its f fs s.there; number = s.number }))
    (λ (none : Nowhere i (numbers fs)). inr (other, none))
    (sought i fs))
    (cases_eq (finished_number f) i)

numbers_below : (n : ℕ) (fs : List Finished) → All (λ f. finished_number f < n) fs → Below n (numbers fs)
numbers_below n [] all = tt
numbers_below n (f ∷ fs) all = (all 0 f (omega arith), numbers_below n fs (λ k d near. all (suc k) d (omega (arith, near))))

module _ (o : Opening) (finished : List Finished) (s : Settled) (lists : List (List Item)) where
  module _ (lanes : Intake) (wide : length (lanes_of lanes) ≡ o.senders) (settled : AreSettled lanes finished s) (had : HadAccepted o finished lists) (i : ℕ) (near : i < o.senders) where
    abbrev among : IsAmong i finished
    among = ⊎_elim
        (λ (f : IsAmong i finished). f)
        (λ (none : Nowhere i (numbers finished)).
        let long : length (numbers finished) ≡ length finished = length-map finished finished_number in
        let once : length finished ≡ length (lanes_of lanes) = settled.each_once.0 in
        absurd (too_many o.senders (i ∷ numbers finished) (omega (arith, long, once, wide))
        (near, numbers_below o.senders finished (λ k d there. let of_lane = settled.theirs k d there in let low : finished_number (get_or finished k d) < length (lanes_of lanes) = of_lane.0 in omega (arith, low, wide)))
        (none, apart_of (numbers finished) settled.each_once.1)))
        (sought i finished)

    abbrev f : Finished
    f = among.its

    its_list : slice_index_or lists i [] ≡ all_accepted f
    its_list = ap (λ (n : ℕ). slice_index_or lists n []) (sym among.number)
        ∙ All-contains (λ (g : Finished). slice_index_or lists (finished_number g) [] ≡ all_accepted g) finished f had.all among.there

    pub taken_or_left : slice_index_or lists i [] ≡ taken_of lanes i ++ slice_index_or (left_items s.left.items) i []
    taken_or_left = its_list
        ∙ (All-contains (Adds lanes s) finished f settled.adds among.there).items
        ∙ ap (λ (n : ℕ). taken_of lanes n ++ slice_index_or (left_items s.left.items) n []) among.number

    its_offered : Serves (core_of o) (intake_limits lanes) → AreOffered o i [] (slice_index_or lists i [])
    its_offered serves = subst (AreOffered o i []) (sym its_list) (subst (λ (n : ℕ). AreOffered o n [] (all_accepted f)) among.number
        (offered_in_place o (intake_limits lanes) (finished_number f) (all_accepted f) serves
        (All-contains (λ (g : Finished). IsInPlace (intake_limits lanes) g) finished f settled.in_place among.there) [] (all_accepted f) refl))

all_offered : (o : Opening) (s : ℕ) (lists : List (List Item)) → ((k : ℕ) → k < length lists → AreOffered o (s + k) [] (slice_index_or lists k [])) → AllOffered o s lists
all_offered o s [] h = tt
all_offered o s (items ∷ lists) h = (
  subst (λ (n : ℕ). AreOffered o n [] items) (omega arith) (h 0 (omega arith)),
  all_offered o (s + 1) lists (λ k near. subst (λ (n : ℕ). AreOffered o n [] (slice_index_or lists k [])) (omega arith) (h (suc k) (omega (arith, near)))),
)

-- all that was accepted may be offered
pub all_are_offered : (o : Opening) (finished : List Finished) (s : Settled) (lists : List (List Item)) (lanes : Intake) → length (lanes_of lanes) ≡ o.senders → AreSettled lanes finished s
    → HadAccepted o finished lists → Serves (core_of o) (intake_limits lanes) → AllOffered o 0 lists
all_are_offered o finished s lists lanes wide settled had serves = all_offered o 0 lists (λ k near.
    let long : length lists ≡ o.senders = had.senders in
    let same : k ≡ 0 + k = omega arith in
    subst (λ (n : ℕ). AreOffered o n [] (slice_index_or lists k [])) same
    (its_offered o finished s lists lanes wide settled had k (omega (arith, near, long)) serves))

module _ {S : Type 0} (answers : Told S) (o : Opening) (calls : List Call) (x : Exchange) (finished : List Finished) (s : Settled) (lists : List (List Item))
    (p : Polling answers o calls x) (settled : AreSettled x.intake finished s) (had : HadAccepted o finished lists) where
  wide : length (lanes_of x.intake) ≡ o.senders
  wide = now_sized answers o calls x p ∙ now_senders answers o calls x p

  pub accepted_is : (i : ℕ) → i < o.senders → slice_index_or lists i [] ≡ taken_of x.intake i ++ slice_index_or (left_items s.left.items) i []
  accepted_is i near = taken_or_left o finished s lists x.intake wide settled had i near

  serves : Serves (core_of o) (intake_limits x.intake)
  serves = subst (Serves (core_of o)) (sym ((served answers o calls x p).lanes.limits ∙ ap intake_limits p.is_new.intake)) (fresh_agrees (core_of o) p.intake p.may_turn).serves

  pub have_accepted : HaveAccepted o x lists
  have_accepted = record {
    senders = had.senders;
    offered = all_are_offered o finished s lists x.intake wide settled had serves;
    taken = λ i near. (slice_index_or (left_items s.left.items) i [], sym (accepted_is i near));
  }
