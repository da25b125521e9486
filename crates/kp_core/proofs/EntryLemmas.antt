-- What stands for a partition's entries, against what the rules find among them.
use Rattle.std.proofs.Common.{◌≡◌, ◌∙◌, ℕ, ◌<◌, Bool, true, false, Bor, List, [], ◌∷◌, ◌++◌, length, refl, sym, ap, subst, eqb-true, arith}
use Rattle.std.specs.Prelude.{flat_map, slice_set, ◌&&◌, ◌==◌}
use Rattle.std.specs.List.{AllByRecursion, list_all}
use Rattle.std.proofs.lemmas.Bool.{and_parts}
use Rattle.kp_frames.specs.declared.produce.PartitionProduceResponse.{PartitionProduceResponse}
use Rattle.kp_frames.specs.declared.produce.ProduceResponse.{ProduceResponse}
use Rattle.kp_rules.specs.Attempts.{awaiting}
use Rattle.kp_rules.specs.Mismatch.{answers_batches, entries_for, entries_of, has_offsets, is_one_topic}
use Rattle.kp_rules.specs.Partitions.{changed_at, partition_at}
use Rattle.kp_rules.specs.Records.{Partition, Core, Effect, Told}
use Rattle.kp_rules.specs.Settling.{left_alone}
use Rattle.kp_rules.proofs.CallLemmas.{by_entries}
use Rattle.kp_rules.proofs.PartitionLemmas.{changed_more, changed_none}
use Rattle.kp_core.specs.declared.machine.matching.Entry.{Entry}
use Rattle.kp_core.specs.declared.machine.matching.Entry.TheVariants.{Missing, One, Several}
use Rattle.kp_core.specs.Hearing.{entry_at, offsets_by, settled_by}
use Rattle.kp_core.specs.Matching.{AreEntries, IsEntry, answers_one}

-- ---- one partition's

pub settled_alone : (now k : ℕ) (e : Entry) (t : Partition) → ((x : Bor PartitionProduceResponse) → e ≡ One x → ⊥)
    → settled_by now k e t ≡ left_alone t
settled_alone now k Missing t other = refl
settled_alone now k (One x) t other = absurd (other x refl)
settled_alone now k Several t other = refl

settled_so : (now k : ℕ) (e : Entry) (ys : List PartitionProduceResponse) (t : Partition) → IsEntry e ys → (length ys == 1) ≡ true
    → settled_by now k e t ≡ by_entries now k t ys
settled_so now k Missing ys t is one = ap (by_entries now k t) (sym is)
settled_so now k (One x) ys t is one = ap (by_entries now k t) (sym is)
settled_so now k Several ys t is one = absurd (omega (arith, is, eqb-true (length ys) 1 one))

offsets_so : (k : ℕ) (e : Entry) (ys : List PartitionProduceResponse) (t : Partition) → IsEntry e ys → list_all (has_offsets (awaiting k t)) ys ≡ true
    → offsets_by k e t ≡ true
offsets_so k Missing ys t is all = refl
offsets_so k (One x) ys t is all =
    (and_parts (has_offsets (awaiting k t) x.now) true (subst (λ (zs : List PartitionProduceResponse). list_all (has_offsets (awaiting k t)) zs ≡ true) is all)).0
offsets_so k Several ys t is all = refl

-- ---- several partitions'

-- each of these is settled as by the response's entries
abbrev pub AreAlike : ℕ → ℕ → List Entry → ProduceResponse → List ℕ → Type 0
AreAlike now k found r ps = AllByRecursion (λ p. (t : Partition) → settled_by now k (entry_at p found) t ≡ by_entries now k t (entries_for p r)) ps

pub alike : (now k : ℕ) (found : List Entry) (r : ProduceResponse) (ts : List Partition) (n : ℕ) (ps : List ℕ) → AreEntries n (entries_of r) found
    → AllByRecursion (λ p. p < n) ps → list_all (λ p. answers_one (entries_of r) k p (partition_at p ts)) ps ≡ true → AreAlike now k found r ps
alike now k found r ts n [] are there all = tt
alike now k found r ts n (p ∷ ps) are there all =
    let parts = and_parts (answers_one (entries_of r) k p (partition_at p ts)) (list_all (λ q. answers_one (entries_of r) k q (partition_at q ts)) ps) all in
    let one = (and_parts (length (entries_for p r) == 1) (list_all (has_offsets (awaiting k (partition_at p ts))) (entries_for p r)) parts.0).0 in
    (λ t. settled_so now k (entry_at p found) (entries_for p r) t (are.each p Missing there.0) one, alike now k found r ts n ps are there.1 parts.1)

pub offsets_there : (k : ℕ) (found : List Entry) (r : ProduceResponse) (ts : List Partition) (n : ℕ) (ps : List ℕ) → AreEntries n (entries_of r) found
    → AllByRecursion (λ p. p < n) ps → list_all (λ p. answers_one (entries_of r) k p (partition_at p ts)) ps ≡ true
    → AllByRecursion (λ p. offsets_by k (entry_at p found) (partition_at p ts) ≡ true) ps
offsets_there k found r ts n [] are there all = tt
offsets_there k found r ts n (p ∷ ps) are there all =
    let parts = and_parts (answers_one (entries_of r) k p (partition_at p ts)) (list_all (λ q. answers_one (entries_of r) k q (partition_at q ts)) ps) all in
    let offsets = (and_parts (length (entries_for p r) == 1) (list_all (has_offsets (awaiting k (partition_at p ts))) (entries_for p r)) parts.0).1 in (
      offsets_so k (entry_at p found) (entries_for p r) (partition_at p ts) (are.each p Missing there.0) offsets,
      offsets_there k found r ts n ps are there.1 parts.1,
    )

-- ---- two rules that are alike at these partitions

pub changed_alike : (f g : ℕ → Partition → Effect) (ts : List Partition) (ps : List ℕ) → AllByRecursion (λ p. (t : Partition) → f p t ≡ g p t) ps
    → changed_at ps (λ p t. (f p t).after) ts ≡ changed_at ps (λ p t. (g p t).after) ts
changed_alike f g ts [] same = changed_none (λ p t. (f p t).after) ts ∙ sym (changed_none (λ p t. (g p t).after) ts)
changed_alike f g ts (p ∷ ps) same =
    changed_more p ps (λ q t. (f q t).after) ts
    ∙ ap (λ (us : List Partition). slice_set us p (f p (partition_at p ts)).after) (changed_alike f g ts ps same.1)
    ∙ ap (λ (x : Effect). slice_set (changed_at ps (λ q t. (g q t).after) ts) p x.after) (same.0 (partition_at p ts))
    ∙ sym (changed_more p ps (λ q t. (g q t).after) ts)

pub told_alike : (f g : ℕ → Partition → Effect) (ts : List Partition) (ps : List ℕ) → AllByRecursion (λ p. (t : Partition) → f p t ≡ g p t) ps
    → flat_map (λ p. (f p (partition_at p ts)).told) ps ≡ flat_map (λ p. (g p (partition_at p ts)).told) ps
told_alike f g ts [] same = refl
told_alike f g ts (p ∷ ps) same =
    ap (λ (x : Effect). x.told ++ flat_map (λ q. (f q (partition_at q ts)).told) ps) (same.0 (partition_at p ts))
    ∙ ap (λ (rest : List Told). (g p (partition_at p ts)).told ++ rest) (told_alike f g ts ps same.1)

-- ---- all tests of a response

two_pairs : (a b c d : Bool) → ((a && b) && (c && d)) ≡ ((a && c) && (b && d))
two_pairs false b c d = refl
two_pairs true true true d = refl
two_pairs true true false d = refl
two_pairs true false true d = refl
two_pairs true false false d = refl

both_tests : (f g : ℕ → Bool) (ps : List ℕ) → list_all (λ p. f p && g p) ps ≡ (list_all f ps && list_all g ps)
both_tests f g [] = refl
both_tests f g (p ∷ ps) = ap (λ (b : Bool). (f p && g p) && b) (both_tests f g ps) ∙ two_pairs (f p) (g p) (list_all f ps) (list_all g ps)

last_two : (a b c : Bool) → ((a && b) && c) ≡ (a && (b && c))
last_two true b c = refl
last_two false b c = refl

pub answers-is : (k : ℕ) (ps : List ℕ) (s : Core) (r : ProduceResponse)
    → answers_batches k ps s r
    ≡ ((is_one_topic s.names.topic r.topics && (length (entries_of r) == length ps)) && list_all (λ p. answers_one (entries_of r) k p (partition_at p s.partitions)) ps)
unfolding answers_batches
answers-is k ps s r =
    last_two (is_one_topic s.names.topic r.topics && (length (entries_of r) == length ps)) (list_all one ps) (list_all offsets ps)
    ∙ ap (λ (b : Bool). (is_one_topic s.names.topic r.topics && (length (entries_of r) == length ps)) && b) (sym (both_tests one offsets ps))
  where
    one : ℕ → Bool
    one p = length (entries_for p r) == 1

    offsets : ℕ → Bool
    offsets p = list_all (has_offsets (awaiting k (partition_at p s.partitions))) (entries_for p r)
