-- What a request has for each partition, and what is handed over for it when the request goes out.
use Rattle.std.proofs.Common.{◌≡◌, ℕ, ◌<◌, Bool, true, false, List, [], ◌∷◌, ◌++◌, length, Some, refl, sym, ap, ◌∙◌, subst, ⊎_elim, arith, length-append}
use Rattle.std.specs.Prelude.{if◌then◌else◌, ◌==◌, ◌||◌}
use Rattle.std.specs.List.{AllByRecursion}
use Rattle.std.proofs.lemmas.Bool.{eqb-true, eq-eqb, eqb-false}
use Rattle.std.proofs.lemmas.List.{length-set, get_or-set_same, get_or-set_other}
use Rattle.kp_log.proofs.PlaceLemmas.{In, In-nil, In-cons, In-head, In-tail}
use Rattle.kp_rules.proofs.SendingLemmas.{IsSent}
use Rattle.kp_rules.specs.HandingOver.{send_in}
use Rattle.kp_rules.specs.MaySend.{sends}
use Rattle.kp_rules.specs.Next.{Sending, flags_of}
use Rattle.kp_rules.specs.Partitions.{partition_at, is_in}
use Rattle.kp_rules.specs.Records.{Produce, HandedBatch, Partition, Core}
use Rattle.kp_rules.specs.Requesting.{partitions_in, sent_out}
use Rattle.kp_world.specs.Client.{grown_by, handed_at, with_sending, with_sendings}
use Rattle.kp_rules.proofs.PartitionLemmas.{at-changed_at}
use Rattle.kp_rules.proofs.ListLemmas.{all_weaker}
use Rattle.kp_world.proofs.ListLemmas.{all_at, all_in}

-- ---- which partitions are in a request

part_in : (xs : List Sending) (x : Sending) → In x xs → is_in x.partition (partitions_in xs) ≡ true
part_in [] x i = absurd (In-nil x i)
part_in (y ∷ xs) x i =
    ⊎_elim
    (λ (same : x ≡ y). ap (λ (b : Bool). b || is_in x.partition (partitions_in xs)) (eq-eqb y.partition x.partition (ap (λ (z : Sending). z.partition) (sym same))))
    (λ (j : In x xs). at_test (y.partition == x.partition) (part_in xs x j))
    (In-cons x y xs i)
  where
    at_test : (b : Bool) → is_in x.partition (partitions_in xs) ≡ true → b || is_in x.partition (partitions_in xs) ≡ true
    at_test true e = refl
    at_test false e = e

in_part : (xs : List Sending) (p : ℕ) → is_in p (partitions_in xs) ≡ true → (x : Sending) × In x xs × (x.partition ≡ p)
in_part [] p e = absurd cc
in_part (y ∷ xs) p e = at_test (y.partition == p) refl e (in_part xs p)
  where
    at_test : (b : Bool) → (y.partition == p) ≡ b → b || is_in p (partitions_in xs) ≡ true → (is_in p (partitions_in xs) ≡ true → (x : Sending) × In x xs × (x.partition ≡ p)) → (x : Sending) × In x (y ∷ xs) × (x.partition ≡ p)
    at_test true is e' later = (y, In-head y xs, eqb-true y.partition p is)
    at_test false is e' later = let l = later e' in (l.0, In-tail l.0 y xs l.1, l.2)

-- a partition that is in the request has a batch there
in_request : (now : ℕ) (s : Core) (xs : List Sending) (p : ℕ) → AllByRecursion (IsSent now s) xs → is_in p (partitions_in xs) ≡ true → (x : Sending) × IsSent now s x × (x.partition ≡ p)
in_request now s xs p all e =
    let x = in_part xs p e in (x.0, all_at (IsSent now s) xs x.0 all x.1, x.2)

pub not_in_request : (xs : List Sending) (p : ℕ) → is_in p (partitions_in xs) ≡ false → (x : Sending) → In x xs → x.partition ≡ p → ⊥
not_in_request xs p is x i same =
    let there : is_in p (partitions_in xs) ≡ true = subst (λ (n : ℕ). is_in n (partitions_in xs) ≡ true) same (part_in xs x i) in
    let both : false ≡ true = sym is ∙ there in
    cc

-- ---- all parts of a partition have one batch

abbrev pub Only : ℕ → HandedBatch → List Sending → Type 0
Only p b xs = AllByRecursion (λ (x : Sending). x.partition ≡ p → x.batch ≡ b) xs

only_this : (now : ℕ) (s : Core) (xs : List Sending) (x : Sending) → AllByRecursion (IsSent now s) xs → IsSent now s x → Only x.partition x.batch xs
only_this now s xs x all is = all_weaker (IsSent now s) (λ (y : Sending). y.partition ≡ x.partition → y.batch ≡ x.batch) one xs all
  where
    one : (y : Sending) → IsSent now s y → y.partition ≡ x.partition → y.batch ≡ x.batch
    one y k e =
        let mine : sends s.config (flags_of s) now (partition_at x.partition s.partitions) ≡ Some y.batch = subst (λ (n : ℕ). sends s.config (flags_of s) now (partition_at n s.partitions) ≡ Some y.batch) e k.sends in
        let both : Some y.batch ≡ Some x.batch = sym mine ∙ is.sends in
        cc

none_here : (now : ℕ) (s : Core) (p : ℕ) (b : HandedBatch) (xs : List Sending) → is_in p (partitions_in xs) ≡ false → Only p b xs
none_here now s p b xs is = all_in (λ (x : Sending). x.partition ≡ p → x.batch ≡ b) xs (λ x i same. absurd (not_in_request xs p is x i same))

-- ---- a partition's batches, with one that has gone out

pub grown_known : (b : HandedBatch) (handed : List HandedBatch) → b.number < length handed → grown_by b handed ≡ handed
grown_known b handed below = at_test (b.number == length handed) refl
  where
    at_test : (t : Bool) → (b.number == length handed) ≡ t → (if t then handed ++ b ∷ [] else handed) ≡ handed
    at_test true is = let same : b.number ≡ length handed = eqb-true b.number (length handed) is in absurd (omega arith)
    at_test false is = refl

pub grown_new : (b : HandedBatch) (handed : List HandedBatch) → b.number ≡ length handed → grown_by b handed ≡ handed ++ b ∷ []
grown_new b handed same =
    ap (λ (t : Bool). if t then handed ++ b ∷ [] else handed) (eq-eqb b.number (length handed) same)

grown_again : (b : HandedBatch) (handed : List HandedBatch) → grown_by b (grown_by b handed) ≡ grown_by b handed
grown_again b handed = at_test (b.number == length handed) refl
  where
    at_test : (t : Bool) → (b.number == length handed) ≡ t → grown_by b (if t then handed ++ b ∷ [] else handed) ≡ (if t then handed ++ b ∷ [] else handed)
    at_test true is = grown_known b (handed ++ b ∷ []) (omega (arith, eqb-true b.number (length handed) is, length-append handed (b ∷ [])))
    at_test false is = ap (λ (t : Bool). if t then handed ++ b ∷ [] else handed) is

-- ---- the batches of all partitions

pub length-with_sendings : (xs : List Sending) (handed : List (List HandedBatch))
    → length (with_sendings xs handed) ≡ length handed
unfolding with_sendings
length-with_sendings [] handed = refl
length-with_sendings (x ∷ xs) handed = length-with_sendings xs (with_sending x handed)
    ∙ length-set handed x.partition (grown_by x.batch (handed_at x.partition handed))

abbrev Within : List (List HandedBatch) → List Sending → Type 0
Within handed xs = AllByRecursion (λ (x : Sending). x.partition < length handed) xs

pub at-with_sendings : (xs : List Sending) (handed : List (List HandedBatch)) (p : ℕ) (b : HandedBatch)
    → Only p b xs → Within handed xs
    → handed_at p (with_sendings xs handed)
    ≡ (if is_in p (partitions_in xs) then grown_by b (handed_at p handed) else handed_at p
    handed)
unfolding with_sendings
at-with_sendings [] handed p b only within = refl
at-with_sendings (x ∷ xs) handed p b only within =
    let size : length (with_sending x handed)
    ≡ length handed = length-set handed x.partition
    (grown_by x.batch (handed_at x.partition handed)) in
    let more : Within (with_sending x handed) xs = all_weaker
    (λ (y : Sending). y.partition < length handed)
    (λ (y : Sending). y.partition < length (with_sending x handed))
    (λ y h. subst (λ (n : ℕ). y.partition < n) (sym size) h) xs within.1 in
    at_test (x.partition == p) refl (is_in p (partitions_in xs))
    (at-with_sendings xs (with_sending x handed) p b only.1 more)
  where
    same : x.partition ≡ p → handed_at p (with_sending x handed) ≡ grown_by b (handed_at p handed)
    same e =
        let here : handed_at x.partition (with_sending x handed)
        ≡ grown_by x.batch (handed_at x.partition handed) = get_or-set_same handed x.partition
        (grown_by x.batch (handed_at x.partition handed)) [] within.0 in
        let moved : handed_at p (with_sending x handed)
        ≡ grown_by x.batch (handed_at p handed) = subst
        (λ (n : ℕ). handed_at n (with_sending x handed) ≡ grown_by x.batch (handed_at n handed))
        e here in
        moved ∙ ap (λ (c : HandedBatch). grown_by c (handed_at p handed)) (only.0 e)

    other : (x.partition ≡ p → ⊥) → handed_at p (with_sending x handed) ≡ handed_at p handed
    other ne = get_or-set_other handed x.partition p
        (grown_by x.batch (handed_at x.partition handed)) [] (λ (e : p ≡ x.partition). ne (sym e))

    at_test : (t : Bool) → (x.partition == p) ≡ t → (u : Bool)
        → handed_at p (with_sendings xs (with_sending x handed))
        ≡ (if u then grown_by b (handed_at p (with_sending x handed)) else handed_at p
        (with_sending x handed))
        → handed_at p (with_sendings xs (with_sending x handed))
        ≡ (if t || u then grown_by b (handed_at p handed) else handed_at p handed)
    at_test true is true e = e ∙ ap (grown_by b) (same (eqb-true x.partition p is))
        ∙ grown_again b (handed_at p handed)
    at_test true is false e = e ∙ same (eqb-true x.partition p is)
    at_test false is true e = e ∙ ap (grown_by b) (other (eqb-false x.partition p is))
    at_test false is false e = e ∙ other (eqb-false x.partition p is)

-- ---- a partition when a request goes out

-- It is not in the request, or a batch of it goes out.
pub record OfPart (Q : Partition → List HandedBatch → Type 0) (now : ℕ) (s : Core) (xs : List Sending) (handed : List (List HandedBatch)) (p : ℕ) : Type 0 where
  pub passed_by : is_in p (partitions_in xs) ≡ false → Q (partition_at p s.partitions) (handed_at p handed)
  pub sent : (b : HandedBatch) → sends s.config (flags_of s) now (partition_at p s.partitions) ≡ Some b → Only p b xs → Q (send_in s.correlation (partition_at p s.partitions)) (grown_by b (handed_at p handed))

pub at_sent_out : (Q : Partition → List HandedBatch → Type 0) (node now : ℕ) (s : Core) (xs : List Sending) (handed : List (List HandedBatch)) (p : ℕ) → AllByRecursion (IsSent now s) xs → length s.partitions ≡ length handed → p < length s.partitions → OfPart Q now s xs handed p
    → Q (partition_at p (sent_out node now s (Produce xs)).partitions) (handed_at p (with_sendings xs handed))
at_sent_out Q node now s xs handed p all size within c = at_test (is_in p (partitions_in xs)) refl
  where
    inside : Within handed xs
    inside = all_weaker (IsSent now s) (λ (x : Sending). x.partition < length handed) (λ x k. subst (λ (n : ℕ). x.partition < n) size k.there) xs all

    changed : partition_at p (sent_out node now s (Produce xs)).partitions ≡ (if is_in p (partitions_in xs) then send_in s.correlation (partition_at p s.partitions) else partition_at p s.partitions)
    changed = at-changed_at (partitions_in xs) (λ q t. send_in s.correlation t) s.partitions p within

    both : (t : Bool) (b : HandedBatch) → is_in p (partitions_in xs) ≡ t → Only p b xs → Q (if t then send_in s.correlation (partition_at p s.partitions) else partition_at p s.partitions) (if t then grown_by b (handed_at p handed) else handed_at p handed)
        → Q (partition_at p (sent_out node now s (Produce xs)).partitions) (handed_at p (with_sendings xs handed))
    both t b is only q =
        subst (λ (u : Partition). Q u (handed_at p (with_sendings xs handed))) (sym (changed ∙ ap (λ (i : Bool). if i then send_in s.correlation (partition_at p s.partitions) else partition_at p s.partitions) is))
        (subst (Q (if t then send_in s.correlation (partition_at p s.partitions) else partition_at p s.partitions)) (sym (at-with_sendings xs handed p b only inside ∙ ap (λ (i : Bool). if i then grown_by b (handed_at p handed) else handed_at p handed) is)) q)

    at_test : (t : Bool) → is_in p (partitions_in xs) ≡ t → Q (partition_at p (sent_out node now s (Produce xs)).partitions) (handed_at p (with_sendings xs handed))
    at_test true is =
        let x = in_request now s xs p all is in
        let goes : sends s.config (flags_of s) now (partition_at p s.partitions) ≡ Some x.0.batch = subst (λ (n : ℕ). sends s.config (flags_of s) now (partition_at n s.partitions) ≡ Some x.0.batch) x.2 x.1.sends in
        let only : Only p x.0.batch xs = subst (λ (n : ℕ). Only n x.0.batch xs) x.2 (only_this now s xs x.0 all x.1) in
        both true x.0.batch is only (c.sent x.0.batch goes only)
    at_test false is =
        let none : HandedBatch = record { number = 0; id = 0; sequence = 0; items = [] } in
        both false none is (none_here now s p none xs is) (c.passed_by is)
