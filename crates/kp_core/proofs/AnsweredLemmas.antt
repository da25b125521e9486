-- A response is one to its request, and its entries are settled.
use Rattle.std.proofs.Common.{◌≡◌, ◌∙◌, ℕ, ◌-◌, ◌<◌, Bool, true, List, length, sym, ap, subst}
use Rattle.std.specs.Prelude.{filter, flat_map, ◌&&◌, ◌==◌}
use Rattle.std.specs.List.{AllByRecursion, list_all}
use Rattle.kp_frames.specs.declared.produce.PartitionProduceResponse.{PartitionProduceResponse}
use Rattle.kp_frames.specs.declared.produce.ProduceResponse.{ProduceResponse}
use Rattle.kp_frames.specs.declared.response.Response.{Response}
use Rattle.kp_rules.specs.Attempts.{is_live}
use Rattle.kp_rules.specs.InOrder.{AreDistinct, IsInOrder}
use Rattle.kp_rules.specs.Mismatch.{entries_for, entries_of}
use Rattle.kp_rules.specs.Partitions.{changed_at, partition_at}
use Rattle.kp_rules.specs.Records.{Partition, Produce, Request, Core, Told}
use Rattle.kp_rules.specs.Replies.{settle_batches}
use Rattle.kp_rules.specs.Telling.{at_these, with_partitions}
use Rattle.kp_rules.proofs.CallLemmas.{by_entries}
use Rattle.kp_parts.specs.Desk.{Desk, Covers, all_reports, tell_desk}
use Rattle.kp_core.specs.declared.machine.matching.Entry.{Entry}
use Rattle.kp_core.specs.Hearing.{entry_at, offsets_by, settled_by}
use Rattle.kp_core.specs.Keeping.{IsKept}
use Rattle.kp_core.specs.Matching.{AreEntries, answers_one}
use Rattle.kp_core.proofs.EntryLemmas.{AreAlike, alike, changed_alike, offsets_there, told_alike}
use Rattle.kp_core.proofs.KeepingLemmas.{covers_told, told_kept}
use Rattle.kp_core.proofs.LeavingLemmas.{settled_left}
use Rattle.kp_core.proofs.ReplyLemmas.{IsHeard, asked}
use Rattle.kp_core.proofs.SettledLemmas.{count_told, settled-is}

-- ---- it is one to the request

-- These partitions are there, each of them once, and have one entry each, for which this stands.
pub record AreAnswered (s : Core) (k : ℕ) (ps : List ℕ) (y : ProduceResponse) (found : List Entry) : Type 0 where
  pub there : AllByRecursion (λ p. p < length s.partitions) ps
  pub once : AreDistinct ps
  pub entries : AreEntries (length s.partitions) (entries_of y) found
  pub each : list_all (λ p. answers_one (entries_of y) k p (partition_at p s.partitions)) ps ≡ true

pub are_answered : {x : Response} {s : Core} {k : ℕ} {r : Request} {ps : List ℕ} {y : ProduceResponse} {found : List Entry} → IsInOrder s → IsHeard x s k r
    → r.demand ≡ Produce ps → AreEntries (length s.partitions) (entries_of y) found
    → list_all (λ p. answers_one (entries_of y) k p (partition_at p s.partitions)) ps ≡ true → AreAnswered s k ps y found
are_answered {x} {s} {k} {r} {ps} h heard has entries each =
    let at = asked x.correlation s r ps h heard.named has in
    record { there = at.0; once = at.1; entries = entries; each = each }

-- what was tested is what the rules test
pub each-is : {ps qs : List ℕ} {us : List Partition} {found made : List Entry} {b : Bool} (s : Core) (k : ℕ) (y : ProduceResponse) → us ≡ s.partitions
    → qs ≡ ps → made ≡ found → AreEntries (length s.partitions) (entries_of y) found
    → ((xs : List PartitionProduceResponse) → AreEntries (length us) xs made → b ≡ list_all (λ p. answers_one xs k p (partition_at p us)) qs)
    → b ≡ list_all (λ p. answers_one (entries_of y) k p (partition_at p s.partitions)) ps
each-is {ps} {qs} {us} {found} {made} s k y at_parts at_places at_entries entries says =
    says (entries_of y) (subst (λ (ts : List Partition). AreEntries (length ts) (entries_of y) made) (sym at_parts)
    (subst (AreEntries (length s.partitions) (entries_of y)) (sym at_entries) entries))
    ∙ ap (λ (ts : List Partition). list_all (λ p. answers_one (entries_of y) k p (partition_at p ts)) qs) at_parts
    ∙ ap (list_all (λ p. answers_one (entries_of y) k p (partition_at p s.partitions))) at_places

same_settled : {s : Core} {k : ℕ} {ps : List ℕ} {y : ProduceResponse} {found : List Entry} (now : ℕ) → AreAnswered s k ps y found → AreAlike now k found y ps
same_settled {s} {k} {ps} {y} {found} now a = alike now k found y s.partitions (length s.partitions) ps a.entries a.there a.each

pub offsets_given : {s : Core} {k : ℕ} {ps : List ℕ} {y : ProduceResponse} {found : List Entry} → AreAnswered s k ps y found
    → AllByRecursion (λ p. offsets_by k (entry_at p found) (partition_at p s.partitions) ≡ true) ps
offsets_given {s} {k} {ps} {y} {found} a = offsets_there k found y s.partitions (length s.partitions) ps a.entries a.there a.each

-- what is told of these partitions
abbrev pub told_of : ℕ → ℕ → List ℕ → List Entry → Core → List Told
told_of now k ps found s = flat_map (λ p. (settled_by now k (entry_at p found) (partition_at p s.partitions)).told) ps

told-is : {s : Core} {k : ℕ} {ps : List ℕ} {y : ProduceResponse} {found : List Entry} (now : ℕ) → AreAnswered s k ps y found
    → told_of now k ps found s ≡ (settle_batches now k ps y s).told
unfolding at_these with_partitions
told-is {s} {k} {ps} {y} {found} now a =
    told_alike (λ p t. settled_by now k (entry_at p found) t) (λ p t. by_entries now k t (entries_for p y)) s.partitions ps (same_settled now a)

covers_all : {s : Core} {d : Desk} {k : ℕ} {ps : List ℕ} {y : ProduceResponse} {found : List Entry} (now : ℕ) → IsKept s d → AreAnswered s k ps y found
    → Covers d (settle_batches now k ps y s).told
covers_all {s} {d} {k} {ps} {y} now h a = covers_told h (settled_left now k ps y s a.there a.once h.order)

pub covers_answered : {s : Core} {d : Desk} {k : ℕ} {ps : List ℕ} {y : ProduceResponse} {found : List Entry} (now : ℕ) → IsKept s d
    → AreAnswered s k ps y found → Covers d (told_of now k ps found s)
covers_answered {d = d} now h a = subst (Covers d) (sym (told-is now a)) (covers_all now h a)

-- ---- the core afterwards

-- These partitions were settled, and the desk has told so; the requests were kept that are live.
pub record WereSettled (now k : ℕ) (ps : List ℕ) (found : List Entry) (s : Core) (ts : List Partition) (requests : List Request) (exhausted : Bool) (d e : Desk) : Type 0 where
  pub reports : all_reports d ≡ s.reports
  pub changed : ts ≡ changed_at ps (λ p t. (settled_by now k (entry_at p found) t).after) s.partitions
  pub told : e ≡ tell_desk (told_of now k ps found s) d
  pub live : requests ≡ filter (is_live ts) s.requests
  pub memory : exhausted ≡ (s.exhausted && (d.untold - e.untold == 0))

desk-is : {now k : ℕ} {ps : List ℕ} {found : List Entry} {s : Core} {ts : List Partition} {requests : List Request} {exhausted : Bool} {d e : Desk} {y : ProduceResponse}
    → AreAnswered s k ps y found → WereSettled now k ps found s ts requests exhausted d e → e ≡ tell_desk (settle_batches now k ps y s).told d
desk-is {now} {d = d} a w = w.told ∙ ap (λ (told : List Told). tell_desk told d) (told-is now a)

-- the core with its partitions settled so, this told, and the requests kept that are live
pub batches-is : {now k : ℕ} {ps : List ℕ} {found : List Entry} {s : Core} {ts : List Partition} {requests : List Request} {exhausted : Bool} {d e : Desk} {y : ProduceResponse}
    → IsKept s d → AreAnswered s k ps y found → WereSettled now k ps found s ts requests exhausted d e
    → record s { partitions = ts; requests = requests; exhausted = exhausted; reports = all_reports e } ≡ (settle_batches now k ps y s).after
unfolding at_these with_partitions
batches-is {now} {k} {ps} {found} {s} {ts} {requests} {exhausted} {d} {e} {y} h a w =
    settled-is s (changed_at ps (λ p t. (by_entries now k t (entries_for p y)).after) s.partitions) ts
    (flat_map (λ p. (by_entries now k (partition_at p s.partitions) (entries_for p y)).told) ps) requests exhausted d e w.reports (covers_all now h a)
    (w.changed ∙ changed_alike (λ p t. settled_by now k (entry_at p found) t) (λ p t. by_entries now k t (entries_for p y)) s.partitions ps (same_settled now a))
    (desk-is a w) w.live w.memory

pub batches_kept : {now k : ℕ} {ps : List ℕ} {found : List Entry} {s : Core} {ts : List Partition} {requests : List Request} {exhausted : Bool} {d e : Desk} {y : ProduceResponse}
    → IsKept s d → AreAnswered s k ps y found → WereSettled now k ps found s ts requests exhausted d e
    → IsKept (record s { partitions = ts; requests = requests; exhausted = exhausted; reports = all_reports e }) e
batches_kept {now} {k} {ps} {found} {s} {e = e} {y = y} h a w =
    subst (λ (x : Core). IsKept x e) (sym (batches-is h a w)) (told_kept h (settled_left now k ps y s a.there a.once h.order) (desk-is a w))

pub count_settled : {now k : ℕ} {ps : List ℕ} {found : List Entry} {s : Core} {ts : List Partition} {requests : List Request} {exhausted : Bool} {d e : Desk} {y : ProduceResponse}
    → IsKept s d → AreAnswered s k ps y found → WereSettled now k ps found s ts requests exhausted d e
    → d.untold - e.untold ≡ (settle_batches now k ps y s).answer
unfolding at_these with_partitions
count_settled {now} {k} {ps} {s = s} {d = d} {e = e} {y = y} h a w = count_told (settle_batches now k ps y s).told d e (covers_all now h a) (desk-is a w)
