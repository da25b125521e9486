-- What was said to a part of a packet may be said again, however the logs have grown.
use Rattle.std.proofs.Common.{◌≡◌, ℕ, ◌+◌, ◌<◌, true, false, List, [], ◌∷◌, ◌++◌, length, eqb, refl, sym, ap, ◌∙◌, subst, inl, ⊎_elim, arith, append_assoc, length-append}
use Rattle.std.specs.Prelude.{slice_set, ◌==◌}
use Rattle.std.specs.List.{AllByRecursion}
use Rattle.std.proofs.lemmas.List.{append-nil, get_or-set_same, get_or-set_other}
use Rattle.std.proofs.lemmas.List.Elements.{filter-append}
use Rattle.std.proofs.lemmas.Bool.Decides.{eqb_tells}
use Rattle.kp_log.specs.declared.stored.Stored.{Stored}
use Rattle.kp_log.specs.BrokerStep.{Answered, MayAppend, Stands, IsOld, BrokerStep}
use Rattle.kp_log.specs.History.{Sent, History, stored_of, of_id, empty_history, with_batch}
use Rattle.kp_log.proofs.OffsetLemmas.{stands_still}
use Rattle.kp_rules.proofs.ListLemmas.{all_weaker}
use Rattle.kp_world.specs.Delivering.{log_at, with_records}
use Rattle.kp_world.specs.Message.{sent_of}
use Rattle.kp_headline.specs.Matching.{MayAgain}
use Rattle.kp_headline.specs.Outside.{Said}

-- ---- a log that has grown

pub record Grows (h h' : History) : Type 0 where
  pub more_records : List Stored
  pub more_batches : List Sent
  pub records : h'.records ≡ h.records ++ more_records
  pub batches : h'.batches ≡ h.batches ++ more_batches

grows_not : (h : History) → Grows h h
grows_not h = record { more_records = []; more_batches = []; records = sym (append-nil h.records); batches = sym (append-nil h.batches) }

grows_by : (h : History) (b : Sent) → Grows h (with_batch b h)
grows_by h b = record { more_records = stored_of b; more_batches = b ∷ []; records = refl; batches = refl }

pub grows_step : (h : History) (b : Sent) (a : Answered) (h' : History) → BrokerStep h b a h' → Grows h h'
grows_step h b a h' s =
    ⊎_elim
    (λ (same : h' ≡ h). subst (Grows h) (sym same) (grows_not h))
    (λ (may : MayAppend h b × (h' ≡ with_batch b h)). subst (Grows h) (sym may.1) (grows_by h b))
    s.change

pub others_grow : (records : List Stored) (h : History) → Grows h (with_records records h)
others_grow records h = record { more_records = records; more_batches = []; records = refl; batches = sym (append-nil h.batches) }

old_still : (batches more : List Sent) (b : Sent) → IsOld batches b → IsOld (batches ++ more) b
old_still batches more b o =
    let split : of_id b.id (o.later ++ more) ≡ of_id b.id o.later ++ of_id b.id more = filter-append (λ (c : Sent). c.id == b.id) o.later more in
    let long : length (of_id b.id (o.later ++ more)) ≡ length (of_id b.id o.later) + length (of_id b.id more) = ap length split ∙ length-append (of_id b.id o.later) (of_id b.id more) in
    record {
      earlier = o.earlier;
      later = o.later ++ more;
      split = ap (λ (z : List Sent). z ++ more) o.split ∙ append_assoc o.earlier (b ∷ o.later) more;
      more = omega (arith, o.more, long);
    }

-- ---- what was answered may be answered again

-- at once
pub again_now : (h : History) (b : Sent) (a : Answered) (h' : History) → BrokerStep h b a h' → BrokerStep h' b a h'
again_now h b a h' s = record { change = inl refl; stands = s.stands; is_old = s.is_old }

-- and later
again_later : (h h' : History) (b : Sent) (a : Answered) → Grows h h' → BrokerStep h b a h → BrokerStep h' b a h'
again_later h h' b a g s = record {
  change = inl refl;
  stands = λ e. subst (λ (rs : List Stored). Stands rs b a.base) (sym g.records) (stands_still h.records g.more_records b a.base (s.stands e));
  is_old = λ e. subst (λ (bs : List Sent). IsOld bs b) (sym g.batches) (old_still h.batches g.more_batches b (s.is_old e));
}

-- ---- all that was said

-- one log of these has grown
pub grown_at : (logs : List History) (p : ℕ) (log : History) → p < length logs → Grows (log_at p logs) log → (q : ℕ) → Grows (log_at q logs) (log_at q (slice_set logs p log))
grown_at logs p log within g q =
    ⊎_elim
    (λ (k : (eqb q p ≡ true) × (q ≡ p)). subst (λ (m : ℕ). Grows (log_at m logs) (log_at m (slice_set logs p log))) (sym k.1) (subst (Grows (log_at p logs)) (sym (get_or-set_same logs p log empty_history within)) g))
    (λ (k : (eqb q p ≡ false) × (q ≡ p → ⊥)). subst (Grows (log_at q logs)) (sym (get_or-set_other logs p q log empty_history k.1)) (grows_not (log_at q logs)))
    (eqb_tells q p)

pub all_again_later : (logs logs' : List History) (said : List Said) → ((q : ℕ) → Grows (log_at q logs) (log_at q logs')) → AllByRecursion (MayAgain logs) said → AllByRecursion (MayAgain logs') said
all_again_later logs logs' said g all =
    all_weaker (MayAgain logs) (MayAgain logs') (λ x s. again_later (log_at x.part.partition logs) (log_at x.part.partition logs') (sent_of x.part.batch) x.answer (g x.part.partition) s) said all
