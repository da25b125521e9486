-- In every world of a run, what was ever told of an item is true of what was handed over and of the
-- logs.
use Rattle.std.proofs.Common.{◌≡◌, ℕ, ◌<◌, Bool, true, false, List, [], ◌∷◌, ◌++◌, length, refl, sym, ap, ◌∙◌, subst, ⊎_elim}
use Rattle.std.specs.Prelude.{if◌then◌else◌, ◌==◌}
use Rattle.kp_log.specs.declared.stored.Stored.{Stored}
use Rattle.kp_log.specs.History.{History, empty_history}
use Rattle.kp_rules.specs.Requesting.{request_step}
use Rattle.kp_rules.specs.Next.{Sending}
use Rattle.kp_rules.specs.Records.{Demand, Produce, InitProducerId, HandedBatch}
use Rattle.kp_rules.specs.Requesting.{Packet}
use Rattle.kp_world.specs.Events.{WorldEvent}
use Rattle.kp_world.specs.Delivering.{log_at, Delivery, Delivers, with_records, logs_with_others}
use Rattle.kp_world.specs.Noting.{noted}
use Rattle.kp_world.specs.Run.{with_delivery, Steps, IsReached}
use Rattle.kp_world.specs.World.{World, Opening, opening}
use Rattle.kp_world.proofs.RunLemmas.{parts_came}
use Rattle.std.proofs.lemmas.List.{length-set, append-nil}
use Rattle.kp_log.proofs.PlaceLemmas.{In, In-nil, In-append_left, In-append_cases}
use Rattle.kp_world.specs.Facts.{told_in}
use Rattle.kp_world.specs.Causes.{call_of, MayBeTold, TellsByRule}
use Rattle.kp_world.specs.Client.{handed_at, handed_with, grown_by, with_sending, with_sendings}
use Rattle.kp_world.proofs.AccountLemmas.{IsAccounted, told_noted}
use Rattle.kp_world.proofs.AccountRunLemmas.{IsInOrder, order_step, order_opening}
use Rattle.kp_world.proofs.DeliveredLemmas.{Truly, AllTruly, truly_grown, truly_told}
use Rattle.kp_world.proofs.EventLemmas.{at_sent, at_taken, OfEvent, at_step, at_run}
use Rattle.kp_world.proofs.LawfulLemmas.{IsLawful}
use Rattle.kp_world.proofs.RuledLemmas.{told_in_it, ruled_step}
use Rattle.kp_rules.proofs.ListLemmas.{at_set}
use Rattle.kp_world.proofs.ListLemmas.{all_at, in_at}

-- ---- what was handed over stays

grown_in : (b c : HandedBatch) (handed : List HandedBatch) → In c handed → In c (grown_by b handed)
grown_in b c handed i = at_test (b.number == length handed)
  where
    at_test : (t : Bool) → In c (if t then handed ++ b ∷ [] else handed)
    at_test true = In-append_left c handed (b ∷ []) i
    at_test false = i

sending_in : (x : Sending) (handed : List (List HandedBatch)) (p : ℕ) (b : HandedBatch) → p < length handed → In b (handed_at p handed) → In b (handed_at p (with_sending x handed))
sending_in x handed p b h i =
    at_set (In b) handed x.partition p (grown_by x.batch (handed_at x.partition handed)) [] (λ e. (subst (λ (q : ℕ). q < length handed) e h, grown_in x.batch b (handed_at x.partition handed) (subst (λ (q : ℕ). In b (handed_at q handed)) e i))) i

sendings_in : (xs : List Sending) (handed : List (List HandedBatch)) (p : ℕ) (b : HandedBatch) → p < length handed → In b (handed_at p handed) → In b (handed_at p (with_sendings xs handed))
unfolding with_sendings
sendings_in [] handed p b h i = i
sendings_in (x ∷ xs) handed p b h i =
    sendings_in xs (with_sending x handed) p b (subst (λ (n : ℕ). p < n) (sym (length-set handed x.partition (grown_by x.batch (handed_at x.partition handed)))) h) (sending_in x handed p b h i)

-- ---- the logs grow

grown_logs : (n : ℕ) (w : World) (o : Packet) (d : Delivery) → IsLawful n w → In o w.packets → (e : Demand Sending) → o.demand ≡ e → Delivers w e d → (p : ℕ) → (more : List Stored) × ((log_at p d.logs).records ≡ (log_at p w.logs).records ++ more)
unfolding Delivers
grown_logs n w o d g i (Produce xs) is honest p = (parts_came n w o xs d.logs honest.0 g i is honest.1).grown p
grown_logs n w o d g i (InitProducerId q) is honest p = ([], ap (λ (ls : List History). (log_at p ls).records) honest.1 ∙ sym (append-nil (log_at p w.logs).records))

others_grown : (p : ℕ) (records : List Stored) (logs : List History) (q : ℕ) → q < length logs → (more : List Stored) × ((log_at q (logs_with_others p records logs)).records ≡ (log_at q logs).records ++ more)
others_grown p records logs q within =
    at_set (λ (l : History). (more : List Stored) × (l.records ≡ (log_at q logs).records ++ more)) logs p q (with_records records (log_at p logs)) empty_history
    (λ e. (subst (λ (n : ℕ). n < length logs) e within, (records, ap (λ (n : ℕ). (log_at n logs).records ++ records) (sym e))))
    ([], sym (append-nil (log_at q logs).records))

-- ---- every step

record Grows (n : ℕ) (w v : World) : Type 0 where
  pub handed : (p : ℕ) (b : HandedBatch) → p < n → In b (handed_at p w.handed) → In b (handed_at p v.handed)
  pub logs : (p : ℕ) → p < n → (more : List Stored) × ((log_at p v.logs).records ≡ (log_at p w.logs).records ++ more)

-- nothing is handed over, and the logs are the same
grows_not : (n : ℕ) (w v : World) → v.handed ≡ w.handed → v.logs ≡ w.logs → Grows n w v
grows_not n w v handed logs = record {
  handed = λ p b h i. subst (λ (hs : List (List HandedBatch)). In b (handed_at p hs)) (sym handed) i;
  logs = λ p h. ([], ap (λ (ls : List History). (log_at p ls).records) logs ∙ sym (append-nil (log_at p w.logs).records));
}

grows_event : (n : ℕ) (w : World) → IsLawful n w → OfEvent (λ e. Grows n w) w
unfolding noted
grows_event n w g = record {
  not_accepted = λ s p at body. (grows_not n w _ refl refl, grows_not n w _ refl refl);
  accepted = λ s p at body here there shut small. grows_not n w _ refl refl;
  none_taken = λ s none. grows_not n w _ refl refl;
  taken = λ s i here there. at_taken (Grows n w) s i w (grows_not n w _ refl refl) (grows_not n w _ refl refl);
  now = λ moment. grows_not n w _ refl refl;
  tick = λ node. grows_not n w _ refl refl;
  send = λ node. let step = request_step node w.moment w.core in at_sent (Grows n w) w step.after step.answer (λ line. grows_not n w _ refl refl) (λ o line. record {
    handed = λ p b h i. stays o.demand p b (subst (λ (m : ℕ). p < m) (sym g.handed_count) h) i;
    logs = λ p h. ([], sym (append-nil (log_at p w.logs).records));
  });
  reply = λ j r there. grows_not n w _ refl refl;
  lost = λ node. grows_not n w _ refl refl;
  led = λ p node. grows_not n w _ refl refl;
  close = grows_not n w _ refl refl;
  end = grows_not n w _ refl refl;
  flush = grows_not n w _ refl refl;
}
  where
    stays : (d : Demand Sending) (p : ℕ) (b : HandedBatch) → p < length w.handed → In b (handed_at p w.handed) → In b (handed_at p (handed_with d w.handed))
    stays (Produce xs) p b h i = sendings_in xs w.handed p b h i
    stays (InitProducerId q) p b h i = i

grows_step : (n : ℕ) (e : WorldEvent) (w v : World) → Steps w e v → IsLawful n w → Grows n w v
unfolding with_delivery noted
grows_step n e w v s g = at_step (λ e. Grows n w) w (record {
  client = grows_event n w g;
  arrives = λ k o d x went honest says. record { handed = λ p b h i. i; logs = λ p h. grown_logs n w o d g (in_at w.packets k o went) o.demand refl honest p };
  others = λ p records others there. record { handed = λ q b h i. i; logs = λ q h. others_grown p records w.logs q (subst (λ (k : ℕ). q < k) (sym g.logs_count) h) };
}) e v s

-- ---- what was told is true

abbrev pub IsTruthful : ℕ → World → Type 0
IsTruthful n w = AllTruly n w.handed w.logs (told_in w.past)

truthful_step : (n : ℕ) (e : WorldEvent) (w v : World) → Steps w e v → IsLawful n w → IsAccounted w → IsTruthful n w → IsTruthful n v
truthful_step n e w v s g a before t i =
    truly_grown n w.handed v.handed w.logs v.logs grows.handed grows.logs t (⊎_elim (λ (j : In t (told_in w.past)). before t j) (λ (j : In t tells.event.told). new j) (In-append_cases t (told_in w.past) tells.event.told (subst (In t) all i)))
  where
    tells : TellsByRule e w v
    tells = ruled_step w e v s

    all : told_in v.past ≡ told_in w.past ++ tells.event.told
    all = ap told_in tells.noted ∙ told_noted w.past tells.event

    grows : Grows n w v
    grows = grows_step n e w v s g

    new : In t tells.event.told → Truly n w.handed w.logs t
    new k = truly_told n w t g a (told_in_it w e t (all_at (MayBeTold w.core (call_of e w)) tells.event.told t tells.ruled k))

all_step : (n : ℕ) (w : World) → IsInOrder n w × IsTruthful n w → (e : WorldEvent) (v : World) → Steps w e v → IsInOrder n v × IsTruthful n v
all_step n w h e v s = (order_step n w h.0 e v s, truthful_step n e w v s h.0.0 h.0.1 h.1)

truthful_opening : (o : Opening) → IsTruthful o.partitions (opening o)
unfolding opening
truthful_opening o t i = absurd (In-nil t i)

-- Every world that a schedule leads to.
pub truthful_reached : (o : Opening) (es : List WorldEvent) (w : World) → IsReached o es w → IsTruthful o.partitions w
truthful_reached o es w r =
    (at_run (λ v. IsInOrder o.partitions v × IsTruthful o.partitions v) (all_step o.partitions) es (opening o) w r.run (order_opening o r.may_begin, truthful_opening o)).1
