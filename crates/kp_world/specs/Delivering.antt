-- A packet at the broker: what any honest one may do with it.
use Rattle.std.specs.Prelude.{◌≡◌, ◌⊎◌, ℕ, pos, List, [], ◌∷◌, ◌++◌, slice_index_or, slice_set}
use Rattle.std.specs.List.{AllByRecursion}
use Rattle.kp_log.specs.declared.stored.Stored.{Stored}
use Rattle.kp_log.specs.BrokerStep.{BrokerStep}
use Rattle.kp_log.specs.History.{History, empty_history}
use Rattle.kp_log.specs.Log.{count_of}
use Rattle.kp_rules.specs.Next.{Sending}
use Rattle.kp_rules.specs.Records.{Demand, Produce, InitProducerId}
use Rattle.kp_world.specs.Message.{sent_of}
use Rattle.kp_world.specs.World.{PartAnswer, ReplyContent, Batches, Id, World}

abbrev pub log_at : ℕ → List History → History
log_at p logs = slice_index_or logs p empty_history

-- The logs and the ids drawn once a packet came, and what was answered.
pub record Delivery : Type 0 where
  pub logs : List History
  pub ids : List ℕ
  pub content : ReplyContent

-- ---- batches

-- One part of a packet comes: its partition's log makes a broker's step.
pub record PartDelivers (before : List History) (x : Sending) (a : PartAnswer)
    (after : List History) : Type 0 where
  pub partition : a.partition ≡ x.partition
  pub log : History
  pub step : BrokerStep (log_at x.partition before) (sent_of x.batch) a.answer log
  pub after_is : after ≡ slice_set before x.partition log

-- each part, in the packet's order
unfoldable pub PartsDeliver : List History → List Sending → List PartAnswer → List History → Type 0
PartsDeliver before [] [] after = after ≡ before
PartsDeliver before (x ∷ xs) (a ∷ answers) after =
    (middle : List History) × PartDelivers before x a middle × PartsDeliver middle xs answers after
PartsDeliver before [] (a ∷ answers) after = ⊥
PartsDeliver before (x ∷ xs) [] after = ⊥

-- ---- ids

-- no record is under this id
abbrev pub HasNone : List Stored → ℕ → Type 0
HasNone records id = count_of (pos id) records ≡ 0

-- The id was never drawn before, and no log has a record under it.
abbrev pub IsFresh : List History → List ℕ → ℕ → Type 0
IsFresh logs ids id =
    AllByRecursion (λ drawn. drawn ≡ id → ⊥) ids × AllByRecursion (λ h. HasNone h.records id) logs

abbrev pub IsError : ReplyContent → Type 0
IsError (Id code id) = code ≡ pos 0 → ⊥
IsError (Batches parts) = ⊥

abbrev pub given : ℕ → ReplyContent
given id = Id (pos 0) (pos id)

-- No id was drawn and an error is answered, or a fresh one was drawn and it or an error is
-- answered.
abbrev pub IdDelivers : List History → List ℕ → ReplyContent → List ℕ → Type 0
IdDelivers logs before content after =
    (IsError content × (after ≡ before))
    ⊎ ((id : ℕ) × IsFresh logs before id × (after ≡ before ++ id ∷ [])
    × (IsError content ⊎ (content ≡ given id)))

-- ---- a packet

unfoldable pub Delivers : World → Demand Sending → Delivery → Type 0
Delivers w (Produce xs) d =
    (answers : List PartAnswer) × PartsDeliver w.logs xs answers d.logs
    × (d.content ≡ Batches answers) × (d.ids ≡ w.ids)
Delivers w (InitProducerId p) d = IdDelivers w.logs w.ids d.content d.ids × (d.logs ≡ w.logs)

-- ---- other producers

-- No record is under an id that was ever drawn for this producer.
abbrev pub AreOthers : List ℕ → List Stored → Type 0
AreOthers ids records = AllByRecursion (HasNone records) ids

abbrev pub with_records : List Stored → History → History
with_records records h = record { records = h.records ++ records; batches = h.batches }

abbrev pub logs_with_others : ℕ → List Stored → List History → List History
logs_with_others p records logs = slice_set logs p (with_records records (log_at p logs))
