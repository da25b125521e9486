-- Moves that are exhibited: what is said of any moves is said of some.
use Rattle.std.specs.Prelude.{◌≡◌, ℕ, pos, negsuc, List, [], ◌∷◌}
use Rattle.kp_accum.specs.Config.{default_config}
use Rattle.kp_accum.specs.declared.item.Item.{Item}
use Rattle.kp_log.specs.BrokerStep.{Answered}
use Rattle.kp_log.specs.History.{History, with_batch, empty_history}
use Rattle.kp_log.specs.Log.{stored_as}
use Rattle.kp_rules.specs.declared.outcome.Report.{Report}
use Rattle.kp_rules.specs.Appending.{append_step}
use Rattle.kp_rules.specs.Calls.{answered_as}
use Rattle.kp_rules.specs.Calls as call
use Rattle.kp_rules.specs.Dropping.{disconnect_step}
use Rattle.kp_rules.specs.Leading.{lead_step}
use Rattle.kp_rules.specs.Next.{Sending}
use Rattle.kp_rules.specs.Records.{Told}
use Rattle.kp_rules.specs.Replies.{reply_step}
use Rattle.kp_rules.specs.Reports.{fetch_step}
use Rattle.kp_rules.specs.Requesting.{request_step}
use Rattle.kp_world.specs.Events.{record_at}
use Rattle.kp_world.specs.Facts.{Facts}
use Rattle.kp_world.specs.LogLaws.{ToldOffsetsStand}
use Rattle.kp_world.specs.Message.{sent_of}
use Rattle.kp_world.specs.World.{scheduled, FIRST_ID}
use Rattle.kp_headline.specs.Assumptions.{IsHonest, IsNotMadeUp, IsInTurn, KeepsIdsApart, Assumed}
use Rattle.kp_headline.specs.Moves.{Move, Accepting, Calling, Meeting, Others, AreMoves, Throughout, after, led}
use Rattle.kp_headline.specs.Outside.{State, new_state, known}

-- ---- calls, with the answers and the cores that their steps give; what names no node is of node 0

abbrev pub append : Item → State → Move
append i a = Calling (call.Append i (append_step i a.core).answer) (append_step i a.core).after

abbrev pub request_to : (node now : ℕ) → State → Move
request_to node now a = Calling
    (call.Request node now (answered_as a.core (request_step node now a.core).answer))
    (request_step node now a.core).after

abbrev pub request : ℕ → State → Move
request now a = request_to 0 now a

abbrev pub lead : (partition leader now : ℕ) → State → Move
lead p leader now a = Calling (call.Lead p leader now) (lead_step p leader now a.core)

abbrev pub disconnect : ℕ → State → Move
disconnect now a = Calling (call.Disconnect 0 now) (disconnect_step 0 now a.core)

abbrev pub reply : ℕ → List ℕ → State → Move
reply now content a =
    Calling (call.Reply now content (reply_step now content a.core).answer) (reply_step now content a.core).after

abbrev pub fetch : ℕ → State → Move
fetch sender a = Calling (call.Fetch sender (fetch_step sender a.core).answer) (fetch_step sender a.core).after

-- ---- with the default configuration, a partition and a sender: its record

abbrev pub begun : State
begun = new_state (scheduled default_config 1 1)

abbrev pub first : Item
first = record { sender = 0; partition = 0; number = 0; at = 0; body = record_at 0 (97 ∷ []) }

-- as it goes out
abbrev pub sent_first : Sending
sent_first = record {
  partition = 0;
  batch = record { number = 0; id = FIRST_ID; sequence = 0; items = first ∷ [] };
}

abbrev pub at_zero : Answered
at_zero = record { code = pos 0; base = pos 0 }

abbrev pub log_of_first : History
log_of_first = with_batch (sent_of sent_first.batch) empty_history

-- a reply to the request with this correlation id: one topic, t, in which partition 0 has no error and this offset; no
-- time of the append, and no throttle time
abbrev pub reply_bytes : (correlation offset : ℕ) → List ℕ
reply_bytes correlation offset =
    0 ∷ 0 ∷ 0 ∷ correlation ∷ 0 ∷ 0 ∷ 0 ∷ 1 ∷ 0 ∷ 1 ∷ 116 ∷ 0 ∷ 0 ∷ 0 ∷ 1 ∷ 0 ∷ 0 ∷ 0 ∷ 0 ∷ 0 ∷ 0
    ∷ 0 ∷ 0 ∷ 0 ∷ 0 ∷ 0 ∷ 0 ∷ 0 ∷ offset ∷ 255 ∷ 255 ∷ 255 ∷ 255 ∷ 255 ∷ 255 ∷ 255 ∷ 255 ∷ 0 ∷ 0 ∷ 0 ∷ 0 ∷ []

-- ---- the record is accepted, appended and sent

abbrev pub accepted_state : State
accepted_state = after (Accepting first) begun

abbrev pub appended_state : State
appended_state = after (append first accepted_state) accepted_state

abbrev pub sent_state : State
sent_state = after (request 0 appended_state) appended_state

-- ---- its connection is lost, and it is sent again

abbrev pub lost_state : State
lost_state = after (disconnect 5 sent_state) sent_state

abbrev pub again_state : State
again_state = after (request 105 lost_state) lost_state

-- ---- the second packet comes, and is stored; then the first, late, and twice

abbrev pub meets : ℕ → Move
meets packet = Meeting packet sent_first at_zero log_of_first

abbrev pub stored_state : State
stored_state = after (meets 1) again_state

abbrev pub late_state : State
late_state = after (meets 0) stored_state

abbrev pub twice_state : State
twice_state = after (meets 0) late_state

-- ---- the reply to the second is heard, and the report is fetched

abbrev pub heard_state : State
heard_state = after (reply 110 (reply_bytes 3 0) twice_state) twice_state

abbrev pub lost_and_repeated : List Move
lost_and_repeated =
    Accepting first ∷ append first accepted_state ∷ request 0 appended_state
    ∷ disconnect 5 sent_state ∷ request 105 lost_state
    ∷ meets 1 ∷ meets 0 ∷ meets 0
    ∷ reply 110 (reply_bytes 3 0) twice_state ∷ fetch 0 heard_state ∷ []

-- ---- it is stored, and before the reply comes node 1 leads the partition: it is sent there, comes to its log once more,
-- and the reply to that is heard

abbrev pub led_state : State
led_state = after (meets 0) sent_state

abbrev pub moved_state : State
moved_state = after (lead 0 1 5 led_state) led_state

abbrev pub sent_there_state : State
sent_there_state = after (request_to 1 105 moved_state) moved_state

abbrev pub repeated_state : State
repeated_state = after (meets 1) sent_there_state

abbrev pub told_there_state : State
told_there_state = after (reply 110 (reply_bytes 3 0) repeated_state) repeated_state

abbrev pub stored_and_moved : List Move
stored_and_moved =
    Accepting first ∷ append first accepted_state ∷ request 0 appended_state
    ∷ meets 0 ∷ lead 0 1 5 led_state ∷ request_to 1 105 moved_state
    ∷ meets 1 ∷ reply 110 (reply_bytes 3 0) repeated_state ∷ fetch 0 told_there_state ∷ []

-- ---- a reply that nobody gave, under a correlation id that fits

abbrev pub made_up : List Move
made_up =
    Accepting first ∷ append first accepted_state ∷ request 0 appended_state
    ∷ reply 7 (reply_bytes 2 7) sent_state ∷ []

-- ---- what is said of them

-- All that is assumed holds of these moves, and just this was told and fetched.
pub record Shows (ms : List Move) (told : List Told) (fetched : List (List Report)) : Type 0 where
  pub moves : AreMoves begun ms
  pub assumed : Assumed begun ms
  pub told_in_all : (led begun ms).outside.told ≡ told
  pub fetched_in_all : (led begun ms).outside.fetched ≡ fetched

-- All but that no reply is made up holds of these moves; just this was told, and it is not so.
pub record Misleads (ms : List Move) (told : List Told) : Type 0 where
  pub moves : AreMoves begun ms
  pub honest : Throughout IsHonest begun ms
  pub in_turn : Throughout IsInTurn begun ms
  pub ids_once : Throughout KeepsIdsApart begun ms
  pub told_in_all : (led begun ms).outside.told ≡ told
  pub is_wrong : ToldOffsetsStand (known (led begun ms)) → ⊥

-- ---- each part of what is assumed is needed

pub data Part : Type 0 where
  Honest : Part
  NotMadeUp : Part
  InTurn : Part
  IdsOnce : Part

abbrev pub asked_by : Part → State → Move → Type 0
asked_by Honest = IsHonest
asked_by NotMadeUp = IsNotMadeUp
asked_by InTurn = IsInTurn
asked_by IdsOnce = KeepsIdsApart

-- All that is assumed but this part holds of these moves, and then the law does not hold.
pub record IsNeeded (part : Part) (ms : List Move) (Law : Facts → Type 0) : Type 0 where
  pub moves : AreMoves begun ms
  pub others : (other : Part) → (other ≡ part → ⊥) → Throughout (asked_by other) begun ms
  pub broken : Law (known (led begun ms)) → ⊥

-- A broker says that it has stored the batch, at offset 7, and has not.
abbrev pub lying : Move
lying = Meeting 0 sent_first (record { code = pos 0; base = pos 7 }) empty_history

abbrev pub lied_state : State
lied_state = after lying sent_state

abbrev pub stored_by_word : List Move
stored_by_word =
    Accepting first ∷ append first accepted_state ∷ request 0 appended_state
    ∷ lying ∷ reply 7 (reply_bytes 2 7) lied_state ∷ []

-- It is stored, and its item told so; then a node is elected that never had it, and to which the packet comes late.
abbrev pub heard_once_state : State
heard_once_state = after (reply 7 (reply_bytes 2 0) led_state) led_state

abbrev pub forgets : Move
forgets = Meeting 0 sent_first (record { code = pos 6; base = negsuc 0 }) empty_history

abbrev pub stored_and_forgotten : List Move
stored_and_forgotten =
    Accepting first ∷ append first accepted_state ∷ request 0 appended_state
    ∷ meets 0 ∷ reply 7 (reply_bytes 2 0) led_state ∷ forgets ∷ []

-- An item is appended that its sender had not accepted.
abbrev pub unasked_state : State
unasked_state = after (append first begun) begun

abbrev pub unasked : List Move
unasked = append first begun ∷ request 0 unasked_state ∷ []

-- Somebody else writes under this producer's id.
abbrev pub under_its_id : List Move
under_its_id = Others 0 (stored_as (pos FIRST_ID) (record_at 0 (98 ∷ []) ∷ [])) ∷ []
