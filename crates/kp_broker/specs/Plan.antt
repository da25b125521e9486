-- Plans of faults, and how they are spelled.
use Rattle.std.specs.Prelude.{◌≡◌, ◌≢◌, ℕ, ◌<◌, ◌-◌, ◌^◌, List, [], ◌++◌, map, fold, nat_eq, ◌==◌, Contains, pos, ◌≤ℤ◌, Option, None, Result, Ok, Err, MatchOption, codes, decimal}
use Rattle.std.specs.Fmt.{signed_decimal}
use Rattle.std.specs.List.{AllByRecursion, IsDistinct, join_with_byte, slice_split}
use Rattle.std.specs.Ordering.{nat_cmp}
use Rattle.std.specs.BTreeMap.{insert_entry, is_at}
use Rattle.std.specs.Map.{lookup}
use Rattle.kp_log.specs.declared.error_code.ErrorCode.{ErrorCode}
use Rattle.kp_broker.specs.declared.plan.action.Action.{Action}
use Rattle.kp_broker.specs.declared.plan.action.Action.TheVariants.{DropRequest, DropReply, Repeat, Refuse, Late, HangUp, Move}
use Rattle.kp_broker.specs.declared.plan.entry.TheConstants.{MAX_CODE}
use Rattle.kp_broker.specs.Broker.{NODE_LIMIT}
use Rattle.kp_broker.specs.declared.plan.fault.PlanFault.{PlanFault}
use Rattle.kp_broker.specs.declared.plan.fault.PlanFault.TheVariants.{BadPlan, OutOfMemory}

-- ---- plans

-- the number of a Produce request, and what is done with it
abbrev pub Entry : Type 0
Entry = ℕ × Action

abbrev pub number_of : Entry → ℕ
number_of entry = entry.0

abbrev pub action_of : Entry → Action
action_of entry = entry.1

-- entries in the order of their numbers, each number once
abbrev pub Plan : Type 0
Plan = List Entry

-- what is to be done with the request of this number, if it is not to be answered as any other
abbrev pub planned : Plan → ℕ → Option Action
planned plan number = lookup (is_at (nat_cmp number)) plan

-- the entries, each put to its place
abbrev pub in_order : List Entry → Plan
in_order entries = fold (λ plan e. insert_entry nat_cmp plan (number_of e) (action_of e)) [] entries

-- ---- texts

abbrev pub code_text : ErrorCode → List ℕ
code_text code = signed_decimal code.number

abbrev pub action_text : Action → List ℕ
action_text DropRequest = codes "drop-request"
action_text DropReply = codes "drop-reply"
action_text Repeat = codes "repeat"
action_text (Refuse code) = codes "refuse:" ++ code_text code
action_text (Late code) = codes "late:" ++ code_text code
action_text HangUp = codes "hang-up"
action_text (Move to) = codes "move:" ++ decimal to

abbrev pub entry_text : Entry → List ℕ
entry_text e = decimal (number_of e) ++ codes "=" ++ action_text (action_of e)

-- the entries with a comma between each two
abbrev pub entries_text : List Entry → List ℕ
entries_text entries = join_with_byte 44 (map entry_text entries)

-- ---- what may stand in a text

-- a code of two digits at most; 0 and 46 are no error codes
pub record IsAllowedCode (code : ErrorCode) : Type 0 where
  pub low : pos 1 ≤ℤ code.number
  pub high : code.number ≤ℤ pos MAX_CODE

-- a node that a cluster may have
abbrev pub IsAllowedNode : ℕ → Type 0
IsAllowedNode node = node < NODE_LIMIT

-- the action names a code or a node, and one that it may
abbrev pub HasName : Action → Type 0
HasName (Refuse code) = IsAllowedCode code
HasName (Late code) = IsAllowedCode code
HasName (Move to) = IsAllowedNode to
HasName action = ⊥

abbrev pub IsAllowedAction : Action → Type 0
IsAllowedAction (Refuse code) = IsAllowedCode code
IsAllowedAction (Late code) = IsAllowedCode code
IsAllowedAction (Move to) = IsAllowedNode to
IsAllowedAction action = Unit {0}

-- the count of requests stops at the greatest number, which is that of no request
pub record IsAllowed (e : Entry) : Type 0 where
  pub number : number_of e < 2 ^ 64 - 1
  pub action : IsAllowedAction (action_of e)

-- The text is that of such a thing, and this is it; or it is that of none.
abbrev pub SpelledBy : {A : Type 0} → (A → Type 0) → (A → List ℕ) → List ℕ → Option A → Type 0
SpelledBy {A} Allowed spell text r =
    MatchOption r ((a : A) → Allowed a → text ≢ spell a) (λ a. Allowed a × (text ≡ spell a))

-- The text has the plan's entries, one at least, in any order, and no number twice.
pub record Spells (text : List ℕ) (plan : Plan) : Type 0 where
  pub entries : List Entry
  pub spelling : text ≡ entries_text entries
  pub some : entries ≢ []
  pub allowed : AllByRecursion IsAllowed entries
  pub once : IsDistinct nat_eq (map number_of entries)
  pub same : plan ≡ in_order entries

-- the texts between the commas
abbrev pub parts : List ℕ → List (List ℕ)
parts text = slice_split (λ b. b == 44) text

-- One of them is that of an entry.
abbrev pub HasEntry : List ℕ → Type 0
HasEntry text = (e : Entry) × IsAllowed e × Contains (parts text) (entry_text e)

-- What parsing a text answers. Want of memory alone may stand in place of either, once an entry was read.
abbrev pub ParsesPlan : List ℕ → Result Plan PlanFault → Type 0
ParsesPlan text (Ok plan) = Spells text plan
ParsesPlan text (Err BadPlan) = (plan : Plan) → Spells text plan → ⊥
ParsesPlan text (Err OutOfMemory) = HasEntry text

-- one more entry at its place, or the plan has its number
abbrev pub Adds : Plan → ℕ → Action → Result (Unit {0}) PlanFault → Plan → Type 0
Adds plan number action (Ok done) after =
    (planned plan number ≡ None) × (after ≡ insert_entry nat_cmp plan number action)
Adds plan number action (Err BadPlan) after = planned plan number ≢ None
Adds plan number action (Err OutOfMemory) after = Unit {0}
