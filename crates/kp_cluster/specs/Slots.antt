-- The slots of a cluster: its nodes, and the connection to each.
use Rattle.std.specs.Prelude.{ℕ, zero, suc, ℤ, Bool, true, false, List, [], ◌∷◌, ◌&&◌, not, is_none, nat_le, if◌then◌else◌}
use Rattle.std.specs.Option.{option_map_or}
use Rattle.std.specs.Ordering.{int_eq}
use Rattle.kp_cluster.specs.declared.slot.Phase.{Phase}
use Rattle.kp_cluster.specs.declared.slot.Phase.TheVariants.{Away, Opening, Open, GivenUp, Closing}
use Rattle.kp_cluster.specs.declared.slot.Slot.{Slot}

-- ---- tests

-- the connection is open
unfoldable pub is_open : Slot → Bool
is_open s = elim s.phase [ Away ↦ false | Opening ↦ false | Open ↦ true | GivenUp ↦ false | Closing ↦ false ]

-- the connection is open or being opened
unfoldable pub is_live : Slot → Bool
is_live s = elim s.phase [ Away ↦ false | Opening ↦ true | Open ↦ true | GivenUp ↦ false | Closing ↦ false ]

-- the connection was given up, and its owner was not told
unfoldable pub is_given_up : Slot → Bool
is_given_up s = elim s.phase [ Away ↦ false | Opening ↦ false | Open ↦ false | GivenUp ↦ true | Closing ↦ false ]

-- there is no connection
unfoldable pub is_away : Slot → Bool
is_away s = elim s.phase [ Away ↦ true | Opening ↦ false | Open ↦ false | GivenUp ↦ false | Closing ↦ false ]

-- there is no connection, and the wait for one is over
abbrev pub is_ready : ℕ → Slot → Bool
is_ready now s = is_away s && nat_le s.not_before now

-- it leads a partition, and there was something to send to it
abbrev pub is_wanted : Slot → Bool
is_wanted s = s.wanted && s.leads

-- it is an address given at first, by which no partition is led
abbrev pub is_spare : Slot → Bool
is_spare s = is_none s.id && not s.leads

-- it is this broker's
abbrev pub has_id : ℤ → Slot → Bool
has_id id s = option_map_or (λ own. int_eq own id) s.id false

-- ---- changes

-- This slot is changed, and the others stay; where it is not there, all stay.
abbrev pub changed : (Slot → Slot) → ℕ → List Slot → List Slot
changed change n [] = []
changed change zero (s ∷ slots) = change s ∷ slots
changed change (suc n) (s ∷ slots) = s ∷ changed change n slots

abbrev pub in_phase : Phase → Slot → Slot
in_phase phase s = record s { phase = phase }

-- a connection that is open or being opened is given up
abbrev pub given_up : Slot → Slot
given_up s = if is_live s then in_phase GivenUp s else s

abbrev pub spare_given_up : Slot → Slot
spare_given_up s = if is_spare s then given_up s else s

-- a connection that was being opened is open
abbrev pub opened_from : Phase → Slot → Slot
opened_from Opening s = in_phase Open s
opened_from Away s = s
opened_from Open s = s
opened_from GivenUp s = s
opened_from Closing s = s

abbrev pub opened : Slot → Slot
opened s = opened_from s.phase s

abbrev pub wanted : Slot → Slot
wanted s = record s { wanted = true }

-- its failures are forgotten
abbrev pub answered : Slot → Slot
answered s = record s { failures = 0 }
