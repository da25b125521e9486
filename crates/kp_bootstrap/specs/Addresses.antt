-- The addresses that a text lists: `host:port,host:port`.
use Rattle.std.specs.Prelude.{◌≡◌, ℕ, List, [], ◌∷◌, ◌++◌, ◌==◌}
use Rattle.std.specs.List.{slice_split}
use Rattle.std.specs.Str.Parse.{IsNumeral, digits_value, without_leading_plus}
use Rattle.kp_cluster.specs.declared.slot.Address.{Address}

-- the texts between the commas
abbrev pub entries_of : List ℕ → List (List ℕ)
entries_of text = slice_split (λ b. b == 44) text

-- The port is the number that the text spells in decimal digits.
pub record IsPort (text : List ℕ) (port : ℕ) : Type 0 where
  pub numeral : IsNumeral 10 (without_leading_plus text)
  pub is : port ≡ digits_value 10 (without_leading_plus text)

-- The entry is the host, a colon and the port.
pub record IsAddress (entry : List ℕ) (a : Address) : Type 0 where
  pub digits : List ℕ
  pub is : entry ≡ a.host ++ 58 ∷ digits
  pub port : IsPort digits a.port

-- The addresses are those of the entries, in their order.
pub data AreAddresses : List (List ℕ) → List Address → Type 0 where
  none : AreAddresses [] []
  one_more : (entries : List (List ℕ)) (addresses : List Address) (entry : List ℕ) (a : Address) → AreAddresses entries addresses
      → IsAddress entry a → AreAddresses (entries ++ entry ∷ []) (addresses ++ a ∷ [])

-- One address more stands behind the others, and it is the entry's.
pub record PutsAddress (entry : List ℕ) (old new : List Address) : Type 0 where
  pub address : Address
  pub is : IsAddress entry address
  pub put : new ≡ old ++ address ∷ []
