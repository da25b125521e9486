-- The names of topics.
use Rattle.std.specs.Prelude.{◌≡◌, ◌≢◌, ◌<◌, ◌≤◌, ℕ, Bool, true, List, length, nat_le, codes, ◌&&◌, ◌||◌, ◌==◌}
use Rattle.std.specs.List.{list_all}

-- a letter, a digit, a full stop, a low line or a hyphen
abbrev pub is_name_byte : ℕ → Bool
is_name_byte b =
    (nat_le 0x41 b && nat_le b 0x5a) || ((nat_le 0x61 b && nat_le b 0x7a) || ((nat_le 0x30 b && nat_le b 0x39)
    || (b == 0x2e || (b == 0x5f || b == 0x2d))))

-- the names that Kafka takes: 1 to 249 such bytes, but not one or two full stops alone
pub record IsTopic (name : List ℕ) : Type 0 where
  pub some : 0 < length name
  pub short : length name ≤ 249
  pub not_dot : name ≢ codes "."
  pub not_dots : name ≢ codes ".."
  pub bytes : list_all is_name_byte name ≡ true
