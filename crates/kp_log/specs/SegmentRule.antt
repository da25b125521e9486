-- The rule by which a log's records lie in segments.
use Rattle.std.specs.Prelude.{ℕ, zero, ◌+◌, nat_lt, List, [], ◌∷◌, if◌then◌else◌}
use Rattle.kp_log.specs.declared.stored.Stored.{Stored}

-- ---- what callers see

-- The records by offset; the segments' lengths, the oldest first; and how many records may be appended without memory.
pub record Held : Type 0 where
  pub records : List Stored
  pub segments : List ℕ
  pub room : ℕ

-- ---- the rule

-- a segment with so many records takes no more
abbrev pub FULL : ℕ
FULL = 256

-- the lengths of a segment and of those behind it, once so many records are put behind them
abbrev pub lengthened : ℕ → ℕ → List ℕ → List ℕ
lengthened added last [] = if nat_lt last FULL then (last + added) ∷ [] else last ∷ added ∷ []
lengthened added first (next ∷ later) = first ∷ lengthened added next later

-- An append of no records changes nothing. Another goes whole into the last segment; a new one begins where there is
-- none, or the last is full.
abbrev pub segments_with : ℕ → List ℕ → List ℕ
segments_with zero segments = segments
segments_with added [] = added ∷ []
segments_with added (first ∷ later) = lengthened added first later
