-- A stream of bytes as frames: an int32 size, and so many bytes, the frame's content.
use Rattle.std.specs.Prelude.{◌≡◌, ℕ, zero, suc, ◌+◌, ◌-◌, ◌≤◌, List, [], ◌∷◌, ◌++◌, length, take, ℤ, pos, Result, Ok, Err, Bool, true, false, ◌||◌, int_lt, nat_abs, if◌then◌else◌, IsErr}
use Rattle.std.specs.List.{flat_map, AllByRecursion}
use Rattle.std.specs.Int.{w32}
use Rattle.kp_wire.specs.Reading.{Read, ◌>>=◌, refuse}
use Rattle.kp_wire.specs.Codec.{Codec, int, sized, plain, read_bytes}
use Rattle.kp_frames.specs.declared.fault.FrameFault.{FrameFault}
use Rattle.kp_frames.specs.declared.fault.FrameFault.TheVariants.{TooLarge}
use Rattle.kp_frames.specs.Fault.{in_message}

-- ---- one frame

-- a content behind its size
unfoldable pub frame : Codec (List ℕ)
frame = sized (int w32) length plain

-- the most bytes of a content: 16 MiB
abbrev pub content_limit : ℕ
content_limit = 16777216

-- the size of no frame
unfoldable pub is_no_size : ℤ → Bool
is_no_size size = int_lt size (pos 0) || int_lt (pos content_limit) size

-- The content of the frame at the front, and the bytes behind it. Short where it is not whole, TooLarge where its size
-- is that of no frame.
unfoldable pub first : List ℕ → Result (List ℕ × List ℕ) FrameFault
first bytes = do
  size ← in_message ((int w32).read bytes)
  _ ← refuse (is_no_size size.0) TooLarge
  in_message (read_bytes (nat_abs size.0) size.1)

-- How many bytes are missing of the frame that begins here, as far as its size is known: of the size first, then of the
-- content. None where the size is that of no frame.
abbrev pub wanted_behind : ℕ → Read ℤ → ℕ
wanted_behind len (Ok size) = if is_no_size size.0 then 0 else nat_abs size.0 - length size.1
wanted_behind len (Err fault) = 4 - len

unfoldable pub wanted : List ℕ → ℕ
wanted bytes = wanted_behind (length bytes) ((int w32).read bytes)

-- ---- all frames

-- the contents of frames, and the bytes behind them
pub record Split : Type 0 where
  pub frames : List (List ℕ)
  pub rest : List ℕ

-- The bytes are these frames and this rest, and the rest holds no whole frame.
pub record Splits (bytes : List ℕ) (s : Split) : Type 0 where
  pub parts : bytes ≡ flat_map frame.spell s.frames ++ s.rest
  pub sizes : AllByRecursion (λ content. length content ≤ content_limit) s.frames
  pub no_more : IsErr (first s.rest)

-- the frame at the front, if it is whole, and what is behind it split in this way
abbrev pub split_first : (List ℕ → Split) → List ℕ → Result (List ℕ × List ℕ) FrameFault → Split
split_first more bytes (Ok x) = record { frames = x.0 ∷ (more x.1).frames; rest = (more x.1).rest }
split_first more bytes (Err fault) = record { frames = []; rest = bytes }

-- at most so many frames, one after the other
unfoldable pub at_most : ℕ → List ℕ → Split
at_most zero bytes = record { frames = []; rest = bytes }
at_most (suc n) bytes = split_first (λ behind. at_most n behind) bytes (first bytes)

-- all whole frames, of which there are no more than bytes, and the rest
abbrev pub stream : List ℕ → Split
stream bytes = at_most (length bytes) bytes

-- The rest begins with the size of no frame.
abbrev pub is_faulty_rest : Result (List ℕ × List ℕ) FrameFault → Bool
is_faulty_rest (Err TooLarge) = true
is_faulty_rest r = false

unfoldable pub is_faulty : List ℕ → Bool
is_faulty bytes = is_faulty_rest (first (stream bytes).rest)

-- ---- what is held of a stream

-- Where the rest begins with the size of no frame, nothing is kept behind the 4 bytes of this size.
unfoldable pub kept : List ℕ → List ℕ
kept bytes = if is_faulty bytes then take (length bytes - length (stream bytes).rest + 4) bytes else bytes
