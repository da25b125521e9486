-- What a splitter's fields say of the bytes that it holds.
use Rattle.std.specs.Prelude.{◌≡◌, ℕ, ◌≤◌, Bool, true, false, List, length, drop}
use Rattle.kp_frames.specs.declared.splitter.Tail.{Tail}
use Rattle.kp_frames.specs.declared.splitter.Tail.TheVariants.{Open, Stopped}
use Rattle.kp_frames.specs.Stream.{stream, is_faulty, kept}

abbrev pub is_stopped : Tail → Bool
is_stopped Open = false
is_stopped Stopped = true

-- The bytes behind those that were given are held, and of these the ones behind `whole` are in no whole frame.
pub record IsHeld (bytes : List ℕ) (given whole : ℕ) (tail : Tail) : Type 0 where
  pub given_before : given ≤ whole
  pub whole_before : whole ≤ length bytes
  pub rest : (stream (drop given bytes)).rest ≡ drop whole bytes
  pub stops : is_stopped tail ≡ is_faulty (drop given bytes)
  pub kept : kept (drop given bytes) ≡ drop given bytes

-- Of the bytes that were given no more are kept than wait.
pub record IsInOrder (bytes : List ℕ) (given whole : ℕ) (tail : Tail) : Type 0 where
  pub held : IsHeld bytes given whole tail
  pub few_given : given ≤ length (drop given bytes)

-- The same bytes wait, the same of them are in no whole frame, and of those that were given no more are kept than wait.
pub record IsDropped (bytes : List ℕ) (given whole : ℕ) (left : List ℕ) (given_left whole_left : ℕ) : Type 0 where
  pub waiting : drop given_left left ≡ drop given bytes
  pub rest : drop whole_left left ≡ drop whole bytes
  pub given_before : given_left ≤ whole_left
  pub whole_before : whole_left ≤ length left
  pub few_given : given_left ≤ length (drop given_left left)
