-- A message as a frame.
use Rattle.std.specs.Prelude.{◌≡◌, ℕ, ◌≤◌, ◌<◌, List, length, Result, Ok, Err}
use Rattle.kp_wire.specs.declared.fault.WireFault.TheVariants.{BadLength}
use Rattle.kp_frames.specs.declared.fault.FrameFault.{FrameFault}
use Rattle.kp_frames.specs.declared.fault.FrameFault.TheVariants.{Wire, TooLarge, OutOfMemory}
use Rattle.kp_frames.specs.Stream.{frame, content_limit}

-- The first refusal that applies: a field has no spelling, or the content is too large, or memory was refused.
abbrev pub IsRefused : Type 0 → List ℕ → FrameFault → Type 0
IsRefused fits content (Wire BadLength) = fits → ⊥
IsRefused fits content TooLarge = fits × (content_limit < length content)
IsRefused fits content OutOfMemory = fits × (length content ≤ content_limit)
IsRefused fits content fault = ⊥

-- What a writer gave, seen by view, is the frame of the content, where its fields have spellings and it isn't too large.
abbrev pub IsFrame : {X : Type 0} → (X → List ℕ) → Type 0 → List ℕ → Result X FrameFault → Type 0
IsFrame view fits content (Ok x) = fits × (length content ≤ content_limit) × (view x ≡ frame.spell content)
IsFrame view fits content (Err fault) = IsRefused fits content fault
