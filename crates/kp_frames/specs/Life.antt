-- A splitter's life: what it is fed, what it gives, and what it holds after that.
use Rattle.std.specs.Prelude.{◌≡◌, ℕ, true, false, List, [], ◌∷◌, ◌++◌, Option, Some, None, Result, Ok, Err}
use Rattle.std.specs.Global.{Vec}
use Rattle.std.specs.List.{flat_map}
use Rattle.kp_frames.specs.declared.fault.FrameFault.{FrameFault}
use Rattle.kp_frames.specs.declared.fault.FrameFault.TheVariants.{TooLarge, OutOfMemory}
use Rattle.kp_frames.specs.Stream.{Split, frame, first, stream, is_faulty, kept}

-- ---- one call

-- What is held, a piece of the stream, the answer to it, and what is held then. Only memory leaves what was held.
abbrev pub Feeds : List ℕ → List ℕ → Result (Unit {0}) FrameFault → List ℕ → Type 0
Feeds held piece (Ok done) after = (is_faulty (held ++ piece) ≡ false) × (after ≡ kept (held ++ piece))
Feeds held piece (Err TooLarge) after = (is_faulty (held ++ piece) ≡ true) × (after ≡ kept (held ++ piece))
Feeds held piece (Err OutOfMemory) after = after ≡ held
Feeds held piece (Err fault) after = ⊥

-- these frames stand before others, and the same rest
abbrev pub behind : List (List ℕ) → Split → Split
behind frames s = record { frames = frames ++ s.frames; rest = s.rest }

-- What is held, the answer to a question for a frame, and what is held then. Only memory leaves a frame there.
abbrev pub Next : List ℕ → Result (Option (Vec ℕ)) FrameFault → List ℕ → Type 0
Next held (Ok (Some content)) after =
    (first held ≡ Ok (content.items, after)) × (stream held ≡ behind (content.items ∷ []) (stream after))
    × (held ≡ frame.spell content.items ++ after)
Next held (Ok None) after = ((stream held).frames ≡ []) × (after ≡ held)
Next held (Err OutOfMemory) after = ((stream held).frames ≡ [] → ⊥) × (after ≡ held)
Next held (Err fault) after = ⊥

-- ---- many calls

-- a piece of the stream was fed, or the content of a frame was given
pub data Event : Type 0 where
  fed : List ℕ → Event
  gave : List ℕ → Event

-- From what is held, these events, one after the other, lead to what is held then.
abbrev pub Lives : List ℕ → List Event → List ℕ → Type 0
Lives held [] after = after ≡ held
Lives held (fed piece ∷ events) after = Lives (kept (held ++ piece)) events after
Lives held (gave content ∷ events) after =
    (rest : List ℕ) × (first held ≡ Ok (content, rest)) × Lives rest events after

-- the pieces that were fed, joined
abbrev pub taken : List Event → List ℕ
taken [] = []
taken (fed piece ∷ events) = piece ++ taken events
taken (gave content ∷ events) = taken events

-- the contents that were given
abbrev pub given : List Event → List (List ℕ)
given [] = []
given (fed piece ∷ events) = given events
given (gave content ∷ events) = content ∷ given events

-- The frames that were given and what is held are what was taken, up to the size of no frame.
pub record Lived (events : List Event) (after : List ℕ) : Type 0 where
  pub bytes : kept (taken events) ≡ flat_map frame.spell (given events) ++ after
  pub frames : (stream (taken events)).frames ≡ given events ++ (stream after).frames
  pub faulty : is_faulty (taken events) ≡ is_faulty after
