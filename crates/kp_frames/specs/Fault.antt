-- The faults of a message, from those of its fields.
use Rattle.std.specs.Prelude.{◌≡◌, ℕ, List, [], ◌∷◌, Result, Ok, Err}
use Rattle.kp_wire.specs.declared.fault.WireFault.{WireFault}
use Rattle.kp_wire.specs.declared.fault.WireFault.TheVariants as field
use Rattle.kp_wire.specs.declared.fault.ReadError.{ReadError}
use Rattle.kp_wire.specs.declared.fault.ReadError.TheVariants as read
use Rattle.kp_wire.specs.Reading.{or_else}
use Rattle.kp_frames.specs.declared.fault.FrameFault.{FrameFault}
use Rattle.kp_frames.specs.declared.fault.FrameFault.TheVariants.{Short, Trailing, UnknownApi, UnknownVersion, Wire, TooLarge, OutOfMemory, Mismatch}

-- an input that ends within a field is a short message; any other fault is the field's
abbrev pub of_wire : WireFault → FrameFault
of_wire field.Short = Short
of_wire field.TooLarge = Wire field.TooLarge
of_wire field.NotShortest = Wire field.NotShortest
of_wire field.NotUtf8 = Wire field.NotUtf8
of_wire field.BadLength = Wire field.BadLength
of_wire field.BadByte = Wire field.BadByte

abbrev pub of_read : ReadError → FrameFault
of_read read.Memory = OutOfMemory
of_read (read.Fault fault) = of_wire fault

-- what reading fields gives, with the message's fault
abbrev pub in_message : {A : Type 0} → Result A WireFault → Result A FrameFault
in_message read = or_else of_wire read

-- The message, where nothing stands behind it.
abbrev pub whole : {A : Type 0} → A → List ℕ → Result A FrameFault
whole x [] = Ok x
whole x (b ∷ rest) = Err Trailing

-- ---- what a function gave

-- The fault is that of reading, or memory was refused where reading had begun.
abbrev pub Refuses : {Y : Type 0} → Type 0 → FrameFault → Result Y FrameFault → Type 0
Refuses begun OutOfMemory read = begun
Refuses begun fault read = read ≡ Err fault

-- ---- which faults come

-- the faults of a field that a message's fault carries
abbrev pub IsCarried : WireFault → Type 0
IsCarried field.Short = ⊥
IsCarried field.TooLarge = ⊥
IsCarried field.NotShortest = ⊥
IsCarried field.NotUtf8 = Unit {0}
IsCarried field.BadLength = Unit {0}
IsCarried field.BadByte = Unit {0}

-- the faults of reading fields that are all of a content
abbrev pub IsContentFault : FrameFault → Type 0
IsContentFault Short = Unit {0}
IsContentFault Trailing = Unit {0}
IsContentFault UnknownApi = ⊥
IsContentFault UnknownVersion = ⊥
IsContentFault (Wire fault) = IsCarried fault
IsContentFault TooLarge = ⊥
IsContentFault OutOfMemory = Unit {0}
IsContentFault Mismatch = ⊥

-- the same, behind an api and its version
abbrev pub IsRequestFault : FrameFault → Type 0
IsRequestFault UnknownApi = Unit {0}
IsRequestFault UnknownVersion = Unit {0}
IsRequestFault fault = IsContentFault fault
