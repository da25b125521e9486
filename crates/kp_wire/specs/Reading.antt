-- Reading from left to right, with the first fault that is met.
use Rattle.std.specs.Prelude.{◌≡◌, ℕ, ◌≤◌, List, length, drop, Result, Ok, Err, Bool, if◌then◌else◌}
use Rattle.kp_wire.specs.declared.fault.WireFault.{WireFault}
use Rattle.kp_wire.specs.declared.fault.ReadError.{ReadError}
use Rattle.kp_wire.specs.declared.fault.ReadError.TheVariants.{Memory, Fault}

-- what reading from the front gives: a value and the bytes behind it, or the first fault
abbrev pub Read : Type 0 → Type 0
Read A = Result (A × List ℕ) WireFault

-- The second reads where the first left off, and is not reached where the first finds a fault.
infixl 10 ◌>>=◌
abbrev pub ◌>>=◌ : {A B E : Type 0} → Result A E → (A → Result B E) → Result B E
(Ok x) >>= f = f x
(Err e) >>= f = Err e

-- Where the test holds, it is this fault, and nothing behind it is looked at.
abbrev pub refuse : {E : Type 0} → Bool → E → Result (Unit {0}) E
refuse applies fault = if applies then Err fault else Ok tt

-- what reading gives, its fault as another
abbrev pub or_else : {A E F : Type 0} → (E → F) → Result A E → Result A F
or_else fault (Ok x) = Ok x
or_else fault (Err f) = Err (fault f)

-- What a function gave, seen by view, is what reading gives.
abbrev pub IsRead : {X Y E : Type 0} → (X → Y) → Result X E → Result Y E → Type 0
IsRead view (Ok x) read = read ≡ Ok (view x)
IsRead view (Err e) read = read ≡ Err e

-- A value, seen by view, and the number of its bytes, where reading gives that value and the bytes behind it; else the
-- same fault.
abbrev pub Took : {X A : Type 0} → (X → A) → List ℕ → Result (X × ℕ) WireFault → Read A → Type 0
Took view bytes (Ok x) read = (x.1 ≤ length bytes) × (read ≡ Ok (view x.0, drop x.1 bytes))
Took view bytes (Err e) read = read ≡ Err e

-- The error is that of reading, or memory was refused.
abbrev pub Fails : {Y : Type 0} → ReadError → Result Y WireFault → Type 0
Fails Memory read = Unit {0}
Fails (Fault fault) read = read ≡ Err fault

-- What a function gave, seen by view, is what reading gives; or it is an error, with which it refuses what reading gives.
abbrev pub Answers : {X Y E F : Type 0} → (E → Result Y F → Type 0) → (X → Y) → Result X E → Result Y F → Type 0
Answers refuses view (Ok x) read = read ≡ Ok (view x)
Answers refuses view (Err e) read = refuses e read

-- What a function gave, seen by view, is what reading gives, unless memory was refused.
abbrev pub Gives : {X Y : Type 0} → (X → Y) → Result X ReadError → Result Y WireFault → Type 0
Gives view result read = Answers Fails view result read
