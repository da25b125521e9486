-- What an engine waits for.
use Rattle.std.specs.Prelude.{ℕ}
use Rattle.kp_engine.specs.declared.engine.Engine.{Engine}
use Rattle.kp_engine.specs.declared.engine.Line.{Line}
use Rattle.kp_engine.specs.declared.engine.Line.TheVariants.{Open, Stopped}

-- what a connection waits for, where it is open
abbrev pub read_by : {S : Type 0} → (S → ℕ → Type 0) → Line S → ℕ → Type 0
read_by reader (Open wire) source = reader wire.stream source
read_by reader (Stopped stop) source = ⊥

abbrev pub reader_of : {S C : Type 0} → (S → ℕ → Type 0) → Engine S C → ℕ → Type 0
reader_of reader engine source = read_by reader engine.line source
