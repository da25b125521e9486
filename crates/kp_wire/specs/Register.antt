-- The division as a register of 32 bits does it: the number whose lowest bit is the leading one.
use Rattle.std.specs.Prelude.{ℕ, zero, suc, ◌/◌, ◌%◌, ◌==◌, bit_xor, if◌then◌else◌}

-- one place of the division
abbrev pub step : ℕ → ℕ
step s = if s % 2 == 1 then bit_xor (s / 2) 0x82F63B78 else s / 2

unfoldable pub step_times : ℕ → ℕ → ℕ
step_times zero s = s
step_times (suc k) s = step_times k (step s)

-- the register after a byte
abbrev pub byte_step : ℕ → ℕ → ℕ
byte_step s byte = step_times 8 (bit_xor s byte)
