-- What is used of a limit.
use Rattle.std.specs.Prelude.{ℕ}

pub record Budget : Type 0 where
  pub used : ℕ
  pub limit : ℕ
