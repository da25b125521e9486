-- What is printed of bytes that were read: a reader that tells its bytes has had those.
use Rattle.std.proofs.Common.{◌≡◌, ℕ, List, Option, None, Some, subst}
use Rattle.std.specs.Prelude.{IfSome}
use Rattle.std.specs.Io.KnownBytes.{Appends}
use Rattle.kp_packing.specs.Packed.{packed_text}
use Rattle.kp_program.specs.Lines.{lines}

pub prints_packed : (held : Option (List ℕ)) (read text : List ℕ) (out out' : Option (List ℕ)) → IfSome held (λ bytes. read ≡ bytes) → text ≡ packed_text (lines read) → Appends out out' text → IfSome held (λ bytes. Appends out out' (packed_text (lines bytes)))
prints_packed None read text out out' same is printed = tt
prints_packed (Some bytes) read text out out' same is printed =
    subst (λ (b : List ℕ). Appends out out' (packed_text (lines b))) same (rw is at printed)
