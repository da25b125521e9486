-- The test for UTF-8, where it is known how it goes.
use Rattle.std.proofs.Common.{◌≡◌, ℕ, false, List, Ok, Err, refl, sym, ap}
use Rattle.std.specs.Str.{IsUtf8, is_utf8}
use Rattle.std.proofs.lemmas.Bool.{false_from_ne_true}
use Rattle.std.proofs.lemmas.Str.{IsUtf8-from_is_utf8, is_utf8-from_IsUtf8}
use Rattle.kp_wire.specs.declared.fault.WireFault.TheVariants.{NotUtf8}
use Rattle.kp_wire.specs.Codec.{plain, utf8}

is_no_text : (bytes : List ℕ) → (IsUtf8 bytes → ⊥) → is_utf8 bytes ≡ false
is_no_text bytes h = false_from_ne_true (is_utf8 bytes) (λ e. h (IsUtf8-from_is_utf8 bytes e))

pub reads_text : (n : ℕ) (bytes front rest text : List ℕ) → (plain n).read bytes ≡ Ok (front, rest) → text ≡ front → IsUtf8 front → (utf8 n).read bytes ≡ Ok (text, rest)
reads_text n bytes front rest text e same h = rw (e, is_utf8-from_IsUtf8 front h) (ap (λ (t : List ℕ). Ok (t, rest)) (sym same))

pub reads_no_text : (n : ℕ) (bytes front rest : List ℕ) → (plain n).read bytes ≡ Ok (front, rest) → (IsUtf8 front → ⊥) → (utf8 n).read bytes ≡ Err NotUtf8
reads_no_text n bytes front rest e h = rw (e, is_no_text front h) refl
