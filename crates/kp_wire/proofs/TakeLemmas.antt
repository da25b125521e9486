-- A value that was read, and how many bytes it took.
use Rattle.std.proofs.Common.{◌≡◌, ℕ, ◌+◌, ◌-◌, ◌≤◌, List, ◌++◌, length, take, drop, ℤ, Result, Ok, Err, sym, ap, ◌∙◌, arith}
use Rattle.std.specs.Prelude.{IfOk, IsOkAnd}
use Rattle.std.proofs.lemmas.List.{length-append, length-drop}
use Rattle.kp_wire.specs.declared.fault.WireFault.{WireFault}
use Rattle.kp_wire.specs.Reading.{Took}
use Rattle.kp_wire.specs.Codec.{Codec}
use Rattle.kp_wire.proofs.CodecLemmas.{IsExact}
use Rattle.kp_wire.proofs.ReadLemmas.{IsBytes, done, no_fault, ok_is, end_is, took_text}

-- the bytes behind what was read, by how many there are
pub counted : {X A : Type 0} (view : X → A) (c : Codec A) → IsExact 0 c → (bytes : List ℕ) (x : X) (rest : List ℕ) → IsBytes bytes → c.read bytes ≡ Ok (view x, rest)
    → (length rest ≤ length bytes) × (length bytes - length rest ≤ length bytes) × (c.read bytes ≡ Ok (view x, drop (length bytes - length rest) bytes))
counted {A = A} view c p bytes x rest fits e =
    let r = end_is bytes (c.spell (view x)) rest (p.takes bytes (view x, rest) fits e).0.parts in
    (r.0, omega arith, e ∙ ap (λ (t : List ℕ). done (view x, t)) r.1)

pub took_found : {X A : Type 0} (view : X → A) (c : Codec A) → IsExact 0 c → (bytes : List ℕ) (r : Result (X × ℕ) WireFault) → IsBytes bytes → Took view bytes r (c.read bytes)
    → IfOk r (λ x. take x.1 bytes ≡ c.spell (view x.0))
took_found view c p bytes (Ok x) fits t = took_text bytes (c.spell (view x.0)) x.1 t.0 (p.takes bytes (view x.0, drop x.1 bytes) fits t.1).0
took_found view c p bytes (Err f) fits t = tt

pub took_only : {X A : Type 0} (view : X → A) (c : Codec A) → IsExact 0 c → (bytes : List ℕ) (r : Result (X × ℕ) WireFault) (a : A) (rest : List ℕ)
    → bytes ≡ c.spell a ++ rest → c.Fits a → Took view bytes r (c.read bytes) → IsOkAnd r (λ x. (view x.0 ≡ a) × (x.1 ≡ length (c.spell a)))
took_only {A = A} view c p bytes (Ok x) a rest e fits t =
    let again = ap c.read e ∙ p.again a rest fits (omega arith) in
    let both = ok_is (view x.0, drop x.1 bytes) (a, rest) (sym t.1 ∙ again) in
    let rest-is : drop x.1 bytes ≡ rest = ap (λ (p : A × List ℕ). p.1) both in
    let whole : length bytes ≡ length (c.spell a) + length rest = ap length e ∙ length-append (c.spell a) rest in
    let left : length bytes - x.1 ≡ length rest = sym (length-drop x.1 bytes) ∙ ap length rest-is in
    (ap (λ (p : A × List ℕ). p.0) both, omega (arith, t.0))
took_only view c p bytes (Err f) a rest e fits t = no_fault f (a, rest) (sym t ∙ ap c.read e ∙ p.again a rest fits (omega arith))

-- the same of a number
pub took_number : (r : Result (ℤ × ℕ) WireFault) (z : ℤ) (n : ℕ) → IsOkAnd r (λ x. (x.0 ≡ z) × (x.1 ≡ n)) → r ≡ Ok (z, n)
took_number (Ok x) z n e = ap (λ (p : ℤ × ℕ). Ok p) (ap (λ (y : ℤ). (y, x.1)) e.0 ∙ ap (λ (m : ℕ). (z, m)) e.1)
took_number (Err f) z n e = absurd e
