-- Reading one value after the other, as a loop does.
use Rattle.std.proofs.Common.{◌≡◌, ℕ, suc, ◌-◌, ◌+◌, ◌≤◌, ◌<◌, List, [], ◌∷◌, ◌++◌, Result, Ok, Err, refl, sym, ap, ◌∙◌, append_assoc, arith}
use Rattle.std.proofs.lemmas.List.{append-nil}
use Rattle.kp_wire.specs.declared.fault.WireFault.{WireFault}
use Rattle.kp_wire.specs.declared.fault.ReadError.{ReadError}
use Rattle.kp_wire.specs.declared.fault.ReadError.TheVariants.{Memory, Fault}
use Rattle.kp_wire.specs.Reading.{◌>>=◌, Fails}
use Rattle.kp_wire.specs.Codec.{read_many}

-- what was read before, and what is still read
abbrev pub with_front : {A : Type 0} → List A → Result (List A × List ℕ) WireFault → Result (List A × List ℕ) WireFault
with_front front read = read >>= λ x. Ok (front ++ x.0, x.1)

pub with_none : {A : Type 0} (read : Result (List A × List ℕ) WireFault) → with_front [] read ≡ read
with_none (Ok x) = refl
with_none (Err f) = refl

regroup : {A : Type 0} (front : List A) (n : A) (read : Result (List A × List ℕ) WireFault) → with_front front (read >>= λ x. Ok (n ∷ x.0, x.1)) ≡ with_front (front ++ n ∷ []) read
regroup {A = A} front n (Ok x) = ap (λ (ns : List A). Ok (ns, x.1)) (simp append_assoc)
regroup front n (Err f) = refl

pub goes_on : {A : Type 0} (reads : List ℕ → Result (A × List ℕ) WireFault) (front : List A) (count i : ℕ) (bytes : List ℕ) (n : A) (after : List ℕ) (total : Result (List A × List ℕ) WireFault) → i < count → reads bytes ≡ Ok (n, after)
    → with_front front (read_many reads (count - i) bytes) ≡ total → with_front (front ++ n ∷ []) (read_many reads (count - (i + 1)) after) ≡ total
unfolding read_many
goes_on reads front count i bytes n after total lt h so_far =
    let k : count - i ≡ suc (count - (i + 1)) = omega arith in
    let one : with_front front (read_many reads (count - i) bytes) ≡ with_front (front ++ n ∷ []) (read_many reads (count - (i + 1)) after) = rw (k, h) (regroup front n (read_many reads (count - (i + 1)) after)) in
    sym one ∙ so_far

pub ends : {A : Type 0} (e : ReadError) (reads : List ℕ → Result (A × List ℕ) WireFault) (front : List A) (count i : ℕ) (bytes : List ℕ) (total : Result (List A × List ℕ) WireFault) → i < count → Fails e (reads bytes)
    → with_front front (read_many reads (count - i) bytes) ≡ total → Fails e total
unfolding read_many
ends Memory reads front count i bytes total lt h so_far = tt
ends (Fault f) reads front count i bytes total lt h so_far =
    let k : count - i ≡ suc (count - (i + 1)) = omega arith in
    let one : with_front front (read_many reads (count - i) bytes) ≡ Err f = rw (k, h) refl in
    sym so_far ∙ one

pub is_done : {A : Type 0} (reads : List ℕ → Result (A × List ℕ) WireFault) (front : List A) (count i : ℕ) (bytes : List ℕ) (total : Result (List A × List ℕ) WireFault) → count ≤ i → with_front front (read_many reads (count - i) bytes) ≡ total → total ≡ Ok (front, bytes)
unfolding read_many
is_done {A = A} reads front count i bytes total le so_far =
    let k : count - i ≡ 0 = omega arith in
    let one : with_front front (read_many reads (count - i) bytes) ≡ Ok (front, bytes) = rw k (ap (λ (ns : List A). Ok (ns, bytes)) (append-nil front)) in
    sym so_far ∙ one
