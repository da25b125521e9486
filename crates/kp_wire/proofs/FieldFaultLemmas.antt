-- Which faults the fields of Kafka's messages have.
use Rattle.std.proofs.Common.{◌≡◌, ℕ, zero, suc, true, false, cond, ltb, List, [], ◌∷◌, inl, inr, length, take, drop, ℤ, pos, negsuc, Some, None, Ok, Err, sym}
use Rattle.std.specs.Int.{Width, w16, w32, w64, byte_len, from_be_bytes, cast_signed}
use Rattle.std.specs.Str.{is_utf8}
use Rattle.kp_wire.specs.declared.fault.WireFault.{WireFault}
use Rattle.kp_wire.specs.declared.fault.WireFault.TheVariants.{Short, NotUtf8, BadLength, BadByte}
use Rattle.kp_wire.specs.Reading.{Read, ◌>>=◌}
use Rattle.kp_wire.specs.Codec.{read_bytes, int, number, plain, utf8, read_many, by_length, by_nullable_length}
use Rattle.kp_wire.specs.Fields.{IsFieldFault, int16, int32, int64, boolean, read_boolean, records, read_array, read_nullable_array}
use Rattle.kp_wire.specs.Strings.{string, nullable_string}
use Rattle.kp_wire.proofs.ReadLemmas.{no_fault, is_error, bind_err, chosen}

-- every fault of this reading is one of a field
abbrev pub HasFieldFaults : {A : Type 0} → (List ℕ → Read A) → Type 0
HasFieldFaults read = (bytes : List ℕ) (fault : WireFault) → read bytes ≡ Err fault → IsFieldFault fault

bytes_faults : (n : ℕ) → HasFieldFaults (read_bytes n)
bytes_faults n bytes fault e =
    elim (chosen (ltb (length bytes) n) _ _ _ e) [
      | inl short ↦ is_error IsFieldFault Short fault tt short.1
      | inr ok ↦ absurd (no_fault fault (take n bytes, drop n bytes) (sym ok.1))
    ]

-- a value that is made of what was read
pub made_faults : {A B : Type 0} (read : List ℕ → Read A) (make : A → B) → HasFieldFaults read → HasFieldFaults (λ bytes. read bytes >>= λ x. Ok (make x.0, x.1))
made_faults read make p bytes fault e =
    elim (bind_err (read bytes) (λ x. Ok (make x.0, x.1)) fault e) [
      | inl first ↦ p bytes fault first
      | inr second ↦ absurd (no_fault fault (make second.0.0, second.0.1) (sym second.2))
    ]

number_faults : (w : Width) → HasFieldFaults (number w).read
number_faults w = made_faults (read_bytes (byte_len w)) (from_be_bytes w) (bytes_faults (byte_len w))

int_faults : (w : Width) → HasFieldFaults (int w).read
int_faults w = made_faults (number w).read (cast_signed w) (number_faults w)

-- one value, and then another
pub pair_faults : {A B : Type 0} {first : List ℕ → Read A} {second : List ℕ → Read B} → HasFieldFaults first → HasFieldFaults second
    → HasFieldFaults {A = A × B} (λ bytes. first bytes >>= λ x. second x.1 >>= λ y. Ok ((x.0, y.0), y.1))
pair_faults {A = A} {B = B} {first = first} {second = second} p q bytes fault e =
    elim (bind_err (first bytes) (λ x. second x.1 >>= λ y. Ok ((x.0, y.0), y.1)) fault e) [
      | inl here ↦ p bytes fault here
      | inr there ↦ made_faults second (λ y. (there.0.0, y)) q there.0.1 fault there.2
    ]

utf8_faults : (n : ℕ) → HasFieldFaults (utf8 n).read
utf8_faults n bytes fault e =
    elim (bind_err (read_bytes n bytes) (λ x. cond (is_utf8 x.0) (Ok x) (Err NotUtf8)) fault e) [
      | inl first ↦ bytes_faults n bytes fault first
      | inr second ↦ elim (chosen (is_utf8 second.0.0) _ _ _ second.2) [
        | inl ok ↦ absurd (no_fault fault second.0 (sym ok.1))
        | inr none ↦ is_error IsFieldFault NotUtf8 fault tt none.1
      ]
    ]

many_faults : {A : Type 0} (read : List ℕ → Read A) → HasFieldFaults read → (n : ℕ) → HasFieldFaults (read_many read n)
unfolding read_many
many_faults read p zero bytes fault e = absurd (no_fault fault ([], bytes) (sym e))
many_faults read p (suc n) bytes fault e =
    elim (bind_err (read bytes) (λ x. read_many read n x.1 >>= λ xs. Ok (x.0 ∷ xs.0, xs.1)) fault e) [
      | inl first ↦ p bytes fault first
      | inr second ↦ made_faults (read_many read n) (λ xs. second.0.0 ∷ xs) (many_faults read p n) second.0.1 fault second.2
    ]

by_length_faults : {A : Type 0} (read : ℕ → List ℕ → Read A) → ((n : ℕ) → HasFieldFaults (read n)) → (z : ℤ) → HasFieldFaults (by_length read z)
unfolding by_length
by_length_faults read p (pos n) bytes fault e = p n bytes fault e
by_length_faults read p (negsuc n) bytes fault e = is_error IsFieldFault BadLength fault tt e

by_nullable_length_faults : {A : Type 0} (read : ℕ → List ℕ → Read A) → ((n : ℕ) → HasFieldFaults (read n)) → (z : ℤ) → HasFieldFaults (by_nullable_length read z)
unfolding by_nullable_length
by_nullable_length_faults read p (pos n) bytes fault e = made_faults (read n) (λ x. Some x) (p n) bytes fault e
by_nullable_length_faults read p (negsuc zero) bytes fault e = absurd (no_fault fault (None, bytes) (sym e))
by_nullable_length_faults read p (negsuc (suc n)) bytes fault e = is_error IsFieldFault BadLength fault tt e

-- what stands behind a number
behind_faults : {A : Type 0} (w : Width) (read : ℤ → List ℕ → Read A) → ((z : ℤ) → HasFieldFaults (read z)) → HasFieldFaults (λ bytes. (int w).read bytes >>= λ n. read n.0 n.1)
behind_faults w read p bytes fault e =
    elim (bind_err ((int w).read bytes) (λ n. read n.0 n.1) fault e) [
      | inl first ↦ int_faults w bytes fault first
      | inr second ↦ p second.0.0 second.0.1 fault second.2
    ]

-- ---- the kinds of fields

pub int16_faults : HasFieldFaults int16.read
int16_faults = int_faults w16

pub int32_faults : HasFieldFaults int32.read
int32_faults = int_faults w32

pub int64_faults : HasFieldFaults int64.read
int64_faults = int_faults w64

pub string_faults : HasFieldFaults string.read
string_faults = behind_faults w16 (by_length (λ n. (utf8 n).read)) (by_length_faults (λ n. (utf8 n).read) utf8_faults)

pub nullable_string_faults : HasFieldFaults nullable_string.read
nullable_string_faults = behind_faults w16 (by_nullable_length (λ n. (utf8 n).read)) (by_nullable_length_faults (λ n. (utf8 n).read) utf8_faults)

pub boolean_faults : HasFieldFaults boolean.read
unfolding read_boolean
boolean_faults [] fault e = is_error IsFieldFault Short fault tt e
boolean_faults (zero ∷ bytes) fault e = absurd (no_fault fault (false, bytes) (sym e))
boolean_faults (suc zero ∷ bytes) fault e = absurd (no_fault fault (true, bytes) (sym e))
boolean_faults (suc (suc n) ∷ bytes) fault e = is_error IsFieldFault BadByte fault tt e

pub records_faults : HasFieldFaults records.read
unfolding records
records_faults = behind_faults w32 (by_length (λ n. (plain n).read)) (by_length_faults (λ n. (plain n).read) bytes_faults)

pub array_faults : {A : Type 0} {read : List ℕ → Read A} → HasFieldFaults read → HasFieldFaults (read_array read)
unfolding read_array
array_faults {read = read} p = behind_faults w32 (by_length (read_many read)) (by_length_faults (read_many read) (many_faults read p))

pub nullable_array_faults : {A : Type 0} {read : List ℕ → Read A} → HasFieldFaults read → HasFieldFaults (read_nullable_array read)
unfolding read_nullable_array
nullable_array_faults {read = read} p = behind_faults w32 (by_nullable_length (read_many read)) (by_nullable_length_faults (read_many read) (many_faults read p))
