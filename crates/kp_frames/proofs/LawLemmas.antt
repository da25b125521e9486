-- Laws of a stream's frames, over bytes.
use Rattle.std.proofs.Common.{◌≡◌, ℕ, ◌<◌, ◌^◌, cond, List, [], ◌++◌, length, take, ap, ◌∙◌, inl, inr, arith}
use Rattle.std.specs.Prelude.{All}
use Rattle.std.specs.List.{flat_map}
use Rattle.std.proofs.lemmas.Bool.{cases_lt}
use Rattle.std.proofs.lemmas.List.{get_or_past}
use Rattle.kp_wire.proofs.ReadLemmas.{IsBytes}
use Rattle.kp_frames.specs.Stream.{Splits, frame, stream, is_faulty, kept}
use Rattle.kp_frames.specs.Life.{Event, Lives, Lived, taken}
use Rattle.kp_frames.proofs.StreamLemmas.{is_split, parts_of}
use Rattle.kp_frames.proofs.KeptLemmas.{kept_parts}
use Rattle.kp_frames.proofs.LifeLemmas.{lived}

bytes_of : (bytes : List ℕ) → All (λ byte. byte < 2 ^ 8) bytes → IsBytes bytes
bytes_of bytes all i =
    elim (cases_lt i (length bytes)) [
      | inl lt ↦ all i 0 lt
      | inr le ↦ rw (get_or_past bytes i 0 le) (omega arith)
    ]

pub split : (bytes : List ℕ) → All (λ byte. byte < 2 ^ 8) bytes → Splits bytes (stream bytes)
split bytes all = is_split bytes (bytes_of bytes all)

pub kept_spelled : (bytes : List ℕ) → All (λ byte. byte < 2 ^ 8) bytes → kept bytes ≡ flat_map frame.spell (stream bytes).frames ++ cond (is_faulty bytes) (take 4 (stream bytes).rest) (stream bytes).rest
kept_spelled bytes all =
    let p = parts_of bytes in
    let s = stream bytes in
    kept_parts bytes ∙ ap (λ (t : List ℕ). t ++ cond (is_faulty bytes) (take 4 s.rest) s.rest) (p.spelled (bytes_of bytes all))

pub all_lived : (events : List Event) (after : List ℕ) → All (λ byte. byte < 2 ^ 8) (taken events) → Lives [] events after → Lived events after
all_lived events after all e = lived events after (bytes_of (taken events) all) e
