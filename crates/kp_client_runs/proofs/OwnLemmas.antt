-- What holds where it went well; and senders that have finished.
use Rattle.std.proofs.Common.{◌≡◌, ◌<◌, ℕ, List, [], ◌∷◌, length, sym, subst, arith}
use Rattle.std.specs.Prelude.{All, IfOk, Result, Ok, Err, slice_index_or}
use Rattle.kp_client.specs.Producer.{lane_of, Finishes}
use Rattle.kp_client.specs.declared.producer.Producer.{Producer}
use Rattle.kp_client_runs.specs.Held.{FinishEach}
use Rattle.kp_lanes.specs.Lane.{LaneId}
use Rattle.kp_lanes.specs.Sender.{finished_id, sender_number, IsSenderOf}
use Rattle.kp_lanes.specs.Settling.{IsOf}
use Rattle.kp_lanes.specs.declared.sender.Finished.{Finished}

pub if_ok : {T E X Y : Type 0} (result : Result T E) → (X → Y) → IfOk result (λ t. X) → IfOk result (λ t. Y)
if_ok (Ok t) f h = f h
if_ok (Err e) f h = tt

is_of : (lanes : List LaneId) (p : Producer) (f : Finished) → IsSenderOf lanes (lane_of p) → Finishes p f → IsOf lanes f
is_of lanes p f is same = (
  subst (λ (n : ℕ). n < length lanes) (sym same.0) is.0,
  subst (λ (n : ℕ). slice_index_or lanes n (finished_id f) ≡ finished_id f) (sym same.0)
      (subst (λ (x : LaneId). slice_index_or lanes (sender_number (lane_of p)) x ≡ x) (sym same.1) is.1),
)

-- What is left of senders is of their lanes.
pub all_of : (lanes its : List LaneId) (ps : List Producer) (fs : List Finished) → its ≡ lanes
    → All (λ p. IsSenderOf lanes (lane_of p)) ps → FinishEach ps fs → All (IsOf its) fs
all_of lanes its [] fs same all each k d near = absurd (omega (arith, near, each.many))
all_of lanes its (p ∷ ps) fs same all each k d near =
    let low : k < length (p ∷ ps) = omega (arith, near, each.many) in
    subst (λ (ls : List LaneId). IsOf ls (slice_index_or fs k d)) (sym same)
    (is_of lanes (slice_index_or (p ∷ ps) k p) (slice_index_or fs k d) (all k p low) (each.each k p d low))
