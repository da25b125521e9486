-- The connection of an engine.
use Rattle.std.proofs.Common.{◌≡◌, ℕ, List, [], ◌∷◌, Bool, true, false, refl, sym, ap, subst, ◌∙◌}
use Rattle.std.specs.Prelude.{not}
use Rattle.futures.specs.declared.task.Poll.{Poll}
use Rattle.futures.specs.declared.task.Poll.TheVariants.{Ready}
use Rattle.kp_connection.specs.Wire.{Told, Wired}
use Rattle.kp_frames.specs.Stream.{is_faulty}
use Rattle.kp_frames.proofs.KeptLemmas.{none_faulty}
use Rattle.kp_engine.specs.Engine.{Cleared, IsFor, Polls, line_after, moments_in}
use Rattle.kp_engine.specs.Polls.{GoesOnBehind, IsUndone, Turns}
use Rattle.kp_engine.specs.declared.engine.Line.{Line}
use Rattle.kp_engine.specs.declared.engine.Line.TheVariants.{Open, Stopped}
use Rattle.kp_engine.specs.declared.exchange.Exchange.{Exchange}
use Rattle.kp_engine.specs.declared.stop.Stop.{Stop}

-- nothing is held
pub fresh_sound : (held : List ℕ) → held ≡ [] → not (is_faulty held) ≡ true
fresh_sound held none = ap (λ (bytes : List ℕ). not (is_faulty bytes)) none ∙ ap not none_faulty

pub sound_from : (b : Bool) → not b ≡ true → b ≡ false
sound_from true is = cc
sound_from false is = refl

pub sound_to : (b : Bool) → b ≡ false → not b ≡ true
sound_to b is = ap not is

-- one turn was made for this node over the open connection, at this moment
pub made_turn : {S : Type 0} (answers : Told S) (line : Line S) (wire : Wired S) → line ≡ Open wire
    → (node now : ℕ) (old begun new : Exchange) (result : Poll Stop) (after : Wired S) (left : Line S)
    → Cleared old begun → Turns answers node now begun wire result new after → (GoesOnBehind result → IsUndone begun new) → left ≡ line_after result after
    → (poll : Polls answers line old result new left) × IsFor answers node line old result new left poll × (moments_in answers line old result new left poll ≡ now ∷ [])
made_turn answers line wire is node now old begun new result after left cleared turns undone afterwards =
    subst (λ (l : Line _). (poll : Polls answers l old result new left) × IsFor answers node l old result new left poll × (moments_in answers l old result new left poll ≡ now ∷ [])) (sym is)
    (record { node = node; now = now; begun = begun; cleared = cleared; after = after; turns = turns; undone = undone; line = afterwards }, refl, refl)

-- none was made, where the connection was given up
pub made_none : {S : Type 0} (answers : Told S) (line : Line S) (stop : Stop) → line ≡ Stopped stop → (node : ℕ) (old new : Exchange) (result : Poll Stop) (left : Line S)
    → Cleared old new → result ≡ Ready stop → left ≡ Stopped stop
    → (poll : Polls answers line old result new left) × IsFor answers node line old result new left poll × (moments_in answers line old result new left poll ≡ [])
made_none answers line stop is node old new result left cleared same stays =
    subst (λ (l : Line _). (poll : Polls answers l old result new left) × IsFor answers node l old result new left poll × (moments_in answers l old result new left poll ≡ [])) (sym is)
    ((cleared, same, stays), tt, refl)
