-- An engine from when it was made on, poll by poll.
use Rattle.std.proofs.Common.{Bool, ℕ, List, [], ◌∷◌, ◌++◌}
use Rattle.futures.specs.declared.task.Poll.{Poll}
use Rattle.kp_connection.specs.Wire.{Told}
use Rattle.kp_lanes.specs.declared.intake.Intake.{Intake}
use Rattle.kp_rules.specs.Calls.{Call, End, Step}
use Rattle.kp_rules.specs.Records.{Core}
use Rattle.kp_engine.specs.Away.{MakesTurnAway}
use Rattle.kp_engine.specs.Closing.{Polled, calls_of_poll}
use Rattle.kp_engine.specs.Engine.{IsNew, Polls}
use Rattle.kp_engine.specs.Exchange.{OnlyCore}
use Rattle.kp_engine.specs.Made.{WasEnded, WasPolled, anything}
use Rattle.kp_engine.specs.Opening.{MayTurn}
use Rattle.kp_engine.specs.Parts.{ArePartsOf}
use Rattle.kp_engine.specs.Serving.{HasServed}
use Rattle.kp_engine.specs.declared.engine.Line.{Line}
use Rattle.kp_engine.specs.declared.exchange.Exchange.{Exchange}
use Rattle.kp_engine.specs.declared.parts.Parts.{Parts}
use Rattle.kp_engine.specs.declared.stop.Cause.{Cause}
use Rattle.kp_engine.specs.declared.stop.Stop.{Stop}
use Rattle.kp_engine.proofs.BegunLemmas.{new_places}
use Rattle.kp_engine.proofs.ClosingLemmas.{polls_serve}
use Rattle.kp_engine.proofs.SinceLemmas.{end_served}
use Rattle.kp_engine.proofs.StreamlessLemmas.{no_line, poll_so}

module _ (core : Core) (intake : Intake) where
  pub new_polled : (keeps : Bool) (x : Exchange) → MayTurn core intake → IsNew core intake keeps x → WasPolled core intake [] x
  new_polled keeps x may is_new = record { may_turn = may; keeps = keeps; first = x; is_new = is_new; polled = Polled.not_yet }

  module _ (calls : List Call) (x : Exchange) (w : WasPolled core intake calls x) where
    pub polled_more : {S : Type 0} (answers : Told S) (line : Line S) (result : Poll Stop) (y : Exchange) (left : Line S) → Polls answers line x result y left
        → (more : List Call) × WasPolled core intake (calls ++ more) y
    polled_more answers line result y left poll =
        let so = poll_so answers line x result y left poll in (
          calls_of_poll anything (no_line line) x result y (no_line left) so,
          record {
            may_turn = w.may_turn;
            keeps = w.keeps;
            first = w.first;
            is_new = w.is_new;
            polled = Polled.once_more x y calls (no_line line) (no_line left) result w.polled so;
          },
        )

    pub polled_away : (cause : Cause) (stop : Stop) (y : Exchange) → (turn : MakesTurnAway cause x stop y) → WasPolled core intake (calls ++ turn.calls) y
    polled_away cause stop y turn = record {
      may_turn = w.may_turn;
      keeps = w.keeps;
      first = w.first;
      is_new = w.is_new;
      polled = Polled.away x y calls cause stop w.polled turn;
    }

    pub has_served : HasServed core intake calls x
    has_served = record {
      may = w.may_turn;
      first = w.first;
      keeps = w.keeps;
      is_new = w.is_new;
      served = polls_serve anything w.first x calls (new_places core intake w.keeps w.first w.is_new) w.polled;
    }

    abbrev pub ended_then : (y : Exchange) (told : ℕ) → Step x.core (End told) y.core → OnlyCore x y → (parts : Parts) → ArePartsOf y parts
        → WasEnded core intake (calls ++ End told ∷ []) parts
    ended_then y told step only parts apart = record {
      last = y;
      polled = record {
        may_turn = w.may_turn;
        keeps = w.keeps;
        first = w.first;
        is_new = w.is_new;
        polled = Polled.ended x y calls told w.polled step only;
      };
      ended = (end_served core intake calls x y told has_served step only).1;
      apart = apart;
    }
