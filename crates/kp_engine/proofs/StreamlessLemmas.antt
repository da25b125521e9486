-- A poll over a stream is one of which the stream tells nothing.
use Rattle.std.proofs.Common.{◌≡◌, Bool, ℕ, List, refl, ap, ◌∙◌, inl, inr}
use Rattle.futures.specs.declared.task.Poll.{Poll}
use Rattle.futures.specs.declared.task.Poll.TheVariants.{Ready, Pending}
use Rattle.kp_connection.specs.Answers.{Answer}
use Rattle.kp_connection.specs.Wire.{Goes, Stops, Told, Wired}
use Rattle.kp_engine.specs.Engine.{Polls, line_after}
use Rattle.kp_engine.specs.Made.{anything}
use Rattle.kp_engine.specs.Polls.{TalksCut, TalksOn, Turns, TurnsCut, TurnsOn, TurnsOut}
use Rattle.kp_engine.specs.declared.engine.Line.{Line}
use Rattle.kp_engine.specs.declared.engine.Line.TheVariants.{Open, Stopped}
use Rattle.kp_engine.specs.declared.exchange.Exchange.{Exchange}
use Rattle.kp_engine.specs.declared.stop.Cause.{Cause}
use Rattle.kp_engine.specs.declared.stop.Stop.{Stop}
use Rattle.kp_engine.specs.declared.stop.Stop.TheVariants.{Done, NeedStream, OutOfMemory}

module _ {S : Type 0} where
  abbrev pub no_wire : Wired S → Wired (Unit {0})
  no_wire w = record { stream = tt; kept = w.kept; held = w.held }

  abbrev pub no_line : Line S → Line (Unit {0})
  no_line (Open wire) = Open (no_wire wire)
  no_line (Stopped stop) = Stopped stop

  left_so : (result : Poll Stop) (w : Wired S) → no_line (line_after result w) ≡ line_after result (no_wire w)
  left_so Pending w = refl
  left_so (Ready stop) w = refl

  module _ (answers : Told S) where
    pub goes_so : (w v : Wired S) (sent heard : List (List ℕ)) (xs : List Answer) → Goes answers w sent heard xs v → Goes anything (no_wire w) sent heard xs (no_wire v)
    goes_so w v sent heard xs g = record { told = tt; written = g.written; read = g.read; contents = g.contents }

    pub stops_so : (w v : Wired S) (sent heard : List (List ℕ)) (xs : List Answer) → Stops answers w sent heard xs v → Stops anything (no_wire w) sent heard xs (no_wire v)
    stops_so w v sent heard xs g = record { told = tt; unwritten = g.unwritten; written = g.written; unheard = g.unheard; read = g.read; contents = g.contents }

    module _ (node now : ℕ) (x : Exchange) (w : Wired S) (y : Exchange) (v : Wired S) where
      on_so : TurnsOn answers node now x w y v → TurnsOn anything node now x (no_wire w) y (no_wire v)
      on_so t = record {
        sent = t.sent;
        heard = t.heard;
        calls = t.calls;
        xs = t.xs;
        turn = t.turn;
        runs = t.runs;
        lanes = t.lanes;
        goes = goes_so w v _ _ t.xs t.goes;
        waits = record { all = t.waits.all; kept = t.waits.kept; enough = t.waits.enough };
        sound = t.sound;
      }

      cut_so : (cause : Cause) → TurnsCut answers node now x w cause y v → TurnsCut anything node now x (no_wire w) cause y (no_wire v)
      cut_so cause t = record {
        sent = t.sent;
        heard = t.heard;
        refused = t.refused;
        calls = t.calls;
        xs = t.xs;
        turn = t.turn;
        runs = t.runs;
        lanes = t.lanes;
        stops = stops_so w v _ _ t.xs t.stops;
        cut = t.cut;
      }

      out_so : TurnsOut answers node now x w y v → TurnsOut anything node now x (no_wire w) y (no_wire v)
      out_so t = record {
        sent = t.sent;
        heard = t.heard;
        calls = t.calls;
        xs = t.xs;
        turn = t.turn;
        runs = t.runs;
        lanes = t.lanes;
        stops = stops_so w v _ _ t.xs t.stops;
      }

      turns_so : (result : Poll Stop) → Turns answers node now x w result y v → Turns anything node now x (no_wire w) result y (no_wire v)
      turns_so Pending t = on_so t
      turns_so (Ready Done) (done, inl t) = (done, inl (on_so t))
      turns_so (Ready Done) (done, inr (cause, t)) = (done, inr (cause, cut_so cause t))
      turns_so (Ready (NeedStream cause)) t = cut_so cause t
      turns_so (Ready OutOfMemory) t = out_so t

    pub poll_so : (line : Line S) (x : Exchange) (result : Poll Stop) (y : Exchange) (left : Line S) → Polls answers line x result y left
        → Polls anything (no_line line) x result y (no_line left)
    poll_so (Open wire) x result y left p = record {
      node = p.node;
      now = p.now;
      begun = p.begun;
      cleared = p.cleared;
      after = no_wire p.after;
      turns = turns_so p.node p.now p.begun wire y p.after result p.turns;
      undone = p.undone;
      line = ap no_line p.line ∙ left_so result p.after;
    }
    poll_so (Stopped stop) x result y left p = (p.0, p.1, ap no_line p.2)

    -- what cuts a connection
    abbrev pub talks_cut_so : (most node now : ℕ) (late : Bool) (x : Exchange) (w : Wired S) (cause : Cause) (y : Exchange) (v : Wired S) → TalksCut answers most node now late x w cause y v
        → TalksCut anything most node now late x (no_wire w) cause y (no_wire v)
    talks_cut_so most node now late x w cause y v t = record {
      sent = t.sent;
      heard = t.heard;
      refused = t.refused;
      asked = t.asked;
      replied = t.replied;
      xs = t.xs;
      of_requests = t.of_requests;
      of_replies = t.of_replies;
      within = t.within;
      talks = record { runs = t.talks.runs; only = t.talks.only; stops = stops_so w v _ _ t.xs t.talks.stops };
      cut = t.cut;
    }

    -- and what lets it go on
    abbrev pub talks_on_so : (most node now : ℕ) (x : Exchange) (w : Wired S) (y : Exchange) (v : Wired S) → TalksOn answers most node now x w y v
        → TalksOn anything most node now x (no_wire w) y (no_wire v)
    talks_on_so most node now x w y v t = record {
      sent = t.sent;
      heard = t.heard;
      asked = t.asked;
      replied = t.replied;
      xs = t.xs;
      of_requests = t.of_requests;
      of_replies = t.of_replies;
      talks = record { runs = t.talks.runs; only = t.talks.only; goes = goes_so w v _ _ t.xs t.talks.goes };
      within = t.within;
      waits = record { all = t.waits.all; kept = t.waits.kept; enough = t.waits.enough };
      sound = t.sound;
    }
