-- Calls as values, their answers, and lists of them.
use Rattle.std.specs.Prelude.{◌≡◌, List, map, Result, Ok, Err}
use Rattle.kp_accum.specs.declared.fault.AppendFault.{AppendFault}
use Rattle.kp_accum.specs.declared.item.Item.{Item}
use Rattle.kp_rules.specs.Calls.{Call, Life, Lives, Step}
use Rattle.kp_rules.specs.Calls as call
use Rattle.kp_rules.specs.Records.{Core}
use Rattle.kp_core.specs.declared.calls.Asked.{Asked}
use Rattle.kp_core.specs.declared.calls.Asked.TheVariants as asked
use Rattle.kp_core.specs.declared.calls.Answered.{Answered}
use Rattle.kp_core.specs.declared.calls.Answered.TheVariants as answered

-- the call with its arguments alone
abbrev pub asked_by : Call → Asked
asked_by (call.Append i answer) = asked.Append i
asked_by (call.Request node now answer) = asked.Request node now
asked_by (call.Reply now content answer) = asked.Reply content now
asked_by (call.Tick node now answer) = asked.Tick node now
asked_by (call.Disconnect node now) = asked.Disconnect node now
asked_by (call.Lead partition node now) = asked.Lead partition node now
asked_by call.Close = asked.Close
asked_by call.Flush = asked.Flush
asked_by (call.End reports) = asked.End
asked_by (call.Fetch sender report) = asked.Fetch sender

-- what is refused comes back
abbrev pub with_item : Item → Result (Unit {0}) AppendFault → Result (Unit {0}) (AppendFault × Item)
with_item i (Ok done) = Ok done
with_item i (Err fault) = Err (fault, i)

-- its answer alone
abbrev pub answered_by : Call → Answered
answered_by (call.Append i answer) = answered.Append (with_item i answer)
answered_by (call.Request node now answer) = answered.Request answer
answered_by (call.Reply now content answer) = answered.Reply answer
answered_by (call.Tick node now answer) = answered.Tick answer
answered_by (call.Disconnect node now) = answered.Disconnect
answered_by (call.Lead partition node now) = answered.Lead
answered_by call.Close = answered.Close
answered_by call.Flush = answered.Flush
answered_by (call.End reports) = answered.End reports
answered_by (call.Fetch sender report) = answered.Fetch report

-- a call with these arguments and this answer leads from one core to the other
pub record IsMade (s : Core) (arguments : Asked) (answer : Answered) (t : Core) : Type 0 where
  pub call : Call
  pub asks : asked_by call ≡ arguments
  pub answers : answered_by call ≡ answer
  pub step : Step s call t

-- calls with these arguments and these answers, in this order, lead from one core to the other
pub record AreMade (s : Core) (arguments : List Asked) (answers : List Answered) (t : Core) : Type 0 where
  pub calls : List Call
  pub asks : map asked_by calls ≡ arguments
  pub answer : map answered_by calls ≡ answers
  pub life : Life
  pub lives : Lives s calls life t
