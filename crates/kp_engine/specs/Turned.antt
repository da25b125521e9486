-- The calls of a turn, and what is noted of them.
use Rattle.std.specs.Prelude.{◌<◌, ◌+◌, ℕ, List, [], ◌∷◌, ◌++◌, map, nat_lt, Option, Some, None, option_map, Result, Ok, Err, vec_len, vec_capacity, if◌then◌else◌}
use Rattle.std.specs.declared.alloc.Global.{Global}
use Rattle.std.specs.declared.vec.Vec.{Vec}
use Rattle.kp_accum.specs.declared.fault.AppendFault.{AppendFault}
use Rattle.kp_rules.specs.Calls.{Call}
use Rattle.kp_rules.specs.Calls as call
use Rattle.kp_engine.specs.declared.notes.Notes.{Notes}
use Rattle.kp_engine.specs.declared.strays.TheConstants.{STRAY_LIMIT}
use Rattle.kp_engine.specs.declared.turned.Turned.{Turned}
use Rattle.kp_engine.specs.declared.turned.Turned.TheVariants as turned

-- what an append answers, where it is refused for this reason or not at all
abbrev pub append_answer : Option AppendFault → Result (Unit {0}) AppendFault
append_answer None = Ok tt
append_answer (Some fault) = Err fault

-- the call that an entry stands for
abbrev pub call_of : Turned → Call
call_of (turned.Append item fault) = call.Append item (append_answer fault)
call_of turned.Flush = call.Flush
call_of turned.Close = call.Close
call_of (turned.Tick node now answer) = call.Tick node now answer
call_of (turned.Request node now answer) = call.Request node now answer
call_of (turned.Reply now content answer) = call.Reply now content answer
call_of (turned.Disconnect node now) = call.Disconnect node now
call_of (turned.Told report) = call.Fetch report.sender (Some report)

-- the calls that are kept, where they are
abbrev pub calls_in : Option (Vec Turned Global) → Option (List Call)
calls_in turn = option_map (λ entries. map call_of entries.items) turn

-- How many replies in a row, the last ones, named no request in flight; and the calls, where they are kept for a caller.
pub record Noted : Type 0 where
  pub strays : ℕ
  pub calls : Option (List Call)

abbrev pub notes_of : Notes → Noted
notes_of n = record { strays = n.strays; calls = calls_in n.turn }

-- how many of them there are behind this call; once there are too many they are counted no more
abbrev pub strays_behind : Call → ℕ → ℕ
strays_behind (call.Reply now content (Ok replied)) n = if nat_lt n STRAY_LIMIT then (if replied.known then 0 else n + 1) else n
strays_behind other n = n

abbrev pub strays_after : List Call → ℕ → ℕ
strays_after [] n = n
strays_after (c ∷ cs) n = strays_after cs (strays_behind c n)

-- with these calls behind those before
abbrev pub noted : List Call → Noted → Noted
noted calls before = record { strays = strays_after calls before.strays; calls = option_map (λ kept. kept ++ calls) before.calls }

-- there is room for one entry more, where they are kept
abbrev pub HasPlace : Option (Vec Turned Global) → Type 0
HasPlace None = Unit {0}
HasPlace (Some entries) = vec_len entries < vec_capacity entries
