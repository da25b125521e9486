-- Whatever a call tells is a case of the outcome rule.
use Rattle.std.proofs.Common.{ℕ, ◌<◌, ◌^◌, List, refl}
use Rattle.std.specs.Prelude.{All, Result, Err}
use Rattle.std.specs.List.{AllByRecursion}
use Rattle.kp_accum.specs.declared.fault.AppendFault.TheVariants as append
use Rattle.kp_rules.specs.declared.fault.CoreFault.{CoreFault}
use Rattle.kp_rules.specs.declared.fault.CoreFault.TheVariants.{OutOfMemory}
use Rattle.kp_rules.specs.declared.ticked.Replied.{Replied}
use Rattle.kp_rules.specs.Calls.{Call, Step, told_by}
use Rattle.kp_rules.specs.Calls as call
use Rattle.kp_rules.specs.InOrder.{IsHeld}
use Rattle.kp_rules.specs.OutcomeRule.{Telling, Append, Tick, Reply, End, IsTelling, MayBeToldBy, MayTell, told_in}
use Rattle.kp_rules.specs.Records.{Core, Told}
use Rattle.kp_rules.specs.Replies.{Replies, reply_step}
use Rattle.kp_rules.proofs.HearingLemmas.{at_heard}
use Rattle.kp_rules.proofs.ListLemmas.{all_weaker}
use Rattle.kp_rules.proofs.OutcomeLemmas.{each_outcome}

-- a call that is one that tells, tells by the rule
tells_as : (s : Core) (c : Call) (x : Telling) → IsTelling c x → AllByRecursion (MayBeToldBy s c) (told_in s x)
tells_as s c x is = all_weaker (λ (t : Told). MayTell s x t.item t.outcome) (MayBeToldBy s c) (λ t may. (x, is, may)) (told_in s x) (each_outcome s x)

reply_tells : (s : Core) (now : ℕ) (content : List ℕ) (answer : Result Replied CoreFault) → All (λ byte. byte < 2 ^ 8) content
    → AllByRecursion (MayBeToldBy s (call.Reply now content answer)) (reply_step now content s).told
reply_tells s now content answer bytes = at_heard (λ (x : Replies). AllByRecursion (MayBeToldBy s (call.Reply now content answer)) x.told) now content s bytes
    (λ other. tt) (λ a response spells. tells_as s (call.Reply now content answer) (Reply now response) (a, response, spells, refl))

pub each_call_tells : (s t : Core) (c : Call) → IsHeld c → Step s c t → AllByRecursion (MayBeToldBy s c) (told_by s c)
each_call_tells s t (call.Append i (Err append.OutOfMemory)) held step = tt
each_call_tells s t (call.Append i answer) held step = tells_as s (call.Append i answer) (Append i) refl
each_call_tells s t (call.Reply now content (Err OutOfMemory)) bytes step = tt
each_call_tells s t (call.Reply now content answer) bytes step = reply_tells s now content answer bytes
each_call_tells s t (call.Tick node now answer) held step = tells_as s (call.Tick node now answer) (Tick node now) refl
each_call_tells s t (call.End reports) held step = tells_as s (call.End reports) End refl
each_call_tells s t c held step = tt
