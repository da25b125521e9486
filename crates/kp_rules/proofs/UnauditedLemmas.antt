-- Calls on a core that keeps no audit are the same calls on one that keeps them.
use Rattle.std.proofs.Common.{◌≡◌, ℕ, List, [], ◌∷◌, ◌++◌, Some, None, refl, sym, ap, ◌∙◌, subst}
use Rattle.std.specs.Prelude.{Option, Result, Ok, Err, IsOk, IsOkAnd, IsSome}
use Rattle.kp_accum.specs.declared.fault.AppendFault.{AppendFault}
use Rattle.kp_accum.specs.declared.fault.AppendFault.TheVariants as append
use Rattle.kp_rules.specs.declared.fault.CoreFault.{CoreFault}
use Rattle.kp_rules.specs.declared.fault.CoreFault.TheVariants as fault
use Rattle.kp_rules.specs.declared.outgoing.Outgoing.{Outgoing}
use Rattle.kp_rules.specs.Appending.{append_step}
use Rattle.kp_rules.specs.Auditing.{without_audits, called_unaudited}
use Rattle.kp_rules.specs.Calls.{Call, Gives, Step, Life, Lives, answered_as, appended_by, told_by, packets_by, life_of, followed_by, packet_in}
use Rattle.kp_rules.specs.Calls as call
use Rattle.kp_rules.specs.Closing.{close_step, end_step}
use Rattle.kp_rules.specs.Dropping.{disconnect_step}
use Rattle.kp_rules.specs.Flush.{flush_step}
use Rattle.kp_rules.specs.Leading.{lead_step}
use Rattle.kp_rules.specs.Records.{Core, Told, Called}
use Rattle.kp_rules.specs.Replies.{Replies, ReplyNeedsMemory, awaited, reply_step}
use Rattle.kp_rules.specs.Reports.{fetch_step}
use Rattle.kp_rules.specs.Requesting.{Packet, Requested, request_step}
use Rattle.kp_rules.specs.Tick.{Ticks, tick_step}
use Rattle.kp_rules.proofs.AuditLemmas.{append_blind, request_blind, reply_blind, tick_blind, end_blind, disconnect_blind, lead_blind, close_blind, flush_blind, fetch_blind}

-- ---- one call: where it leads from the core without audits, it leads from the core with them, to the same but for these

gave : {A : Type 0} (f : Core → Called A) → ((s : Core) → f (without_audits s) ≡ called_unaudited (f s)) → (s u : Core) (answer : A)
    → Gives (f (without_audits s)) answer u → (t : Core) × Gives (f s) answer t × (u ≡ without_audits t)
gave {A} f same s u answer h =
    ((f s).after, (sym (ap (λ (c : Called A). c.answer) (same s)) ∙ h.0, refl), h.1 ∙ ap (λ (c : Called A). c.after) (same s))

needs_memory : (content : List ℕ) (s : Core) → ReplyNeedsMemory content (without_audits s) → ReplyNeedsMemory content s
unfolding awaited without_audits
needs_memory content s h = record { going = h.going; correlation = h.correlation; behind = h.behind; named = h.named; in_flight = h.in_flight }

same_frames : (s : Core) (answer : Result (Option Packet) CoreFault) → answered_as s answer ≡ answered_as (without_audits s) answer
unfolding without_audits
same_frames s (Ok (Some packet)) = refl
same_frames s (Ok None) = refl
same_frames s (Err e) = refl

asked : (node now : ℕ) (s u : Core) (answer : Result (Option Outgoing) CoreFault)
    → (answered_as (without_audits s) (request_step node now (without_audits s)).answer ≡ answer) × (u ≡ (request_step node now (without_audits s)).after)
    → (t : Core) × ((answered_as s (request_step node now s).answer ≡ answer) × (t ≡ (request_step node now s).after)) × (u ≡ without_audits t)
asked node now s u answer h =
    let same = request_blind node now s in
    let answers = sym (ap (λ (c : Requested). answered_as s c.answer) same) ∙ same_frames s (request_step node now (without_audits s)).answer ∙ h.0 in
    ((request_step node now s).after, (answers, refl), h.1 ∙ ap (λ (c : Requested). c.after) same)

pub found : (s u : Core) (x : Call) → Step (without_audits s) x u → (t : Core) × Step s x t × (u ≡ without_audits t)
found s u (call.Append i (Err append.OutOfMemory)) step =
    (s, (subst (λ (c : Called (Result (Unit {0}) AppendFault)). IsOk c.answer) (append_blind i s) step.0, refl), step.1)
found s u (call.Append i answer) step = gave (append_step i) (append_blind i) s u answer step
found s u (call.Request node now (Err fault.OutOfMemory)) step =
    (s, (subst (λ (c : Requested). IsOkAnd c.answer IsSome) (request_blind node now s) step.0, refl), step.1)
found s u (call.Request node now answer) step = asked node now s u answer step
found s u (call.Reply now content (Err fault.OutOfMemory)) step = (s, (needs_memory content s step.0, refl), step.1)
found s u (call.Reply now content answer) step = gave (reply_step now content) (reply_blind now content) s u answer step
found s u (call.Tick node now answer) step = gave (tick_step node now) (tick_blind node now) s u answer step
found s u (call.Disconnect node now) step = (disconnect_step node now s, refl, step ∙ disconnect_blind node now s)
found s u (call.Lead p leader now) step = (lead_step p leader now s, refl, step ∙ lead_blind p leader now s)
found s u call.Close step = (close_step s, refl, step ∙ close_blind s)
found s u call.Flush step = (flush_step s, refl, step ∙ flush_blind s)
found s u (call.End reports) step = gave end_step end_blind s u reports step
found s u (call.Fetch sender answer) step = gave (fetch_step sender) (fetch_blind sender) s u answer step

-- ---- what it tells, and what goes out, is the same

same_told : (s : Core) (x : Call) → told_by (without_audits s) x ≡ told_by s x
same_told s (call.Append i (Err append.OutOfMemory)) = refl
same_told s (call.Append i answer) = ap (λ (c : Called (Result (Unit {0}) AppendFault)). c.told) (append_blind i s)
same_told s (call.Request node now answer) = refl
same_told s (call.Reply now content (Err fault.OutOfMemory)) = refl
same_told s (call.Reply now content answer) = ap (λ (c : Replies). c.told) (reply_blind now content s)
same_told s (call.Tick node now answer) = ap (λ (c : Ticks). c.told) (tick_blind node now s)
same_told s (call.Disconnect node now) = refl
same_told s (call.Lead p leader now) = refl
same_told s call.Close = refl
same_told s call.Flush = refl
same_told s (call.End reports) = ap (λ (c : Called ℕ). c.told) (end_blind s)
same_told s (call.Fetch sender answer) = refl

same_packets : (s : Core) (x : Call) → packets_by (without_audits s) x ≡ packets_by s x
same_packets s (call.Request node now (Ok answer)) = ap (λ (c : Requested). packet_in c.answer) (request_blind node now s)
same_packets s (call.Request node now (Err e)) = refl
same_packets s (call.Append i answer) = refl
same_packets s (call.Reply now content answer) = refl
same_packets s (call.Tick node now answer) = refl
same_packets s (call.Disconnect node now) = refl
same_packets s (call.Lead p leader now) = refl
same_packets s call.Close = refl
same_packets s call.Flush = refl
same_packets s (call.End reports) = refl
same_packets s (call.Fetch sender answer) = refl

same_life : (s : Core) (x : Call) (later : Life) → followed_by (life_of (without_audits s) x) later ≡ followed_by (life_of s x) later
same_life s x later =
    ap (λ (told : List Told). life_by told (packets_by (without_audits s) x)) (same_told s x) ∙ ap (life_by (told_by s x)) (same_packets s x)
  where
    life_by : List Told → List Packet → Life
    life_by told packets = record { appended = appended_by x ++ later.appended; told = told ++ later.told; packets = packets ++ later.packets }

-- ---- many calls

pub lived : (s : Core) (calls : List Call) (life : Life) (u : Core) → Lives (without_audits s) calls life u
    → (t : Core) × Lives s calls life t × (u ≡ without_audits t)
unfolding Lives
lived s [] life u lives = (s, (lives.0, refl), lives.1)
lived s (x ∷ calls) life u lives =
    let first = found s lives.0 x lives.2 in
    let rest = lived first.0 calls lives.1 u (subst (λ (m : Core). Lives m calls lives.1 u) first.2 lives.3) in
    (rest.0, (first.0, lives.1, first.1, rest.1, lives.4 ∙ same_life s x lives.1), rest.2)
