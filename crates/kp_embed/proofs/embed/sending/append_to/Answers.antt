use Rattle.std.proofs.Common.{subst}
use Rattle.std.specs.Prelude.{Err}
use Rattle.kp_accum.specs.declared.fault.AppendFault.{AppendFault}
use Rattle.kp_rules.specs.Calls.{Append, Step}
use Rattle.kp_embed.proofs.SendLemmas.{never_full}
use Rattle.kp_embed.proofs.embed.sending.append_to.Goals as goal

pub returns-in-Err-BufferFull-clause-refused : goal.returns-in-Err-BufferFull-clause-refused
returns-in-Err-BufferFull-clause-refused c =
    let t = c.in_default.ensures in
    let w = c.in-Err-BufferFull in
    let step = subst (λ (f : AppendFault). Step c.args.core.now (Append c.args.item (Err f)) c.append_or_refuse.new.self) w.field-0-is w.ensures.step in
    absurd (never_full c.args.item c.args.core.now t.may t.going t.room step.0)

pub returns-in-Err-BufferFull-clause-when : goal.returns-in-Err-BufferFull-clause-when
returns-in-Err-BufferFull-clause-when c =
    let t = c.in_default.ensures in
    let w = c.in-Err-BufferFull in
    let step = subst (λ (f : AppendFault). Step c.args.core.now (Append c.args.item (Err f)) c.append_or_refuse.new.self) w.field-0-is w.ensures.step in
    absurd (never_full c.args.item c.args.core.now t.may t.going t.room step.0)
