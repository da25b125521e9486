use Rattle.std.proofs.Common.{◌∙◌, false, Some, None, Ok, Err, sym, ap, subst, rules}
use Rattle.std.specs.Prelude.{IsOk}
use Rattle.kp_wire.specs.Fields.{int32}
use Rattle.kp_frames.specs.declared.fault.FrameFault.TheVariants.{Short}
use Rattle.kp_frames.specs.declared.api.Api.{Api}
use Rattle.kp_frames.specs.Fault.{Refuses}
use Rattle.kp_frames.specs.Response.{response_at}
use Rattle.kp_rules.specs.declared.fault.CoreFault.{CoreFault}
use Rattle.kp_rules.specs.declared.fault.CoreFault.TheVariants.{Ended, ReplyFault}
use Rattle.kp_rules.specs.Calls.{Gives, Reply, Step}
use Rattle.kp_rules.specs.Records.{Core}
use Rattle.kp_rules.specs.Replies.{api_of, reply_step}
use Rattle.kp_core.specs.Hearing.{Hears, refused_by}
use Rattle.kp_core.specs.Keeping.{seen_of}
use Rattle.kp_core.proofs.ContentLemmas.{Names, hears, names_none, refused_ended, refused_short, refuses}
use Rattle.kp_core.proofs.ReplyLemmas.{awaited-is, gives}
use Rattle.kp_core.proofs.machine.Core.hear.Goals as goal

pub returns-then-self : goal.returns-then-self
returns-then-self c =
    let s = seen_of c.self.inside in
    let content = c.args.content.now in
    subst (λ (z : Core). Gives (reply_step c.args.now content z) (Err Ended) z) c.self.view_is
    (gives (refused_ended c.args.now content s c.if-self.true))

pub returns-in_default : goal.returns-in_default
returns-in_default c =
    let s = seen_of c.self.inside in
    let content = c.args.content.now in
    subst (λ (z : Core). Gives (reply_step c.args.now content z) (Err (ReplyFault Short)) z) c.self.view_is
    (gives (refused_short c.args.now content s c.in_default.field-0 c.if-self.false c.in_default.ensures))

pub returns-in_default-find_awaited : goal.returns-in_default-find_awaited
returns-in_default-find_awaited c =
    let s = seen_of c.self.inside in
    let content = c.args.content.now in
    let named : Names content s (None) = record {
      going = c.if-self.false;
      correlation = c.in-Ok.correlation;
      behind = c.in-Ok.field-0-1.now;
      reads = c.in-Ok.ensures;
      finds = awaited-is c.in-Ok.correlation s (None) c.deref.result.now (search rules) c.deref.ensures.value c.in_default-find_awaited.ensures;
    } in
    subst (λ (z : Core). Gives (reply_step c.args.now content z) (Ok (record { known = false; reports = 0 })) z) c.self.view_is
    (gives (names_none c.args.now named))

pub returns-in-Err : goal.returns-in-Err
returns-in-Err c =
    let s = seen_of c.self.inside in
    let content = c.args.content.now in
    let r = c.in-Some.request.now in
    let f = c.in-Err.fault in
    let named : Names content s (Some r) = record {
      going = c.if-self.false;
      correlation = c.in-Ok.correlation;
      behind = c.in-Ok.field-0-1.now;
      reads = c.in-Ok.ensures;
      finds = awaited-is c.in-Ok.correlation s (Some r) c.deref.result.now (search rules) c.deref.ensures.value c.in-Some.ensures;
    } in
    let begun = IsOk (int32.read content) in
    let exact : Refuses begun f (response_at (api_of r.demand) content) =
    subst (λ (a : Api). Refuses begun f (response_at a content)) c.api.ensures c.in-Err.ensures.exact in
    subst (λ (e : CoreFault). Step c.args.self.now (Reply c.args.now content (Err e)) c.args.self.now) (sym c.refused_by.ensures)
    (subst (λ (z : Core). Step z (Reply c.args.now content (Err (refused_by f))) z) c.self.view_is (refuses c.args.now begun f named exact))

pub returns-in-Ok-read_response : goal.returns-in-Ok-read_response
returns-in-Ok-read_response c =
    let s = seen_of c.self.inside in
    let content = c.args.content.now in
    let r = c.in-Some.request.now in
    let x = c.in-Ok-read_response.response in
    let t = c.settle.new.self in
    let named : Names content s (Some r) = record {
      going = c.if-self.false;
      correlation = c.in-Ok.correlation;
      behind = c.in-Ok.field-0-1.now;
      reads = c.in-Ok.ensures;
      finds = awaited-is c.in-Ok.correlation s (Some r) c.deref.result.now (search rules) c.deref.ensures.value c.in-Some.ensures;
    } in
    let exact = sym (ap (λ (a : Api). response_at a content) c.api.ensures) ∙ c.in-Ok-read_response.ensures.exact in
    let heard : Hears c.args.now x c.args.self.now c.settle.result t = c.settle.ensures in
    subst (λ (z : Core). Hears c.args.now x z c.settle.result t → Step z (Reply c.args.now content c.settle.result) t) c.self.view_is
    (hears c.args.now x t c.settle.result named exact) heard
