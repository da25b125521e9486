use Rattle.std.proofs.Common.{◌≡◌, [], ◌∷◌, length, Ok, None, Err, OnOk, subst, ◌∙◌}
use Rattle.std.specs.Prelude.{Option}
use Rattle.kp_rules.specs.Calls.{Request, Step}
use Rattle.kp_rules.specs.declared.outgoing.Outgoing.{Outgoing}
use Rattle.kp_world.specs.Line.{Line}
use Rattle.kp_replay.specs.Line.{line_of}
use Rattle.kp_replay.specs.Shown.{with_noted}
use Rattle.kp_replay.specs.contracts.world.World.{the_view}
use Rattle.kp_replay.proofs.SendLemmas.{TellsOf, out-returns, quiet-returns, refused, request-within, tells-of}
use Rattle.kp_replay.proofs.world.World.send.Goals as goal

pub invariant_of-self : goal.invariant_of-self
invariant_of-self c = request-within c.args.node c.self.inside.moment c.next_request.result c.self.inside.core c.next_request.new.self c.next_request.ensures c.self.invariant

pub invariant_of-self-in_err-push-in-Ok-Some : goal.invariant_of-self-in_err-push-in-Ok-Some
invariant_of-self-in_err-push-in-Ok-Some c = request-within c.args.node c.self.inside.moment c.next_request.result c.self.inside.core c.next_request.new.self c.next_request.ensures c.self.invariant

pub invariant_of-self-in-Ok-Some : goal.invariant_of-self-in-Ok-Some
invariant_of-self-in-Ok-Some c = request-within c.args.node c.self.inside.moment c.next_request.result c.self.inside.core c.next_request.new.self c.next_request.ensures c.self.invariant

pub invariant_of-self-in-Ok-None : goal.invariant_of-self-in-Ok-None
invariant_of-self-in-Ok-None c = request-within c.args.node c.self.inside.moment c.next_request.result c.self.inside.core c.next_request.new.self c.next_request.ensures c.self.invariant

pub invariant_of-self-in_err-line-in-Err : goal.invariant_of-self-in_err-line-in-Err
invariant_of-self-in_err-line-in-Err c = request-within c.args.node c.self.inside.moment c.next_request.result c.self.inside.core c.next_request.new.self c.next_request.ensures c.self.invariant

pub invariant_of-self-in-Err : goal.invariant_of-self-in-Err
invariant_of-self-in-Err c = request-within c.args.node c.self.inside.moment c.next_request.result c.self.inside.core c.next_request.new.self c.next_request.ensures c.self.invariant

pub returns-in_ok-push-in-Ok-Some : goal.returns-in_ok-push-in-Ok-Some
returns-in_ok-push-in-Ok-Some c =
    let v = the_view c.self.inside in
    let line : Line = line_of c.in_ok-line-in-Ok-Some.line in
    let step = subst (λ (o : Option Outgoing). Step v.core (Request c.args.node v.moment (Ok o)) c.next_request.new.self) c.in-Ok-Some.field-0-is c.in-Ok-Some.ensures in
    let told : TellsOf c.as_slice.result.now c.len-number.result line = tells-of c.as_slice.result.now c.len-number.result line c.in_ok-line-in-Ok-Some.ensures in
    let tells : TellsOf c.in-Ok-Some.outgoing.bytes (length v.packets) line =
    subst (λ bytes. TellsOf bytes (length v.packets) line) c.as_slice.ensures (subst (λ n. TellsOf c.as_slice.result.now n line) (c.len-number.ensures ∙ c.self.inside.packets.ok.0) told) in
    out-returns c.note.result c.args.node c.args.self.now v c.note.new.self c.self.view_is c.flushed-was_flushed.result c.flushed-was_flushed.ensures
    c.in-Ok-Some.outgoing c.next_request.new.self line tells step c.push.new.self.items c.in_ok-push-in-Ok-Some.ensures.items c.note.ensures

pub returns-in-Ok-None : goal.returns-in-Ok-None
returns-in-Ok-None c =
    let v = the_view c.self.inside in
    let step = subst (λ (o : Option Outgoing). Step v.core (Request c.args.node v.moment (Ok o)) c.next_request.new.self) c.in-Ok-None.field-0-is c.in-Ok-None.ensures in
    quiet-returns c.note-in-Ok-None.result c.args.node c.args.self.now v c.note-in-Ok-None.new.self c.self.view_is c.flushed-was_flushed.result c.flushed-was_flushed.ensures
    (Ok None) c.next_request.new.self tt step.0 step.1 c.note-in-Ok-None.ensures

pub returns-in_ok-line-in-Err : goal.returns-in_ok-line-in-Err
returns-in_ok-line-in-Err c =
    let v = the_view c.self.inside in
    let t = c.next_request.new.self in
    let fault = c.in-Err.fault in
    let step = refused c.args.node v.moment fault v.core t c.in_ok-line-in-Err.ensures.memory c.in-Err.ensures in
    quiet-returns c.note-in-Err.result c.args.node c.args.self.now v c.note-in-Err.new.self c.self.view_is c.flushed-was_flushed.result c.flushed-was_flushed.ensures
    (Err fault) t tt step.0 step.1
    (subst (λ (l : Line). OnOk c.note-in-Err.result (c.note-in-Err.new.self ≡ with_noted (l ∷ []) c.flushed-was_flushed.result (record v { core = t }))) c.in_ok-line-in-Err.ensures.line c.note-in-Err.ensures)
