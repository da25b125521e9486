use Rattle.std.proofs.Common.{◌≡◌, ◌≤◌, length, IfOk, subst, sym}
use Rattle.kp_frames.specs.declared.frame.TheConstants.{CONTENT_LIMIT}
use Rattle.kp_frames.specs.declared.request.Request.{Request}
use Rattle.kp_frames.specs.Request.{FitsRequest, spelling}
use Rattle.kp_frames.specs.Stream.{frame}
use Rattle.kp_parts.proofs.FramingLemmas.{parts_writable, message_is}
use Rattle.kp_parts.proofs.framing.produce_frame.Goals as goal

pub produce_body-requires-clause-timeout : goal.produce_body-requires-clause-timeout
produce_body-requires-clause-timeout c = (parts_writable c.args.config.now c.args.names.now c.args.correlation c.args.sendings.now c.requires).timeout

pub produce_body-requires-clause-batches : goal.produce_body-requires-clause-batches
produce_body-requires-clause-batches c = (parts_writable c.args.config.now c.args.names.now c.args.correlation c.args.sendings.now c.requires).batches

pub message_with-requires : goal.message_with-requires
message_with-requires c = (parts_writable c.args.config.now c.args.names.now c.args.correlation c.args.sendings.now c.requires).correlation

pub frame_with-requires-clause-message : goal.frame_with-requires-clause-message
frame_with-requires-clause-message c =
    let is = message_is c.args.config.now c.args.names.now c.args.correlation c.args.sendings.now c.in_ok-body.body c.in_ok-message.message c.in_ok-body.ensures c.in_ok-message.ensures.value in
    subst FitsRequest (sym is) c.requires.message

pub frame_with-requires-clause-content : goal.frame_with-requires-clause-content
frame_with-requires-clause-content c =
    let is = message_is c.args.config.now c.args.names.now c.args.correlation c.args.sendings.now c.in_ok-body.body c.in_ok-message.message c.in_ok-body.ensures c.in_ok-message.ensures.value in
    subst (λ (m : Request). length (spelling m) ≤ CONTENT_LIMIT) (sym is) c.requires.content

pub returns : goal.returns
returns c =
    let is = message_is c.args.config.now c.args.names.now c.args.correlation c.args.sendings.now c.in_ok-body.body c.in_ok-message.message c.in_ok-body.ensures c.in_ok-message.ensures.value in
    subst (λ (m : Request). IfOk c.frame_with.result (λ bytes. bytes ≡ frame.spell (spelling m))) is c.frame_with.ensures
