use Rattle.kp_parts.proofs.FramingLemmas.{id_message_fits, id_content_fits, id_frame_is}
use Rattle.kp_parts.proofs.framing.id_frame.Goals as goal

pub frame_with-requires-clause-message : goal.frame_with-requires-clause-message
frame_with-requires-clause-message c =
    rw c.in_ok-message.ensures.value (id_message_fits c.args.correlation c.args.names.now.client c.requires.correlation c.requires.client c.in_ok-message.ensures.utf8)

pub frame_with-requires-clause-content : goal.frame_with-requires-clause-content
frame_with-requires-clause-content c =
    rw c.in_ok-message.ensures.value (id_content_fits c.args.correlation c.args.names.now.client c.requires.client)

pub returns : goal.returns
returns c = id_frame_is c.args.names.now c.args.correlation c.in_ok-message.message c.frame_with.result c.in_ok-message.ensures.value c.frame_with.ensures
