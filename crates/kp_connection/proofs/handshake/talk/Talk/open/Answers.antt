use Rattle.std.proofs.Common.{◌≡◌, Err, ap, subst, ◌∙◌}
use Rattle.kp_rules.specs.declared.names.Names.{Names}
use Rattle.kp_hello.specs.Asking.{IsWritten, metadata_request, frame_of}
use Rattle.kp_connection.specs.Handshake.{Talking}
use Rattle.kp_connection.specs.Talking.{Opens}
use Rattle.kp_connection.specs.Wire.{Wired}
use Rattle.kp_connection.proofs.TalkLemmas.{not_written, opened, given_back}
use Rattle.kp_connection.proofs.handshake.talk.Talk.open.Goals as goal

pub returns-in_err-frame : goal.returns-in_err-frame
returns-in_err-frame g c =
    let old = c.args.self.now in
    let names : c.self.inside.names ≡ old.names = ap (λ (t : Talking g.row.S.Denot). t.names) c.self.view_is in
    given_back (λ r. Opens g.S.Stream.answers old r old) c.from_residual.result c.in_err-frame.field-0.0 c.from_residual.ensures.1
    (not_written g.S.Stream.answers old g.met.S.Stream.answers_nothing c.in_err-frame.field-0.0 c.requires.opening c.requires.sound.partial
    (subst (λ (n : Names). IsWritten (metadata_request n) (Err c.in_err-frame.field-0.0)) names c.in_err-frame.ensures))

pub returns : goal.returns
returns g c =
    let old = c.args.self.now in
    let names : c.self.inside.names ≡ old.names = ap (λ (t : Talking g.row.S.Denot). t.names) c.self.view_is in
    let wire : c.self.inside.wire ≡ old.wire = ap (λ (t : Talking g.row.S.Denot). t.wire) c.self.view_is in
    let frame = c.in_ok-frame.frame.items in
    let written : frame ≡ frame_of (metadata_request old.names) = c.in_ok-frame.ensures ∙ ap (λ (n : Names). frame_of (metadata_request n)) names in
    let held = ap (λ (w : Wired g.row.S.Denot). w.held) c.send.ensures.kept ∙ ap (λ (w : Wired g.row.S.Denot). w.held) wire in
    opened g.S.Stream.answers old c.self.inside.names frame c.send.new.self c.requires.sound c.requires.opening names written (rw (← wire) c.send.ensures.goes) held
