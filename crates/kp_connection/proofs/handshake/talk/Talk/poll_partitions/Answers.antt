use Rattle.std.proofs.Common.{◌≡◌, ℕ, List, Ok, Err, ap, subst, sym, ◌∙◌}
use Rattle.kp_rules.specs.declared.names.Names.{Names}
use Rattle.kp_connection.specs.declared.handshake.stage.Stage.{Stage}
use Rattle.kp_hello.specs.Asking.{IsWritten, producer_id_request, frame_of}
use Rattle.kp_connection.specs.Handshake.{Talking, GivesFault}
use Rattle.kp_hello.specs.Hello.{metadata_given, UnlessMemory}
use Rattle.kp_connection.specs.Listening.{Listens}
use Rattle.kp_connection.specs.Wire.{Wired}
use Rattle.kp_hello.proofs.FaultLemmas.{metadata_no_io}
use Rattle.kp_connection.proofs.TalkLemmas.{listens_not, judged_not, half_written, learned, learns_back, heard_by}
use Rattle.kp_connection.proofs.handshake.talk.Talk.poll_partitions.Goals as goal

pub returns-in_err-content-clause-learns : goal.returns-in_err-content-clause-learns
returns-in_err-content-clause-learns g c =
    let old = c.args.self.now in
    let wire : c.self.inside.wire ≡ old.wire = ap (λ (t : Talking g.row.S.Denot). t.wire) c.self.view_is in
    let fault = c.in_err-content.field-0.0 in
    let listens = subst (λ (w : Wired g.row.S.Denot). Listens g.S.Stream.answers w (Err fault) c.poll_answer.new.wire) wire c.in_err-content.ensures.listens in
    learns_back g.S.Stream.answers old _ fault c.from_residual.result c.from_residual.ensures.1 (listens_not g.S.Stream.answers old fault c.poll_answer.new.wire listens)

pub returns-in_err-partitions-clause-learns : goal.returns-in_err-partitions-clause-learns
returns-in_err-partitions-clause-learns g c =
    let old = c.args.self.now in
    let names : c.self.inside.names ≡ old.names = ap (λ (t : Talking g.row.S.Denot). t.names) c.self.view_is in
    let wire : c.self.inside.wire ≡ old.wire = ap (λ (t : Talking g.row.S.Denot). t.wire) c.self.view_is in
    let content = c.in-Ready.content.items in
    let fault = c.in_err-partitions.field-0.0 in
    let h = heard_by g.S.Stream.answers old.wire c.self.inside.wire c.poll_answer.new.wire c.in_ok-content.field-0 c.in-Ready.content wire c.in-Ready.is c.in_ok-content.ensures.listens in
    let given : UnlessMemory (Err fault) (metadata_given old.names.topic content) =
    subst (λ (n : Names). UnlessMemory (Err fault) (metadata_given n.topic content)) names
    (subst (λ (bytes : List ℕ). UnlessMemory (Err fault) (metadata_given c.self.inside.names.topic bytes)) c.deref.ensures.value c.in_err-partitions.ensures.given) in
    learns_back g.S.Stream.answers old _ fault c.from_residual-in_err-partitions.result c.from_residual-in_err-partitions.ensures.1
    (judged_not g.S.Stream.answers old fault content c.poll_answer.new.wire (metadata_given old.names.topic content) h
    (λ e. subst (λ (s : Stage). GivesFault old.names.topic s content fault) (sym c.requires.metadata) e) given (metadata_no_io old.names.topic content))

pub returns-in_err-frame-clause-learns : goal.returns-in_err-frame-clause-learns
returns-in_err-frame-clause-learns g c =
    let old = c.args.self.now in
    let names : c.self.inside.names ≡ old.names = ap (λ (t : Talking g.row.S.Denot). t.names) c.self.view_is in
    let wire : c.self.inside.wire ≡ old.wire = ap (λ (t : Talking g.row.S.Denot). t.wire) c.self.view_is in
    let content = c.in-Ready.content.items in
    let fault = c.in_err-frame.field-0.0 in
    let n = c.in_ok-partitions.partitions in
    let h = heard_by g.S.Stream.answers old.wire c.self.inside.wire c.poll_answer.new.wire c.in_ok-content.field-0 c.in-Ready.content wire c.in-Ready.is c.in_ok-content.ensures.listens in
    let given : metadata_given old.names.topic content ≡ Ok n =
    subst (λ (m : Names). metadata_given m.topic content ≡ Ok n) names
    (subst (λ (bytes : List ℕ). metadata_given c.self.inside.names.topic bytes ≡ Ok n) c.deref.ensures.value (sym c.in_ok-partitions.ensures.given)) in
    let refused = subst (λ (m : Names). IsWritten (producer_id_request m) (Err fault)) names c.in_err-frame.ensures in
    learns_back g.S.Stream.answers old _ fault c.from_residual-in_err-frame.result c.from_residual-in_err-frame.ensures.1
    (half_written g.S.Stream.answers old fault content c.poll_answer.new.wire n c.requires.metadata h given refused)

pub returns-clause-learns : goal.returns-clause-learns
returns-clause-learns g c =
    let old = c.args.self.now in
    let names : c.self.inside.names ≡ old.names = ap (λ (t : Talking g.row.S.Denot). t.names) c.self.view_is in
    let wire : c.self.inside.wire ≡ old.wire = ap (λ (t : Talking g.row.S.Denot). t.wire) c.self.view_is in
    let content = c.in-Ready.content.items in
    let n = c.in_ok-partitions.partitions in
    let bytes = c.in_ok-frame.frame.items in
    let h = heard_by g.S.Stream.answers old.wire c.self.inside.wire c.poll_answer.new.wire c.in_ok-content.field-0 c.in-Ready.content wire c.in-Ready.is c.in_ok-content.ensures.listens in
    let given : metadata_given old.names.topic content ≡ Ok n =
    subst (λ (m : Names). metadata_given m.topic content ≡ Ok n) names
    (subst (λ (bytes : List ℕ). metadata_given c.self.inside.names.topic bytes ≡ Ok n) c.deref.ensures.value (sym c.in_ok-partitions.ensures.given)) in
    let written : bytes ≡ frame_of (producer_id_request old.names) = c.in_ok-frame.ensures ∙ ap (λ (m : Names). frame_of (producer_id_request m)) names in
    let held = ap (λ (w : Wired g.row.S.Denot). w.held) c.send.ensures.kept in
    learned g.S.Stream.answers old g.met.S.Stream.answers_in_order c.self.inside.names content bytes c.poll_answer.new.wire c.send.new.self n c.requires.metadata names h given (c.in_ok-partitions.ensures.some, c.in_ok-partitions.ensures.limit) written c.send.ensures.goes held
