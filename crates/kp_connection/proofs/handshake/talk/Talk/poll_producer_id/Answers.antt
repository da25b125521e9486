use Rattle.std.proofs.Common.{◌≡◌, ℕ, List, Ok, Err, ap, subst, sym, refl}
use Rattle.kp_connection.specs.declared.handshake.stage.Stage.{Stage}
use Rattle.kp_connection.specs.Handshake.{Talking, GivesFault}
use Rattle.kp_hello.specs.Hello.{producer_id_given, UnlessMemory}
use Rattle.kp_connection.specs.Listening.{Listens}
use Rattle.kp_connection.specs.Wire.{Wired}
use Rattle.kp_hello.proofs.FaultLemmas.{producer_id_no_io}
use Rattle.kp_connection.proofs.TalkLemmas.{listens_not, judged_not, concluded, talks_back, heard_by}
use Rattle.kp_connection.proofs.handshake.talk.Talk.poll_producer_id.Goals as goal

pub returns-in_err-content-clause-talks : goal.returns-in_err-content-clause-talks
returns-in_err-content-clause-talks g c =
    let old = c.args.self.now in
    let wire : c.self.inside.wire ≡ old.wire = ap (λ (t : Talking g.row.S.Denot). t.wire) c.self.view_is in
    let fault = c.in_err-content.field-0.0 in
    let listens = subst (λ (w : Wired g.row.S.Denot). Listens g.S.Stream.answers w (Err fault) c.poll_answer.new.wire) wire c.in_err-content.ensures.listens in
    talks_back g.S.Stream.answers old _ fault c.from_residual.result c.from_residual.ensures.1 (listens_not g.S.Stream.answers old fault c.poll_answer.new.wire listens)

pub returns-in_err-producer_id-clause-talks : goal.returns-in_err-producer_id-clause-talks
returns-in_err-producer_id-clause-talks g c =
    let old = c.args.self.now in
    let wire : c.self.inside.wire ≡ old.wire = ap (λ (t : Talking g.row.S.Denot). t.wire) c.self.view_is in
    let content = c.in-Ready.content.items in
    let fault = c.in_err-producer_id.field-0.0 in
    let h = heard_by g.S.Stream.answers old.wire c.self.inside.wire c.poll_answer.new.wire c.in_ok-content.field-0 c.in-Ready.content wire c.in-Ready.is c.in_ok-content.ensures.listens in
    let given : UnlessMemory (Err fault) (producer_id_given content) =
    subst (λ (bytes : List ℕ). UnlessMemory (Err fault) (producer_id_given bytes)) c.deref.ensures.value c.in_err-producer_id.ensures.given in
    talks_back g.S.Stream.answers old _ fault c.from_residual-in_err-producer_id.result c.from_residual-in_err-producer_id.ensures.1
    (judged_not g.S.Stream.answers old fault content c.poll_answer.new.wire (producer_id_given content) h
    (λ e. subst (λ (s : Stage). GivesFault old.names.topic s content fault) (sym c.requires.producer_id) e) given (producer_id_no_io content))

pub returns-clause-talks : goal.returns-clause-talks
returns-clause-talks g c =
    let old = c.args.self.now in
    let wire : c.self.inside.wire ≡ old.wire = ap (λ (t : Talking g.row.S.Denot). t.wire) c.self.view_is in
    let content = c.in-Ready.content.items in
    let h = heard_by g.S.Stream.answers old.wire c.self.inside.wire c.poll_answer.new.wire c.in_ok-content.field-0 c.in-Ready.content wire c.in-Ready.is c.in_ok-content.ensures.listens in
    let given : producer_id_given content ≡ Ok c.in_ok-producer_id.producer_id =
    subst (λ (bytes : List ℕ). producer_id_given bytes ≡ Ok c.in_ok-producer_id.producer_id) c.deref.ensures.value (sym c.in_ok-producer_id.ensures.given) in
    concluded g.S.Stream.answers old _ content c.poll_answer.new.wire c.poll_answer.new.wire.stream c.requires.producer_id h given refl refl
