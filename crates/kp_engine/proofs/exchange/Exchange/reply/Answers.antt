use Rattle.std.proofs.Common.{◌≡◌, ◌<◌, ◌^◌, [], ◌∷◌, ℕ, List, subst}
use Rattle.std.specs.Prelude.{All}
use Rattle.kp_rules.specs.Calls.{Reply, Step}
use Rattle.kp_engine.specs.Turned.{noted, notes_of}
use Rattle.kp_engine.proofs.AgreementLemmas.{agree_on}
use Rattle.kp_engine.proofs.RunLemmas.{runs_one}
use Rattle.kp_engine.proofs.exchange.Exchange.reply.Goals as goal

pub invariant_of-self : goal.invariant_of-self
invariant_of-self c = record {
  agree = agree_on _ _ _ _ _ (Reply c.args.now c.as_slice-2.result.now c.on_reply-answer.result) c.on_reply-answer.ensures c.args.self.now.agree;
  nothing_yet = c.args.self.now.nothing_yet;
  room = c.args.self.now.room;
}

pub returns-clause-runs : goal.returns-clause-runs
returns-clause-runs c =
    runs_one c.args.self.now _ (Reply c.args.now c.args.content.items c.on_reply-answer.result)
    (subst (λ (bytes : List ℕ). All (λ byte. byte < 2 ^ 8) bytes) c.as_slice.ensures.value c.see_bytes.ensures)
    (subst (λ (bytes : List ℕ). Step c.args.self.now.core (Reply c.args.now bytes c.on_reply-answer.result) c.on_reply-answer.new.self) c.as_slice-2.ensures.value c.on_reply-answer.ensures)
    (subst (λ (bytes : List ℕ). notes_of c.add.new.self ≡ noted (Reply c.args.now bytes c.on_reply-answer.result ∷ []) (notes_of c.args.self.now.notes)) c.new.ensures c.add.ensures)
