use Rattle.std.proofs.Common.{ℕ, List, [], length, refl, subst}
use Rattle.std.specs.Prelude.{Result, Err}
use Rattle.kp_embed.specs.Going.{Acts, if_core}
use Rattle.kp_embed.specs.Hearing.{Opens, leads}
use Rattle.kp_embed.specs.Producer.{Producer}
use Rattle.kp_embed.proofs.ActLemmas.{acts_idly, acts_same, both_ok, made, on_err}
use Rattle.kp_embed.proofs.embed.Embed.open.Goals as goal
use Rattle.kp_hello.specs.Hello.{UnlessMemory, producer_id_given}
use Rattle.kp_hello.specs.declared.fault.HandshakeFault.{HandshakeFault}
use Rattle.kp_rules.specs.Calls.{Call}

-- what was opened by this producer
abbrev Opened : Producer → List ℕ → ℕ → Producer → Type 0
Opened a content now b = (calls : List Call) × Acts a calls b × Opens now (producer_id_given content) a calls b

pub returns-in-Ok-clause-opens : goal.returns-in-Ok-clause-opens
returns-in-Ok-clause-opens c =
    let b = c.begin.new.self in
    let calls = if_core b.core (leads c.args.now b.cluster (length b.counts)) in
    both_ok c.begin.result c.begin.ensures.begins c.begin.ensures.under
    (λ acts under. (calls, acts, subst (λ (g : Result ℕ HandshakeFault). Opens c.args.now g c.args.self.now calls b) c.in-Ok.ensures.given (refl, under)))

pub returns-in-Ok-clause-acts : goal.returns-in-Ok-clause-acts
returns-in-Ok-clause-acts c = on_err c.begin.result c.begin.ensures.acts (λ acts. ([], acts))

pub returns-in-Err-Refused-clause-opens : goal.returns-in-Err-Refused-clause-opens
returns-in-Err-Refused-clause-opens c =
    let i = c.self.inside in
    let given = subst (λ (f : HandshakeFault). UnlessMemory (Err f) (producer_id_given c.args.content.now)) c.in-Err-Refused.field-0-is c.in-Err-Refused.ensures.given in
    subst (λ (a : Producer). Opened a c.args.content.now c.args.now (made i.is_failed i.is_closed i.config.producer i.names i.core i.counts.items i.lines i.cluster)) c.self.view_is
    ([], acts_idly (made i.is_failed i.is_closed i.config.producer i.names i.core i.counts.items i.lines i.cluster) (made i.is_failed i.is_closed i.config.producer i.names i.core i.counts.items i.lines i.cluster) refl refl refl refl, subst (λ (g : Result ℕ HandshakeFault). Opens c.args.now g (made i.is_failed i.is_closed i.config.producer i.names i.core i.counts.items i.lines i.cluster) [] (made i.is_failed i.is_closed i.config.producer i.names i.core i.counts.items i.lines i.cluster)) given refl)

pub returns-in-Err : goal.returns-in-Err
returns-in-Err c = record { opens = tt; acts = ([], acts_same c.args.self.now); lines = refl; still = refl }
