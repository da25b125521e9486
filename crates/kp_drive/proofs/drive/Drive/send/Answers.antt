use Rattle.std.proofs.Common.{ℕ, IfErr, sym, subst, ◌∙◌}
use Rattle.kp_drive.specs.Driving.{moment_of, producer_of}
use Rattle.kp_embed.specs.Producer.{Producer}
use Rattle.kp_embed.specs.Sending.{Refuses}
use Rattle.kp_drive.proofs.drive.Drive.send.Goals as goal

pub returns-clause-to : goal.returns-clause-to
returns-clause-to g c = c.send_at.ensures.to

pub returns-clause-back : goal.returns-clause-back
returns-clause-back g c = c.send_at.ensures.back

pub returns-clause-when : goal.returns-clause-when
returns-clause-when g c =
    let looked = producer_of c.look-now.new.self in
    subst (λ (p : Producer). IfErr c.send_at.result (λ refused. Refuses p c.args.target (moment_of c.send_at.new.self) c.args.body refused.0)) c.look-now.ensures.producer
    (subst (λ (now : ℕ). IfErr c.send_at.result (λ refused. Refuses looked c.args.target now c.args.body refused.0)) (c.look-now.ensures.moment ∙ sym c.send_at.ensures.only.moment) c.send_at.ensures.when)
