use Rattle.std.proofs.Common.{◌≡◌, [], rules}
use Rattle.kp_drive.proofs.ServeLemmas.{refilled, serves_same}
use Rattle.kp_drive.proofs.pipe.Pipe.refill.Goals as goal

pub returns-then-not-is_empty : goal.returns-then-not-is_empty
returns-then-not-is_empty g c = serves_same g.S.Stream.answers c.args.node c.args.now c.args.embed.now c.args.self.now g.met.S.Stream.answers_nothing

pub returns : goal.returns
returns g c =
    let none : c.args.self.now.unwritten ≡ [] = search rules in
    refilled g.S.Stream.answers c.args.node c.args.now c.args.embed.now c.refill.new.embed c.args.self.now c.refill.result c.refill.new.self g.met.S.Stream.answers_nothing none
    c.refill.ensures.taken c.refill.ensures.refused c.refill.ensures.none
