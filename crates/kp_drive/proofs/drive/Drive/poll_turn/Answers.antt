use Rattle.std.proofs.Common.{ℕ, subst}
use Rattle.kp_drive.specs.Driving.{links_of, producer_of}
use Rattle.kp_drive.specs.Turning.{Turns}
use Rattle.kp_drive.proofs.DriveLemmas.{turn_to}
use Rattle.kp_drive.proofs.drive.Drive.poll_turn.Goals.{then-told-via-then-told, then-told-via-else-told+then-moved}
use Rattle.kp_drive.proofs.drive.Drive.poll_turn.Goals as goal

pub returns-then-told-clause-turns : goal.returns-then-told-clause-turns
returns-then-told-clause-turns g c = elim c.then-told.branch [
  | then-told-via-then-told w ↦
      turn_to g.S.Stream.answers c.args.self.now _ c.then-told.self c.read-now.result w.self-is c.read-now.ensures.shown (record {
        ticked = c.tick.new.self;
        ticks = c.tick.ensures.ticks;
        asked = c.do_all-told.new.host.embed;
        linked = c.do_all-told.new.links.items;
        does = c.do_all-told.ensures.does;
        each = c.poll_links-moved.ensures.each;
      })
  | then-told-via-else-told+then-moved w ↦
      turn_to g.S.Stream.answers c.args.self.now _ c.then-told.self c.read-now.result w.self-is c.read-now.ensures.shown (record {
        ticked = c.tick.new.self;
        ticks = c.tick.ensures.ticks;
        asked = c.do_all-told.new.host.embed;
        linked = c.do_all-told.new.links.items;
        does = c.do_all-told.ensures.does;
        each = c.poll_links-moved.ensures.each;
      })
]

pub returns-clause-turns : goal.returns-clause-turns
returns-clause-turns g c =
    let old = c.args.self.now in
    let host = c.poll_links-moved.new.host in
    let links = c.poll_links-moved.new.links in
    subst (λ (now : ℕ). Turns g.S.Stream.answers now (producer_of old) (links_of old) host.embed links.items) c.read-now.ensures.shown (record {
      ticked = c.tick.new.self;
      ticks = c.tick.ensures.ticks;
      asked = c.do_all-told.new.host.embed;
      linked = c.do_all-told.new.links.items;
      does = c.do_all-told.ensures.does;
      each = c.poll_links-moved.ensures.each;
    })
