use Rattle.std.proofs.Common.{◌≡◌, true, ap, sym, ◌∙◌}
use Rattle.kp_frames.specs.Stream.{kept, is_faulty}
use Rattle.kp_frames.specs.Held.{is_stopped}
use Rattle.kp_frames.proofs.HeldLemmas.{kept_stopped, fed_whole}
use Rattle.kp_frames.proofs.splitter.Splitter.feed.Goals as goal

pub returns-in-Stopped-clause-fed : goal.returns-in-Stopped-clause-fed
returns-in-Stopped-clause-fed c =
    let all : kept c.args.self.now ≡ c.args.self.now = ap kept (sym c.self.view_is) ∙ c.self.invariant.held.kept ∙ c.self.view_is in
    let faulty : is_faulty c.args.self.now ≡ true = ap is_faulty (sym c.self.view_is) ∙ sym c.self.invariant.held.stops ∙ ap is_stopped c.in-Stopped.is in
    kept_stopped c.args.self.now c.args.piece.now all faulty

pub returns-clause-whole : goal.returns-clause-whole
returns-clause-whole c =
    fed_whole c.args.self.now c.args.piece.now c.append.result c.append.new.self c.append.ensures
