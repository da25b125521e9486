use Rattle.std.proofs.Common.{◌∙◌}
use Rattle.kp_publish.proofs.DrawingLemmas.{going}
use Rattle.kp_publish.proofs.PollLemmas.{turn_still}
use Rattle.kp_publish.proofs.publishing.Publishing.poll_turn.Goals as goal

pub returns-then-more-clause-turns : goal.returns-then-more-clause-turns
returns-then-more-clause-turns g c =
    turn_still _ c.args.self.now.sender c.poll_input.new.self.sender c.hear.new.self.sender c.poll_watch.new.self.sender c.args.self.now.files
    c.poll_input.new.self.files c.hear.new.self.files c.write.new.self c.poll_watch.new.self.files c.new-texts.result c.poll_input.new.texts c.hear.new.texts
    c.new-texts.ensures.empty (c.new-texts.ensures.places ∙ c.is_some.ensures)
    (going _ c.args.self.now.input c.poll_input.new.self.input c.args.self.now.sender c.poll_input.new.self.sender c.new-texts.result c.poll_input.new.texts
    c.in_ok-more.ensures.draws.1)
    c.in_ok-more.ensures.files c.in_ok-heard.ensures.goes c.in_ok-heard.ensures.files c.in_ok-write.ensures
    (c.in_ok-told.ensures.sender ∙ c.in_ok-say.ensures.sender) (c.in_ok-told.ensures.files ∙ c.in_ok-say.ensures.files)

pub returns-clause-turns : goal.returns-clause-turns
returns-clause-turns g c =
    turn_still _ c.args.self.now.sender c.poll_input.new.self.sender c.hear.new.self.sender c.poll_watch.new.self.sender c.args.self.now.files
    c.poll_input.new.self.files c.hear.new.self.files c.write.new.self c.poll_watch.new.self.files c.new-texts.result c.poll_input.new.texts c.hear.new.texts
    c.new-texts.ensures.empty (c.new-texts.ensures.places ∙ c.is_some.ensures)
    (going _ c.args.self.now.input c.poll_input.new.self.input c.args.self.now.sender c.poll_input.new.self.sender c.new-texts.result c.poll_input.new.texts
    c.in_ok-more.ensures.draws.1)
    c.in_ok-more.ensures.files c.in_ok-heard.ensures.goes c.in_ok-heard.ensures.files c.in_ok-write.ensures
    (c.in_ok-told.ensures.sender ∙ c.in_ok-say.ensures.sender) (c.in_ok-told.ensures.files ∙ c.in_ok-say.ensures.files)
