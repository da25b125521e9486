use Rattle.kp_publish.proofs.GoingLemmas.{accepts, goes_more, leaves, none, reserves}
use Rattle.kp_publish.proofs.publishing.Publishing.send_next.Goals.{in-Ok+in_ok-accepted-in-Ok+in_ok-sent-in-Ok, in-Err-2+in_ok-refused-in-Err-2}
use Rattle.kp_publish.proofs.publishing.Publishing.send_next.Goals as goal

pub returns-then-waiting-self-clause-goes : goal.returns-then-waiting-self-clause-goes
returns-then-waiting-self-clause-goes g c = none c.args.self.now.sender c.args.texts.now

pub returns-in_default-clause-goes : goal.returns-in_default-clause-goes
returns-in_default-clause-goes g c = reserves c.args.self.now.sender c.reserve.new.self c.args.texts.now c.in_ok-reserve.ensures.same

pub returns-in-Err-clause-goes : goal.returns-in-Err-clause-goes
returns-in-Err-clause-goes g c = reserves c.args.self.now.sender c.reserve.new.self c.args.texts.now c.in_ok-reserve.ensures.same

pub returns-clause-goes : goal.returns-clause-goes
returns-clause-goes g c =
    let reserved = reserves c.args.self.now.sender c.reserve.new.self c.args.texts.now c.in_ok-reserve.ensures.same in
    elim c.match-send_or_refuse.branch [
      | in-Ok+in_ok-accepted-in-Ok+in_ok-sent-in-Ok w ↦ rw (w.self-is, w.texts-is)
          (goes_more c.args.self.now.sender c.args.texts.now _ c.reserve.new.self c.args.texts.now _ w.accepted.new.self w.accepted.new.texts reserved
          (accepts c.reserve.new.self w.accepted.new.self _ c.args.texts.now w.accepted.new.texts w.in_ok-accepted-in-Ok.ensures))
      | in-Err-2+in_ok-refused-in-Err-2 w ↦ rw (w.self-is, w.texts-is)
          (goes_more c.args.self.now.sender c.args.texts.now _ c.reserve.new.self c.args.texts.now _ w.refused.new.self w.refused.new.texts reserved
          (leaves c.reserve.new.self w.refused.new.self _ c.args.texts.now w.refused.new.texts w.in_ok-refused-in-Err-2.ensures))
    ]
