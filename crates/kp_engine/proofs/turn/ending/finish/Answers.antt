use Rattle.std.proofs.Common.{rules}
use Rattle.kp_engine.specs.Steps.{OnlyMails}
use Rattle.kp_engine.proofs.EndingLemmas.{finished, finished_until}
use Rattle.kp_engine.proofs.turn.ending.finish.Goals as goal

pub returns-in-Err-clause-finishes : goal.returns-in-Err-clause-finishes
returns-in-Err-clause-finishes c =
    finished_until c.args.node c.args.now c.args.cut c.args.exchange.now c.drop_if_cut.new.exchange c.send_all.new.self c.in-Ok.ensures.ok c.drop_if_cut.ensures.same c.in-Err.ensures.sends

pub returns-in-Ok-send_all-clause-finishes : goal.returns-in-Ok-send_all-clause-finishes
returns-in-Ok-send_all-clause-finishes c =
    let only : OnlyMails c.args.exchange.now c.send_all.new.self = search rules in
    finished c.args.node c.args.now c.args.cut c.args.exchange.now c.drop_if_cut.new.exchange c.send_all.new.self c.in-Ok.ensures.ok c.drop_if_cut.ensures.same
    c.args.idle c.in-Ok-send_all.all_sent c.is_done.result c.in-Ok-send_all.ensures.sends only c.is_done.ensures
