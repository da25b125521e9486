use Rattle.std.proofs.Common.{refl}
use Rattle.kp_publish.proofs.GoingLemmas.{by_hears, goes_on, stays}
use Rattle.kp_publish.proofs.publishing.Publishing.hear.Goals as goal

pub loop-init : goal.loop-init
loop-init g c = (stays c.args.self.now.sender c.args.texts.now, refl)

pub loop-preserved : goal.loop-preserved
loop-preserved g c = (
  goes_on c.args.self.now.sender c.loop.self.sender c.told.new.self c.args.texts.now c.loop.texts c.told.new.texts c.loop.invariant.0
      (by_hears c.loop.self.sender c.told.new.self c.in-Some.report c.loop.texts c.told.new.texts c.in_ok-told.ensures),
  c.loop.invariant.1,
)

pub returns-in_default-clause-goes : goal.returns-in_default-clause-goes
returns-in_default-clause-goes g c = c.loop.invariant.0

pub returns-in_default-clause-files : goal.returns-in_default-clause-files
returns-in_default-clause-files g c = c.loop.invariant.1

pub returns-in_err-told-clause-files : goal.returns-in_err-told-clause-files
returns-in_err-told-clause-files g c = c.loop.invariant.1

pub returns-clause-goes : goal.returns-clause-goes
returns-clause-goes g c = c.loop.invariant.0

pub returns-clause-files : goal.returns-clause-files
returns-clause-files g c = c.loop.invariant.1
