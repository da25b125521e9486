use Rattle.kp_run.specs.Jobs.{IsIdle}
use Rattle.kp_run.proofs.JobsLemmas.{all_more, handed_on}
use Rattle.kp_run.proofs.producing.jobs_of.Goals as goal

pub loop-producer-preserved : goal.loop-producer-preserved
loop-producer-preserved c = record {
  done = handed_on c.loop-producer.jobs.items c.push.new.all.items c.new.result c.in-Some.producer c.loop-producer.producer-iterator.rest.items
      c.next.new.self.rest.items c.args.producers.items c.loop-producer.invariant.done c.in_ok-push.ensures c.in-Some.ensures.steps.0 c.new.ensures.producer;
  idle = all_more IsIdle c.loop-producer.jobs.items c.push.new.all.items c.new.result c.in_ok-push.ensures c.loop-producer.invariant.idle c.new.ensures.idle;
}
