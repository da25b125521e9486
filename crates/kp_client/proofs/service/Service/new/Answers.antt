use Rattle.std.proofs.Common.{rules}
use Rattle.kp_rules.specs.Opening.{MayOpen}
use Rattle.std.proofs.Math.Nat.{min-le_left, min-le_right}
use Rattle.kp_settings.specs.Settings.{record_limit}
use Rattle.kp_client.proofs.FittingLemmas.{fits}
use Rattle.kp_client.proofs.service.Service.new.Goals as goal

pub invariant_of-result : goal.invariant_of-result
invariant_of-result c =
    let s = c.args.settings in
    let h = c.args.hello in
    let may : MayOpen s.config s.names h.partitions s.senders h.producer_id h.next_correlation = search rules in record {
      fits = fits s.audits h s.config s.names s.senders (record_limit s) c.in_ok-core.core c.args.intake c.in_ok-core.ensures may c.requires.lanes c.requires.limits
          (min-le_left s.config.max_request_size s.config.buffer_memory) (min-le_right s.config.max_request_size s.config.buffer_memory) c.requires.fresh.0 c.requires.fresh.1;
    }
