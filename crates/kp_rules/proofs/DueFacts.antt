-- When a core is next to be looked at.
use Rattle.std.proofs.Common.{◌≡◌, Some, None, refl}
use Rattle.kp_accum.specs.Config.{default_config}
use Rattle.kp_accum.specs.declared.config.Config.{Config}
use Rattle.kp_rules.specs.Appending.{append_step}
use Rattle.kp_rules.specs.Due.{next_due, next_due_from}
use Rattle.kp_rules.specs.Opening.{new_core}
use Rattle.kp_rules.specs.Records.{Core}
use Rattle.kp_rules.specs.Dropping.{disconnect_step}
use Rattle.kp_rules.proofs.Evaluation.{evaluated}
use Rattle.kp_rules.proofs.Scenes.{names, item, fresh, both_sent}

pub an_empty_core_is_never_due : next_due (fresh 1 2) ≡ None
unfolding evaluated
an_empty_core_is_never_due = refl

abbrev lingers : Config
lingers = record default_config { linger_ms = 5 }

abbrev lingering : Core
lingering = (append_step (item 0 0 97) (new_core lingers names 1 1 1000 2)).after

pub a_batch_is_due_when_it_has_lingered : next_due lingering ≡ Some 5
unfolding evaluated
a_batch_is_due_when_it_has_lingered = refl

pub what_was_due_before_is_left_out : next_due_from 6 lingering ≡ Some 120000
unfolding evaluated
what_was_due_before_is_left_out = refl

pub a_request_is_due_when_it_times_out : next_due both_sent ≡ Some 30000
unfolding evaluated
a_request_is_due_when_it_times_out = refl

pub a_dropped_batch_is_due_after_its_backoff : next_due (disconnect_step 0 40 both_sent) ≡ Some 140
unfolding evaluated
a_dropped_batch_is_due_after_its_backoff = refl
