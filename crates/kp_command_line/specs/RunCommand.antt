-- What `run` takes, as clap sees it.
use Rattle.std.specs.Prelude.{false, codes}
use Rattle.clap.specs.Words.{App, Rule, new_app, with_rule}
use Rattle.kp_command_line.specs.OptionRules.{any, flag_rule, number_rule, required_rule, text_rule}

-- not together with a plan of faults
abbrev pub broker_rule : Rule
broker_rule = record (text_rule (codes "broker")) { is_free = false }

abbrev pub with_topic : App → App
with_topic app =
    with_rule (with_rule (with_rule (with_rule app (required_rule (codes "file")))
    (text_rule (codes "topic")))
    (number_rule (codes "partitions") 1 1024))
    (number_rule (codes "senders") 1 64)

abbrev pub with_batching : App → App
with_batching app =
    with_rule (with_rule (with_rule (with_rule (with_rule app (number_rule (codes "batch-size") 0 any))
    (number_rule (codes "linger") 0 any))
    (number_rule (codes "request-timeout") 0 any))
    (number_rule (codes "max-in-flight") 0 any))
    (number_rule (codes "sequence-limit") 0 any)

abbrev pub with_broker : App → App
with_broker app =
    with_rule (with_rule (with_rule app (number_rule (codes "flush-every") 1 1000000))
    (text_rule (codes "fault")))
    broker_rule

abbrev pub with_flags : App → App
with_flags app =
    with_rule (with_rule (with_rule app (flag_rule (codes "keyed")))
    (flag_rule (codes "audit")))
    (flag_rule (codes "totals"))

abbrev pub run_app : App
run_app = with_flags (with_broker (with_batching (with_topic (new_app (codes "run")))))
