-- What `send` takes, as clap sees it.
use Rattle.std.specs.Prelude.{codes}
use Rattle.clap.specs.Words.{App, Rule, Text, new_app, new_rule, with_rule}
use Rattle.kp_command_line.specs.OptionRules.{any, flag_rule, number_rule, repeated_rule, required_rule, setting_rule, text_rule}

-- the file, which is no option, and need not be said
abbrev pub lines_rule : Rule
lines_rule = record (new_rule (codes "file")) { value_names = 1 }

abbrev pub with_place : App → App
with_place app =
    with_rule (with_rule (with_rule (with_rule app lines_rule)
    (required_rule (codes "broker")))
    (required_rule (codes "topic")))
    (text_rule (codes "config"))

abbrev pub with_lines : App → App
with_lines app =
    with_rule (with_rule (with_rule (with_rule (with_rule app (number_rule (codes "partition") 0 2147483647))
    (text_rule (codes "delimiter")))
    (text_rule (codes "key-delimiter")))
    (flag_rule (codes "null-values")))
    (repeated_rule (codes "header"))

abbrev pub with_files : App → App
with_files app =
    with_rule (with_rule (with_rule app (text_rule (codes "undelivered")))
    (text_rule (codes "unknown")))
    (text_rule (codes "offsets"))

-- seconds, up to ten years
abbrev pub seconds_rule : Text → Rule
seconds_rule name = number_rule name 1 315360000

abbrev pub with_progress : App → App
with_progress app =
    with_rule (with_rule (with_rule app (flag_rule (codes "quiet")))
    (seconds_rule (codes "statistics")))
    (seconds_rule (codes "give-up-after"))

abbrev pub with_batches : App → App
with_batches app =
    with_rule (with_rule (with_rule (with_rule app (setting_rule (codes "batch.size") (codes "batch-size")))
    (setting_rule (codes "linger.ms") (codes "linger")))
    (number_rule (codes "buffer.memory") 0 any))
    (number_rule (codes "max.request.size") 0 any)

abbrev pub with_requests : App → App
with_requests app =
    with_rule (with_rule (with_rule (with_rule app
    (setting_rule (codes "max.in.flight.requests.per.connection") (codes "max-in-flight")))
    (setting_rule (codes "request.timeout.ms") (codes "request-timeout")))
    (number_rule (codes "delivery.timeout.ms") 0 any))
    (number_rule (codes "retry.backoff.ms") 0 any)

abbrev pub with_connections : App → App
with_connections app =
    with_rule (with_rule (with_rule (with_rule (with_rule app (text_rule (codes "client.id")))
    (number_rule (codes "reconnect.backoff.ms") 0 any))
    (number_rule (codes "reconnect.backoff.max.ms") 0 any))
    (number_rule (codes "metadata.max.age.ms") 0 any))
    (number_rule (codes "socket.connection.setup.timeout.ms") 0 any)

abbrev pub send_app : App
send_app =
    with_connections (with_requests (with_batches (with_progress (with_files (with_lines (with_place (new_app (codes "send"))))))))
