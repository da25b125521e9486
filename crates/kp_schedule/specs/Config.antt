-- The configuration that a schedule sets.
use Rattle.std.specs.Prelude.{List}
use Rattle.kp_accum.specs.Config.{default_config}
use Rattle.kp_accum.specs.declared.config.Config.{Config}
use Rattle.kp_schedule.specs.Reading.{set_or}
use Rattle.kp_schedule.specs.declared.given.Given.{Given}
use Rattle.kp_schedule.specs.declared.setting.Setting.TheVariants.{BatchSize, Linger, BufferMemory, MaxRequestSize, RequestTimeout, DeliveryTimeout, RetryBackoff, MaxInFlight, SequenceLimit}

abbrev pub config_of : List Given → Config
config_of gs = record {
  batch_size = set_or BatchSize default_config.batch_size gs;
  linger_ms = set_or Linger default_config.linger_ms gs;
  buffer_memory = set_or BufferMemory default_config.buffer_memory gs;
  max_request_size = set_or MaxRequestSize default_config.max_request_size gs;
  request_timeout_ms = set_or RequestTimeout default_config.request_timeout_ms gs;
  delivery_timeout_ms = set_or DeliveryTimeout default_config.delivery_timeout_ms gs;
  retry_backoff_ms = set_or RetryBackoff default_config.retry_backoff_ms gs;
  max_in_flight_requests_per_connection =
      set_or MaxInFlight default_config.max_in_flight_requests_per_connection gs;
  sequence_limit = set_or SequenceLimit default_config.sequence_limit gs;
}
