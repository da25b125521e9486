-- A producer's configuration: its defaults, and the first value that is refused.
use Rattle.std.specs.Prelude.{ℕ, ◌+◌, Result, Ok, Err, Bool, ◌||◌, nat_lt, if◌then◌else◌}
use Rattle.kp_accum.specs.declared.config.Config.{Config}
use Rattle.kp_accum.specs.declared.fault.ConfigFault.{ConfigFault}
use Rattle.kp_accum.specs.declared.fault.ConfigFault.TheVariants.{BatchSize, Linger, BufferMemory, MaxRequestSize, RequestTimeout, DeliveryTimeout, RetryBackoff, MaxInFlight, SequenceLimit, BatchAboveRequest}

abbrev pub default_config : Config
default_config = record {
  batch_size = 16384;
  linger_ms = 0;
  buffer_memory = 33554432;
  max_request_size = 1048576;
  request_timeout_ms = 30000;
  delivery_timeout_ms = 120000;
  retry_backoff_ms = 100;
  max_in_flight_requests_per_connection = 5;
  sequence_limit = 2147483648;
}

-- the value is not from the least to the most
unfoldable pub is_outside : ℕ → ℕ → ℕ → Bool
is_outside least most value = nat_lt value least || nat_lt most value

unfoldable pub checked : Config → Result (Unit {0}) ConfigFault
checked c =
    if is_outside 0 8388608 c.batch_size then Err BatchSize
    else if is_outside 0 86400000 c.linger_ms then Err Linger
    else if is_outside 100 1073741824 c.buffer_memory then Err BufferMemory
    else if is_outside 100 8388608 c.max_request_size then Err MaxRequestSize
    else if is_outside 1 2147483647 c.request_timeout_ms then Err RequestTimeout
    else if is_outside (c.linger_ms + c.request_timeout_ms) 2147483647 c.delivery_timeout_ms then Err DeliveryTimeout
    else if is_outside 0 86400000 c.retry_backoff_ms then Err RetryBackoff
    else if is_outside 1 5 c.max_in_flight_requests_per_connection then Err MaxInFlight
    else if is_outside 1 2147483648 c.sequence_limit then Err SequenceLimit
    else if nat_lt c.max_request_size c.batch_size then Err BatchAboveRequest
    else Ok tt

abbrev pub number_of : ConfigFault → ℕ
number_of BatchSize = 1
number_of Linger = 2
number_of BufferMemory = 3
number_of MaxRequestSize = 4
number_of RequestTimeout = 5
number_of DeliveryTimeout = 6
number_of RetryBackoff = 7
number_of MaxInFlight = 8
number_of SequenceLimit = 9
number_of BatchAboveRequest = 10
