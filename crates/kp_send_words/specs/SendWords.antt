-- What the words of `send` ask for, by what clap has found for each of its options.
use Rattle.std.specs.Prelude.{◌≡◌, ℕ, ◌<◌, true, false, List, [], Option, Some, None, codes, map, unwrap_or}
use Rattle.std.specs.List.{list_all}
use Rattle.clap.specs.Words.{Row, Text, all_of, first_of, one_of}
use Rattle.kp_accum.specs.Config.{default_config}
use Rattle.kp_accum.specs.declared.config.Config.{Config}
use Rattle.kp_send_words.specs.DelimiterWords.{NamesByte, is_header}
use Rattle.kp_command_line.specs.OptionWords.{IsFlag, IsSaid, IsSaidOr, text_said}
use Rattle.kp_send_words.specs.declared.sending.Sending.{Sending}

-- the byte that is named, and a line feed where none is
abbrev pub IsDelimiter : Option Text → ℕ → Type 0
IsDelimiter None byte = byte ≡ 10
IsDelimiter (Some word) byte = NamesByte word byte

module _ (rows : List Row) where
  -- each setting is Kafka's own, and as usual where the words do not speak of it
  pub record AsksForSettings (config : Config) : Type 0 where
    pub batch_size : IsSaidOr 64 (one_of (codes "batch.size") rows) default_config.batch_size config.batch_size
    pub linger : IsSaidOr 64 (one_of (codes "linger.ms") rows) default_config.linger_ms config.linger_ms
    pub buffer_memory : IsSaidOr 64 (one_of (codes "buffer.memory") rows) default_config.buffer_memory config.buffer_memory
    pub max_request_size : IsSaidOr 64 (one_of (codes "max.request.size") rows) default_config.max_request_size config.max_request_size
    pub request_timeout : IsSaidOr 64 (one_of (codes "request.timeout.ms") rows) default_config.request_timeout_ms config.request_timeout_ms
    pub delivery_timeout : IsSaidOr 64 (one_of (codes "delivery.timeout.ms") rows) default_config.delivery_timeout_ms config.delivery_timeout_ms
    pub retry_backoff : IsSaidOr 64 (one_of (codes "retry.backoff.ms") rows) default_config.retry_backoff_ms config.retry_backoff_ms
    pub max_in_flight : IsSaidOr 64 (one_of (codes "max.in.flight.requests.per.connection") rows)
        default_config.max_in_flight_requests_per_connection config.max_in_flight_requests_per_connection
    pub sequence_limit : config.sequence_limit ≡ default_config.sequence_limit

  -- the words for headers, in their order
  abbrev pub headers_said : List Text
  headers_said = unwrap_or (all_of (codes "header") rows) []

  pub record AsksForSend (sending : Sending) : Type 0 where
    pub file : sending.file.now ≡ unwrap_or (first_of (codes "file") rows) (codes "-")
    pub brokers : first_of (codes "broker") rows ≡ Some sending.brokers.now
    pub topic : first_of (codes "topic") rows ≡ Some sending.topic.now
    pub client : sending.client.now ≡ unwrap_or (first_of (codes "client.id") rows) (codes "kprod")
    pub config : AsksForSettings sending.config
    pub reconnect_backoff : IsSaidOr 64 (one_of (codes "reconnect.backoff.ms") rows) 50 sending.reconnect_backoff_ms
    pub reconnect_backoff_max : IsSaidOr 64 (one_of (codes "reconnect.backoff.max.ms") rows) 1000 sending.reconnect_backoff_max_ms
    pub metadata_max_age : IsSaidOr 64 (one_of (codes "metadata.max.age.ms") rows) 300000 sending.metadata_max_age_ms
    pub setup_timeout : IsSaidOr 64 (one_of (codes "socket.connection.setup.timeout.ms") rows) 10000 sending.setup_timeout_ms
    pub partition : IsSaid 32 (one_of (codes "partition") rows) sending.partition
    pub delimiter : IsDelimiter (first_of (codes "delimiter") rows) sending.delimiter
    pub key_delimiter : text_said sending.key_delimiter ≡ first_of (codes "key-delimiter") rows
    pub null_values : IsFlag (one_of (codes "null-values") rows) sending.null_values
    pub headers : map (λ header. header.now) sending.headers.items ≡ headers_said
    pub named : list_all is_header headers_said ≡ true
    pub undelivered : text_said sending.undelivered ≡ first_of (codes "undelivered") rows
    pub unknown : text_said sending.unknown ≡ first_of (codes "unknown") rows
    pub offsets : text_said sending.offsets ≡ first_of (codes "offsets") rows
    pub quiet : IsFlag (one_of (codes "quiet") rows) sending.quiet
    pub statistics : IsSaid 64 (one_of (codes "statistics") rows) sending.statistics
    pub give_up_after : IsSaid 64 (one_of (codes "give-up-after") rows) sending.give_up_after

  -- the partition is above the last that Kafka numbers
  abbrev pub IsPastPartitions : Type 0
  IsPastPartitions = (number : ℕ) × IsSaid 32 (one_of (codes "partition") rows) (Some number) × (2147483647 < number)

  -- the word for the delimiter names no byte
  abbrev pub NamesNoByte : Type 0
  NamesNoByte = (word : Text) × (first_of (codes "delimiter") rows ≡ Some word) × ((byte : ℕ) → ¬ NamesByte word byte)

-- what can't be meant
pub data IsRefusedSend (rows : List Row) : Type 0 where
  no_broker : first_of (codes "broker") rows ≡ None → IsRefusedSend rows
  no_topic : first_of (codes "topic") rows ≡ None → IsRefusedSend rows
  past_partitions : IsPastPartitions rows → IsRefusedSend rows
  no_byte : NamesNoByte rows → IsRefusedSend rows
  empty_key_delimiter : first_of (codes "key-delimiter") rows ≡ Some [] → IsRefusedSend rows
  no_header : list_all is_header (headers_said rows) ≡ false → IsRefusedSend rows
