-- What the words of `run` ask for, by what clap has found for each of its options.
use Rattle.std.specs.Prelude.{◌≡◌, ℕ, ◌<◌, ◌⊎◌, List, Some, None, codes, option_map, unwrap_or}
use Rattle.std.specs.declared.net.socket_addr.SocketAddr.{SocketAddr}
use Rattle.clap.specs.Words.{Row, Text, first_of, one_of}
use Rattle.kp_accum.specs.Config.{default_config}
use Rattle.kp_accum.specs.declared.config.Config.{Config}
use Rattle.kp_options.specs.declared.options.Options.{Options}
use Rattle.kp_options.specs.declared.place.Place.{Place}
use Rattle.kp_options.specs.declared.place.Place.TheVariants.{Here, At}
use Rattle.kp_command_line.specs.BrokerWords.{NamesBroker}
use Rattle.kp_command_line.specs.OptionWords.{IsFlag, IsSaid, IsSaidOr}
use Rattle.kp_command_line.specs.declared.run_words.Wanted.{Wanted}

module _ (rows : List Row) where
  -- what the words do not speak of is as usual
  pub record AsksForConfig (config : Config) : Type 0 where
    pub batch_size : IsSaidOr 64 (one_of (codes "batch-size") rows) default_config.batch_size config.batch_size
    pub linger : IsSaidOr 64 (one_of (codes "linger") rows) default_config.linger_ms config.linger_ms
    pub request_timeout : IsSaidOr 64 (one_of (codes "request-timeout") rows) default_config.request_timeout_ms config.request_timeout_ms
    pub max_in_flight : IsSaidOr 64 (one_of (codes "max-in-flight") rows) default_config.max_in_flight_requests_per_connection config.max_in_flight_requests_per_connection
    pub sequence_limit : IsSaidOr 64 (one_of (codes "sequence-limit") rows) default_config.sequence_limit config.sequence_limit
    pub others : config ≡ record default_config {
      batch_size = config.batch_size;
      linger_ms = config.linger_ms;
      request_timeout_ms = config.request_timeout_ms;
      max_in_flight_requests_per_connection = config.max_in_flight_requests_per_connection;
      sequence_limit = config.sequence_limit;
    }

  -- the broker that is named, or one of the process, with the plan that is given
  abbrev pub AsksForPlace : Place → Type 0
  AsksForPlace (Here plan) = (first_of (codes "broker") rows ≡ None) × (option_map (λ text. text.now) plan ≡ first_of (codes "fault") rows)
  AsksForPlace (At address) = (word : Text) × (first_of (codes "broker") rows ≡ Some word) × NamesBroker word address

  pub record AsksFor (options : Options) : Type 0 where
    pub topic : options.topic.now ≡ unwrap_or (first_of (codes "topic") rows) (codes "t")
    pub partitions : IsSaid 32 (one_of (codes "partitions") rows) options.partitions
    pub senders : IsSaidOr 32 (one_of (codes "senders") rows) 1 options.senders
    pub config : AsksForConfig options.config
    pub place : AsksForPlace options.place
    pub keyed : IsFlag (one_of (codes "keyed") rows) options.keyed
    pub audits : IsFlag (one_of (codes "audit") rows) options.audits
    pub flush_every : IsSaid 64 (one_of (codes "flush-every") rows) options.flush_every
    pub totals : IsFlag (one_of (codes "totals") rows) options.totals

  -- one of these can't be meant: 1 to 1024 partitions, 1 to 64 senders, a broker with an address, a flush behind a record
  abbrev pub IsRefused : Type 0
  IsRefused =
      ((number : ℕ) × IsSaid 32 (one_of (codes "partitions") rows) (Some number) × ((number < 1) ⊎ (1024 < number)))
      ⊎ ((number : ℕ) × IsSaid 32 (one_of (codes "senders") rows) (Some number) × ((number < 1) ⊎ (64 < number)))
      ⊎ ((word : Text) × (first_of (codes "broker") rows ≡ Some word) × ((address : SocketAddr) → ¬ NamesBroker word address))
      ⊎ IsSaid 64 (one_of (codes "flush-every") rows) (Some 0)

  pub record AsksForRun (wanted : Wanted) : Type 0 where
    pub file : first_of (codes "file") rows ≡ Some wanted.file.now
    pub options : AsksFor wanted.options
