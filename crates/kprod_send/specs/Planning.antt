-- What the words ask to be published.
use Rattle.std.specs.Prelude.{◌≡◌, ℕ, ◌*◌, Bool, ◌&&◌, not, List, [], ◌∷◌, ◌++◌, map, Option, Some, None}
use Rattle.std.specs.Duration.{as_nanos}
use Rattle.std.specs.declared.time.Duration.{Duration}
use Rattle.std.specs.Option.{option_map}
use Rattle.kp_batch.specs.declared.record.Header.{Header}
use Rattle.kp_bootstrap.specs.Addresses.{AreAddresses, entries_of}
use Rattle.kp_send_words.specs.declared.sending.Sending.{Sending}
use Rattle.kp_embed.specs.declared.target.Target.{Target}
use Rattle.kp_embed.specs.declared.target.Target.TheVariants.{Partition, Any}
use Rattle.kp_publish.specs.declared.threads.Plan.{Plan}
use Rattle.kp_publish.specs.declared.watch.Telling.{Telling}
use Rattle.kp_send.specs.declared.form.Form.{Form}

-- the one partition that is said, or any
abbrev pub target_of : Option ℕ → Target
target_of (Some partition) = Partition partition
target_of None = Any

pub record IsFormOf (s : Sending) (f : Form) : Type 0 where
  pub target : f.target ≡ target_of s.partition
  pub key_delimiter : f.key_delimiter ≡ option_map (λ text. text.now) s.key_delimiter
  pub null_values : f.null_values ≡ s.null_values

abbrev nanoseconds_of : Option Duration → Option ℕ
nanoseconds_of = option_map (λ d. as_nanos d)

abbrev nanoseconds_in : Option ℕ → Option ℕ
nanoseconds_in = option_map (λ seconds. seconds * 1000000000)

-- what is told of its progress, to a terminal or to none
pub record IsTellingOf (s : Sending) (is_terminal : Bool) (t : Telling) : Type 0 where
  pub moves : t.moves ≡ is_terminal && not s.quiet
  pub every : nanoseconds_of t.every ≡ nanoseconds_in s.statistics
  pub at_most : nanoseconds_of t.at_most ≡ nanoseconds_in s.give_up_after

pub record IsPlanOf (s : Sending) (is_terminal : Bool) (p : Plan) : Type 0 where
  pub topic : p.names.topic ≡ s.topic.now
  pub client : p.names.client ≡ s.client.now
  pub producer : p.config.producer ≡ s.config
  pub bootstrap : AreAddresses (entries_of s.brokers.now) p.bootstrap.items
  pub form : IsFormOf s p.form
  pub delimiter : p.delimiter ≡ s.delimiter
  pub telling : IsTellingOf s is_terminal p.telling
