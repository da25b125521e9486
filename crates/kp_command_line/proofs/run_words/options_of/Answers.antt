use Rattle.std.proofs.Common.{codes}
use Rattle.clap.specs.Words.{found_of}
use Rattle.kp_command_line.proofs.OptionWordsLemmas.{first_or}
use Rattle.kp_command_line.proofs.run_words.options_of.Goals as goal

pub returns : goal.returns
returns c = record {
  topic = first_or (found_of c.args.matches.now) (codes "topic") c.get_str.result _ c.unwrap_or.result c.get_str.ensures c.unwrap_or.ensures;
  partitions = c.in_ok-partitions_of.ensures.said;
  senders = c.in_ok-senders_of.ensures.said;
  config = c.config_of.ensures;
  place = c.in_ok-place_of.ensures;
  keyed = c.flag_of.ensures;
  audits = c.flag_of-2.ensures;
  flush_every = c.in_ok-flush_of.ensures.said;
  totals = c.flag_of-3.ensures;
}
