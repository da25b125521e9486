use Rattle.std.proofs.Common.{Some, ap, codes, sym, ◌∙◌}
use Rattle.clap.specs.Words.{Text, found_of}
use Rattle.kp_command_line.proofs.OptionWordsLemmas.{first_none, first_some, no_text}
use Rattle.kp_send_words.proofs.send_words.key_delimiter_of.Goals as goal

pub returns-in-None-clause-said : goal.returns-in-None-clause-said
returns-in-None-clause-said c =
    sym (first_none (found_of c.args.matches.now) (codes "key-delimiter") c.get_str.result c.get_str.ensures c.in-None.is)

pub returns-then-is_empty-clause-said : goal.returns-then-is_empty-clause-said
returns-then-is_empty-clause-said c =
    first_some (found_of c.args.matches.now) (codes "key-delimiter") c.get_str.result c.in-Some.text c.get_str.ensures c.in-Some.is
    ∙ ap (λ (text : Text). Some text) (no_text c.in-Some.text.now (sym c.is_empty.ensures ∙ c.if-is_empty.true))

pub returns-else-is_empty-clause-said : goal.returns-else-is_empty-clause-said
returns-else-is_empty-clause-said c =
    sym (first_some (found_of c.args.matches.now) (codes "key-delimiter") c.get_str.result c.in-Some.text c.get_str.ensures c.in-Some.is)
