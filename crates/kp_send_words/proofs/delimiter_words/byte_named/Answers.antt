use Rattle.std.proofs.Common.{None, Some, lit<}
use Rattle.std.proofs.lemmas.Str.Pattern.{strip_prefix_char}
use Rattle.kp_send_words.proofs.DelimiterWordsLemmas.{by_escape, no_escape}
use Rattle.kp_send_words.proofs.delimiter_words.byte_named.Goals as goal

pub returns-in-Some-strip_prefix : goal.returns-in-Some-strip_prefix
returns-in-Some-strip_prefix c =
    let begun = strip_prefix_char 92 c.args.word.now (Some c.in-Some-strip_prefix.rest) c.in-Some-strip_prefix.ensures.cases (lit< tt) in
    by_escape c.args.word.now c.in-Some-strip_prefix.rest.now c.byte_escaped.result c.in_default.ensures begun c.byte_escaped.ensures

pub returns-in-None : goal.returns-in-None
returns-in-None c =
    let none = strip_prefix_char 92 c.args.word.now None c.in-None.ensures.cases (lit< tt) in
    λ byte. no_escape c.args.word.now byte (c.in_default.ensures byte) none
