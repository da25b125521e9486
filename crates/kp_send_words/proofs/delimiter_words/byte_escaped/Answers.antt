use Rattle.std.proofs.Common.{None, Some, lit<}
use Rattle.std.proofs.lemmas.Str.Pattern.{strip_prefix_char}
use Rattle.kp_send_words.proofs.DelimiterWordsLemmas.{by_digits, no_letter}
use Rattle.kp_send_words.proofs.delimiter_words.byte_escaped.Goals as goal

pub returns-in-Some : goal.returns-in-Some
returns-in-Some c =
    let begun = strip_prefix_char 120 c.args.rest.now (Some c.in-Some.digits) c.in-Some.ensures.cases (lit< tt) in
    by_digits c.args.rest.now c.in-Some.digits.now c.byte_written.result begun c.byte_written.ensures

pub returns-in-None : goal.returns-in-None
returns-in-None c =
    let none = strip_prefix_char 120 c.args.rest.now None c.in-None.ensures.cases (lit< tt) in
    λ byte. no_letter c.args.rest.now byte c.in_default.not-n c.in_default.not-r c.in_default.not-t c.in_default.not-text none
