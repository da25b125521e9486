use Rattle.std.proofs.Common.{◌∙◌, ap, inl, map}
use Rattle.std.proofs.lemmas.Result.{err_from_is_err_and}
use Rattle.clap.specs.Words.{is_simple}
use Rattle.kp_send_words.proofs.AskingLemmas.{is_simple_app, rows_sent, taken_sent}
use Rattle.kp_send_words.proofs.asking.sending_asked.Goals as goal

pub returns-in_err-matches : goal.returns-in_err-matches
returns-in_err-matches g c = λ rows asked.
    let words = map g.S.AsStr.text c.args.words.now in
    let left = err_from_is_err_and c.from_residual-in_err-matches.result c.from_residual-in_err-matches.ensures.1 in
    rw (left.1, left.2) (inl (c.in_err-matches.ensures.passes (taken_sent _ words rows c.in_ok-program.ensures asked)))

pub returns : goal.returns
returns g c = λ rows asked.
    let words = map g.S.AsStr.text c.args.words.now in
    let at = c.in_ok-matches.ensures.matches (ap is_simple c.in_ok-program.ensures ∙ is_simple_app) in
    c.sending_of_its.ensures rows (rows_sent c.in_ok-matches.matches _ words rows c.in_ok-program.ensures asked at.1)
