use Rattle.std.proofs.Common.{◌≡◌, ◌∙◌, ap, arith, codes, map, Some}
use Rattle.std.proofs.lemmas.Option.{none-some, same_Some}
use Rattle.std.proofs.lemmas.Result.{err_from_is_err_and}
use Rattle.clap.specs.Words.{is_simple}
use Rattle.kp_command_line.proofs.CommandLineLemmas.{is_simple_app, name_found, not_both, pack_found, replay_found, rows_asked, rows_found, rows_sent, taken_asked, taken_sent, words_asked}
use Rattle.kp_command_line.proofs.command_line.command_of.Goals as goal

pub returns-in_err-matches : goal.returns-in_err-matches
returns-in_err-matches g c =
    let words = map g.S.AsStr.text c.args.words.now in
    let left = err_from_is_err_and c.from_residual-in_err-matches.result c.from_residual-in_err-matches.ensures.1 in
    record {
      input = λ asked. rw (left.1, left.2) (c.in_err-matches.ensures.passes (taken_asked (codes "pack") _ words pack_found c.in_ok-program.ensures asked));
      schedule = λ asked. rw (left.1, left.2) (c.in_err-matches.ensures.passes (taken_asked (codes "replay") _ words replay_found c.in_ok-program.ensures asked));
      send = λ rows asked. rw (left.1, left.2) (c.in_err-matches.ensures.passes (taken_sent _ words rows c.in_ok-program.ensures asked));
    }

pub returns-in-Some : goal.returns-in-Some
returns-in-Some g c =
    let words = map g.S.AsStr.text c.args.words.now in
    let at = c.in_ok-matches.ensures.matches (ap is_simple c.in_ok-program.ensures ∙ is_simple_app) in
    record {
      input = λ asked.
          let program = (words_asked (codes "pack") words asked).0 in
          let matched = at.1 ∙ rows_asked (codes "pack") _ words pack_found c.in_ok-program.ensures asked in
          let file : Some c.in-Some.file.now ≡ Some (codes "-") = c.in-Some.ensures.file (rows_found (codes "pack") program) matched ∙ (pack_found program).file in
          same_Some _ _ file;
      schedule = λ asked.
          let program = (words_asked (codes "replay") words asked).0 in
          let matched = at.1 ∙ rows_asked (codes "replay") _ words replay_found c.in_ok-program.ensures asked in
          absurd (not_both _ (codes "pack") (codes "replay") (λ e. omega (arith, e)) c.in-Some.ensures.its (name_found c.in_ok-matches.matches (codes "replay") (rows_found (codes "replay") program) matched));
      send = λ rows asked.
          let matched = rows_sent c.in_ok-matches.matches _ words rows c.in_ok-program.ensures asked at.1 in
          absurd (not_both _ (codes "pack") (codes "send") (λ e. omega (arith, e)) c.in-Some.ensures.its (name_found c.in_ok-matches.matches (codes "send") rows matched));
    }

pub returns-in-Some-file_of : goal.returns-in-Some-file_of
returns-in-Some-file_of g c =
    let words = map g.S.AsStr.text c.args.words.now in
    let at = c.in_ok-matches.ensures.matches (ap is_simple c.in_ok-program.ensures ∙ is_simple_app) in
    record {
      input = λ asked.
          let program = (words_asked (codes "pack") words asked).0 in
          let matched = at.1 ∙ rows_asked (codes "pack") _ words pack_found c.in_ok-program.ensures asked in
          absurd (not_both _ (codes "pack") (codes "replay") (λ e. omega (arith, e)) (name_found c.in_ok-matches.matches (codes "pack") (rows_found (codes "pack") program) matched) c.in-Some-file_of.ensures.its);
      schedule = λ asked.
          let program = (words_asked (codes "replay") words asked).0 in
          let matched = at.1 ∙ rows_asked (codes "replay") _ words replay_found c.in_ok-program.ensures asked in
          let file : Some c.in-Some-file_of.file.now ≡ Some (codes "-") = c.in-Some-file_of.ensures.file (rows_found (codes "replay") program) matched ∙ (replay_found program).file in
          same_Some _ _ file;
      send = λ rows asked.
          let matched = rows_sent c.in_ok-matches.matches _ words rows c.in_ok-program.ensures asked at.1 in
          absurd (not_both _ (codes "replay") (codes "send") (λ e. omega (arith, e)) c.in-Some-file_of.ensures.its (name_found c.in_ok-matches.matches (codes "send") rows matched));
    }

pub returns : goal.returns
returns g c =
    let words = map g.S.AsStr.text c.args.words.now in
    let at = c.in_ok-matches.ensures.matches (ap is_simple c.in_ok-program.ensures ∙ is_simple_app) in
    record {
      input = λ asked.
          let program = (words_asked (codes "pack") words asked).0 in
          let matched = at.1 ∙ rows_asked (codes "pack") _ words pack_found c.in_ok-program.ensures asked in
          let file = c.in_default.ensures.file (rows_found (codes "pack") program) matched ∙ (pack_found program).file in
          absurd (none-some _ file);
      schedule = λ asked.
          let program = (words_asked (codes "replay") words asked).0 in
          let matched = at.1 ∙ rows_asked (codes "replay") _ words replay_found c.in_ok-program.ensures asked in
          let file = c.in-None.ensures.file (rows_found (codes "replay") program) matched ∙ (replay_found program).file in
          absurd (none-some _ file);
      send = λ rows asked. c.sent_or_run.ensures rows (rows_sent c.in_ok-matches.matches _ words rows c.in_ok-program.ensures asked at.1);
    }
