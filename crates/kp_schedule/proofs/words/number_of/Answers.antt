use Rattle.std.proofs.Common.{◌≡◌, ◌≢◌, ◌≤◌, length, get_or, arith, lit<}
use Rattle.std.proofs.lemmas.Str.Pattern.{starts_char}
use Rattle.kp_schedule.proofs.DecimalLemmas.{sign-not_decimal, leading_zero-not_decimal, parsed-decimal}
use Rattle.kp_schedule.proofs.words.number_of.Goals as goal
use Rattle.kp_schedule.proofs.words.number_of.Goals.{else-word-gt1-via-then-word-gt1+else-starts_with-2, else-word-gt1-via-else-word-gt1}

pub returns-then-starts_with : goal.returns-then-starts_with
returns-then-starts_with c =
    let sign = (starts_char 43 c.args.word.now c.starts_with.result c.starts_with.ensures.cases (lit< tt) (lit< tt)).0 c.if-starts_with.true in
    sign-not_decimal c.args.word.now sign

pub returns-then-starts_with-2 : goal.returns-then-starts_with-2
returns-then-starts_with-2 c =
    let zero = (starts_char 48 c.args.word.now c.starts_with-then-word-gt1.result c.starts_with-then-word-gt1.ensures.cases (lit< tt) (lit< tt)).0 c.if-starts_with-2.true in
    leading_zero-not_decimal c.args.word.now zero c.if-word-gt1.true

pub returns : goal.returns
returns c =
    let word = c.args.word.now in
    let sign = starts_char 43 word c.starts_with.result c.starts_with.ensures.cases (lit< tt) (lit< tt) in
    let plain : get_or word 0 0 ≢ 43 = λ is. let yes = sign.1 is in cc in
    let alone : get_or word 0 0 ≡ 48 → length word ≤ 1 = λ is.
    elim c.else-word-gt1.branch [
      | else-word-gt1-via-then-word-gt1+else-starts_with-2 w ↦
          let zero = starts_char 48 word w.starts_with-then-word-gt1.result w.starts_with-then-word-gt1.ensures.cases (lit< tt) (lit< tt) in
          let yes = zero.1 is in
          absurd cc
      | else-word-gt1-via-else-word-gt1 w ↦ omega arith
    ] in
    rw c.ok.ensures.value (parsed-decimal word c.parse.result c.parse.ensures.value.0 plain alone)
