use Rattle.std.proofs.Common.{◌≡◌, ◌≢◌, ◌≤◌, length, get_or, arith, lit<}
use Rattle.std.proofs.lemmas.Str.Pattern.{starts_char}
use Rattle.kp_broker.proofs.DecimalLemmas.{sign-not_decimal, leading_zero-not_decimal, parsed-decimal}
use Rattle.kp_broker.proofs.plan.entry.number_of.Goals as goal
use Rattle.kp_broker.proofs.plan.entry.number_of.Goals.{else-text-gt1-via-then-text-gt1+else-starts_with-2, else-text-gt1-via-else-text-gt1}

pub returns-then-starts_with : goal.returns-then-starts_with
returns-then-starts_with c =
    let sign = (starts_char 43 c.args.text.now c.starts_with.result c.starts_with.ensures.cases (lit< tt) (lit< tt)).0 c.if-starts_with.true in
    sign-not_decimal c.args.text.now sign

pub returns-then-starts_with-2 : goal.returns-then-starts_with-2
returns-then-starts_with-2 c =
    let zero = (starts_char 48 c.args.text.now c.starts_with-then-text-gt1.result c.starts_with-then-text-gt1.ensures.cases (lit< tt) (lit< tt)).0 c.if-starts_with-2.true in
    leading_zero-not_decimal c.args.text.now zero c.if-text-gt1.true

pub returns : goal.returns
returns c =
    let text = c.args.text.now in
    let sign = starts_char 43 text c.starts_with.result c.starts_with.ensures.cases (lit< tt) (lit< tt) in
    let plain : get_or text 0 0 ≢ 43 = λ is. let yes = sign.1 is in cc in
    let alone : get_or text 0 0 ≡ 48 → length text ≤ 1 = λ is.
    elim c.else-text-gt1.branch [
      | else-text-gt1-via-then-text-gt1+else-starts_with-2 w ↦
          let zero = starts_char 48 text w.starts_with-then-text-gt1.result w.starts_with-then-text-gt1.ensures.cases (lit< tt) (lit< tt) in
          let yes = zero.1 is in
          absurd cc
      | else-text-gt1-via-else-text-gt1 w ↦ omega arith
    ] in
    rw c.ok.ensures.value (parsed-decimal text c.parse.result c.parse.ensures.value.0 plain alone)
