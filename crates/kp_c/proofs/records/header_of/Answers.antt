use Rattle.std.proofs.Common.{◌≡◌, ℕ, List, take, ap, ◌∙◌}
use Rattle.kp_c.specs.Records.{given, value_len}
use Rattle.kp_c.proofs.HeaderLemmas.{header_is}
use Rattle.kp_c.proofs.records.header_of.Goals.{then-span, else-span}
use Rattle.kp_c.proofs.records.header_of.Goals as goal

pub returns-clause-header : goal.returns-clause-header
returns-clause-header c =
    let s = c.args.span.now in
    let bytes = c.args.bytes.now in
    let long : c.if-span.value_len ≡ value_len s = elim c.if-span.branch [ then-span w ↦ cc | else-span w ↦ cc ] in
    header_is s bytes c.in-Ok-from_str.key c.in-Ok-bytes_or_null.value
    (c.in-Ok-from_str.ensures ∙ c.in-Ok.ensures.cases.0 ∙ c.in-Some.ensures.0)
    (c.in-Ok-bytes_or_null.ensures ∙ ap (λ (v : List ℕ). given s.has_value v)
    (c.in-Some-front_of.ensures.0 ∙ ap (λ (n : ℕ). take n c.in-Some.rest.now) long ∙ ap (λ (rest : List ℕ). take (value_len s) rest) c.in-Some.ensures.1))
