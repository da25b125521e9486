use Rattle.std.proofs.Common.{◌≡◌, ℕ, ◌+◌, ◌<◌, [], ◌∷◌, ◌++◌, length, take, subst, ap, ◌∙◌, arith}
use Rattle.std.specs.Prelude.{pos, get_or, slice_set}
use Rattle.kp_c.proofs.ReportLemmas.{begins, goes_on, longer, within_all}
use Rattle.kp_c.specs.Values.{reports_in}
use Rattle.kp_c.specs.declared.values.KpReportRun.{KpReportRun}
use Rattle.kp_c.proofs.ending.add.Goals as goal

abbrev empty : KpReportRun
empty = record { number = 0; detail = pos 0; count = 0; partition = 0; outcome = 0 }

pub overflow_add-room : goal.overflow_add-room
overflow_add-room c =
    let room = c.args.room.now in
    let last = c.in-Some.last in
    let is = c.in-Some.ensures in
    let here : last < length room = omega (arith, c.requires.place) in
    let on : last + 1 ≡ c.args.count = omega arith in
    let own = within_all room last empty here in
    let all = ap (λ (n : ℕ). length (reports_in (take n room))) on in
    record { fits = omega (arith, own, all, c.requires.few) }

pub returns-then-goes_on_with-clause-added : goal.returns-then-goes_on_with-clause-added
returns-then-goes_on_with-clause-added c =
    let room = c.args.room.now in
    let last = c.in-Some.last in
    let is = c.in-Some.ensures in
    let here : last < length room = omega (arith, c.requires.place) in
    let on : last + 1 ≡ c.args.count = omega arith in
    subst (λ (n : ℕ). reports_in (take n (slice_set room last (longer (get_or room last empty)))) ≡ reports_in (take n room) ++ c.args.report ∷ []) on
    (goes_on room last empty c.args.report here (c.goes_on_with.ensures c.if-goes_on_with.true))

pub returns-clause-added : goal.returns-clause-added
returns-clause-added c =
    ap (λ (run : KpReportRun). reports_in (take (c.args.count + 1) (slice_set c.args.room.now c.args.count run))) c.of.ensures
    ∙ begins c.args.room.now c.args.count c.args.report c.requires.place
