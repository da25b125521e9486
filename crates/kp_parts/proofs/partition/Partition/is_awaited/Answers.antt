use Rattle.std.proofs.Common.{◌≡◌, ◌∙◌, Bool, true, false, List, sym, ap, arith}
use Rattle.std.specs.Prelude.{nat_lt, ◌||◌}
use Rattle.std.specs.List.{list_any}
use Rattle.std.proofs.lemmas.Bool.Decides.{nat_tests}
use Rattle.kp_accum.specs.Queue.{marked_in}
use Rattle.kp_rules.specs.Records.{Open, Partition}
use Rattle.kp_parts.proofs.PartitionRoomLemmas.{has_marks-is}
use Rattle.kp_parts.proofs.partition.Partition.is_awaited.Goals as goal

pub returns-then-marked-gt0 : goal.returns-then-marked-gt0
returns-then-marked-gt0 c =
    let t = c.args.self.now in
    let some : nat_lt 0 c.marked.result ≡ true = grind (arith, nat_tests) in
    let is : nat_lt 0 (marked_in t.queue) ≡ true =
    ap (λ (t : Partition). nat_lt 0 (marked_in t.queue)) (sym c.self.view_is) ∙ ap (nat_lt 0) (sym c.marked.ensures) ∙ some in
    some ∙ sym (has_marks-is t ∙ ap (λ (z : Bool). z || list_any (λ o. o.marked) t.open_batches) is)

pub returns-else-marked-gt0 : goal.returns-else-marked-gt0
returns-else-marked-gt0 c =
    let t = c.args.self.now in
    let none : nat_lt 0 c.marked.result ≡ false = grind (arith, nat_tests) in
    let is : nat_lt 0 (marked_in t.queue) ≡ false =
    ap (λ (t : Partition). nat_lt 0 (marked_in t.queue)) (sym c.self.view_is) ∙ ap (nat_lt 0) (sym c.marked.ensures) ∙ none in
    c.any_marked.ensures
    ∙ ap (λ (z : List Open). list_any (λ o. o.marked) z) (c.deref.ensures.value ∙ ap (λ (t : Partition). t.open_batches) c.self.view_is)
    ∙ sym (has_marks-is t ∙ ap (λ (z : Bool). z || list_any (λ o. o.marked) t.open_batches) is)
