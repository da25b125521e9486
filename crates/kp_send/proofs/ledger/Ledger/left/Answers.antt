use Rattle.std.proofs.Common.{map, arith}
use Rattle.std.proofs.lemmas.Fn.{always_returns_same}
use Rattle.std.proofs.Common.{rules}
use Rattle.kp_send.specs.declared.told.Told.{Told}
use Rattle.kp_send.specs.Ledger.{left_with}
use Rattle.kp_send.proofs.LedgerLemmas.{fewer, left_all, left_more}
use Rattle.kp_send.proofs.ledger.Ledger.left.Goals as goal

pub push_reserved-requires : goal.push_reserved-requires
push_reserved-requires c =
    let one = fewer c.loop-told.self.waiting c.next_left.new.self.waiting c.in-Some.ensures.0 c.in-Some.ensures.2 in
    omega (arith, one, c.loop-told.invariant.room)

pub loop-told-smaller : goal.loop-told-smaller
loop-told-smaller c =
    let one = fewer c.loop-told.self.waiting c.next_left.new.self.waiting c.in-Some.ensures.0 c.in-Some.ensures.2 in
    omega (arith, one)

pub loop-told-preserved : goal.loop-told-preserved
loop-told-preserved c =
    let one = fewer c.loop-told.self.waiting c.next_left.new.self.waiting c.in-Some.ensures.0 c.in-Some.ensures.2 in
    record {
      room = omega (arith, one, c.loop-told.invariant.room, c.push_reserved.ensures.len, c.push_reserved.ensures.capacity);
      all = rw c.push_reserved.ensures.items
          (left_more c.args.outcome (map (left_with c.args.outcome) c.args.self.now.waiting) c.loop-told.left.items c.loop-told.self.waiting
          c.next_left.new.self.waiting c.in-Some.ensures.0 c.in-Some.told c.loop-told.invariant.all c.in-Some.ensures.1 c.in-Some.ensures.2);
    }

pub returns-clause-all : goal.returns-clause-all
returns-clause-all c =
    left_all c.args.outcome (map (left_with c.args.outcome) c.args.self.now.waiting) c.loop-told.left.items c.sort_unstable_by_key.new.self.items
    c.loop-told.self.waiting c.loop-told.invariant.all c.in_default.ensures.0 c.sort_unstable_by_key.ensures.permutation

pub returns-clause-in_order : goal.returns-clause-in_order
returns-clause-in_order c =
    c.sort_unstable_by_key.ensures.sorted (λ (told : Told). told.line)
    (always_returns_same _ _ _ (λ a r f called. search rules))
