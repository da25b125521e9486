use Rattle.std.proofs.Common.{◌≡◌, ◌∙◌, sym, ap, ◌+◌, ◌≤◌, ◌<◌, length, arith, rules}
use Rattle.std.specs.Prelude.{not}
use Rattle.kp_accum.specs.declared.fault.AppendFault.{AppendFault}
use Rattle.kp_accum.specs.declared.item.Item.{Item}
use Rattle.kp_accum.specs.Accum.{Accum, refusal}
use Rattle.kp_accum.specs.Budget.{Budget}
use Rattle.kp_accum.specs.Queue.{charge_of}
use Rattle.kp_accum.proofs.AccumLemmas.{length-with_item, sound-append, appended-is, charge-small, exhausted-is, refusal-full, refusal-memory}
use Rattle.kp_accum.proofs.accum.Accum.append.Goals as goal

pub returns-then-not-has_room-clause-refused : goal.returns-then-not-has_room-clause-refused
returns-then-not-has_room-clause-refused c =
    let item = c.args.item in
    let a = c.args.self.now in
    let told = exhausted-is a item _ _ _ _ _ _ _ _ c.self.view_is c.self.invariant c.requires.request c.charge-charge.ensures.exact c.has_room.ensures in
    ap (λ (fault : AppendFault). (fault, item)) (sym (refusal-full item a (told ∙ ap not c.if-not-has_room.true)))

pub returns-then-self-clause-refused : goal.returns-then-self-clause-refused
returns-then-self-clause-refused c =
    let item = c.args.item in
    let a = c.args.self.now in
    let told = exhausted-is a item _ _ _ _ _ _ _ _ c.self.view_is c.self.invariant c.requires.request c.charge-charge.ensures.exact c.has_room.ensures in
    ap (λ (fault : AppendFault). (fault, item)) (sym (refusal-memory item a (told ∙ ap not c.if-not-has_room.false)))

pub append-requires-clause-is_its : goal.append-requires-clause-is_its
append-requires-clause-is_its c = c.charge-charge.ensures.exact (charge-small c.args.self.now c.args.item _ _ _ _ _ _ c.self.view_is c.self.invariant c.requires.request)

pub append-requires-clause-fits : goal.append-requires-clause-fits
append-requires-clause-fits c =
    let small = charge-small c.args.self.now c.args.item _ _ _ _ _ _ c.self.view_is c.self.invariant c.requires.request in
    omega (arith, small, c.charge-charge.ensures.exact small)

pub returns-in-Err-clause-refused : goal.returns-in-Err-clause-refused
returns-in-Err-clause-refused c =
    let item = c.args.item in
    let a = c.args.self.now in
    let told = exhausted-is a item _ _ _ _ _ _ _ _ c.self.view_is c.self.invariant c.requires.request c.charge-charge.ensures.exact c.has_room.ensures in
    let back : c.unwrap.result ≡ item = search rules in
    ap (λ (fault : AppendFault). (fault, c.unwrap.result)) (sym (refusal-memory item a (told ∙ ap not c.if-not-has_room.false)))
    ∙ ap (λ (i : Item). (refusal item a, i)) back

pub overflow_sub-self : goal.overflow_sub-self
overflow_sub-self c =
    let more = length-with_item c.self.inside.config c.args.item c.index_mut-queue.result.now in
    omega (arith, c.len.ensures, c.len-batches.ensures, more.1, ap length c.in_default.ensures.ok)

pub overflow_add-self : goal.overflow_add-self
overflow_add-self c =
    let more = length-with_item c.self.inside.config c.args.item c.index_mut-queue.result.now in
    let z = c.if-self.false in
    omega (arith, c.len.ensures, c.len-batches.ensures, more.1, more.2, ap length c.in_default.ensures.ok, c.if-self.false)

pub invariant_of-self-2 : goal.invariant_of-self-2
invariant_of-self-2 c =
    let lt : c.args.item.partition < length c.self.inside.queues.items = omega (arith, c.requires.here, ap (λ (x : Accum). length x.queues) c.self.view_is) in
    let fits : charge_of c.args.item ≤ c.self.inside.config.max_request_size = omega (arith, c.requires.request, ap (λ (x : Accum). x.config.max_request_size) c.self.view_is) in
    let limit : c.take.new.self.limit ≡ c.self.inside.budget.limit = ap (λ (b : Budget). b.limit) c.take.ensures in
    rw limit (sound-append c.self.inside.config c.self.inside.queues.items _ _ _ c.args.item c.index_mut-queue.result.now c.append.new.self _ _ lt c.index_mut-queue.ensures.value c.in_default.ensures.ok fits c.len-batches.ensures c.len.ensures c.self.invariant)

pub returns-clause-ok : goal.returns-clause-ok
returns-clause-ok c =
    let lt : c.args.item.partition < length c.self.inside.queues.items = omega (arith, c.requires.here, ap (λ (x : Accum). length x.queues) c.self.view_is) in
    let one = c.charge-charge.ensures.exact (charge-small c.args.self.now c.args.item _ _ _ _ _ _ c.self.view_is c.self.invariant c.requires.request) in
    let used : c.take.new.self.used ≡ c.self.inside.budget.used + charge_of c.args.item = ap (λ (b : Budget). b.used) c.take.ensures ∙ ap (λ n. c.self.inside.budget.used + n) one in
    rw (← c.self.view_is) (appended-is c.self.inside.config c.self.inside.queues.items c.self.inside.budget.used c.args.item c.index_mut-queue.result.now c.append.new.self c.take.new.self.used lt c.index_mut-queue.ensures.value c.in_default.ensures.ok used)

pub returns-clause-room : goal.returns-clause-room
returns-clause-room c =
    let item = c.args.item in
    let a = c.args.self.now in
    let told = exhausted-is a item _ _ _ _ _ _ _ _ c.self.view_is c.self.invariant c.requires.request c.charge-charge.ensures.exact c.has_room.ensures in
    told ∙ ap not c.if-not-has_room.false
