use Rattle.std.proofs.Common.{◌≡◌, ◌∙◌, length, sym, arith, rules}
use Rattle.kp_accum.proofs.QueueLemmas.{allowed, size_of-is, joins_within, size_within, joins_not_above, joins_not_many}
use Rattle.kp_accum.proofs.pending.Pending.size_with.Goals as goal

pub returns-then-len-config-clause-joins : goal.returns-then-len-config-clause-joins
returns-then-len-config-clause-joins c =
    let len : c.len.result ≡ length c.args.self.now.items = search rules in
    sym (joins_not_many c.args.config.now c.args.item.now c.args.self.now (omega (arith, len, c.if-len-config.true)))

pub size_with-size-requires-clause-is_theirs : goal.size_with-size-requires-clause-is_theirs
size_with-size-requires-clause-is_theirs c = rw c.as_slice.ensures.value (c.self.invariant.size_is ∙ size_of-is c.self.inside.items.items)

pub returns-then-size-config-clause-joins : goal.returns-then-size-config-clause-joins
returns-then-size-config-clause-joins c =
    let len : c.len.result ≡ length c.args.self.now.items = search rules in
    let same : c.as_slice.result.now ≡ c.args.self.now.items = search rules in
    let told = rw same at c.size_with-size.ensures in
    sym (joins_within c.args.config.now c.args.item.now c.args.self.now c.size_with-size.result (allowed c.args.config.now c.requires) told (omega (arith, len, c.if-len-config.false)) c.if-size-config.true)

pub returns-then-size-config-clause-size : goal.returns-then-size-config-clause-size
returns-then-size-config-clause-size c =
    let same : c.as_slice.result.now ≡ c.args.self.now.items = search rules in
    let told = rw same at c.size_with-size.ensures in
    (size_within c.args.config.now c.args.item.now c.args.self.now c.size_with-size.result (allowed c.args.config.now c.requires) told c.if-size-config.true, omega (arith, (allowed c.args.config.now c.requires).batch, c.if-size-config.true))

pub returns-else-size-config-clause-joins : goal.returns-else-size-config-clause-joins
returns-else-size-config-clause-joins c =
    let same : c.as_slice.result.now ≡ c.args.self.now.items = search rules in
    let told = rw same at c.size_with-size.ensures in
    sym (joins_not_above c.args.config.now c.args.item.now c.args.self.now c.size_with-size.result (allowed c.args.config.now c.requires) told c.if-size-config.false)
