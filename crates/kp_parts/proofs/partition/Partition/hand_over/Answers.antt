use Rattle.std.proofs.Common.{◌≡◌, ◌∙◌, ℕ, ◌^◌, ◌<◌, List, [], ◌∷◌, ◌++◌, length, Some, None, sym, ap, arith}
use Rattle.std.specs.Prelude.{option_map, slice_get, unwrap_or}
use Rattle.std.specs.List.{last_or}
use Rattle.kp_accum.specs.declared.item.Item.{Item}
use Rattle.kp_rules.specs.HandingOver.{audited, first_sent_in}
use Rattle.kp_parts.specs.PartitionRooms.{Audit, runs_of}
use Rattle.kp_rules.specs.Records.{HandedBatch, Open, Partition}
use Rattle.kp_parts.proofs.HandingLemmas.{handed-none, handed-is, fitting_front, placed, queued-front, counts-few, room-enough, rooms-handed, audited_each}
use Rattle.kp_parts.proofs.partition.Partition.hand_over.Goals as goal

pub returns-in_default : goal.returns-in_default
returns-in_default c =
    rw (← c.self.view_is) (handed-none c.args.correlation _ c.take_front.new.self (sym c.take_front.ensures.front ∙ c.in_default.is) c.take_front.ensures.rest)

pub audit_all-requires-clause-room : goal.audit_all-requires-clause-room
audit_all-requires-clause-room c =
    let q = c.self.inside.queue in
    let b = c.in-Some.front in
    let here : slice_get q 0 ≡ Some b = sym c.take_front.ensures.front ∙ c.in-Some.is in
    let count : length c.items.result.now ≡ length b.items = ap length c.items.ensures.value in
    room-enough c.self.inside.queued c.self.inside.next_number (length c.items.result.now) c.self.inside.audit
    (omega (arith, count, queued-front q b here, c.self.invariant.queued)) c.self.invariant.audit

pub audit_all-requires-clause-counts : goal.audit_all-requires-clause-counts
audit_all-requires-clause-counts c =
    let place = placed c.args.self.now c.requires in
    let few : c.self.inside.next_number < 2 ^ 31 = omega (arith, place.number, ap (λ (t : Partition). t.next_number) c.self.view_is) in
    counts-few c.self.inside.queued c.self.inside.next_number c.self.inside.audit few c.self.invariant.audit

pub invariant_of-self-2 : goal.invariant_of-self-2
invariant_of-self-2 c =
    let q = c.self.inside.queue in
    let b = c.in-Some.front in
    let here : slice_get q 0 ≡ Some b = sym c.take_front.ensures.front ∙ c.in-Some.is in
    let count : length c.items-count.result.now ≡ length b.items = ap length c.items-count.ensures.value in
    let there : slice_get c.args.self.now.queue 0 ≡ Some b = ap (λ (t : Partition). slice_get t.queue 0) (sym c.self.view_is) ∙ here in
    let fits = fitting_front c.args.self.now.next_sequence c.args.self.now.queue b there (placed c.args.self.now c.requires).front in
    let same = c.items.ensures.value in
    let length-is : length c.items.result.now ≡ length c.items-count.result.now = ap length same ∙ sym count in
    rooms-handed q c.take_front.new.self b _ _ c.self.inside.ids.items c.self.inside.next_number c.self.inside.audit c.audit_all.new.audit c.self.inside.queued (length c.items-count.result.now)
    here c.take_front.ensures.rest c.push_reserved.ensures.capacity count (omega (arith, fits, count))
    (c.audit_all.ensures.runs ∙ ap (λ (is : List Item). option_map (λ (a : Audit). audited a.runs is) c.self.inside.audit) same)
    (rw length-is at c.audit_all.ensures.room) c.self.invariant

pub returns : goal.returns
returns c =
    let b = c.in-Some.front in
    let old = c.self.inside in
    let here : slice_get old.queue 0 ≡ Some b = sym c.take_front.ensures.front ∙ c.in-Some.is in
    let count : length c.items-count.result.now ≡ length b.items = ap length c.items-count.ensures.value in
    let audit : option_map runs_of c.audit_all.new.audit ≡ option_map (λ rs. audited rs b.items) (option_map runs_of old.audit) =
    c.audit_all.ensures.runs ∙ ap (λ (is : List Item). option_map (λ (a : Audit). audited a.runs is) old.audit) c.items.ensures.value
    ∙ audited_each b.items old.audit in
    let id = c.last_id-id.ensures ∙ ap (λ (z : List ℕ). unwrap_or (last_or None z) 0) c.deref.ensures.value in
    let opened = c.first_sent-open.ensures ∙ ap (λ (n : ℕ). let x : HandedBatch = record { number = old.next_number; id = n; sequence = old.next_sequence; items = b.items } in first_sent_in c.args.correlation x b) id in
    let opens = c.push_reserved.ensures.items ∙ ap (λ (o : Open). old.open_batches.items ++ o ∷ []) opened in
    rw (← c.self.view_is) (handed-is c.args.correlation _ b c.take_front.new.self c.push_reserved.new.self.items (length c.items-count.result.now) (option_map runs_of c.audit_all.new.audit)
    here c.take_front.ensures.rest opens count audit)

pub push_reserved-requires : goal.push_reserved-requires
push_reserved-requires c =
    let opens = ap (λ (t : Partition). length t.open_batches) c.self.view_is in
    omega (arith, opens, (placed c.args.self.now c.requires).place, c.self.invariant.open_room)

pub overflow_add-self : goal.overflow_add-self
overflow_add-self c =
    let number = ap (λ (t : Partition). t.next_number) c.self.view_is in
    omega (arith, number, (placed c.args.self.now c.requires).number)

pub overflow_add-self-2 : goal.overflow_add-self-2
overflow_add-self-2 c =
    let b = c.in-Some.front in
    let here : slice_get c.self.inside.queue 0 ≡ Some b = sym c.take_front.ensures.front ∙ c.in-Some.is in
    let there : slice_get c.args.self.now.queue 0 ≡ Some b = ap (λ (t : Partition). slice_get t.queue 0) (sym c.self.view_is) ∙ here in
    let count : length c.items-count.result.now ≡ length b.items = ap length c.items-count.ensures.value in
    let sequence = ap (λ (t : Partition). t.next_sequence) c.self.view_is in
    omega (arith, sequence, count, fitting_front c.args.self.now.next_sequence c.args.self.now.queue b there (placed c.args.self.now c.requires).front)

pub overflow_add-self-3 : goal.overflow_add-self-3
overflow_add-self-3 c =
    let attempts = ap (λ (t : Partition). t.attempts_sent) c.self.view_is in
    omega (arith, attempts, (placed c.args.self.now c.requires).attempts)
