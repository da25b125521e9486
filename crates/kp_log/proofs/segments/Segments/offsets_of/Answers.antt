use Rattle.std.proofs.Common.{◌≡◌, ◌+◌, ◌≤◌, ◌++◌, ◌∙◌, get_or, ap, sym, subst, arith, take, length, List, rules}
use Rattle.std.proofs.lemmas.List.{take_all}
use Rattle.kp_log.specs.declared.segments.Segment.{Segment}
use Rattle.kp_log.specs.declared.stored.Stored.{Stored}
use Rattle.kp_log.specs.History.{own_offsets}
use Rattle.kp_log.specs.Segments.{records_of, own_from, Held, AreFullFrom}
use Rattle.kp_log.proofs.SegmentLemmas.{ends_within, own_from-more, own_from-append, own_offsets_are}
use Rattle.kp_log.proofs.segments.Segments.offsets_of.Goals as goal

pub push_own-requires : goal.push_own-requires
push_own-requires c =
    let full = c.self.inside.full.items in
    let i = c.loop-segment.segment-index in
    let item : c.segment-item.result ≡ get_or full i c.segment-item.result = search rules in
    let ends : (get_or full i c.segment-item.result).first + length (get_or full i c.segment-item.result).records.items ≤ 0 + length (records_of full) = ends_within full 0 c.self.invariant.before i c.segment-item.result (search rules) in
    let ended : c.segment-item.result.first + length c.segment-item.result.records.items ≤ 0 + length (records_of full) = rw (← item) at ends in
    omega (arith, c.self.invariant.in_length, ap length c.deref.ensures.value)

pub loop-segment-preserved : goal.loop-segment-preserved
loop-segment-preserved c =
    let full = c.deref-segment-items.result.now in
    let i = c.loop-segment.segment-index in
    let ids = c.args.ids.now in
    let before : AreFullFrom 0 full = subst (AreFullFrom 0) (sym c.deref-segment-items.ensures.value) c.self.invariant.before in
    let more = own_from-more full before ids i c.segment-item.result c.loop-segment-test.true in
    let inside : c.deref.result.now ≡ c.segment-item.result.records.items = c.deref.ensures.value in
    c.in_ok-push_own.ensures
    ∙ ap (λ (z : List Stored). c.loop-segment.offsets.items ++ own_from c.segment-item.result.first ids z) inside
    ∙ ap (λ (s : Segment). c.loop-segment.offsets.items ++ own_from s.first ids s.records.items) c.segment-item.is
    ∙ ap (λ z. z ++ own_from (get_or full i c.segment-item.result).first ids (get_or full i c.segment-item.result).records.items) c.loop-segment.invariant
    ∙ sym more

pub returns : goal.returns
returns c =
    let full = c.self.inside.full.items in
    let last = c.self.inside.last.items in
    let ids = c.args.ids.now in
    let whole : take c.loop-segment.segment-index c.deref-segment-items.result.now ≡ full = take_all c.loop-segment.segment-index c.deref-segment-items.result.now c.loop-segment-test.false ∙ c.deref-segment-items.ensures.value in
    let done : c.loop-segment.offsets.items ≡ own_from 0 ids (records_of full) = c.loop-segment.invariant ∙ ap (λ (z : List Segment). own_from 0 ids (records_of z)) whole in
    let inside : c.deref-2.result.now ≡ last = c.deref-2.ensures.value in
    let begins : c.self.inside.first ≡ 0 + length (records_of full) = omega (arith, c.self.invariant.offset) in
    c.in_ok-push_own-2.ensures
    ∙ ap (λ (z : List Stored). c.loop-segment.offsets.items ++ own_from c.self.inside.first ids z) inside
    ∙ ap (λ z. z ++ own_from c.self.inside.first ids last) done
    ∙ ap (λ n. own_from 0 ids (records_of full) ++ own_from n ids last) begins
    ∙ sym (own_from-append 0 ids (records_of full) last)
    ∙ sym (own_offsets_are ids (records_of full ++ last))
    ∙ ap (λ (h : Held). own_offsets ids h.records) c.self.view_is
