use Rattle.std.proofs.Common.{◌≡◌, ◌+◌, ◌<◌, ◌≤◌, ◌^◌, ◌∙◌, List, ◌++◌, length, Vec, Global, ap, sym, arith, rules}
use Rattle.std.proofs.lemmas.List.{length-append}
use Rattle.kp_log.specs.declared.segments.Segment.{Segment}
use Rattle.kp_log.specs.declared.stored.Stored.{Stored}
use Rattle.kp_log.specs.Segments.{FULL, records_of, lengths_of, begun, segments_with, Held}
use Rattle.kp_log.proofs.SegmentLemmas.{segments_behind, lengths_of-push, length_with, AreInPlace-push}
use Rattle.kp_log.proofs.segments.Segments.append_reserved.Goals as goal

pub invariant_of-self : goal.invariant_of-self
invariant_of-self c =
    let full = c.self.inside.full.items in
    let s : Segment = record { first = c.self.inside.first; records = c.replace-records.result } in
    let moved : c.replace-records.result ≡ c.push_all.new.records = c.replace-records.ensures.value in
    let same : length c.replace-records.result.items ≡ length c.push_all.new.records.items = ap (λ (v : Vec Stored Global). length v.items) moved in
    let len : length c.push_all.new.records.items ≡ length c.self.inside.last.items + length c.args.bodies.items = length_with c.self.inside.last.items c.push_all.new.records.items _ c.args.bodies.items c.push_all.ensures in
    let long : FULL ≤ length c.replace-records.result.items = omega arith in
    let all : length (records_of full ++ c.self.inside.last.items) ≡ length c.args.self.now.records = ap (λ (h : Held). length h.records) c.self.view_is in
    let fits : length (records_of full) + length c.replace-records.result.items < 2 ^ 64 = omega (arith, length-append (records_of full) c.self.inside.last.items) in
    let behind : c.self.inside.first + c.len-then-len-ge-FULL.result ≡ c.self.inside.first + length c.replace-records.result.items = omega arith in
    AreInPlace-push full c.self.inside.first c.self.inside.last.items s c.self.invariant (search rules) long fits _ _ _ c.push_full.ensures behind (search rules)

pub returns-then-len-ge-FULL-clause-segments : goal.returns-then-len-ge-FULL-clause-segments
returns-then-len-ge-FULL-clause-segments c =
    let full = c.self.inside.full.items in
    let s : Segment = record { first = c.self.inside.first; records = c.replace-records.result } in
    let moved : c.replace-records.result ≡ c.push_all.new.records = c.replace-records.ensures.value in
    let same : length c.replace-records.result.items ≡ length c.push_all.new.records.items = ap (λ (v : Vec Stored Global). length v.items) moved in
    let len : length c.push_all.new.records.items ≡ length c.self.inside.last.items + length c.args.bodies.items = length_with c.self.inside.last.items c.push_all.new.records.items _ c.args.bodies.items c.push_all.ensures in
    let none : length c.replace-records.new.dest.items ≡ 0 = search rules in
    rw none (
    ap (λ (segments : List Segment). lengths_of segments ++ begun 0) c.push_full.ensures
    ∙ lengths_of-push full s (length c.self.inside.last.items + length c.args.bodies.items) (same ∙ len) (omega arith)
    ∙ sym (segments_behind full c.self.invariant.before (length c.self.inside.last.items) (length c.args.bodies.items) c.self.invariant.takes_more)
    ∙ ap (λ (h : Held). segments_with (length c.args.bodies.items) h.segments) c.self.view_is)

pub returns-else-len-ge-FULL-clause-segments : goal.returns-else-len-ge-FULL-clause-segments
returns-else-len-ge-FULL-clause-segments c =
    let full = c.self.inside.full.items in
    let len : length c.push_all.new.records.items ≡ length c.self.inside.last.items + length c.args.bodies.items = length_with c.self.inside.last.items c.push_all.new.records.items _ c.args.bodies.items c.push_all.ensures in
    ap (λ n. lengths_of full ++ begun n) len
    ∙ sym (segments_behind full c.self.invariant.before (length c.self.inside.last.items) (length c.args.bodies.items) c.self.invariant.takes_more)
    ∙ ap (λ (h : Held). segments_with (length c.args.bodies.items) h.segments) c.self.view_is
