use Rattle.std.proofs.Common.{◌<◌, false, true, [], ◌∷◌, ◌++◌, length, ap, ◌∙◌}
use Rattle.std.specs.Prelude.{nat_lt}
use Rattle.std.proofs.lemmas.Bool.{and_parts, ltb-true}
use Rattle.std.proofs.lemmas.List.{get_or_read}
use Rattle.kp_world.specs.Line as line
use Rattle.kp_replay.specs.Shown.{Seen}
use Rattle.kp_replay.specs.contracts.world.World.{the_view}
use Rattle.kp_replay.proofs.AcceptingLemmas.{accepting-returns, closed-returns, item-read, large-read, large-returns, still-seen}
use Rattle.kp_replay.proofs.world.World.accept.Goals as goal

pub returns-then-self : goal.returns-then-self
returns-then-self c =
    closed-returns c.note.result c.args.sender c.args.partition c.args.value c.args.self.now (the_view c.self.inside) c.note.new.self c.self.view_is c.requires
    c.flushed-was_flushed.result c.flushed-was_flushed.ensures c.if-self.true (still-seen c.note.result (line.Closed c.args.sender c.args.partition ∷ []) c.flushed-was_flushed.result _ _ c.note.new.self c.self.view_is c.note.ensures)

pub returns-then-is_large : goal.returns-then-is_large
returns-then-is_large c =
    let inside : c.args.sender < length c.self.inside.accepted.items = ltb-true c.args.sender (length c.self.inside.accepted.items) (ap (λ (x : Seen). nat_lt c.args.sender (length x.accepted)) c.self.view_is ∙ (and_parts (nat_lt c.args.sender (length c.args.self.now.accepted)) (nat_lt c.args.partition (length c.args.self.now.logs)) c.requires).0) in
    let item = item-read c.args.sender c.args.partition c.number.result c.args.value c.record_of.result c.index.result.now (the_view c.self.inside) inside c.index.ensures c.number.ensures c.record_of.ensures in
    large-returns c.note-then-is_large.result c.args.sender c.args.partition c.args.value c.args.self.now (the_view c.self.inside) c.note-then-is_large.new.self c.self.view_is c.requires
    c.flushed-was_flushed.result c.flushed-was_flushed.ensures c.if-self.false (large-read c.is_large.result true c.config.result.now c.self.inside.core.config _ _ c.is_large.ensures c.config.ensures item c.if-is_large.true) (still-seen c.note-then-is_large.result (line.Large c.args.sender c.args.partition ∷ []) c.flushed-was_flushed.result _ _ c.note-then-is_large.new.self c.self.view_is c.note-then-is_large.ensures)

pub returns : goal.returns
returns c =
    let inside : c.args.sender < length c.self.inside.accepted.items = ltb-true c.args.sender (length c.self.inside.accepted.items) (ap (λ (x : Seen). nat_lt c.args.sender (length x.accepted)) c.self.view_is ∙ (and_parts (nat_lt c.args.sender (length c.args.self.now.accepted)) (nat_lt c.args.partition (length c.args.self.now.logs)) c.requires).0) in
    let item = item-read c.args.sender c.args.partition c.number.result c.args.value c.record_of.result c.index.result.now (the_view c.self.inside) inside c.index.ensures c.number.ensures c.record_of.ensures in
    let before = get_or_read c.self.inside.accepted.items c.args.sender c.index_mut.result.now inside c.index_mut.ensures.value [] in
    accepting-returns c.note-2.result c.args.sender c.args.partition c.args.value c.args.self.now (the_view c.self.inside) c.note-2.new.self c.self.view_is c.requires
    c.flushed-was_flushed.result c.flushed-was_flushed.ensures c.if-self.false (large-read c.is_large.result false c.config.result.now c.self.inside.core.config _ _ c.is_large.ensures c.config.ensures item c.if-is_large.false)
    c.push.new.self (c.in_ok-push.ensures ∙ (λ i. before i ++ item i ∷ [])) c.note-2.ensures
