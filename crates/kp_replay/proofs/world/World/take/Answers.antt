use Rattle.std.proofs.Common.{◌<◌, [], ◌∷◌, length, None, Some, sym, ap, ◌∙◌, arith}
use Rattle.std.specs.Prelude.{nat_lt}
use Rattle.std.proofs.lemmas.Bool.{ltb-true}
use Rattle.std.proofs.lemmas.List.{get_or_read}
use Rattle.kp_rules.specs.Appending.{append_step}
use Rattle.kp_world.specs.Line as line
use Rattle.kp_replay.specs.Shown.{Seen}
use Rattle.kp_replay.specs.contracts.world.World.{the_view}
use Rattle.kp_replay.proofs.AcceptingLemmas.{full-returns, is-full, next-read, none-returns, still-seen, taken-returns}
use Rattle.kp_replay.proofs.ShownLemmas.{more-taken, within}
use Rattle.kp_replay.proofs.TellingLemmas.{tells-append}
use Rattle.kp_replay.proofs.world.World.take.Goals as goal

pub returns-in_default : goal.returns-in_default
returns-in_default c =
    let inside : c.args.sender < length c.self.inside.accepted.items = ltb-true c.args.sender (length c.self.inside.accepted.items) (ap (λ (x : Seen). nat_lt c.args.sender (length x.accepted)) c.self.view_is ∙ c.requires) in
    let counted : c.args.sender < length c.self.inside.taken.items = omega (arith, inside, c.self.invariant.accepted, c.self.invariant.taken) in
    none-returns c.note.result c.args.sender c.args.self.now (the_view c.self.inside) c.note.new.self c.self.view_is c.requires c.flushed-was_flushed.result c.flushed-was_flushed.ensures
    (next-read c.args.sender c.index-2.result.now c.index.result.now None (the_view c.self.inside) inside counted c.index.ensures c.index-2.ensures c.in_default.ensures.item) (still-seen c.note.result (line.Empty c.args.sender ∷ []) c.flushed-was_flushed.result _ _ c.note.new.self c.self.view_is c.note.ensures)

pub invariant_of-self : goal.invariant_of-self
invariant_of-self c = more-taken _ _ _ (within c.self.inside.core (append_step c.in_ok-item.item c.self.inside.core) (tells-append c.in_ok-item.item c.self.inside.core) c.append.new.core c.in-Ok.ensures.1 c.self.invariant)

pub returns-in-Ok : goal.returns-in-Ok
returns-in-Ok c =
    let inside : c.args.sender < length c.self.inside.accepted.items = ltb-true c.args.sender (length c.self.inside.accepted.items) (ap (λ (x : Seen). nat_lt c.args.sender (length x.accepted)) c.self.view_is ∙ c.requires) in
    let counted : c.args.sender < length c.self.inside.taken.items = omega (arith, inside, c.self.invariant.accepted, c.self.invariant.taken) in
    taken-returns c.note-in-Ok.result c.args.sender c.args.self.now (the_view c.self.inside) c.note-in-Ok.new.self c.self.view_is c.requires c.flushed-was_flushed.result c.flushed-was_flushed.ensures
    c.in_ok-item.item (next-read c.args.sender c.index-2.result.now c.index.result.now (Some c.in-Some.item.now) (the_view c.self.inside) inside counted c.index.ensures c.index-2.ensures c.in-Some.ensures.item ∙ ap (λ i. Some i) (sym c.in_ok-item.ensures))
    c.append.new.core c.in-Ok.ensures c.index_mut.result.now (get_or_read c.self.inside.taken.items c.args.sender c.index_mut.result.now counted c.index_mut.ensures.value 0) c.note-in-Ok.ensures

pub invariant_of-self-in-Err-BufferFull-default : goal.invariant_of-self-in-Err-BufferFull-default
invariant_of-self-in-Err-BufferFull-default c = within c.self.inside.core (append_step c.in_ok-item.item c.self.inside.core) (tells-append c.in_ok-item.item c.self.inside.core) c.append.new.core (is-full c.in_ok-item.item c.self.inside.core c.append.new.core c.in-Err-BufferFull-default.field-0-0 c.in-Err-BufferFull-default.field-0-0-is c.in-Err-BufferFull-default.ensures).1 c.self.invariant

pub returns-in-Err-BufferFull-default : goal.returns-in-Err-BufferFull-default
returns-in-Err-BufferFull-default c =
    let inside : c.args.sender < length c.self.inside.accepted.items = ltb-true c.args.sender (length c.self.inside.accepted.items) (ap (λ (x : Seen). nat_lt c.args.sender (length x.accepted)) c.self.view_is ∙ c.requires) in
    let counted : c.args.sender < length c.self.inside.taken.items = omega (arith, inside, c.self.invariant.accepted, c.self.invariant.taken) in
    full-returns c.note-in-Err-BufferFull-default.result c.args.sender c.args.self.now (the_view c.self.inside) c.note-in-Err-BufferFull-default.new.self c.self.view_is c.requires c.flushed-was_flushed.result c.flushed-was_flushed.ensures
    c.in_ok-item.item (next-read c.args.sender c.index-2.result.now c.index.result.now (Some c.in-Some.item.now) (the_view c.self.inside) inside counted c.index.ensures c.index-2.ensures c.in-Some.ensures.item ∙ ap (λ i. Some i) (sym c.in_ok-item.ensures))
    c.append.new.core (is-full c.in_ok-item.item c.self.inside.core c.append.new.core c.in-Err-BufferFull-default.field-0-0 c.in-Err-BufferFull-default.field-0-0-is c.in-Err-BufferFull-default.ensures) c.note-in-Err-BufferFull-default.ensures
