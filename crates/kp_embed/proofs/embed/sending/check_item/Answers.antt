use Rattle.std.proofs.Common.{sym, ◌∙◌}
use Rattle.std.proofs.lemmas.Bool.{leb-true}
use Rattle.kp_embed.proofs.SendLemmas.{full_told, has_room_for}
use Rattle.kp_embed.proofs.embed.sending.check_item.Goals as goal

pub returns-then-not-has_room-clause-when : goal.returns-then-not-has_room-clause-when
returns-then-not-has_room-clause-when c few =
    full_told c.args.item.now c.args.core.now c.args.charge c.requires few (sym c.has_room.ensures.exact ∙ c.if-not-has_room.true)

pub returns-clause-room : goal.returns-clause-room
returns-clause-room c =
    let may = sym c.may_append_charged.ensures ∙ c.if-not-may_append_charged.false in
    let le = leb-true _ _ (sym c.has_room.ensures.exact ∙ c.if-not-has_room.false) in
    has_room_for c.args.item.now c.args.core.now c.args.charge may c.requires c.if-not-has_room.ensures.within le
