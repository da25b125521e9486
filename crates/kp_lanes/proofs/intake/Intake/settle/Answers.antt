use Rattle.std.proofs.Common.{◌≡◌, ◌<◌, ℕ, map, length, get_or, sym, subst, arith, rules}
use Rattle.std.proofs.lemmas.Grind.{common_steps}
use Rattle.std.proofs.lemmas.List.{length-map}
use Rattle.kp_lanes.specs.Intake.{common_of, lanes_of}
use Rattle.kp_lanes.specs.Sender.{finished_number}
use Rattle.kp_lanes.specs.Settling.{Differ, HasRooms, IsOf, numbers}
use Rattle.kp_lanes.specs.Port.{port_id}
use Rattle.kp_lanes.specs.declared.sender.Finished.{Finished}
use Rattle.kp_lanes.proofs.SettlingLemmas.{in_place_in, of_placed, moved, moved_rooms, adds, same_length, still_of}
use Rattle.kp_lanes.proofs.EachLemmas.{same_default}
use Rattle.kp_lanes.proofs.intake.Intake.settle.Goals as goal

pub rooms-requires-clause-placed : goal.rooms-requires-clause-placed
rooms-requires-clause-placed c = of_placed (common_of c.args.self) c.args.self.ports.items c.args.finished.items c.requires

pub drain_all-requires-clause-placed : goal.drain_all-requires-clause-placed
drain_all-requires-clause-placed c =
    let ps = c.args.self.ports.items in let fs = c.args.finished.items in
    moved ps c.rooms.new.ports.items fs c.rooms.new.finished.items c.rooms.ensures.ports c.rooms.ensures.finished (of_placed (common_of c.args.self) ps fs c.requires)

pub drain_all-requires-clause-rooms : goal.drain_all-requires-clause-rooms
drain_all-requires-clause-rooms c =
    let ps = c.args.self.ports.items in let fs = c.args.finished.items in
    let long : length c.rooms.new.finished.items ≡ length fs = same_length finished_number finished_number c.rooms.new.finished.items fs c.rooms.ensures.finished.numbers in
    moved_rooms ps c.rooms.new.ports.items fs c.rooms.new.finished.items c.rooms.ensures.ports c.rooms.ensures.finished c.in-Ok.settled (length c.rooms.new.finished.items)
    (subst (HasRooms ps fs c.in-Ok.settled) (sym long) c.in-Ok.ensures.rooms)

pub returns-in-Ok-clause-settled : goal.returns-in-Ok-clause-settled
returns-in-Ok-clause-settled c k d below =
    let ps = c.args.self.ports.items in let fs = c.args.finished.items in
    let long : length c.rooms.new.finished.items ≡ length fs = same_length finished_number finished_number c.rooms.new.finished.items fs c.rooms.ensures.finished.numbers in
    let both = adds ps c.rooms.new.ports.items fs c.rooms.new.finished.items c.rooms.ensures.ports c.rooms.ensures.finished c.drain_all.new.settled k (get_or fs k d) below (same_default fs k d (get_or fs k d) below)
    (c.drain_all.ensures.all k (omega arith)) in
    record { entries = both.2; items = both.0; reports = both.1 }

pub returns-in-Err-clause-again : goal.returns-in-Err-clause-again
returns-in-Err-clause-again c =
    let g = common_of c.args.self in let fs = c.args.finished.items in
    still_of (map (port_id g) c.rooms.new.ports.items) fs c.rooms.new.finished.items c.rooms.ensures.finished.numbers c.rooms.ensures.finished.ids
    (subst (λ l. (k : ℕ) (d : Finished) → k < length fs → IsOf l (get_or fs k d)) (sym (c.rooms.ensures.ports.ids g)) c.requires)

pub returns-in-Ok-clause-in_place : goal.returns-in-Ok-clause-in_place
returns-in-Ok-clause-in_place c = λ k d below. in_place_in c.args.self (get_or c.args.finished.items k d) (c.requires k d below)

pub rooms-requires-clause-differ : goal.rooms-requires-clause-differ
rooms-requires-clause-differ c = search rules

pub drain_all-requires-clause-differ : goal.drain_all-requires-clause-differ
drain_all-requires-clause-differ c = subst Differ (sym c.rooms.ensures.finished.numbers) (c.differ.ensures.0 c.if-not-differ.false)

pub returns-in-Ok-clause-all : goal.returns-in-Ok-clause-all
returns-in-Ok-clause-all c =
    let differ : Differ (numbers c.args.finished.items) = c.differ.ensures.0 c.if-not-differ.false in
    let many : length c.args.finished.items ≡ length (lanes_of c.args.self) = grind (arith, common_steps, length-map) in
    λ _. (many, differ)

pub returns-in-Err-clause-not_missing : goal.returns-in-Err-clause-not_missing
returns-in-Err-clause-not_missing c =
    let differ : Differ (numbers c.args.finished.items) = c.differ.ensures.0 c.if-not-differ.false in
    let many : length c.args.finished.items ≡ length (lanes_of c.args.self) = grind (arith, common_steps, length-map) in
    λ _. (many, differ)
