use Rattle.std.proofs.Common.{rules, map, ◌≡◌, ◌+◌, ◌-◌, ◌∷◌, [], length, length-append, sym, ap, ◌∙◌, subst, refl, arith}
use Rattle.std.specs.Prelude.{All}
use Rattle.std.specs.Arc.{arc_value}
use Rattle.std.proofs.lemmas.List.{length-map}
use Rattle.std.proofs.lemmas.List.Elements.{All-push}
use Rattle.std.specs.declared.alloc.Global.{Global}
use Rattle.std.specs.declared.vec.Vec.{Vec}
use Rattle.kp_lanes.specs.declared.intake.port.Port.{Port}
use Rattle.kp_lanes.specs.Gate.{keeper, less_room}
use Rattle.kp_lanes.specs.Tokens.{gate_id}
use Rattle.kp_lanes.specs.Sender.{sender_id, sender_number, IsFresh}
use Rattle.kp_lanes.specs.Port.{port_id, passed, told, asked_at, room}
use Rattle.kp_lanes.specs.Intake.{IsEmpty, numbers_below, lanes_of}
use Rattle.kp_lanes.proofs.EachLemmas.{map_push, numbers_more, all_map, senders_of}
use Rattle.kp_lanes.proofs.opening.open_all.Goals as goal

pub loop-number-preserved : goal.loop-number-preserved
loop-number-preserved c =
    let inv = c.loop-number.invariant in let made = c.in_ok-sender.ensures in let n = c.loop-number.number in
    let ends = c.in_ok-push.ensures in let ports = c.in_ok-push-2.ensures in let count = inv.count in let less : 64 - n - 1 ≡ 64 - (n + 1) = omega arith in record {
      here = made.seat.0 ∙ inv.here;
      view_is = made.seat.1 ∙ (ap (less_room 1) inv.view_is ∙ ap keeper less);
      count = ap length ends ∙ (length-append c.loop-number.ends.items (c.in_ok-sender.sender ∷ []) ∙ omega arith);
      numbers = map_push sender_number c.loop-number.ends.items c.push.new.all.items c.in_ok-sender.sender (numbers_below n) n ends inv.numbers made.number ∙ sym (numbers_more n);
      meet = map_push sender_id c.loop-number.ends.items c.push.new.all.items c.in_ok-sender.sender _ _ ends inv.meet made.meet
          ∙ sym (map_push (port_id (record { gate = gate_id (arc_value c.in_ok-gate-2.gate); limits = c.args.limits })) c.loop-number.ports.items c.push-in-loop-number.new.all.items c.in_ok-sender.port _ _ ports refl refl);
      fresh = subst (All (IsFresh c.args.capacity c.args.limits)) (sym ends) (All-push (IsFresh c.args.capacity c.args.limits) _ _ inv.fresh made.fresh.0);
      empty = subst (All (IsEmpty c.args.capacity)) (sym ports) (All-push (IsEmpty c.args.capacity) _ _ inv.empty made.fresh.1);
    }

pub returns-clause-empty : goal.returns-clause-empty
returns-clause-empty c =
    let each : All (IsEmpty c.args.capacity) c.new-intake.result.ports.items = subst (λ (v : Vec Port Global). All (IsEmpty c.args.capacity) v.items) (sym c.new-intake.ensures.3) c.loop-number.invariant.empty in (
      all_map (IsEmpty c.args.capacity) (λ l. l ≡ []) passed c.new-intake.result.ports.items (λ p e. e.nothing_passed) each,
      all_map (IsEmpty c.args.capacity) (λ l. l ≡ []) told c.new-intake.result.ports.items (λ p e. e.nothing_told) each,
      all_map (IsEmpty c.args.capacity) (λ n. n ≡ 0) asked_at c.new-intake.result.ports.items (λ p e. e.never_asked) each,
    )

pub returns-clause-lanes : goal.returns-clause-lanes
returns-clause-lanes c =
    let meet : map sender_id c.loop-number.ends.items ≡ lanes_of c.new-intake.result = search rules in let count : length c.loop-number.ends.items ≡ c.args.senders = search rules in
    ap length (sym meet) ∙ (length-map c.loop-number.ends.items sender_id ∙ count)

pub returns-clause-of : goal.returns-clause-of
returns-clause-of c =
    let inv = c.loop-number.invariant in let meet : map sender_id c.loop-number.ends.items ≡ lanes_of c.new-intake.result = search rules in
    senders_of (lanes_of c.new-intake.result) c.loop-number.ends.items (inv.numbers ∙ ap numbers_below (sym inv.count)) meet

pub returns-clause-rooms : goal.returns-clause-rooms
returns-clause-rooms c =
    let each : All (IsEmpty c.args.capacity) c.new-intake.result.ports.items = subst (λ (v : Vec Port Global). All (IsEmpty c.args.capacity) v.items) (sym c.new-intake.ensures.3) c.loop-number.invariant.empty in
    all_map (IsEmpty c.args.capacity) (λ n. n ≡ c.args.capacity) room c.new-intake.result.ports.items (λ p e. e.all_free) each
