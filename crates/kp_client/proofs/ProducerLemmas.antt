-- The last of some tries to send a record.
use Rattle.std.proofs.Common.{◌≡◌, ◌≢◌, ◌∙◌, ◌++◌, ◌∷◌, [], arith, refl, subst, sym}
use Rattle.std.specs.Prelude.{ℕ, IfErr, IfOk, OnErr, OnOk, Result, Ok, Err}
use Rattle.kp_batch.specs.declared.record.Record.{Record}
use Rattle.kp_lanes.specs.Entries.{count_of}
use Rattle.kp_lanes.specs.Gate.{told_shut}
use Rattle.kp_lanes.specs.Sender.{accepted, entered, goes_to, got, sender_number, sender_view, turn, turn_after, Accepts, Refuses}
use Rattle.kp_lanes.specs.declared.fault.SendFault.{SendFault}
use Rattle.kp_lanes.specs.declared.fault.SendFault.TheVariants.{Closed, LaneFull}
use Rattle.kp_lanes.specs.declared.target.Target.{Target}
use Rattle.kp_lanes.specs.declared.target.Ticket.{Ticket}
use Rattle.kp_client.specs.Producer.{lane_of, shown_by, Answers, ClockGoesOn, HasRefused, LostNothing, SameProducer, Sends, SendsLater}
use Rattle.kp_client.specs.declared.producer.Producer.{Producer}

pub clock_stays : (producer : Producer) → ClockGoesOn producer producer
clock_stays producer = record { since = refl; never_back = omega arith }

pub clock_goes_on : (old mid new : Producer) → ClockGoesOn old mid → ClockGoesOn mid new → ClockGoesOn old new
clock_goes_on old mid new one more =
    let first = one.never_back in let then = more.never_back in record { since = more.since ∙ one.since; never_back = omega arith }

pub sends_later : (old last new : Producer) (target : Target) (body tried : Record) (answer sent : Result Ticket (SendFault × Record))
    → SameProducer old last → got (lane_of last) ≡ got (lane_of old) → ClockGoesOn old last → LostNothing old last
    → sender_view (lane_of last) ≡ sender_view (lane_of old) → tried ≡ body
    → Sends last target tried answer new → sent ≡ answer → SendsLater old target body sent new
sends_later old last new target body tried answer sent same heard clock lost_nothing unknown is sends sent_is = record {
  last = last;
  same = same;
  heard = heard;
  clock = clock;
  lost_nothing = lost_nothing;
  unknown = unknown;
  sends = subst (λ (a : Result Ticket (SendFault × Record)). Sends last target body a new) (sym sent_is)
      (subst (λ (b : Record). Sends last target b answer new) is sends);
}

full_not_closed : LaneFull ≢ Closed
full_not_closed is = cc

-- What the sender itself answers, at the moment that the clock shows.
pub answered_by : (old new : Producer) (target : Target) (body : Record) (at : ℕ) (answer : Result Ticket (SendFault × Record)) → at ≡ shown_by new
    → IfOk answer (λ t. Accepts (lane_of old) t.partition body)
    → IfOk answer (λ t. t.partition ≡ goes_to (lane_of old) target body)
    → IfOk answer (λ t. t.number ≡ count_of t.partition (accepted (lane_of old)))
    → IfOk answer (λ t. accepted (lane_of new) ≡ accepted (lane_of old)
    ++ record { sender = sender_number (lane_of old); partition = t.partition; number = t.number; at = at; body = body } ∷ [])
    → OnOk answer (turn (lane_of new) ≡ turn_after (lane_of old) target body)
    → IfErr answer (λ e. e.1 ≡ body)
    → OnErr answer ((entered (lane_of new) ≡ entered (lane_of old)) × (turn (lane_of new) ≡ turn (lane_of old)))
    → IfErr answer (λ e. e.0 ≢ Closed → Refuses (lane_of old) (goes_to (lane_of old) target body) body e.0)
    → OnOk answer (sender_view (lane_of new) ≡ sender_view (lane_of old))
    → IfErr answer (λ e. e.0 ≢ Closed → sender_view (lane_of new) ≡ sender_view (lane_of old))
    → IfErr answer (λ e. e.0 ≡ Closed → sender_view (lane_of new) ≡ told_shut (sender_view (lane_of old)))
    → Answers old target body answer new
answered_by old new target body at (Ok ticket) shown may partition number last turns same lost why unknown other closed = record {
  partition = partition;
  may = may;
  number = number;
  last = subst (λ (n : ℕ). accepted (lane_of new) ≡ accepted (lane_of old)
      ++ record { sender = sender_number (lane_of old); partition = ticket.partition; number = ticket.number; at = n; body = body } ∷ []) shown last;
  turns = turns;
  unknown = unknown;
}
answered_by old new target body at (Err refused) shown may partition number last turns same lost why unknown other closed = record {
  same = same;
  lost_nothing = record { entries = lost.0; turns = lost.1 };
  why = why;
  unknown = other;
  closed = closed;
}

-- Tries after one that met a full lane.
pub tries_on : (old mid new : Producer) (target : Target) (body back : Record) (fault : SendFault) (first sent : Result Ticket (SendFault × Record))
    → fault ≡ LaneFull → Sends old target body first mid → first ≡ Err (fault, back) → SendsLater mid target back sent new → SendsLater old target body sent new
tries_on old mid new target body back fault first sent full one is later =
    let refused : HasRefused old target body fault back mid = subst (λ (a : Result Ticket (SendFault × Record)). Answers old target body a mid) is one.answers in record {
      last = later.last;
      same = record {
        number = later.same.number ∙ one.same.number;
        id = later.same.id ∙ one.same.id;
        limits = later.same.limits ∙ one.same.limits;
      };
      heard = later.heard ∙ one.heard;
      clock = clock_goes_on old mid later.last one.clock later.clock;
      lost_nothing = record {
        entries = later.lost_nothing.entries ∙ refused.lost_nothing.entries;
        turns = later.lost_nothing.turns ∙ refused.lost_nothing.turns;
      };
      unknown = later.unknown ∙ refused.unknown (λ closed. full_not_closed (sym full ∙ closed));
      sends = subst (λ (b : Record). Sends later.last target b sent new) refused.same later.sends;
    }
