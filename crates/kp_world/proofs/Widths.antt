-- A run that no schedule has, with one packet of two batches.
use Rattle.std.proofs.Common.{◌≡◌, ℕ, true, List, [], ◌∷◌, map, pos, refl, arith}
use Rattle.std.specs.Prelude.{codes}
use Rattle.kp_batch.specs.declared.record.Record.{Record}
use Rattle.kp_accum.specs.declared.item.Item.{Item}
use Rattle.kp_log.specs.History.{History, empty_history, with_batch}
use Rattle.kp_log.specs.Log.{stored_as}
use Rattle.kp_rules.specs.Auditing.{without_audits}
use Rattle.kp_rules.specs.Next.{Sending}
use Rattle.kp_rules.specs.Records.{Produce}
use Rattle.kp_rules.specs.Requesting.{Packet}
use Rattle.kp_rules.proofs.ListLemmas.{contains_head, contains_tail}
use Rattle.kp_rules.specs.declared.outcome.Outcome.TheVariants.{Delivered}
use Rattle.kp_world.specs.Client.{client}
use Rattle.kp_world.specs.Delivering.{Delivery, PartsDeliver, Delivers}
use Rattle.kp_world.specs.Events.{WorldEvent}
use Rattle.kp_world.specs.Events as world
use Rattle.kp_world.specs.Message.{sent_of, Answers}
use Rattle.kp_world.specs.Reaching.{outcomes_in, Leads, orders, keyed, stored_together, exchanged}
use Rattle.kp_world.specs.Run.{MayBegin, Run, Steps, with_delivery}
use Rattle.kp_world.specs.World.{PartAnswer, Batches, World, opening}
use Rattle.kp_world.proofs.ChosenRuns.{Append, appends, next, end_of, goes_on, run_of}
use Rattle.kp_world.proofs.Evaluation.{evaluated}
use Rattle.kp_world.proofs.EventLemmas.{run_one, run_append}
use Rattle.kp_world.proofs.ReachingLemmas.{default_passes}

-- ---- what goes out, and is answered

abbrev item : ℕ → ℕ → Record → Item
item p at body = record { sender = 0; partition = p; number = 0; at = at; body = body }

abbrev sending : Item → Sending
sending i = record { partition = i.partition; batch = record { number = 0; id = 7; sequence = 0; items = i ∷ [] } }

abbrev first : Sending
first = sending (item 0 3 (keyed 5 (codes "a")))

abbrev second : Sending
second = sending (item 1 2 (keyed 4 (codes "b")))

abbrev packet : Packet
packet = record { correlation = 40; demand = Produce (first ∷ second ∷ []) }

abbrev anothers : History
anothers = record { records = stored_as (pos 8) (keyed 1 (codes "c") ∷ []); batches = [] }

abbrev answer : ℕ → ℕ → PartAnswer
answer p base = record { partition = p; answer = record { code = pos 0; base = pos base } }

abbrev delivery : Delivery
delivery = record {
  logs = with_batch (sent_of first.batch) anothers ∷ with_batch (sent_of second.batch) empty_history ∷ [];
  ids = 7 ∷ [];
  content = Batches (answer 0 1 ∷ answer 1 0 ∷ []);
}

parts : PartsDeliver (anothers ∷ empty_history ∷ []) (first ∷ second ∷ []) (answer 0 1 ∷ answer 1 0 ∷ []) delivery.logs
unfolding evaluated PartsDeliver
parts = (
  with_batch (sent_of first.batch) anothers ∷ empty_history ∷ [],
  record { partition = refl; log = with_batch (sent_of first.batch) anothers; step = appends anothers (sent_of first.batch) tt; after_is = refl },
  (
    delivery.logs,
    record { partition = refl; log = with_batch (sent_of second.batch) empty_history; step = appends empty_history (sent_of second.batch) tt; after_is = refl },
    refl,
  ),
)

answers : Answers 40 delivery.content exchanged
answers = record {
  named = refl;
  says = (
    record { part = answer 1 0; answered = contains_tail (answer 1 0) (answer 0 1) (answer 1 0 ∷ []) (contains_head (answer 1 0) []); partition = refl; code = refl; base = refl },
    (record { part = answer 0 1; answered = contains_head (answer 0 1) (answer 1 0 ∷ []); partition = refl; code = refl; base = refl }, tt),
  );
}

-- ---- the run

abbrev sent : List WorldEvent
sent =
    world.Accept 0 0 3 (keyed 5 (codes "a")) ∷ world.Accept 0 1 2 (keyed 4 (codes "b"))
    ∷ world.Take 0 ∷ world.Take 0 ∷ world.Other 0 (stored_as (pos 8) (keyed 1 (codes "c") ∷ []))
    ∷ world.Now 100 ∷ world.Send 0 ∷ []

abbrev before : World
before = end_of client [] sent (opening orders)

abbrev stored : World
stored = with_delivery packet delivery exchanged before

abbrev after : World
after = next client Append (world.Reply 0) stored

honest : Delivers before packet.demand delivery
unfolding evaluated without_audits Delivers
honest = (answer 0 1 ∷ answer 1 0 ∷ [], parts, refl, refl)

comes : Steps before (world.Deliver 0) stored
unfolding evaluated without_audits Steps
comes = record { packet = packet; went_out = refl; delivery = delivery; honest = honest; response = exchanged; answers = answers; after_is = refl }

goes_out : Run (opening orders) sent before
unfolding evaluated without_audits Run Steps
goes_out = run_of client [] sent (opening orders) refl ((refl, tt), tt)

may_begin : MayBegin orders
may_begin = record {
  config = default_passes;
  some_partitions = omega arith;
  partition_limit = omega arith;
  some_senders = omega arith;
  sender_limit = omega arith;
  topic = omega arith;
  client = omega arith;
  known_id = omega arith;
  known_correlation = omega arith;
}

heard : Steps stored (world.Reply 0) after
unfolding evaluated without_audits Steps
heard = (goes_on (client (world.Reply 0) stored) stored true refl).0

replies : map (λ r. r.response) after.replies ≡ exchanged ∷ []
unfolding evaluated without_audits
replies = refl

told : outcomes_in after ≡ Delivered (pos 1) ∷ Delivered (pos 0) ∷ []
unfolding evaluated without_audits
told = refl

run : Run (opening orders) stored_together after
run =
    run_append sent (world.Deliver 0 ∷ world.Reply 0 ∷ []) (opening orders) before after goes_out
    (run_append (world.Deliver 0 ∷ []) (world.Reply 0 ∷ []) before stored after (run_one before (world.Deliver 0) stored comes) (run_one stored (world.Reply 0) after heard))

pub leads : Leads orders stored_together (exchanged ∷ []) (Delivered (pos 1) ∷ Delivered (pos 0) ∷ [])
leads = record { world = after; reached = record { may_begin = may_begin; run = run }; replies = replies; told = told }
