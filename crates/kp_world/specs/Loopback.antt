-- A packet at the loopback broker, which goes by the sequence rule unless it is told otherwise.
use Rattle.std.specs.Prelude.{ℕ, ◌+◌, ℤ, negsuc, List, [], ◌∷◌, ◌++◌, length, slice_set}
use Rattle.kp_log.specs.BrokerStep.{Offered, offered_to, refused_unseen, offered_late}
use Rattle.kp_log.specs.History.{Sent, History}
use Rattle.kp_rules.specs.Next.{Sending}
use Rattle.kp_rules.specs.Records.{Demand, Produce, InitProducerId}
use Rattle.kp_world.specs.declared.event.Treatment.{Treatment}
use Rattle.kp_world.specs.declared.event.Treatment.TheVariants.{Judged, Refused, Late}
use Rattle.kp_world.specs.Delivering.{Delivery, log_at, given}
use Rattle.kp_world.specs.Message.{sent_of}
use Rattle.kp_world.specs.World.{PartAnswer, ReplyContent, Batches, Id, World, FIRST_ID}

-- ---- batches

abbrev pub treated : Treatment → History → Sent → Offered
treated Judged h b = offered_to h b
treated (Refused code) h b = refused_unseen h code
treated (Late code) h b = offered_late h b code

-- the parts in the packet's order: the logs then, and the answers
abbrev pub with_part : Treatment → List History → Sending → List History
with_part how logs x =
    slice_set logs x.partition (treated how (log_at x.partition logs) (sent_of x.batch)).history

abbrev pub answer_to : Treatment → List History → Sending → PartAnswer
answer_to how logs x = record {
  partition = x.partition;
  answer = (treated how (log_at x.partition logs) (sent_of x.batch)).answer;
}

unfoldable pub logs_with : Treatment → List History → List Sending → List History
logs_with how logs [] = logs
logs_with how logs (x ∷ xs) = logs_with how (with_part how logs x) xs

unfoldable pub answers_to : Treatment → List History → List Sending → List PartAnswer
answers_to how logs [] = []
answers_to how logs (x ∷ xs) = answer_to how logs x ∷ answers_to how (with_part how logs x) xs

-- ---- ids

-- the next id; the first was drawn before the schedule
abbrev pub next_id : List ℕ → ℕ
next_id ids = FIRST_ID + length ids

abbrev pub with_id : List ℕ → List ℕ
with_id ids = ids ++ next_id ids ∷ []

abbrev pub error : ℤ → ReplyContent
error code = Id code (negsuc 0)

abbrev pub id_delivered : Treatment → World → Delivery
id_delivered Judged w =
    record { logs = w.logs; ids = with_id w.ids; content = given (next_id w.ids) }
id_delivered (Refused code) w = record { logs = w.logs; ids = w.ids; content = error code }
id_delivered (Late code) w = record { logs = w.logs; ids = with_id w.ids; content = error code }

-- ---- a packet

unfoldable pub delivered : Treatment → World → Demand Sending → Delivery
delivered how w (Produce xs) = record {
  logs = logs_with how w.logs xs;
  ids = w.ids;
  content = Batches (answers_to how w.logs xs);
}
delivered how w (InitProducerId p) = id_delivered how w
