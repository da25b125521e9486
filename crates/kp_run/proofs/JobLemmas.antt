-- A sender's steps, from line to line.
use Rattle.std.proofs.Common.{◌≡◌, ℕ, ◌+◌, ◌<◌, List, ◌++◌, ◌∷◌, [], ap, sym, subst, ◌∙◌}
use Rattle.std.specs.Prelude.{Some}
use Rattle.kp_accum.specs.declared.item.Item.{Item}
use Rattle.kp_batch.specs.declared.record.Record.{Record}
use Rattle.kp_lanes.specs.Limits.{charge_of}
use Rattle.kp_lanes.specs.Outbox.{keyed_to, moved_on}
use Rattle.kp_lanes.specs.declared.limits.Limits.{Limits}
use Rattle.kp_dealing.specs.Dealing.{dealt_line, Deal, IsRecordOf}
use Rattle.kp_run.specs.Jobs.{accepted_by, limits_in, number_of, turn_of, HasRun, HasSent, HasTried, Keeps, SameJob, SentNothing}
use Rattle.kp_run.specs.Sending.{AreSent, IsLine}
use Rattle.kp_run.specs.declared.sender_thread.Job.{Job}

-- the same of equal things
pub moved : (deal : Deal) (n : ℕ) (l m : Limits) (s t a b : ℕ) (xs ys : List Item) → m ≡ l → t ≡ s → b ≡ a → ys ≡ xs
    → AreSent deal l s n a xs → AreSent deal m t n b ys
moved deal n l m s t a b xs ys limits number turns items are =
    subst (λ (k : Limits). AreSent deal k t n b ys) (sym limits)
    (subst (λ (k : ℕ). AreSent deal l k n b ys) (sym number)
    (subst (λ (k : ℕ). AreSent deal l s n k ys) (sym turns)
    (subst (λ (zs : List Item). AreSent deal l s n a zs) (sym items) are)))

-- ---- one step after the other

pub same_then : (a b c : Job) → SameJob a b → SameJob b c → SameJob a c
same_then a b c p q = record {
  number = q.number ∙ p.number;
  id = q.id ∙ p.id;
  limits = q.limits ∙ p.limits;
}

pub nothing_then : (a b c : Job) → SentNothing a b → SentNothing b c → SentNothing a c
nothing_then a b c p q = record {
  same = same_then a b c p.same q.same;
  items = q.items ∙ p.items;
  turns = q.turns ∙ p.turns;
}

pub sent_then : (a b c : Job) (body : Record) → HasSent a body b → SentNothing b c → HasSent a body c
sent_then a b c body p q = record {
  same = same_then a b c p.same q.same;
  item = p.item;
  last = q.items ∙ p.last;
  is = p.is;
  sender = p.sender;
  partition = p.partition;
  number = p.number;
  turns = q.turns ∙ p.turns;
}

-- ---- one line more

tried_sent : (deal : Deal) (n : ℕ) (old new : Job) (body : Record) → HasSent old body new → Keeps new
    → AreSent deal (limits_in old) (number_of old) n (turn_of old) (accepted_by old) → IsLine deal (number_of old) n body → HasTried deal (n + 1) new
tried_sent deal n old new body h keeps so_far line =
    let partitions = (limits_in old).partitions in
    let t = turn_of old in record {
      sent = moved deal (n + 1) (limits_in old) (limits_in new) (number_of old) (number_of new) (moved_on partitions t h.item.body.key) (turn_of new)
          (accepted_by old ++ h.item ∷ []) (accepted_by new) h.same.limits h.same.number
          (h.turns ∙ ap (λ (r : Record). moved_on partitions t r.key) (sym h.is)) h.last
          (AreSent.sent n t (accepted_by old) h.item so_far (subst (λ (r : Record). IsLine deal (number_of old) n r) (sym h.is) line) h.sender
          (h.partition ∙ ap (λ (r : Record). keyed_to partitions t r.key) (sym h.is)) h.number);
      keeps = keeps;
    }

-- a record was sent, and then nothing more
pub went_on : (deal : Deal) (n : ℕ) (old a b new : Job) (body : Record) → HasSent old body a → SentNothing a b → SentNothing b new → Keeps new
    → AreSent deal (limits_in old) (number_of old) n (turn_of old) (accepted_by old) → IsLine deal (number_of old) n body → HasTried deal (n + 1) new
went_on deal n old a b new body h p q keeps so_far line =
    tried_sent deal n old new body (sent_then old b new body (sent_then old a b body h p) q) keeps so_far line

-- the record was too large, and nothing was sent
pub went_past : (deal : Deal) (n : ℕ) (old a new : Job) (body : Record) → SentNothing old a → SentNothing a new → Keeps new
    → (limits_in old).max_record < charge_of body
    → AreSent deal (limits_in old) (number_of old) n (turn_of old) (accepted_by old) → IsLine deal (number_of old) n body → HasTried deal (n + 1) new
went_past deal n old a new body p q keeps large so_far line =
    let h = nothing_then old a new p q in record {
      sent = moved deal (n + 1) (limits_in old) (limits_in new) (number_of old) (number_of new) (turn_of old) (turn_of new) (accepted_by old) (accepted_by new)
          h.same.limits h.same.number h.turns h.items (AreSent.left_out n (turn_of old) (accepted_by old) body so_far line large);
      keeps = keeps;
    }

pub is_line : (deal : Deal) (number sender k moment : ℕ) (line : List ℕ) (body : Record) → sender ≡ number
    → Some line ≡ dealt_line deal.senders sender k deal.lines → IsRecordOf deal.keyed moment line body → IsLine deal number k body
is_line deal number sender k moment line body same is holds = record {
  line = line;
  is = ap (λ (s : ℕ). dealt_line deal.senders s k deal.lines) (sym same) ∙ sym is;
  moment = moment;
  holds = holds;
}

pub ran : (deal : Deal) (n : ℕ) (job : Job) → HasTried deal n job → HasRun deal job
ran deal n job tried = record {
  lines = record { tried = n; turn = turn_of job; are = tried.sent };
  keeps = tried.keeps;
}
