-- What the logs do with a packet's bytes is what the loopback broker does with the packet.
use Rattle.std.proofs.Common.{◌≡◌, ℕ, ◌+◌, ◌<◌, List, take, drop, drop-cons, add-one, append_assoc, [], ◌∷◌, ◌++◌, length, get_or, set, map, pos, negsuc, Ok, refl, sym, ap, subst, ◌∙◌, arith}
use Rattle.std.specs.Prelude.{All, slice_index_or}
use Rattle.std.specs.List.{AllByRecursion}
use Rattle.std.proofs.lemmas.List.{length-set, map-append, take_more}
use Rattle.std.proofs.lemmas.List.Elements.{All-push, All-weaker}
use Rattle.kp_batch.specs.Spelling as batch
use Rattle.kp_batch.specs.Spelling.{HasSpelling}
use Rattle.kp_batch.proofs.BatchLemmas.{batch_again}
use Rattle.kp_frames.specs.declared.produce.PartitionProduceData.{PartitionProduceData}
use Rattle.kp_frames.specs.declared.produce.PartitionProduceResponse.{PartitionProduceResponse}
use Rattle.kp_log.specs.BrokerStep.{Offered, offered_to}
use Rattle.kp_log.specs.HandedOver.{IsStored}
use Rattle.kp_log.specs.History.{Sent, History, batch_of, empty_history, stored_of, with_batch}
use Rattle.kp_log.specs.KeptBatches.{IsHistoryOf, kept_in}
use Rattle.kp_log.specs.Log.{Log, empty}
use Rattle.kp_log.proofs.OffsetLemmas.{stands_last, stored_still}
use Rattle.kp_log.proofs.LoopbackLemmas.{count_at, offered_as, offered_of}
use Rattle.kp_log.proofs.RulingLemmas.{Ruling, Repeats, GoesOn, IsOlder, LeavesGap, ruling}
use Rattle.kp_log.proofs.TieLemmas.{alike}
use Rattle.kp_rules.specs.Framing as framing
use Rattle.kp_rules.specs.Next.{Sending}
use Rattle.kp_rules.proofs.ListLemmas.{at_put}
use Rattle.kp_world.specs.Delivering.{log_at}
use Rattle.kp_world.specs.Loopback.{answers_to, logs_with, treated, with_part}
use Rattle.kp_world.specs.Message.{part_response, sent_of}
use Rattle.kp_world.specs.declared.event.Treatment.{Treatment}
use Rattle.kp_world.specs.declared.event.Treatment.TheVariants.{Judged, Refused, Late}
use Rattle.kp_replay.specs.Line.{answer_part}
use Rattle.kp_replay.specs.Shown.{Each}
use Rattle.kp_replay.specs.declared.line.AnswerPart.{AnswerPart}
use Rattle.kp_replay.specs.Serving.{Taken, entries_after, entry_line, entry_of, logs_after, taken, taken_at, with_taken}
use Rattle.kp_replay.proofs.AcceptingLemmas.{each-length}
use Rattle.kp_replay.proofs.OtherLemmas.{each-at, each-set}

-- ---- batches stay whole

abbrev pub IsWhole : History → Type 0
IsWhole h = All (IsStored h.records) h.batches

whole-by : (h : History) (b : Sent) → IsWhole h → 0 < length b.bodies → (r : Ruling h.records (kept_in b.id h).spans (batch_of b)) → IsWhole (offered_of h b r).history
whole-by h b whole some (Repeats span is) = whole
whole-by h b whole some (GoesOn fresh is) =
    All-push (IsStored (with_batch b h).records) h.batches b
    (All-weaker (IsStored h.records) (IsStored (with_batch b h).records) (stored_still h.records (stored_of b)) h.batches whole)
    (record { some_records = some; base = pos (length h.records); stands = stands_last h.records b (count_at h b is) })
whole-by h b whole some (IsOlder fresh is old) = whole
whole-by h b whole some (LeavesGap fresh is old) = whole

offered-whole : (h : History) (b : Sent) → IsWhole h → 0 < length b.bodies → IsWhole (offered_to h b).history
offered-whole h b whole some =
    let r : Ruling h.records (kept_in b.id h).spans (batch_of b) = ruling h.records (kept_in b.id h).spans (batch_of b) in
    subst (λ (o : Offered). IsWhole o.history) (sym (offered_as h b r)) (whole-by h b whole some r)

treated-whole : (how : Treatment) (h : History) (b : Sent) → IsWhole h → 0 < length b.bodies → IsWhole (treated how h b).history
treated-whole Judged h b whole some = offered-whole h b whole some
treated-whole (Refused code) h b whole some = whole
treated-whole (Late code) h b whole some = offered-whole h b whole some

-- ---- one part

abbrev pub IsPartOf : ℕ → Sending → Type 0
IsPartOf n x = (x.partition < n) × HasSpelling (framing.batch_of x.batch)

some-bodies : (x : Sending) → HasSpelling (framing.batch_of x.batch) → 0 < length (sent_of x.batch).bodies
some-bodies x fits = fits.fields.some

record SameTaken (how : Treatment) (h : History) (old : Log) (x : Sending) : Type 0 where
  pub answer : (taken how old (Ok (framing.batch_of x.batch))).answer ≡ (treated how h (sent_of x.batch)).answer
  pub log : IsHistoryOf (treated how h (sent_of x.batch)).history (taken how old (Ok (framing.batch_of x.batch))).log

same-taken : (how : Treatment) (h : History) (log : Log) (x : Sending) → IsHistoryOf h log → IsWhole h → HasSpelling (framing.batch_of x.batch) → SameTaken how h log x
same-taken Judged h log x of whole fits = let a = alike h log (pos 0) (negsuc 0) (sent_of x.batch) of whole (some-bodies x fits) in record { answer = a.answer; log = a.history }
same-taken (Refused code) h log x of whole fits = record { answer = refl; log = of }
same-taken (Late code) h log x of whole fits = let a = alike h log (pos 0) (negsuc 0) (sent_of x.batch) of whole (some-bodies x fits) in record { answer = refl; log = a.history }

read-so : (how : Treatment) (logs : List Log) (x : Sending) → HasSpelling (framing.batch_of x.batch) → taken_at how logs (framing.data_of x) ≡ taken how (slice_index_or logs x.partition empty) (Ok (framing.batch_of x.batch))
read-so how logs x fits = ap (taken how (slice_index_or logs x.partition empty)) (batch_again (batch.spelling (framing.batch_of x.batch)) (framing.batch_of x.batch) (record { is_batch = fits; is_spelling = refl }))

-- ---- all parts

pub record AreTaken (how : Treatment) (hs : List History) (ls : List Log) (xs : List Sending) : Type 0 where
  pub logs : Each IsHistoryOf (logs_with how hs xs) (logs_after how ls (map framing.data_of xs))
  pub entries : entries_after how ls (map framing.data_of xs) ≡ map part_response (answers_to how hs xs)

pub are-taken : (how : Treatment) (hs : List History) (ls : List Log) (xs : List Sending) → Each IsHistoryOf hs ls → ((p : ℕ) → p < length hs → IsWhole (log_at p hs)) → AllByRecursion (IsPartOf (length hs)) xs → AreTaken how hs ls xs
unfolding logs_with answers_to
are-taken how hs ls [] all whole parts = record { logs = all; entries = refl }
are-taken how hs ls (x ∷ xs) all whole parts =
    let inside : x.partition < length ls = subst (λ n. x.partition < n) (each-length IsHistoryOf hs ls all) parts.0.0 in
    let one : SameTaken how (log_at x.partition hs) (get_or ls x.partition empty) x =
    same-taken how (log_at x.partition hs) (get_or ls x.partition empty) x (each-at IsHistoryOf hs ls x.partition empty_history empty inside all) (whole x.partition parts.0.0) parts.0.1 in
    let here = read-so how ls x parts.0.1 in
    let made = taken how (get_or ls x.partition empty) (Ok (framing.batch_of x.batch)) in
    let count : length (with_part how hs x) ≡ length hs = length-set hs x.partition _ in
    let rest : AreTaken how (with_part how hs x) (set ls x.partition made.log) xs =
    are-taken how (with_part how hs x) (set ls x.partition made.log) xs
    (each-set IsHistoryOf hs ls x.partition (treated how (log_at x.partition hs) (sent_of x.batch)).history made.log one.log all)
    (λ p within. at_put IsWhole hs x.partition p (treated how (log_at x.partition hs) (sent_of x.batch)).history empty_history
    (λ same. treated-whole how (log_at x.partition hs) (sent_of x.batch) (whole x.partition parts.0.0) (some-bodies x parts.0.1)) (whole p (omega (arith, within, count))))
    (subst (λ n. AllByRecursion (IsPartOf n) xs) (sym count) parts.1) in
    record {
      logs = subst (λ (t : Taken). Each IsHistoryOf (logs_with how (with_part how hs x) xs) (logs_after how (set ls x.partition t.log) (map framing.data_of xs))) (sym here) rest.logs;
      entries =
          (λ i. entry_of (framing.data_of x) (here i).answer ∷ entries_after how (set ls x.partition (here i).log) (map framing.data_of xs))
          ∙ (λ i. entry_of (framing.data_of x) (one.answer i) ∷ rest.entries i);
    }

-- ---- one after the other

module _ (how : Treatment) (logs : List Log) (ds : List PartitionProduceData) (i : ℕ) (d : PartitionProduceData) (inside : i < length ds) (at : d ≡ get_or ds i d) where
  front : drop i ds ≡ d ∷ drop (i + 1) ds
  front = drop-cons ds i d inside ∙ (λ k. sym at k ∷ drop (sym (add-one i) k) ds)

  pub logs-next : logs_after how (with_taken how logs d) (drop (i + 1) ds) ≡ logs_after how logs (drop i ds)
  logs-next = sym (ap (logs_after how logs) front)

  pub entries-next : (es : List PartitionProduceResponse) → (es ++ entry_of d (taken_at how logs d).answer ∷ []) ++ entries_after how (with_taken how logs d) (drop (i + 1) ds) ≡ es ++ entries_after how logs (drop i ds)
  entries-next es =
      append_assoc es (entry_of d (taken_at how logs d).answer ∷ []) (entries_after how (with_taken how logs d) (drop (i + 1) ds))
      ∙ ap (λ others. es ++ others) (sym (ap (entries_after how logs) front))

-- a line for one more entry
pub lines-next : (parts : List AnswerPart) (es : List PartitionProduceResponse) (i : ℕ) (part : AnswerPart) (e : PartitionProduceResponse) → i < length es → e ≡ get_or es i e → answer_part part ≡ entry_line e
    → map answer_part parts ≡ map entry_line (take i es) → map answer_part (parts ++ part ∷ []) ≡ map entry_line (take (i + 1) es)
lines-next parts es i part e inside at one before =
    map-append answer_part parts (part ∷ []) ∙ (λ k. before k ++ one k ∷ []) ∙ sym (map-append entry_line (take i es) (e ∷ []))
    ∙ ap (map entry_line) (sym (take_more es i e inside ∙ ap (λ x. take i es ++ x ∷ []) (sym at)))
