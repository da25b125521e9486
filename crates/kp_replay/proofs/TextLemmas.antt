-- The text of what is seen of a world is the world's.
use Rattle.std.proofs.Common.{◌≡◌, ℕ, ◌+◌, Bool, true, false, List, [], ◌∷◌, ◌++◌, length, map, refl, sym, ap, ap₂, ◌∙◌, append-nil, cond, unwrap_or, ◌||◌}
use Rattle.std.specs.List.{enumerate_from, flat_map, list_any, range_with_len}
use Rattle.std.proofs.lemmas.Grind.{flat_map-append}
use Rattle.std.proofs.lemmas.List.Folds.{flat_map-map}
use Rattle.kp_log.specs.History.{History}
use Rattle.kp_log.specs.KeptBatches.{IsHistoryOf}
use Rattle.kp_log.specs.Log.{Log}
use Rattle.kp_log.specs.declared.stored.Stored.{Stored}
use Rattle.kp_rules.specs.Partitions.{partition_at}
use Rattle.kp_rules.specs.Records.{Core, Partition, Told}
use Rattle.kp_rules.specs.Reports.{reports_to}
use Rattle.kp_rules.specs.declared.outcome.Report.{Report}
use Rattle.kp_world.specs.Line.{Reported, Audited, Flushed}
use Rattle.kp_world.specs.Lines.{lines, lines_of, log_line, log_lines, audit_lines, reports_in}
use Rattle.kp_world.specs.Text.{text}
use Rattle.kp_world.specs.World.{Happened}
use Rattle.kp_replay.specs.Shown.{Each, Noted, Seen, noted_of}
use Rattle.kp_replay.specs.Text.{Tells, told, noted_text, flushed_text, records_text, log_text, audit_text, seen_text}

-- ---- texts of texts

flat_flat : {X Y Z : Type 0} (g : Y → List Z) (f : X → List Y) (xs : List X) → flat_map g (flat_map f xs) ≡ flat_map (λ x. flat_map g (f x)) xs
flat_flat g f [] = refl
flat_flat g f (x ∷ xs) = flat_map-append g (f x) (flat_map f xs) ∙ ap (λ zs. flat_map g (f x) ++ zs) (flat_flat g f xs)

same_texts : {X Z : Type 0} (f g : X → List Z) → ((x : X) → f x ≡ g x) → (xs : List X) → flat_map f xs ≡ flat_map g xs
same_texts f g same [] = refl
same_texts f g same (x ∷ xs) = ap₂ (λ a b. a ++ b) (same x) (same_texts f g same xs)

-- ---- an event

reports_text : (told_now : List Told) (senders : ℕ) → flat_map told (reports_in senders told_now) ≡ flat_map (λ (r : Report). told (Reported r)) (flat_map (λ s. reports_to s told_now) (range_with_len 0 senders))
reports_text told_now senders =
    flat_flat told (λ s. map Reported (reports_to s told_now)) (range_with_len 0 senders)
    ∙ same_texts _ _ (λ s. flat_map-map told Reported (reports_to s told_now)) (range_with_len 0 senders)
    ∙ sym (flat_flat (λ (r : Report). told (Reported r)) (λ s. reports_to s told_now) (range_with_len 0 senders))

flushed_told : (flushed : Bool) → flat_map told (cond flushed (Flushed ∷ []) []) ≡ flushed_text flushed
flushed_told true = append-nil (told Flushed)
flushed_told false = refl

happened_text : (senders : ℕ) (h : Happened) → flat_map told (lines_of senders h) ≡ noted_text (noted_of senders h)
happened_text senders h =
    flat_map-append told (h.answer ++ reports_in senders h.told) (cond h.flushed (Flushed ∷ []) [])
    ∙ ap₂ (λ (a b : List ℕ). a ++ b)
    (flat_map-append told h.answer (reports_in senders h.told) ∙ ap (λ (zs : List ℕ). flat_map told h.answer ++ zs) (reports_text h.told senders))
    (flushed_told h.flushed)

past_text : (senders : ℕ) (past : List Happened) → flat_map told (flat_map (lines_of senders) past) ≡ flat_map noted_text (map (noted_of senders) past)
past_text senders past =
    flat_flat told (lines_of senders) past
    ∙ same_texts _ _ (happened_text senders) past
    ∙ sym (flat_map-map noted_text (noted_of senders) past)

-- ---- logs and audits

kept_text : (ts : List Partition) (k : ℕ) (h : History) (log : Log) → IsHistoryOf h log → flat_map told (log_lines ts (k, h)) ≡ log_text ts (k, log)
kept_text ts k h log is =
    flat_map-map told (log_line k (partition_at k ts)) (enumerate_from 0 h.records)
    ∙ ap (λ (records : List Stored). records_text k (partition_at k ts).ids records) (sym is.records)

logs_from : (ts : List Partition) (k : ℕ) (hs : List History) (logs : List Log) → Each IsHistoryOf hs logs
    → flat_map told (flat_map (log_lines ts) (enumerate_from k hs)) ≡ flat_map (log_text ts) (enumerate_from k logs)
logs_from ts k [] [] are = refl
logs_from ts k [] (log ∷ logs) are = absurd are
logs_from ts k (h ∷ hs) [] are = absurd are
logs_from ts k (h ∷ hs) (log ∷ logs) are =
    flat_map-append told (log_lines ts (k, h)) (flat_map (log_lines ts) (enumerate_from (k + 1) hs))
    ∙ ap₂ (λ (a b : List ℕ). a ++ b) (kept_text ts k h log are.0) (logs_from ts (k + 1) hs logs are.1)

audits_text : (xs : List (ℕ × Partition)) → flat_map told (flat_map audit_lines xs) ≡ flat_map audit_text xs
audits_text xs =
    flat_flat told audit_lines xs
    ∙ same_texts _ _ (λ (x : ℕ × Partition). flat_map-map told (Audited x.0) (unwrap_or x.1.audit [])) xs

-- ---- all

pub text_shown : (a : Seen) → Tells a (seen_text a)
unfolding text lines
text_shown a c w shows =
    let ts = w.core.partitions in
    let past = flat_map (lines_of (length w.accepted)) w.past in
    let logs = flat_map (log_lines ts) (enumerate_from 0 w.logs) in
    let audits = flat_map audit_lines (enumerate_from 0 ts) in
    let parted : flat_map told (past ++ logs ++ audits) ≡ flat_map told past ++ flat_map told logs ++ flat_map told audits =
    flat_map-append told (past ++ logs) audits ∙ ap (λ (zs : List ℕ). zs ++ flat_map told audits) (flat_map-append told past logs) in
    let same : a.core.partitions ≡ ts = ap (λ (s : Core). s.partitions) shows.core in
    let first : flat_map told past ≡ flat_map noted_text a.past = past_text (length w.accepted) w.past ∙ ap (λ (ns : List Noted). flat_map noted_text ns) (sym shows.past) in
    let second : flat_map told logs ≡ flat_map (log_text a.core.partitions) (enumerate_from 0 a.logs) =
    logs_from ts 0 w.logs a.logs shows.logs ∙ ap (λ (ps : List Partition). flat_map (log_text ps) (enumerate_from 0 a.logs)) (sym same) in
    let third : flat_map told audits ≡ flat_map audit_text (enumerate_from 0 a.core.partitions) =
    audits_text (enumerate_from 0 ts) ∙ ap (λ (ps : List Partition). flat_map audit_text (enumerate_from 0 ps)) (sym same) in
    sym (parted ∙ ap₂ (λ (x y : List ℕ). x ++ y) (ap₂ (λ (x y : List ℕ). x ++ y) first second) third)

-- ---- tests of lists

pub any_of : {X Y : Type 0} (test : Y → Bool) (f : X → Y) (xs : List X) → list_any (λ x. test (f x)) xs ≡ list_any test (map f xs)
any_of test f [] = refl
any_of test f (x ∷ xs) = ap (λ (b : Bool). test (f x) || b) (any_of test f xs)
