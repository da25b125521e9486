use Rattle.std.proofs.Common.{◌≡◌, ℕ, List, ◌++◌, ◌∙◌, ap, sym, subst, arith, length, map}
use Rattle.std.specs.Prelude.{flat_map}
use Rattle.std.specs.List.{enumerate_from}
use Rattle.std.proofs.lemmas.List.Folds.{flat_map-map}
use Rattle.kp_log.specs.Log.{Log}
use Rattle.kp_replay.specs.Shown.{Seen}
use Rattle.kp_replay.specs.Text.{Tells, audit_text, log_text, noted_by, noted_text}
use Rattle.kp_replay.specs.declared.happened.Happened.{Happened}
use Rattle.kp_replay.proofs.TextLemmas.{text_shown}
use Rattle.kp_replay.proofs.world.World.lines.Goals as goal

pub put_logs-requires-clause-with_ids : goal.put_logs-requires-clause-with_ids
put_logs-requires-clause-with_ids c = omega (arith, c.self.invariant.logs, ap length c.as_slice-2.ensures.value)

pub put_logs-requires-clause-numbered : goal.put_logs-requires-clause-numbered
put_logs-requires-clause-numbered c = omega (arith, c.self.invariant.logs, c.self.invariant.partitions, ap length c.as_slice-2.ensures.value)

pub put_audits-requires : goal.put_audits-requires
put_audits-requires c = omega (arith, c.self.invariant.partitions)

pub returns : goal.returns
returns c =
    let ts = c.self.inside.core.partitions in
    let past = c.self.inside.past.items in
    let logs = c.self.inside.logs.items in
    let first : c.put_past.new.out.items ≡ flat_map noted_text (map noted_by past) =
    c.in_ok-put_past.ensures ∙ ap (λ (t : List ℕ). t ++ flat_map (λ h. noted_text (noted_by h)) c.as_slice.result.now) c.new-text.ensures.items
    ∙ ap (λ (hs : List Happened). flat_map (λ h. noted_text (noted_by h)) hs) c.as_slice.ensures.value ∙ sym (flat_map-map noted_text noted_by past) in
    let second : c.put_logs.new.out.items ≡ flat_map noted_text (map noted_by past) ++ flat_map (log_text ts) (enumerate_from 0 logs) =
    c.in_ok-put_logs.ensures ∙ ap (λ (t : List ℕ). t ++ flat_map (log_text ts) (enumerate_from 0 c.as_slice-2.result.now)) first
    ∙ ap (λ (ls : List Log). flat_map noted_text (map noted_by past) ++ flat_map (log_text ts) (enumerate_from 0 ls)) c.as_slice-2.ensures.value in
    let third = c.in_ok-put_audits.ensures ∙ ap (λ (t : List ℕ). t ++ flat_map audit_text (enumerate_from 0 ts)) second in
    subst (λ (a : Seen). Tells a c.put_audits.new.out.items) c.self.view_is (λ conf w shows. third ∙ text_shown _ conf w shows)
