-- What the end of a service says of it.
use Rattle.std.proofs.Common.{◌≡◌, ℕ, List, [], ◌++◌, length, sym, ap, ◌∙◌, ⊎_elim}
use Rattle.std.specs.Prelude.{drop, slice_index_or}
use Rattle.std.proofs.Math.Seq.{drop-append_seam}
use Rattle.kp_accum.specs.declared.item.Item.{Item}
use Rattle.kp_client.specs.Ends.{WasServed, WasUnserved}
use Rattle.kp_client.specs.Left.{ending_of, parts_in, IsSettled}
use Rattle.kp_client.specs.Service.{core_of, intake_of}
use Rattle.kp_client.specs.declared.left.Ending.TheVariants.{Done}
use Rattle.kp_client.specs.declared.left.Left.{Left}
use Rattle.kp_client.specs.declared.service.Service.{Service}
use Rattle.kp_client_laws.specs.Ending.{GiveBackAlike, WasClosed}
use Rattle.kp_client_laws.specs.Over.{IsOver, accepted_in, opening_of}
use Rattle.kp_client_laws.proofs.OverLemmas.{had_accepted, polls}
use Rattle.kp_engine.specs.Agreement.{waiting_of}
use Rattle.kp_engine.specs.Made.{anything}
use Rattle.kp_engine.specs.Parts.{to_sender}
use Rattle.kp_engine.specs.Serving.{from_sender}
use Rattle.kp_engine.specs.declared.parts.Held.{Held}
use Rattle.kp_engine.specs.declared.parts.Parts.{Parts}
use Rattle.kp_lanes.specs.Intake.{taken_of}
use Rattle.kp_lanes.specs.Sender.{all_got, finished_number}
use Rattle.kp_lanes.specs.Settling.{left_items, left_reports}
use Rattle.kp_lanes.specs.declared.sender.Finished.{Finished}
use Rattle.kp_polls.proofs.ClosedLemmas.{closed_to_all}
use Rattle.kp_rules.specs.Records.{Core}
use Rattle.kp_rules.specs.declared.outcome.Report.{Report}

pub was_closed : (service : Service) (finished : List Finished) (left : Left) → (over : IsOver service finished left) → ending_of over.ended ≡ Done
    → WasClosed over.has_ended.calls (parts_in over.ended).core
was_closed service finished left over done = ⊎_elim
    (λ (s : WasServed (core_of service) (intake_of service) over.has_ended.calls over.ended).
    let p = polls service finished left (accepted_in service finished) [] over (had_accepted service finished left over) s in
    let same : (parts_in over.ended).core ≡ s.engine.last.core = s.same_core ∙ s.engine.apart.core in record {
      first = p.first;
      last = s.engine.last;
      closed = closed_to_all anything (opening_of service) over.has_ended.calls s.engine.last p (s.done done);
      is = sym same;
      ended = ap (λ (c : Core). c.ended) same ∙ s.engine.ended;
    })
    (λ (n : WasUnserved (core_of service) (intake_of service) over.has_ended.calls over.ended). absurd (n.not_done done))
    over.has_ended.how

-- what stands behind the same is the same
behind : {A : Type 0} (xs ys zs all : List A) → all ≡ xs ++ ys → all ≡ xs ++ zs → ys ≡ zs
behind xs ys zs all one other = sym (drop-append_seam xs ys) ∙ ap (drop (length xs)) (sym one ∙ other) ∙ drop-append_seam xs zs

pub give_back_alike : (parts : Parts) (finished : List Finished) (one other : Left) → IsSettled parts finished one → IsSettled parts finished other
    → GiveBackAlike finished one other
give_back_alike parts finished one other h g = λ k d near.
    let f : Finished = slice_index_or finished k d in
    let n : ℕ = finished_number f in
    let items : slice_index_or (left_items one.items.items) n [] ≡ slice_index_or (left_items other.items.items) n [] =
    behind (taken_of parts.intake n) _ _ _ (h.adds k d near).items (g.adds k d near).items in
    let reports : slice_index_or (left_reports one.reports.items) n [] ≡ slice_index_or (left_reports other.reports.items) n [] =
    behind (all_got f) _ _ _ (h.adds k d near).reports (g.adds k d near).reports in
    let held : one.held ≡ other.held = h.same_held ∙ sym g.same_held in
    let core : one.core ≡ other.core = h.same_core ∙ sym g.same_core in (
      ap (λ (xs : List Item). from_sender n one.held.items.items ++ xs) items
          ∙ ap (λ (q : Held). from_sender n q.items.items ++ slice_index_or (left_items other.items.items) n []) held,
      ap (λ (rs : List Report). rs ++ to_sender n one.held.reports.items ++ waiting_of one.core n) reports
          ∙ ap (λ (q : Held). slice_index_or (left_reports other.reports.items) n [] ++ to_sender n q.reports.items ++ waiting_of one.core n) held
          ∙ ap (λ (c : Core). slice_index_or (left_reports other.reports.items) n [] ++ to_sender n other.held.reports.items ++ waiting_of c n) core,
    )
