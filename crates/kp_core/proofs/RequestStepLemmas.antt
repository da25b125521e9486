-- The call for the next request, answer by answer.
use Rattle.std.proofs.Common.{◌≡◌, ◌∙◌, ℕ, Bool, true, false, not, List, [], ◌∷◌, Some, None, Ok, Err, refl, sym, ap, subst, rules}
use Rattle.std.specs.Prelude.{Option, IsOkAnd, IsSome, find, option_map, if◌then◌else◌, ◌&&◌}
use Rattle.std.specs.List.{enumerate_from}
use Rattle.kp_accum.specs.Ready.{is_over}
use Rattle.kp_rules.specs.declared.fault.CoreFault.TheVariants.{CorrelationSpent, Ended, OutOfMemory}
use Rattle.kp_rules.specs.Attempts.{has_window, is_id_asked}
use Rattle.kp_rules.specs.Calls.{Request, Step, answered_as}
use Rattle.kp_rules.specs.Framing.{frame_of}
use Rattle.kp_rules.specs.MaySend.{wants_id}
use Rattle.kp_rules.specs.Next.{Sending, next_asking, next_batches, next_demand}
use Rattle.kp_rules.specs.Partitions.{is_empty, leads}
use Rattle.kp_rules.specs.Records.{Core, Demand, Produce, InitProducerId}
use Rattle.kp_rules.specs.Requesting.{Requested, is_spent, go_out, request_step, sent_out}

-- ---- what is asked for

abbrev by_batches : List Sending → Option (Demand Sending)
by_batches xs = elim xs [ [] ↦ None | x ∷ others ↦ Some (Produce (x ∷ others)) ]

abbrev by_asking : List Sending → Option ℕ → Option (Demand Sending)
by_asking xs o = elim o [ Some p ↦ Some (InitProducerId p) | None ↦ by_batches xs ]

abbrev by_window : List Sending → Option ℕ → Bool → Option (Demand Sending)
by_window xs o b = if not b then None else by_asking xs o

pub no_window : (node now : ℕ) (s : Core) → has_window node s ≡ false → next_demand node now s ≡ None
unfolding next_demand
no_window node now s e = ap (by_window (next_batches node now s) (next_asking node now s)) e

pub an_id : (node now p : ℕ) (s : Core) → has_window node s ≡ true → next_asking node now s ≡ Some p → next_demand node now s ≡ Some (InitProducerId p)
unfolding next_demand
an_id node now p s e f = ap (by_window (next_batches node now s) (next_asking node now s)) e ∙ ap (by_asking (next_batches node now s)) f

batches : (node now : ℕ) (s : Core) → has_window node s ≡ true → next_asking node now s ≡ None → next_demand node now s ≡ by_batches (next_batches node now s)
unfolding next_demand
batches node now s e f = ap (by_window (next_batches node now s) (next_asking node now s)) e ∙ ap (by_asking (next_batches node now s)) f

pub no_batches : (node now : ℕ) (s : Core) → has_window node s ≡ true → next_asking node now s ≡ None → next_batches node now s ≡ [] → next_demand node now s ≡ None
no_batches node now s e f g = batches node now s e f ∙ ap by_batches g

pub some_batches : (node now : ℕ) (s : Core) → has_window node s ≡ true → next_asking node now s ≡ None → (next_batches node now s ≡ [] → ⊥)
    → next_demand node now s ≡ Some (Produce (next_batches node now s))
some_batches node now s e f some = batches node now s e f ∙ at_list (next_batches node now s) some
  where
    at_list : (xs : List Sending) → (xs ≡ [] → ⊥) → by_batches xs ≡ Some (Produce xs)
    at_list [] some = absurd (some refl)
    at_list (x ∷ xs) some = refl

-- no id is asked for while it has to wait
pub still_waits : (node now since : ℕ) (s : Core) → s.id_waits ≡ Some since → is_over since s.config.retry_backoff_ms now ≡ false → next_asking node now s ≡ None
still_waits node now since s waits over =
    ap (λ (o : Option ℕ). if_may s (not (is_id_asked s) && elim o [ None ↦ true | Some moment ↦ is_over moment s.config.retry_backoff_ms now ])) waits
    ∙ ap (λ (b : Bool). if_may s (not (is_id_asked s) && b)) over ∙ by_test (not (is_id_asked s))
  where
    if_may : Core → Bool → Option ℕ
    if_may x b = if b then option_map (λ y. y.0) (find (λ y. leads node y.1 && wants_id x.config y.1) (enumerate_from 0 x.partitions)) else None

    by_test : (b : Bool) → if_may s (b && false) ≡ None
    by_test true = refl
    by_test false = refl

-- ---- the step

abbrev by_end : ℕ → ℕ → Core → Option (Demand Sending) → Bool → Requested
by_end node now s wanted b = if b then (record { after = s; told = []; answer = Err Ended }) else elim wanted [
  | None ↦ (record { after = s; told = []; answer = Ok None })
  | Some d ↦ if is_spent s then (record { after = s; told = []; answer = Err CorrelationSpent }) else go_out node now s d
]

going : (node now : ℕ) (s : Core) → s.ended ≡ false → request_step node now s ≡ by_end node now s (next_demand node now s) false
unfolding request_step
going node now s e = ap (by_end node now s (next_demand node now s)) e

is_ended : (node now : ℕ) (s : Core) → s.ended ≡ true → request_step node now s ≡ by_end node now s (next_demand node now s) true
unfolding request_step
is_ended node now s e = ap (by_end node now s (next_demand node now s)) e

abbrev by_spent : ℕ → ℕ → Core → Demand Sending → Bool → Requested
by_spent node now s d b = if b then (record { after = s; told = []; answer = Err CorrelationSpent }) else go_out node now s d

pub idle : (node now : ℕ) (s : Core) → s.ended ≡ false → next_demand node now s ≡ None
    → request_step node now s ≡ record { after = s; told = []; answer = Ok None }
idle node now s e f = going node now s e ∙ ap (λ (o : Option (Demand Sending)). by_end node now s o false) f

pub spent : (node now : ℕ) (s : Core) (d : Demand Sending) → s.ended ≡ false → next_demand node now s ≡ Some d → is_spent s ≡ true
    → request_step node now s ≡ record { after = s; told = []; answer = Err CorrelationSpent }
spent node now s d e f g = going node now s e ∙ ap (λ (o : Option (Demand Sending)). by_end node now s o false) f ∙ ap (by_spent node now s d) g

pub out : (node now : ℕ) (s : Core) (d : Demand Sending) → s.ended ≡ false → next_demand node now s ≡ Some d → is_spent s ≡ false
    → request_step node now s ≡ go_out node now s d
out node now s d e f g = going node now s e ∙ ap (λ (o : Option (Demand Sending)). by_end node now s o false) f ∙ ap (by_spent node now s d) g

-- ---- the call

pub answers_ended : (node now : ℕ) (s : Core) → s.ended ≡ true → Step s (Request node now (Err Ended)) s
answers_ended node now s e =
    let is = is_ended node now s e in
    (ap (λ (x : Requested). answered_as s x.answer) is, ap (λ (x : Requested). x.after) (sym is))

pub answers_none : (node now : ℕ) (s : Core) → s.ended ≡ false → next_demand node now s ≡ None → Step s (Request node now (Ok None)) s
answers_none node now s e f =
    let is = idle node now s e f in
    (ap (λ (x : Requested). answered_as s x.answer) is, ap (λ (x : Requested). x.after) (sym is))

pub answers_spent : (node now : ℕ) (s : Core) (d : Demand Sending) → s.ended ≡ false → next_demand node now s ≡ Some d → is_spent s ≡ true
    → Step s (Request node now (Err CorrelationSpent)) s
answers_spent node now s d e f g =
    let is = spent node now s d e f g in
    (ap (λ (x : Requested). answered_as s x.answer) is, ap (λ (x : Requested). x.after) (sym is))

pub answers_memory : (node now : ℕ) (s : Core) (d : Demand Sending) → s.ended ≡ false → next_demand node now s ≡ Some d → is_spent s ≡ false
    → Step s (Request node now (Err OutOfMemory)) s
answers_memory node now s d e f g = (subst (λ (x : Requested). IsOkAnd x.answer IsSome) (sym (out node now s d e f g)) (search rules), refl)

pub answers_out : (node now : ℕ) (s t : Core) (d : Demand Sending) (bytes : List ℕ) → s.ended ≡ false → next_demand node now s ≡ Some d → is_spent s ≡ false
    → bytes ≡ frame_of s.config s.names (record { correlation = s.correlation; demand = d }) → t ≡ sent_out node now s d
    → Step s (Request node now (Ok (Some (record { correlation = s.correlation; bytes = bytes })))) t
answers_out node now s t d bytes e f g written after =
    let is = out node now s d e f g in (
      ap (λ (x : Requested). answered_as s x.answer) is ∙ ap (λ (b : List ℕ). Ok (Some (record { correlation = s.correlation; bytes = b }))) (sym written),
      after ∙ ap (λ (x : Requested). x.after) (sym is),
    )

-- where there are batches or none, by the test
pub some_if : (xs : List Sending) → not (is_empty xs) ≡ true → xs ≡ [] → ⊥
some_if [] e same = absurd cc
some_if (x ∷ xs) e same = absurd cc

pub none_if : (xs : List Sending) → not (is_empty xs) ≡ false → xs ≡ []
none_if [] e = refl
none_if (x ∷ xs) e = absurd cc
