-- The last part of a turn.
use Rattle.std.proofs.Common.{◌≡◌, ◌⊎◌, ℕ, Bool, true, false, List, [], ◌∷◌, ◌++◌, length, refl, sym, ap, ◌∙◌, subst, inl, inr, arith}
use Rattle.std.specs.Prelude.{Option, None, ◌&&◌, ◌==◌}
use Rattle.std.proofs.lemmas.Bool.{eqb-true}
use Rattle.std.proofs.lemmas.List.{nil_from_length}
use Rattle.kp_accum.specs.declared.item.Item.{Item}
use Rattle.kp_lanes.specs.Intake.{told_of}
use Rattle.kp_lanes.specs.declared.intake.Intake.{Intake}
use Rattle.kp_rules.specs.Calls.{Disconnect}
use Rattle.kp_rules.specs.Partitions.{all_untold}
use Rattle.kp_rules.specs.declared.outcome.Report.{Report}
use Rattle.kp_engine.specs.Agreement.{held_at}
use Rattle.kp_engine.specs.Exchange.{OnlyCore, Runs, SomeHeld, mail_of, senders_of}
use Rattle.kp_engine.specs.Polls.{FinishesAll, FinishesUntil, is_cut}
use Rattle.kp_engine.specs.Steps.{OnlyMails, SendsAll, SendsAllUntil}
use Rattle.kp_engine.specs.Turn.{Mail, Side, MailParts, if_so}
use Rattle.kp_engine.specs.declared.exchange.Exchange.{Exchange}
use Rattle.kp_engine.specs.declared.stop.Cause.{Cause}
use Rattle.kp_engine.proofs.RunLemmas.{runs_then}

mail_in : Intake → List (Option Report) → ℕ → Mail
mail_in intake reports i = record { told = told_of intake i; held = held_at reports i }

-- What holds of the mail before, holds of the mail after calls on the core alone.
pub mail_through : (P : (ℕ → Mail) → Type 0) (x y : Exchange) → OnlyCore x y → P (mail_of y) → P (mail_of x)
mail_through P x y only p =
    subst (λ (t : Intake). P (λ i. record { told = told_of t i; held = held_at x.reports.items i })) only.intake
    (subst (λ (rs : List (Option Report)). P (λ i. record { told = told_of y.intake i; held = held_at rs i })) only.reports p)

no_items : {A : Type 0} (xs : List A) → (length xs == 0) ≡ true → xs ≡ []
no_items xs e = nil_from_length xs (eqb-true (length xs) 0 e)

-- what a conjunction of four says
each_true : (closed idle all : Bool) (untold : List Item) → (closed && idle && all && (length untold == 0)) ≡ true
    → (closed ≡ true) × (idle ≡ true) × (all ≡ true) × (untold ≡ [])
each_true true true true untold e = (refl, refl, refl, no_items untold e)
each_true true true false untold e = absurd cc
each_true true false all untold e = absurd cc
each_true false idle all untold e = absurd cc

unless_each : {done : Bool} {x : Exchange} (closed idle all : Bool) (untold : List Item) → done ≡ (closed && idle && all && (length untold == 0)) → (all ≡ true) ⊎ SomeHeld x
    → (done ≡ true) ⊎ ((idle ≡ false) ⊎ ((closed ≡ false) ⊎ (((untold ≡ []) → ⊥) ⊎ SomeHeld x)))
unless_each false idle all untold is held = inr (inr (inl refl))
unless_each true false all untold is held = inr (inl refl)
unless_each true true all untold is (inr held) = inr (inr (inr (inr held)))
unless_each true true false untold is (inl e) = absurd cc
unless_each true true true [] is (inl e) = inl is
unless_each true true true (x ∷ xs) is (inl e) = inr (inr (inr (inl (λ none. absurd cc))))

module _ (node now : ℕ) (cut : Option Cause) (x y z : Exchange) (drops : Runs x (if_so (is_cut cut) (Disconnect node now)) y) (only : OnlyCore x y) where
  pub finished_until : SendsAllUntil y z → FinishesUntil node now cut x z
  finished_until h = record {
    calls = if_so (is_cut cut) (Disconnect node now) ++ h.calls;
    part = record {
      dropped = is_cut cut;
      only_cut = λ is. is;
      senders = h.senders;
      of_senders = h.calls;
      parts = mail_through (λ (old : ℕ → Mail). MailParts h.senders old h.calls (mail_of z)) x y only h.parts;
      later = λ k far. mail_through (λ (old : ℕ → Mail). mail_of z k ≡ old k) x y only (h.later k far);
      made = refl;
    };
    runs = runs_then x y z (if_so (is_cut cut) (Disconnect node now)) h.calls drops h.runs;
  }

  pub finished : (idle all done : Bool) → SendsAll y z all → OnlyMails x z
      → done ≡ (z.closed && idle && all && (length (all_untold z.core) == 0)) → FinishesAll node now cut x idle done z
  finished idle all done h mails is = record {
    calls = if_so (is_cut cut) (Disconnect node now) ++ h.calls;
    part = record {
      of_senders = h.calls;
      parts = mail_through (λ (old : ℕ → Mail). MailParts (senders_of x) old h.calls (mail_of z)) x y only
          (subst (λ (n : ℕ). MailParts n (mail_of y) h.calls (mail_of z)) (ap length only.items) h.parts);
      made = refl;
    };
    runs = runs_then x y z (if_so (is_cut cut) (Disconnect node now)) h.calls drops h.runs;
    moved = h.moved;
    done = λ yes. let each = each_true z.closed idle all (all_untold z.core) (sym is ∙ yes) in (
      each.1,
      λ idle_before. record {
        closed = each.0;
        all_told = each.3;
        no_item = λ i near. ap (λ (s : Side). s.held) (mails.sides i) ∙ (idle_before i (omega (arith, near, mails.lanes.senders))).none_held;
        no_report = λ i near.
            let none = h.none_held each.2 i near in
            (none, (h.moved i near).moved none);
      },
    );
    undone = unless_each z.closed idle all (all_untold z.core) is h.held;
  }

-- nothing was dropped, where the turn was not cut
pub drops_none : (node now : ℕ) (cut : Option Cause) (x : Exchange) → cut ≡ None → Runs x [] x → Runs x (if_so (is_cut cut) (Disconnect node now)) x
drops_none node now cut x none runs = subst (λ (o : Option Cause). Runs x (if_so (is_cut o) (Disconnect node now)) x) (sym none) runs
