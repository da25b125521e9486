-- Between two requests of Metadata there is the pause.
use Rattle.std.proofs.Common.{◌≡◌, refl, sym, ap, ◌∙◌, ℕ, ◌+◌, ◌≤◌, Bool, true, false, true≢false, ◌&&◌, Option, Some, None, List, nat_le, is_none, arith}
use Rattle.std.specs.Prelude.{if◌then◌else◌, nat_lt, length, ℤ, position}
use Rattle.std.specs.Option.{option_map_or}
use Rattle.std.proofs.lemmas.Bool.Decides.{nat_tests}
use Rattle.kp_hello.specs.declared.Node.{Node}
use Rattle.kp_cluster.specs.Slots.{changed, is_given_up}
use Rattle.kp_cluster.specs.Cluster.{Cluster, is_open_at, chart_refused, asking_again, with_given_up}
use Rattle.kp_cluster.specs.Backoff.{has_none, lost_for, metadata_lost}
use Rattle.kp_cluster.specs.Metadata.{METADATA_PAUSE_MS, is_past, is_to_be_asked, may_ask, asked, heeded_with, is_aged, is_late}
use Rattle.kp_cluster.specs.Actions.{closes, connects, tries, tried, is_due}
use Rattle.kp_cluster.specs.Learning.{learned_over, charted, charted_to_one, charted_by_id}
use Rattle.kp_cluster.specs.Runs.{Call, Step, Runs}
use Rattle.kp_cluster.specs.Runs.Call.{NextAction, Connected, Lost, GiveUp, Want, Answered, Asked, AskAgain, RefuseChart, Heed, Learn}
use Rattle.kp_cluster.specs.Runs.Runs.{not_yet, once_more}

asked_at : Cluster → Option ℕ
asked_at c = c.metadata.asked_at

right_of : (a b : Bool) → (a && b) ≡ true → b ≡ true
right_of true b e = e
right_of false b e = absurd (true≢false (sym e))

last_of : (a b c : Bool) → (a && b && c) ≡ true → c ≡ true
last_of true true c e = e
last_of true false c e = absurd (true≢false (sym e))
last_of false b c e = absurd (true≢false (sym e))

-- what was asked at this moment is not asked again before the pause is over
pub asked_before : (n now t : ℕ) (c : Cluster) → c.metadata.asked_at ≡ Some t → may_ask n now c ≡ true → t + METADATA_PAUSE_MS ≤ now
asked_before n now t c at may =
    let to_be = right_of (is_open_at n c.slots) (is_to_be_asked now c.metadata) may in
    let pause = last_of c.metadata.wanted (is_none c.metadata.awaited) (option_map_or (is_past METADATA_PAUSE_MS now) c.metadata.asked_at true) to_be in
    let test : nat_le (t + METADATA_PAUSE_MS) now ≡ true = sym (ap (λ (o : Option ℕ). option_map_or (is_past METADATA_PAUSE_MS now) o true) at) ∙ pause in
    grind (arith, nat_tests, test)

-- Metadata was asked last at this moment or later.
pub record AskedSince (at : ℕ) (o : Option ℕ) : Type 0 where
  pub moment : ℕ
  pub is : o ≡ Some moment
  pub since : at ≤ moment

since_along : (at : ℕ) (o p : Option ℕ) → p ≡ o → AskedSince at o → AskedSince at p
since_along at o p same h = record { moment = h.moment; is = same ∙ h.is; since = h.since }

-- ---- calls that ask for nothing

asked_by_lost : (b : Bool) (n now wait : ℕ) (c : Cluster)
    → (if b then c else record c { slots = changed (lost_for now wait) n c.slots; metadata = metadata_lost n c.metadata }).metadata.asked_at ≡ c.metadata.asked_at
asked_by_lost true n now wait c = refl
asked_by_lost false n now wait c = refl

asked_if : (b : Bool) (c d e : Cluster) → c.metadata.asked_at ≡ e.metadata.asked_at → d.metadata.asked_at ≡ e.metadata.asked_at
    → (if b then c else d).metadata.asked_at ≡ e.metadata.asked_at
asked_if true c d e h i = h
asked_if false c d e h i = i

asked_by_heeding : (now : ℕ) (c : Cluster) (o : Option ℕ) → (heeded_with now c o).metadata.asked_at ≡ c.metadata.asked_at
asked_by_heeding now c None = asked_if (is_aged now c) (asking_again c) c c refl refl
asked_by_heeding now c (Some n) = asked_if (is_late now c) (chart_refused (with_given_up n c)) c c refl refl

asked_by_learning : (nodes : List Node) (leaders : List (Option ℤ)) (now : ℕ) (c : Cluster) (o : Option ℕ)
    → (learned_over nodes leaders now c o).metadata.asked_at ≡ c.metadata.asked_at
asked_by_learning nodes leaders now c None = refl
asked_by_learning nodes leaders now c (Some n) =
    asked_if (nat_lt (length leaders) (length c.leaders)) (chart_refused c) (charted nodes leaders n now c) c refl
    (asked_if c.config.keep_to_one (charted_to_one leaders n now c) (charted_by_id nodes leaders now c) c refl refl)

asked_by_trying : (c : Cluster) (o : Option ℕ) → (tries c o).cluster.metadata.asked_at ≡ c.metadata.asked_at
asked_by_trying c None = refl
asked_by_trying c (Some n) = refl

asked_by_connecting : (now : ℕ) (c : Cluster) (o : Option ℕ) → (connects now c o).cluster.metadata.asked_at ≡ c.metadata.asked_at
asked_by_connecting now c None = asked_by_trying c (tried now c)
asked_by_connecting now c (Some n) = refl

asked_by_telling : (now : ℕ) (c : Cluster) (o : Option ℕ) → (closes now c o).cluster.metadata.asked_at ≡ c.metadata.asked_at
asked_by_telling now c None = asked_by_connecting now c (position (is_due now) c.slots)
asked_by_telling now c (Some n) = refl

-- ---- any calls

since_step : (at : ℕ) (a b : Cluster) (call : Call) → Step a call b → AskedSince at a.metadata.asked_at → AskedSince at b.metadata.asked_at
unfolding asked_at
since_step at a b (NextAction now) s h = since_along at _ _ (ap asked_at s ∙ asked_by_telling now a (position is_given_up a.slots)) h
since_step at a b (Connected n) s h = since_along at _ _ (ap asked_at s) h
since_step at a b (Lost n now) s h = since_along at _ _ (ap asked_at s.is ∙ asked_by_lost (has_none n a.slots) n now s.wait a) h
since_step at a b (GiveUp n) s h = since_along at _ _ (ap asked_at s) h
since_step at a b (Want n) s h = since_along at _ _ (ap asked_at s) h
since_step at a b (Answered n) s h = since_along at _ _ (ap asked_at s) h
since_step at a b (Asked n now) s h =
    record { moment = now; is = ap asked_at s.1; since = omega (arith, h.since, asked_before n now h.moment a h.is s.0) }
since_step at a b AskAgain s h = since_along at _ _ (ap asked_at s) h
since_step at a b RefuseChart s h = since_along at _ _ (ap asked_at s) h
since_step at a b (Heed now) s h = since_along at _ _ (ap asked_at s ∙ asked_by_heeding now a a.metadata.awaited) h
since_step at a b (Learn nodes leaders now) s h = since_along at _ _ (ap asked_at s ∙ asked_by_learning nodes leaders now a a.metadata.awaited) h

since_run : (at : ℕ) (a b : Cluster) (calls : List Call) → Runs a calls b → AskedSince at a.metadata.asked_at → AskedSince at b.metadata.asked_at
since_run at a _ _ not_yet h = h
since_run at a _ _ (once_more b c calls call runs step) h = since_step at b c call step (since_run at a b calls runs h)

pub paused : (a b : Cluster) (n m at now : ℕ) (calls : List Call) → Runs (asked n at a) calls b → may_ask m now b ≡ true → at + METADATA_PAUSE_MS ≤ now
paused a b n m at now calls runs may =
    let last = since_run at (asked n at a) b calls runs (record { moment = at; is = refl; since = omega arith }) in
    omega (arith, last.since, asked_before m now last.moment b last.is may)
