-- Until it is due, nothing comes up by itself.
use Rattle.std.proofs.Common.{◌≡◌, refl, sym, ap, ◌∙◌, subst, ℕ, zero, suc, ◌+◌, ◌^◌, ◌-◌, ◌<◌, min, Bool, true, false, true≢false, not, ◌&&◌, ◌||◌, cond, Option, Some, None, List, [], ◌∷◌, length, map, drop, nat_lt, nat_le, is_none, arith}
use Rattle.std.specs.Prelude.{if◌then◌else◌, position, fold, filter}
use Rattle.std.specs.List.{list_any, position_or_len}
use Rattle.std.specs.Option.{option_map, option_map_or, option_or}
use Rattle.std.proofs.lemmas.Bool.Decides.{nat_tests}
use Rattle.kp_cluster.specs.declared.slot.Slot.{Slot}
use Rattle.kp_cluster.specs.Slots.{is_open, is_live, is_away, is_wanted, is_ready, is_given_up}
use Rattle.kp_cluster.specs.Cluster.{Cluster, is_open_at, asking_again, chart_refused, with_given_up}
use Rattle.kp_cluster.specs.Backoff.{later}
use Rattle.kp_cluster.specs.Metadata.{METADATA_PAUSE_MS, is_past, is_to_be_asked, may_ask, heeded, heeded_with, is_aged}
use Rattle.kp_cluster.specs.Actions.{told, in_turn, is_due, earlier, sooner, waits, not_before, next_connect, next_ask, next_aged, next_metadata, next_metadata_with, next_due, pause_end, later_than, IsBefore}
use Rattle.kp_cluster.proofs.ClusterLemmas.{next_of_open, tells_none_live, tells_turn}

-- ---- moments

below_min : (now a b : ℕ) → now < min a b → (now < a) × (now < b)
below_min now a b h = (grind (arith, h), grind (arith, h))

before_both : (now : ℕ) (a b : Option ℕ) → IsBefore now (earlier a b) → IsBefore now a × IsBefore now b
before_both now None b h = (tt, h)
before_both now (Some a) None h = (h, tt)
before_both now (Some a) (Some b) h = below_min now a b h

not_past : (wait now at : ℕ) → now < later at wait → is_past wait now at ≡ false
not_past wait now at h =
    let below = (below_min now (at + wait) (2 ^ 64 - 1) h).0 in
    grind (arith, nat_tests, below)

-- ---- tests

unless : (b : Bool) → (b ≡ true → ⊥) → b ≡ false
unless true h = absurd (h refl)
unless false h = refl

none_of : (o : Option ℕ) → is_none o ≡ true → o ≡ None
none_of None e = refl
none_of (Some n) e = absurd (true≢false (sym e))

both_of : (a b : Bool) → (a && b) ≡ true → (a ≡ true) × (b ≡ true)
both_of true b e = (refl, e)
both_of false b e = absurd (true≢false (sym e))

three_of : (a b c : Bool) → (a && b && c) ≡ true → (a ≡ true) × (b ≡ true) × (c ≡ true)
three_of true true c e = (refl, refl, e)
three_of true false c e = absurd (true≢false (sym e))
three_of false b c e = absurd (true≢false (sym e))

-- ---- Metadata

or_right : (a b : Bool) → b ≡ true → (a || b) ≡ true
or_right true b e = refl
or_right false b e = e

open_somewhere : (slots : List Slot) (n : ℕ) → is_open_at n slots ≡ true → list_any is_open slots ≡ true
open_somewhere [] n e = absurd (true≢false (sym e))
open_somewhere (s ∷ slots) zero e = ap (λ (b : Bool). b || list_any is_open slots) e
open_somewhere (s ∷ slots) (suc n) e =
    let rest = open_somewhere slots n e in
    or_right (is_open s) (list_any is_open slots) rest

paused_out : (now : ℕ) (o : Option ℕ) → now < pause_end o → option_map_or (is_past METADATA_PAUSE_MS now) o true ≡ true → ⊥
paused_out now None h e = absurd (omega (arith, h))
paused_out now (Some at) h e = true≢false (sym e ∙ not_past METADATA_PAUSE_MS now at h)

pub not_asked : (c : Cluster) (n now : ℕ) → IsBefore now (next_due c) → may_ask n now c ≡ false
not_asked c n now h =
    unless (may_ask n now c) (λ may.
    let split = both_of (is_open_at n c.slots) (is_to_be_asked now c.metadata) may in
    let parts = three_of c.metadata.wanted (is_none c.metadata.awaited) (option_map_or (is_past METADATA_PAUSE_MS now) c.metadata.asked_at true) split.1 in
    let ask = next_of_open true c (none_of c.metadata.awaited parts.1) parts.0 (open_somewhere c.slots n split.0) in
    let before = (before_both now (next_connect c) (next_metadata c) h).1 in
    paused_out now c.metadata.asked_at (subst (λ (o : Option ℕ). IsBefore now o) (sym ask) before) parts.2)

not_past_or : (wait now : ℕ) (o : Option ℕ) → IsBefore now (later_than wait o) → option_map_or (is_past wait now) o false ≡ false
not_past_or wait now None h = refl
not_past_or wait now (Some at) h = not_past wait now at h

either_stays : (b : Bool) (c d : Cluster) → d ≡ c → (if b then d else c) ≡ c
either_stays true c d e = e
either_stays false c d e = refl

stays_young : (w : Bool) (c : Cluster) (now : ℕ) → c.metadata.wanted ≡ w → IsBefore now (if w then next_ask c else next_aged c)
    → (if is_aged now c then asking_again c else c) ≡ c
stays_young true c now e h =
    either_stays (is_aged now c) c (asking_again c) (ap (λ (w : Bool). record c { metadata = record c.metadata { wanted = w } }) (sym e))
stays_young false c now e h =
    ap (λ (b : Bool). if b then asking_again c else c) (not_past_or c.config.metadata_max_age_ms now c.metadata.charted_at h)

stays_heeded : (c : Cluster) (now : ℕ) (o : Option ℕ) → IsBefore now (next_metadata_with c o) → heeded_with now c o ≡ c
stays_heeded c now None h = stays_young c.metadata.wanted c now refl h
stays_heeded c now (Some n) h =
    ap (λ (b : Bool). if b then chart_refused (with_given_up n c) else c) (not_past_or c.config.request_timeout_ms now c.metadata.asked_at h)

pub not_heeded : (c : Cluster) (now : ℕ) → IsBefore now (next_due c) → heeded now c ≡ c
not_heeded c now h = stays_heeded c now c.metadata.awaited (before_both now (next_connect c) (next_metadata c) h).1

-- ---- connections

-- Each that waits, waits longer.
abbrev pub AreLate : ℕ → Bool → List Slot → Type 0
AreLate now lonely [] = Unit {0}
AreLate now lonely (s ∷ slots) = (waits lonely s ≡ true → now < s.not_before) × AreLate now lonely slots

late_by : (now : ℕ) (lonely b : Bool) (s : Slot) (slots : List Slot) (due : Option ℕ) → waits lonely s ≡ b
    → ((d : Option ℕ) → IsBefore now (fold sooner d (map not_before (filter (waits lonely) slots))) → IsBefore now d × AreLate now lonely slots)
    → IsBefore now (fold sooner due (map not_before (cond b (s ∷ filter (waits lonely) slots) (filter (waits lonely) slots))))
    → IsBefore now due × AreLate now lonely (s ∷ slots)
late_by now lonely true s slots due e rest h =
    let got = rest (sooner due s.not_before) h in
    let both = before_both now due (Some s.not_before) got.0 in
    (both.0, ((λ _. both.1), got.1))
late_by now lonely false s slots due e rest h =
    let got = rest due h in
    (got.0, ((λ yes. absurd (true≢false (sym yes ∙ e))), got.1))

late_from : (now : ℕ) (lonely : Bool) (slots : List Slot) (due : Option ℕ)
    → IsBefore now (fold sooner due (map not_before (filter (waits lonely) slots))) → IsBefore now due × AreLate now lonely slots
late_from now lonely [] due h = (h, tt)
late_from now lonely (s ∷ slots) due h = late_by now lonely (waits lonely s) s slots due refl (λ d. late_from now lonely slots d) h

-- No slot passes.
abbrev pub AreFalse : (Slot → Bool) → List Slot → Type 0
AreFalse test [] = Unit {0}
AreFalse test (s ∷ slots) = (test s ≡ false) × AreFalse test slots

nowhere : (test : Slot → Bool) (slots : List Slot) → AreFalse test slots → position_or_len test slots ≡ length slots
nowhere test [] h = refl
nowhere test (s ∷ slots) h =
    let rest = nowhere test slots h.1 in
    ap (λ (b : Bool). cond (not b) (1 + position_or_len test slots) 0) h.0 ∙ omega (arith, rest)

no_position : (test : Slot → Bool) (slots : List Slot) → AreFalse test slots → position test slots ≡ None
no_position test slots h =
    let end : nat_lt (position_or_len test slots) (length slots) ≡ false = grind (arith, nat_tests, nowhere test slots h) in
    ap (λ (b : Bool). cond b (Some (position_or_len test slots)) None) end

false_behind : (test : Slot → Bool) (n : ℕ) (slots : List Slot) → AreFalse test slots → AreFalse test (drop n slots)
false_behind test zero slots h = h
false_behind test (suc n) [] h = h
false_behind test (suc n) (s ∷ slots) h = false_behind test n slots h.1

not_due : (w a l : Bool) (moment now : ℕ) → ((a && (w || l)) ≡ true → now < moment) → (w && (a && nat_le moment now)) ≡ false
not_due true true l moment now h = let below = h refl in grind (arith, nat_tests, below)
not_due true false l moment now h = refl
not_due false a l moment now h = refl

not_ready : (w a : Bool) (moment now : ℕ) → ((a && (w || true)) ≡ true → now < moment) → (a && nat_le moment now) ≡ false
not_ready true true moment now h = let below = h refl in grind (arith, nat_tests, below)
not_ready false true moment now h = let below = h refl in grind (arith, nat_tests, below)
not_ready w false moment now h = refl

none_due : (now : ℕ) (lonely : Bool) (slots : List Slot) → AreLate now lonely slots → AreFalse (is_due now) slots
none_due now lonely [] h = tt
none_due now lonely (s ∷ slots) h = (not_due (is_wanted s) (is_away s) lonely s.not_before now h.0, none_due now lonely slots h.1)

none_ready : (now : ℕ) (slots : List Slot) → AreLate now true slots → AreFalse (is_ready now) slots
none_ready now [] h = tt
none_ready now (s ∷ slots) h = (not_ready (is_wanted s) (is_away s) s.not_before now h.0, none_ready now slots h.1)

none_in_turn : (test : Slot → Bool) (turn : ℕ) (slots : List Slot) → AreFalse test slots → in_turn test turn slots ≡ None
none_in_turn test turn slots h =
    ap (λ (o : Option ℕ). option_or (option_map (λ k. turn + k) o) (position test slots)) (no_position test (drop turn slots) (false_behind test turn slots h))
    ∙ no_position test slots h

tells_nothing : (b : Bool) (c : Cluster) (now : ℕ) → position is_given_up c.slots ≡ None → position (is_due now) c.slots ≡ None
    → list_any is_live c.slots ≡ b → AreLate now (not b) c.slots → told now c ≡ record { action = None; cluster = c }
tells_nothing true c now given due live late = tells_none_live now c given due live
tells_nothing false c now given due live late =
    tells_turn now None c given due live (none_in_turn (is_ready now) c.turn c.slots (none_ready now c.slots late))

pub not_told : (c : Cluster) (now : ℕ) → IsBefore now (next_due c) → position is_given_up c.slots ≡ None
    → told now c ≡ record { action = None; cluster = c }
not_told c now h given =
    let lonely = not (list_any is_live c.slots) in
    let late = (late_from now lonely c.slots None (before_both now (next_connect c) (next_metadata c) h).0).1 in
    tells_nothing (list_any is_live c.slots) c now given (no_position (is_due now) c.slots (none_due now lonely c.slots late)) refl late
