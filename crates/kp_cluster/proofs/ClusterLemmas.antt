-- What comes of calls, case by case.
use Rattle.std.proofs.Common.{◌≡◌, sym, ap, ◌∙◌, ℕ, ℤ, ◌<◌, ◌≤◌, Bool, true, false, true≢false, Option, Some, None, List, length, map, nat_lt, arith}
use Rattle.std.specs.Prelude.{if◌then◌else◌, position}
use Rattle.std.specs.List.{list_any}
use Rattle.std.proofs.lemmas.List.{length-map}
use Rattle.std.proofs.lemmas.Bool.Decides.{nat_tests}
use Rattle.std.specs.Option.{option_map_or}
use Rattle.kp_hello.specs.declared.Node.{Node}
use Rattle.kp_cluster.specs.declared.action.Action.TheVariants.{Connect, Close}
use Rattle.kp_cluster.specs.declared.slot.Slot.{Slot}
use Rattle.kp_cluster.specs.declared.slot.Address.{Address}
use Rattle.kp_cluster.specs.Slots.{is_away, is_given_up, is_live, is_open, is_ready, changed}
use Rattle.kp_cluster.specs.Sound.{IsSound}
use Rattle.kp_cluster.specs.Cluster.{Cluster, slot_of_address, asking_again, chart_refused, with_given_up}
use Rattle.kp_cluster.specs.Backoff.{Loses, has_none, lost_for, metadata_lost}
use Rattle.kp_cluster.specs.Metadata.{heeded, heeded_with, is_aged, is_late}
use Rattle.kp_cluster.specs.Actions.{told, closes, connects, tries, is_due, in_turn, closing, connecting, pause_end, later_than, next_ask, next_aged, next_metadata, next_metadata_with}
use Rattle.kp_cluster.specs.Learning.{SLOT_LIMIT, learned, learned_over, charted, charted_to_one, charted_by_id}

-- ---- one that is new

pub sound_at_first : (slots : List Slot) (addresses : List Address) → slots ≡ map slot_of_address addresses → length addresses ≤ SLOT_LIMIT → IsSound slots 0
sound_at_first slots addresses is limit = record {
  limit = rw (is, length-map addresses slot_of_address) limit;
  turn = omega arith;
}

-- ---- losses

pub loses_nothing : (n now : ℕ) (a : Cluster) → has_none n a.slots ≡ true → Loses n now a a
loses_nothing n now a none = record {
  wait = 0;
  within = λ s at here. absurd (true≢false (sym none ∙ ap (λ (o : Option Slot). option_map_or is_away o true) at ∙ here));
  is = sym (ap (λ (b : Bool). if b then a else record a { slots = changed (lost_for now 0) n a.slots; metadata = metadata_lost n a.metadata }) none);
}

-- ---- heeding

pub heeds_late : (now n : ℕ) (c : Cluster) → c.metadata.awaited ≡ Some n → is_late now c ≡ true
    → chart_refused (with_given_up n c) ≡ heeded now c
heeds_late now n c awaited late =
    sym (ap (heeded_with now c) awaited ∙ ap (λ (b : Bool). if b then chart_refused (with_given_up n c) else c) late)

pub heeds_in_time : (now n : ℕ) (c : Cluster) → c.metadata.awaited ≡ Some n → is_late now c ≡ false → c ≡ heeded now c
heeds_in_time now n c awaited late =
    sym (ap (heeded_with now c) awaited ∙ ap (λ (b : Bool). if b then chart_refused (with_given_up n c) else c) late)

pub heeds_aged : (now : ℕ) (c : Cluster) → c.metadata.awaited ≡ None → is_aged now c ≡ true → asking_again c ≡ heeded now c
heeds_aged now c awaited aged =
    sym (ap (heeded_with now c) awaited ∙ ap (λ (b : Bool). if b then asking_again c else c) aged)

pub heeds_young : (now : ℕ) (c : Cluster) → c.metadata.awaited ≡ None → is_aged now c ≡ false → c ≡ heeded now c
heeds_young now c awaited aged =
    sym (ap (heeded_with now c) awaited ∙ ap (λ (b : Bool). if b then asking_again c else c) aged)

-- ---- actions

pub tells_close : (now n : ℕ) (c : Cluster) → position is_given_up c.slots ≡ Some n
    → told now c ≡ record { action = Some (Close n); cluster = closing n c }
tells_close now n c given = ap (closes now c) given

pub tells_connect : (now n : ℕ) (c : Cluster) → position is_given_up c.slots ≡ None → position (is_due now) c.slots ≡ Some n
    → told now c ≡ record { action = Some (Connect n); cluster = connecting n c }
tells_connect now n c given due = ap (closes now c) given ∙ ap (connects now c) due

pub tells_none_live : (now : ℕ) (c : Cluster) → position is_given_up c.slots ≡ None → position (is_due now) c.slots ≡ None
    → list_any is_live c.slots ≡ true → told now c ≡ record { action = None; cluster = c }
tells_none_live now c given due live =
    ap (closes now c) given ∙ ap (connects now c) due
    ∙ ap (λ (b : Bool). tries c (if b then None else in_turn (is_ready now) c.turn c.slots)) live

pub tells_turn : (now : ℕ) (o : Option ℕ) (c : Cluster) → position is_given_up c.slots ≡ None → position (is_due now) c.slots ≡ None
    → list_any is_live c.slots ≡ false → in_turn (is_ready now) c.turn c.slots ≡ o → told now c ≡ tries c o
tells_turn now o c given due live turn =
    ap (closes now c) given ∙ ap (connects now c) due
    ∙ ap (λ (b : Bool). tries c (if b then None else in_turn (is_ready now) c.turn c.slots)) live
    ∙ ap (tries c) turn

-- ---- moments

pub next_of_awaited : (n : ℕ) (c : Cluster) → c.metadata.awaited ≡ Some n
    → later_than c.config.request_timeout_ms c.metadata.asked_at ≡ next_metadata c
next_of_awaited n c awaited = sym (ap (next_metadata_with c) awaited)

pub next_of_aged : (c : Cluster) → c.metadata.awaited ≡ None → c.metadata.wanted ≡ false → next_aged c ≡ next_metadata c
next_of_aged c awaited unwanted =
    sym (ap (next_metadata_with c) awaited ∙ ap (λ (b : Bool). if b then next_ask c else next_aged c) unwanted)

next_of_ask : (c : Cluster) → c.metadata.awaited ≡ None → c.metadata.wanted ≡ true → next_metadata c ≡ next_ask c
next_of_ask c awaited wanted =
    ap (next_metadata_with c) awaited ∙ ap (λ (b : Bool). if b then next_ask c else next_aged c) wanted

pub next_of_open : (b : Bool) (c : Cluster) → c.metadata.awaited ≡ None → c.metadata.wanted ≡ true → list_any is_open c.slots ≡ b
    → (if b then Some (pause_end c.metadata.asked_at) else None) ≡ next_metadata c
next_of_open b c awaited wanted any =
    sym (next_of_ask c awaited wanted ∙ ap (λ (d : Bool). if d then Some (pause_end c.metadata.asked_at) else None) any)

-- ---- charts

pub learns_nothing : (nodes : List Node) (leaders : List (Option ℤ)) (now : ℕ) (c : Cluster) → c.metadata.awaited ≡ None
    → c ≡ learned nodes leaders now c
learns_nothing nodes leaders now c awaited = sym (ap (learned_over nodes leaders now c) awaited)

pub learns_less : (nodes : List Node) (leaders : List (Option ℤ)) (now n : ℕ) (c : Cluster) → c.metadata.awaited ≡ Some n
    → length leaders < length c.leaders → chart_refused c ≡ learned nodes leaders now c
learns_less nodes leaders now n c awaited less =
    let here : nat_lt (length leaders) (length c.leaders) ≡ true = grind (arith, nat_tests) in
    sym (ap (learned_over nodes leaders now c) awaited ∙ ap (λ (b : Bool). if b then chart_refused c else charted nodes leaders n now c) here)

learns : (nodes : List Node) (leaders : List (Option ℤ)) (now n : ℕ) (c : Cluster) → c.metadata.awaited ≡ Some n
    → length c.leaders ≤ length leaders → learned nodes leaders now c ≡ charted nodes leaders n now c
learns nodes leaders now n c awaited whole =
    let here : nat_lt (length leaders) (length c.leaders) ≡ false = grind (arith, nat_tests) in
    ap (learned_over nodes leaders now c) awaited ∙ ap (λ (b : Bool). if b then chart_refused c else charted nodes leaders n now c) here

pub learns_to_one : (nodes : List Node) (leaders : List (Option ℤ)) (now n : ℕ) (c : Cluster) → c.metadata.awaited ≡ Some n
    → length c.leaders ≤ length leaders → c.config.keep_to_one ≡ true → charted_to_one leaders n now c ≡ learned nodes leaders now c
learns_to_one nodes leaders now n c awaited whole one =
    sym (learns nodes leaders now n c awaited whole
    ∙ ap (λ (b : Bool). if b then charted_to_one leaders n now c else charted_by_id nodes leaders now c) one)

pub learns_by_id : (nodes : List Node) (leaders : List (Option ℤ)) (now n : ℕ) (c : Cluster) → c.metadata.awaited ≡ Some n
    → length c.leaders ≤ length leaders → c.config.keep_to_one ≡ false → charted_by_id nodes leaders now c ≡ learned nodes leaders now c
learns_by_id nodes leaders now n c awaited whole one =
    sym (learns nodes leaders now n c awaited whole
    ∙ ap (λ (b : Bool). if b then charted_to_one leaders n now c else charted_by_id nodes leaders now c) one)
