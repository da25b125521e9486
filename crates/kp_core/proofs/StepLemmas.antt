-- Calls that tell or only change the core, case by case: closing, a lost connection, the time and the end.
use Rattle.std.proofs.Common.{◌≡◌, ◌∙◌, ℕ, Bool, true, false, sym, ap}
use Rattle.std.specs.Prelude.{if◌then◌else◌}
use Rattle.kp_rules.specs.declared.ticked.Ticked.{Ticked}
use Rattle.kp_rules.specs.Calls.{Gives}
use Rattle.kp_rules.specs.Closing.{close_step, end_all, end_step}
use Rattle.kp_rules.specs.Dropping.{disconnect_step, drop_requests}
use Rattle.kp_rules.specs.Records.{Core, Called, quietly}
use Rattle.kp_rules.specs.Telling.{at_each}
use Rattle.kp_rules.specs.Tick.{Ticks, has_timed_out, heed_deadlines, tick_partitions, tick_step}

-- ---- closing

pub closes : (s : Core) → s.ended ≡ false → record s { closing = true } ≡ close_step s
unfolding close_step
closes s e = sym (ap (λ (b : Bool). if b then s else record s { closing = true }) e)

pub closes_no_more : (s : Core) → s.ended ≡ true → s ≡ close_step s
unfolding close_step
closes_no_more s e = sym (ap (λ (b : Bool). if b then s else record s { closing = true }) e)

-- ---- a lost connection

pub disconnects : (node now : ℕ) (s : Core) → s.ended ≡ false → drop_requests node now s ≡ disconnect_step node now s
unfolding disconnect_step
disconnects node now s e = sym (ap (λ (b : Bool). if b then s else drop_requests node now s) e)

pub disconnects_no_more : (node now : ℕ) (s : Core) → s.ended ≡ true → s ≡ disconnect_step node now s
unfolding disconnect_step
disconnects_no_more node now s e = sym (ap (λ (b : Bool). if b then s else drop_requests node now s) e)

-- ---- the end

pub ends : (s t : Core) (reports : ℕ) → s.ended ≡ false → reports ≡ (end_all s).answer → t ≡ (end_all s).after → Gives (end_step s) reports t
unfolding end_step
ends s t reports e answer after =
    let is : end_step s ≡ end_all s = ap (λ (b : Bool). if b then quietly s 0 else end_all s) e in
    (ap (λ (x : Called ℕ). x.answer) is ∙ sym answer, after ∙ ap (λ (x : Called ℕ). x.after) (sym is))

pub ends_no_more : (s : Core) → s.ended ≡ true → Gives (end_step s) 0 s
unfolding end_step
ends_no_more s e =
    let is : end_step s ≡ quietly s 0 = ap (λ (b : Bool). if b then quietly s 0 else end_all s) e in
    (ap (λ (x : Called ℕ). x.answer) is, ap (λ (x : Called ℕ). x.after) (sym is))

-- ---- the time

abbrev by_time : ℕ → ℕ → Core → Bool → Ticks
by_time node now s b =
    if b then tick_partitions heed_deadlines now true (drop_requests node now s)
    else tick_partitions heed_deadlines now false s

abbrev by_end : ℕ → ℕ → Core → Bool → Ticks
by_end node now s b = if b then quietly s (record { reports = 0; reconnect = false }) else by_time node now s (has_timed_out node now s)

pub ticks_no_more : (node now : ℕ) (s : Core) → s.ended ≡ true → Gives (tick_step node now s) (record { reports = 0; reconnect = false }) s
unfolding tick_step
ticks_no_more node now s e =
    let is : tick_step node now s ≡ quietly s (record { reports = 0; reconnect = false }) = ap (by_end node now s) e in
    (ap (λ (x : Ticks). x.answer) is, ap (λ (x : Ticks). x.after) (sym is))

-- the partitions of this core are looked at, which is the core, or what dropping its requests left
looked_at : (node now : ℕ) (s u t : Core) (reports : ℕ) (reconnect : Bool) → tick_step node now s ≡ tick_partitions heed_deadlines now reconnect u
    → reports ≡ (at_each (heed_deadlines u.config now) u).answer → t ≡ (at_each (heed_deadlines u.config now) u).after
    → Gives (tick_step node now s) (record { reports = reports; reconnect = reconnect }) t
looked_at node now s u t reports reconnect is answer after = (
  ap (λ (x : Ticks). x.answer) is ∙ ap (λ (n : ℕ). let x : Ticked = record { reports = n; reconnect = reconnect } in x) (sym answer),
  after ∙ ap (λ (x : Ticks). x.after) (sym is),
)

pub ticks_late : (node now : ℕ) (s u t : Core) (reports : ℕ) → s.ended ≡ false
    → has_timed_out node now s ≡ true → u ≡ drop_requests node now s
    → reports ≡ (at_each (heed_deadlines u.config now) u).answer → t ≡ (at_each (heed_deadlines u.config now) u).after
    → Gives (tick_step node now s) (record { reports = reports; reconnect = true }) t
unfolding tick_step
ticks_late node now s u t reports e late dropped answer after =
    looked_at node now s u t reports true
    (ap (by_end node now s) e ∙ ap (by_time node now s) late
    ∙ ap (tick_partitions heed_deadlines now true) (sym dropped)) answer after

pub ticks_in_time : (node now : ℕ) (s t : Core) (reports : ℕ) → s.ended ≡ false
    → has_timed_out node now s ≡ false → reports ≡ (at_each (heed_deadlines s.config now) s).answer → t ≡ (at_each (heed_deadlines s.config now) s).after
    → Gives (tick_step node now s) (record { reports = reports; reconnect = false }) t
unfolding tick_step
ticks_in_time node now s t reports e early answer after =
    looked_at node now s s t reports false (ap (by_end node now s) e ∙ ap (by_time node now s) early) answer after
