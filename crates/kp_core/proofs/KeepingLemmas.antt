-- What a step leaves of a core's places: what is told gives its place back, and what is appended keeps one.
use Rattle.std.proofs.Common.{◌≡◌, ◌∙◌, ℕ, ◌+◌, ◌<◌, true, false, List, [], ◌∷◌, length, sym, ap, subst, arith}
use Rattle.std.specs.Prelude.{sum_by}
use Rattle.kp_accum.specs.declared.item.Item.{Item}
use Rattle.kp_accum.specs.Queue.{charge_of}
use Rattle.kp_rules.specs.declared.outcome.Outcome.TheVariants.{Unknown, Unsent}
use Rattle.kp_rules.specs.declared.outcome.Reason.{Reason}
use Rattle.kp_rules.specs.Appending.{may_append, turn_away, with_queued, would_exhaust}
use Rattle.kp_rules.specs.Held.{IsRecord}
use Rattle.kp_rules.specs.InOrder.{IsInOrder}
use Rattle.kp_rules.specs.Partitions.{all_untold, partition_at, used}
use Rattle.kp_rules.specs.Records.{Core, Told}
use Rattle.kp_rules.specs.Telling.{told_all}
use Rattle.kp_rules.proofs.AccountingLemmas.{queued_accounted}
use Rattle.kp_rules.proofs.OrderedCallLemmas.{order_queued, order_turned}
use Rattle.kp_rules.proofs.RuleLemmas.{items_told, Keeps}
use Rattle.kp_parts.specs.Desk.{Desk, HavePlaces, Covers, with_place, tell_desk, tell_free}
use Rattle.kp_parts.proofs.DeskKeeping.{Conserves, Gains, count-all, covers-gained, covers-kept, covers-told, room-turned}
use Rattle.kp_parts.proofs.DeskLemmas.{charges-all, charges-items, items-all, length-all}
use Rattle.kp_parts.proofs.TellingLemmas.{tell_desk-nil}
use Rattle.kp_core.specs.Keeping.{IsKept}

-- ---- what is not told, as if it were

abbrev pub untold_of : Core → List Told
untold_of s = told_all Unknown (all_untold s)

untold_items : (s : Core) → items_told (untold_of s) ≡ all_untold s
untold_items s = items-all Unknown (all_untold s)

pub covered : {s : Core} {d : Desk} → IsKept s d → Covers d (untold_of s)
unfolding used
covered {s} {d} k = record {
  places = k.places;
  count = omega (arith, k.untold, length-all Unknown (all_untold s));
  charges = omega (arith, k.used, charges-all Unknown (all_untold s));
}

-- ---- a step that appends nothing

-- It leaves a core in order, and what was told and what is left are what was there.
pub record Leaves (s : Core) (told : List Told) (t : Core) : Type 0 where
  pub order : IsInOrder t
  pub config : t.config ≡ s.config
  pub sums : (f : Item → ℕ) → Keeps f (all_untold s) told (all_untold t)

conserved : {s t : Core} {told : List Told} → Leaves s told t → Conserves (untold_of s) told (untold_of t)
conserved {s} {t} {told} l = record {
  sums = λ f. omega (arith, l.sums f, ap (sum_by f) (untold_items s), ap (sum_by f) (untold_items t));
}

-- what it tells is covered
pub covers_told : {s t : Core} {d : Desk} {told : List Told} → IsKept s d → Leaves s told t → Covers d told
covers_told {s} {t} {d} {told} k l = covers-told (untold_of s) told (untold_of t) d (conserved l) (covered k)

count_untold : (s : Core) → length (all_untold s) ≡ sum_by (λ (i : Item). 1) (all_untold s)
count_untold s = sym (length-all Unknown (all_untold s)) ∙ count-all (untold_of s) ∙ ap (sum_by (λ (i : Item). 1)) (untold_items s)

pub told_kept : {s t : Core} {d e : Desk} {told : List Told} → IsKept s d → Leaves s told t
    → e ≡ tell_desk told d → IsKept t e
unfolding used
told_kept {s} {t} {d} {e} {told} k l is =
    let c = covers-kept (untold_of s) told (untold_of t) d (conserved l) (covered k) in
    let untold = ap (λ (x : Desk). x.untold) is in
    let charges = ap (λ (x : Desk). x.used) is in
    let limit = ap (λ (x : Desk). x.limit) is in
    let memory = ap (λ (c : _). c.buffer_memory) l.config in
    record {
      order = l.order;
      places = subst (λ (x : Desk). HavePlaces x.lines (untold_of t)) (sym is) c.places;
      untold = omega (arith, untold, k.untold, count_untold s, count_untold t, count-all told, l.sums (λ (i : Item). 1));
      used = omega (arith, charges, k.used, charges-items told, l.sums charge_of);
      limit = omega (arith, limit, k.limit, memory);
    }

-- ---- a step that tells nothing

pub quiet_kept : {s t : Core} {d : Desk} → IsKept s d → Leaves s [] t → IsKept t d
quiet_kept {d = d} k l = told_kept k l (sym (tell_desk-nil d))

-- ---- an item is appended

gains : (i : Item) (s : Core) → may_append i s ≡ true → Gains (untold_of s) (untold_of (with_queued i s)) i
gains i s may = record {
  sums = λ f. omega (arith, queued_accounted f i s may, ap (sum_by f) (untold_items s), ap (sum_by f) (untold_items (with_queued i s)));
}

-- it is queued
pub gained_kept : {s : Core} {d : Desk} (i : Item) → IsRecord i.body → may_append i s ≡ true → s.ended ≡ false
    → (partition_at i.partition s.partitions).fenced ≡ false → would_exhaust i s ≡ false → i.sender < length d.lines
    → IsKept s d
    → IsKept (with_queued i s) (record (with_place i.sender d) { untold = d.untold + 1; used = d.used + charge_of i })
unfolding used
gained_kept {s} {d} i held may going free fits there k =
    let c = covers-gained (untold_of s) (untold_of (with_queued i s)) i d (gains i s may) there (covered k) in
    record {
      order = order_queued i s held may going free fits k.order;
      places = c.places;
      untold = omega (arith, k.untold, count_untold s, count_untold (with_queued i s), queued_accounted (λ (j : Item). 1) i s may);
      used = omega (arith, k.used, queued_accounted charge_of i s may);
      limit = k.limit;
    }

-- it is turned away
pub turned_kept : {s : Core} {d : Desk} (why : Reason) (i : Item) → i.sender < length d.lines → IsKept s d
    → IsKept (turn_away why i s).after (tell_free (told_all (Unsent why) (i ∷ [])) (with_place i.sender d))
unfolding used
turned_kept {s} {d} why i there k = record {
  order = order_turned why i s k.order;
  places = record {
    places = λ sender. omega (arith, k.places.places sender, room-turned (Unsent why) i sender d there);
  };
  untold = k.untold;
  used = k.used;
  limit = k.limit;
}
