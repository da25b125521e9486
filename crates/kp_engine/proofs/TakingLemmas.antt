-- A sender's items, appended one after the other.
use Rattle.std.proofs.Common.{◌≡◌, ℕ, ◌+◌, ◌<◌, ◌≤◌, ◌⊎◌, Bool, true, false, List, [], ◌∷◌, ◌++◌, length, get_or, refl, sym, ap, ◌∙◌, subst, append_assoc, append-nil, inl, inr, length-append, arith}
use Rattle.std.specs.Prelude.{Option, Some, None, Result, Ok, Err, IfSome, IsSome, is_some, drop, option_to_list, slice_set}
use Rattle.std.specs.List.{AllByRecursion}
use Rattle.std.proofs.lemmas.List.{length-map, map-append, get_or-set_same, get_or-set_other, set-get_or}
use Rattle.kp_wire.proofs.ListLemmas.{all_append}
use Rattle.kp_accum.specs.declared.fault.AppendFault.{AppendFault}
use Rattle.kp_accum.specs.declared.fault.AppendFault.TheVariants.{BufferFull, OutOfMemory}
use Rattle.kp_accum.specs.declared.item.Item.{Item}
use Rattle.kp_lanes.specs.Entries.{items_of, has_mark}
use Rattle.kp_lanes.specs.Intake.{lanes_of, common_of, passed_lists, passed_of, asked_lists, asked_at_of, told_lists, SameIntake}
use Rattle.kp_lanes.specs.Port.{asked_at, port_id}
use Rattle.kp_lanes.specs.declared.entry.Entry.{Entry}
use Rattle.kp_lanes.specs.declared.intake.Intake.{Intake}
use Rattle.kp_rules.specs.declared.outcome.Report.{Report}
use Rattle.kp_rules.specs.Calls.{Call, Append, Flush}
use Rattle.kp_engine.specs.Agreement.{held_at}
use Rattle.kp_engine.specs.Exchange.{OnlyCore, Runs, TookEnough, WasBusy, senders_of, side_of}
use Rattle.kp_engine.specs.Steps.{AppendsFrom, AppendsHeld, AppendsOne, AppendsSome, AppendsUntil, Flushes, HeldAgain, HoldsNow, OnlyLane, OnlySide, TakesOne, WholePart, ended_by}
use Rattle.kp_engine.specs.Turn.{Side, Takes, appends, fails, if_so, refuses}
use Rattle.kp_engine.specs.declared.exchange.Exchange.{Exchange}
use Rattle.kp_engine.proofs.RunLemmas.{runs_none, runs_still, runs_then}
use Rattle.kp_engine.proofs.AgreementLemmas.{none_some}
use Rattle.kp_engine.proofs.SideLemmas.{busy_still, enough_still, none_still, now_held, of_core, of_item, of_lane, runs_from, same_mail, same_side, side_same, side_then}

pub if_some_is : {A : Type 0} (P : A → Type 0) (o : Option A) → ((x : A) → o ≡ Some x → P x) → IfSome o P
if_some_is P None h = tt
if_some_is P (Some x) h = h x refl

pub some_is : (o : Option Item) (x : Item) → o ≡ Some x → IsSome o
some_is o x is = ap (λ (p : Option Item). is_some p) is

-- ---- the item that was held back

-- what only the core changed, or what is held at its place
passed_core : (i : ℕ) (a b : Exchange) → b.intake ≡ a.intake → (side_of b i).passed ≡ (side_of a i).passed
passed_core i a b h = ap (λ (t : Intake). passed_of t i) h

asked_core : (i : ℕ) (a b : Exchange) → b.intake ≡ a.intake → (side_of b i).asked_at ≡ (side_of a i).asked_at
asked_core i a b h = ap (λ (t : Intake). asked_at_of t i) h

pub held_done : (i : ℕ) (item : Item) (a b : Exchange) → held_at a.items.items i ≡ None → AppendsOne i item a (Ok tt) b → HeldAgain i item a b
held_done i item a b free h =
    let none : held_at b.items.items i ≡ None = ap (λ (l : List (Option Item)). held_at l i) h.1.items ∙ free in record {
      appended = item ∷ [];
      in_order = ap (λ (o : Option Item). item ∷ option_to_list o) (sym none);
      runs = subst (λ (o : Option Item). Runs a (Append item (Ok tt) ∷ refuses o) b) (sym none) h.0;
      passed = passed_core i a b h.1.intake;
      asked = asked_core i a b h.1.intake;
    }

pub held_refused : (i : ℕ) (item : Item) (fault : AppendFault) (a b : Exchange) → i < senders_of a → AppendsOne i item a (Err fault) b
    → AppendsHeld i item a (ended_by fault) b
held_refused i item BufferFull a b near h =
    let is : held_at b.items.items i ≡ Some item = now_held i a b (Some item) near h.1 in (
      refl,
      record {
        appended = [];
        in_order = ap (λ (o : Option Item). option_to_list o) (sym is);
        runs = subst (λ (o : Option Item). Runs a (refuses o) b) (sym is) h.0;
        passed = passed_core i a b h.1.intake;
        asked = asked_core i a b h.1.intake;
      },
    )
held_refused i item OutOfMemory a b near h = record {
  last = h.last;
  its = h.its;
  runs = h.runs;
  held = now_held i a b (Some item) near h.only;
  passed = passed_core i a b h.only.intake;
  asked = asked_core i a b h.only.intake;
}

pub only_one : (i : ℕ) (item : Item) (r : Result (Unit {0}) AppendFault) (a b : Exchange) → AppendsOne i item a r b → OnlySide i a b
only_one i item (Ok done) a b h = of_core i a b h.1
only_one i item (Err BufferFull) a b h = of_item i a b (Some item) h.1
only_one i item (Err OutOfMemory) a b h = of_item i a b (Some item) h.only

-- ---- it was taken from its place before

first_of_equal : (x y : Item) (xs ys : List Item) → x ∷ xs ≡ y ∷ ys → x ≡ y
first_of_equal x y xs ys e = cc

module _ (i : ℕ) (item : Item) (a m b : Exchange) (near : i < senders_of a) (was : held_at a.items.items i ≡ Some item) (now : HoldsNow i a None m) (its : item.sender ≡ i) where
  passed_now : (side_of b i).passed ≡ (side_of m i).passed → (side_of b i).passed ≡ (side_of a i).passed
  passed_now h = h ∙ passed_core i a m now.only.intake

  asked_now : (side_of b i).asked_at ≡ (side_of m i).asked_at → (side_of b i).asked_at ≡ (side_of a i).asked_at
  asked_now h = h ∙ asked_core i a m now.only.intake

  -- nothing was taken
  takes_held : (appended : List Item) → item ∷ [] ≡ appended ++ option_to_list (side_of b i).held → (side_of b i).passed ≡ (side_of m i).passed → Takes i (side_of a i) appended (side_of b i)
  takes_held appended order passed = record {
    taken = [];
    were_taken = ap items_of (passed_now passed) ∙ sym (append-nil (items_of (side_of a i).passed));
    few = omega arith;
    held_first = λ some. passed_now passed;
    in_order = append-nil (option_to_list (held_at a.items.items i)) ∙ ap (λ (o : Option Item). option_to_list o) was ∙ order;
    theirs = its_own appended (option_to_list (side_of b i).held) order;
  }
    where
      its_own : (xs ys : List Item) → item ∷ [] ≡ xs ++ ys → AllByRecursion (λ x. x.sender ≡ i) xs
      its_own [] ys e = tt
      its_own (x ∷ []) ys e = (subst (λ (y : Item). y.sender ≡ i) (first_of_equal item x [] ys e) its, tt)
      its_own (x ∷ y ∷ xs) ys e = absurd (omega (arith, ap length e))

  pub from_held : (r : Result Bool _) → AppendsHeld i item m r b → AppendsFrom i a r b
  from_held (Ok found) h = record {
    appended = h.1.appended;
    takes = takes_held h.1.appended h.1.in_order h.1.passed;
    asked = asked_now h.1.asked;
    runs = runs_from a m b _ now.core now.kept h.1.runs;
    enough = inl (some_is (held_at a.items.items i) item was);
    busy = inr (inl (some_is (held_at a.items.items i) item was));
    idle = λ is. absurd (not_both (sym h.0 ∙ is));
  }
    where
      not_both : false ≡ true → ⊥
      not_both e = cc
  from_held (Err refused) h = record {
    calls = fails h.last;
    part = record {
      appended = [];
      takes = takes_held [] (ap (λ (o : Option Item). option_to_list o) (sym h.held)) h.passed;
      asked = asked_now h.asked;
      last = h.last;
      last_held = λ x is. h.held ∙ ap (λ (y : Item). Some y) (sym (h.its x is));
      made = refl;
    };
    runs = runs_from a m b _ now.core now.kept h.runs;
  }

-- ---- items that are taken

-- So many were taken, and all of them appended.
pub record TakenSoFar (i n : ℕ) (a b : Exchange) : Type 0 where
  pub items : List Item
  pub passed : items_of (passed_of b.intake i) ≡ items_of (passed_of a.intake i) ++ items
  pub count : length items ≡ n
  pub theirs : AllByRecursion (λ x. x.sender ≡ i) items
  pub free : held_at b.items.items i ≡ None
  pub asked : asked_at_of b.intake i ≡ asked_at_of a.intake i
  pub runs : Runs a (appends items) b
  pub only : OnlySide i a b

false_true : false ≡ true → ⊥
false_true e = cc

not_some : {A : Type 0} (o : Option A) → o ≡ None → IsSome o → ⊥
not_some {A = A} o is some = false_true (ap (λ (x : Option A). is_some x) (sym is) ∙ some)

pub none_taken : (i : ℕ) (a : Exchange) → held_at a.items.items i ≡ None → TakenSoFar i 0 a a
none_taken i a free = record {
  items = [];
  passed = sym (append-nil (items_of (passed_of a.intake i)));
  count = refl;
  theirs = tt;
  free = free;
  asked = refl;
  runs = runs_none a a refl refl;
  only = side_same i a;
}

module _ (i n : ℕ) (item : Item) (a m b c : Exchange) (h : TakenSoFar i n a m) (takes : TakesOne i m (Some item) b) (lane : OnlyLane i m b) where
  -- one was taken, and has left no trace but in its lane
  passed_one : c.intake ≡ b.intake → items_of (passed_of c.intake i) ≡ items_of (passed_of a.intake i) ++ (h.items ++ item ∷ [])
  passed_one intake =
      ap (λ (t : Intake). items_of (passed_of t i)) intake ∙ takes.0 ∙ ap (λ (xs : List Item). xs ++ item ∷ []) h.passed
      ∙ append_assoc (items_of (passed_of a.intake i)) h.items (item ∷ [])

  asked_one : c.intake ≡ b.intake → asked_at_of c.intake i ≡ asked_at_of a.intake i
  asked_one intake = ap (λ (t : Intake). asked_at_of t i) intake ∙ ap (λ (l : List ℕ). get_or l i 0) lane.asked ∙ h.asked

  runs_one_more : (xs : List Call) → Runs b xs c → Runs a (appends h.items ++ xs) c
  runs_one_more xs runs = runs_then a m c (appends h.items) xs h.runs (runs_from m b c xs lane.core lane.kept runs)

  one_longer : length (h.items ++ item ∷ []) ≡ n + 1
  one_longer = omega (arith, h.count, length-append h.items (item ∷ []))

  pub one_taken : AppendsOne i item b (Ok tt) c → TakenSoFar i (n + 1) a c
  one_taken done = record {
    items = h.items ++ item ∷ [];
    passed = passed_one done.1.intake;
    count = one_longer;
    theirs = all_append (λ (x : Item). x.sender ≡ i) h.items (item ∷ []) h.theirs (takes.1, tt);
    free = ap (λ (l : List (Option Item)). held_at l i) (done.1.items ∙ lane.items) ∙ h.free;
    asked = asked_one done.1.intake;
    runs = subst (λ (xs : List Call). Runs a xs c) (sym (map-append (λ (x : Item). Append x (Ok tt)) h.items (item ∷ []))) (runs_one_more (Append item (Ok tt) ∷ []) done.0);
    only = side_then i a m c h.only (side_then i m b c (of_lane i m b lane) (of_core i b c done.1));
  }

  -- the last that was taken is held
  takes_but_one : held_at a.items.items i ≡ None → n + 1 ≤ 64 → c.intake ≡ b.intake → held_at c.items.items i ≡ Some item → Takes i (side_of a i) h.items (side_of c i)
  takes_but_one was few intake held = record {
    taken = h.items ++ item ∷ [];
    were_taken = passed_one intake;
    few = omega (arith, one_longer, few);
    held_first = λ some. absurd (not_some (held_at a.items.items i) was some);
    in_order = (λ j. option_to_list (was j) ++ (h.items ++ item ∷ [])) ∙ (λ j. h.items ++ option_to_list (sym held j));
    theirs = h.theirs;
  }

  pub last_taken : (fault : AppendFault) → i < senders_of b → held_at a.items.items i ≡ None → n + 1 ≤ 64 → AppendsOne i item b (Err fault) c
      → AppendsFrom i a (ended_by fault) c
  last_taken BufferFull near was few refused =
      let held : held_at c.items.items i ≡ Some item = now_held i b c (Some item) near refused.1 in record {
        appended = h.items;
        takes = takes_but_one was few refused.1.intake held;
        asked = asked_one refused.1.intake;
        runs = subst (λ (o : Option Item). Runs a (appends h.items ++ refuses o) c) (sym held) (runs_one_more (Append item (Err BufferFull) ∷ []) refused.0);
        enough = inr (inl (some_is (held_at c.items.items i) item held));
        busy = inr (inr (inl (some_is (held_at c.items.items i) item held)));
        idle = λ is. absurd (false_true is);
      }
  last_taken OutOfMemory near was few refused =
      let held : held_at c.items.items i ≡ Some item = now_held i b c (Some item) near refused.only in record {
        calls = appends h.items ++ fails refused.last;
        part = record {
          appended = h.items;
          takes = takes_but_one was few refused.only.intake held;
          asked = asked_one refused.only.intake;
          last = refused.last;
          last_held = λ x is. held ∙ ap (λ (y : Item). Some y) (sym (refused.its x is));
          made = refl;
        };
        runs = runs_one_more (fails refused.last) refused.runs;
      }

  pub only_last : (r : Result (Unit {0}) AppendFault) → AppendsOne i item b r c → OnlySide i a c
  only_last r one = side_then i a m c h.only (side_then i m b c (of_lane i m b lane) (only_one i item r b c one))

-- nothing more was to be taken
pub found_none : (i n : ℕ) (a m b : Exchange) → TakenSoFar i n a m → n ≤ 64 → held_at a.items.items i ≡ None → TakesOne i m None b → OnlyLane i m b
    → AppendsSome i a b true
found_none i n a m b h few was takes lane =
    let free : held_at b.items.items i ≡ None = ap (λ (l : List (Option Item)). held_at l i) lane.items ∙ h.free in record {
      appended = h.items;
      takes = record {
        taken = h.items;
        were_taken = takes.0 ∙ h.passed;
        few = omega (arith, h.count, few);
        held_first = λ some. absurd (not_some (held_at a.items.items i) was some);
        in_order = (λ j. option_to_list (was j) ++ h.items) ∙ sym (append-nil h.items) ∙ (λ j. h.items ++ option_to_list (sym free j));
        theirs = h.theirs;
      };
      asked = ap (λ (l : List ℕ). get_or l i 0) lane.asked ∙ h.asked;
      runs = subst (λ (o : Option Item). Runs a (appends h.items ++ refuses o) b) (sym free)
          (subst (λ (xs : List Call). Runs a xs b) (sym (append-nil (appends h.items))) (runs_still a m b (appends h.items) h.runs lane.core lane.kept));
      enough = inr (inr (inr takes.1));
      busy = inl refl;
      idle = λ is. record { found = takes.1; none_held = free };
    }

pub only_none : (i n : ℕ) (a m b : Exchange) → TakenSoFar i n a m → OnlyLane i m b → OnlySide i a b
only_none i n a m b h lane = side_then i a m b h.only (of_lane i m b lane)

pub enough_taken : (i n : ℕ) (a m : Exchange) → TakenSoFar i n a m → n ≡ 64 → held_at a.items.items i ≡ None → AppendsSome i a m false
enough_taken i n a m h whole was = record {
  appended = h.items;
  takes = record {
    taken = h.items;
    were_taken = h.passed;
    few = omega (arith, h.count, whole);
    held_first = λ some. absurd (not_some (held_at a.items.items i) was some);
    in_order = (λ j. option_to_list (was j) ++ h.items) ∙ sym (append-nil h.items) ∙ (λ j. h.items ++ option_to_list (sym h.free j));
    theirs = h.theirs;
  };
  asked = h.asked;
  runs = subst (λ (o : Option Item). Runs a (appends h.items ++ refuses o) m) (sym h.free)
      (subst (λ (xs : List Call). Runs a xs m) (sym (append-nil (appends h.items))) h.runs);
  enough = inr (inr (inl (omega (arith, ap length h.passed, length-append (items_of (passed_of a.intake i)) h.items, h.count, whole))));
  busy = inr (inr (inr (omega (arith, ap length h.passed, length-append (items_of (passed_of a.intake i)) h.items, h.count, whole))));
  idle = λ is. absurd (false_true is);
}

-- ---- nothing was held back

-- the place was looked at, and it was empty
pub same_emptied : (i : ℕ) (a m : Exchange) → held_at a.items.items i ≡ None → HoldsNow i a None m → m.items.items ≡ a.items.items
same_emptied i a m was now = now.only.items ∙ ap (λ (o : Option Item). slice_set a.items.items i o) (sym was) ∙ set-get_or a.items.items i None

pub core_emptied : (i : ℕ) (a m : Exchange) → held_at a.items.items i ≡ None → HoldsNow i a None m → OnlyCore a m
core_emptied i a m was now = record { intake = now.only.intake; items = same_emptied i a m was now; reports = now.only.reports; closed = now.only.closed }

side_still : (i : ℕ) (a m : Exchange) → OnlyCore a m → side_of m i ≡ side_of a i
side_still i a m same =
    same_side a m i (ap (λ (t : Intake). passed_of t i) same.intake) (ap (λ (t : Intake). asked_at_of t i) same.intake) (ap (λ (l : List (Option Item)). held_at l i) same.items)

takes_from : (i : ℕ) (a m : Exchange) (appended : List Item) (s : Side) → OnlyCore a m → Takes i (side_of m i) appended s → Takes i (side_of a i) appended s
takes_from i a m appended s same h = subst (λ (r : Side). Takes i r appended s) (side_still i a m same) h

pub from_none : (i : ℕ) (a m b : Exchange) (r : Result Bool _) → held_at a.items.items i ≡ None → HoldsNow i a None m → AppendsFrom i m r b → AppendsFrom i a r b
from_none i a m b (Ok found) was now h =
    let same = core_emptied i a m was now in record {
      appended = h.appended;
      takes = takes_from i a m h.appended (side_of b i) same h.takes;
      asked = h.asked ∙ asked_core i a m same.intake;
      runs = runs_from a m b _ now.core now.kept h.runs;
      enough = subst (λ (s : Side). TookEnough i s (side_of b i) b.intake) (side_still i a m same) h.enough;
      busy = subst (λ (s : Side). (found ≡ true) ⊎ WasBusy s (side_of b i)) (side_still i a m same) h.busy;
      idle = h.idle;
    }
from_none i a m b (Err refused) was now h =
    let same = core_emptied i a m was now in record {
      calls = h.calls;
      part = record {
        appended = h.part.appended;
        takes = takes_from i a m h.part.appended (side_of b i) same h.part.takes;
        asked = h.part.asked ∙ asked_core i a m same.intake;
        last = h.part.last;
        last_held = h.part.last_held;
        made = h.part.made;
      };
      runs = runs_from a m b h.calls now.core now.kept h.runs;
    }

-- ---- the flush

asked_there : (t : Intake) (i : ℕ) → i < length (lanes_of t) → i < length (asked_lists t)
asked_there t i near = subst (λ (n : ℕ). i < n) (length-map t.ports.items (port_id (common_of t)) ∙ sym (length-map t.ports.items asked_at)) near

pub flushed : (i : ℕ) (a b : Exchange) (asked : Bool) → i < length (lanes_of a.intake) → asked ≡ has_mark (drop (asked_at_of a.intake i) (passed_of a.intake i))
    → Runs a (if_so asked Flush) b → passed_lists b.intake ≡ passed_lists a.intake
    → asked_lists b.intake ≡ slice_set (asked_lists a.intake) i (length (passed_of a.intake i)) → b.items.items ≡ a.items.items → Flushes i a b
flushed i a b asked near is runs passed since items = record {
  runs = subst (λ (x : Bool). Runs a (if_so x Flush) b) is runs;
  passed = ap (λ (l : List (List Entry)). get_or l i []) passed;
  asked = ap (λ (l : List ℕ). get_or l i 0) since ∙ get_or-set_same (asked_lists a.intake) i (length (passed_of a.intake i)) 0 (asked_there a.intake i near);
  held = ap (λ (l : List (Option Item)). held_at l i) items;
}

pub only_asked : (i : ℕ) (a b : Exchange) → SameIntake a.intake b.intake → passed_lists b.intake ≡ passed_lists a.intake → told_lists b.intake ≡ told_lists a.intake
    → asked_lists b.intake ≡ slice_set (asked_lists a.intake) i (length (passed_of a.intake i))
    → b.items.items ≡ a.items.items → b.reports.items ≡ a.reports.items → b.closed ≡ a.closed → OnlySide i a b
only_asked i a b same passed told since items reports closed = record {
  others = λ k other. same_side a b k (ap (λ (l : List (List Entry)). get_or l k []) passed)
      (ap (λ (l : List ℕ). get_or l k 0) since ∙ get_or-set_other (asked_lists a.intake) i k (length (passed_of a.intake i)) 0 other)
      (ap (λ (l : List (Option Item)). held_at l k) items);
  mail = λ k. same_mail a b k (ap (λ (l : List (List Report)). get_or l k []) told) (ap (λ (l : List (Option Report)). held_at l k) reports);
  lanes = record { lanes = same.lanes; limits = same.limits; senders = ap length items };
  view = same.view;
  closed = closed;
}

-- ---- a sender's whole part

takes_to : (i : ℕ) (r s t : Side) (appended : List Item) → t.passed ≡ s.passed → t.held ≡ s.held → Takes i r appended s → Takes i r appended t
takes_to i r s t appended passed held h = record {
  taken = h.taken;
  were_taken = ap items_of passed ∙ h.were_taken;
  few = h.few;
  held_first = λ some. passed ∙ h.held_first some;
  in_order = h.in_order ∙ (λ j. appended ++ option_to_list (sym held j));
  theirs = h.theirs;
}

pub whole_part : (i : ℕ) (a m b : Exchange) (found : Bool) → AppendsSome i a m found → Flushes i m b → OnlySide i m b → WholePart i a b found
whole_part i a m b found h f only = record {
  calls = appends h.appended ++ refuses (side_of m i).held ++ if_so (has_mark (drop (side_of m i).asked_at (side_of m i).passed)) Flush;
  part = record {
    appended = h.appended;
    takes = takes_to i (side_of a i) (side_of m i) (side_of b i) h.appended f.passed f.held h.takes;
    asked = f.asked ∙ ap length (sym f.passed);
    made = λ j. appends h.appended ++ refuses (sym f.held j) ++ if_so (has_mark (drop (h.asked j) (sym f.passed j))) Flush;
  };
  runs = runs_then a m b (appends h.appended ++ refuses (side_of m i).held) _ h.runs f.runs;
  enough = enough_still i (side_of a i) m b f.passed f.held only.lanes.lanes only.view h.enough;
  busy = busy_still (found ≡ true) (side_of a i) (side_of m i) (side_of b i) f.passed f.held h.busy;
  idle = λ is. let before = h.idle is in record {
    found = none_still i m b f.passed only.lanes.lanes only.view before.found;
    none_held = f.held ∙ before.none_held;
  };
}

full : Option Item → Option (Item × AppendFault)
full None = None
full (Some x) = Some (x, BufferFull)

fails_full : (o : Option Item) → fails (full o) ≡ refuses o
unfolding full
fails_full None = refl
fails_full (Some x) = refl

full_held : (o : Option Item) (x : Item × AppendFault) → full o ≡ Some x → o ≡ Some x.0
unfolding full
full_held None x is = absurd (none_some is)
full_held (Some y) x is = let same : (y, BufferFull) ≡ x = cc in ap (λ (p : Item × AppendFault). Some p.0) same

pub until_flush : (i : ℕ) (a m b : Exchange) (found : Bool) → AppendsSome i a m found → Runs m [] b → OnlyCore m b → AppendsUntil i a b
until_flush i a m b found h runs only =
    let held : (side_of b i).held ≡ (side_of m i).held = ap (λ (l : List (Option Item)). held_at l i) only.items in record {
      calls = appends h.appended ++ refuses (side_of m i).held;
      part = record {
        appended = h.appended;
        takes = takes_to i (side_of a i) (side_of m i) (side_of b i) h.appended (passed_core i m b only.intake) held h.takes;
        asked = asked_core i m b only.intake ∙ h.asked;
        last = full (side_of m i).held;
        last_held = λ x is. held ∙ full_held (side_of m i).held x is;
        made = ap (λ (xs : List Call). appends h.appended ++ xs) (sym (fails_full (side_of m i).held));
      };
      runs = subst (λ (xs : List Call). Runs a xs b) (append-nil (appends h.appended ++ refuses (side_of m i).held))
          (runs_then a m b (appends h.appended ++ refuses (side_of m i).held) [] h.runs runs);
    }
