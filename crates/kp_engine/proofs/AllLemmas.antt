-- The parts of all senders, one after the other, and the close.
use Rattle.std.proofs.Common.{◌≡◌, ℕ, zero, suc, ◌+◌, ◌<◌, ◌≤◌, Bool, true, false, List, [], ◌∷◌, ◌++◌, length, refl, sym, ap, ◌∙◌, subst, ⊎_elim, inl, inr, append-nil, arith}
use Rattle.std.specs.Prelude.{◌≢◌, ◌⊎◌, Option, None, IsTrue, option_to_list, ◌||◌, ◌&&◌}
use Rattle.std.proofs.lemmas.Bool.{cases_lt}
use Rattle.kp_accum.specs.declared.item.Item.{Item}
use Rattle.kp_lanes.specs.Entries.{items_of}
use Rattle.kp_lanes.specs.Intake.{intake_view, lanes_of, passed_of, asked_at_of}
use Rattle.kp_lanes.specs.declared.gate.view.View.{View}
use Rattle.kp_lanes.specs.declared.intake.Intake.{Intake}
use Rattle.kp_rules.specs.Calls.{Call, Close}
use Rattle.kp_engine.specs.Agreement.{held_at}
use Rattle.kp_engine.specs.Exchange.{AreIdle, IsIdle, IsQuiet, MayStayOpen, OnlyCore, Runs, SameClosed, SameSides, SomeBusy, TookEnough, WasBusy, senders_of, side_of}
use Rattle.kp_engine.specs.Steps.{AppendsUntil, Closes, OnlySide, OnlySides, OnlyView, TakesAll, TakesAndCloses, TakesUntil, WholePart}
use Rattle.kp_engine.specs.Turn.{Side, SenderPart, SenderParts, SenderPartUntil}
use Rattle.kp_engine.specs.declared.exchange.Exchange.{Exchange}
use Rattle.kp_engine.proofs.AgreementLemmas.{none_some}
use Rattle.kp_engine.proofs.RunLemmas.{runs_none, runs_then}
use Rattle.kp_engine.proofs.SideLemmas.{enough_same, idle_still, runs_from, same_side}

pub parts_kept : (n : ℕ) (old new newer : ℕ → Side) (calls : List Call) → ((k : ℕ) → k < n → newer k ≡ new k) → SenderParts n old calls new → SenderParts n old calls newer
parts_kept zero old new newer calls same parts = parts
parts_kept (suc n) old new newer calls same parts = (
  parts.0,
  parts.1,
  parts.2,
  parts_kept n old new newer parts.0 (λ k below. same k (omega (arith, below))) parts.3,
  subst (λ (s : Side). SenderPart n (old n) parts.1 s) (sym (same n (omega arith))) parts.4,
)

-- One of the first n senders was busy.
pub record BusyBelow (n : ℕ) (a b : Exchange) : Type 0 where
  pub sender : ℕ
  pub near : sender < n
  pub busy : WasBusy (side_of a sender) (side_of b sender)

-- The parts of the first n senders were made.
pub record TakenTo (n : ℕ) (a b : Exchange) (idle : Bool) : Type 0 where
  pub calls : List Call
  pub parts : SenderParts n (side_of a) calls (side_of b)
  pub later : (k : ℕ) → n ≤ k → side_of b k ≡ side_of a k
  pub runs : Runs a calls b
  pub only : OnlySides a b
  pub enough : (k : ℕ) → k < n → TookEnough k (side_of a k) (side_of b k) b.intake
  pub found : IsTrue idle → (k : ℕ) → k < n → IsIdle k b
  pub busy : (idle ≡ true) ⊎ BusyBelow n a b

pub sides_same : (a : Exchange) → OnlySides a a
sides_same a = record { mail = λ k. refl; lanes = record { lanes = refl; limits = refl; senders = refl }; view = refl; closed = refl }

pub sides_then : (i : ℕ) (a b c : Exchange) → OnlySides a b → OnlySide i b c → OnlySides a c
sides_then i a b c p q = record {
  mail = λ k. q.mail k ∙ p.mail k;
  lanes = record { lanes = q.lanes.lanes ∙ p.lanes.lanes; limits = q.lanes.limits ∙ p.lanes.limits; senders = q.lanes.senders ∙ p.lanes.senders };
  view = q.view ∙ p.view;
  closed = q.closed ∙ p.closed;
}

pub nobody_taken : (a : Exchange) → TakenTo 0 a a true
nobody_taken a = record {
  calls = [];
  parts = refl;
  later = λ k far. refl;
  runs = runs_none a a refl refl;
  only = sides_same a;
  enough = λ k below. absurd (omega (arith, below));
  found = λ is k below. absurd (omega (arith, below));
  busy = inl refl;
}

pub both_true : (a b : Bool) → (a && b) ≡ true → (a ≡ true) × (b ≡ true)
both_true true b e = (refl, e)
both_true false b e = absurd cc

pub true_both : (a b : Bool) → a ≡ true → b ≡ true → (a && b) ≡ true
true_both true b p q = q
true_both false b p q = absurd cc

parts_one_more : (n : ℕ) (old new : ℕ → Side) (calls : List Call) → SenderParts (suc n) old calls new → SenderParts (n + 1) old calls new
parts_one_more n old new calls parts = let e : suc n ≡ n + 1 = omega arith in subst (λ (m : ℕ). SenderParts m old calls new) e parts

pub next_taken : (n : ℕ) (a m b : Exchange) (idle found all : Bool) → TakenTo n a m idle → WholePart n m b found → OnlySide n m b
    → all ≡ (idle && found) → TakenTo (n + 1) a b all
next_taken n a m b idle found all h w only both = record {
  calls = h.calls ++ w.calls;
  parts = parts_one_more n (side_of a) (side_of b) (h.calls ++ w.calls) (
    h.calls,
    w.calls,
    refl,
    parts_kept n (side_of a) (side_of m) (side_of b) h.calls (λ k below. only.others k (λ e. omega (arith, e, below))) h.parts,
    subst (λ (s : Side). SenderPart n s w.calls (side_of b n)) (h.later n (omega arith)) w.part,
  );
  later = λ k far. only.others k (λ e. omega (arith, e, far)) ∙ h.later k (omega (arith, far));
  runs = runs_then a m b h.calls w.calls h.runs w.runs;
  only = sides_then n a m b h.only only;
  enough = λ k below. ⊎_elim
      (λ (before : k < n). enough_same k (side_of a k) m b (only.others k (λ e. omega (arith, e, before))) only.lanes.lanes only.view (h.enough k before))
      (λ (here : n ≤ k). let same : n ≡ k = omega (arith, here, below) in subst (λ (j : ℕ). TookEnough j (side_of a j) (side_of b j) b.intake) same
      (subst (λ (s : Side). TookEnough n s (side_of b n) b.intake) (h.later n (omega arith)) w.enough))
      (cases_lt k n);
  found = λ is k below. ⊎_elim
      (λ (before : k < n). idle_still k m b (only.others k (λ e. omega (arith, e, before))) only.lanes.lanes only.view (h.found (both_true idle found (sym both ∙ is)).0 k before))
      (λ (here : n ≤ k). let same : n ≡ k = omega (arith, here, below) in subst (λ (j : ℕ). IsIdle j b) same (w.idle (both_true idle found (sym both ∙ is)).1))
      (cases_lt k n);
  busy = ⊎_elim
      (λ (free : idle ≡ true). ⊎_elim
      (λ (empty : found ≡ true). inl (both ∙ true_both idle found free empty))
      (λ (mine : WasBusy (side_of m n) (side_of b n)). inr (record {
        sender = n;
        near = omega arith;
        busy = subst (λ (s : Side). WasBusy s (side_of b n)) (h.later n (omega arith)) mine;
      }))
      w.busy)
      (λ (other : BusyBelow n a m). inr (record {
        sender = other.sender;
        near = omega (arith, other.near);
        busy = subst (λ (s : Side). WasBusy (side_of a other.sender) s) (sym (only.others other.sender (λ e. omega (arith, e, other.near)))) other.busy;
      }))
      h.busy;
}

pub until_taken : (n : ℕ) (a m b : Exchange) (idle : Bool) → TakenTo n a m idle → AppendsUntil n m b → OnlySide n m b → TakesUntil a b
until_taken n a m b idle h u only = record {
  calls = h.calls ++ u.calls;
  part = record {
    senders = n;
    before = h.calls;
    mine = u.calls;
    parts = parts_kept n (side_of a) (side_of m) (side_of b) h.calls (λ k below. only.others k (λ e. omega (arith, e, below))) h.parts;
    part = subst (λ (s : Side). SenderPartUntil n s u.calls (side_of b n)) (h.later n (omega arith)) u.part;
    later = λ k far. only.others k (λ e. omega (arith, e, far)) ∙ h.later k (omega (arith, far));
    made = refl;
  };
  runs = runs_then a m b h.calls u.calls h.runs u.runs;
}

pub all_taken : (n : ℕ) (a b : Exchange) (idle : Bool) → n ≡ senders_of a → TakenTo n a b idle → TakesAll a b idle
all_taken n a b idle whole h = record {
  calls = h.calls;
  parts = subst (λ (m : ℕ). SenderParts m (side_of a) h.calls (side_of b)) whole h.parts;
  later = λ k far. h.later k (omega (arith, far, whole));
  runs = h.runs;
  enough = λ k below. h.enough k (omega (arith, below, whole));
  found = λ is k below. h.found is k (omega (arith, below, whole, h.only.lanes.senders));
  busy = ⊎_elim
      (λ (free : idle ≡ true). inl free)
      (λ (other : BusyBelow n a b). inr (record { sender = other.sender; near = omega (arith, other.near, whole); busy = other.busy }))
      h.busy;
}

-- no part of a sender
nothing_until : (n : ℕ) (s : Side) → SenderPartUntil n s [] s
nothing_until n s = record {
  appended = [];
  takes = record {
    taken = [];
    were_taken = sym (append-nil (items_of s.passed));
    few = omega arith;
    held_first = λ some. refl;
    in_order = append-nil (option_to_list s.held);
    theirs = tt;
  };
  asked = refl;
  last = None;
  last_held = λ x is. absurd (none_some is);
  made = refl;
}

-- ---- the close

parts_from : (n : ℕ) (old older new : ℕ → Side) (calls : List Call) → ((k : ℕ) → old k ≡ older k) → SenderParts n old calls new → SenderParts n older calls new
parts_from zero old older new calls same parts = parts
parts_from (suc n) old older new calls same parts = (
  parts.0,
  parts.1,
  parts.2,
  parts_from n old older new parts.0 same parts.3,
  subst (λ (s : Side). SenderPart n s parts.1 (new n)) (same n) parts.4,
)

or_false : (b : Bool) → b ≡ (b || false)
or_false true = refl
or_false false = refl

false_true : false ≡ true → ⊥
false_true e = cc

module _ (a q b : Exchange) (view : OnlyView a q) where
  senders_parts : (calls : List Call) → SenderParts (senders_of q) (side_of q) calls (side_of b) → SenderParts (senders_of a) (side_of a) calls (side_of b)
  senders_parts calls parts =
      parts_from (senders_of a) (side_of q) (side_of a) (side_of b) calls view.sides (subst (λ (n : ℕ). SenderParts n (side_of q) calls (side_of b)) view.lanes.senders parts)

  enough_viewed : {idle : Bool} → TakesAll q b idle → (k : ℕ) → k < senders_of a → TookEnough k (side_of a k) (side_of b k) b.intake
  enough_viewed h k below =
      subst (λ (s : Side). TookEnough k s (side_of b k) b.intake) (view.sides k) (h.enough k (omega (arith, below, view.lanes.senders)))

  busy_viewed : (P : Type 0) → P ⊎ SomeBusy q b → P ⊎ SomeBusy a b
  busy_viewed P (inl p) = inl p
  busy_viewed P (inr h) = inr (record {
    sender = h.sender;
    near = omega (arith, h.near, view.lanes.senders);
    busy = subst (λ (s : Side). WasBusy s (side_of b h.sender)) (view.sides h.sender) h.busy;
  })

  found_viewed : OnlySides q b → ((intake_view q.intake).found ≢ 1) → ((intake_view b.intake).found ≢ 1)
  found_viewed only other is = other (sym (ap (λ (v : View). v.found) only.view) ∙ is)

  -- all is taken, and it isn't closed
  pub left_open : (idle quiet : Bool) → (quiet && idle) ≡ false → (quiet ≡ true) ⊎ ((a.closed ≡ true) ⊎ ((intake_view q.intake).found ≢ 1)) → TakesAll q b idle → OnlySides q b → TakesAndCloses a b idle
  left_open idle quiet not_both loud h only = record {
    calls = h.calls;
    closes = false;
    part = record { of_senders = h.calls; parts = senders_parts h.calls h.parts; made = sym (append-nil h.calls) };
    runs = runs_from a q b h.calls view.core view.kept h.runs;
    enough = enough_viewed h;
    closed = only.closed ∙ view.closed ∙ or_false a.closed;
    only = λ is. absurd (false_true is);
    must = inr (stays idle quiet not_both loud (busy_viewed (idle ≡ true) h.busy));
    found = h.found;
    busy = busy_viewed (idle ≡ true) h.busy;
  }
    where
      stays : (idle quiet : Bool) → (quiet && idle) ≡ false → (quiet ≡ true) ⊎ ((a.closed ≡ true) ⊎ ((intake_view q.intake).found ≢ 1)) → (idle ≡ true) ⊎ SomeBusy a b → MayStayOpen a b
      stays idle quiet not_both loud (inr busy) = inr (inr busy)
      stays idle quiet not_both (inr (inl closed)) (inl free) = inl closed
      stays idle quiet not_both (inr (inr other)) (inl free) = inr (inl (found_viewed only other))
      stays idle quiet not_both (inl is) (inl free) = absurd (false_true (sym not_both ∙ true_both quiet idle is free))

  -- all is taken, and it is closed
  pub closed_then : (c : Exchange) (idle : Bool) → IsTrue idle → a.closed ≡ false → IsQuiet q → TakesAll q b idle → OnlySides q b → Closes b c → TakesAndCloses a c idle
  closed_then c idle is was_open quiet h only closes =
      let sides : SameSides b c = λ k. same_side b c k (ap (λ (t : Intake). passed_of t k) closes.intake) (ap (λ (t : Intake). asked_at_of t k) closes.intake)
      (ap (λ (l : List (Option Item)). held_at l k) closes.items) in
      let still : AreIdle c = λ k below. idle_still k b c (sides k) (ap (λ (t : Intake). lanes_of t) closes.intake) (ap (λ (t : Intake). intake_view t) closes.intake)
      (h.found is k (subst (λ (n : ℕ). k < n) (ap length closes.items) below)) in record {
        calls = h.calls ++ Close ∷ [];
        closes = true;
        part = record {
          of_senders = h.calls;
          parts = parts_kept (senders_of a) (side_of a) (side_of b) (side_of c) h.calls (λ k below. sides k) (senders_parts h.calls h.parts);
          made = refl;
        };
        runs = runs_then a b c h.calls (Close ∷ []) (runs_from a q b h.calls view.core view.kept h.runs) closes.runs;
        enough = λ k below. enough_same k (side_of a k) b c (sides k) (ap (λ (t : Intake). lanes_of t) closes.intake) (ap (λ (t : Intake). intake_view t) closes.intake) (enough_viewed h k below);
        closed = closes.closed ∙ ap (λ (o : Bool). o || true) (sym was_open);
        only = λ yes. (was_open, ap (λ (v : View). v.knows_quiet) (ap (λ (t : Intake). intake_view t) closes.intake ∙ only.view) ∙ quiet, still);
        must = inl refl;
        found = λ yes. still;
        busy = inl is;
      }

  -- memory was refused
  pub until_viewed : TakesUntil q b → OnlySides q b → TakesUntil a b × SameClosed a b
  until_viewed h only = (
    record {
      calls = h.calls;
      part = record {
        senders = h.part.senders;
        before = h.part.before;
        mine = h.part.mine;
        parts = parts_from h.part.senders (side_of q) (side_of a) (side_of b) h.part.before view.sides h.part.parts;
        part = subst (λ (s : Side). SenderPartUntil h.part.senders s h.part.mine (side_of b h.part.senders)) (view.sides h.part.senders) h.part.part;
        later = λ k far. h.part.later k far ∙ view.sides k;
        made = h.part.made;
      };
      runs = runs_from a q b h.calls view.core view.kept h.runs;
    },
    only.closed ∙ view.closed,
  )

  -- memory was refused for the close
  pub until_closed : (c : Exchange) (idle : Bool) → TakesAll q b idle → OnlySides q b → Runs b [] c → OnlyCore b c → TakesUntil a c × SameClosed a c
  until_closed c idle h only runs same =
      let sides : SameSides b c = λ k. same_side b c k (ap (λ (t : Intake). passed_of t k) same.intake) (ap (λ (t : Intake). asked_at_of t k) same.intake)
      (ap (λ (l : List (Option Item)). held_at l k) same.items) in
      let beyond : (k : ℕ) → senders_of a ≤ k → side_of c k ≡ side_of a k = λ k far. sides k ∙ h.later k (omega (arith, far, view.lanes.senders)) ∙ view.sides k in (
        record {
          calls = h.calls;
          part = record {
            senders = senders_of a;
            before = h.calls;
            mine = [];
            parts = parts_kept (senders_of a) (side_of a) (side_of b) (side_of c) h.calls (λ k below. sides k) (senders_parts h.calls h.parts);
            part = subst (λ (s : Side). SenderPartUntil (senders_of a) (side_of a (senders_of a)) [] s) (sym (beyond (senders_of a) (omega arith))) (nothing_until (senders_of a) (side_of a (senders_of a)));
            later = λ k far. beyond k (omega (arith, far));
            made = sym (append-nil h.calls);
          };
          runs = subst (λ (xs : List Call). Runs a xs c) (append-nil h.calls) (runs_then a b c h.calls [] (runs_from a q b h.calls view.core view.kept h.runs) runs);
        },
        same.closed ∙ only.closed ∙ view.closed,
      )
