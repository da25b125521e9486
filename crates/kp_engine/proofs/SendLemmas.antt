-- The reports of senders, handed over one after the other.
use Rattle.std.proofs.Common.{◌≡◌, ◌≢◌, ◌⊎◌, ℕ, zero, suc, ◌+◌, ◌<◌, ◌≤◌, Bool, true, false, List, [], ◌∷◌, ◌++◌, length, refl, sym, ap, ◌∙◌, subst, ⊎_elim, inl, inr, append_assoc, append-nil, arith}
use Rattle.std.specs.Prelude.{Option, Some, None, Result, Ok, Err, IsTrue, IsSome, is_some, option_to_list, ◌&&◌}
use Rattle.std.proofs.lemmas.Bool.{cases_lt}
use Rattle.std.proofs.lemmas.List.{map-append}
use Rattle.kp_lanes.specs.Intake.{intake_view, passed_of, asked_at_of, told_of}
use Rattle.kp_lanes.specs.declared.intake.Intake.{Intake}
use Rattle.kp_accum.specs.declared.item.Item.{Item}
use Rattle.kp_rules.specs.Calls.{Call, Fetch}
use Rattle.kp_rules.specs.Records.{Core}
use Rattle.kp_rules.specs.declared.outcome.Report.{Report}
use Rattle.kp_engine.specs.Agreement.{held_at, waiting_of}
use Rattle.kp_engine.specs.Exchange.{HasMoved, OnlyCore, Runs, mail_of, senders_of}
use Rattle.kp_engine.specs.Steps.{FetchesOne, HandsOne, OnlyMail, OnlyMails, OnlyReports, SendsAll, SendsAllUntil, SendsFrom, SendsSome, SendsUntil}
use Rattle.kp_engine.specs.Turn.{Mail, MailPart, MailParts, fetches}
use Rattle.kp_engine.specs.declared.exchange.Exchange.{Exchange}
use Rattle.kp_engine.proofs.AllLemmas.{both_true, true_both}
use Rattle.kp_engine.proofs.RunLemmas.{runs_none, runs_still, runs_then}
use Rattle.kp_engine.proofs.SideLemmas.{runs_from, same_lanes, same_mail, same_side}

false_true : false ≡ true → ⊥
false_true e = cc

not_some : {A : Type 0} (o : Option A) → o ≡ None → IsSome o → ⊥
not_some {A = A} o is some = false_true (ap (λ (x : Option A). is_some x) (sym is) ∙ some)

some_held : {A : Type 0} (o : Option A) (x : A) → o ≡ Some x → IsSome o
some_held {A = A} o x is = ap (λ (p : Option A). is_some p) is

not_none : {A : Type 0} (o : Option A) (x : A) → o ≡ Some x → o ≡ None → ⊥
not_none o x some none = let same : Some x ≡ None = sym some ∙ none in cc

-- ---- what stays

-- the core alone, by what was fetched of the sender
pub reports_core : (i : ℕ) (a b : Exchange) → OnlyCore a b → ((k : ℕ) → k ≢ i → waiting_of b.core k ≡ waiting_of a.core k) → OnlyReports i a b
reports_core i a b h waiting = record {
  sides = λ k. same_side a b k (ap (λ (t : Intake). passed_of t k) h.intake) (ap (λ (t : Intake). asked_at_of t k) h.intake) (ap (λ (l : List (Option Item)). held_at l k) h.items);
  others = λ k other. same_mail a b k (ap (λ (t : Intake). told_of t k) h.intake) (ap (λ (l : List (Option Report)). held_at l k) h.reports);
  waiting = waiting;
  lanes = same_lanes a b h.intake (ap length h.items);
  view = ap (λ (t : Intake). intake_view t) h.intake;
  closed = h.closed;
}

pub reports_mail : (i : ℕ) (a b : Exchange) → OnlyMail i a b → OnlyReports i a b
reports_mail i a b h = record {
  sides = h.sides;
  others = h.others;
  waiting = λ k other. ap (λ (s : Core). waiting_of s k) h.core;
  lanes = h.lanes;
  view = h.view;
  closed = h.closed;
}

pub reports_then : (i : ℕ) (a b c : Exchange) → OnlyReports i a b → OnlyReports i b c → OnlyReports i a c
reports_then i a b c p q = record {
  sides = λ k. q.sides k ∙ p.sides k;
  others = λ k other. q.others k other ∙ p.others k other;
  waiting = λ k other. q.waiting k other ∙ p.waiting k other;
  lanes = record { lanes = q.lanes.lanes ∙ p.lanes.lanes; limits = q.lanes.limits ∙ p.lanes.limits; senders = q.lanes.senders ∙ p.lanes.senders };
  view = q.view ∙ p.view;
  closed = q.closed ∙ p.closed;
}

reports_same : (i : ℕ) (a : Exchange) → OnlyReports i a a
reports_same i a = reports_core i a a (record { intake = refl; items = refl; reports = refl; closed = refl }) (λ k other. refl)

-- the sender's reports, where only the core has changed
mail_core : (i : ℕ) (a b : Exchange) → OnlyCore a b → mail_of b i ≡ mail_of a i
mail_core i a b h = same_mail a b i (ap (λ (t : Intake). told_of t i) h.intake) (ap (λ (l : List (Option Report)). held_at l i) h.reports)

-- ---- those that wait in the core

-- So many were fetched, and all of them handed over.
pub record SentSoFar (i : ℕ) (a b : Exchange) : Type 0 where
  pub fetched : List Report
  pub runs : Runs a (fetches i fetched) b
  pub told : (mail_of b i).told ≡ (mail_of a i).told ++ fetched
  pub free : (mail_of b i).held ≡ None
  pub only : OnlyReports i a b

pub none_sent : (i : ℕ) (a : Exchange) → (mail_of a i).held ≡ None → SentSoFar i a a
none_sent i a free = record {
  fetched = [];
  runs = runs_none a a refl refl;
  told = sym (append-nil (mail_of a i).told);
  free = free;
  only = reports_same i a;
}

module _ (i : ℕ) (r : Report) (a m b c : Exchange) (h : SentSoFar i a m) (fetched : FetchesOne i m (Some r) b) (core : OnlyCore m b)
    (waiting : (k : ℕ) → k ≢ i → waiting_of b.core k ≡ waiting_of m.core k) (mail : OnlyMail i b c) where
  runs_one_more : Runs a (fetches i (h.fetched ++ r ∷ [])) c
  runs_one_more =
      runs_still a b c (fetches i (h.fetched ++ r ∷ []))
      (subst (λ (xs : List Call). Runs a xs b) (sym (map-append (λ (x : Report). Fetch i (Some x)) h.fetched (r ∷ []))) (runs_then a m b (fetches i h.fetched) (Fetch i (Some r) ∷ []) h.runs fetched.0))
      mail.core mail.kept

  pub only_more : OnlyReports i a c
  only_more = reports_then i a m c h.only (reports_then i m b c (reports_core i m b core waiting) (reports_mail i b c mail))

  pub one_sent : HandsOne i r b true c → SentSoFar i a c
  one_sent hands = record {
    fetched = h.fetched ++ r ∷ [];
    runs = runs_one_more;
    told = hands.0 ∙ ap (λ (x : Mail). x.told ++ r ∷ []) (mail_core i m b core) ∙ ap (λ (xs : List Report). xs ++ r ∷ []) h.told ∙ append_assoc (mail_of a i).told h.fetched (r ∷ []);
    free = hands.1 ∙ ap (λ (x : Mail). x.held) (mail_core i m b core) ∙ h.free;
    only = only_more;
  }

  pub last_held : (mail_of a i).held ≡ None → HandsOne i r b false c → SendsSome i a c false
  last_held free hands = record {
    calls = fetches i (h.fetched ++ r ∷ []);
    part = record {
      fetched = h.fetched ++ r ∷ [];
      handed = h.fetched;
      were_handed = hands.0 ∙ ap (λ (x : Mail). x.told) (mail_core i m b core) ∙ h.told;
      in_order = (λ j. option_to_list (free j) ++ (h.fetched ++ r ∷ [])) ∙ (λ j. h.fetched ++ option_to_list (sym hands.1 j));
      made = refl;
    };
    runs = runs_one_more;
    moved = record {
      moved = λ none. absurd (not_none (mail_of c i).held r hands.1 none);
      only_full = λ some. hands.2;
    };
    none_held = λ is. absurd (false_true is);
    held = inr (some_held (mail_of c i).held r hands.1);
  }

-- none waits any more, or memory was refused
part_so_far : (i : ℕ) (a m b : Exchange) (h : SentSoFar i a m) → (mail_of a i).held ≡ None → OnlyCore m b → MailPart i (mail_of a i) (fetches i h.fetched) (mail_of b i)
part_so_far i a m b h free core =
    let none : (mail_of b i).held ≡ None = ap (λ (x : Mail). x.held) (mail_core i m b core) ∙ h.free in record {
      fetched = h.fetched;
      handed = h.fetched;
      were_handed = ap (λ (x : Mail). x.told) (mail_core i m b core) ∙ h.told;
      in_order = (λ j. option_to_list (free j) ++ h.fetched) ∙ sym (append-nil h.fetched) ∙ (λ j. h.fetched ++ option_to_list (sym none j));
      made = refl;
    }

runs_no_more : (i : ℕ) (a m b : Exchange) (h : SentSoFar i a m) → Runs m [] b → Runs a (fetches i h.fetched) b
runs_no_more i a m b h runs = subst (λ (xs : List Call). Runs a xs b) (append-nil (fetches i h.fetched)) (runs_then a m b (fetches i h.fetched) [] h.runs runs)

pub all_sent : (i : ℕ) (a m b : Exchange) → SentSoFar i a m → (mail_of a i).held ≡ None → FetchesOne i m None b → OnlyCore m b → SendsSome i a b true
all_sent i a m b h free fetched core =
    let none : (mail_of b i).held ≡ None = ap (λ (x : Mail). x.held) (mail_core i m b core) ∙ h.free in record {
      calls = fetches i h.fetched;
      part = part_so_far i a m b h free core;
      runs = runs_no_more i a m b h fetched.0;
      moved = record {
        moved = λ is. fetched.1;
        only_full = λ some. absurd (not_some (mail_of b i).held none some);
      };
      none_held = λ is. none;
      held = inl refl;
    }

pub until_sent : (i : ℕ) (a m b : Exchange) → SentSoFar i a m → (mail_of a i).held ≡ None → Runs m [] b → OnlyCore m b → SendsUntil i a b
until_sent i a m b h free runs core = record {
  calls = fetches i h.fetched;
  part = part_so_far i a m b h free core;
  runs = runs_no_more i a m b h runs;
}

pub only_core_more : (i : ℕ) (a m b : Exchange) → SentSoFar i a m → OnlyCore m b → ((k : ℕ) → k ≢ i → waiting_of b.core k ≡ waiting_of m.core k) → OnlyReports i a b
only_core_more i a m b h core waiting = reports_then i a m b h.only (reports_core i m b core waiting)

-- ---- the one that was held back

-- none was
pub from_no_report : (i : ℕ) (a m b : Exchange) (r : Result Bool _) → mail_of m i ≡ mail_of a i → OnlyMail i a m → SendsFrom i m r b → SendsFrom i a r b
from_no_report i a m b (Ok all) same mail h = record {
  calls = h.calls;
  part = subst (λ (x : Mail). MailPart i x h.calls (mail_of b i)) same h.part;
  runs = runs_from a m b h.calls mail.core mail.kept h.runs;
  moved = h.moved;
  none_held = h.none_held;
  held = h.held;
}
from_no_report i a m b (Err refused) same mail h = record {
  calls = h.calls;
  part = subst (λ (x : Mail). MailPart i x h.calls (mail_of b i)) same h.part;
  runs = runs_from a m b h.calls mail.core mail.kept h.runs;
}

module _ (i : ℕ) (r : Report) (a m b : Exchange) (was : (mail_of a i).held ≡ Some r) (told : (mail_of m i).told ≡ (mail_of a i).told) (none : (mail_of m i).held ≡ None)
    (emptied : OnlyMail i a m) (mail : OnlyMail i m b) where
  core_both : b.core ≡ a.core
  core_both = mail.core ∙ emptied.core

  -- it is held back again
  pub held_once_more : HandsOne i r m false b → SendsSome i a b false
  held_once_more hands = record {
    calls = [];
    part = record {
      fetched = [];
      handed = [];
      were_handed = hands.0 ∙ told ∙ sym (append-nil (mail_of a i).told);
      in_order = (λ j. option_to_list (was j) ++ []) ∙ (λ j. option_to_list (sym hands.1 j));
      made = refl;
    };
    runs = runs_none a b core_both (mail.kept ∙ emptied.kept);
    moved = record {
      moved = λ is. absurd (not_none (mail_of b i).held r hands.1 is);
      only_full = λ some. hands.2;
    };
    none_held = λ is. absurd (false_true is);
    held = inr (some_held (mail_of b i).held r hands.1);
  }

  -- it was handed over, and others may be behind it
  part_behind : (c : Exchange) (calls : List Call) → HandsOne i r m true b → MailPart i (mail_of b i) calls (mail_of c i) → MailPart i (mail_of a i) calls (mail_of c i)
  part_behind c calls hands p =
      let free : (mail_of b i).held ≡ None = hands.1 ∙ none in record {
        fetched = p.fetched;
        handed = r ∷ p.handed;
        were_handed = p.were_handed ∙ ap (λ (xs : List Report). xs ++ p.handed) (hands.0 ∙ ap (λ (xs : List Report). xs ++ r ∷ []) told) ∙ append_assoc (mail_of a i).told (r ∷ []) p.handed;
        in_order = (λ j. option_to_list (was j) ++ p.fetched) ∙ ap (λ (xs : List Report). r ∷ xs) ((λ j. option_to_list (sym free j) ++ p.fetched) ∙ p.in_order);
        made = p.made;
      }

  pub from_report : (c : Exchange) (res : Result Bool _) → HandsOne i r m true b → SendsFrom i b res c → SendsFrom i a res c
  from_report c (Ok all) hands h = record {
    calls = h.calls;
    part = part_behind c h.calls hands h.part;
    runs = runs_from a b c h.calls core_both (mail.kept ∙ emptied.kept) h.runs;
    moved = h.moved;
    none_held = h.none_held;
    held = h.held;
  }
  from_report c (Err refused) hands h = record {
    calls = h.calls;
    part = part_behind c h.calls hands h.part;
    runs = runs_from a b c h.calls core_both (mail.kept ∙ emptied.kept) h.runs;
  }

-- ---- all senders

pub mail_parts_kept : (n : ℕ) (old new newer : ℕ → Mail) (calls : List Call) → ((k : ℕ) → k < n → newer k ≡ new k) → MailParts n old calls new → MailParts n old calls newer
mail_parts_kept zero old new newer calls same parts = parts
mail_parts_kept (suc n) old new newer calls same parts = (
  parts.0,
  parts.1,
  parts.2,
  mail_parts_kept n old new newer parts.0 (λ k below. same k (omega (arith, below))) parts.3,
  subst (λ (x : Mail). MailPart n (old n) parts.1 x) (sym (same n (omega arith))) parts.4,
)

-- A report of one of the first n senders is held back.
pub record HeldBelow (n : ℕ) (b : Exchange) : Type 0 where
  pub sender : ℕ
  pub near : sender < n
  pub held : IsSome (mail_of b sender).held

-- The parts of the first n senders were made.
pub record SentTo (n : ℕ) (a b : Exchange) (all : Bool) : Type 0 where
  pub calls : List Call
  pub parts : MailParts n (mail_of a) calls (mail_of b)
  pub later : (k : ℕ) → n ≤ k → mail_of b k ≡ mail_of a k
  pub runs : Runs a calls b
  pub only : OnlyMails a b
  pub moved : (k : ℕ) → k < n → HasMoved k b
  pub none_held : IsTrue all → (k : ℕ) → k < n → (mail_of b k).held ≡ None
  pub held : (all ≡ true) ⊎ HeldBelow n b

pub mails_same : (a : Exchange) → OnlyMails a a
mails_same a = record { sides = λ k. refl; lanes = record { lanes = refl; limits = refl; senders = refl }; view = refl; closed = refl }

pub mails_then : (i : ℕ) (a b c : Exchange) → OnlyMails a b → OnlyReports i b c → OnlyMails a c
mails_then i a b c p q = record {
  sides = λ k. q.sides k ∙ p.sides k;
  lanes = record { lanes = q.lanes.lanes ∙ p.lanes.lanes; limits = q.lanes.limits ∙ p.lanes.limits; senders = q.lanes.senders ∙ p.lanes.senders };
  view = q.view ∙ p.view;
  closed = q.closed ∙ p.closed;
}

pub nobody_sent : (a : Exchange) → SentTo 0 a a true
nobody_sent a = record {
  calls = [];
  parts = refl;
  later = λ k far. refl;
  runs = runs_none a a refl refl;
  only = mails_same a;
  moved = λ k below. absurd (omega (arith, below));
  none_held = λ is k below. absurd (omega (arith, below));
  held = inl refl;
}

moved_still : (i k : ℕ) (a b : Exchange) → k ≢ i → OnlyReports i a b → HasMoved k a → HasMoved k b
moved_still i k a b other only h = record {
  moved = λ none. only.waiting k other ∙ h.moved (ap (λ (x : Mail). x.held) (sym (only.others k other)) ∙ none);
  only_full = λ some.
      let before = h.only_full (subst (λ (o : Option Report). IsSome o) (ap (λ (x : Mail). x.held) (only.others k other)) some) in record {
        before = before.before;
        lanes = before.lanes ∙ sym only.lanes.lanes;
        no_room = before.no_room;
        since = ap (λ (x : Mail). x.told) (only.others k other) ∙ before.since;
      };
}

parts_behind : (n : ℕ) (a m b : Exchange) (calls : List Call) (h : MailParts n (mail_of a) calls (mail_of m)) (mine : List Call) → mail_of m n ≡ mail_of a n → MailPart n (mail_of m n) mine (mail_of b n)
    → OnlyReports n m b → MailParts (n + 1) (mail_of a) (calls ++ mine) (mail_of b)
parts_behind n a m b calls h mine same part only =
    let e : suc n ≡ n + 1 = omega arith in
    subst (λ (k : ℕ). MailParts k (mail_of a) (calls ++ mine) (mail_of b)) e (
      calls,
      mine,
      refl,
      mail_parts_kept n (mail_of a) (mail_of m) (mail_of b) calls (λ k below. only.others k (λ is. omega (arith, is, below))) h,
      subst (λ (x : Mail). MailPart n x mine (mail_of b n)) same part,
    )

pub next_sent : (n : ℕ) (a m b : Exchange) (all sent both_sent : Bool) → SentTo n a m all → SendsSome n m b sent → OnlyReports n m b
    → both_sent ≡ (all && sent) → SentTo (n + 1) a b both_sent
next_sent n a m b all sent both_sent h w only both = record {
  calls = h.calls ++ w.calls;
  parts = parts_behind n a m b h.calls h.parts w.calls (h.later n (omega arith)) w.part only;
  later = λ k far. only.others k (λ is. omega (arith, is, far)) ∙ h.later k (omega (arith, far));
  runs = runs_then a m b h.calls w.calls h.runs w.runs;
  only = mails_then n a m b h.only only;
  moved = λ k below. ⊎_elim
      (λ (before : k < n). moved_still n k m b (λ is. omega (arith, is, before)) only (h.moved k before))
      (λ (here : n ≤ k). let same : n ≡ k = omega (arith, here, below) in subst (λ (j : ℕ). HasMoved j b) same w.moved)
      (cases_lt k n);
  none_held = λ is k below. ⊎_elim
      (λ (before : k < n). ap (λ (x : Mail). x.held) (only.others k (λ e. omega (arith, e, before))) ∙ h.none_held (both_true all sent (sym both ∙ is)).0 k before)
      (λ (here : n ≤ k). let same : n ≡ k = omega (arith, here, below) in subst (λ (j : ℕ). (mail_of b j).held ≡ None) same (w.none_held (both_true all sent (sym both ∙ is)).1))
      (cases_lt k n);
  held = ⊎_elim
      (λ (before : all ≡ true). ⊎_elim
      (λ (here : sent ≡ true). inl (both ∙ true_both all sent before here))
      (λ (mine : IsSome (mail_of b n).held). inr (record { sender = n; near = omega arith; held = mine }))
      w.held)
      (λ (other : HeldBelow n m). inr (record {
        sender = other.sender;
        near = omega (arith, other.near);
        held = subst (λ (o : Option Report). IsSome o) (sym (ap (λ (x : Mail). x.held) (only.others other.sender (λ e. omega (arith, e, other.near))))) other.held;
      }))
      h.held;
}

pub all_until : (n : ℕ) (a m b : Exchange) (all : Bool) → SentTo n a m all → SendsUntil n m b → OnlyReports n m b → SendsAllUntil a b
all_until n a m b all h u only = record {
  senders = n + 1;
  calls = h.calls ++ u.calls;
  parts = parts_behind n a m b h.calls h.parts u.calls (h.later n (omega arith)) u.part only;
  later = λ k far. only.others k (λ same. omega (arith, far, same)) ∙ h.later k (omega (arith, far));
  runs = runs_then a m b h.calls u.calls h.runs u.runs;
}

pub everyone_sent : (n : ℕ) (a b : Exchange) (all : Bool) → n ≡ senders_of a → SentTo n a b all → SendsAll a b all
everyone_sent n a b all whole h = record {
  calls = h.calls;
  parts = subst (λ (k : ℕ). MailParts k (mail_of a) h.calls (mail_of b)) whole h.parts;
  runs = h.runs;
  moved = λ k below. h.moved k (omega (arith, below, whole, h.only.lanes.senders));
  none_held = λ is k below. h.none_held is k (omega (arith, below, whole, h.only.lanes.senders));
  held = ⊎_elim
      (λ (is : all ≡ true). inl is)
      (λ (other : HeldBelow n b). inr (record { sender = other.sender; near = omega (arith, other.near, whole, h.only.lanes.senders); held = other.held }))
      h.held;
}
