-- What the calls of a turn append and fetch, part by part.
use Rattle.std.proofs.Common.{◌≡◌, ◌≢◌, ℕ, zero, suc, ◌<◌, ◌≤◌, Bool, true, false, List, [], ◌∷◌, ◌++◌, map, refl, sym, ap, ◌∙◌, subst, ⊎_elim, append-nil, arith}
use Rattle.std.specs.Prelude.{Option, Some, None, Result, Ok, Err, drop, flat_map, option_to_list, ◌==◌}
use Rattle.std.specs.List.{AllByRecursion}
use Rattle.std.proofs.lemmas.Bool.{cases_lt, eq-eqb, ne_eqb}
use Rattle.std.proofs.lemmas.Grind.{flat_map-append}
use Rattle.std.proofs.lemmas.List.Elements.{filter-append}
use Rattle.kp_accum.specs.declared.fault.AppendFault.{AppendFault}
use Rattle.kp_accum.specs.declared.fault.AppendFault.TheVariants as append
use Rattle.kp_accum.specs.declared.item.Item.{Item}
use Rattle.kp_lanes.specs.Entries.{has_mark, items_of}
use Rattle.kp_rules.specs.Calls.{Call, Append, Close, Disconnect, Fetch, Flush, Request, appended_by}
use Rattle.kp_rules.specs.declared.fault.CoreFault.{CoreFault}
use Rattle.kp_rules.specs.declared.outcome.Report.{Report}
use Rattle.kp_rules.specs.declared.outgoing.Outgoing.{Outgoing}
use Rattle.kp_engine.specs.Serving.{Took, from_sender}
use Rattle.kp_engine.specs.Turn.{Heard, ItemsPart, ItemsPartUntil, Mail, MailParts, ReportsPart, ReportsPartUntil, SenderPart, SenderParts, SenderPartUntil, Side, Takes, appends, asks, fails, fetches, hears, if_so, refuses, requests}
use Rattle.kp_engine.proofs.StepLemmas.{elsewhere, fetched_by, here_fetched}

-- what calls append
abbrev pub appended_in : List Call → List Item
appended_in calls = flat_map appended_by calls

-- the sender's reports that calls fetch
abbrev pub fetched_in : ℕ → List Call → List Report
fetched_in i calls = flat_map (fetched_by i) calls

-- ---- calls that make nothing of a kind

module _ {A : Type 0} (f : Call → List A) where
  pub none_of : {B : Type 0} (make : B → Call) → ((x : B) → f (make x) ≡ []) → (xs : List B) → flat_map f (map make xs) ≡ []
  none_of make none [] = refl
  none_of make none (x ∷ xs) = ap (λ (zs : List A). zs ++ flat_map f (map make xs)) (none x) ∙ none_of make none xs

  pub before_nothing : (a b : List Call) (xs : List A) → flat_map f a ≡ xs → flat_map f b ≡ [] → flat_map f (a ++ b) ≡ xs
  before_nothing a b xs p q = flat_map-append f a b ∙ ap (λ (zs : List A). zs ++ flat_map f b) p ∙ ap (λ (zs : List A). xs ++ zs) q ∙ append-nil xs

  if_none : (b : Bool) (x : Call) → f x ≡ [] → flat_map f (if_so b x) ≡ []
  if_none true x none = ap (λ (zs : List A). zs ++ []) none
  if_none false x none = refl

  pub none_asked : ((node now : ℕ) (answer : Result (Option Outgoing) CoreFault) → f (Request node now answer) ≡ []) → (node now : ℕ) (sent : List Outgoing)
      (last : Option (Result (Option Outgoing) CoreFault)) → flat_map f (requests node now sent ++ asks node now last) ≡ []
  none_asked none node now sent last = before_nothing (requests node now sent) (asks node now last) [] (none_of (λ r. Request node now (Ok (Some r))) (λ r. none node now (Ok (Some r))) sent) (one last)
    where
      one : (last : Option (Result (Option Outgoing) CoreFault)) → flat_map f (asks node now last) ≡ []
      one None = refl
      one (Some answer) = ap (λ (zs : List A). zs ++ []) (none node now answer)

-- ---- calls by which senders' items and reports go

module _ {A : Type 0} (f : Call → List A) (appends_none : (x : Item) (answer : Result (Unit {0}) AppendFault) → f (Append x answer) ≡ []) (flushes_none : f Flush ≡ []) where
  each_none : (items : List Item) → flat_map f (appends items) ≡ []
  each_none items = none_of f (λ x. Append x (Ok tt)) (λ x. appends_none x (Ok tt)) items

  refused_none : (o : Option Item) → flat_map f (refuses o) ≡ []
  refused_none None = refl
  refused_none (Some x) = ap (λ (zs : List A). zs ++ []) (appends_none x (Err append.BufferFull))

  failed_none : (o : Option (Item × AppendFault)) → flat_map f (fails o) ≡ []
  failed_none None = refl
  failed_none (Some x) = ap (λ (zs : List A). zs ++ []) (appends_none x.0 (Err x.1))

  part_none : (i : ℕ) (old new : Side) (calls : List Call) → SenderPart i old calls new → flat_map f calls ≡ []
  part_none i old new calls p =
      ap (flat_map f) p.made
      ∙ before_nothing f (appends p.appended ++ refuses new.held) (if_so (has_mark (drop old.asked_at new.passed)) Flush) []
      (before_nothing f (appends p.appended) (refuses new.held) [] (each_none p.appended) (refused_none new.held))
      (if_none f (has_mark (drop old.asked_at new.passed)) Flush flushes_none)

  until_none : (i : ℕ) (old new : Side) (calls : List Call) → SenderPartUntil i old calls new → flat_map f calls ≡ []
  until_none i old new calls p = ap (flat_map f) p.made ∙ before_nothing f (appends p.appended) (fails p.last) [] (each_none p.appended) (failed_none p.last)

  pub parts_none : (n : ℕ) (old new : ℕ → Side) (calls : List Call) → SenderParts n old calls new → flat_map f calls ≡ []
  parts_none zero old new calls parts = ap (flat_map f) parts
  parts_none (suc n) old new calls parts =
      ap (flat_map f) parts.2
      ∙ before_nothing f parts.0 parts.1 [] (parts_none n old new parts.0 parts.3) (part_none n (old n) (new n) parts.1 parts.4)

  pub items_none : f Close ≡ [] → (n : ℕ) (old new : ℕ → Side) (closes : Bool) (calls : List Call) → ItemsPart n old closes calls new → flat_map f calls ≡ []
  items_none closes_none n old new closes calls p =
      ap (flat_map f) p.made ∙ before_nothing f p.of_senders (if_so closes Close) [] (parts_none n old new p.of_senders p.parts) (if_none f closes Close closes_none)

  pub items_until_none : (old new : ℕ → Side) (calls : List Call) → ItemsPartUntil old calls new → flat_map f calls ≡ []
  items_until_none old new calls p =
      ap (flat_map f) p.made
      ∙ before_nothing f p.before p.mine [] (parts_none p.senders old new p.before p.parts) (until_none p.senders (old p.senders) (new p.senders) p.mine p.part)

module _ {A : Type 0} (f : Call → List A) (fetches_none : (i : ℕ) (answer : Option Report) → f (Fetch i answer) ≡ []) where
  mails_none : (n : ℕ) (old new : ℕ → Mail) (calls : List Call) → MailParts n old calls new → flat_map f calls ≡ []
  mails_none zero old new calls parts = ap (flat_map f) parts
  mails_none (suc n) old new calls parts =
      ap (flat_map f) parts.2
      ∙ before_nothing f parts.0 parts.1 [] (mails_none n old new parts.0 parts.3)
      (ap (flat_map f) parts.4.made ∙ none_of f (λ r. Fetch n (Some r)) (λ r. fetches_none n (Some r)) parts.4.fetched)

  pub reports_none : (n node now : ℕ) (cut : Bool) (old new : ℕ → Mail) (calls : List Call) → f (Disconnect node now) ≡ [] → ReportsPart n node now cut old calls new → flat_map f calls ≡ []
  reports_none n node now cut old new calls none p =
      ap (flat_map f) p.made
      ∙ before_nothing f (if_so cut (Disconnect node now)) p.of_senders [] (if_none f cut (Disconnect node now) none) (mails_none n old new p.of_senders p.parts)

  pub reports_until_none : (node now : ℕ) (cut : Bool) (old new : ℕ → Mail) (calls : List Call) → f (Disconnect node now) ≡ [] → ReportsPartUntil node now cut old calls new → flat_map f calls ≡ []
  reports_until_none node now cut old new calls none p =
      ap (flat_map f) p.made
      ∙ before_nothing f (if_so p.dropped (Disconnect node now)) p.of_senders [] (if_none f p.dropped (Disconnect node now) none) (mails_none p.senders old new p.of_senders p.parts)

-- ---- calls that append and fetch nothing

pub record Silent (calls : List Call) : Type 0 where
  pub appends : appended_in calls ≡ []
  pub fetches : (i : ℕ) → fetched_in i calls ≡ []

pub silent_then : (a b : List Call) → Silent a → Silent b → Silent (a ++ b)
silent_then a b p q = record {
  appends = before_nothing appended_by a b [] p.appends q.appends;
  fetches = λ i. before_nothing (fetched_by i) a b [] (p.fetches i) (q.fetches i);
}

pub asked_silent : (node now : ℕ) (sent : List Outgoing) (last : Option (Result (Option Outgoing) CoreFault)) → Silent (requests node now sent ++ asks node now last)
asked_silent node now sent last = record {
  appends = none_asked appended_by (λ node n answer. refl) node now sent last;
  fetches = λ i. none_asked (fetched_by i) (λ node n answer. refl) node now sent last;
}

pub replied_silent : (now : ℕ) (heard : List Heard) → Silent (map (hears now) heard)
replied_silent now heard = record {
  appends = none_of appended_by (hears now) (λ x. refl) heard;
  fetches = λ i. none_of (fetched_by i) (hears now) (λ x. refl) heard;
}

-- ---- one sender's items

all_theirs : (i : ℕ) (items : List Item) → AllByRecursion (λ x. x.sender ≡ i) items → from_sender i items ≡ items
all_theirs i [] h = refl
all_theirs i (x ∷ items) h = let e : (x.sender == i) ≡ true = eq-eqb x.sender i h.0 in rw e (ap (λ (zs : List Item). x ∷ zs) (all_theirs i items h.1))

none_theirs : (i k : ℕ) (items : List Item) → k ≢ i → AllByRecursion (λ x. x.sender ≡ k) items → from_sender i items ≡ []
none_theirs i k [] other h = refl
none_theirs i k (x ∷ items) other h =
    let differs : x.sender ≢ i = λ is. other (sym h.0 ∙ is) in
    let e : (x.sender == i) ≡ false = ne_eqb x.sender i differs in rw e (none_theirs i k items other h.1)

pub from_then : (i : ℕ) (xs ys : List Item) → from_sender i (xs ++ ys) ≡ from_sender i xs ++ from_sender i ys
from_then i xs ys = filter-append (λ (x : Item). x.sender == i) xs ys

theirs_then : (i : ℕ) (a b : List Call) → from_sender i (appended_in (a ++ b)) ≡ from_sender i (appended_in a) ++ from_sender i (appended_in b)
theirs_then i a b = ap (λ (xs : List Item). from_sender i xs) (flat_map-append appended_by a b) ∙ from_then i (appended_in a) (appended_in b)

all_appended : (items : List Item) → appended_in (appends items) ≡ items
all_appended [] = refl
all_appended (x ∷ items) = ap (λ (zs : List Item). x ∷ zs) (all_appended items)

pub took_none : (s t : Side) → t ≡ s → Took s [] t
took_none s t same = record {
  more = [];
  taken = ap (λ (u : Side). items_of u.passed) same ∙ sym (append-nil (items_of s.passed));
  in_order = append-nil (option_to_list s.held) ∙ ap (λ (u : Side). option_to_list u.held) (sym same);
}

-- ---- a part of one sender's

no_refused : (o : Option Item) → appended_in (refuses o) ≡ []
no_refused None = refl
no_refused (Some x) = refl

no_failed : (o : Option (Item × AppendFault)) → appended_in (fails o) ≡ []
no_failed None = refl
no_failed (Some x) = refl

part_appends : (i : ℕ) (old new : Side) (calls : List Call) (p : SenderPart i old calls new) → appended_in calls ≡ p.appended
part_appends i old new calls p =
    ap appended_in p.made
    ∙ before_nothing appended_by (appends p.appended ++ refuses new.held) (if_so (has_mark (drop old.asked_at new.passed)) Flush) p.appended
    (before_nothing appended_by (appends p.appended) (refuses new.held) p.appended (all_appended p.appended) (no_refused new.held))
    (if_none appended_by (has_mark (drop old.asked_at new.passed)) Flush refl)

until_appends : (i : ℕ) (old new : Side) (calls : List Call) (p : SenderPartUntil i old calls new) → appended_in calls ≡ p.appended
until_appends i old new calls p =
    ap appended_in p.made ∙ before_nothing appended_by (appends p.appended) (fails p.last) p.appended (all_appended p.appended) (no_failed p.last)

-- ---- the parts of the first senders

others_none : (n i : ℕ) (old new : Side) (mine : List Call) (appended : List Item) → n ≢ i → appended_in mine ≡ appended → Takes n old appended new
    → from_sender i (appended_in mine) ≡ []
others_none n i old new mine appended other is takes = ap (λ (xs : List Item). from_sender i xs) is ∙ none_theirs i n appended other takes.theirs

-- the part of one sender more
one_more_took : (n i : ℕ) (old new : ℕ → Side) (before mine : List Call) (appended : List Item)
    → (i < n → Took (old i) (from_sender i (appended_in before)) (new i)) → (n ≤ i → from_sender i (appended_in before) ≡ [])
    → appended_in mine ≡ appended → Takes n (old n) appended (new n)
    → i < suc n → Took (old i) (from_sender i (appended_in (before ++ mine))) (new i)
one_more_took n i old new before mine appended first none is takes near = ⊎_elim
    (λ (below : i < n).
    subst (λ (xs : List Item). Took (old i) xs (new i))
    (sym (theirs_then i before mine
    ∙ ap (λ (xs : List Item). from_sender i (appended_in before) ++ xs) (others_none n i (old n) (new n) mine appended (λ same. omega (arith, same, below)) is takes)
    ∙ append-nil (from_sender i (appended_in before))))
    (first below))
    (λ (here : n ≤ i).
    let same : n ≡ i = omega (arith, here, near) in
    let its : from_sender i (appended_in (before ++ mine)) ≡ appended =
    theirs_then i before mine
    ∙ ap (λ (xs : List Item). xs ++ from_sender i (appended_in mine)) (none here)
    ∙ ap (λ (xs : List Item). from_sender i xs) is
    ∙ all_theirs i appended (subst (λ (k : ℕ). AllByRecursion (λ x. x.sender ≡ k) appended) same takes.theirs) in
    subst (λ (xs : List Item). Took (old i) xs (new i)) (sym its)
    (subst (λ (k : ℕ). Took (old k) appended (new k)) same (record { more = takes.taken; taken = takes.were_taken; in_order = takes.in_order })))
    (cases_lt i n)

none_beyond : (n : ℕ) (old new : ℕ → Side) (calls : List Call) (i : ℕ) → n ≤ i → SenderParts n old calls new → from_sender i (appended_in calls) ≡ []
none_beyond zero old new calls i far parts = ap (λ (cs : List Call). from_sender i (appended_in cs)) parts
none_beyond (suc n) old new calls i far parts =
    ap (λ (cs : List Call). from_sender i (appended_in cs)) parts.2
    ∙ theirs_then i parts.0 parts.1
    ∙ ap (λ (xs : List Item). xs ++ from_sender i (appended_in parts.1)) (none_beyond n old new parts.0 i (omega (arith, far)) parts.3)
    ∙ others_none n i (old n) (new n) parts.1 parts.4.appended (λ same. omega (arith, same, far)) (part_appends n (old n) (new n) parts.1 parts.4) parts.4.takes

each_took : (n : ℕ) (old new : ℕ → Side) (calls : List Call) (i : ℕ) → i < n → SenderParts n old calls new → Took (old i) (from_sender i (appended_in calls)) (new i)
each_took zero old new calls i near parts = absurd (omega (arith, near))
each_took (suc n) old new calls i near parts =
    subst (λ (cs : List Call). Took (old i) (from_sender i (appended_in cs)) (new i)) (sym parts.2)
    (one_more_took n i old new parts.0 parts.1 parts.4.appended
    (λ below. each_took n old new parts.0 i below parts.3)
    (λ far. none_beyond n old new parts.0 i far parts.3)
    (part_appends n (old n) (new n) parts.1 parts.4) parts.4.takes near)

-- ---- the first part of a turn

-- Calls that take senders' items so, and fetch nothing.
pub record TakeItems (n : ℕ) (old : ℕ → Side) (calls : List Call) (new : ℕ → Side) : Type 0 where
  pub sides : (i : ℕ) → i < n → Took (old i) (from_sender i (appended_in calls)) (new i)
  pub fetches : (i : ℕ) → fetched_in i calls ≡ []

pub items_then : (n : ℕ) (old new : ℕ → Side) (a b : List Call) → TakeItems n old a new → Silent b → TakeItems n old (a ++ b) new
items_then n old new a b p q = record {
  sides = λ i near. subst (λ (xs : List Item). Took (old i) (from_sender i xs) (new i)) (sym (before_nothing appended_by a b (appended_in a) refl q.appends)) (p.sides i near);
  fetches = λ i. before_nothing (fetched_by i) a b [] (p.fetches i) (q.fetches i);
}

pub items_taken : (n : ℕ) (old new : ℕ → Side) (closes : Bool) (calls : List Call) → ItemsPart n old closes calls new → TakeItems n old calls new
items_taken n old new closes calls p = subst (λ (cs : List Call). TakeItems n old cs new) (sym p.made)
    (items_then n old new p.of_senders (if_so closes Close)
    (record { sides = λ i near. each_took n old new p.of_senders i near p.parts; fetches = λ i. parts_none (fetched_by i) (λ x answer. refl) refl n old new p.of_senders p.parts })
    (record { appends = if_none appended_by closes Close refl; fetches = λ i. if_none (fetched_by i) closes Close refl }))

pub items_until : (n : ℕ) (old new : ℕ → Side) (calls : List Call) → ItemsPartUntil old calls new → TakeItems n old calls new
items_until n old new calls p = record {
  sides = λ i near. subst (λ (cs : List Call). Took (old i) (from_sender i (appended_in cs)) (new i)) (sym p.made) (at i);
  fetches = λ i. items_until_none (fetched_by i) (λ x answer. refl) refl old new calls p;
}
  where
    m : ℕ
    m = p.senders

    its : appended_in p.mine ≡ p.part.appended
    its = until_appends m (old m) (new m) p.mine p.part

    at : (i : ℕ) → Took (old i) (from_sender i (appended_in (p.before ++ p.mine))) (new i)
    at i = ⊎_elim
        (λ (near : i < suc m).
        one_more_took m i old new p.before p.mine p.part.appended (λ below. each_took m old new p.before i below p.parts)
        (λ far. none_beyond m old new p.before i far p.parts) its p.part.takes near)
        (λ (far : suc m ≤ i).
        let none : from_sender i (appended_in (p.before ++ p.mine)) ≡ [] =
        theirs_then i p.before p.mine
        ∙ ap (λ (xs : List Item). xs ++ from_sender i (appended_in p.mine)) (none_beyond m old new p.before i (omega (arith, far)) p.parts)
        ∙ others_none m i (old m) (new m) p.mine p.part.appended (λ same. omega (arith, same, far)) its p.part.takes in
        subst (λ (xs : List Item). Took (old i) xs (new i)) (sym none) (took_none (old i) (new i) (p.later i (omega (arith, far)))))
        (cases_lt i (suc m))

-- ---- one sender's reports

-- The reports that were held and fetched are those that were handed over and that are held now.
pub record Handed (old : Mail) (fetched : List Report) (new : Mail) : Type 0 where
  pub handed : List Report
  pub were_handed : new.told ≡ old.told ++ handed
  pub in_order : option_to_list old.held ++ fetched ≡ handed ++ option_to_list new.held

pub handed_none : (s t : Mail) → t ≡ s → Handed s [] t
handed_none s t same = record {
  handed = [];
  were_handed = ap (λ (u : Mail). u.told) same ∙ sym (append-nil s.told);
  in_order = append-nil (option_to_list s.held) ∙ ap (λ (u : Mail). option_to_list u.held) (sym same);
}

all_fetched : (i : ℕ) (reports : List Report) → fetched_in i (fetches i reports) ≡ reports
all_fetched i [] = refl
all_fetched i (r ∷ reports) =
    ap (λ (zs : List Report). zs ++ fetched_in i (fetches i reports)) (here_fetched i (Some r)) ∙ ap (λ (zs : List Report). r ∷ zs) (all_fetched i reports)

fetched_elsewhere : (i n : ℕ) (reports : List Report) → i ≢ n → fetched_in i (fetches n reports) ≡ []
fetched_elsewhere i n reports other = none_of (fetched_by i) (λ r. Fetch n (Some r)) (λ r. elsewhere i n (Some r) other) reports

fetched_then : (i : ℕ) (a b : List Call) → fetched_in i (a ++ b) ≡ fetched_in i a ++ fetched_in i b
fetched_then i a b = flat_map-append (fetched_by i) a b

none_fetched_beyond : (n : ℕ) (old new : ℕ → Mail) (calls : List Call) (i : ℕ) → n ≤ i → MailParts n old calls new → fetched_in i calls ≡ []
none_fetched_beyond zero old new calls i far parts = ap (λ (cs : List Call). fetched_in i cs) parts
none_fetched_beyond (suc n) old new calls i far parts =
    ap (λ (cs : List Call). fetched_in i cs) parts.2
    ∙ before_nothing (fetched_by i) parts.0 parts.1 [] (none_fetched_beyond n old new parts.0 i (omega (arith, far)) parts.3)
    (ap (λ (cs : List Call). fetched_in i cs) parts.4.made ∙ fetched_elsewhere i n parts.4.fetched (λ same. omega (arith, same, far)))

each_handed : (n : ℕ) (old new : ℕ → Mail) (calls : List Call) (i : ℕ) → i < n → MailParts n old calls new → Handed (old i) (fetched_in i calls) (new i)
each_handed zero old new calls i near parts = absurd (omega (arith, near))
each_handed (suc n) old new calls i near parts = subst (λ (cs : List Call). Handed (old i) (fetched_in i cs) (new i)) (sym parts.2) (⊎_elim
    (λ (below : i < n).
    subst (λ (rs : List Report). Handed (old i) rs (new i))
    (sym (before_nothing (fetched_by i) parts.0 parts.1 (fetched_in i parts.0) refl
    (ap (λ (cs : List Call). fetched_in i cs) parts.4.made ∙ fetched_elsewhere i n parts.4.fetched (λ same. omega (arith, same, below)))))
    (each_handed n old new parts.0 i below parts.3))
    (λ (here : n ≤ i).
    let same : n ≡ i = omega (arith, here, near) in
    let its : fetched_in n (parts.0 ++ parts.1) ≡ parts.4.fetched =
    fetched_then n parts.0 parts.1
    ∙ ap (λ (rs : List Report). rs ++ fetched_in n parts.1) (none_fetched_beyond n old new parts.0 n (omega arith) parts.3)
    ∙ ap (λ (cs : List Call). fetched_in n cs) parts.4.made
    ∙ all_fetched n parts.4.fetched in
    subst (λ (k : ℕ). Handed (old k) (fetched_in k (parts.0 ++ parts.1)) (new k)) same
    (subst (λ (rs : List Report). Handed (old n) rs (new n)) (sym its)
    (record { handed = parts.4.handed; were_handed = parts.4.were_handed; in_order = parts.4.in_order })))
    (cases_lt i n))

-- ---- the last part of a turn

-- Calls that fetch reports, which are handed over, and append nothing.
pub record HandReports (n : ℕ) (old : ℕ → Mail) (calls : List Call) (new : ℕ → Mail) : Type 0 where
  pub mails : (i : ℕ) → i < n → Handed (old i) (fetched_in i calls) (new i)
  pub appends : appended_in calls ≡ []

behind_dropped : (n node now : ℕ) (old new : ℕ → Mail) (dropped : Bool) (calls : List Call) → HandReports n old calls new
    → HandReports n old (if_so dropped (Disconnect node now) ++ calls) new
behind_dropped n node now old new true calls h = record { mails = h.mails; appends = h.appends }
behind_dropped n node now old new false calls h = h

pub reports_handed : (n node now : ℕ) (cut : Bool) (old new : ℕ → Mail) (calls : List Call) → ReportsPart n node now cut old calls new → HandReports n old calls new
reports_handed n node now cut old new calls p = subst (λ (cs : List Call). HandReports n old cs new) (sym p.made)
    (behind_dropped n node now old new cut p.of_senders (record {
      mails = λ i near. each_handed n old new p.of_senders i near p.parts;
      appends = mails_none appended_by (λ i answer. refl) n old new p.of_senders p.parts;
    }))

pub reports_until : (n node now : ℕ) (cut : Bool) (old new : ℕ → Mail) (calls : List Call) → ReportsPartUntil node now cut old calls new → HandReports n old calls new
reports_until n node now cut old new calls p = subst (λ (cs : List Call). HandReports n old cs new) (sym p.made)
    (behind_dropped n node now old new p.dropped p.of_senders (record {
      mails = λ i near. ⊎_elim
          (λ (below : i < p.senders). each_handed p.senders old new p.of_senders i below p.parts)
          (λ (far : p.senders ≤ i).
          subst (λ (rs : List Report). Handed (old i) rs (new i)) (sym (none_fetched_beyond p.senders old new p.of_senders i far p.parts)) (handed_none (old i) (new i) (p.later i far)))
          (cases_lt i p.senders);
      appends = mails_none appended_by (λ i answer. refl) p.senders old new p.of_senders p.parts;
    }))
