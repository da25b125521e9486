-- What senders had accepted may be accepted first.
use Rattle.std.proofs.Common.{◌≡◌, ℕ, ◌+◌, ◌<◌, ◌≤◌, Bool, true, false, List, [], ◌∷◌, ◌++◌, length, map, replicate, refl, sym, ap, ◌∙◌, subst, arith, append_assoc, length-append}
use Rattle.std.specs.Prelude.{slice_set, slice_index_or}
use Rattle.std.proofs.lemmas.List.{append-nil, length-replicate}
use Rattle.kp_accum.specs.declared.config.Config.{Config}
use Rattle.kp_accum.specs.declared.item.Item.{Item}
use Rattle.kp_accum.specs.Queue.{charge_of}
use Rattle.kp_log.specs.History.{empty_history}
use Rattle.kp_rules.specs.Auditing.{without_audits, opened}
use Rattle.kp_rules.specs.Opening.{new_core}
use Rattle.kp_world.specs.Accepting.{for_partition}
use Rattle.kp_world.specs.World.{Opening}
use Rattle.kp_headline.specs.Assumptions.{IsHonest, IsNotMadeUp, IsInTurn, KeepsIdsApart, Assumed}
use Rattle.kp_headline.specs.Moves.{Move, Accepting, IsAccepted, IsMove, AreMoves, Throughout, after, led}
use Rattle.kp_headline.specs.Offering.{IsOffered, AreOffered, AllOffered, accepting, having_accepted, MayComeFirst}
use Rattle.kp_headline.specs.Outside.{State, new_state}

-- ---- moves one after the other

pub led_further : (a : State) (ms ns : List Move) → led a (ms ++ ns) ≡ led (led a ms) ns
led_further a [] ns = refl
led_further a (m ∷ ms) ns = led_further (after m a) ms ns

pub throughout_further : (Holds : State → Move → Type 0) (a : State) (ms ns : List Move) → Throughout Holds a ms → Throughout Holds (led a ms) ns → Throughout Holds a (ms ++ ns)
throughout_further Holds a [] ns h k = k
throughout_further Holds a (m ∷ ms) ns h k = (h.0, throughout_further Holds (after m a) ms ns h.1 k)

-- ---- one sender's list among others

at_seam : (done : List (List Item)) (x : List Item) (rest : List (List Item)) → slice_index_or (done ++ x ∷ rest) (length done) [] ≡ x
at_seam [] x rest = refl
at_seam (y ∷ done) x rest = at_seam done x rest

set_seam : (done : List (List Item)) (x y : List Item) (rest : List (List Item)) → slice_set (done ++ x ∷ rest) (length done) y ≡ done ++ y ∷ rest
set_seam [] x y rest = refl
set_seam (z ∷ done) x y rest = ap (λ (zs : List (List Item)). z ∷ zs) (set_seam done x y rest)

length_seam : (done : List (List Item)) (x : List Item) (rest : List (List Item)) → length done < length (done ++ x ∷ rest)
length_seam done x rest = let long : length (done ++ x ∷ rest) ≡ length done + length (x ∷ rest) = length-append done (x ∷ rest) in omega (arith, long)

config_of : (o : Opening) (audits : Bool) → (opened audits (new_core o.config o.names o.partitions o.senders o.id o.correlation)).config ≡ o.config
unfolding new_core without_audits
config_of o true = refl
config_of o false = refl

is_accepted : (o : Opening) (done : List (List Item)) (rest : List (List Item)) (before : List Item) (i : Item) → IsOffered o (length done) before i → IsAccepted (having_accepted o (done ++ before ∷ rest)) i
is_accepted o done rest before i h = record {
  going = refl;
  sender = subst (λ (n : ℕ). n < length (done ++ before ∷ rest)) (sym h.sender) (length_seam done before rest);
  partition = subst (λ (n : ℕ). i.partition < n) (sym (length-replicate o.partitions empty_history)) h.partition;
  number = h.number
      ∙ ap (λ (items : List Item). length (for_partition i.partition items)) (sym (at_seam done before rest))
      ∙ ap (λ (n : ℕ). length (for_partition i.partition (slice_index_or (done ++ before ∷ rest) n []))) (sym h.sender);
  fits_request = subst (λ (c : Config). charge_of i ≤ c.max_request_size) (sym (config_of o o.audits)) h.fits_request;
  fits_memory = subst (λ (c : Config). charge_of i ≤ c.buffer_memory) (sym (config_of o o.audits)) h.fits_memory;
}

abbrev Leads : State → List Move → State → Type 0
Leads a ms b = AreMoves a ms × (led a ms ≡ b)

items_come : (o : Opening) (done rest : List (List Item)) (before items : List Item) → AreOffered o (length done) before items
    → Leads (having_accepted o (done ++ before ∷ rest)) (map Accepting items) (having_accepted o (done ++ (before ++ items) ∷ rest))
items_come o done rest before [] h = (tt, ap (λ (z : List Item). having_accepted o (done ++ z ∷ rest)) (sym (append-nil before)))
items_come o done rest before (i ∷ items) h =
    let all : List (List Item) = done ++ before ∷ rest in
    let step : after (Accepting i) (having_accepted o all) ≡ having_accepted o (done ++ (before ++ i ∷ []) ∷ rest) =
    ap (λ (n : ℕ). having_accepted o (slice_set all n (slice_index_or all n [] ++ i ∷ []))) h.0.sender
    ∙ ap (λ (z : List Item). having_accepted o (slice_set all (length done) (z ++ i ∷ []))) (at_seam done before rest)
    ∙ ap (having_accepted o) (set_seam done before (before ++ i ∷ []) rest) in
    let further = items_come o done rest (before ++ i ∷ []) items h.1 in (
      (is_accepted o done rest before i h.0, subst (λ (a : State). AreMoves a (map Accepting items)) (sym step) further.0),
      ap (λ (a : State). led a (map Accepting items)) step ∙ further.1 ∙ ap (λ (z : List Item). having_accepted o (done ++ z ∷ rest)) (append_assoc before (i ∷ []) items),
    )

-- ---- all senders' lists

lists_come : (o : Opening) (s : ℕ) (done lists : List (List Item)) → s ≡ length done → AllOffered o s lists
    → Leads (having_accepted o (done ++ replicate (length lists) [])) (accepting lists) (having_accepted o (done ++ lists))
lists_come o s done [] at h = (tt, refl)
lists_come o s done (items ∷ lists) at h =
    let none : List (List Item) = replicate (length lists) [] in
    let a : State = having_accepted o (done ++ [] ∷ none) in
    let one = items_come o done none [] items (subst (λ (n : ℕ). AreOffered o n [] items) at h.0) in
    let place : s + 1 ≡ length (done ++ items ∷ []) = let long : length (done ++ items ∷ []) ≡ length done + length (items ∷ []) = length-append done (items ∷ []) in omega (arith, long, at) in
    let others = lists_come o (s + 1) (done ++ items ∷ []) lists place h.1 in
    let seam : led a (map Accepting items) ≡ having_accepted o ((done ++ items ∷ []) ++ none) = one.1 ∙ ap (having_accepted o) (sym (append_assoc done (items ∷ []) none)) in (
      throughout_further IsMove a (map Accepting items) (accepting lists) one.0 (subst (λ (b : State). AreMoves b (accepting lists)) (sym seam) others.0),
      led_further a (map Accepting items) (accepting lists)
          ∙ ap (λ (b : State). led b (accepting lists)) seam
          ∙ others.1
          ∙ ap (having_accepted o) (append_assoc done (items ∷ []) lists),
    )

-- ---- nothing is assumed of them

of_items : (Holds : State → Move → Type 0) → ((a : State) (i : Item) → Holds a (Accepting i)) → (items : List Item) (a : State) → Throughout Holds a (map Accepting items)
of_items Holds each [] a = tt
of_items Holds each (i ∷ items) a = (each a i, of_items Holds each items (after (Accepting i) a))

of_lists : (Holds : State → Move → Type 0) → ((a : State) (i : Item) → Holds a (Accepting i)) → (lists : List (List Item)) (a : State) → Throughout Holds a (accepting lists)
of_lists Holds each [] a = tt
of_lists Holds each (items ∷ lists) a =
    throughout_further Holds a (map Accepting items) (accepting lists) (of_items Holds each items a) (of_lists Holds each lists (led a (map Accepting items)))

nothing_assumed : (lists : List (List Item)) (a : State) → Assumed a (accepting lists)
nothing_assumed lists a = record {
  honest = of_lists IsHonest (λ b i. tt) lists a;
  not_made_up = of_lists IsNotMadeUp (λ b i. tt) lists a;
  in_turn = of_lists IsInTurn (λ b i. tt) lists a;
  ids_once = of_lists KeepsIdsApart (λ b i. tt) lists a;
}

pub may_come_first : (o : Opening) (lists : List (List Item)) → length lists ≡ o.senders → AllOffered o 0 lists → MayComeFirst o lists
may_come_first o lists many h =
    let begin : having_accepted o (replicate (length lists) []) ≡ new_state o = ap (λ (n : ℕ). having_accepted o (replicate n [])) many in
    let all = lists_come o 0 [] lists refl h in
    record {
      moves = subst (λ (a : State). AreMoves a (accepting lists)) begin all.0;
      assumed = nothing_assumed lists (new_state o);
      lead = ap (λ (a : State). led a (accepting lists)) (sym begin) ∙ all.1;
    }
