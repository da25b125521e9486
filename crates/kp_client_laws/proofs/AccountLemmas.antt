-- What was handed over is what was accepted, but for what was told unsent and what comes back.
use Rattle.std.proofs.Common.{◌≡◌, ◌≢◌, ℕ, zero, suc, ◌<◌, Bool, true, false, List, [], ◌∷◌, ◌++◌, map, length, refl, sym, ap, ◌∙◌, subst, ⊎_elim, eq-eqb, ne_eqb, append_assoc, arith, sum_by}
use Rattle.std.specs.Prelude.{filter, flat_map, drop, not, option_to_list, slice_index, slice_index_or, replicate, ◌==◌, ◌&&◌, ◌||◌, if◌then◌else◌}
use Rattle.std.specs.List.{AllByRecursion}
use Rattle.std.proofs.Math.Seq.{drop-append_seam}
use Rattle.std.proofs.lemmas.Bool.{cases_eq}
use Rattle.std.proofs.lemmas.List.{length-replicate}
use Rattle.std.proofs.lemmas.List.Elements.{filter-append}
use Rattle.std.proofs.lemmas.List.Sums.{sum_by-cons}
use Rattle.kp_accum.specs.declared.item.Item.{Item}
use Rattle.kp_client.specs.Ends.{Looks, WasServed, WasUnserved}
use Rattle.kp_client.specs.Left.{parts_in, items_left, rings_left}
use Rattle.kp_client.specs.Service.{core_of, intake_of}
use Rattle.kp_client_laws.specs.Accounts.{AreAccountedFor, is_unsent_by, was_sent}
use Rattle.kp_client_laws.specs.Over.{opening_of}
use Rattle.kp_client_laws.proofs.OverLemmas.{Whatever, after_service, have, looks_since, polls}
use Rattle.kp_client_laws.proofs.ReportLemmas.{are_reported}
use Rattle.kp_client_laws.proofs.StandLemmas.{still_accepted}
use Rattle.kp_client_laws.proofs.TakenLemmas.{lives_appended, none_yet, taken_led}
use Rattle.kp_engine.specs.Exchange.{senders_of, side_of}
use Rattle.kp_engine.specs.Made.{anything}
use Rattle.kp_engine.specs.Serving.{HasServed, from_sender}
use Rattle.kp_engine.specs.declared.exchange.Exchange.{Exchange}
use Rattle.kp_engine.specs.declared.parts.Held.{Held}
use Rattle.kp_engine.specs.declared.parts.Parts.{Parts}
use Rattle.kp_engine.proofs.BegunLemmas.{empty_at, since_new, taken_at_the_end, taken_is}
use Rattle.kp_engine.proofs.IntakeLemmas as intake
use Rattle.kp_engine.proofs.MadeLemmas.{has_served}
use Rattle.kp_engine.proofs.PartsLemmas.{items_held}
use Rattle.kp_engine.proofs.RunLemmas.{nothing_lived}
use Rattle.kp_headline.specs.Laws.{calls_in}
use Rattle.kp_headline.specs.Moves.{led}
use Rattle.kp_headline.specs.Offering.{having_accepted}
use Rattle.kp_headline.specs.Outside.{State, known}
use Rattle.kp_headline.proofs.LawLemmas as law
use Rattle.kp_headline.proofs.LifeLemmas.{leads_to}
use Rattle.kp_lanes.specs.Entries.{items_of}
use Rattle.kp_lanes.specs.Intake.{lanes_of, passed_lists, taken_of}
use Rattle.kp_lanes.specs.Sender.{all_accepted, finished_number}
use Rattle.kp_lanes.specs.Settling.{Adds, left_items}
use Rattle.kp_lanes.specs.declared.intake.Intake.{Intake}
use Rattle.kp_lanes.specs.declared.sender.Finished.{Finished}
use Rattle.kp_polls.proofs.AroundLemmas.{leads}
use Rattle.kp_rules.specs.Auditing.{opened, unaudited, without_audits}
use Rattle.kp_rules.specs.Calls.{Call, Life, Lives, appended_by}
use Rattle.kp_rules.specs.Opening.{new_core}
use Rattle.kp_rules.specs.Partitions.{all_untold, items_open, items_queued, new_partition, partition_at, untold}
use Rattle.kp_rules.specs.Records.{Core, Partition, Told}
use Rattle.kp_rules.specs.Reports.{reports_to}
use Rattle.kp_rules.specs.declared.outcome.Report.{Report}
use Rattle.kp_rules.proofs.ListLemmas.{all_filter}
use Rattle.kp_world.specs.Accepting.{for_partition}
use Rattle.kp_world.specs.Accounts as account
use Rattle.kp_world.specs.Accounts.{has_left, is_among, is_same, is_unsent, items_handed, not_taken, of_sender, queued_at, still_waits, unsent_among}
use Rattle.kp_world.specs.World.{Opening}
use Rattle.kp_world.proofs.FateLemmas.{any_none, filter_agrees}

-- ---- tests

yes_both : (a b rest : Bool) → ((a && b) || rest) ≡ ((a && (b && true)) || rest)
yes_both true true rest = refl
yes_both true false rest = refl
yes_both false b rest = refl

no_third : (a b rest : Bool) → rest ≡ ((a && (b && false)) || rest)
no_third true true rest = refl
no_third true false rest = refl
no_third false b rest = refl

no_more : (a : Bool) → (a || false) ≡ a
no_more true = refl
no_more false = refl

-- ---- what a sender was told unsent of

module _ (n : ℕ) (i : Item) (its : i.sender ≡ n) where
  same_so : (t : Told) → (t.item.sender == n) ≡ true → is_same i t.item ≡ (i.partition == t.item.partition && (i.number == t.item.number))
  same_so t mine = ap (λ (b : Bool). b && (i.partition == t.item.partition && (i.number == t.item.number))) (eq-eqb i.sender t.item.sender (its ∙ sym (of_test t.item.sender n mine)))
    where
      of_test : (a b : ℕ) → (a == b) ≡ true → a ≡ b
      of_test a b is = ⊎_elim (λ (e : a ≡ b). e) (λ (e : a ≢ b). absurd (let no : (a == b) ≡ false = ne_eqb a b e in cc)) (cases_eq a b)

  other_so : (j : Item) → (j.sender == n) ≡ false → is_same i j ≡ false
  other_so j other = ap (λ (b : Bool). b && (i.partition == j.partition && (i.number == j.number)))
      (ne_eqb i.sender j.sender (λ is. let yes : (j.sender == n) ≡ true = eq-eqb j.sender n (sym is ∙ its) in absurd cc))

  unsent_so : (told : List Told) → is_among i (unsent_among told) ≡ is_unsent_by (reports_to n told) i
  unsent_so [] = refl
  unsent_so (t ∷ ts) = at_tests (unsent_so ts) (is_unsent t.outcome) refl (t.item.sender == n) refl
    where
      report : Told → Report
      report u = record { sender = u.item.sender; partition = u.item.partition; number = u.item.number; outcome = u.outcome }

      at_tests : is_among i (unsent_among ts) ≡ is_unsent_by (reports_to n ts) i → (b : Bool) → is_unsent t.outcome ≡ b → (m : Bool) → (t.item.sender == n) ≡ m
          → is_among i (map (λ (u : Told). u.item) (if b then t ∷ filter (λ u. is_unsent u.outcome) ts else filter (λ u. is_unsent u.outcome) ts))
          ≡ is_unsent_by (map report (if m then t ∷ filter (λ u. u.item.sender == n) ts else filter (λ u. u.item.sender == n) ts)) i
      at_tests rest true unsent true mine =
          ap (λ (b : Bool). b || is_among i (unsent_among ts)) (same_so t mine)
          ∙ yes_both (i.partition == t.item.partition) (i.number == t.item.number) (is_among i (unsent_among ts))
          ∙ ap (λ (u : Bool). (i.partition == t.item.partition && (i.number == t.item.number && u)) || is_among i (unsent_among ts)) (sym unsent)
          ∙ ap (λ (r : Bool). (i.partition == t.item.partition && (i.number == t.item.number && is_unsent t.outcome)) || r) rest
      at_tests rest true unsent false mine = ap (λ (b : Bool). b || is_among i (unsent_among ts)) (other_so t.item mine) ∙ rest
      at_tests rest false unsent true mine =
          rest
          ∙ no_third (i.partition == t.item.partition) (i.number == t.item.number) (is_unsent_by (reports_to n ts) i)
          ∙ ap (λ (u : Bool). (i.partition == t.item.partition && (i.number == t.item.number && u)) || is_unsent_by (reports_to n ts) i) (sym unsent)
      at_tests rest false unsent false mine = rest

  -- ---- nothing of it waits in a queue

  none_among : (xs : List Item) → from_sender n xs ≡ [] → AllByRecursion (λ j. is_same i j ≡ false) xs
  none_among [] none = tt
  none_among (j ∷ xs) none = at_test (none_among xs) (j.sender == n) refl none
    where
      at_test : (from_sender n xs ≡ [] → AllByRecursion (λ k. is_same i k ≡ false) xs) → (m : Bool) → (j.sender == n) ≡ m → (if m then j ∷ from_sender n xs else from_sender n xs) ≡ [] → (is_same i j ≡ false) × AllByRecursion (λ k. is_same i k ≡ false) xs
      at_test later true mine e = absurd cc
      at_test later false other e = (other_so j other, later e)

  first_none : (xs ys : List Item) → xs ++ ys ≡ [] → xs ≡ []
  first_none [] ys e = refl
  first_none (x ∷ xs) ys e = absurd cc

  second_none : (xs ys : List Item) → xs ++ ys ≡ [] → ys ≡ []
  second_none [] ys e = e
  second_none (x ∷ xs) ys e = absurd cc

  abbrev mine : List Item → List Item
  mine xs = from_sender n xs

  parted : (xs ys : List Item) → mine (xs ++ ys) ≡ [] → mine xs ++ mine ys ≡ []
  parted xs ys e = sym (filter-append (λ (j : Item). j.sender == n) xs ys) ∙ e

  none_queued : (ts : List Partition) (p : ℕ) → mine (flat_map untold ts) ≡ [] → is_among i (items_queued (partition_at p ts).queue) ≡ false
  unfolding untold
  none_queued [] p none = refl
  none_queued (t ∷ ts) zero none =
      let here = first_none (mine (untold t)) (mine (flat_map untold ts)) (parted (untold t) (flat_map untold ts) none) in
      any_none (is_same i) (items_queued t.queue) (none_among (items_queued t.queue)
      (second_none (mine (items_open t.open_batches)) (mine (items_queued t.queue)) (parted (items_open t.open_batches) (items_queued t.queue) here)))
  none_queued (t ∷ ts) (suc p) none =
      none_queued ts p (second_none (mine (untold t)) (mine (flat_map untold ts)) (parted (untold t) (flat_map untold ts) none))

-- ---- the end

count_none : (xs : List Item) → sum_by (λ x. 1) xs ≡ 0 → xs ≡ []
count_none [] none = refl
count_none (x ∷ xs) none = absurd (omega (arith, none, sum_by-cons (λ (y : Item). 1) x xs))

none_untold : (ts : ℕ) (id : ℕ) → flat_map untold (replicate ts (new_partition id)) ≡ []
unfolding untold
none_untold zero id = refl
none_untold (suc ts) id = none_untold ts id

none_untold_unaudited : (ts : ℕ) (id : ℕ) → flat_map untold (map unaudited (replicate ts (new_partition id))) ≡ []
unfolding untold
none_untold_unaudited zero id = refl
none_untold_unaudited (suc ts) id = none_untold_unaudited ts id

new_untold : (o : Opening) (audits : Bool) → all_untold (opened audits (new_core o.config o.names o.partitions o.senders o.id o.correlation)) ≡ []
unfolding new_core without_audits
new_untold o true = none_untold o.partitions o.id
new_untold o false = none_untold_unaudited o.partitions o.id

-- What is known of a sender at the end: what was taken of what it had accepted; and nothing of it is untold.
record IsAtEnd (b : State) (n : ℕ) (accepted left : List Item) : Type 0 where
  appended : List Item
  parts : accepted ≡ appended ++ left
  taken : slice_index b.outside.taken n ≡ length appended
  none_waits : from_sender n (all_untold b.core) ≡ []

pub accounts : Whatever AreAccountedFor
accounts service finished left accepted ms over had around assumed k d near = λ p there.
    law_of p there
    ∙ ap (λ (xs : List Item). filter (has_left (known b)) (for_partition p xs)) its_list
    ∙ filter_agrees (has_left (known b)) (was_sent left f) (for_partition p (all_accepted f))
    (all_agree (for_partition p (all_accepted f)) (all_filter (λ i. i.sender ≡ n) (λ (i : Item). i.partition == p) (all_accepted f) (all_its (all_accepted f) [] refl)))
  where
    o : Opening
    o = opening_of service

    f : Finished
    f = slice_index_or finished k d

    n : ℕ
    n = finished_number f

    a : State
    a = having_accepted o accepted

    b : State
    b = led a ms

    parts : Parts
    parts = parts_in over.ended

    lane : n < length (lanes_of parts.intake)
    lane = (over.settled.theirs k d near).0

    adds : Adds parts.intake (rings_left left) f
    adds = over.settled.adds k d near

    ring : List Item
    ring = slice_index_or (left_items left.items.items) n []

    law_of : (p : ℕ) → p < o.partitions → of_sender n (items_handed p (known b)) ≡ filter (has_left (known b)) (for_partition p (account.all_accepted n (known b)))
    law_of p there = after_service service finished left accepted ms over had around assumed (λ c. account.AreAccountedFor n p (known c)) (law.accounted o n p there)

    its_list : account.all_accepted n (known b) ≡ all_accepted f
    its_list = ap (λ (ls : List (List Item)). slice_index_or ls n []) (still_accepted a ms around.all_before) ∙ had.all k d near

    all_its : (xs before : List Item) → all_accepted f ≡ before ++ xs → AllByRecursion (λ i. i.sender ≡ n) xs
    all_its [] before is = tt
    all_its (x ∷ xs) before is =
        (((over.settled.in_place k d near).each before x xs is).0.its_sender, all_its xs (before ++ x ∷ []) (is ∙ sym (append_assoc before (x ∷ []) xs)))

    back : items_left left n ≡ from_sender n parts.held.items.items ++ ring
    back = ap (λ (h : Held). from_sender n h.items.items ++ ring) over.settled.same_held

    served : WasServed (core_of service) (intake_of service) over.has_ended.calls over.ended → IsAtEnd b n (all_accepted f) (items_left left n)
    served s =
        let x : Exchange = s.engine.last in
        let cs : List Call = over.has_ended.calls in
        let h : HasServed (core_of service) (intake_of service) cs x = has_served (core_of service) (intake_of service) cs x s.engine.polled in
        let looks : Looks x.intake parts.intake = looks_since service finished left accepted ms over had s in
        let there : n < senders_of x = omega (arith, lane, ap length looks.lanes, x.agree.lanes) in
        let first : n < senders_of h.first = omega (arith, there, h.served.lanes.senders) in
        let appended : List Item = from_sender n h.served.life.appended in
        let held : from_sender n parts.held.items.items ≡ option_to_list (side_of x n).held =
        ap (λ (q : Held). from_sender n q.items.items) s.same_held ∙ items_held (core_of service) (intake_of service) cs x s.parts h s.engine.ended s.engine.apart n there in
        let taken : taken_of parts.intake n ≡ appended ++ from_sender n parts.held.items.items =
        ap (λ (ls : List (List Item)). slice_index_or ls n []) looks.taken ∙ intake.taken_is x.intake n
        ∙ (since_new (core_of service) (intake_of service) h.keeps h.first h.may h.is_new n cs x h.served first).0
        ∙ ap (λ (xs : List Item). appended ++ xs) (sym held) in
        let wide : length (lanes_of (intake_of service)) ≡ o.senders = service.fits.senders in
        let sized : length (lanes_of parts.intake) ≡ length (lanes_of (intake_of service)) =
        ap length looks.lanes ∙ ap length (h.served.lanes.lanes) ∙ ap (λ (t : Intake). length (lanes_of t)) h.is_new.intake in
        let counted = taken_led n a ms (omega (arith, lane, sized, wide, length-replicate {A = ℕ} o.senders 0)) in
        let calls_are : flat_map appended_by (calls_in ms) ≡ h.served.life.appended =
        ap (flat_map appended_by) around.same_calls ∙ sym (lives_appended h.first.core cs h.served.life x.core h.served.lives) in
        let w = taken_is (core_of service) (intake_of service) cs x h n there (λ y. 1) in
        let v = taken_at_the_end (core_of service) (intake_of service) cs x h s.engine.ended n there (λ y. 1) in
        let core : b.core ≡ x.core = leads anything o cs x accepted ms (polls service finished left accepted ms over had s) (have service finished left accepted ms over had s) around assumed in record {
          appended = appended;
          parts = adds.items ∙ ap (λ (xs : List Item). xs ++ ring) taken ∙ append_assoc appended (from_sender n parts.held.items.items) ring ∙ ap (λ (xs : List Item). appended ++ xs) (sym back);
          taken = omega (arith, counted, none_yet o.senders n, ap (λ (xs : List Item). length (from_sender n xs)) calls_are);
          none_waits = ap (λ (c : Core). from_sender n (all_untold c)) core ∙ count_none (from_sender n (all_untold x.core)) (omega (arith, w, v));
        }

    unserved : WasUnserved (core_of service) (intake_of service) over.has_ended.calls over.ended → IsAtEnd b n (all_accepted f) (items_left left n)
    unserved u =
        let none_taken : taken_of parts.intake n ≡ [] =
        ap (λ (ls : List (List Item)). slice_index_or ls n []) u.looks.taken ∙ intake.taken_is (intake_of service) n ∙ ap items_of (empty_at (passed_lists (intake_of service)) n u.may_turn.nothing_passed) in
        let no_calls : calls_in ms ≡ [] = around.same_calls ∙ u.no_call in
        let wide : length (lanes_of (intake_of service)) ≡ o.senders = service.fits.senders in
        let sized : length (lanes_of parts.intake) ≡ length (lanes_of (intake_of service)) = ap length u.looks.lanes in
        let counted = taken_led n a ms (omega (arith, lane, sized, wide, length-replicate {A = ℕ} o.senders 0)) in
        let no_life : Life = record { appended = []; told = []; packets = [] } in
        let lead = leads_to a ms no_life a.core around.moves (subst (λ (cs : List Call). Lives a.core cs no_life a.core) (sym no_calls) (nothing_lived a.core a.core refl)) in record {
          appended = [];
          parts = adds.items ∙ ap (λ (xs : List Item). xs ++ ring) none_taken ∙ ap (λ (xs : List Item). from_sender n xs ++ ring) (sym u.no_item) ∙ sym back;
          taken = omega (arith, counted, none_yet o.senders n, ap (λ (cs : List Call). length (from_sender n (flat_map appended_by cs))) no_calls);
          none_waits = ap (λ (c : Core). from_sender n (all_untold c)) lead.core ∙ ap (λ (xs : List Item). from_sender n xs) (new_untold o o.audits);
        }

    at_end : IsAtEnd b n (all_accepted f) (items_left left n)
    at_end = ⊎_elim served unserved over.has_ended.how

    rest_is : not_taken n (known b) ≡ items_left left n
    rest_is =
        ap (λ (m : ℕ). drop m (account.all_accepted n (known b))) at_end.taken
        ∙ ap (drop (length at_end.appended)) (its_list ∙ at_end.parts)
        ∙ drop-append_seam at_end.appended (items_left left n)

    agrees : (i : Item) → i.sender ≡ n → has_left (known b) i ≡ was_sent left f i
    agrees i its =
        ap (λ (m : ℕ). not (is_among i (unsent_among b.outside.told)) && not (is_among i (not_taken m (known b)) || is_among i (queued_at i.partition (known b)))) its
        ∙ ap (λ (q : Bool). not (is_among i (unsent_among b.outside.told)) && not (is_among i (not_taken n (known b)) || q)) (none_queued n i its b.core.partitions i.partition at_end.none_waits)
        ∙ ap (λ (q : Bool). not (is_among i (unsent_among b.outside.told)) && not q) (no_more (is_among i (not_taken n (known b))))
        ∙ ap (λ (xs : List Item). not (is_among i (unsent_among b.outside.told)) && not (is_among i xs)) rest_is
        ∙ ap (λ (u : Bool). not u && not (is_among i (items_left left n))) (unsent_so n i its b.outside.told)
        ∙ ap (λ (rs : List Report). not (is_unsent_by rs i) && not (is_among i (items_left left n))) (sym (are_reported service finished left accepted ms over had around assumed k d near))

    all_agree : (xs : List Item) → AllByRecursion (λ i. i.sender ≡ n) xs → AllByRecursion (λ i. has_left (known b) i ≡ was_sent left f i) xs
    all_agree [] h = tt
    all_agree (x ∷ xs) h = (agrees x h.0, all_agree xs h.1)
