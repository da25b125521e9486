-- What a sender is told to be delivered stands where it is told.
use Rattle.std.proofs.Common.{◌≡◌, ℕ, ◌+◌, ◌<◌, Bool, true, List, [], ◌∷◌, ◌++◌, map, refl, sym, ap, ◌∙◌, subst, ⊎_elim, eq-eqb, arith, Contains}
use Rattle.std.specs.Prelude.{ℤ, Some, None, Ok, Err, filter, slice_index_or, ◌==◌, if◌then◌else◌}
use Rattle.kp_accum.specs.declared.item.Item.{Item}
use Rattle.kp_client_laws.specs.Over.{opening_of}
use Rattle.kp_client_laws.specs.Told.{DeliveredStand}
use Rattle.kp_client_laws.proofs.OverLemmas.{Whatever, after_service}
use Rattle.kp_client_laws.proofs.ReportLemmas.{are_reported}
use Rattle.kp_headline.specs.Laws.{AfterAnyMoves}
use Rattle.kp_headline.specs.Moves.{Move, Accepting, Calling, Meeting, Drawing, Others, after, called, led, with_packets}
use Rattle.kp_headline.specs.Offering.{having_accepted}
use Rattle.kp_headline.specs.Outside.{Outside, State, known}
use Rattle.kp_headline.proofs.LawLemmas as law
use Rattle.kp_lanes.specs.Entries.{count_of, one_of}
use Rattle.kp_lanes.specs.Limits.{AreInPlace}
use Rattle.kp_lanes.specs.Sender.{all_accepted, finished_number}
use Rattle.kp_lanes.specs.declared.limits.Limits.{Limits}
use Rattle.kp_lanes.specs.declared.sender.Finished.{Finished}
use Rattle.kp_log.proofs.PlaceLemmas.{In, In-cons, In-filter, In-from_contains, In-head, In-nil, In-tail, contains_from_In, cut_cases}
use Rattle.kp_headline.specs.Around.{accepted_in}
use Rattle.kp_rules.specs.Calls.{Call, packets_by}
use Rattle.kp_rules.specs.Calls as call
use Rattle.kp_rules.specs.Records.{Core, Told}
use Rattle.kp_rules.specs.Reports.{reports_to}
use Rattle.kp_rules.specs.Requesting.{Packet}
use Rattle.kp_rules.specs.declared.outcome.Outcome.TheVariants.{Delivered}
use Rattle.kp_rules.specs.declared.outcome.Report.{Report}
use Rattle.kp_world.specs.Accepting.{for_partition}
use Rattle.kp_world.specs.Accounts.{AreAccountedFor, has_left, items_handed, of_sender}
use Rattle.kp_world.specs.Accounts as account
use Rattle.kp_world.specs.Events.{WorldEvent}
use Rattle.kp_world.specs.Facts.{Facts, facts, told_in}
use Rattle.kp_world.specs.LogLaws.{StandsAt, ToldOffsetsStand}
use Rattle.kp_world.specs.Run.{IsReached}
use Rattle.kp_world.specs.World.{Opening, World}
use Rattle.kp_world.proofs.ListLemmas.{left_in}
use Rattle.kp_world.proofs.TruthLemmas.{truthful_reached}

-- ---- a report is of something told

abbrev report_of : Told → Report
report_of t = record { sender = t.item.sender; partition = t.item.partition; number = t.item.number; outcome = t.outcome }

of_map : {A B : Type 0} (f : A → B) (xs : List A) (y : B) → In y (map f xs) → (x : A) × In x xs × (y ≡ f x)
of_map f [] y h = absurd (In-nil y h)
of_map f (x ∷ xs) y h = ⊎_elim
    (λ (here : y ≡ f x). (x, In-head x xs, here))
    (λ (later : In y (map f xs)). let w = of_map f xs y later in (w.0, In-tail w.0 x xs w.1, w.2))
    (In-cons y (f x) (map f xs) h)

was_told : (n : ℕ) (told : List Told) (r : Report) → Contains (reports_to n told) r → (t : Told) × Contains told t × ((t.item.sender == n) ≡ true) × (r ≡ report_of t)
was_told n told r h =
    let w = of_map report_of (filter (λ t. t.item.sender == n) told) r (In-from_contains (reports_to n told) r h) in
    let there = left_in (λ (t : Told). t.item.sender == n) told w.0 w.1 in
    (w.0, contains_from_In told w.0 there.0, there.1, w.2)

-- ---- what is delivered is for a partition that is there

abbrev WithinAll : Opening → Facts → Type 0
WithinAll o f = (t : Told) (offset : ℤ) → Contains f.told t → t.outcome ≡ Delivered offset → t.item.partition < o.partitions

within_reached : (o : Opening) (es : List WorldEvent) (w : World) → IsReached o es w → WithinAll o (facts w)
within_reached o es w r t offset x is = ((truthful_reached o es w r t (In-from_contains (told_in w.past) t x)).delivered offset is).within

within_all : (o : Opening) → AfterAnyMoves o (λ b. WithinAll o (known b))
within_all o = law.of_moves (WithinAll o) o (within_reached o)

-- ---- nothing more is accepted

same_accepted : (xs : List Packet) (o : Outside) → (with_packets xs o).accepted ≡ o.accepted
same_accepted [] o = refl
same_accepted (x ∷ xs) o = same_accepted xs _

call_accepts : (s : Core) (c : Call) (o : Outside) → (called s c o).accepted ≡ o.accepted
call_accepts s (call.Append i (Ok done)) o = refl
call_accepts s (call.Append i (Err refusal)) o = refl
call_accepts s (call.Request node now (Ok answer)) o = same_accepted (packets_by s (call.Request node now (Ok answer))) o
call_accepts s (call.Request node now (Err refusal)) o = refl
call_accepts s (call.Reply now content answer) o = refl
call_accepts s (call.Tick node now answer) o = refl
call_accepts s (call.Disconnect node now) o = refl
call_accepts s (call.Lead p leader now) o = refl
call_accepts s call.Close o = refl
call_accepts s call.Flush o = refl
call_accepts s (call.End reports) o = refl
call_accepts s (call.Fetch sender (Some report)) o = refl
call_accepts s (call.Fetch sender None) o = refl

pub still_accepted : (a : State) (ms : List Move) → accepted_in ms ≡ [] → (led a ms).outside.accepted ≡ a.outside.accepted
still_accepted a [] none = refl
still_accepted a (Accepting i ∷ ms) none = absurd cc
still_accepted a (Calling c t ∷ ms) none = still_accepted (after (Calling c t) a) ms none ∙ call_accepts a.core c a.outside
still_accepted a (Meeting k x answer log' ∷ ms) none = still_accepted (after (Meeting k x answer log') a) ms none
still_accepted a (Drawing k ids reply ∷ ms) none = still_accepted (after (Drawing k ids reply) a) ms none
still_accepted a (Others p records ∷ ms) none = still_accepted (after (Others p records) a) ms none

-- ---- one number, one item

count-append : (p : ℕ) (xs ys : List Item) → count_of p (xs ++ ys) ≡ count_of p xs + count_of p ys
count-append p [] ys = omega arith
count-append p (x ∷ xs) ys = let r = count-append p xs ys in omega (arith, r)

counts_more : (x : Item) (p : ℕ) (front back all : List Item) → x.partition ≡ p → all ≡ front ++ x ∷ back → count_of p front < count_of p all
counts_more x p front back all is made =
    let one : one_of p x ≡ 1 = ap (λ (b : Bool). if b then 1 else 0) (eq-eqb x.partition p is) in
    omega (arith, ap (count_of p) made, count-append p front (x ∷ back), one)

module _ (limits : Limits) (s : ℕ) (xs : List Item) (h : AreInPlace limits s xs) where
  -- of two items of one partition the later one has the greater number
  later_is_more : (x y : Item) (a : In x xs) (b : In y xs) (more : List Item) → x.partition ≡ y.partition → b.earlier ≡ a.earlier ++ x ∷ more → x.number < y.number
  later_is_more x y a b more same made =
      let nx : x.number ≡ count_of x.partition a.earlier = (h.each a.earlier x a.later a.split).1 in
      let ny : y.number ≡ count_of y.partition b.earlier = (h.each b.earlier y b.later b.split).1 in
      let p : count_of x.partition a.earlier ≡ count_of y.partition a.earlier = ap (λ (n : ℕ). count_of n a.earlier) same in
      let less : count_of y.partition a.earlier < count_of y.partition b.earlier = counts_more x y.partition a.earlier more b.earlier same made in
      omega (arith, nx, ny, p, less)

  pub alone : (x y : Item) → In x xs → In y xs → x.partition ≡ y.partition → x.number ≡ y.number → x ≡ y
  alone x y a b same number = ⊎_elim
      (λ (e : (more : List Item) × (b.earlier ≡ a.earlier ++ x ∷ more)).
      let less = later_is_more x y a b e.0 same e.1 in absurd (omega (arith, less, number)))
      (λ (e : (more : List Item) × (y ∷ b.later ≡ more ++ x ∷ a.later) × (a.earlier ≡ b.earlier ++ more)). at_more e.0 e.1 e.2)
      (cut_cases a.earlier x a.later b.earlier (y ∷ b.later) (sym a.split ∙ b.split))
    where
      at_more : (more : List Item) → y ∷ b.later ≡ more ++ x ∷ a.later → a.earlier ≡ b.earlier ++ more → x ≡ y
      at_more [] e made = let is : y ≡ x = cc in sym is
      at_more (m ∷ more) e made =
          let is : y ≡ m = cc in
          let less = later_is_more y x b a more (sym same) (made ∙ ap (λ (z : Item). b.earlier ++ z ∷ more) (sym is)) in absurd (omega (arith, less, number))

-- ---- the law

pub delivered_stand : Whatever DeliveredStand
delivered_stand service finished left accepted ms over had around assumed k d near r offset has is =
    record {
      item = t.item;
      accepted = contains_from_In (all_accepted f) t.item among;
      partition = ap (λ (q : Report). q.partition) (sym its);
      number = ap (λ (q : Report). q.number) (sym its);
      alone = λ other there partition number.
          alone (_) n (all_accepted f) (over.settled.in_place k d near) other t.item (In-from_contains (all_accepted f) other there) among
          (partition ∙ ap (λ (q : Report). q.partition) its) (number ∙ ap (λ (q : Report). q.number) its);
      stands = stands;
    }
  where
    o : Opening
    o = opening_of service

    f : Finished
    f = slice_index_or finished k d

    n : ℕ
    n = finished_number f

    b : State
    b = led (having_accepted o accepted) ms

    told : (t : Told) × Contains b.outside.told t × ((t.item.sender == n) ≡ true) × (r ≡ report_of t)
    told = was_told n b.outside.told r (subst (λ (rs : List Report). Contains rs r) (are_reported service finished left accepted ms over had around assumed k d near) has)

    t : Told
    t = told.0

    its : r ≡ report_of t
    its = told.3

    outcome : t.outcome ≡ Delivered offset
    outcome = ap (λ (q : Report). q.outcome) (sym its) ∙ is

    stands : StandsAt (known b) t.item offset
    stands = after_service service finished left accepted ms over had around assumed (λ c. ToldOffsetsStand (known c)) (law.offsets_stand o) t offset told.1 outcome

    within : t.item.partition < o.partitions
    within = after_service service finished left accepted ms over had around assumed (λ c. WithinAll o (known c)) (within_all o) t offset told.1 outcome

    accounted : AreAccountedFor n t.item.partition (known b)
    accounted = after_service service finished left accepted ms over had around assumed (λ c. AreAccountedFor n t.item.partition (known c)) (law.accounted o n t.item.partition within)

    its_list : account.all_accepted n (known b) ≡ all_accepted f
    its_list = ap (λ (ls : List (List Item)). slice_index_or ls n []) (still_accepted (having_accepted o accepted) ms around.all_before) ∙ had.all k d near

    handed : In t.item (of_sender n (items_handed t.item.partition (known b)))
    handed = In-filter (λ (i : Item). i.sender == n) t.item (items_handed t.item.partition (known b)) told.2
        (record { earlier = stands.earlier; later = stands.later; split = stands.handed })

    among : In t.item (all_accepted f)
    among = subst (λ (xs : List Item). In t.item xs) its_list
        (left_in (λ (i : Item). i.partition == t.item.partition) (account.all_accepted n (known b)) t.item
        (left_in (has_left (known b)) (for_partition t.item.partition (account.all_accepted n (known b))) t.item
        (subst (λ (xs : List Item). In t.item xs) accounted handed)).0).0
