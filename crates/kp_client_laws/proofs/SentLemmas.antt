-- Each record of a log is one that a sender had accepted, and that was sent.
use Rattle.std.proofs.Common.{◌≡◌, ℕ, ◌<◌, ◌≤◌, Bool, true, false, List, [], ◌∷◌, refl, sym, subst, ⊎_elim, eq-eqb, ne_eqb, arith, Contains}
use Rattle.std.specs.Prelude.{filter, slice_index_or, ◌==◌, ◌≢◌, if◌then◌else◌}
use Rattle.std.proofs.lemmas.Bool.{cases_eq, cases_lt}
use Rattle.std.proofs.lemmas.List.{get_or_past}
use Rattle.std.proofs.lemmas.List.FromFn.{get_or-map-range_with_len, length-map-range_with_len}
use Rattle.std.proofs.lemmas.Option.{get_or_from_slice_get, slice_get_within}
use Rattle.kp_accum.specs.declared.item.Item.{Item}
use Rattle.kp_client.specs.declared.service.Service.{Service}
use Rattle.kp_client_laws.specs.Accounts.{WereSent, was_sent}
use Rattle.kp_client_laws.specs.Over.{AfterAnyService, accepted_in, accepted_of, begin, opening_of}
use Rattle.kp_client_laws.proofs.AccountLemmas.{accounts}
use Rattle.kp_client_laws.proofs.OverLemmas.{after_service, had_accepted, of_whatever}
use Rattle.kp_client_laws.proofs.StandLemmas.{still_accepted}
use Rattle.kp_client_laws.specs.Accounts.{AreAccountedFor}
use Rattle.kp_headline.specs.Moves.{led}
use Rattle.kp_headline.specs.Outside.{State, known}
use Rattle.kp_headline.proofs.LawLemmas as law
use Rattle.kp_lanes.specs.Sender.{all_accepted, finished_number}
use Rattle.kp_lanes.specs.declared.sender.Finished.{Finished}
use Rattle.kp_log.proofs.PlaceLemmas.{In, In-filter, In-from_contains, In-nil, contains_from_In}
use Rattle.kp_polls.specs.Settled.{HadAccepted}
use Rattle.kp_rules.proofs.ListLemmas.{contains_head, contains_tail}
use Rattle.kp_world.specs.Accepting.{for_partition}
use Rattle.kp_world.specs.Accounts as account
use Rattle.kp_world.specs.Accounts.{has_left, items_handed, of_sender}
use Rattle.kp_world.specs.Handed.{AreItems, IsItem}
use Rattle.kp_world.specs.World.{Opening}
use Rattle.kp_world.proofs.ListLemmas.{left_in}

-- the sender that had accepted it
record IsWhose (n : ℕ) (item : Item) (fs : List Finished) : Type 0 where
  its : Finished
  among : Contains fs its
  number : finished_number its ≡ n
  has : In item (all_accepted its)

whose : (fs : List Finished) (n : ℕ) (item : Item) → In item (accepted_of fs n) → IsWhose n item fs
whose [] n item h = absurd (In-nil item h)
whose (f ∷ fs) n item h = ⊎_elim
    (λ (same : finished_number f ≡ n).
    let is : (finished_number f == n) ≡ true = eq-eqb (finished_number f) n same in
    record { its = f; among = contains_head f fs; number = same; has = subst (λ (b : Bool). In item (if b then all_accepted f else accepted_of fs n)) is h })
    (λ (other : finished_number f ≢ n).
    let is : (finished_number f == n) ≡ false = ne_eqb (finished_number f) n other in
    let w = whose fs n item (subst (λ (b : Bool). In item (if b then all_accepted f else accepted_of fs n)) is h) in
    record { its = w.its; among = contains_tail w.its f fs w.among; number = w.number; has = w.has })
    (cases_eq (finished_number f) n)

of_list : (service : Service) (finished : List Finished) (n : ℕ) (item : Item) → In item (slice_index_or (accepted_in service finished) n []) → IsWhose n item finished
of_list service finished n item h = ⊎_elim
    (λ (near : n < senders). whose finished n item (subst (In item) (get_or-map-range_with_len (accepted_of finished) 0 senders n n [] near (omega arith)) h))
    (λ (far : senders ≤ n).
    let none : slice_index_or (accepted_in service finished) n [] ≡ [] =
    get_or_past (accepted_in service finished) n [] (omega (arith, far, length-map-range_with_len (accepted_of finished) 0 senders)) in
    absurd (In-nil item (subst (In item) none h)))
    (cases_lt n senders)
  where
    senders : ℕ
    senders = (opening_of service).senders

pub were_sent : AfterAnyService WereSent
were_sent service finished left ms over around assumed p k s there has = record {
  sender = w.its;
  among = w.among;
  item = i;
  accepted = contains_from_In (all_accepted w.its) i w.has;
  partition = home;
  sent = (left_in (was_sent left w.its) (for_partition p (all_accepted w.its)) i (subst (In i) accounted (subst (λ (m : ℕ). In i (of_sender m (items_handed p (known b)))) (sym w.number) handed))).1;
  body = its.body;
}
  where
    o : Opening
    o = opening_of service

    b : State
    b = led (begin service finished) ms

    had : HadAccepted (opening_of service) finished (accepted_in service finished)
    had = had_accepted service finished left over

    its : IsItem p k s (known b)
    its = after_service service finished left (accepted_in service finished) ms over had around assumed (λ c. AreItems p (known c)) (law.items_stand o p there) k s has

    i : Item
    i = its.item

    in_handed : In i (items_handed p (known b))
    in_handed = In-from_contains (items_handed p (known b)) i (k, slice_get_within (items_handed p (known b)) k i its.handed, get_or_from_slice_get (items_handed p (known b)) k i i its.handed)

    handed : In i (of_sender i.sender (items_handed p (known b)))
    handed = In-filter (λ (j : Item). j.sender == i.sender) i (items_handed p (known b)) (eq-eqb i.sender i.sender refl) in_handed

    known_accounts : account.AreAccountedFor i.sender p (known b)
    known_accounts = after_service service finished left (accepted_in service finished) ms over had around assumed (λ c. account.AreAccountedFor i.sender p (known c)) (law.accounted o i.sender p there)

    of_partition : In i (account.all_accepted i.sender (known b)) × ((i.partition == p) ≡ true)
    of_partition = left_in (λ (j : Item). j.partition == p) (account.all_accepted i.sender (known b)) i
        (left_in (has_left (known b)) (for_partition p (account.all_accepted i.sender (known b))) i (subst (In i) known_accounts handed)).0

    home : i.partition ≡ p
    home = ⊎_elim (λ (e : i.partition ≡ p). e) (λ (e : i.partition ≢ p). absurd (let no : (i.partition == p) ≡ false = ne_eqb i.partition p e in let yes = of_partition.1 in cc)) (cases_eq i.partition p)

    w : IsWhose i.sender i finished
    w = of_list service finished i.sender i
        (subst (λ (ls : List (List Item)). In i (slice_index_or ls i.sender [])) (still_accepted (begin service finished) ms around.all_before) of_partition.0)

    accounted : of_sender (finished_number w.its) (items_handed p (known b)) ≡ filter (was_sent left w.its) (for_partition p (all_accepted w.its))
    accounted = subst (λ (f : Finished). of_sender (finished_number f) (items_handed p (known b)) ≡ filter (was_sent left f) (for_partition p (all_accepted f))) w.among.2
        (of_whatever AreAccountedFor accounts service finished left ms over around assumed w.among.0 w.its w.among.1 p there)
