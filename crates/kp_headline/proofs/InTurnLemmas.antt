-- Whoever feeds the core by such calls feeds it in turn, whatever is done between them.
use Rattle.std.proofs.Common.{◌≡◌, ◌≢◌, ℕ, zero, suc, ◌+◌, ◌<◌, ◌≤◌, true, false, List, [], ◌∷◌, ◌++◌, length, length-set, drop, get_or-set_same, get_or-set_other, refl, sym, ap, ◌∙◌, subst, ⊎_elim, arith}
use Rattle.std.specs.Prelude.{Some, None, Ok, Err, slice_get, slice_index, slice_index_or}
use Rattle.std.proofs.lemmas.Bool.{cases_eq, cases_lt}
use Rattle.std.proofs.lemmas.List.{get_or_past}
use Rattle.kp_accum.specs.declared.fault.AppendFault.{AppendFault}
use Rattle.kp_accum.specs.declared.item.Item.{Item}
use Rattle.kp_headline.specs.Assumptions.{IsInTurn, IsNext}
use Rattle.kp_headline.specs.Laws.{calls_in}
use Rattle.kp_headline.specs.Moves.{Move, Accepting, Calling, Meeting, Drawing, Others, Throughout, after, called, with_packets}
use Rattle.kp_headline.specs.Outside.{Outside, State}
use Rattle.kp_rules.specs.Calls.{Call, packets_by}
use Rattle.kp_rules.specs.Calls as call
use Rattle.kp_rules.specs.Records.{Core}
use Rattle.kp_rules.specs.Requesting.{Packet}
use Rattle.kp_headline.specs.Around.{accepted_in}
use Rattle.kp_headline.proofs.FeedLemmas.{Feeds, Offer, offer_elsewhere, offer_here, offers}

-- ---- lists

drop_none : {A : Type 0} (k : ℕ) → drop {A = A} k [] ≡ []
drop_none zero = refl
drop_none (suc k) = refl

split_at : {A : Type 0} (k : ℕ) (xs : List A) (x : A) (rest : List A) → drop k xs ≡ x ∷ rest → (slice_get xs k ≡ Some x) × (drop (suc k) xs ≡ rest)
split_at zero [] x rest is = absurd cc
split_at zero (y ∷ xs) x rest is = (cc, cc)
split_at (suc k) [] x rest is = absurd cc
split_at (suc k) (y ∷ xs) x rest is = split_at k xs x rest is

one_more : {A : Type 0} (k : ℕ) (xs : List A) → drop (k + 1) xs ≡ drop (suc k) xs
one_more k xs = let e : k + 1 ≡ suc k = omega arith in ap (λ (n : ℕ). drop n xs) e

-- ---- what waits

-- the items of a sender that were accepted and are not yet appended
abbrev pub waiting : Outside → ℕ → List Item
waiting o i = drop (slice_index o.taken i) (slice_index_or o.accepted i [])

-- These calls feed the core with what waits.
pub record Ready (o : Outside) (calls : List Call) : Type 0 where
  pub same : length o.taken ≡ length o.accepted
  pub feeds : (i : ℕ) → (rest : List Item) × Feeds (waiting o i) (offers i calls) rest

-- the first that waits is the next
is_next : (o : Outside) (x : Item) (rest : List Item) → waiting o x.sender ≡ x ∷ rest → IsNext o x
is_next o x rest is = record {
  sender = ⊎_elim
      (λ (near : x.sender < length o.accepted). near)
      (λ (far : length o.accepted ≤ x.sender).
      let none : slice_index_or o.accepted x.sender [] ≡ [] = get_or_past o.accepted x.sender [] far in
      let clash : [] ≡ x ∷ rest = sym (ap (drop (slice_index o.taken x.sender)) none ∙ drop_none (slice_index o.taken x.sender)) ∙ is in absurd cc)
      (cases_lt x.sender (length o.accepted));
  oldest = (split_at (slice_index o.taken x.sender) (slice_index_or o.accepted x.sender []) x rest is).0;
}

-- a call that offers none of the sender's items
other_call : (o : Outside) (c : Call) (calls : List Call) (o' : Outside) → ((i : ℕ) → offers i (c ∷ calls) ≡ offers i calls) → o'.accepted ≡ o.accepted → o'.taken ≡ o.taken
    → Ready o (c ∷ calls) → Ready o' calls
other_call o c calls o' none accepted taken r = record {
  same = ap length taken ∙ r.same ∙ sym (ap length accepted);
  feeds = λ i.
      let f = r.feeds i in
      let waits : waiting o' i ≡ waiting o i = ap (λ (ns : List ℕ). drop (slice_index ns i) (slice_index_or o'.accepted i [])) taken
      ∙ ap (λ (xs : List (List Item)). drop (slice_index o.taken i) (slice_index_or xs i [])) accepted in
      (f.0, subst (λ (xs : List Item). Feeds xs (offers i calls) f.0) (sym waits) (subst (λ (os : List Offer). Feeds (waiting o i) os f.0) (none i) f.1));
}

same_items : (xs : List Packet) (o : Outside) → ((with_packets xs o).accepted ≡ o.accepted) × ((with_packets xs o).taken ≡ o.taken)
same_items [] o = (refl, refl)
same_items (x ∷ xs) o = same_items xs _

-- an item that is appended
module _ (o : Outside) (x : Item) (calls : List Call) (s : Core) (r : Ready o (call.Append x (Ok tt) ∷ calls)) where
  here : (i : ℕ) → x.sender ≡ i → offers i (call.Append x (Ok tt) ∷ calls) ≡ (x, true) ∷ offers i calls
  here i same = ap (λ (os : List Offer). os ++ offers i calls) (offer_here x i (Ok tt) same)

  its : (rest : List Item) × (later : List Item) × (waiting o x.sender ≡ x ∷ rest) × Feeds rest (offers x.sender calls) later
  its = let f = r.feeds x.sender in
      let g : Feeds (waiting o x.sender) ((x, true) ∷ offers x.sender calls) f.0 = subst (λ (os : List Offer). Feeds (waiting o x.sender) os f.0) (here x.sender refl) f.1 in
      (g.0, f.0, g.1, g.2)

  appended_next : IsNext o x
  appended_next = is_next o x its.0 its.2

  o' : Outside
  o' = called s (call.Append x (Ok tt)) o

  appended_ready : Ready (called s (call.Append x (Ok tt)) o) calls
  appended_ready = record {
    same = length-set o.taken x.sender (slice_index o.taken x.sender + 1) ∙ r.same;
    feeds = λ i. ⊎_elim
        (λ (same : i ≡ x.sender).
        subst (λ (k : ℕ). (rest : List Item) × Feeds (waiting (called s (call.Append x (Ok tt)) o) k) (offers k calls) rest) (sym same) (
          its.1,
          subst (λ (xs : List Item). Feeds xs (offers x.sender calls) its.1)
              (sym (ap (λ (n : ℕ). drop n (slice_index_or o.accepted x.sender [])) (get_or-set_same o.taken x.sender (slice_index o.taken x.sender + 1) 0 near)
              ∙ one_more (slice_index o.taken x.sender) (slice_index_or o.accepted x.sender [])
              ∙ (split_at (slice_index o.taken x.sender) (slice_index_or o.accepted x.sender []) x its.0 its.2).1))
              its.3,
        ))
        (λ (other : i ≢ x.sender).
        let f = r.feeds i in (
          f.0,
          subst (λ (xs : List Item). Feeds xs (offers i calls) f.0)
              (sym (ap (λ (n : ℕ). drop n (slice_index_or o.accepted i [])) (get_or-set_other o.taken x.sender i (slice_index o.taken x.sender + 1) 0 other)))
              (subst (λ (os : List Offer). Feeds (waiting o i) os f.0)
              (ap (λ (os : List Offer). os ++ offers i calls) (offer_elsewhere x i (Ok tt) (λ is. other (sym is)))) f.1),
        ))
        (cases_eq i x.sender);
  }
    where
      near : x.sender < length o.taken
      near = subst (λ (n : ℕ). x.sender < n) (sym r.same) appended_next.sender

-- an item that is refused
module _ (o : Outside) (x : Item) (fault : AppendFault) (calls : List Call) (o' : Outside) (accepted : o'.accepted ≡ o.accepted) (taken : o'.taken ≡ o.taken)
    (r : Ready o (call.Append x (Err fault) ∷ calls)) where
  its_refused : (rest : List Item) × (later : List Item) × (waiting o x.sender ≡ x ∷ rest) × Feeds (waiting o x.sender) (offers x.sender calls) later
  its_refused = let f = r.feeds x.sender in
      let g : Feeds (waiting o x.sender) ((x, false) ∷ offers x.sender calls) f.0 =
      subst (λ (os : List Offer). Feeds (waiting o x.sender) os f.0) (ap (λ (os : List Offer). os ++ offers x.sender calls) (offer_here x x.sender (Err fault) refl)) f.1 in
      (g.0, f.0, g.1, g.2)

  refused_next : IsNext o x
  refused_next = is_next o x its_refused.0 its_refused.2

  refused_ready : Ready o' calls
  refused_ready = other_ready (record {
    same = r.same;
    feeds = λ i. ⊎_elim
        (λ (same : i ≡ x.sender). subst (λ (k : ℕ). (rest : List Item) × Feeds (waiting o k) (offers k calls) rest) (sym same) (its_refused.1, its_refused.3))
        (λ (other : i ≢ x.sender).
        let f = r.feeds i in (
          f.0,
          subst (λ (os : List Offer). Feeds (waiting o i) os f.0)
              (ap (λ (os : List Offer). os ++ offers i calls) (offer_elsewhere x i (Err fault) (λ is. other (sym is)))) f.1,
        ))
        (cases_eq i x.sender);
  })
    where
      other_ready : Ready o calls → Ready o' calls
      other_ready q = other_call o call.Close calls o' (λ i. refl) accepted taken (record { same = q.same; feeds = q.feeds })

-- ---- moves

pub in_turn : (a : State) (ms : List Move) → accepted_in ms ≡ [] → Ready a.outside (calls_in ms) → Throughout IsInTurn a ms
in_turn a [] none r = tt
in_turn a (Accepting i ∷ ms) none r = absurd cc
in_turn a (Calling (call.Append i (Ok done)) t ∷ ms) none r =
    (appended_next a.outside i (calls_in ms) a.core r, in_turn (after (Calling (call.Append i (Ok done)) t) a) ms none (appended_ready a.outside i (calls_in ms) a.core r))
in_turn a (Calling (call.Append i (Err fault)) t ∷ ms) none r = (
  refused_next a.outside i fault (calls_in ms) a.outside refl refl r,
  in_turn (after (Calling (call.Append i (Err fault)) t) a) ms none
      (refused_ready a.outside i fault (calls_in ms) (called a.core (call.Append i (Err fault)) a.outside) refl refl r),
)
in_turn a (Calling (call.Request node now (Ok answer)) t ∷ ms) none r =
    let same = same_items (packets_by a.core (call.Request node now (Ok answer))) a.outside in
    (tt, in_turn (after (Calling (call.Request node now (Ok answer)) t) a) ms none (other_call a.outside _ (calls_in ms) _ (λ i. refl) same.0 same.1 r))
in_turn a (Calling (call.Request node now (Err fault)) t ∷ ms) none r = (tt, in_turn (after (Calling (call.Request node now (Err fault)) t) a) ms none (other_call a.outside _ (calls_in ms) _ (λ i. refl) refl refl r))
in_turn a (Calling (call.Reply now content answer) t ∷ ms) none r = (tt, in_turn (after (Calling (call.Reply now content answer) t) a) ms none (other_call a.outside _ (calls_in ms) _ (λ i. refl) refl refl r))
in_turn a (Calling (call.Tick node now answer) t ∷ ms) none r = (tt, in_turn (after (Calling (call.Tick node now answer) t) a) ms none (other_call a.outside _ (calls_in ms) _ (λ i. refl) refl refl r))
in_turn a (Calling (call.Disconnect node now) t ∷ ms) none r = (tt, in_turn (after (Calling (call.Disconnect node now) t) a) ms none (other_call a.outside _ (calls_in ms) _ (λ i. refl) refl refl r))
in_turn a (Calling (call.Lead p leader now) t ∷ ms) none r = (tt, in_turn (after (Calling (call.Lead p leader now) t) a) ms none (other_call a.outside _ (calls_in ms) _ (λ i. refl) refl refl r))
in_turn a (Calling call.Close t ∷ ms) none r = (tt, in_turn (after (Calling call.Close t) a) ms none (other_call a.outside _ (calls_in ms) _ (λ i. refl) refl refl r))
in_turn a (Calling call.Flush t ∷ ms) none r = (tt, in_turn (after (Calling call.Flush t) a) ms none (other_call a.outside _ (calls_in ms) _ (λ i. refl) refl refl r))
in_turn a (Calling (call.End reports) t ∷ ms) none r = (tt, in_turn (after (Calling (call.End reports) t) a) ms none (other_call a.outside _ (calls_in ms) _ (λ i. refl) refl refl r))
in_turn a (Calling (call.Fetch sender (Some report)) t ∷ ms) none r = (tt, in_turn (after (Calling (call.Fetch sender (Some report)) t) a) ms none (other_call a.outside _ (calls_in ms) _ (λ i. refl) refl refl r))
in_turn a (Calling (call.Fetch sender None) t ∷ ms) none r = (tt, in_turn (after (Calling (call.Fetch sender None) t) a) ms none (other_call a.outside _ (calls_in ms) _ (λ i. refl) refl refl r))
in_turn a (Meeting k x answer log ∷ ms) none r = (tt, in_turn (after (Meeting k x answer log) a) ms none (record { same = r.same; feeds = r.feeds }))
in_turn a (Drawing k ids reply ∷ ms) none r = (tt, in_turn (after (Drawing k ids reply) a) ms none (record { same = r.same; feeds = r.feeds }))
in_turn a (Others p records ∷ ms) none r = (tt, in_turn (after (Others p records) a) ms none (record { same = r.same; feeds = r.feeds }))
