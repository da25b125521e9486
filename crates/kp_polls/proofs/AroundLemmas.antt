-- Whatever is done around an engine's calls, they are moves of which all holds that is assumed of who feeds the core.
use Rattle.std.proofs.Common.{◌≡◌, ℕ, zero, suc, ◌+◌, ◌<◌, ◌≤◌, true, false, List, [], ◌∷◌, ◌++◌, length, get_or, refl, sym, ap, ◌∙◌, subst, ⊎_elim, arith}
use Rattle.std.specs.Prelude.{Bool, drop, Option, None, option_to_list, replicate, slice_index, slice_index_or}
use Rattle.std.proofs.lemmas.Bool.{cases_lt}
use Rattle.std.proofs.lemmas.List.{get_or_past, length-replicate}
use Rattle.kp_accum.specs.declared.item.Item.{Item}
use Rattle.kp_connection.specs.Wire.{Told}
use Rattle.kp_engine.specs.Exchange.{senders_of, side_of}
use Rattle.kp_engine.specs.Serving.{HasPlaces, Served}
use Rattle.kp_engine.specs.declared.exchange.Exchange.{Exchange}
use Rattle.kp_engine.proofs.BegunLemmas.{empty_at, new_places, since_new}
use Rattle.kp_engine.proofs.ClosingLemmas.{polls_serve}
use Rattle.kp_engine.proofs.FreshLemmas.{none_at}
use Rattle.kp_engine.proofs.IntakeLemmas.{taken_is}
use Rattle.kp_headline.specs.Assumptions.{IsInTurn}
use Rattle.kp_headline.specs.Laws.{AfterAnyMoves, LeadTo}
use Rattle.kp_headline.specs.Moves.{Move, Throughout, led}
use Rattle.kp_headline.specs.Offering.{AllOffered, AreOffered, having_accepted}
use Rattle.kp_headline.specs.Outside.{State}
use Rattle.kp_headline.proofs.LifeLemmas.{leads_to}
use Rattle.kp_headline.proofs.FedLemmas.{Alone, all_alone, of_fed}
use Rattle.kp_lanes.specs.Entries.{items_of}
use Rattle.kp_lanes.specs.Intake.{lanes_of, passed_lists, passed_of}
use Rattle.kp_lanes.specs.declared.intake.Intake.{Intake}
use Rattle.kp_rules.specs.Auditing.{opened, without_audits}
use Rattle.kp_rules.specs.Calls.{Call, Lives}
use Rattle.kp_rules.specs.Opening.{new_core}
use Rattle.kp_rules.specs.Records.{Core}
use Rattle.kp_rules.specs.Reports.{reports_to}
use Rattle.kp_rules.proofs.ListLemmas.{all_front}
use Rattle.kp_world.specs.World.{Opening}
use Rattle.kp_headline.specs.Around.{Around}
use Rattle.kp_polls.specs.Around.{AfterAnyPolls, AroundAnyPolls}
use Rattle.kp_polls.specs.Laws.{ReportsAreOfTold}
use Rattle.kp_polls.specs.Polling.{HaveAccepted, Polling, core_of}
use Rattle.kp_polls.proofs.FeedingLemmas.{FeedsSide, IsSized, polls_feed, none_passed, sized_then}
use Rattle.kp_headline.proofs.InTurnLemmas.{in_turn}
use Rattle.kp_headline.proofs.FeedLemmas.{Feeds, Theirs, offers}

-- ---- what was accepted is its sender's

its_own : (o : Opening) (s : ℕ) (earlier items : List Item) → AreOffered o s earlier items → Theirs s items
its_own o s earlier [] h = tt
its_own o s earlier (i ∷ items) h = (h.0.sender, its_own o s (earlier ++ i ∷ []) items h.1)

all_own : (o : Opening) (s : ℕ) (lists : List (List Item)) → AllOffered o s lists → (k : ℕ) → Theirs (s + k) (slice_index_or lists k [])
all_own o s [] h k = tt
all_own o s (items ∷ lists) h zero = subst (λ (n : ℕ). Theirs n items) (omega arith) (its_own o s [] items h.0)
all_own o s (items ∷ lists) h (suc k) = subst (λ (n : ℕ). Theirs n (slice_index_or lists k [])) (omega arith) (all_own o (s + 1) lists h.1 k)

none_taken : (n i : ℕ) → slice_index (replicate n 0) i ≡ 0
none_taken zero i = refl
none_taken (suc n) zero = refl
none_taken (suc n) (suc i) = none_taken n i

-- ---- an engine since it was made

so_many : (o : Opening) (audits : Bool) → length (opened audits (new_core o.config o.names o.partitions o.senders o.id o.correlation)).reports ≡ o.senders
unfolding new_core without_audits
so_many o true = length-replicate o.senders []
so_many o false = length-replicate o.senders []

senders_in : (o : Opening) → length (core_of o).reports ≡ o.senders
senders_in o = so_many o o.audits

module _ {S : Type 0} (answers : Told S) (o : Opening) (calls : List Call) (x : Exchange) (p : Polling answers o calls x) where
  pub places : HasPlaces p.first
  places = new_places (core_of o) p.intake p.keeps p.first p.is_new

  pub first_senders : senders_of p.first ≡ o.senders
  first_senders = ap (λ (l : List (Option Item)). length l) p.is_new.items ∙ length-replicate (length (core_of o).reports) None ∙ senders_in o

  first_sized : IsSized p.first
  first_sized = ap (λ (t : Intake). length (lanes_of t)) p.is_new.intake ∙ p.may_turn.senders ∙ senders_in o ∙ sym first_senders

  pub served : Served p.first calls x
  served = polls_serve answers p.first x calls places p.polled

  pub now_senders : senders_of x ≡ o.senders
  now_senders = served.lanes.senders ∙ first_senders

  pub now_sized : IsSized x
  now_sized = sized_then p.first x calls first_sized served

  first_held : (k : ℕ) → (side_of p.first k).held ≡ None
  first_held k = ap (λ (l : List (Option Item)). get_or l k None) p.is_new.items ∙ none_at (length (core_of o).reports) k

  first_passed : (k : ℕ) → items_of (side_of p.first k).passed ≡ []
  first_passed k = ap items_of (ap (λ (t : Intake). passed_of t k) p.is_new.intake ∙ empty_at (passed_lists p.intake) k p.may_turn.nothing_passed)

  module _ (accepted : List (List Item)) (h : HaveAccepted o x accepted) where
    -- of each sender what was taken, and what was not
    record Parted (k : ℕ) : Type 0 where
      later : List Item
      parts : slice_index_or accepted k [] ≡ items_of (side_of x k).passed ++ later

    parted : (k : ℕ) → Parted k
    parted k = ⊎_elim
        (λ (near : k < o.senders).
        let t = h.taken k near in record { later = t.0; parts = sym t.1 ∙ ap (λ (xs : List Item). xs ++ t.0) (taken_is x.intake k) })
        (λ (far : o.senders ≤ k). record {
          later = [];
          parts = get_or_past accepted k [] (subst (λ (n : ℕ). n ≤ k) (sym h.senders) far)
              ∙ sym (ap (λ (es : _). items_of es ++ []) (none_passed x now_sized k (subst (λ (n : ℕ). n ≤ k) (sym now_senders) far)));
        })
        (cases_lt k o.senders)

    own_of : (k : ℕ) → Theirs k (slice_index_or accepted k [])
    own_of k = subst (λ (n : ℕ). Theirs n (slice_index_or accepted k [])) (omega arith) (all_own o 0 accepted h.offered k)

    taken_own : (k : ℕ) → Theirs k (items_of (side_of x k).passed)
    taken_own k = let t : Parted k = parted k in all_front (λ i. i.sender ≡ k) (items_of (side_of x k).passed) t.later
        (subst (Theirs k) t.parts (own_of k))

    feeds : (k : ℕ) → (rest : List Item) × Feeds (slice_index_or accepted k []) (offers k calls) rest
    feeds k =
        let t : Parted k = parted k in
        let had : (j : ℕ) → Theirs j (option_to_list (side_of p.first j).held) = λ j. subst (λ (i : Option Item). Theirs j (option_to_list i)) (sym (first_held j)) tt in
        let f : FeedsSide (side_of p.first k) (offers k calls) (side_of x k) = polls_feed answers p.first places first_sized had calls x p.polled taken_own k in
        let all : option_to_list (side_of p.first k).held ++ (f.more ++ t.later) ≡ slice_index_or accepted k [] =
        ap (λ (i : Option Item). option_to_list i ++ (f.more ++ t.later)) (first_held k)
        ∙ ap (λ (xs : List Item). (xs ++ f.more) ++ t.later) (sym (first_passed k))
        ∙ ap (λ (xs : List Item). xs ++ t.later) (sym f.taken)
        ∙ sym t.parts in
        (option_to_list (side_of x k).held ++ t.later, subst (λ (xs : List Item). Feeds xs (offers k calls) (option_to_list (side_of x k).held ++ t.later)) all (f.feeds t.later))

    module _ (ms : List Move) (r : Around o accepted calls ms) where
      pub fed_in_turn : Throughout IsInTurn (having_accepted o accepted) ms
      fed_in_turn = in_turn (having_accepted o accepted) ms r.all_before (record {
        same = length-replicate o.senders 0 ∙ sym h.senders;
        feeds = λ i.
            let f = feeds i in (
              f.0,
              subst (λ (cs : List Call). Feeds (drop (slice_index (replicate o.senders 0) i) (slice_index_or accepted i [])) (offers i cs) f.0) (sym r.same_calls)
                  (subst (λ (n : ℕ). Feeds (drop n (slice_index_or accepted i [])) (offers i calls) f.0) (sym (none_taken o.senders i)) f.1),
            );
      })

      pub lead_to : LeadTo (having_accepted o accepted) ms served.life x.core
      lead_to = leads_to (having_accepted o accepted) ms served.life x.core r.moves
          (subst (λ (cs : List Call). Lives (core_of o) cs served.life x.core) (sym r.same_calls)
          (subst (λ (s : Core). Lives s calls served.life x.core) p.is_new.core served.lives))

-- What holds after any moves holds after any polls.
pub of_polls : {S : Type 0} (answers : Told S) (o : Opening) (Holds : State → Type 0) → AfterAnyMoves o Holds → AfterAnyPolls answers o Holds
of_polls answers o Holds law calls x accepted ms p h r t =
    of_fed o accepted ms h.senders h.offered r.moves (fed_in_turn answers o calls x p accepted h ms r) t Holds p.may_begin law

-- They lead to the engine's core.
pub leads : {S : Type 0} (answers : Told S) (o : Opening) → AroundAnyPolls answers o (λ a ms x. (led a ms).core ≡ x.core)
leads answers o calls x accepted ms p h r t = (lead_to answers o calls x p accepted h ms r).core

pub feed_in_turn : {S : Type 0} (answers : Told S) (o : Opening) (calls : List Call) (x : Exchange) (accepted : List (List Item)) (ms : List Move)
    → Polling answers o calls x → HaveAccepted o x accepted → Around o accepted calls ms → Throughout IsInTurn (having_accepted o accepted) ms
feed_in_turn answers o calls x accepted ms p h r = fed_in_turn answers o calls x p accepted h ms r

-- ---- with nothing around them

pub alone : {S : Type 0} (answers : Told S) (o : Opening) (calls : List Call) (x : Exchange) (accepted : List (List Item)) → Polling answers o calls x
    → (ms : List Move) × Around o accepted calls ms
alone answers o calls x accepted p =
    let s = served answers o calls x p in
    let a : Alone (having_accepted o accepted) calls = all_alone (having_accepted o accepted) calls s.life x.core
    (subst (λ (t : Core). Lives t calls s.life x.core) p.is_new.core s.lives) in
    (a.ms, record { moves = a.moves; same_calls = a.same_calls; all_before = a.none })

-- ---- reports

pub reported : {S : Type 0} (answers : Told S) (o : Opening) → AroundAnyPolls answers o (ReportsAreOfTold o)
reported answers o calls x accepted ms p h r t i near =
    let s = served answers o calls x p in
    let news = (since_new (core_of o) p.intake p.keeps p.first p.may_turn p.is_new i calls x s (subst (λ (n : ℕ). i < n) (sym (first_senders answers o calls x p)) near)).1 in
    news ∙ ap (reports_to i) (sym (lead_to answers o calls x p accepted h ms r).told)
