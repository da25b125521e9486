-- What holds of any moves holds of those around any calls on a producer.
use Rattle.std.proofs.Common.{◌≡◌, replicate, ℕ, zero, suc, ◌+◌, ◌<◌, ◌≤◌, Bool, true, false, List, [], ◌∷◌, ◌++◌, length, drop, refl, sym, ap, ◌∙◌, subst, append-nil, arith}
use Rattle.std.specs.Prelude.{Option, Some, None, Ok, Err, Result, ◌&&◌, not, nat_le, nat_lt, slice_index, slice_index_or, if◌then◌else◌}
use Rattle.std.specs.List.{AllByRecursion}
use Rattle.std.proofs.lemmas.Bool.{leb-true, ltb-true}
use Rattle.std.proofs.lemmas.List.{length-map, length-replicate}
use Rattle.std.proofs.lemmas.List.Sums.{length-filter}
use Rattle.kp_accum.specs.declared.config.Config.{Config}
use Rattle.kp_accum.specs.declared.fault.AppendFault.{AppendFault}
use Rattle.kp_accum.specs.declared.fault.AppendFault.TheVariants.{BufferFull}
use Rattle.kp_accum.specs.declared.item.Item.{Item}
use Rattle.kp_accum.specs.Queue.{charge_of}
use Rattle.kp_cluster.specs.Cluster.{Cluster}
use Rattle.kp_embed.specs.Going.{Acts, AreNext, Begins, Goes, IsTaken, appended_in, core_by, count_of, is_of}
use Rattle.kp_embed.specs.Producer.{Producer, new_producer}
use Rattle.kp_embed.proofs.ActLemmas.{acts_same, acts_then}
use Rattle.kp_embed_laws.specs.Running.{Runs, accepted_by, begin, opening_of}
use Rattle.kp_engine.proofs.StepLemmas.{SameShape, each_call}
use Rattle.kp_headline.specs.Around.{Around, AssumedAround}
use Rattle.kp_headline.specs.Assumptions.{IsInTurn}
use Rattle.kp_headline.specs.Laws.{AfterAnyMoves}
use Rattle.kp_headline.specs.Moves.{Move, Throughout, led}
use Rattle.kp_headline.specs.Offering.{AllOffered, AreOffered, IsOffered}
use Rattle.kp_headline.specs.Outside.{State}
use Rattle.kp_headline.proofs.FedLemmas.{Alone, all_alone, of_fed}
use Rattle.kp_headline.proofs.FeedLemmas.{Feeds, Offer, all_appended, all_feed, offer_elsewhere, offer_here, offers}
use Rattle.kp_headline.proofs.InTurnLemmas.{in_turn}
use Rattle.kp_rules.specs.declared.names.Names.{Names}
use Rattle.kp_rules.specs.Appending.{Appends, append_step, may_append, turn_away, with_queued, would_exhaust}
use Rattle.kp_rules.specs.Calls.{Append, Call, Close, Disconnect, End, Fetch, Flush, Lead, Life, Lives, Reply, Request, Step, Tick}
use Rattle.kp_rules.specs.declared.outcome.Reason.TheVariants.{Ended, Fenced}
use Rattle.kp_rules.specs.Auditing.{unaudited, without_audits}
use Rattle.kp_rules.specs.Opening.{new_core}
use Rattle.kp_rules.specs.Partitions.{new_partition, partition_at}
use Rattle.kp_rules.specs.Records.{Core, quietly}
use Rattle.kp_world.specs.Accepting.{for_partition}
use Rattle.kp_world.specs.World.{Opening}

-- ---- from its making on

pub runs_act : (config : Config) (names : Names) (calls : List Call) (p : Producer) → Runs config names calls p → (cluster : Cluster) × Acts (new_producer config names cluster) calls p
runs_act config names calls p (Runs.made cluster) = (cluster, acts_same (new_producer config names cluster))
runs_act config names calls p (Runs.acted q r before more runs acts) =
    let h = runs_act config names before q runs in
    (h.0, acts_then (new_producer config names h.0) q r before more h.1 acts)

-- a core that is there has begun
begun_as : (config : Config) (names : Names) (calls : List Call) (s : Option Core) (t : Core) → s ≡ Some t → Goes config names None calls s → Begins config names calls t
begun_as config names calls s t is goes = subst (λ (x : Option Core). Goes config names None calls x) is goes

pub has_begun : (config : Config) (names : Names) (calls : List Call) (p : Producer) (t : Core) → Runs config names calls p → p.core ≡ Some t → Begins config names calls t
has_begun config names calls p t runs is = begun_as config names calls p.core t is (runs_act config names calls p runs).1.core

-- ---- an item that was taken

abbrev by_may : Bool → Item → Core → Appends
by_may b i s =
    if not b then quietly s (Err BufferFull)
    else if s.ended then turn_away Ended i s
    else if (partition_at i.partition s.partitions).fenced then turn_away Fenced i s
    else if would_exhaust i s then quietly (record s { exhausted = true }) (Err BufferFull)
    else quietly (with_queued i s) (Ok tt)

step_by : (i : Item) (s : Core) → append_step i s ≡ by_may (may_append i s) i s
unfolding append_step
step_by i s = refl

may_by : (b : Bool) (i : Item) (s : Core) → (by_may b i s).answer ≡ Ok tt → b ≡ true
may_by true i s taken = refl
may_by false i s taken = absurd (refused taken)
  where
    refused : ◌≡◌ {A = Result (Unit {0}) AppendFault} (Err BufferFull) (Ok tt) → ⊥
    refused h = cc

-- the core takes an item only where it may be appended
taken_may : (i : Item) (s : Core) → (append_step i s).answer ≡ Ok tt → may_append i s ≡ true
taken_may i s taken = may_by (may_append i s) i s (ap (λ (a : Appends). a.answer) (sym (step_by i s)) ∙ taken)

and_first : (a b : Bool) → (a && b) ≡ true → a ≡ true
and_first true b e = refl
and_first false b e = cc

and_rest : (a b : Bool) → (a && b) ≡ true → b ≡ true
and_rest true b e = e
and_rest false b e = cc

-- what such an item is within
pub record Within (i : Item) (s : Core) : Type 0 where
  pub partition : i.partition < length s.partitions
  pub request : charge_of i ≤ s.config.max_request_size
  pub memory : charge_of i ≤ s.config.buffer_memory

may_parts : (i : Item) (s : Core) → may_append i s ≡ true
    → (nat_lt i.partition (length s.partitions) ≡ true) × (nat_le (charge_of i) s.config.max_request_size ≡ true) × (nat_le (charge_of i) s.config.buffer_memory ≡ true)
unfolding may_append
may_parts i s may =
    let w = nat_lt i.sender (length s.reports) in
    let x = nat_lt i.partition (length s.partitions) in
    let y = nat_le (charge_of i) s.config.max_request_size in
    let z = nat_le (charge_of i) s.config.buffer_memory in
    let three = and_first (w && x && y) z may in
    (and_rest w x (and_first (w && x) y three), and_rest (w && x) y three, and_rest (w && x && y) z may)

may_within : (i : Item) (s : Core) → may_append i s ≡ true → Within i s
may_within i s may = let parts = may_parts i s may in record {
  partition = ltb-true i.partition (length s.partitions) parts.0;
  request = leb-true (charge_of i) s.config.max_request_size parts.1;
  memory = leb-true (charge_of i) s.config.buffer_memory parts.2;
}

-- ---- what was accepted is numbered by place and within the limits

none_yet : (p : ℕ) → slice_index [] p ≡ 0
none_yet zero = refl
none_yet (suc p) = refl

module _ (o : Opening) (one : o.senders ≡ 1) where
  -- a core as it was opened, but for what it has done
  record Fits (s : Core) : Type 0 where
    config : s.config ≡ o.config
    partitions : length s.partitions ≡ o.partitions

  fits_on : (s t : Core) (c : Call) → Fits s → Step s c t → Fits t
  fits_on s t c f step =
      let shape : SameShape s t = (each_call s t c step).shape in
      record { config = shape.config ∙ f.config; partitions = shape.partitions ∙ f.partitions }

  offered_one : (s t : Core) (i : Item) (earlier : List Item) → Fits s → Step s (Append i (Ok tt)) t → i.sender ≡ 0 → i.number ≡ slice_index [] i.partition + count_of i.partition earlier
      → IsOffered o 0 earlier i
  offered_one s t i earlier f step sender number =
      let w : Within i s = may_within i s (taken_may i s step.0) in
      let none = none_yet i.partition in
      let places : length (for_partition i.partition earlier) ≡ count_of i.partition earlier = length-filter (is_of i.partition) earlier in record {
        sender = sender;
        partition = subst (λ (n : ℕ). i.partition < n) f.partitions w.partition;
        number = omega (arith, number, none, places);
        fits_request = subst (λ (c : Config). charge_of i ≤ c.max_request_size) f.config w.request;
        fits_memory = subst (λ (c : Config). charge_of i ≤ c.buffer_memory) f.config w.memory;
      }

  all_offered : (s t : Core) (earlier : List Item) (calls : List Call) (life : Life) → Fits s → Lives s calls life t → AllByRecursion IsTaken calls → AreNext [] earlier (appended_in calls)
      → AreOffered o 0 earlier (appended_in calls)
  unfolding Lives
  all_offered s t earlier [] life f lives taken next = tt
  all_offered s t earlier (Append i (Ok done) ∷ calls) life f lives taken next = (
    offered_one s lives.0 i earlier f lives.2 next.0 next.1,
    all_offered lives.0 t (earlier ++ i ∷ []) calls lives.1 (fits_on s lives.0 (Append i (Ok done)) f lives.2) lives.3 taken.1 next.2,
  )
  all_offered s t earlier (Append i (Err fault) ∷ calls) life f lives taken next = absurd taken.0
  all_offered s t earlier (Request node now answer ∷ calls) life f lives taken next = all_offered lives.0 t earlier calls lives.1 (fits_on s lives.0 (Request node now answer) f lives.2) lives.3 taken.1 next
  all_offered s t earlier (Reply now content answer ∷ calls) life f lives taken next = all_offered lives.0 t earlier calls lives.1 (fits_on s lives.0 (Reply now content answer) f lives.2) lives.3 taken.1 next
  all_offered s t earlier (Tick node now answer ∷ calls) life f lives taken next = all_offered lives.0 t earlier calls lives.1 (fits_on s lives.0 (Tick node now answer) f lives.2) lives.3 taken.1 next
  all_offered s t earlier (Disconnect node now ∷ calls) life f lives taken next = all_offered lives.0 t earlier calls lives.1 (fits_on s lives.0 (Disconnect node now) f lives.2) lives.3 taken.1 next
  all_offered s t earlier (Lead p leader now ∷ calls) life f lives taken next = all_offered lives.0 t earlier calls lives.1 (fits_on s lives.0 (Lead p leader now) f lives.2) lives.3 taken.1 next
  all_offered s t earlier (Close ∷ calls) life f lives taken next = all_offered lives.0 t earlier calls lives.1 (fits_on s lives.0 Close f lives.2) lives.3 taken.1 next
  all_offered s t earlier (Flush ∷ calls) life f lives taken next = all_offered lives.0 t earlier calls lives.1 (fits_on s lives.0 Flush f lives.2) lives.3 taken.1 next
  all_offered s t earlier (End reports ∷ calls) life f lives taken next = all_offered lives.0 t earlier calls lives.1 (fits_on s lives.0 (End reports) f lives.2) lives.3 taken.1 next
  all_offered s t earlier (Fetch sender answer ∷ calls) life f lives taken next = all_offered lives.0 t earlier calls lives.1 (fits_on s lives.0 (Fetch sender answer) f lives.2) lives.3 taken.1 next

-- ---- the core is fed with it in turn

all_offers : (calls : List Call) (counts : List ℕ) (earlier : List Item) → AllByRecursion IsTaken calls → AreNext counts earlier (appended_in calls) → offers 0 calls ≡ all_appended (appended_in calls)
all_offers [] counts earlier taken next = refl
all_offers (Append i (Ok done) ∷ calls) counts earlier taken next =
    ap (λ (os : List Offer). os ++ offers 0 calls) (offer_here i 0 (Ok done) next.0) ∙ ap (λ (os : List Offer). (i, true) ∷ os) (all_offers calls counts (earlier ++ i ∷ []) taken.1 next.2)
all_offers (Append i (Err fault) ∷ calls) counts earlier taken next = absurd taken.0
all_offers (Request node now answer ∷ calls) counts earlier taken next = all_offers calls counts earlier taken.1 next
all_offers (Reply now content answer ∷ calls) counts earlier taken next = all_offers calls counts earlier taken.1 next
all_offers (Tick node now answer ∷ calls) counts earlier taken next = all_offers calls counts earlier taken.1 next
all_offers (Disconnect node now ∷ calls) counts earlier taken next = all_offers calls counts earlier taken.1 next
all_offers (Lead p leader now ∷ calls) counts earlier taken next = all_offers calls counts earlier taken.1 next
all_offers (Close ∷ calls) counts earlier taken next = all_offers calls counts earlier taken.1 next
all_offers (Flush ∷ calls) counts earlier taken next = all_offers calls counts earlier taken.1 next
all_offers (End reports ∷ calls) counts earlier taken next = all_offers calls counts earlier taken.1 next
all_offers (Fetch sender answer ∷ calls) counts earlier taken next = all_offers calls counts earlier taken.1 next

no_offers : (n : ℕ) (calls : List Call) (counts : List ℕ) (earlier : List Item) → AllByRecursion IsTaken calls → AreNext counts earlier (appended_in calls) → offers (suc n) calls ≡ []
no_offers n [] counts earlier taken next = refl
no_offers n (Append i (Ok done) ∷ calls) counts earlier taken next =
    ap (λ (os : List Offer). os ++ offers (suc n) calls) (offer_elsewhere i (suc n) (Ok done) (λ same. not_both n (sym next.0 ∙ same))) ∙ no_offers n calls counts (earlier ++ i ∷ []) taken.1 next.2
  where
    not_both : (k : ℕ) → 0 ≡ suc k → ⊥
    not_both k e = cc
no_offers n (Append i (Err fault) ∷ calls) counts earlier taken next = absurd taken.0
no_offers n (Request node now answer ∷ calls) counts earlier taken next = no_offers n calls counts earlier taken.1 next
no_offers n (Reply now content answer ∷ calls) counts earlier taken next = no_offers n calls counts earlier taken.1 next
no_offers n (Tick node now answer ∷ calls) counts earlier taken next = no_offers n calls counts earlier taken.1 next
no_offers n (Disconnect node now ∷ calls) counts earlier taken next = no_offers n calls counts earlier taken.1 next
no_offers n (Lead p leader now ∷ calls) counts earlier taken next = no_offers n calls counts earlier taken.1 next
no_offers n (Close ∷ calls) counts earlier taken next = no_offers n calls counts earlier taken.1 next
no_offers n (Flush ∷ calls) counts earlier taken next = no_offers n calls counts earlier taken.1 next
no_offers n (End reports ∷ calls) counts earlier taken next = no_offers n calls counts earlier taken.1 next
no_offers n (Fetch sender answer ∷ calls) counts earlier taken next = no_offers n calls counts earlier taken.1 next

drop_nothing : (k : ℕ) → drop {A = Item} k [] ≡ []
drop_nothing zero = refl
drop_nothing (suc k) = refl

nothing_at : (n : ℕ) → ◌≡◌ {A = List Item} (slice_index_or [] n []) []
nothing_at zero = refl
nothing_at (suc n) = refl

opened_config : (config : Config) (names : Names) (partitions id : ℕ) → (core_by config names partitions id).config ≡ config
unfolding new_core without_audits
opened_config config names partitions id = refl

opened_partitions : (config : Config) (names : Names) (partitions id : ℕ) → length (core_by config names partitions id).partitions ≡ partitions
unfolding new_core without_audits
opened_partitions config names partitions id =
    length-map (replicate partitions (new_partition id)) unaudited ∙ length-replicate partitions (new_partition id)

module _ (config : Config) (names : Names) (calls : List Call) (p : Producer) (t : Core) (ms : List Move) (runs : Runs config names calls p) (is : p.core ≡ Some t) (b : Begins config names calls t) where
  abbrev pub o : Opening
  o = opening_of config names b.partitions b.id

  acts : (cluster : Cluster) × Acts (new_producer config names cluster) calls p
  acts = runs_act config names calls p runs

  offered : AllOffered o 0 (accepted_by calls)
  offered = (all_offered o refl (core_by config names b.partitions b.id) t [] calls b.becomes.0 (record { config = opened_config config names b.partitions b.id; partitions = opened_partitions config names b.partitions b.id }) b.becomes.1 acts.1.taken acts.1.next, tt)

  none_waits : (n : ℕ) → [] ≡ drop (slice_index (0 ∷ []) (suc n)) (slice_index_or (accepted_by calls) (suc n) [])
  none_waits n = sym (ap (drop (slice_index (0 ∷ []) (suc n))) (nothing_at n) ∙ drop_nothing (slice_index (0 ∷ []) (suc n)))

  feeds : (i : ℕ) → (rest : List Item) × Feeds (drop (slice_index (0 ∷ []) i) (slice_index_or (accepted_by calls) i [])) (offers i calls) rest
  feeds zero = (
    [],
    subst (λ (os : List Offer). Feeds (appended_in calls) os []) (sym (all_offers calls [] [] acts.1.taken acts.1.next))
        (subst (λ (xs : List Item). Feeds xs (all_appended (appended_in calls)) []) (append-nil (appended_in calls)) (all_feed (appended_in calls) [])),
  )
  feeds (suc n) =
      ([], subst (λ (os : List Offer). Feeds (drop (slice_index (0 ∷ []) (suc n)) (slice_index_or (accepted_by calls) (suc n) [])) os []) (sym (no_offers n calls [] [] acts.1.taken acts.1.next)) (none_waits n))

  pub of_calls : (Holds : State → Type 0) → AfterAnyMoves o Holds → Around o (accepted_by calls) calls ms → AssumedAround (begin o calls) ms → Holds (led (begin o calls) ms)
  of_calls Holds law around assumed =
      of_fed o (accepted_by calls) ms refl offered around.moves turn assumed Holds b.may_open law
    where
      turn : Throughout IsInTurn (begin o calls) ms
      turn = in_turn (begin o calls) ms around.all_before (record {
        same = refl;
        feeds = λ i. let f = feeds i in (f.0, subst (λ (cs : List Call). Feeds (drop (slice_index (0 ∷ []) i) (slice_index_or (accepted_by calls) i [])) (offers i cs) f.0) (sym around.same_calls) f.1);
      })

-- ---- with nothing around them

pub stand_alone : (config : Config) (names : Names) (calls : List Call) (t : Core) (b : Begins config names calls t)
    → (ms : List Move) × Around (opening_of config names b.partitions b.id) (accepted_by calls) calls ms
stand_alone config names calls t b =
    let a : Alone (begin (opening_of config names b.partitions b.id) calls) calls =
    all_alone (begin (opening_of config names b.partitions b.id) calls) calls b.becomes.0 t b.becomes.1 in
    (a.ms, record { moves = a.moves; same_calls = a.same_calls; all_before = a.none })
