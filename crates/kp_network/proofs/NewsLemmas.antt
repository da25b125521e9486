-- What is new, and what was done for it.
use Rattle.std.proofs.Common.{◌≡◌, ◌≢◌, ◌⊎◌, ℕ, zero, suc, Bool, true, false, true≢false, List, [], ◌∷◌, ◌++◌, Option, Some, None, Result, Ok, Err, refl, sym, ap, subst, inl, inr, ⊎_elim, ◌∙◌}
use Rattle.std.specs.Prelude.{if◌then◌else◌, nat_eq, nat_lt, min, is_some}
use Rattle.std.specs.Option.{option_map, option_map_or}
use Rattle.std.proofs.lemmas.Bool.{cases_eq, eq-eqb, ne_eqb}
use Rattle.kp_cluster.specs.Actions.{told}
use Rattle.kp_cluster.specs.Actions as actions
use Rattle.kp_cluster.specs.Backoff.{Loses}
use Rattle.kp_cluster.specs.Cluster.{Cluster, chart_refused, connected, is_open_at, leader_of, with_answered, with_wanted}
use Rattle.kp_cluster.specs.Learning.{learned}
use Rattle.kp_cluster.specs.Metadata.{asked, heeded, may_ask}
use Rattle.kp_cluster.specs.Runs.{Call, Runs, Step}
use Rattle.kp_cluster.specs.Runs.Runs.{not_yet, once_more}
use Rattle.kp_cluster.specs.Runs.Call.{Answered, Asked, Heed, Learn, Lost, NextAction, RefuseChart, Want}
use Rattle.kp_cluster.specs.declared.action.Action.{Action}
use Rattle.kp_hello.specs.declared.chart.Chart.{Chart}
use Rattle.kp_hello.specs.declared.fault.HandshakeFault.{HandshakeFault}
use Rattle.kp_hello.specs.declared.fault.HandshakeFault.TheVariants as fault
use Rattle.kp_hello.specs.declared.hello.TheConstants.{PARTITION_LIMIT}
use Rattle.kp_network.specs.Links.{AreStill, IsDialing, IsStill, OnlyAt, has, is_made, link_at}
use Rattle.kp_network.specs.Network.{next_led}
use Rattle.kp_network.specs.News.{Acts, ActsIf, Asks, Begins, Closes, Goes, GoesOn, Hears, IsInTurn, Knows, Makes, Obeys, Renews, Tells, all_wanted, has_after, node_of, told_after, told_leader, while_open}
use Rattle.kp_network.specs.declared.link.Link.{Link}
use Rattle.kp_network.specs.declared.link.Link.TheVariants as link
use Rattle.kp_network.specs.declared.nodes.Nodes.{Nodes}
use Rattle.kp_network.specs.declared.question.Question.{Question}
use Rattle.kp_running.specs.declared.keeping.News.{News}
use Rattle.kp_running.specs.declared.keeping.News.TheVariants.{Connected, Dropped, Ended, Led}

-- ---- the cluster

module _ (now : ℕ) where
  pub goes_then : (a b c : Cluster) → Goes now a b → Goes now b c → Goes now a c
  goes_then a b _ g Goes.not_yet = g
  goes_then a b _ g (Goes.once_more mid c call h quiet step) = Goes.once_more mid c call (goes_then a b mid g h) quiet step

  goes_to : (a b c : Cluster) → c ≡ b → Goes now a b → Goes now a c
  goes_to a b c e g = subst (Goes now a) (sym e) g

  pub goes_same : (a b : Cluster) → b ≡ a → Goes now a b
  goes_same a b e = goes_to a a b e Goes.not_yet

  wants_one : (a c : Cluster) (node : ℕ) (has_work : Bool) → Goes now a c → Goes now a (if has_work then with_wanted node c else c)
  wants_one a c node false g = g
  wants_one a c node true g = Goes.once_more c (with_wanted node c) (Want node) g tt refl

  wants_all : (has_work : ℕ → Bool) (a c : Cluster) (count : ℕ) → Goes now a c → Goes now a (all_wanted has_work count c)
  wants_all has_work a c zero g = g
  wants_all has_work a c (suc node) g = wants_one a (all_wanted has_work node c) node (has_work node) (wants_all has_work a c node g)

  pub goes_heeding : (has_work : ℕ → Bool) (count : ℕ) (a : Cluster) → Goes now a (all_wanted has_work count (heeded now a))
  goes_heeding has_work count a = wants_all has_work a (heeded now a) count (Goes.once_more a (heeded now a) (Heed now) Goes.not_yet refl refl)

  pub goes_losing : (node : ℕ) (a b : Cluster) → Loses node now a b → Goes now a b
  goes_losing node a b lost = Goes.once_more a b (Lost node now) Goes.not_yet refl lost

  pub goes_next : (a b : Cluster) (action : Option Action) → told now a ≡ record { action = action; cluster = b } → Goes now a b
  goes_next a b action e = Goes.once_more a b (NextAction now) Goes.not_yet refl (sym (ap (λ (t : actions.Told). t.cluster) e))

  goes_refusing : (a b : Cluster) → Goes now a b → Goes now a (chart_refused b)
  goes_refusing a b g = Goes.once_more b (chart_refused b) RefuseChart g tt refl

  goes_answered : (node : ℕ) (a : Cluster) → Goes now a (with_answered node a)
  goes_answered node a = Goes.once_more a (with_answered node a) (Answered node) Goes.not_yet tt refl

  goes_asked : (node : ℕ) (a : Cluster) → may_ask node now a ≡ true → Goes now a (asked node now a)
  goes_asked node a may = Goes.once_more a (asked node now a) (Asked node now) Goes.not_yet refl (may, refl)

  goes_asking : {K S : Type 0} (node : ℕ) (a : Cluster) (question : Option (Question K S)) (b : Cluster) → may_ask node now a ≡ true → Asks node now a question b → Goes now a b
  goes_asking node a (Some question) b may asks = goes_to a (asked node now a) b asks.0 (goes_asked node a may)
  goes_asking node a None b may asks = goes_to a (chart_refused (asked node now a)) b asks (goes_refusing a (asked node now a) (goes_asked node a may))

  pub goes_renewing : {K S : Type 0} (a b : Cluster) (old new : Option (Question K S)) → Renews now a b old new → Goes now a b
  goes_renewing a b old _ (Renews.stays none same) = goes_same a b same
  goes_renewing a b old _ (Renews.another node new may asks) = goes_asking node a new b may asks

  goes_hearing : (node : ℕ) (answer : Result Chart HandshakeFault) (a b : Cluster) → Hears node now answer a b → Goes now a b
  goes_hearing node (Ok chart) a b (inl e) =
      goes_to a (learned chart.nodes.items chart.leaders.items now (with_answered node a)) b e
      (Goes.once_more (with_answered node a) _ (Learn chart.nodes.items chart.leaders.items now) (goes_answered node a) refl refl)
  goes_hearing node (Ok chart) a b (inr e) = goes_to a (chart_refused (with_answered node a)) b e (goes_refusing a (with_answered node a) (goes_answered node a))
  goes_hearing node (Err (fault.Refused code)) a b e = goes_to a (chart_refused (with_answered node a)) b e (goes_refusing a (with_answered node a) (goes_answered node a))
  goes_hearing node (Err fault.Io) a b e = goes_to a (chart_refused a) b e (goes_refusing a a Goes.not_yet)
  goes_hearing node (Err (fault.Frame f)) a b e = goes_to a (chart_refused a) b e (goes_refusing a a Goes.not_yet)
  goes_hearing node (Err fault.BadAnswer) a b e = goes_to a (chart_refused a) b e (goes_refusing a a Goes.not_yet)
  goes_hearing node (Err fault.OutOfMemory) a b e = goes_to a (chart_refused a) b e (goes_refusing a a Goes.not_yet)

  pub goes_asking_on : {K S : Type 0} (a b : Cluster) (before after : ℕ) (old new : Option (Question K S)) → GoesOn now a b before after old new → Goes now a b
  goes_asking_on a b before _ _ _ (GoesOn.none same) = goes_same a b same
  goes_asking_on a b before _ _ _ (GoesOn.left old away same) = goes_same a b same
  goes_asking_on a b before _ _ _ (GoesOn.waits old new there node same) = goes_same a b same
  goes_asking_on a b before _ _ _ (GoesOn.heard old answer there hears) = goes_hearing old.node answer a b hears

-- ---- the question, which is left, or waits on, or is heard

module _ {K S : Type 0} (now : ℕ) (a : Cluster) (count : ℕ) where
  left_unless : (question : Question K S) (there : Bool) → is_open_at question.node a.slots ≡ there → (if there then Some question else None) ≡ None → GoesOn now a a count count (Some question) None
  left_unless question true is none = absurd (true≢false (ap is_some none))
  left_unless question false is none = GoesOn.left question is refl

  left_or_none : (old : Option (Question K S)) → while_open a old ≡ None → GoesOn now a a count count old None
  left_or_none None none = GoesOn.none refl
  left_or_none (Some question) none = left_unless question (is_open_at question.node a.slots) refl none

  open_where : (old question : Question K S) (there : Bool) → is_open_at old.node a.slots ≡ there → (if there then Some old else None) ≡ Some question
      → (Some old ≡ Some question) × (is_open_at question.node a.slots ≡ true)
  open_where old question true is some = (some, subst (λ (o : Option (Question K S)). option_map_or (λ q. is_open_at q.node a.slots) o true ≡ true) some is)
  open_where old question false is some = absurd (true≢false (sym (ap is_some some)))

  open_of : (old : Option (Question K S)) (question : Question K S) → while_open a old ≡ Some question → (old ≡ Some question) × (is_open_at question.node a.slots ≡ true)
  open_of None question some = absurd (true≢false (sym (ap is_some some)))
  open_of (Some old) question some = open_where old question (is_open_at old.node a.slots) refl some

  pub is_left : (b : Cluster) (after : ℕ) (old new : Option (Question K S)) → while_open a old ≡ None → new ≡ None → b ≡ a → after ≡ count → GoesOn now a b count after old new
  is_left b after old new left none same told =
      subst (λ (n : Option (Question K S)). GoesOn now a b count after old n) (sym none)
      (subst (λ (c : Cluster). GoesOn now a c count after old None) (sym same)
      (subst (λ (n : ℕ). GoesOn now a a count n old None) (sym told) (left_or_none old left)))

  pub waits_on : (b : Cluster) (after : ℕ) (old : Option (Question K S)) (question new : Question K S) → while_open a old ≡ Some question → new.node ≡ question.node → b ≡ a → after ≡ count
      → GoesOn now a b count after old (Some new)
  waits_on b after old question new waits node same told =
      let there = open_of old question waits in
      subst (λ (o : Option (Question K S)). GoesOn now a b count after o (Some new)) (sym there.0)
      (subst (λ (n : ℕ). GoesOn now a b count n (Some question) (Some new)) (sym told) (GoesOn.waits question new there.1 node same))

  pub is_heard : (b : Cluster) (after : ℕ) (old : Option (Question K S)) (question : Question K S) (new : Option (Question K S)) (answer : Result Chart HandshakeFault) → while_open a old ≡ Some question
      → Hears question.node now answer a b → new ≡ None → after ≡ told_after answer count → GoesOn now a b count after old new
  is_heard b after old question new answer waits hears none told =
      let there = open_of old question waits in
      subst (λ (n : Option (Question K S)). GoesOn now a b count after old n) (sym none)
      (subst (λ (o : Option (Question K S)). GoesOn now a b count after o None) (sym there.0)
      (subst (λ (n : ℕ). GoesOn now a b count n (Some question) None) (sym told) (GoesOn.heard question answer there.1 hears)))

told_by : (answer : Result Chart HandshakeFault) (count : ℕ) → (told_after answer count ≡ count) ⊎ (told_after answer count ≡ 0)
told_by (Ok chart) count = inr refl
told_by (Err fault) count = inl refl

pub told_on : {K S : Type 0} (now : ℕ) (a b : Cluster) (before after : ℕ) (old new : Option (Question K S)) → GoesOn now a b before after old new → (after ≡ before) ⊎ (after ≡ 0)
told_on now a b before _ _ _ (GoesOn.none same) = inl refl
told_on now a b before _ _ _ (GoesOn.left old away same) = inl refl
told_on now a b before _ _ _ (GoesOn.waits old new there node same) = inl refl
told_on now a b before _ _ _ (GoesOn.heard old answer there hears) = told_by answer before

-- ---- both

if_it : (k node : ℕ) (x y : Bool) → k ≡ node → (if nat_eq k node then x else y) ≡ x
if_it k node x y e = ap (λ (b : Bool). if b then x else y) (eq-eqb k node e)

if_other : (k node : ℕ) (x y : Bool) → k ≢ node → (if nat_eq k node then x else y) ≡ y
if_other k node x y e = ap (λ (b : Bool). if b then x else y) (ne_eqb k node e)

-- the links are as they were, and the cluster was told that no connection is open
pub tells_nothing : {D K S : Type 0} (now : ℕ) (a b : Nodes D K) → Goes now a.cluster b.cluster → ((k : ℕ) → link_at k b.links.items ≡ link_at k a.links.items) → Tells {D = D} {K = K} {S = S} now a None b
tells_nothing now a b goes same = record { knows = goes; after = λ k. ap is_made (same k); turn = tt }

turn_before : {S : Type 0} (news : Option (News S)) (a b : ℕ → Bool) → ((k : ℕ) → b k ≡ a k) → IsInTurn news b → IsInTurn news a
turn_before None a b same turn = tt
turn_before (Some (Connected node stream)) a b same turn = sym (same node) ∙ turn
turn_before (Some (Led partition node)) a b same turn = tt
turn_before (Some (Dropped node)) a b same turn = sym (same node) ∙ turn
turn_before (Some Ended) a b same turn = tt

module _ {S : Type 0} (now : ℕ) where
  knows_behind : (a b c : Cluster) (news : Option (News S)) → Goes now a b → Knows now b news c → Knows now a news c
  knows_behind a b c None g knows = goes_then now a b c g knows
  knows_behind a b c (Some (Connected node stream)) g knows = (knows.0, goes_then now a b knows.0 g knows.1, knows.2)
  knows_behind a b c (Some (Led partition node)) g knows = (goes_then now a b c g knows.0, knows.1)
  knows_behind a b c (Some (Dropped node)) g knows = (knows.0, goes_then now a b knows.0 g knows.1, knows.2)
  knows_behind a b c (Some Ended) g knows = absurd knows

module _ {D K S : Type 0} (now : ℕ) where
  pub tells_behind : (a b c : Nodes D K) (news : Option (News S)) → Tells {D = D} {K = K} {S = S} now a None b → Tells now b news c → Tells now a news c
  tells_behind a b c news first next = record {
    knows = knows_behind now a.cluster b.cluster c.cluster news first.knows next.knows;
    after = λ k. next.after k ∙ ap (has_after news k) (first.after k);
    turn = turn_before news (λ node. has node a.links.items) (λ node. has node b.links.items) first.after next.turn;
  }

  pub tells_led : (a : Nodes D K) (partition node : ℕ) → node ≡ told_leader (leader_of partition a.cluster) → Tells {D = D} {K = K} {S = S} now a (Some (Led partition node)) a
  tells_led a partition node is = record { knows = (Goes.not_yet, is); after = λ k. refl; turn = tt }

-- ---- one connection

not_made : {K : Type 0} (l : Link K) → IsDialing l → is_made l ≡ false
not_made link.Away dialing = absurd dialing
not_made (link.Dialing k) dialing = refl
not_made link.Made dialing = absurd dialing

pub closes_from : {D K : Type 0} (now node : ℕ) (a mid b : Nodes D K) (gone : Option ℕ) → mid.cluster ≡ a.cluster → ((k : ℕ) → link_at k mid.links.items ≡ link_at k a.links.items)
    → Closes now node mid gone b → Closes now node a gone b
closes_from now node a mid b _ cluster same c = record {
  lost = subst (λ (x : Cluster). Loses node now x b.cluster) cluster c.lost;
  away = c.away;
  others = λ k other. c.others k other ∙ same k;
  had = c.had ∙ ap (λ (l : Link _). if is_made l then Some node else None) (same node);
}

-- That it is gone is told, if the engine had it.
module _ {D K S : Type 0} (now node : ℕ) where
  tells_gone : (a b : Nodes D K) (had : Bool) → has node a.links.items ≡ had → Loses node now a.cluster b.cluster → link_at node b.links.items ≡ link.Away → OnlyAt node a.links.items b.links.items
      → Tells {D = D} {K = K} {S = S} now a (option_map Dropped (if had then Some node else None)) b
  tells_gone a b true had lost away others = record {
    knows = (a.cluster, Goes.not_yet, lost);
    after = λ k. ⊎_elim
        (λ (same : k ≡ node). subst (λ (n : ℕ). has n b.links.items ≡ false) (sym same) (ap is_made away) ∙ sym (if_it k node false (has k a.links.items) same))
        (λ (other : k ≢ node). ap is_made (others k other) ∙ sym (if_other k node false (has k a.links.items) other))
        (cases_eq k node);
    turn = had;
  }
  tells_gone a b false had lost away others = record {
    knows = goes_losing now node a.cluster b.cluster lost;
    after = λ k. ⊎_elim
        (λ (same : k ≡ node). subst (λ (n : ℕ). has n b.links.items ≡ has n a.links.items) (sym same) (ap is_made away ∙ sym had))
        (λ (other : k ≢ node). ap is_made (others k other))
        (cases_eq k node);
    turn = tt;
  }

  pub tells_closed : (a b : Nodes D K) (gone : Option ℕ) → Closes now node a gone b → Tells {D = D} {K = K} {S = S} now a (option_map Dropped gone) b
  tells_closed a b _ c =
      subst (λ (o : Option ℕ). Tells {D = D} {K = K} {S = S} now a (option_map Dropped o) b) (sym c.had)
      (tells_gone a b (has node a.links.items) refl c.lost c.away c.others)

  pub tells_begun : (a b : Nodes D K) → Begins node a b → Tells {D = D} {K = K} {S = S} now a None b
  tells_begun a b begins = record {
    knows = subst (Goes now a.cluster) (sym begins.cluster) Goes.not_yet;
    after = λ k. ⊎_elim
        (λ (same : k ≡ node). subst (λ (n : ℕ). has n b.links.items ≡ has n a.links.items) (sym same)
        (not_made (link_at node b.links.items) begins.dialing ∙ sym (ap is_made begins.none)))
        (λ (other : k ≢ node). ap is_made (begins.others k other))
        (cases_eq k node);
    turn = tt;
  }

still_made : {K : Type 0} (a b : Link K) → IsStill a b → is_made b ≡ is_made a
still_made link.Away b still = ap is_made still
still_made (link.Dialing k) link.Away still = absurd still
still_made (link.Dialing k) (link.Dialing l) still = refl
still_made (link.Dialing k) link.Made still = absurd still
still_made link.Made b still = ap is_made still

not_yet_made : {D K : Type 0} (a : Nodes D K) (links : List (Link K)) → AreStill a.links.items links → (node : ℕ) → IsDialing (link_at node links) → has node a.links.items ≡ false
not_yet_made a links still node dialing = sym (still_made (link_at node a.links.items) (link_at node links) (still node)) ∙ not_made (link_at node links) dialing

module _ {D K S : Type 0} (now : ℕ) where
  obeys_tells : (a b : Nodes D K) (action : Action) (gone : Option ℕ) → Obeys now a b action gone → Tells {D = D} {K = K} {S = S} now a (option_map Dropped gone) b
  obeys_tells a b _ _ (Obeys.begins node begins) = tells_begun now node a b begins
  obeys_tells a b _ _ (Obeys.closes action gone closes) = tells_closed now (node_of action) a b gone closes

  pub acts_tells : (a b : Nodes D K) (gone : Option ℕ) → Acts now a b gone → Tells {D = D} {K = K} {S = S} now a (option_map Dropped gone) b
  acts_tells a b _ (Acts.nothing e same) = tells_nothing now a b (goes_next now a.cluster b.cluster None e) (λ k. ap (link_at k) same)
  acts_tells a b _ (Acts.something mid action gone e same obeys) =
      tells_behind now a mid b (option_map Dropped gone) (tells_nothing now a mid (goes_next now a.cluster mid.cluster (Some action) e) (λ k. ap (link_at k) same))
      (obeys_tells mid b action gone obeys)

  pub acts_if_tells : (may : Bool) (a b : Nodes D K) (gone : Option ℕ) → ActsIf may now a b gone → Tells {D = D} {K = K} {S = S} now a (option_map Dropped gone) b
  acts_if_tells true a b gone acts = acts_tells a b gone acts
  acts_if_tells false a b _ none =
      subst (λ (o : Option ℕ). Tells {D = D} {K = K} {S = S} now a (option_map Dropped o) b) (sym none.1)
      (subst (λ (m : Nodes D K). Tells {D = D} {K = K} {S = S} now a None m) (sym none.0) (tells_nothing now a a Goes.not_yet (λ k. refl)))

  tells_still : (a b : Nodes D K) → b.cluster ≡ a.cluster → AreStill a.links.items b.links.items → Tells {D = D} {K = K} {S = S} now a None b
  tells_still a b same still = record {
    knows = subst (Goes now a.cluster) (sym same) Goes.not_yet;
    after = λ k. still_made (link_at k a.links.items) (link_at k b.links.items) (still k);
    turn = tt;
  }

  pub makes_tells : (a b : Nodes D K) (made : Option (ℕ × S)) → Makes now a b made → Tells now a (option_map (λ x. Connected x.0 x.1) made) b
  makes_tells a b _ (Makes.still same still) = tells_still a b same still
  makes_tells a b _ (Makes.lost links node still dialing others lost away) = record {
    knows = goes_losing now node a.cluster b.cluster lost;
    after = λ k. ⊎_elim
        (λ (same : k ≡ node). subst (λ (n : ℕ). has n b.links.items ≡ has n a.links.items) (sym same) (ap is_made away ∙ sym (not_yet_made a links still node dialing)))
        (λ (other : k ≢ node). ap is_made (others k other) ∙ still_made (link_at k a.links.items) (link_at k links) (still k))
        (cases_eq k node);
    turn = tt;
  }
  makes_tells a b _ (Makes.made links node stream still dialing others told made) = record {
    knows = (a.cluster, Goes.not_yet, told);
    after = λ k. ⊎_elim
        (λ (same : k ≡ node). subst (λ (n : ℕ). has n b.links.items ≡ true) (sym same) (ap is_made made) ∙ sym (if_it k node true (has k a.links.items) same))
        (λ (other : k ≢ node). ap is_made (others k other) ∙ still_made (link_at k a.links.items) (link_at k links) (still k) ∙ sym (if_other k node true (has k a.links.items) other))
        (cases_eq k node);
    turn = not_yet_made a links still node dialing;
  }

-- ---- leaders

led_by : (may : Bool) (first leader partition node : ℕ) → ◌≡◌ {A = Option (ℕ × ℕ)} (Some (partition, node)) (if may then Some (first, leader) else None) → (partition ≡ first) × (node ≡ leader)
led_by true first leader partition node e =
    (ap (λ (o : Option (ℕ × ℕ)). option_map_or (λ (x : ℕ × ℕ). x.0) o 0) e, ap (λ (o : Option (ℕ × ℕ)). option_map_or (λ (x : ℕ × ℕ). x.1) o 0) e)
led_by false first leader partition node e = absurd (true≢false (ap is_some e))

pub led_told : (count first partition node : ℕ) (c : Cluster) → ◌≡◌ {A = Option (ℕ × ℕ)} (Some (partition, node)) (next_led count first c) → (partition ≡ first) × (node ≡ told_leader (leader_of partition c))
led_told count first partition node c e =
    let led = led_by (nat_lt first (min count PARTITION_LIMIT)) first (told_leader (leader_of first c)) partition node e in
    (led.0, led.1 ∙ sym (ap (λ (p : ℕ). told_leader (leader_of p c)) led.0))

pub tells_heeded : {D K S : Type 0} (now : ℕ) (has_work : ℕ → Bool) (count : ℕ) (a h n : Nodes D K) → h.cluster ≡ all_wanted has_work count (heeded now a.cluster) → h.links.items ≡ a.links.items → n ≡ h
    → Tells {D = D} {K = K} {S = S} now a None n
tells_heeded now has_work count a h n cluster links is =
    tells_nothing now a n (subst (Goes now a.cluster) (sym (ap (λ (m : Nodes _ _). m.cluster) is ∙ cluster)) (goes_heeding now has_work count a.cluster))
    (λ k. ap (λ (m : Nodes _ _). link_at k m.links.items) is ∙ ap (link_at k) links)

-- ---- calls

runs_once : (now : ℕ) (a mid b : Cluster) (call : Call) → (calls : List Call) × Runs a calls mid → Step mid call b → (calls : List Call) × Runs a calls b
runs_once now a mid b call before step = (before.0 ++ call ∷ [], once_more mid b before.0 call before.1 step)

goes_runs : (now : ℕ) (a b : Cluster) → Goes now a b → (calls : List Call) × Runs a calls b
goes_runs now a _ Goes.not_yet = ([], not_yet)
goes_runs now a _ (Goes.once_more b c call g quiet step) = runs_once now a b c call (goes_runs now a b g) step

pub knows_runs : {S : Type 0} (now : ℕ) (a b : Cluster) (news : Option (News S)) → Knows now a news b → (calls : List Call) × Runs a calls b
knows_runs now a b None knows = goes_runs now a b knows
knows_runs now a b (Some (Connected node stream)) knows =
    runs_once now a (connected node knows.0) b (Answered node)
    (runs_once now a knows.0 (connected node knows.0) (Call.Connected node) (goes_runs now a knows.0 knows.1) refl) knows.2
knows_runs now a b (Some (Led partition node)) knows = goes_runs now a b knows.0
knows_runs now a b (Some (Dropped node)) knows = runs_once now a knows.0 b (Lost node now) (goes_runs now a knows.0 knows.1) knows.2
knows_runs now a b (Some Ended) knows = absurd knows
