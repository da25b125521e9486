-- Open connections, whatever use is made of a driven producer.
use Rattle.std.proofs.Common.{◌≡◌, ◌≢◌, ◌⊎◌, ℕ, List, [], ◌++◌, length, sym, ap, subst, ◌∙◌, inl, inr, ⊎_elim, refl}
use Rattle.std.specs.Prelude.{Some, None}
use Rattle.std.proofs.lemmas.Bool.{cases_eq}
use Rattle.kp_cluster.specs.declared.action.Action.{Action}
use Rattle.kp_cluster.specs.declared.action.Action.TheVariants.{Connect, Close}
use Rattle.kp_connection.specs.Answers.{Answer}
use Rattle.kp_connection.specs.Wire.{Told}
use Rattle.kp_drive.specs.Connection.{HasCarried, MayEndAt, Since}
use Rattle.kp_drive.specs.Doing.{Does, DoesAll, Obeys, Tells, node_of}
use Rattle.kp_drive.specs.Links.{EachTurns, LinkTurns, OnlyAt, link_at}
use Rattle.kp_drive.specs.Serving.{Ends, Exchanges}
use Rattle.kp_drive.specs.Turning.{Turns}
use Rattle.kp_drive.specs.Using.{Uses}
use Rattle.kp_drive.specs.declared.link.Link.{Link}
use Rattle.kp_drive.specs.declared.link.Link.TheVariants.{Closed, Dialing, Open}
use Rattle.kp_drive.specs.declared.pipe.Pipe.{Pipe}
use Rattle.kp_drive.proofs.SinceLemmas.{since_carries}
use Rattle.kp_drive.proofs.TurnLemmas.{ActsSome, link_acts, obeys_acts, tells_acts}
use Rattle.kp_embed.specs.Going.{Stays}
use Rattle.kp_embed.specs.Hearing.{GivesUp}
use Rattle.kp_embed.specs.Lines.{line_at}
use Rattle.kp_embed.specs.Producer.{Producer}
use Rattle.kp_embed.proofs.TickLemmas.{ticks_act, ticks_end}

-- ---- lines of other nodes

-- those of other nodes are as they were
abbrev pub LeavesOthers : ℕ → Producer → Producer → Type 0
LeavesOthers node p q = (k : ℕ) → k ≢ node → line_at k q.lines ≡ line_at k p.lines

exchanges_leave : (node now : ℕ) (p q : Producer) (taken fed : List ℕ) → Exchanges node now p taken fed q → LeavesOthers node p q
exchanges_leave node now p q taken fed Exchanges.none k other = refl
exchanges_leave node now p q taken fed (Exchanges.took before heard bytes a b rest step) k other =
    step.lines.others k other ∙ exchanges_leave node now p a before heard rest k other
exchanges_leave node now p q taken fed (Exchanges.refused before heard a b rest step) k other =
    step.lines k ∙ exchanges_leave node now p a before heard rest k other
exchanges_leave node now p q taken fed (Exchanges.heard before heard bytes a b rest step) k other =
    step.lines.others k other ∙ exchanges_leave node now p a before heard rest k other

refused_leaves : (node now : ℕ) (p q : Producer) → Stays p q ⊎ GivesUp node now p q → LeavesOthers node p q
refused_leaves node now p q (inl s) k other = s.lines k
refused_leaves node now p q (inr g) k other = g.lines.others k other

same_leaves : (node : ℕ) (p q : Producer) → q ≡ p → LeavesOthers node p q
same_leaves node p q is k other = ap (λ (x : Producer). line_at k x.lines) is

ends_leave : {S : Type 0} (answers : Told S) (node now : ℕ) (p q : Producer) (a : Pipe S) → Ends answers node now p a q → LeavesOthers node p q
ends_leave answers node now p q a e k other =
    e.lost.lines.others k other ∙ refused_leaves node now e.stops.middle e.after e.stops.refused k other
    ∙ exchanges_leave node now p e.stops.middle e.stops.taken e.stops.fed e.stops.exchanges k other

turn_leaves : {K S : Type 0} (answers : Told S) (node now : ℕ) (p q : Producer) (old new : Link K S) → LinkTurns answers node now p old q new → LeavesOthers node p q
turn_leaves answers node now p q Closed Closed t = same_leaves node p q t
turn_leaves answers node now p q Closed (Dialing k) t = absurd t
turn_leaves answers node now p q Closed (Open b) t = absurd t
turn_leaves answers node now p q (Dialing k) Closed t = λ n other. t.lost.lines.others n other ∙ t.refused.lines n
turn_leaves answers node now p q (Dialing k) (Dialing l) t = same_leaves node p q t
turn_leaves answers node now p q (Dialing k) (Open b) t = λ n other. t.1.lines.others n other
turn_leaves answers node now p q (Open a) Closed t = ends_leave answers node now p q a t
turn_leaves answers node now p q (Open a) (Dialing k) t = absurd t
turn_leaves answers node now p q (Open a) (Open b) t = exchanges_leave node now p q t.taken _ t.exchanges

obeys_leaves : {K S : Type 0} (now : ℕ) (p q : Producer) (action : Action) (old new : Link K S) → Obeys now action p old q new → LeavesOthers (node_of action) p q
obeys_leaves now p q (Connect node) Closed Closed o = λ k other. o.lines.others k other
obeys_leaves now p q (Connect node) Closed (Dialing k) o = same_leaves node p q o
obeys_leaves now p q (Connect node) Closed (Open b) o = absurd o
obeys_leaves now p q (Connect node) (Dialing k) Closed o = λ n other. o.lines.others n other
obeys_leaves now p q (Connect node) (Dialing k) (Dialing l) o = absurd o
obeys_leaves now p q (Connect node) (Dialing k) (Open b) o = absurd o
obeys_leaves now p q (Connect node) (Open a) Closed o = λ k other. o.lines.others k other
obeys_leaves now p q (Connect node) (Open a) (Dialing l) o = absurd o
obeys_leaves now p q (Connect node) (Open a) (Open b) o = absurd o
obeys_leaves now p q (Close node) old Closed o = λ k other. o.lines.others k other
obeys_leaves now p q (Close node) old (Dialing k) o = absurd o
obeys_leaves now p q (Close node) old (Open b) o = absurd o

-- What it tells opens nothing.
obeys_opens_none : {K S : Type 0} (now : ℕ) (p q : Producer) (action : Action) (old : Link K S) (b : Pipe S) → Obeys now action p old q (Open b) → ⊥
obeys_opens_none now p q (Connect node) Closed b o = o
obeys_opens_none now p q (Connect node) (Dialing k) b o = o
obeys_opens_none now p q (Connect node) (Open a) b o = o
obeys_opens_none now p q (Close node) old b o = o

-- ---- one connection

-- It has gone on over a stream since it was made.
pub record Goes {S : Type 0} (answers : Told S) (node : ℕ) (p : Producer) (b : Pipe S) : Type 0 where
  pub first : S
  pub xs : List Answer
  pub taken : List ℕ
  pub since : Since answers node first xs taken p b

goes_on : {S : Type 0} (answers : Told S) (node : ℕ) (p q : Producer) (b : Pipe S) → Goes answers node p b → ActsSome p q → MayEndAt node p q → Goes answers node q b
goes_on answers node p q b g acts may = record { first = g.first; xs = g.xs; taken = g.taken; since = Since.meanwhile p q b g.xs g.taken acts.0 g.since acts.1 may }

module _ {K S : Type 0} (answers : Told S) where
  -- each open one
  abbrev AllGo : Producer → List (Link K S) → Type 0
  AllGo p links = (node : ℕ) (b : Pipe S) → link_at node links ≡ Open b → Goes answers node p b

  -- its own turn
  turn_goes : (node now : ℕ) (p q : Producer) (old : Link K S) (b : Pipe S) → LinkTurns answers node now p old q (Open b) → ((a : Pipe S) → old ≡ Open a → Goes answers node p a) → Goes answers node q b
  turn_goes node now p q Closed b t before = absurd t
  turn_goes node now p q (Dialing k) b t before = record { first = b.stream; xs = []; taken = []; since = Since.connected now p q b refl t.0 t.1 }
  turn_goes node now p q (Open a) b t before =
      let g = before a refl in record { first = g.first; xs = _; taken = _; since = Since.served now p q a b g.xs g.taken g.since t }

  -- ---- all

  calls_go : (p q : Producer) (ls : List (Link K S)) → AllGo p ls → ActsSome p q → ((k : ℕ) → MayEndAt k p q) → AllGo q ls
  calls_go p q ls all acts may node b is = goes_on answers node p q b (all node b is) acts (may node)

  -- those of other nodes
  others_go : (n : ℕ) (p q : Producer) (ls ms : List (Link K S)) → AllGo p ls → ActsSome p q → LeavesOthers n p q → OnlyAt n ls ms → (node : ℕ) (b : Pipe S) → node ≢ n → link_at node ms ≡ Open b → Goes answers node q b
  others_go n p q ls ms all acts leaves only node b other is = goes_on answers node p q b (all node b (sym (only node other) ∙ is)) acts (inl (leaves node other))

  does_goes : (now : ℕ) (action : Action) (p q : Producer) (ls ms : List (Link K S)) → AllGo p ls → Does now action p ls q ms → AllGo q ms
  does_goes now action p q ls ms all d node b is = ⊎_elim
      (λ (same : node ≡ node_of action). absurd (obeys_opens_none now p q action (link_at (node_of action) ls) b
      (subst (Obeys now action p (link_at (node_of action) ls) q) (ap (λ (k : ℕ). link_at k ms) (sym same) ∙ is) d.its)))
      (λ (other : node ≢ node_of action). others_go (node_of action) p q ls ms all (obeys_acts now p q action (link_at (node_of action) ls) (link_at (node_of action) ms) d.its)
      (obeys_leaves now p q action (link_at (node_of action) ls) (link_at (node_of action) ms) d.its) d.others node b other is)
      (cases_eq node (node_of action))

  tells_goes : (now : ℕ) (action : _) (p q : Producer) (ls : List (Link K S)) → AllGo p ls → Tells now action p q → AllGo q ls
  tells_goes now action p q ls all t = calls_go p q ls all (tells_acts now action p q t) (λ k. inl (ap (λ (x : Producer). line_at k x.lines) t.same))

  all_does : (now : ℕ) (p : Producer) (ls : List (Link K S)) (q : Producer) (ms : List (Link K S)) → AllGo p ls → DoesAll now p ls q ms → AllGo q ms
  all_does now p ls q ms all DoesAll.none = all
  all_does now p ls q ms all (DoesAll.one_more action a b c ns os rest tells does) =
      does_goes now action b c ns os (tells_goes now (Some action) a b ns (all_does now p ls a ns all rest) tells) does
  all_does now p ls q ms all (DoesAll.nothing a b ns rest tells) = tells_goes now None a b ns (all_does now p ls a ns all rest) tells

  link_goes : (n now : ℕ) (p q : Producer) (ls ms : List (Link K S)) → AllGo p ls → LinkTurns answers n now p (link_at n ls) q (link_at n ms) → OnlyAt n ls ms → AllGo q ms
  link_goes n now p q ls ms all turn only node b is = ⊎_elim
      (λ (same : node ≡ n). subst (λ (k : ℕ). Goes answers k q b) (sym same)
      (turn_goes n now p q (link_at n ls) b (subst (LinkTurns answers n now p (link_at n ls) q) (ap (λ (k : ℕ). link_at k ms) (sym same) ∙ is) turn) (all n)))
      (λ (other : node ≢ n). others_go n p q ls ms all (link_acts answers n now p q (link_at n ls) (link_at n ms) turn) (turn_leaves answers n now p q (link_at n ls) (link_at n ms) turn) only node b other is)
      (cases_eq node n)

  all_turn : (now : ℕ) (p : Producer) (ls : List (Link K S)) (n : ℕ) (q : Producer) (ms : List (Link K S)) → AllGo p ls → EachTurns answers now p ls n q ms → AllGo q ms
  all_turn now p ls n q ms all EachTurns.none = all
  all_turn now p ls n q ms all (EachTurns.one_more i a b ns os rest turn others) = link_goes i now a b ns os (all_turn now p ls i a ns all rest) turn others

  turns_go : (now : ℕ) (p q : Producer) (ls ms : List (Link K S)) → AllGo p ls → Turns answers now p ls q ms → AllGo q ms
  turns_go now p q ls ms all t =
      all_turn now t.asked t.linked (length t.linked) q ms
      (all_does now t.ticked ls t.asked t.linked (calls_go p t.ticked ls all (ticks_act now p t.ticked t.ticks) (ticks_end now p t.ticked t.ticks)) t.does) t.each

  none_open : (node : ℕ) (b : Pipe S) → link_at {K = K} {S = S} node [] ≡ Open b → ⊥
  none_open node b is = cc

  uses_go : (first p : Producer) (ls : List (Link K S)) → Uses answers first p ls → AllGo p ls
  uses_go first p ls Uses.made = λ node b is. absurd (none_open node b is)
  uses_go first p ls (Uses.turned now a b ns os rest turn) = turns_go now a b ns os (uses_go first a ns rest) turn
  uses_go first p ls (Uses.called a b ns calls rest acts lines) = calls_go a b ns (uses_go first a ns rest) (calls, acts) (λ k. inl (lines k))

  pub has_carried : ((s : S) → answers s [] s) → ((a : S) (xs : List Answer) (b : S) (ys : List Answer) (c : S) → answers a xs b → answers b ys c → answers a (xs ++ ys) c) → (first p : Producer) (ls : List (Link K S)) → Uses answers first p ls
      → (node : ℕ) (b : Pipe S) → link_at node ls ≡ Open b → HasCarried answers node p b
  has_carried nothing in_order first p ls uses node b is =
      let g = uses_go first p ls uses node b is in record {
        first = g.first;
        xs = g.xs;
        taken = g.taken;
        since = g.since;
        carries = since_carries answers nothing in_order node g.first g.xs g.taken p b g.since;
      }
