-- What calls on a producer make, one after the other.
use Rattle.std.proofs.Common.{◌≡◌, ℕ, zero, suc, ◌+◌, Bool, cond, List, [], ◌∷◌, ◌++◌, map, Option, Some, None, refl, sym, ap, ◌∙◌, subst, append-nil, append_assoc, arith}
use Rattle.std.specs.Prelude.{Ok, Err, Result, OnOk, OnErr, slice_index, slice_index_or}
use Rattle.std.specs.List.{AllByRecursion, range_with_len}
use Rattle.std.proofs.lemmas.Grind.{flat_map-append}
use Rattle.std.proofs.lemmas.List.Sums.{sum_by-append}
use Rattle.kp_accum.specs.declared.config.Config.{Config}
use Rattle.kp_accum.specs.declared.item.Item.{Item}
use Rattle.kp_cluster.specs.Cluster.{Cluster, leader_of}
use Rattle.kp_embed.specs.Connecting.{Loses}
use Rattle.kp_embed.specs.Ending.{Calls}
use Rattle.kp_embed.specs.Going.{Acts, AreNext, Becomes, Begins, BeginsUnder, Called, Counts, Goes, appended_in, core_by, count_of, if_core, is_of, IsTaken}
use Rattle.kp_embed.specs.Hearing.{leads, told_leader}
use Rattle.kp_embed.specs.Lines.{AtNode, SameLines, line_at}
use Rattle.kp_embed.specs.Producer.{Producer}
use Rattle.kp_embed.specs.declared.line.Line.{Line}
use Rattle.kp_rules.specs.declared.names.Names.{Names}
use Rattle.kp_rules.specs.Calls.{Append, Call, Close, Disconnect, End, Fetch, Flush, Lead, Lives, Reply, Request, Step, Tick, appended_by, followed_by, life_of}
use Rattle.kp_rules.specs.Records.{Core}
use Rattle.kp_rules.proofs.LeadingOnLemmas.{led_on, one_more}

abbrev pub made : Bool → Bool → Config → Names → Option Core → List ℕ → List (Option Line) → Cluster → Producer
made is_failed is_closed config names core counts lines cluster = record { is_failed = is_failed; is_closed = is_closed; config = config; names = names; core = core; counts = counts; lines = lines; cluster = cluster }

-- ---- a core

pub becomes_none : (s : Core) → Becomes s [] s
unfolding Lives
becomes_none s = (record { appended = []; told = []; packets = [] }, (refl, refl))

pub becomes_more : (s t u : Core) (calls : List Call) (c : Call) → Becomes s calls t → Step t c u → Becomes s (calls ++ c ∷ []) u
becomes_more s t u calls c h step = (followed_by h.0 (life_of t c), one_more s t u calls h.0 c h.1 step)

pub becomes_one : (s t : Core) (c : Call) → Step s c t → Becomes s (c ∷ []) t
becomes_one s t c step = becomes_more s s t [] c (becomes_none s) step

pub becomes_then : (s t u : Core) (calls more : List Call) → Becomes s calls t → Becomes t more u → Becomes s (calls ++ more) u
becomes_then s t u calls more h k = (followed_by h.0 k.0, led_on s t u calls more h.0 k.0 h.1 k.1)

pub goes_none : (config : Config) (names : Names) (s : Option Core) → Goes config names s [] s
goes_none config names None = refl
goes_none config names (Some s) = becomes_none s

pub goes_then : (config : Config) (names : Names) (s t u : Option Core) (calls more : List Call) → Goes config names s calls t → Goes config names t more u → Goes config names s (calls ++ more) u
goes_then config names None None None calls more h k = ap (λ (cs : List Call). cs ++ more) h ∙ k
goes_then config names None None (Some u) calls more h k = subst (λ (cs : List Call). Begins config names (cs ++ more) u) (sym h) k
goes_then config names None (Some t) None calls more h k = absurd k
goes_then config names None (Some t) (Some u) calls more h k = record {
  partitions = h.partitions;
  id = h.id;
  may_open = h.may_open;
  becomes = becomes_then _ t u calls more h.becomes k;
}
goes_then config names (Some s) None u calls more h k = absurd h
goes_then config names (Some s) (Some t) None calls more h k = absurd k
goes_then config names (Some s) (Some t) (Some u) calls more h k = becomes_then s t u calls more h k

-- ---- what was accepted

-- 1 where the item is for the partition
abbrev hit : ℕ → Item → ℕ
hit p i = cond (is_of p i) 1 0

pub count_join : (p : ℕ) (xs ys : List Item) → count_of p (xs ++ ys) ≡ count_of p xs + count_of p ys
count_join p xs ys = sum_by-append (hit p) xs ys

pub next_join : (counts : List ℕ) (earlier xs ys : List Item) → AreNext counts earlier xs → AreNext counts (earlier ++ xs) ys → AreNext counts earlier (xs ++ ys)
next_join counts earlier [] ys h k = subst (λ (zs : List Item). AreNext counts zs ys) (append-nil earlier) k
next_join counts earlier (x ∷ xs) ys h k =
    (h.0, h.1, next_join counts (earlier ++ x ∷ []) xs ys h.2 (subst (λ (zs : List Item). AreNext counts zs ys) (sym (append_assoc earlier (x ∷ []) xs)) k))

-- what is next behind those that were accepted is next behind them where they were not yet
pub next_behind : (old new : List ℕ) (xs earlier ys : List Item) → Counts old xs new → AreNext new earlier ys → AreNext old (xs ++ earlier) ys
next_behind old new xs earlier [] c h = tt
next_behind old new xs earlier (y ∷ ys) c h =
    let joined = count_join y.partition xs earlier in
    let more = c y.partition in
    let number : y.number ≡ slice_index old y.partition + count_of y.partition (xs ++ earlier) = omega (arith, h.1, joined, more) in
    (h.0, number, subst (λ (zs : List Item). AreNext old zs ys) (sym (append_assoc xs earlier (y ∷ []))) (next_behind old new xs (earlier ++ y ∷ []) ys c h.2))

-- ---- a producer

all_taken : (calls more : List Call) → AllByRecursion IsTaken calls → AllByRecursion IsTaken more → AllByRecursion IsTaken (calls ++ more)
all_taken [] more h k = k
all_taken (c ∷ calls) more h k = (h.0, all_taken calls more h.1 k)

-- a call that appends nothing
abbrev pub IsQuiet : Call → Type 0
IsQuiet (Append i answer) = ⊥
IsQuiet call = Unit {0}

quiet_none : (c : Call) → IsQuiet c → appended_by c ≡ []
quiet_none (Append i answer) q = absurd q
quiet_none (Request node now answer) q = refl
quiet_none (Reply now content answer) q = refl
quiet_none (Tick node now answer) q = refl
quiet_none (Disconnect node now) q = refl
quiet_none (Lead partition leader now) q = refl
quiet_none Close q = refl
quiet_none Flush q = refl
quiet_none (End reports) q = refl
quiet_none (Fetch sender answer) q = refl

quiet_taken : (c : Call) → IsQuiet c → IsTaken c
quiet_taken (Append i answer) q = absurd q
quiet_taken (Request node now answer) q = tt
quiet_taken (Reply now content answer) q = tt
quiet_taken (Tick node now answer) q = tt
quiet_taken (Disconnect node now) q = tt
quiet_taken (Lead partition leader now) q = tt
quiet_taken Close q = tt
quiet_taken Flush q = tt
quiet_taken (End reports) q = tt
quiet_taken (Fetch sender answer) q = tt

pub acts_then : (a b c : Producer) (calls more : List Call) → Acts a calls b → Acts b more c → Acts a (calls ++ more) c
acts_then a b c calls more h k =
    let joined : appended_in (calls ++ more) ≡ appended_in calls ++ appended_in more = flat_map-append appended_by calls more in
    record {
      config = k.config ∙ h.config;
      names = k.names ∙ h.names;
      core = goes_then a.config a.names a.core b.core c.core calls more h.core
          (subst (λ (n : Names). Goes a.config n b.core more c.core) h.names (subst (λ (g : Config). Goes g b.names b.core more c.core) h.config k.core));
      taken = all_taken calls more h.taken k.taken;
      next = subst (AreNext a.counts []) (sym joined)
          (next_join a.counts [] (appended_in calls) (appended_in more) h.next
          (subst (λ (zs : List Item). AreNext a.counts zs (appended_in more)) (append-nil (appended_in calls)) (next_behind a.counts b.counts (appended_in calls) [] (appended_in more) h.counts k.next)));
      counts = λ p.
          let both = count_join p (appended_in calls) (appended_in more) in
          let one = h.counts p in
          let two = k.counts p in
          let all : count_of p (appended_in (calls ++ more)) ≡ count_of p (appended_in calls ++ appended_in more) = ap (count_of p) joined in
          omega (arith, both, one, two, all);
    }

-- calls that append nothing
pub acts_quietly : (a b : Producer) (calls : List Call) → b.config ≡ a.config → b.names ≡ a.names → Goes a.config a.names a.core calls b.core → appended_in calls ≡ []
    → AllByRecursion IsTaken calls → ((p : ℕ) → slice_index b.counts p ≡ slice_index a.counts p) → Acts a calls b
acts_quietly a b calls config names core none taken counts = record {
  config = config;
  names = names;
  core = core;
  taken = taken;
  next = subst (AreNext a.counts []) (sym none) tt;
  counts = λ p.
      let no : count_of p (appended_in calls) ≡ 0 = ap (count_of p) none in
      let same = counts p in
      omega (arith, no, same);
}

pub same_counts : (old new : List ℕ) → new ≡ old → (p : ℕ) → slice_index new p ≡ slice_index old p
same_counts old new e p = ap (λ (xs : List ℕ). slice_index xs p) e

-- no call at all
pub acts_idly : (a b : Producer) → b.config ≡ a.config → b.names ≡ a.names → b.core ≡ a.core → b.counts ≡ a.counts → Acts a [] b
acts_idly a b config names core counts =
    acts_quietly a b [] config names (subst (λ (s : Option Core). Goes a.config a.names a.core [] s) (sym core) (goes_none a.config a.names a.core)) refl tt (same_counts a.counts b.counts counts)

pub same_lines : (old new : List (Option Line)) → new ≡ old → SameLines old new
same_lines old new e k = ap (λ ls. line_at k ls) e

-- ---- one call on the core

pub called_goes : (config : Config) (names : Names) (s t : Option Core) (c : Call) → Called s c t → Goes config names s (if_core s (c ∷ [])) t
called_goes config names None t c h = subst (λ (x : Option Core). Goes config names None [] x) (sym h) refl
called_goes config names (Some s) t c h = subst (λ (x : Option Core). Goes config names (Some s) (c ∷ []) x) (sym h.1) (becomes_one s h.0 c h.2)

none_if : (s : Option Core) (c : Call) → IsQuiet c → appended_in (if_core s (c ∷ [])) ≡ []
none_if None c q = refl
none_if (Some s) c q = ap (λ (xs : List Item). xs ++ []) (quiet_none c q)

taken_if : (s : Option Core) (c : Call) → IsQuiet c → AllByRecursion IsTaken (if_core s (c ∷ []))
taken_if None c q = tt
taken_if (Some s) c q = (quiet_taken c q, tt)

pub acts_called : (a b : Producer) (c : Call) → b.config ≡ a.config → b.names ≡ a.names → Called a.core c b.core → b.counts ≡ a.counts → IsQuiet c
    → Acts a (if_core a.core (c ∷ [])) b
acts_called a b c config names called counts q =
    acts_quietly a b (if_core a.core (c ∷ [])) config names (called_goes a.config a.names a.core b.core c called) (none_if a.core c q) (taken_if a.core c q) (same_counts a.counts b.counts counts)

pub calls_made : (a b : Producer) (c : Call) → b.config ≡ a.config → b.names ≡ a.names → Called a.core c b.core → b.counts ≡ a.counts → b.lines ≡ a.lines → IsQuiet c
    → Calls c a b
calls_made a b c config names called counts lines none = record {
  acts = acts_called a b c config names called counts none;
  lines = same_lines a.lines b.lines lines;
}

pub loses_made : (a b : Producer) (node now : ℕ) → b.config ≡ a.config → b.names ≡ a.names → Called a.core (Disconnect node now) b.core → b.counts ≡ a.counts
    → AtNode node None a.lines b.lines → Loses node now a b
loses_made a b node now config names called counts lines = record {
  acts = acts_called a b (Disconnect node now) config names called counts tt;
  lines = lines;
}

-- one call on a core that is there
pub acts_one : (a b : Producer) (s t : Core) (c : Call) → b.config ≡ a.config → b.names ≡ a.names → a.core ≡ Some s → Step s c t → b.core ≡ Some t → b.counts ≡ a.counts → IsQuiet c
    → Acts a (c ∷ []) b
acts_one a b s t c config names old step new counts none =
    acts_quietly a b (c ∷ []) config names
    (subst (λ (x : Option Core). Goes a.config a.names x (c ∷ []) b.core) (sym old)
    (subst (λ (x : Option Core). Goes a.config a.names (Some s) (c ∷ []) x) (sym new) (becomes_one s t c step)))
    (ap (λ (xs : List Item). xs ++ []) (quiet_none c none)) (quiet_taken c none, tt) (same_counts a.counts b.counts counts)

-- calls on a core that is there
pub acts_becoming : (a b : Producer) (s t : Core) (calls : List Call) → b.config ≡ a.config → b.names ≡ a.names → a.core ≡ Some s → Becomes s calls t → b.core ≡ Some t → b.counts ≡ a.counts
    → appended_in calls ≡ [] → AllByRecursion IsTaken calls → Acts a calls b
acts_becoming a b s t calls config names old becomes new counts none taken =
    acts_quietly a b calls config names
    (subst (λ (x : Option Core). Goes a.config a.names x calls b.core) (sym old) (subst (λ (x : Option Core). Goes a.config a.names (Some s) calls x) (sym new) becomes))
    none taken (same_counts a.counts b.counts counts)

-- no leader that is told is a record
no_records : (f : ℕ → Call) → ((p : ℕ) → appended_by (f p) ≡ []) → (n k : ℕ) → appended_in (map f (range_with_len k n)) ≡ []
no_records f none zero k = refl
no_records f none (suc n) k = ap (λ (xs : List Item). xs ++ appended_in (map f (range_with_len (k + 1) n))) (none k) ∙ no_records f none n (k + 1)

pub leads_append_nothing : (now : ℕ) (cluster : Cluster) (n : ℕ) → appended_in (leads now cluster n) ≡ []
leads_append_nothing now cluster n = no_records (λ p. Lead p (told_leader (leader_of p cluster)) now) (λ p. refl) n 0

taken_leads : (f : ℕ → Call) → ((p : ℕ) → IsTaken (f p)) → (n k : ℕ) → AllByRecursion IsTaken (map f (range_with_len k n))
taken_leads f all zero k = tt
taken_leads f all (suc n) k = (all k, taken_leads f all n (k + 1))

pub leads_are_taken : (now : ℕ) (cluster : Cluster) (n : ℕ) → AllByRecursion IsTaken (leads now cluster n)
leads_are_taken now cluster n = taken_leads (λ p. Lead p (told_leader (leader_of p cluster)) now) (λ p. tt) n 0

-- who leads is told by the leaders alone
pub leads_alike : (now : ℕ) (a b : Cluster) (n : ℕ) → b.leaders ≡ a.leaders → leads now a n ≡ leads now b n
leads_alike now a b n same = ap (λ (leaders : List (Option ℕ)). map (λ p. Lead p (told_leader (slice_index_or leaders p None)) now) (range_with_len 0 n)) (sym same)

-- where there is no core then, there was none
pub still_none : (s t : Option Core) (c : Call) (counts : List ℕ) → Called s c t → (s ≡ None → counts ≡ []) → t ≡ None → counts ≡ []
still_none None t c counts h old none = old refl
still_none (Some s) t c counts h old none = absurd (some_not h.0 (sym h.1 ∙ none))
  where
    some_not : (u : Core) → Some u ≡ None → ⊥
    some_not u e = cc

pub acts_same : (a : Producer) → Acts a [] a
acts_same a = acts_idly a a refl refl refl refl

-- ---- where a call went well

pub on_ok : {A E : Type 0} {P Q : Type 0} (r : Result A E) → OnOk r P → (P → Q) → OnOk r Q
on_ok (Ok x) p f = f p
on_ok (Err e) p f = tt

pub both_ok : {A E : Type 0} {P Q R : Type 0} (r : Result A E) → OnOk r P → OnOk r Q → (P → Q → R) → OnOk r R
both_ok (Ok x) p q f = f p q
both_ok (Err e) p q f = tt

pub on_err : {A E : Type 0} {P Q : Type 0} (r : Result A E) → OnErr r P → (P → Q) → OnErr r Q
on_err (Ok x) p f = tt
on_err (Err e) p f = f p

-- ---- a core that was opened under an id

going_on : (config g : Config) (names h : Names) (s : Core) (b : Option Core) (n id : ℕ) (calls : List Call) → Becomes (core_by config names n id) [] s → Goes g h (Some s) calls b
    → BeginsUnder config names n id calls b
going_on config g names h s None n id calls first goes = absurd goes
going_on config g names h s (Some t) n id calls first goes = record { core = t; is = refl; becomes = becomes_then (core_by config names n id) s t [] calls first goes }

pub begins_then : (config g : Config) (names h : Names) (m b : Option Core) (n id : ℕ) (calls : List Call) → BeginsUnder config names n id [] m → Goes g h m calls b
    → BeginsUnder config names n id calls b
begins_then config g names h m b n id calls u goes =
    going_on config g names h u.core b n id calls u.becomes (subst (λ (x : Option Core). Goes g h x calls b) u.is goes)
