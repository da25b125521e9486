-- What the calls on a producer make of its core, and of the records that it has accepted.
use Rattle.std.specs.Prelude.{◌≡◌, ℕ, ◌+◌, Bool, false, List, [], ◌∷◌, ◌++◌, ◌==◌, count_by, Option, Some, None, Ok, Err, flat_map, slice_index}
use Rattle.std.specs.List.{AllByRecursion}
use Rattle.kp_accum.specs.declared.config.Config.{Config}
use Rattle.kp_accum.specs.declared.item.Item.{Item}
use Rattle.kp_embed.specs.Lines.{SameLines}
use Rattle.kp_embed.specs.Producer.{Producer}
use Rattle.kp_rules.specs.declared.names.Names.{Names}
use Rattle.kp_rules.specs.Auditing.{opened}
use Rattle.kp_rules.specs.Calls.{Append, Call, Life, Lives, Step, appended_by}
use Rattle.kp_rules.specs.Opening.{MayOpen, new_core}
use Rattle.kp_rules.specs.Records.{Core}

-- ---- the core

-- a core of one sender, by what brokers have said: how many partitions there are, and the producer's id
abbrev pub core_by : Config → Names → (partitions id : ℕ) → Core
core_by config names partitions id = opened false (new_core config names partitions 1 id 2)

-- By these calls, one after the other, the one core becomes the other.
abbrev pub Becomes : Core → List Call → Core → Type 0
Becomes s calls t = (life : Life) × Lives s calls life t

-- A core was opened, and then called.
pub record Begins (config : Config) (names : Names) (calls : List Call) (t : Core) : Type 0 where
  pub partitions : ℕ
  pub id : ℕ
  pub may_open : MayOpen config names partitions 1 id 2
  pub becomes : Becomes (core_by config names partitions id) calls t

-- it was opened of so many partitions and under this id
pub record BeginsUnder (config : Config) (names : Names) (partitions id : ℕ) (calls : List Call) (opened : Option Core) : Type 0 where
  pub core : Core
  pub is : opened ≡ Some core
  pub becomes : Becomes (core_by config names partitions id) calls core

-- The core was called, where there is one; where there is none yet, it may be opened first.
abbrev pub Goes : Config → Names → Option Core → List Call → Option Core → Type 0
Goes config names None calls None = calls ≡ []
Goes config names None calls (Some t) = Begins config names calls t
Goes config names (Some s) calls None = ⊥
Goes config names (Some s) calls (Some t) = Becomes s calls t

-- these calls, where there is a core
abbrev pub if_core : Option Core → List Call → List Call
if_core None calls = []
if_core (Some s) calls = calls

-- one call, where there is a core
abbrev pub Called : Option Core → Call → Option Core → Type 0
Called None call t = t ≡ None
Called (Some s) call t = (u : Core) × (t ≡ Some u) × Step s call u

-- ---- what was accepted

abbrev pub appended_in : List Call → List Item
appended_in calls = flat_map appended_by calls

abbrev pub is_of : ℕ → Item → Bool
is_of p i = i.partition == p

-- how many of the items are for the partition
abbrev pub count_of : ℕ → List Item → ℕ
count_of p items = count_by (is_of p) items

-- Each is the next of its partition, where so many were accepted before, and these earlier ones behind them.
abbrev pub AreNext : List ℕ → List Item → List Item → Type 0
AreNext counts earlier [] = Unit {0}
AreNext counts earlier (i ∷ items) =
    (i.sender ≡ 0) × (i.number ≡ slice_index counts i.partition + count_of i.partition earlier) × AreNext counts (earlier ++ i ∷ []) items

-- By partition, so many more were accepted.
abbrev pub Counts : List ℕ → List Item → List ℕ → Type 0
Counts old items new = (p : ℕ) → slice_index new p ≡ slice_index old p + count_of p items

-- An append that is among the calls was taken: what is refused is no call on the core.
abbrev pub IsTaken : Call → Type 0
IsTaken (Append i (Ok done)) = Unit {0}
IsTaken (Append i (Err refusal)) = ⊥
IsTaken call = Unit {0}

-- ---- a call on a producer

-- The producer goes from one state to another by these calls on its core.
pub record Acts (old : Producer) (calls : List Call) (new : Producer) : Type 0 where
  pub config : new.config ≡ old.config
  pub names : new.names ≡ old.names
  pub core : Goes old.config old.names old.core calls new.core
  pub taken : AllByRecursion IsTaken calls
  pub next : AreNext old.counts [] (appended_in calls)
  pub counts : Counts old.counts (appended_in calls) new.counts

-- Nothing was called on the core, nothing was accepted, and connections are as they were.
pub record Stays (old new : Producer) : Type 0 where
  pub acts : Acts old [] new
  pub lines : SameLines old.lines new.lines
