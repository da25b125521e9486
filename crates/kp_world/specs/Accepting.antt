-- Accepting a record, and taking it: the oldest accepted item that was not taken is appended.
use Rattle.std.specs.Prelude.{Result, Ok, Err, ℕ, ◌+◌, Bool, List, [], ◌∷◌, ◌++◌, length, filter, Option, Some, None, slice_set, slice_index, slice_index_or, nat_lt, ◌==◌, ◌||◌, if◌then◌else◌}
use Rattle.kp_batch.specs.declared.record.Record.{Record}
use Rattle.kp_accum.specs.declared.fault.AppendFault.{AppendFault}
use Rattle.kp_accum.specs.declared.item.Item.{Item}
use Rattle.kp_accum.specs.Queue.{charge_of}
use Rattle.kp_rules.specs.Appending.{append_step}
use Rattle.kp_rules.specs.Records.{Core, Told}
use Rattle.kp_world.specs.Line.{Closed, Large, Empty, Full}
use Rattle.kp_world.specs.Noting.{noted, only_noted}
use Rattle.kp_world.specs.World.{World}

-- ---- accept

abbrev pub accepted_by : ℕ → World → List Item
accepted_by s w = slice_index_or w.accepted s []

abbrev pub for_partition : ℕ → List Item → List Item
for_partition p items = filter (λ i. i.partition == p) items

-- an item's number is how many of its sender's and partition's were accepted before it
abbrev pub item_for : ℕ → ℕ → ℕ → Record → World → Item
item_for s p at body w = record {
  sender = s;
  partition = p;
  number = length (for_partition p (accepted_by s w));
  at = at;
  body = body;
}

abbrev pub is_large : Item → World → Bool
is_large i w =
    nat_lt w.core.config.max_request_size (charge_of i)
    || nat_lt w.core.config.buffer_memory (charge_of i)

abbrev pub with_accepted : Item → World → World
with_accepted i w =
    record w { accepted = slice_set w.accepted i.sender (accepted_by i.sender w ++ i ∷ []) }

abbrev pub accepting : Item → World → World
accepting i w =
    if w.is_shut then only_noted (Closed i.sender i.partition ∷ []) w
    else if is_large i w then only_noted (Large i.sender i.partition ∷ []) w
    else only_noted [] (with_accepted i w)

-- ---- take

abbrev pub taken_by : ℕ → World → ℕ
taken_by s w = slice_index w.taken s

abbrev pub with_taken : ℕ → World → World
with_taken s w = record w { taken = slice_set w.taken s (taken_by s w + 1) }

-- An item that is refused for want of memory is still to be taken.
abbrev pub taking_of : ℕ → Core → List Told → Result (Unit {0}) AppendFault → World → World
taking_of s core told (Ok done) w = noted core [] told (with_taken s w)
taking_of s core told (Err refusal) w = noted core (Full s ∷ []) told w

abbrev pub taking : ℕ → Option Item → World → World
taking s None w = only_noted (Empty s ∷ []) w
taking s (Some i) w = let step = append_step i w.core in taking_of s step.after step.told step.answer w
