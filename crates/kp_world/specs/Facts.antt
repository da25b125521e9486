-- What the laws are stated over: a core, and what is known around it.
use Rattle.std.specs.Prelude.{ℕ, List, flat_map}
use Rattle.kp_accum.specs.declared.item.Item.{Item}
use Rattle.kp_log.specs.History.{History}
use Rattle.kp_rules.specs.Records.{HandedBatch, Core, Told}
use Rattle.kp_rules.specs.Requesting.{Packet}
use Rattle.kp_world.specs.World.{World, Happened}

pub record Facts : Type 0 where
  pub core : Core
  pub accepted : List (List Item)  -- by sender, in order
  pub taken : List ℕ  -- by sender, how many of these were taken and appended
  pub handed : List (List HandedBatch)  -- by partition, all batches that were handed over, in order
  pub packets : List Packet  -- all that ever went out
  pub logs : List History  -- by partition
  pub ids : List ℕ  -- all producer ids that were ever drawn
  pub told : List Told  -- all that was told, in order

-- ---- of a world

abbrev pub told_in : List Happened → List Told
told_in past = flat_map (λ h. h.told) past

abbrev pub facts : World → Facts
facts w = record {
  core = w.core;
  accepted = w.accepted;
  taken = w.taken;
  handed = w.handed;
  packets = w.packets;
  logs = w.logs;
  ids = w.ids;
  told = told_in w.past;
}
