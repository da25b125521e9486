-- What a core is seen as, and what is true of it beside.
use Rattle.std.specs.Prelude.{◌≡◌, length}
use Rattle.kp_core.specs.declared.machine.Core.TheInside.{Inside}
use Rattle.kp_parts.specs.Desk.{Desk, HavePlaces, all_reports}
use Rattle.kp_rules.specs.declared.outcome.Outcome.TheVariants.{Unknown}
use Rattle.kp_rules.specs.InOrder.{IsInOrder}
use Rattle.kp_rules.specs.Partitions.{all_untold, used}
use Rattle.kp_rules.specs.Records.{Core}
use Rattle.kp_rules.specs.Telling.{told_all}

abbrev pub seen_of : Inside → Core
seen_of c = record {
  config = c.config;
  names = c.names;
  partitions = c.partitions;
  requests = c.requests.items;
  id_waits = c.id_waits;
  correlation = c.correlation;
  turns = c.turns.items;
  exhausted = c.exhausted;
  closing = c.closing;
  ended = c.ended;
  reports = all_reports c.desk;
}

-- The core is in order; its desk keeps a place for the report of each item that is not told, and
-- counts them and their charges.
pub record IsKept (s : Core) (desk : Desk) : Type 0 where
  pub order : IsInOrder s
  pub places : HavePlaces desk.lines (told_all Unknown (all_untold s))
  pub untold : desk.untold ≡ length (all_untold s)
  pub used : desk.used ≡ used s
  pub limit : desk.limit ≡ s.config.buffer_memory
