-- An audit may be kept or not: no rule reads it.
use Rattle.std.specs.Prelude.{Bool, map, None, if◌then◌else◌}
use Rattle.kp_rules.specs.Records.{Partition, Core, Effect, Called}

-- the partition, where no audit is kept
abbrev pub unaudited : Partition → Partition
unaudited t = record t { audit = None }

-- the core, where none is kept
unfoldable pub without_audits : Core → Core
without_audits s = record s { partitions = map unaudited s.partitions }

-- a new core, which keeps audits where that is asked for
abbrev pub opened : (audits : Bool) → Core → Core
opened audits s = if audits then s else without_audits s

-- ---- the same rule, and the same step, where no audit is kept: they tell and answer the same

abbrev pub effect_unaudited : Effect → Effect
effect_unaudited made = record made { after = unaudited made.after }

abbrev pub called_unaudited : {A : Type 0} → Called A → Called A
called_unaudited called = record called { after = without_audits called.after }
