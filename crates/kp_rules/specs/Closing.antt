-- Closing, after which what waits is sent without lingering; and the end, which gives up all that
-- is left.
use Rattle.std.specs.Prelude.{ℕ, true, [], if◌then◌else◌}
use Rattle.kp_rules.specs.declared.outcome.Reason.TheVariants.{Ended}
use Rattle.kp_rules.specs.Records.{Core, Called, quietly}
use Rattle.kp_rules.specs.Telling.{at_each}
use Rattle.kp_rules.specs.Fence.{give_up}

-- After the end a close changes nothing.
unfoldable pub close_step : Core → Core
close_step s = if s.ended then s else record s { closing = true }

-- Each partition's items are told, upwards, and nothing is in flight; the answer is how many were
-- told.
abbrev pub end_all : Core → Called ℕ
end_all s =
    let given_up = at_each (give_up Ended) s in
    record given_up { after = record given_up.after { requests = []; ended = true } }

-- A second end changes nothing.
unfoldable pub end_step : Core → Called ℕ
end_step s = if s.ended then quietly s 0 else end_all s
