-- How long an engine that moves nothing waits.
use Rattle.std.specs.Prelude.{ℕ, ◌-◌, min, nat_lt, Option, Some, None, if◌then◌else◌}

-- so long at most, and no longer than until something is due
abbrev pub wait_within : ℕ → Option ℕ → ℕ
wait_within longest None = longest
wait_within longest (Some due) = min longest due

-- how long after now something is due; a moment that is not after now is no reason to wake again
abbrev pub due_after : ℕ → Option ℕ → Option ℕ
due_after now None = None
due_after now (Some due) = if nat_lt now due then Some (due - now) else None
