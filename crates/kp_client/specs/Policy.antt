-- How many new connections there may be, and the waits between them.
use Rattle.std.specs.Prelude.{ℕ, ◌*◌, ◌<◌, ◌==◌, max, min, Option, Some, None, if◌then◌else◌}
use Rattle.kp_settings.specs.declared.policy.Policy.{Policy}
use Rattle.kp_settings.specs.declared.policy.Policy.TheVariants.{InAll, InARow, Unlimited}
use Rattle.kp_client.specs.declared.again.Again.{Again}

-- how many there may be, where there is a limit
abbrev pub limit_of : Policy → Option ℕ
limit_of (InAll n) = Some n
limit_of (InARow n) = Some n
limit_of Unlimited = None

-- where so many were made, there may be one more
abbrev pub MayMake : Option ℕ → ℕ → Type 0
MayMake None made = Unit {0}
MayMake (Some limit) made = made < limit

-- the longest wait, in milliseconds: a second, unless retry.backoff.ms is longer
abbrev pub longest_wait : ℕ → ℕ
longest_wait retry_backoff = max retry_backoff 1000

-- none was made yet
abbrev pub none_made : (policy : Policy) (retry_backoff : ℕ) → Again
none_made policy retry_backoff = record { policy = policy; made = 0; wait = 0; longest = longest_wait retry_backoff }

-- how many count as made once a reply came
abbrev pub made_after_reply : Policy → ℕ → ℕ
made_after_reply (InAll n) made = made
made_after_reply (InARow n) made = 0
made_after_reply Unlimited made = made

-- the wait before the one behind the next, in milliseconds: ten, and then twice as long each time, up to the longest
abbrev pub wait_after : (longest wait : ℕ) → ℕ
wait_after longest wait = if wait == 0 then 10 else min (2 * wait) longest
