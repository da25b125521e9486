-- What is printed of bytes that were read: a reader that tells its bytes has had those.
use Rattle.std.proofs.Common.{◌≡◌, ℕ, List, Option, None, Some, subst}
use Rattle.std.specs.Prelude.{IfSome}
use Rattle.std.specs.Io.KnownBytes.{Appends}
use Rattle.kprod_replay.specs.Replays.{IsReplayOf, PrintsReplay}

pub prints_replay : (held : Option (List ℕ)) (read text : List ℕ) (out out' : Option (List ℕ)) → IfSome held (λ bytes. read ≡ bytes) → IsReplayOf read text → Appends out out' text → IfSome held (λ bytes. PrintsReplay bytes out out')
prints_replay None read text out out' same is printed = tt
prints_replay (Some bytes) read text out out' same is printed =
    record { text = text; is_its = subst (λ (b : List ℕ). IsReplayOf b text) same is; printed = printed }
