-- The laws of every run on what was accepted.
use Rattle.std.proofs.Common.{ℕ, ◌<◌, List, length, sym, subst}
use Rattle.kp_world.specs.Facts.{facts}
use Rattle.kp_world.specs.Events.{WorldEvent}
use Rattle.kp_world.specs.Accepting.{accepted_by, for_partition}
use Rattle.kp_world.specs.Accounts.{AreAccountedFor, AreInOrder, ArePlaced, IsNeverSent, IsToldOnce, IsUsedByUntold}
use Rattle.kp_world.specs.Run.{IsReached}
use Rattle.kp_world.specs.World.{World, Opening}
use Rattle.kp_world.proofs.AccountLemmas.{IsAccounted}
use Rattle.kp_world.proofs.AccountRunLemmas.{order_reached}
use Rattle.kp_world.proofs.AccountedLemmas.{accounted_for, in_order, handed_is_sent, numbers_are}
use Rattle.kp_world.proofs.ToldLemmas.{told_once, used_by_untold}

reached : (o : Opening) (es : List WorldEvent) (w : World) → IsReached o es w → IsAccounted w
reached o es w r = (order_reached o es w r).1

within : (o : Opening) (es : List WorldEvent) (w : World) (p : ℕ) → IsReached o es w → p < o.partitions → p < length w.core.partitions
within o es w p r l = subst (λ (n : ℕ). p < n) (sym (order_reached o es w r).0.count) l

pub accounted : (o : Opening) (es : List WorldEvent) (w : World) (s p : ℕ) → IsReached o es w → p < o.partitions → AreAccountedFor s p (facts w)
accounted o es w s p r l = accounted_for s p w (reached o es w r) (within o es w p r l)

pub placed : (o : Opening) (es : List WorldEvent) (w : World) (s p : ℕ) → IsReached o es w → ArePlaced s p (facts w)
placed o es w s p r =
    let a = (reached o es w r).senders s in
    record { senders = a.own; numbers = numbers_are 0 (for_partition p (accepted_by s w)) (a.numbered p) }

pub never_sent : (o : Opening) (es : List WorldEvent) (w : World) (p : ℕ) → IsReached o es w → p < o.partitions → IsNeverSent p (facts w)
never_sent o es w p r l = handed_is_sent p w (reached o es w r) (within o es w p r l)

pub once : (o : Opening) (es : List WorldEvent) (w : World) → IsReached o es w → IsToldOnce (facts w)
once o es w r = told_once w (reached o es w r)

pub memory : (o : Opening) (es : List WorldEvent) (w : World) → IsReached o es w → IsUsedByUntold (facts w)
memory o es w r = used_by_untold w (reached o es w r)

pub ordered : (o : Opening) (es : List WorldEvent) (w : World) (s p : ℕ) → IsReached o es w → p < o.partitions → AreInOrder s p (facts w)
ordered o es w s p r l = in_order s p w (reached o es w r) (within o es w p r l)
