-- Calls, and others behind them.
use Rattle.std.proofs.Common.{◌≡◌, ℕ, List, [], ◌∷◌, ◌++◌, refl, sym, ap, ◌∙◌, subst, append_assoc, append-nil}
use Rattle.std.specs.List.{AllByRecursion}
use Rattle.kp_accum.specs.declared.config.Config.{Config}
use Rattle.kp_accum.specs.declared.item.Item.{Item}
use Rattle.kp_rules.specs.declared.names.Names.{Names}
use Rattle.kp_rules.specs.Calls.{Call, Step, Life, Lives, life_of, followed_by}
use Rattle.kp_rules.specs.InOrder.{IsHeld, HasLived}
use Rattle.kp_rules.specs.Opening.{new_core}
use Rattle.kp_rules.specs.Records.{Core, Told}
use Rattle.kp_rules.specs.Requesting.{Packet}

followed_assoc : (x y z : Life) → followed_by (followed_by x y) z ≡ followed_by x (followed_by y z)
followed_assoc x y z =
    ap (λ (items : List Item). let l : Life = record (followed_by (followed_by x y) z) { appended = items } in l) (append_assoc x.appended y.appended z.appended)
    ∙ ap (λ (told : List Told). let l : Life = record (followed_by x (followed_by y z)) { told = told; packets = (x.packets ++ y.packets) ++ z.packets } in l) (append_assoc x.told y.told z.told)
    ∙ ap (λ (packets : List Packet). let l : Life = record (followed_by x (followed_by y z)) { packets = packets } in l) (append_assoc x.packets y.packets z.packets)

pub led_on : (s m t : Core) (calls others : List Call) (life later : Life)
    → Lives s calls life m → Lives m others later t → Lives s (calls ++ others) (followed_by life later) t
unfolding Lives
led_on s m t [] others life later first then =
    subst (λ (u : Core). Lives u others (followed_by life later) t) first.1
    (subst (λ (l : Life). Lives m others (followed_by l later) t) (sym first.0) then)
led_on s m t (x ∷ calls) others life later first then =
    let middle = first.0 in
    let rest = first.1 in (
      middle,
      followed_by rest later,
      first.2,
      led_on middle m t calls others rest later first.3 then,
      ap (λ (l : Life). followed_by l later) first.4 ∙ followed_assoc (life_of s x) rest later,
    )

followed_by_nothing : (life : Life) → followed_by life (record { appended = []; told = []; packets = [] }) ≡ life
followed_by_nothing life =
    ap (λ (items : List Item). let l : Life = record { appended = items; told = life.told ++ []; packets = life.packets ++ [] } in l) (append-nil life.appended)
    ∙ ap (λ (told : List Told). let l : Life = record { appended = life.appended; told = told; packets = life.packets ++ [] } in l) (append-nil life.told)
    ∙ ap (λ (packets : List Packet). let l : Life = record { appended = life.appended; told = life.told; packets = packets } in l) (append-nil life.packets)

pub one_more : (s m t : Core) (calls : List Call) (life : Life) (x : Call) → Lives s calls life m → Step m x t
    → Lives s (calls ++ x ∷ []) (followed_by life (life_of m x)) t
unfolding Lives
one_more s m t calls life x first step =
    led_on s m t calls (x ∷ []) life (life_of m x) first
    (t, record { appended = []; told = []; packets = [] }, step, (refl, refl), sym (followed_by_nothing (life_of m x)))

held_more : (calls : List Call) (x : Call) → AllByRecursion IsHeld calls → IsHeld x → AllByRecursion IsHeld (calls ++ x ∷ [])
held_more [] x held one = (one, tt)
held_more (y ∷ calls) x held one = (held.0, held_more calls x held.1 one)

pub lived_more : (c : Config) (n : Names) (partitions senders id correlation : ℕ) (calls : List Call) (life : Life) (s t : Core) (x : Call)
    → HasLived c n partitions senders id correlation calls life s → IsHeld x → Step s x t
    → HasLived c n partitions senders id correlation (calls ++ x ∷ []) (followed_by life (life_of s x)) t
lived_more c n partitions senders id correlation calls life s t x h held step = record {
  opens = h.opens;
  topic = h.topic;
  client = h.client;
  held = held_more calls x h.held held;
  lives = one_more (new_core c n partitions senders id correlation) s t calls life x h.lives step;
}
