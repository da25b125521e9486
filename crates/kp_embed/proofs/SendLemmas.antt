-- What a record that is appended makes of a producer.
use Rattle.std.proofs.Common.{◌≡◌, ◌⊎◌, inl, inr, ℕ, ◌+◌, ◌^◌, ◌<◌, ◌≤◌, Bool, true, false, not, cond, List, [], ◌∷◌, length, Option, Some, refl, sym, ap, ◌∙◌, subst, arith}
use Rattle.std.specs.Prelude.{Ok, Err, slice_index, slice_set, nat_le, if◌then◌else◌}
use Rattle.std.proofs.lemmas.Bool.{cases_eq, eq-eqb, ne_eqb}
use Rattle.std.proofs.lemmas.Bool.Decides.{nat_tests}
use Rattle.std.proofs.lemmas.Grind.{get_or-set_at}
use Rattle.std.proofs.lemmas.List.{get_or-set_other}
use Rattle.kp_accum.specs.declared.fault.AppendFault.TheVariants.{BufferFull}
use Rattle.kp_accum.specs.declared.item.Item.{Item}
use Rattle.kp_accum.specs.Queue.{charge_of}
use Rattle.kp_batch.specs.Spelling.{measured}
use Rattle.kp_embed.specs.Going.{Goes, count_of}
use Rattle.kp_embed.specs.Producer.{Producer}
use Rattle.kp_embed.specs.Sending.{Sends, item_of}
use Rattle.kp_embed.specs.declared.target.Ticket.{Ticket}
use Rattle.kp_batch.specs.declared.record.Record.{Record}
use Rattle.kp_embed.proofs.ActLemmas.{becomes_one, same_lines}
use Rattle.kp_rules.specs.Appending.{Appends, append_step, may_append, turn_away, with_queued, would_exhaust}
use Rattle.kp_rules.specs.Calls.{Append, Step}
use Rattle.kp_rules.specs.Partitions.{partition_at, used}
use Rattle.kp_rules.specs.Records.{Core, quietly}
use Rattle.kp_rules.specs.Requesting.{is_spent}
use Rattle.kp_rules.specs.declared.outcome.Reason.TheVariants as reason

-- ---- the memory

-- what may be appended is held by all the memory
charge_within : (i : Item) (s : Core) → may_append i s ≡ true → charge_of i ≤ s.config.buffer_memory
unfolding may_append
charge_within i s may = grind (arith, nat_tests)

-- a charge that was measured, with what is used, is held
pub has_room_for : (i : Item) (s : Core) (charge : ℕ) → may_append i s ≡ true → charge ≡ measured (charge_of i) → used s + charge < 2 ^ 64
    → used s + charge ≤ s.config.buffer_memory → would_exhaust i s ≡ false
unfolding would_exhaust measured
has_room_for i s charge may is fits le = grind (arith, nat_tests, charge_within i s may)

-- more than there may be
pub above_limit : (limit n : ℕ) → limit < n → false ≡ nat_le n limit
above_limit limit n above = grind (arith, nat_tests)

-- a charge that was measured, for which there is no room
pub full_told : (i : Item) (s : Core) (charge : ℕ) → charge ≡ measured (charge_of i) → charge_of i ≤ 2147483647
    → nat_le (used s + charge) s.config.buffer_memory ≡ false → would_exhaust i s ≡ true
unfolding would_exhaust measured
full_told i s charge is few e = grind (arith, nat_tests)

-- ---- the step

abbrev by_room : Item → Core → Bool → Appends
by_room i s b = if b then quietly (record s { exhausted = true }) (Err BufferFull) else quietly (with_queued i s) (Ok tt)

abbrev by_fence : Item → Core → Bool → Appends
by_fence i s b = if b then turn_away reason.Fenced i s else by_room i s (would_exhaust i s)

abbrev by_end : Item → Core → Bool → Appends
by_end i s b = if b then turn_away reason.Ended i s else by_fence i s (partition_at i.partition s.partitions).fenced

may_go : (i : Item) (s : Core) → may_append i s ≡ true → append_step i s ≡ by_end i s s.ended
unfolding append_step
may_go i s may = ap (λ (b : Bool). if not b then quietly s (Err BufferFull) else by_end i s s.ended) may

-- What may be appended to a core that goes on, and has room, is taken or told of at once.
pub never_full : (i : Item) (s : Core) → may_append i s ≡ true → s.ended ≡ false → would_exhaust i s ≡ false → (append_step i s).answer ≡ Err BufferFull → ⊥
never_full i s may going room e = at (partition_at i.partition s.partitions).fenced (sym (ap (λ (a : Appends). a.answer) (may_go i s may ∙ ap (by_end i s) going)) ∙ e)
  where
    at_room : (b : Bool) → b ≡ false → (by_room i s b).answer ≡ Err BufferFull → ⊥
    at_room true is e = cc
    at_room false is e = cc

    at : (b : Bool) → (by_fence i s b).answer ≡ Err BufferFull → ⊥
    at true e = cc
    at false e = at_room (would_exhaust i s) room e

-- ---- a producer

abbrev one_if : Bool → ℕ
one_if b = cond b 1 0

-- so many more of the partition, and no more of the others
set_counts : (counts : List ℕ) (i : Item) → i.partition < length counts → i.number ≡ slice_index counts i.partition
    → (p : ℕ) → slice_index (slice_set counts i.partition (i.number + 1)) p ≡ slice_index counts p + count_of p (i ∷ [])
set_counts counts i there number p = at (cases_eq i.partition p)
  where
    at : (i.partition ≡ p) ⊎ (i.partition ≡ p → ⊥) → slice_index (slice_set counts i.partition (i.number + 1)) p ≡ slice_index counts p + count_of p (i ∷ [])
    at (inl is) = omega (arith, get_or-set_at counts i.partition p (i.number + 1) 0 (sym is) there, ap one_if (eq-eqb i.partition p is), number, ap (slice_index counts) is)
    at (inr isnt) = omega (arith, get_or-set_other counts i.partition p (i.number + 1) 0 (λ e. isnt (sym e)), ap one_if (ne_eqb i.partition p isnt))

pub sends_made : (a b : Producer) (s t : Core) (now : ℕ) (body : Record) (ticket : Ticket) → b.config ≡ a.config → b.names ≡ a.names → a.core ≡ Some s
    → Step s (Append (item_of ticket now body) (Ok tt)) t → b.core ≡ Some t → ticket.number ≡ slice_index a.counts ticket.partition → ticket.partition < length a.counts
    → b.counts ≡ slice_set a.counts ticket.partition (ticket.number + 1) → b.lines ≡ a.lines → is_spent s ≡ false → Sends a now body ticket b
sends_made a b s t now body ticket config names old step new number there counts lines left =
    let i = item_of ticket now body in
    let call = Append i (Ok tt) in
    record {
      acts = record {
        config = config;
        names = names;
        core = subst (λ (x : Option Core). Goes a.config a.names x (call ∷ []) b.core) (sym old)
            (subst (λ (x : Option Core). Goes a.config a.names (Some s) (call ∷ []) x) (sym new) (becomes_one s t call step));
        taken = (tt, tt);
        next = (refl, omega (arith, number), tt);
        counts = λ p. ap (λ (ns : List ℕ). slice_index ns p) counts ∙ set_counts a.counts i there number p;
      };
      left = λ u is. ap is_spent (some_same u s (sym is ∙ old)) ∙ left;
      number = number;
      lines = same_lines a.lines b.lines lines;
    }
  where
    some_same : (u v : Core) → Some u ≡ Some v → u ≡ v
    some_same u v e = cc
