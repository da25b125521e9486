-- What is accepted and taken in the world that is seen is what is so in its world.
use Rattle.std.proofs.Common.{◌≡◌, ℕ, suc, ◌+◌, ◌<◌, Bool, true, false, List, [], ◌∷◌, ◌++◌, length, get_or, set, map, OnOk, None, Some, refl, sym, ap, subst, ◌∙◌}
use Rattle.std.specs.Prelude.{Option, Result, Ok, Err, nat_lt, slice_get, ◌&&◌, ◌||◌}
use Rattle.std.proofs.lemmas.List.{get_or_read, length-set}
use Rattle.kp_batch.specs.declared.record.Record.{Record}
use Rattle.kp_accum.specs.Queue.{charge_of}
use Rattle.kp_accum.specs.declared.config.Config.{Config}
use Rattle.kp_accum.specs.declared.fault.AppendFault.{AppendFault}
use Rattle.kp_accum.specs.declared.fault.AppendFault.TheVariants as append
use Rattle.kp_accum.specs.declared.item.Item.{Item}
use Rattle.kp_log.specs.KeptBatches.{IsHistoryOf}
use Rattle.kp_rules.specs.Appending.{append_step}
use Rattle.kp_rules.specs.Calls.{Append, Step}
use Rattle.kp_rules.specs.Flush.{is_flushed}
use Rattle.kp_rules.specs.Records.{Core, quietly}
use Rattle.kp_rules.proofs.FetchedLemmas.{append_behind}
use Rattle.kp_world.specs.Accepting.{accepted_by, accepting, for_partition, is_large, item_for, taken_by, taking, taking_of, with_accepted, with_taken}
use Rattle.kp_world.specs.Client.{client, only_if}
use Rattle.kp_world.specs.Events.{record_at}
use Rattle.kp_world.specs.Line.{Line}
use Rattle.kp_world.specs.Line as line
use Rattle.kp_world.specs.Noting.{noted, only_noted}
use Rattle.kp_world.specs.Replay.{stepped}
use Rattle.kp_world.specs.World.{World}
use Rattle.kp_world.specs.declared.event.Event.{Event}
use Rattle.kp_world.specs.declared.event.Event.TheVariants as event
use Rattle.kp_replay.specs.Shown.{Each, LeadsOn, Seen, Shows, is_there, noted_of, with_noted}
use Rattle.kp_replay.proofs.ShownLemmas.{lead-on, same-answer, shows-noted}
use Rattle.kp_replay.proofs.TellingLemmas.{tells-append, tells-quietly}

pub each-length : {A B : Type 0} (R : A → B → Type 0) (xs : List A) (ys : List B) → Each R xs ys → length xs ≡ length ys
each-length R [] [] all = refl
each-length R (x ∷ xs) (y ∷ ys) all = ap suc (each-length R xs ys all.1)
each-length R [] (y ∷ ys) all = absurd all
each-length R (x ∷ xs) [] all = absurd all

-- an event of which only lines are noted
pub only-lines : (c : Config) (w : World) (a : Seen) → Shows c w a → (ls : List Line) → Shows c (only_noted ls w) (with_noted ls (is_flushed a.core) a)
only-lines c w a sh ls = shows-noted (λ s. quietly s (tt {0})) (λ r s. refl) (λ s. tells-quietly s (tt {0})) c w a sh ls

-- ---- accept

-- the item that would be accepted
abbrev pub item_of : ℕ → ℕ → List ℕ → Seen → Item
item_of s p value a = record {
  sender = s;
  partition = p;
  number = length (for_partition p (get_or a.accepted s []));
  at = a.moment;
  body = record_at a.moment value;
}

abbrev pub is_large_in : Config → Item → Bool
is_large_in c i = nat_lt c.max_request_size (charge_of i) || nat_lt c.buffer_memory (charge_of i)

abbrev pub with_item : ℕ → Item → Seen → Seen
with_item s i a = record a { accepted = set a.accepted s (get_or a.accepted s [] ++ i ∷ []) }

module _ (s p : ℕ) (value : List ℕ) (a : Seen) (there : is_there (event.Accept s p value) a ≡ true) where
  abbrev e : Event
  e = event.Accept s p value

  same-item : (c : Config) (w : World) → Shows c w a → item_of s p value a ≡ item_for s p w.moment (record_at w.moment value) w
  same-item c w sh = λ i. record {
    sender = s;
    partition = p;
    number = length (for_partition p (get_or (sh.accepted i) s []));
    at = sh.moment i;
    body = record_at (sh.moment i) value;
  }

  is-there : (c : Config) (w : World) → Shows c w a → (nat_lt s (length w.accepted) && nat_lt p (length w.logs)) ≡ true
  is-there c w sh = (λ i. nat_lt s (length (sym sh.accepted i)) && nat_lt p (each-length IsHistoryOf w.logs a.logs sh.logs i)) ∙ there

  by-there : (c : Config) (w : World) → Shows c w a → (x : World) → accepting (item_for s p w.moment (record_at w.moment value) w) w ≡ x → stepped e w ≡ Some x
  unfolding stepped client
  by-there c w sh x is = ap (λ b. only_if b (accepting (item_for s p w.moment (record_at w.moment value) w) w)) (is-there c w sh) ∙ ap (λ y. Some y) is

  pub closed-leads : (b : Seen) → a.is_shut ≡ true → b ≡ with_noted (line.Closed s p ∷ []) (is_flushed a.core) a → LeadsOn e a b
  closed-leads b shut is = λ c w replayed sh. (
    only_noted (line.Closed s p ∷ []) w,
    by-there c w sh (only_noted (line.Closed s p ∷ []) w) (rw (sym sh.is_shut ∙ shut) refl),
    subst (Shows c (only_noted (line.Closed s p ∷ []) w)) (sym is) (only-lines c w a sh (line.Closed s p ∷ [])),
  )

  same-large : (c : Config) (w : World) → Shows c w a → (large : Bool) → is_large_in a.core.config (item_of s p value a) ≡ large → is_large (item_for s p w.moment (record_at w.moment value) w) w ≡ large
  same-large c w sh large is = sym (λ i. is_large_in (sh.core i).config (same-item c w sh i)) ∙ is

  pub large-leads : (b : Seen) → a.is_shut ≡ false → is_large_in a.core.config (item_of s p value a) ≡ true → b ≡ with_noted (line.Large s p ∷ []) (is_flushed a.core) a → LeadsOn e a b
  large-leads b going large is = λ c w replayed sh. (
    only_noted (line.Large s p ∷ []) w,
    by-there c w sh (only_noted (line.Large s p ∷ []) w) (rw (sym sh.is_shut ∙ going, same-large c w sh true large) refl),
    subst (Shows c (only_noted (line.Large s p ∷ []) w)) (sym is) (only-lines c w a sh (line.Large s p ∷ [])),
  )

  one-more : (c : Config) (w : World) → Shows c w a → Shows c (with_accepted (item_for s p w.moment (record_at w.moment value) w) w) (with_item s (item_of s p value a) a)
  one-more c w sh =
      let i : Item = item_for s p w.moment (record_at w.moment value) w in
      let count : length (set w.accepted s (accepted_by s w ++ i ∷ [])) ≡ length w.accepted = length-set w.accepted s (accepted_by s w ++ i ∷ []) in
      record {
        config = sh.config;
        called = sh.called;
        senders = sh.senders ∙ sym count;
        core = sh.core;
        accepted = λ j. set (sh.accepted j) s (get_or (sh.accepted j) s [] ++ same-item c w sh j ∷ []);
        taken = sh.taken;
        packets = sh.packets;
        replies = sh.replies;
        logs = sh.logs;
        drawn = sh.drawn;
        moment = sh.moment;
        is_shut = sh.is_shut;
        past = sh.past ∙ ap (λ n. map (noted_of n) w.past) (sym count);
      }

  pub accepted-leads : (b : Seen) → a.is_shut ≡ false → is_large_in a.core.config (item_of s p value a) ≡ false → b ≡ with_noted [] (is_flushed a.core) (with_item s (item_of s p value a) a) → LeadsOn e a b
  accepted-leads b going small is = λ c w replayed sh.
      let v : World = only_noted [] (with_accepted (item_for s p w.moment (record_at w.moment value) w) w) in (
        v,
        by-there c w sh v (rw (sym sh.is_shut ∙ going, same-large c w sh false small) refl),
        subst (Shows c v) (sym is) (only-lines c (with_accepted (item_for s p w.moment (record_at w.moment value) w) w) (with_item s (item_of s p value a) a) (one-more c w sh) []),
      )

-- ---- take

abbrev pub next_of : ℕ → Seen → Option Item
next_of s a = slice_get (get_or a.accepted s []) (get_or a.taken s 0)

abbrev pub with_one_taken : ℕ → Seen → Seen
with_one_taken s a = record a { taken = set a.taken s (get_or a.taken s 0 + 1) }

module _ (s : ℕ) (a : Seen) (there : is_there (event.Take s) a ≡ true) where
  to-take : (c : Config) (w : World) → Shows c w a → (o : Option Item) → next_of s a ≡ o → (x : World) → taking s o w ≡ x → stepped (event.Take s) w ≡ Some x
  unfolding stepped client
  to-take c w sh o next x is =
      ap (λ b. only_if b (taking s (slice_get (accepted_by s w) (taken_by s w)) w)) ((λ i. nat_lt s (length (sym sh.accepted i))) ∙ there)
      ∙ ap (λ n. Some (taking s n w)) ((λ i. slice_get (get_or (sym sh.accepted i) s []) (get_or (sym sh.taken i) s 0)) ∙ next)
      ∙ ap (λ y. Some y) is

  pub none-leads : (b : Seen) → next_of s a ≡ None → b ≡ with_noted (line.Empty s ∷ []) (is_flushed a.core) a → LeadsOn (event.Take s) a b
  none-leads b none is = λ c w replayed sh. (
    only_noted (line.Empty s ∷ []) w,
    to-take c w sh None none (only_noted (line.Empty s ∷ []) w) refl,
    subst (Shows c (only_noted (line.Empty s ∷ []) w)) (sym is) (only-lines c w a sh (line.Empty s ∷ [])),
  )

  module _ (i : Item) (next : next_of s a ≡ Some i) where
    answered : (c : Config) (w : World) → Shows c w a → (answer : Result (Unit {0}) AppendFault) → (append_step i a.core).answer ≡ answer → (append_step i w.core).answer ≡ answer
    answered c w sh answer is = same-answer (append_step i) (λ r s. append_behind r i s) (tells-append i) w.core ∙ ap (λ t. (append_step i t).answer) (sym sh.core) ∙ is

    counted : (c : Config) (w : World) → Shows c w a → Shows c (with_taken s w) (with_one_taken s a)
    counted c w sh = record {
      config = sh.config;
      called = sh.called;
      senders = sh.senders;
      core = sh.core;
      accepted = sh.accepted;
      taken = λ j. set (sh.taken j) s (get_or (sh.taken j) s 0 + 1);
      packets = sh.packets;
      replies = sh.replies;
      logs = sh.logs;
      drawn = sh.drawn;
      moment = sh.moment;
      is_shut = sh.is_shut;
      past = sh.past;
    }

    pub taken-leads : (t : Core) (b : Seen) → Step a.core (Append i (Ok tt)) t → b ≡ with_noted [] (is_flushed a.core) (record (with_one_taken s a) { core = t }) → LeadsOn (event.Take s) a b
    taken-leads t b step is = λ c w replayed sh.
        let x = append_step i w.core in
        let v : World = noted x.after [] x.told (with_taken s w) in
        let same : b ≡ with_noted [] (is_flushed a.core) (record (with_one_taken s a) { core = (append_step i a.core).after }) = is ∙ (λ j. with_noted [] (is_flushed a.core) (record (with_one_taken s a) { core = step.1 j })) in (
          v,
          to-take c w sh (Some i) next v (ap (λ answer. taking_of s x.after x.told answer w) (answered c w sh (Ok tt) step.0)),
          subst (Shows c v) (sym same) (shows-noted (append_step i) (λ r s. append_behind r i s) (tells-append i) c (with_taken s w) (with_one_taken s a) (counted c w sh) []),
        )

    pub full-leads : (t : Core) (b : Seen) → Step a.core (Append i (Err append.BufferFull)) t → b ≡ with_noted (line.Full s ∷ []) (is_flushed a.core) (record a { core = t }) → LeadsOn (event.Take s) a b
    full-leads t b step is = λ c w replayed sh.
        let x = append_step i w.core in
        let v : World = noted x.after (line.Full s ∷ []) x.told w in
        let same : b ≡ with_noted (line.Full s ∷ []) (is_flushed a.core) (record a { core = (append_step i a.core).after }) = is ∙ (λ j. with_noted (line.Full s ∷ []) (is_flushed a.core) (record a { core = step.1 j })) in (
          v,
          to-take c w sh (Some i) next v (ap (λ answer. taking_of s x.after x.told answer w) (answered c w sh (Err append.BufferFull) step.0)),
          subst (Shows c v) (sym same) (shows-noted (append_step i) (λ r s. append_behind r i s) (tells-append i) c w a sh (line.Full s ∷ [])),
        )

-- ---- what is left of the events

module _ {T E : Type 0} (r : Result T E) (s p : ℕ) (value : List ℕ) (a v b : Seen) (is : v ≡ a) (there : is_there (event.Accept s p value) a ≡ true) (was : Bool) (flushed : was ≡ is_flushed v.core) where
  there-too : is_there (event.Accept s p value) v ≡ true
  there-too = ap (λ x. is_there (event.Accept s p value) x) is ∙ there

  pub closed-returns : v.is_shut ≡ true → OnOk r (b ≡ with_noted (line.Closed s p ∷ []) was v) → OnOk r (LeadsOn (event.Accept s p value) a b)
  closed-returns shut = lead-on (line.Closed s p ∷ []) was (event.Accept s p value) a v b r (λ same.
      subst (λ a. LeadsOn (event.Accept s p value) a b) is (closed-leads s p value v there-too b shut (same ∙ (λ i. with_noted (line.Closed s p ∷ []) (flushed i) v))))

  pub large-returns : v.is_shut ≡ false → is_large_in v.core.config (item_of s p value v) ≡ true → OnOk r (b ≡ with_noted (line.Large s p ∷ []) was v) → OnOk r (LeadsOn (event.Accept s p value) a b)
  large-returns going large = lead-on (line.Large s p ∷ []) was (event.Accept s p value) a v b r (λ same.
      subst (λ a. LeadsOn (event.Accept s p value) a b) is (large-leads s p value v there-too b going large (same ∙ (λ i. with_noted (line.Large s p ∷ []) (flushed i) v))))

  pub accepting-returns : v.is_shut ≡ false → is_large_in v.core.config (item_of s p value v) ≡ false → (after : List Item) → after ≡ get_or v.accepted s [] ++ item_of s p value v ∷ [] → OnOk r (b ≡ with_noted [] was (record v { accepted = set v.accepted s after }))
      → OnOk r (LeadsOn (event.Accept s p value) a b)
  accepting-returns going small after pushed = lead-on [] was (event.Accept s p value) a (record v { accepted = set v.accepted s after }) b r (λ same.
      subst (λ a. LeadsOn (event.Accept s p value) a b) is (accepted-leads s p value v there-too b going small (same ∙ (λ i. with_noted [] (flushed i) (record v { accepted = set v.accepted s (pushed i) })))))

module _ {T E : Type 0} (r : Result T E) (s : ℕ) (a v b : Seen) (is : v ≡ a) (there : is_there (event.Take s) a ≡ true) (was : Bool) (flushed : was ≡ is_flushed v.core) where
  still-there : is_there (event.Take s) v ≡ true
  still-there = ap (λ x. is_there (event.Take s) x) is ∙ there

  pub none-returns : next_of s v ≡ None → OnOk r (b ≡ with_noted (line.Empty s ∷ []) was v) → OnOk r (LeadsOn (event.Take s) a b)
  none-returns none = lead-on (line.Empty s ∷ []) was (event.Take s) a v b r (λ same.
      subst (λ a. LeadsOn (event.Take s) a b) is (none-leads s v still-there b none (same ∙ (λ i. with_noted (line.Empty s ∷ []) (flushed i) v))))

  pub taken-returns : (i : Item) → next_of s v ≡ Some i → (t : Core) → Step v.core (Append i (Ok tt)) t → (n : ℕ) → n ≡ get_or v.taken s 0 → OnOk r (b ≡ with_noted [] was (record v { core = t; taken = set v.taken s (n + 1) }))
      → OnOk r (LeadsOn (event.Take s) a b)
  taken-returns i next t step n count = lead-on [] was (event.Take s) a (record v { core = t; taken = set v.taken s (n + 1) }) b r (λ same.
      subst (λ a. LeadsOn (event.Take s) a b) is (taken-leads s v still-there i next t b step (same ∙ (λ i. with_noted [] (flushed i) (record v { core = t; taken = set v.taken s (count i + 1) })))))

  pub full-returns : (i : Item) → next_of s v ≡ Some i → (t : Core) → Step v.core (Append i (Err append.BufferFull)) t → OnOk r (b ≡ with_noted (line.Full s ∷ []) was (record v { core = t })) → OnOk r (LeadsOn (event.Take s) a b)
  full-returns i next t step = lead-on (line.Full s ∷ []) was (event.Take s) a (record v { core = t }) b r (λ same.
      subst (λ a. LeadsOn (event.Take s) a b) is (full-leads s v still-there i next t b step (same ∙ (λ i. with_noted (line.Full s ∷ []) (flushed i) (record v { core = t })))))

-- ---- what the calls gave

pub item-read : (s p number : ℕ) (value : List ℕ) (body : Record) (items : List Item) (v : Seen) → s < length v.accepted → items ≡ get_or v.accepted s items → number ≡ length (for_partition p items) → body ≡ record_at v.moment value
    → ◌≡◌ {A = Item} (record { sender = s; partition = p; number = number; at = v.moment; body = body }) (item_of s p value v)
item-read s p number value body items v inside read count is = λ i. record {
  sender = s;
  partition = p;
  number = (count ∙ ap (λ is. length (for_partition p is)) (get_or_read v.accepted s items inside read [])) i;
  at = v.moment;
  body = is i;
}

pub large-read : (large known : Bool) (told c : Config) (i j : Item) → large ≡ is_large_in told i → told ≡ c → i ≡ j → large ≡ known → is_large_in c j ≡ known
large-read large known told c i j is config item read = sym (λ k. is_large_in (config k) (item k)) ∙ sym is ∙ read

pub next-read : (s place : ℕ) (items : List Item) (o : Option Item) (v : Seen) → s < length v.accepted → s < length v.taken → items ≡ get_or v.accepted s items → place ≡ get_or v.taken s place → o ≡ slice_get items place → next_of s v ≡ o
next-read s place items o v inside counted read count is =
    sym (is ∙ (λ i. slice_get (get_or_read v.accepted s items inside read [] i) (get_or_read v.taken s place counted count 0 i)))

-- a note of what was seen is one of what is seen within
pub still-seen : {T E : Type 0} (r : Result T E) (ls : List Line) (was : Bool) (v a b : Seen) → v ≡ a → OnOk r (b ≡ with_noted ls was a) → OnOk r (b ≡ with_noted ls was v)
still-seen r ls was v a b is noted = subst (λ x. OnOk r (b ≡ with_noted ls was x)) (sym is) noted

pub is-full : (i : Item) (s t : Core) (fault : AppendFault) → fault ≡ append.BufferFull → Step s (Append i (Err fault)) t → Step s (Append i (Err append.BufferFull)) t
is-full i s t fault is step = subst (λ f. Step s (Append i (Err f)) t) is step
