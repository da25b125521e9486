-- Schedules that a producer goes through while a broker makes certain choices, all of them honest: the
-- world after each event is computed.
use Rattle.std.proofs.Common.{◌≡◌, ℕ, suc, zero, ◌+◌, Bool, true, false, List, [], ◌∷◌, ◌++◌, length, pos, negsuc, Some, None, refl, sym, ap, ◌∙◌, inl, inr, arith, append-nil}
use Rattle.std.specs.Prelude.{Option, is_some, unwrap_or, take, drop, slice_get, slice_set, nat_le, ◌&&◌, ◌||◌, ◌==◌}
use Rattle.std.specs.List.{AllByRecursion, list_any}
use Rattle.std.proofs.lemmas.Bool.{true≢false, eq-eqb, eqb-true, leb-true, and_parts}
use Rattle.std.proofs.lemmas.Int.{ints}
use Rattle.kp_log.specs.BrokerStep.{Answered, BrokerStep}
use Rattle.kp_log.specs.History.{Sent, History, stored_of, of_id, with_batch}
use Rattle.kp_log.specs.Log.{KEPT, count_of}
use Rattle.kp_rules.specs.Next.{Sending}
use Rattle.kp_rules.specs.Records.{Demand, Produce, InitProducerId}
use Rattle.kp_rules.specs.Requesting.{Packet}
use Rattle.kp_world.specs.Events.{WorldEvent}
use Rattle.kp_world.specs.Events as event
use Rattle.kp_world.specs.declared.event.Treatment.TheVariants.{Judged}
use Rattle.kp_world.specs.Delivering.{Delivery, Delivers, PartsDeliver, HasNone, AreOthers, log_at}
use Rattle.kp_world.specs.Loopback.{next_id, id_delivered}
use Rattle.kp_world.specs.Message.{sent_of, response_of}
use Rattle.kp_world.specs.Run.{Producer, StepsBy, RunBy, Arrives, with_delivery, with_others_at}
use Rattle.kp_world.specs.World.{Batches, World}
use Rattle.kp_world.proofs.ReplayLemmas.{answers_so}

-- ---- what an honest broker does with a packet of one batch, or with an id request

pub data Choice : Type 0 where
  Append : Choice  -- it appends the batch, which begins at the count of its id's records
  AppendLate : Choice  -- it appends it where its id has no records, and answers that the request timed out
  Repeat : (offset : ℕ) → Choice  -- the batch stands at this offset
  Forgotten : (place : ℕ) → Choice  -- it was appended at this place among all, and five later ones of its id were
  Refuse : Choice  -- it refuses the batch for good, as too large
  GiveId : Choice  -- it gives the next id

abbrev log_of : World → Sending → History
log_of w x = log_at x.partition w.logs

abbrev part_came : World → Sending → Answered → History → Delivery
part_came w x answer log = record { logs = slice_set w.logs x.partition log; ids = w.ids; content = Batches ((record { partition = x.partition; answer = answer }) ∷ []) }

abbrev chosen : Choice → World → Demand Sending → Delivery
chosen Append w (Produce (x ∷ [])) = part_came w x (record { code = pos 0; base = pos (length (log_of w x).records) }) (with_batch (sent_of x.batch) (log_of w x))
chosen AppendLate w (Produce (x ∷ [])) = part_came w x (record { code = pos 7; base = negsuc 0 }) (with_batch (sent_of x.batch) (log_of w x))
chosen (Repeat offset) w (Produce (x ∷ [])) = part_came w x (record { code = pos 0; base = pos offset }) (log_of w x)
chosen (Forgotten place) w (Produce (x ∷ [])) = part_came w x (record { code = pos 46; base = negsuc 0 }) (log_of w x)
chosen Refuse w (Produce (x ∷ [])) = part_came w x (record { code = pos 10; base = negsuc 0 }) (log_of w x)
chosen choice w d = id_delivered Judged w

-- a test that passes, as a type that is computed and has no value to write out
abbrev pub Holds : Bool → Type 0
Holds true = Unit {0}
Holds false = ⊥

is_equal : (m n : ℕ) → Holds (m == n) → m ≡ n
is_equal m n h = at_test (m == n) refl h
  where
    at_test : (b : Bool) → (m == n) ≡ b → Holds b → m ≡ n
    at_test true is h' = eqb-true m n is
    at_test false is h' = absurd h'

-- it may do so
abbrev pub MayChoose : Choice → World → Demand Sending → Type 0
MayChoose Append w (Produce (x ∷ [])) = Holds (count_of (pos x.batch.id) (log_of w x).records == x.batch.sequence)
MayChoose AppendLate w (Produce (x ∷ [])) = Holds (count_of (pos x.batch.id) (log_of w x).records == 0)
MayChoose (Repeat offset) w (Produce (x ∷ [])) =
    ((log_of w x).records ≡ take offset (log_of w x).records ++ (stored_of (sent_of x.batch) ++ drop (offset + length x.batch.items) (log_of w x).records))
    × (length (take offset (log_of w x).records) ≡ offset)
    × (count_of (pos x.batch.id) (take offset (log_of w x).records) ≡ x.batch.sequence)
MayChoose (Forgotten place) w (Produce (x ∷ [])) =
    (slice_get (log_of w x).batches place ≡ Some (sent_of x.batch))
    × (nat_le KEPT (length (of_id x.batch.id (drop (suc place) (log_of w x).batches))) ≡ true)
MayChoose Refuse w (Produce (x ∷ [])) = Unit {0}
MayChoose GiveId w (InitProducerId p) = (list_any (λ d. d == next_id w.ids) w.ids ≡ false) × AllByRecursion (λ h. HasNone h.records (next_id w.ids)) w.logs
MayChoose choice w d = ⊥

-- the batch begins at the count of its id's records, and is appended
pub appends : (h : History) (b : Sent) → Holds (count_of (pos b.id) h.records == b.sequence) → BrokerStep h b (record { code = pos 0; base = pos (length h.records) }) (with_batch b h)
appends h b e = record {
  change = inr (inl (is_equal _ _ e), refl);
  stands = λ none. record { before = h.records; after = []; split = ap (λ z. h.records ++ z) (sym (append-nil (stored_of b))); offset = refl; place = is_equal _ _ e };
  is_old = λ old. absurd (omega (arith, ints, old));
}

part_delivers : (w : World) (x : Sending) (answer : Answered) (log : History) → BrokerStep (log_of w x) (sent_of x.batch) answer log → Delivers w (Produce (x ∷ [])) (part_came w x answer log)
unfolding Delivers PartsDeliver
part_delivers w x answer log h = (_, (_, record { partition = refl; log = log; step = h; after_is = refl }, refl), refl, refl)

split_at : {A : Type 0} (xs : List A) (k : ℕ) (x : A) → slice_get xs k ≡ Some x → xs ≡ take k xs ++ x ∷ drop (suc k) xs
split_at [] k x e = absurd cc
split_at (y ∷ xs) zero x e = let same : y ≡ x = cc in ap (λ z. z ∷ xs) same
split_at (y ∷ xs) (suc k) x e = ap (λ z. y ∷ z) (split_at xs k x e)

is_fresh : (ids : List ℕ) (id : ℕ) → list_any (λ d. d == id) ids ≡ false → AllByRecursion (λ drawn. drawn ≡ id → ⊥) ids
is_fresh [] id e = tt
is_fresh (d ∷ ids) id e = at_test (d == id) refl e (λ e'. is_fresh ids id e')
  where
    at_test : (b : Bool) → (d == id) ≡ b → b || list_any (λ d. d == id) ids ≡ false → (list_any (λ d. d == id) ids ≡ false → AllByRecursion (λ drawn. drawn ≡ id → ⊥) ids) → AllByRecursion (λ drawn. drawn ≡ id → ⊥) (d ∷ ids)
    at_test true is e' later = absurd cc
    at_test false is e' later = (λ (same : d ≡ id). absurd (true≢false (sym (eq-eqb d id same) ∙ is)), later e')

is_honest : (c : Choice) (w : World) (d : Demand Sending) → MayChoose c w d → Delivers w d (chosen c w d)
unfolding Delivers
is_honest Append w (Produce (x ∷ [])) e = part_delivers w x _ _ (appends (log_of w x) (sent_of x.batch) e)
is_honest AppendLate w (Produce (x ∷ [])) e =
    part_delivers w x _ _ (record { change = inr (inr (is_equal _ _ e), refl); stands = λ none. absurd (omega (arith, ints, none)); is_old = λ old. absurd (omega (arith, ints, old)) })
is_honest (Repeat offset) w (Produce (x ∷ [])) e = part_delivers w x _ _ (record {
  change = inl refl;
  stands = λ none. record { before = _; after = _; split = e.0; offset = ap pos (sym e.1); place = e.2 };
  is_old = λ old. absurd (omega (arith, ints, old));
})
is_honest (Forgotten place) w (Produce (x ∷ [])) e = part_delivers w x _ _ (record {
  change = inl refl;
  stands = λ none. absurd (omega (arith, ints, none));
  is_old = λ old. record { earlier = _; later = _; split = split_at (log_of w x).batches place (sent_of x.batch) e.0; more = leb-true KEPT (length (of_id x.batch.id (drop (suc place) (log_of w x).batches))) e.1 };
})
is_honest Refuse w (Produce (x ∷ [])) e =
    part_delivers w x _ _ (record { change = inl refl; stands = λ none. absurd (omega (arith, ints, none)); is_old = λ old. absurd (omega (arith, ints, old)) })
is_honest GiveId w (InitProducerId p) e = (inr (next_id w.ids, (is_fresh w.ids (next_id w.ids) e.0, e.1), refl, inr refl), refl)
is_honest GiveId w (Produce xs) e = absurd e
is_honest Append w (Produce []) e = absurd e
is_honest Append w (Produce (x ∷ y ∷ xs)) e = absurd e
is_honest Append w (InitProducerId p) e = absurd e
is_honest AppendLate w (Produce []) e = absurd e
is_honest AppendLate w (Produce (x ∷ y ∷ xs)) e = absurd e
is_honest AppendLate w (InitProducerId p) e = absurd e
is_honest (Repeat offset) w (Produce []) e = absurd e
is_honest (Repeat offset) w (Produce (x ∷ y ∷ xs)) e = absurd e
is_honest (Repeat offset) w (InitProducerId p) e = absurd e
is_honest (Forgotten place) w (Produce []) e = absurd e
is_honest (Forgotten place) w (Produce (x ∷ y ∷ xs)) e = absurd e
is_honest (Forgotten place) w (InitProducerId p) e = absurd e
is_honest Refuse w (Produce []) e = absurd e
is_honest Refuse w (Produce (x ∷ y ∷ xs)) e = absurd e
is_honest Refuse w (InitProducerId p) e = absurd e

-- ---- a run, event by event, with these choices

abbrev came : Choice → World → Option Packet → World
came c w (Some o) = let d = chosen c w o.demand in with_delivery o d (response_of o.correlation d.content) w
came c w None = w

abbrev pub next : Producer → Choice → WorldEvent → World → World
next producer c (event.Deliver k) w = came c w (slice_get w.packets k)
next producer c (event.Other p records) w = unwrap_or (with_others_at p records w) w
next producer c e w = unwrap_or (producer e w) w

-- the choice for the next delivery, and those for the others
abbrev first_of : List Choice → Choice
first_of [] = Append
first_of (c ∷ cs) = c

abbrev others_of : WorldEvent → List Choice → List Choice
others_of (event.Deliver k) cs = drop 1 cs
others_of e cs = cs

abbrev pub end_of : Producer → List Choice → List WorldEvent → World → World
end_of producer cs [] w = w
end_of producer cs (e ∷ es) w = end_of producer (others_of e cs) es (next producer (first_of cs) e w)

-- each event names what is there
abbrev is_there : Producer → WorldEvent → World → Bool
is_there producer (event.Deliver k) w = is_some (slice_get w.packets k)
is_there producer (event.Other p records) w = is_some (with_others_at p records w)
is_there producer e w = is_some (producer e w)

abbrev pub are_there : Producer → List Choice → List WorldEvent → World → Bool
are_there producer cs [] w = true
are_there producer cs (e ∷ es) w = is_there producer e w && are_there producer (others_of e cs) es (next producer (first_of cs) e w)

-- each choice may be made
abbrev MayCome : Choice → World → Option Packet → Type 0
MayCome c w (Some o) = MayChoose c w o.demand
MayCome c w None = ⊥

abbrev pub AreHonest : Producer → List Choice → List WorldEvent → World → Type 0
AreHonest producer cs [] w = Unit {0}
AreHonest producer cs (event.Deliver k ∷ es) w = MayCome (first_of cs) w (slice_get w.packets k) × AreHonest producer (drop 1 cs) es (next producer (first_of cs) (event.Deliver k) w)
AreHonest producer cs (event.Other p records ∷ es) w = AreOthers w.ids records × AreHonest producer cs es (next producer (first_of cs) (event.Other p records) w)
AreHonest producer cs (e ∷ es) w = AreHonest producer cs es (next producer (first_of cs) e w)

pub goes_on : (o : Option World) (w : World) (later : Bool) → is_some o && later ≡ true → (o ≡ Some (unwrap_or o w)) × (later ≡ true)
goes_on (Some v) w later e = (refl, e)
goes_on None w later e = absurd cc

arrives : (c : Choice) (k : ℕ) (w : World) (o : Option Packet) → slice_get w.packets k ≡ o → MayCome c w o → Arrives w k (came c w o)
arrives c k w (Some o) is h = record { packet = o; went_out = is; delivery = chosen c w o.demand; honest = is_honest c w o.demand h; response = response_of o.correlation (chosen c w o.demand).content; answers = answers_so o.correlation (chosen c w o.demand).content; after_is = refl }
arrives c k w None is h = absurd h

pub run_of : (producer : Producer) (cs : List Choice) (es : List WorldEvent) (w : World) → are_there producer cs es w ≡ true → AreHonest producer cs es w
    → RunBy (StepsBy producer) w es (end_of producer cs es w)
run_of producer cs [] w t h = refl
run_of producer cs (event.Deliver k ∷ es) w t h =
    (_, arrives (first_of cs) k w (slice_get w.packets k) refl h.0, run_of producer (drop 1 cs) es _ (and_parts (is_there producer (event.Deliver k) w) _ t).1 h.1)
run_of producer cs (event.Other p records ∷ es) w t h =
    let on = goes_on (with_others_at p records w) w _ t in (_, (h.0, on.0), run_of producer cs es _ on.1 h.1)
run_of producer cs (event.Accept s p at body ∷ es) w t h =
    let on = goes_on (producer (event.Accept s p at body) w) w _ t in (_, on.0, run_of producer cs es _ on.1 h)
run_of producer cs (event.Take s ∷ es) w t h =
    let on = goes_on (producer (event.Take s) w) w _ t in (_, on.0, run_of producer cs es _ on.1 h)
run_of producer cs (event.Now moment ∷ es) w t h =
    let on = goes_on (producer (event.Now moment) w) w _ t in (_, on.0, run_of producer cs es _ on.1 h)
run_of producer cs (event.Tick node ∷ es) w t h =
    let on = goes_on (producer (event.Tick node) w) w _ t in (_, on.0, run_of producer cs es _ on.1 h)
run_of producer cs (event.Send node ∷ es) w t h =
    let on = goes_on (producer (event.Send node) w) w _ t in (_, on.0, run_of producer cs es _ on.1 h)
run_of producer cs (event.Reply j ∷ es) w t h =
    let on = goes_on (producer (event.Reply j) w) w _ t in (_, on.0, run_of producer cs es _ on.1 h)
run_of producer cs (event.Lead p node ∷ es) w t h =
    let on = goes_on (producer (event.Lead p node) w) w _ t in (_, on.0, run_of producer cs es _ on.1 h)
run_of producer cs (event.Drop node ∷ es) w t h =
    let on = goes_on (producer (event.Drop node) w) w _ t in (_, on.0, run_of producer cs es _ on.1 h)
run_of producer cs (event.Close ∷ es) w t h =
    let on = goes_on (producer event.Close w) w _ t in (_, on.0, run_of producer cs es _ on.1 h)
run_of producer cs (event.End ∷ es) w t h =
    let on = goes_on (producer event.End w) w _ t in (_, on.0, run_of producer cs es _ on.1 h)
run_of producer cs (event.Flush ∷ es) w t h =
    let on = goes_on (producer event.Flush w) w _ t in (_, on.0, run_of producer cs es _ on.1 h)
