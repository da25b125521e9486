-- Moves with a lost connection, a retry, and the first packet late and twice; and moves with a reply that was made up.
use Rattle.std.proofs.Common.{◌≡◌, ℕ, zero, suc, true, List, [], ◌∷◌, ◌++◌, length, ℤ, pos, negsuc, refl, ap, ◌∙◌, inl, inr, arith}
use Rattle.std.specs.Prelude.{nat_lt}
use Rattle.std.specs.List.{list_all}
use Rattle.std.proofs.lemmas.Bool.{and_parts, ltb-true}
use lib.Utf8.{encode}
use Rattle.std.specs.Str.{is_utf8, chars}
use Rattle.kp_wire.specs.Codec.{by_length, read_many}
use Rattle.kp_wire.specs.Fields.{read_array}
use Rattle.kp_wire.proofs.ReadLemmas.{IsBytes}
use Rattle.kp_frames.specs.declared.api.Api.TheVariants as api
use Rattle.kp_frames.specs.declared.produce.PartitionProduceResponse.{PartitionProduceResponse}
use Rattle.kp_frames.specs.declared.produce.ProduceResponse.{ProduceResponse}
use Rattle.kp_frames.specs.declared.response.Response.{Response}
use Rattle.kp_frames.specs.declared.response.ResponseBody.TheVariants as body
use Rattle.kp_frames.specs.Produce.{produce_response, topic_response, partition_response}
use Rattle.kp_frames.specs.Response.{response_at, answer, body as body_codec, Spells}
use Rattle.kp_frames.proofs.ResponseLemmas.{response_found}
use Rattle.kp_log.specs.BrokerStep.{BrokerStep}
use Rattle.kp_log.specs.History.{own}
use Rattle.kp_log.proofs.PlaceLemmas.{In-nil}
use Rattle.kp_rules.specs.declared.outcome.Outcome.TheVariants.{Delivered}
use Rattle.kp_rules.specs.Requesting.{Packet}
use Rattle.kp_rules.specs.Records.{Produce, Told}
use Rattle.kp_world.specs.Message.{sent_of}
use Rattle.kp_world.specs.Accounts.{AreAccountedFor}
use Rattle.kp_world.specs.LogLaws.{IsPrefix, ToldOffsetsStand, own_records, as_stored}
use Rattle.kp_world.specs.World.{names}
use Rattle.kp_world.proofs.Evaluation.{evaluated}
use Rattle.kp_headline.specs.Assumptions.{IsHonest, IsNotMadeUp, IsInTurn, Assumed}
use Rattle.kp_headline.specs.Exhibits.{append, request, disconnect, reply, fetch, begun, first, sent_first, at_zero, log_of_first, reply_bytes, accepted_state, appended_state, sent_state, lost_state, again_state, meets, stored_state, late_state, twice_state, heard_state, lost_and_repeated, made_up, Shows, Misleads, Part, Honest, NotMadeUp, InTurn, IdsOnce, asked_by, IsNeeded, lying, lied_state, stored_by_word, unasked_state, unasked, under_its_id}
use Rattle.kp_headline.specs.Moves.{Accepting, IsMove, AreMoves, Throughout, led}
use Rattle.kp_headline.specs.Outside.{known}

-- ---- the reply's bytes

abbrev entry_at : ℕ → PartitionProduceResponse
entry_at offset = record { partition = pos 0; error_code = pos 0; base_offset = pos offset; log_append_time_ms = negsuc 0 }

abbrev pub produce_at : ℕ → ProduceResponse
produce_at offset = record { topics = (record { topic = names.topic; partitions = entry_at offset ∷ [] }) ∷ []; throttle_time_ms = pos 0 }

abbrev pub response_to : ℕ → ℕ → Response
response_to k offset = record { correlation = pos k; body = body.Produce (produce_at offset) }

pub bytes_by : (bs : List ℕ) → list_all (λ b. nat_lt b 256) bs ≡ true → IsBytes bs
bytes_by [] e i = omega arith
bytes_by (b ∷ bs) e zero = ltb-true b 256 (and_parts (nat_lt b 256) (list_all (λ b. nat_lt b 256) bs) e).0
bytes_by (b ∷ bs) e (suc i) = bytes_by bs (and_parts (nat_lt b 256) (list_all (λ b. nat_lt b 256) bs) e).1 i

pub spells : Spells api.Produce (reply_bytes 3 0) (response_to 3 0)
unfolding evaluated response_at answer body_codec produce_response read_array by_length read_many topic_response is_utf8 chars encode partition_response
spells = response_found api.Produce (reply_bytes 3 0) (response_to 3 0) (bytes_by (reply_bytes 3 0) refl) refl

-- ---- each is a move

pub accepts : IsMove begun (Accepting first)
unfolding evaluated
accepts = record { going = refl; sender = omega arith; partition = omega arith; number = refl; fits_request = omega arith; fits_memory = omega arith }

pub appends : IsMove accepted_state (append first accepted_state)
unfolding evaluated
appends = (refl, refl)

pub sends : IsMove appended_state (request 0 appended_state)
unfolding evaluated
sends = (refl, refl)

loses : IsMove sent_state (disconnect 5 sent_state)
unfolding evaluated
loses = refl

sends_again : IsMove lost_state (request 105 lost_state)
unfolding evaluated
sends_again = (refl, refl)

abbrev pub packet_of : ℕ → Packet
packet_of k = record { correlation = k; demand = Produce (sent_first ∷ []) }

comes_second : IsMove again_state (meets 1)
unfolding evaluated
comes_second = record { packet = packet_of 3; went_out = refl; parts = sent_first ∷ []; demand = refl; part = (0, omega arith, refl); there = omega arith }

comes_late : IsMove stored_state (meets 0)
unfolding evaluated
comes_late = record { packet = packet_of 2; went_out = refl; parts = sent_first ∷ []; demand = refl; part = (0, omega arith, refl); there = omega arith }

comes_twice : IsMove late_state (meets 0)
unfolding evaluated
comes_twice = record { packet = packet_of 2; went_out = refl; parts = sent_first ∷ []; demand = refl; part = (0, omega arith, refl); there = omega arith }

hears : IsMove twice_state (reply 110 (reply_bytes 3 0) twice_state)
unfolding evaluated response_at answer body_codec produce_response read_array by_length read_many topic_response is_utf8 chars encode partition_response
hears = (refl, refl)

fetches : IsMove heard_state (fetch 0 heard_state)
unfolding evaluated response_at answer body_codec produce_response read_array by_length read_many topic_response is_utf8 chars encode partition_response
fetches = (refl, refl)

are_moves : AreMoves begun lost_and_repeated
are_moves = (accepts, (appends, (sends, (loses, (sends_again, (comes_second, (comes_late, (comes_twice, (hears, (fetches, tt))))))))))

-- ---- all that is assumed holds of them

stores : IsHonest again_state (meets 1)
unfolding evaluated
stores = record { change = inr (inl refl, refl); stands = λ e. record { before = []; after = []; split = refl; offset = refl; place = refl }; is_old = λ e. absurd (let apart : pos 0 ≡ pos 46 = e in cc) }

pub repeats : BrokerStep log_of_first (sent_of sent_first.batch) at_zero log_of_first
unfolding evaluated
repeats = record { change = inl refl; stands = λ e. record { before = []; after = []; split = refl; offset = refl; place = refl }; is_old = λ e. absurd (let apart : pos 0 ≡ pos 46 = e in cc) }

are_honest : Throughout IsHonest begun lost_and_repeated
unfolding evaluated
are_honest = (tt, (tt, (tt, (tt, (tt, (stores, (repeats, (repeats, (tt, (tt, tt))))))))))

is_given : IsNotMadeUp twice_state (reply 110 (reply_bytes 3 0) twice_state)
unfolding evaluated response_at answer body_codec produce_response read_array by_length read_many topic_response is_utf8 chars encode partition_response
is_given = λ e. inl (record {
  number = 1;
  packet = packet_of 3;
  went_out = refl;
  parts = sent_first ∷ [];
  demand = refl;
  response = response_to 3 0;
  named = refl;
  produce = produce_at 0;
  is_produce = refl;
  entries = (record { part = sent_first; answer = at_zero; said = (0, omega arith, refl); partition = refl; code = refl; base = refl }, tt);
  spells = spells;
})

pub fed : IsInTurn accepted_state (append first accepted_state)
unfolding evaluated
fed = record { sender = omega arith; oldest = refl }

is_assumed : Assumed begun lost_and_repeated
unfolding evaluated
is_assumed = record {
  honest = are_honest;
  not_made_up = (tt, (tt, (tt, (tt, (tt, (tt, (tt, (tt, (is_given, (tt, tt))))))))));
  in_turn = (tt, (fed, (tt, (tt, (tt, (tt, (tt, (tt, (tt, (tt, tt))))))))));
  ids_once = (tt, (tt, (tt, (tt, (tt, (tt, (tt, (tt, (tt, (tt, tt))))))))));
}

abbrev pub told_first : ℤ → List Told
told_first offset = (record { item = first; outcome = Delivered offset }) ∷ []

pub shown : Shows lost_and_repeated (told_first (pos 0)) (((record { sender = 0; partition = 0; number = 0; outcome = Delivered (pos 0) }) ∷ []) ∷ [])
unfolding evaluated response_at answer body_codec produce_response read_array by_length read_many topic_response is_utf8 chars encode partition_response
shown = record { moves = are_moves; assumed = is_assumed; told_in_all = refl; fetched_in_all = refl }

-- ---- a reply that was made up

believed : IsMove sent_state (reply 7 (reply_bytes 2 7) sent_state)
unfolding evaluated response_at answer body_codec produce_response read_array by_length read_many topic_response is_utf8 chars encode partition_response
believed = (refl, refl)

nothing_stands : ToldOffsetsStand (known (led begun made_up)) → ⊥
unfolding evaluated response_at answer body_codec produce_response read_array by_length read_many topic_response is_utf8 chars encode partition_response
nothing_stands law =
    let s = law (record { item = first; outcome = Delivered (pos 7) }) (pos 7) (0, omega arith, refl) refl in
    In-nil _ (record { earlier = s.before; later = s.after; split = s.record_is })

pub misled : Misleads made_up (told_first (pos 7))
unfolding evaluated response_at answer body_codec produce_response read_array by_length read_many topic_response is_utf8 chars encode partition_response
misled = record {
  moves = (accepts, (appends, (sends, (believed, tt))));
  honest = (tt, (tt, (tt, (tt, tt))));
  in_turn = (tt, (fed, (tt, (tt, tt))));
  ids_once = (tt, (tt, (tt, (tt, tt))));
  told_in_all = refl;
  is_wrong = nothing_stands;
}

-- ---- each part of what is assumed is needed

lie_comes : IsMove sent_state lying
unfolding evaluated
lie_comes = record { packet = packet_of 2; went_out = refl; parts = sent_first ∷ []; demand = refl; part = (0, omega arith, refl); there = omega arith }

lie_heard : IsMove lied_state (reply 7 (reply_bytes 2 7) lied_state)
unfolding evaluated response_at answer body_codec produce_response read_array by_length read_many topic_response is_utf8 chars encode partition_response
lie_heard = (refl, refl)

spells_lie : Spells api.Produce (reply_bytes 2 7) (response_to 2 7)
unfolding evaluated response_at answer body_codec produce_response read_array by_length read_many topic_response is_utf8 chars encode partition_response
spells_lie = response_found api.Produce (reply_bytes 2 7) (response_to 2 7) (bytes_by (reply_bytes 2 7) refl) refl

lie_said : IsNotMadeUp lied_state (reply 7 (reply_bytes 2 7) lied_state)
unfolding evaluated response_at answer body_codec produce_response read_array by_length read_many topic_response is_utf8 chars encode partition_response
lie_said = λ e. inl (record {
  number = 0;
  packet = packet_of 2;
  went_out = refl;
  parts = sent_first ∷ [];
  demand = refl;
  response = response_to 2 7;
  named = refl;
  produce = produce_at 7;
  is_produce = refl;
  entries = (record { part = sent_first; answer = record { code = pos 0; base = pos 7 }; said = (0, omega arith, refl); partition = refl; code = refl; base = refl }, tt);
  spells = spells_lie;
})

but_honest : (x : Part) → (x ≡ Honest → ⊥) → Throughout (asked_by x) begun stored_by_word
unfolding evaluated
but_honest Honest n = absurd (n refl)
but_honest NotMadeUp n = (tt, (tt, (tt, (tt, (lie_said, tt)))))
but_honest InTurn n = (tt, (fed, (tt, (tt, (tt, tt)))))
but_honest IdsOnce n = (tt, (tt, (tt, (tt, (tt, tt)))))

lie_told : ToldOffsetsStand (known (led begun stored_by_word)) → ⊥
unfolding evaluated response_at answer body_codec produce_response read_array by_length read_many topic_response is_utf8 chars encode partition_response
lie_told law =
    let s = law (record { item = first; outcome = Delivered (pos 7) }) (pos 7) (0, omega arith, refl) refl in
    In-nil _ (record { earlier = s.before; later = s.after; split = s.record_is })

pub honest_needed : IsNeeded Honest stored_by_word ToldOffsetsStand
honest_needed = record { moves = (accepts, (appends, (sends, (lie_comes, (lie_heard, tt))))); others = but_honest; broken = lie_told }

but_not_made_up : (x : Part) → (x ≡ NotMadeUp → ⊥) → Throughout (asked_by x) begun made_up
but_not_made_up Honest n = (tt, (tt, (tt, (tt, tt))))
but_not_made_up NotMadeUp n = absurd (n refl)
but_not_made_up InTurn n = (tt, (fed, (tt, (tt, tt))))
but_not_made_up IdsOnce n = (tt, (tt, (tt, (tt, tt))))

pub not_made_up_needed : IsNeeded NotMadeUp made_up ToldOffsetsStand
not_made_up_needed = record { moves = misled.moves; others = but_not_made_up; broken = nothing_stands }

appends_unasked : IsMove begun (append first begun)
unfolding evaluated
appends_unasked = (refl, refl)

sends_unasked : IsMove unasked_state (request 0 unasked_state)
unfolding evaluated
sends_unasked = (refl, refl)

but_in_turn : (x : Part) → (x ≡ InTurn → ⊥) → Throughout (asked_by x) begun unasked
but_in_turn Honest n = (tt, (tt, tt))
but_in_turn NotMadeUp n = (tt, (tt, tt))
but_in_turn InTurn n = absurd (n refl)
but_in_turn IdsOnce n = (tt, (tt, tt))

not_accounted : AreAccountedFor 0 0 (known (led begun unasked)) → ⊥
unfolding evaluated
not_accounted law = let e : first ∷ [] ≡ [] = law in absurd cc

pub in_turn_needed : IsNeeded InTurn unasked (AreAccountedFor 0 0)
in_turn_needed = record { moves = (appends_unasked, (sends_unasked, tt)); others = but_in_turn; broken = not_accounted }

but_ids_once : (x : Part) → (x ≡ IdsOnce → ⊥) → Throughout (asked_by x) begun under_its_id
but_ids_once Honest n = (tt, tt)
but_ids_once NotMadeUp n = (tt, tt)
but_ids_once InTurn n = (tt, tt)
but_ids_once IdsOnce n = absurd (n refl)

others_write : AreMoves begun under_its_id
unfolding evaluated
others_write = (omega arith, tt)

none_left : {A : Type 0} (xs ys : List A) → [] ≡ xs ++ ys → xs ≡ []
none_left [] ys e = refl
none_left (x ∷ xs) ys e = absurd cc

not_its_own : IsPrefix 0 (known (led begun under_its_id)) → ⊥
unfolding evaluated own
not_its_own law =
    let e : own_records 0 (known (led begun under_its_id)) ≡ [] = law.records ∙ ap as_stored (none_left law.stored law.rest law.handed) in
    absurd (let long : 1 ≡ 0 = ap length e in omega (arith, long))

pub ids_once_needed : IsNeeded IdsOnce under_its_id (IsPrefix 0)
ids_once_needed = record { moves = others_write; others = but_ids_once; broken = not_its_own }
