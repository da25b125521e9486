-- Moves in which another node comes to lead the partition; and moves in which one is elected that never had what was told.
use Rattle.std.proofs.Common.{◌≡◌, [], ◌∷◌, pos, refl, inl, inr, arith}
use lib.Utf8.{encode}
use Rattle.std.specs.Str.{is_utf8, chars}
use Rattle.kp_wire.specs.Codec.{by_length, read_many}
use Rattle.kp_wire.specs.Fields.{read_array}
use Rattle.kp_frames.specs.declared.api.Api.TheVariants as api
use Rattle.kp_frames.specs.Produce.{produce_response, topic_response, partition_response}
use Rattle.kp_frames.specs.Response.{response_at, answer, body as body_codec, Spells}
use Rattle.kp_frames.proofs.ResponseLemmas.{response_found}
use Rattle.kp_log.proofs.PlaceLemmas.{In-nil}
use Rattle.kp_rules.specs.declared.outcome.Outcome.TheVariants.{Delivered}
use Rattle.kp_world.specs.LogLaws.{ToldOffsetsStand}
use Rattle.kp_world.proofs.Evaluation.{evaluated}
use Rattle.kp_headline.specs.Assumptions.{IsHonest, IsNotMadeUp, Assumed}
use Rattle.kp_headline.specs.Exhibits.{request_to, lead, reply, fetch, begun, first, sent_first, at_zero, reply_bytes, sent_state, meets, led_state, moved_state, sent_there_state, repeated_state, told_there_state, stored_and_moved, heard_once_state, forgets, stored_and_forgotten, Shows, Part, Honest, NotMadeUp, InTurn, IdsOnce, asked_by, IsNeeded}
use Rattle.kp_headline.specs.Moves.{IsMove, AreMoves, Throughout, led}
use Rattle.kp_headline.specs.Outside.{known}
use Rattle.kp_headline.proofs.SomeMoves.{accepts, appends, bytes_by, fed, packet_of, produce_at, repeats, response_to, sends, spells, told_first}

-- ---- each is a move

comes_first : IsMove sent_state (meets 0)
unfolding evaluated
comes_first = record { packet = packet_of 2; went_out = refl; parts = sent_first ∷ []; demand = refl; part = (0, omega arith, refl); there = omega arith }

leads : IsMove led_state (lead 0 1 5 led_state)
unfolding evaluated
leads = refl

sends_there : IsMove moved_state (request_to 1 105 moved_state)
unfolding evaluated
sends_there = (refl, refl)

comes_there : IsMove sent_there_state (meets 1)
unfolding evaluated
comes_there = record { packet = packet_of 3; went_out = refl; parts = sent_first ∷ []; demand = refl; part = (0, omega arith, refl); there = omega arith }

hears : IsMove repeated_state (reply 110 (reply_bytes 3 0) repeated_state)
unfolding evaluated response_at answer body_codec produce_response read_array by_length read_many topic_response is_utf8 chars encode partition_response
hears = (refl, refl)

fetches : IsMove told_there_state (fetch 0 told_there_state)
unfolding evaluated response_at answer body_codec produce_response read_array by_length read_many topic_response is_utf8 chars encode partition_response
fetches = (refl, refl)

are_moves : AreMoves begun stored_and_moved
are_moves = (accepts, (appends, (sends, (comes_first, (leads, (sends_there, (comes_there, (hears, (fetches, tt)))))))))

-- ---- all that is assumed holds of them

stores : IsHonest sent_state (meets 0)
unfolding evaluated
stores = record { change = inr (inl refl, refl); stands = λ e. record { before = []; after = []; split = refl; offset = refl; place = refl }; is_old = λ e. absurd (let apart : pos 0 ≡ pos 46 = e in cc) }

are_honest : Throughout IsHonest begun stored_and_moved
unfolding evaluated
are_honest = (tt, (tt, (tt, (stores, (tt, (tt, (repeats, (tt, (tt, tt)))))))))

is_given : IsNotMadeUp repeated_state (reply 110 (reply_bytes 3 0) repeated_state)
unfolding evaluated response_at answer body_codec produce_response read_array by_length read_many topic_response is_utf8 chars encode partition_response
is_given = λ e. inl (record {
  number = 1;
  packet = packet_of 3;
  went_out = refl;
  parts = sent_first ∷ [];
  demand = refl;
  response = response_to 3 0;
  named = refl;
  produce = produce_at 0;
  is_produce = refl;
  entries = (record { part = sent_first; answer = at_zero; said = (1, omega arith, refl); partition = refl; code = refl; base = refl }, tt);
  spells = spells;
})

is_assumed : Assumed begun stored_and_moved
unfolding evaluated
is_assumed = record {
  honest = are_honest;
  not_made_up = (tt, (tt, (tt, (tt, (tt, (tt, (tt, (is_given, (tt, tt)))))))));
  in_turn = (tt, (fed, (tt, (tt, (tt, (tt, (tt, (tt, (tt, tt)))))))));
  ids_once = (tt, (tt, (tt, (tt, (tt, (tt, (tt, (tt, (tt, tt)))))))));
}

pub moved : Shows stored_and_moved (told_first (pos 0)) (((record { sender = 0; partition = 0; number = 0; outcome = Delivered (pos 0) }) ∷ []) ∷ [])
unfolding evaluated response_at answer body_codec produce_response read_array by_length read_many topic_response is_utf8 chars encode partition_response
moved = record { moves = are_moves; assumed = is_assumed; told_in_all = refl; fetched_in_all = refl }

-- ---- an election of a node that never had it

hears_first : IsMove led_state (reply 7 (reply_bytes 2 0) led_state)
unfolding evaluated response_at answer body_codec produce_response read_array by_length read_many topic_response is_utf8 chars encode partition_response
hears_first = (refl, refl)

comes_late : IsMove heard_once_state forgets
unfolding evaluated response_at answer body_codec produce_response read_array by_length read_many topic_response is_utf8 chars encode partition_response
comes_late = record { packet = packet_of 2; went_out = refl; parts = sent_first ∷ []; demand = refl; part = (0, omega arith, refl); there = omega arith }

spells_first : Spells api.Produce (reply_bytes 2 0) (response_to 2 0)
unfolding evaluated response_at answer body_codec produce_response read_array by_length read_many topic_response is_utf8 chars encode partition_response
spells_first = response_found api.Produce (reply_bytes 2 0) (response_to 2 0) (bytes_by (reply_bytes 2 0) refl) refl

is_said : IsNotMadeUp led_state (reply 7 (reply_bytes 2 0) led_state)
unfolding evaluated response_at answer body_codec produce_response read_array by_length read_many topic_response is_utf8 chars encode partition_response
is_said = λ e. inl (record {
  number = 0;
  packet = packet_of 2;
  went_out = refl;
  parts = sent_first ∷ [];
  demand = refl;
  response = response_to 2 0;
  named = refl;
  produce = produce_at 0;
  is_produce = refl;
  entries = (record { part = sent_first; answer = at_zero; said = (0, omega arith, refl); partition = refl; code = refl; base = refl }, tt);
  spells = spells_first;
})

but_honest : (x : Part) → (x ≡ Honest → ⊥) → Throughout (asked_by x) begun stored_and_forgotten
unfolding evaluated
but_honest Honest n = absurd (n refl)
but_honest NotMadeUp n = (tt, (tt, (tt, (tt, (is_said, (tt, tt))))))
but_honest InTurn n = (tt, (fed, (tt, (tt, (tt, (tt, tt))))))
but_honest IdsOnce n = (tt, (tt, (tt, (tt, (tt, (tt, tt))))))

nothing_stands : ToldOffsetsStand (known (led begun stored_and_forgotten)) → ⊥
unfolding evaluated response_at answer body_codec produce_response read_array by_length read_many topic_response is_utf8 chars encode partition_response
nothing_stands law =
    let s = law (record { item = first; outcome = Delivered (pos 0) }) (pos 0) (0, omega arith, refl) refl in
    In-nil _ (record { earlier = s.before; later = s.after; split = s.record_is })

pub forgotten : IsNeeded Honest stored_and_forgotten ToldOffsetsStand
forgotten = record { moves = (accepts, (appends, (sends, (comes_first, (hears_first, (comes_late, tt)))))); others = but_honest; broken = nothing_stands }
