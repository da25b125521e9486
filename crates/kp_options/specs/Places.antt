-- Where the broker is, and what follows of it.
use Rattle.std.specs.Prelude.{ℕ, List, Option, Some, None, option_map, unwrap_or}
use Rattle.kp_options.specs.declared.place.Place.{Place}
use Rattle.kp_options.specs.declared.place.Place.TheVariants.{Here, At}

-- the text of what the process's broker does in place of an answer, where there is one
abbrev pub plan_text : Place → Option (List ℕ)
plan_text (Here text) = option_map (λ t. t.now) text
plan_text (At address) = None

-- how many partitions the topic is to have, where that is known: a broker of the process has one where none is said
abbrev pub expected_partitions : Place → Option ℕ → Option ℕ
expected_partitions (Here text) said = Some (unwrap_or said 1)
expected_partitions (At address) said = said
