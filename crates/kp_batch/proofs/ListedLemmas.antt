-- The records in a list of things that have one.
use Rattle.std.proofs.Common.{◌≡◌, ℕ, ◌<◌, max, List, [], ◌∷◌, ◌++◌, length, map, get_or, refl, sym, ap, ◌∙◌, arith}
use Rattle.std.proofs.lemmas.List.{length-map, get_or-map}
use Rattle.kp_batch.specs.declared.record.Record.{Record}
use Rattle.kp_batch.specs.Spelling.{base_timestamp, max_timestamp}

-- the record in the item at place k stands at place k
pub record_here : {T : Type 0} (record_in : T → Record) (items : List T) (k : ℕ) (item : T) (r : Record) → k < length items → item ≡ get_or items k item → r ≡ record_in item
    → (k < length (map record_in items)) × (r ≡ get_or (map record_in items) k r)
record_here record_in items k item r lt here is = (omega (arith, length-map items record_in), is ∙ ap record_in here ∙ sym (get_or-map record_in items k item r lt))

pub first_timestamp : {T : Type 0} (record_in : T → Record) (items : List T) (item : T) (r : Record) → 0 < length items → item ≡ get_or items 0 item → r ≡ record_in item → r.timestamp ≡ base_timestamp (map record_in items)
first_timestamp record_in [] item r some here is = absurd (omega arith)
first_timestamp record_in (x ∷ items) item r some here is = ap (λ (y : Record). y.timestamp) (is ∙ ap record_in here)

-- with more records behind them, the first is the same
pub base_timestamp-append : (rs more : List Record) → 0 < length rs → base_timestamp (rs ++ more) ≡ base_timestamp rs
base_timestamp-append [] more some = absurd (omega arith)
base_timestamp-append (r ∷ rs) more some = refl

pub latest_timestamp : (rs : List Record) → max (base_timestamp rs) (max_timestamp rs) ≡ max_timestamp rs
latest_timestamp [] = omega arith
latest_timestamp (r ∷ rs) = omega arith
