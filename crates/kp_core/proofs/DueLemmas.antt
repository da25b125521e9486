-- When a core is next to be looked at, from its parts.
use Rattle.std.proofs.Common.{◌≡◌, ◌∙◌, ℕ, ◌+◌, ◌<◌, List, [], ◌∷◌, ◌++◌, length, get_or, take, map, Option, sym, ap}
use Rattle.std.proofs.lemmas.List.{append-nil, get_or_default, take_more}
use Rattle.std.proofs.lemmas.List.Concat.{flat_map-append}
use Rattle.std.specs.Prelude.{flat_map}
use Rattle.kp_rules.specs.Due.{earliest, id_moments, moments, next_due_from, partition_moments}
use Rattle.kp_rules.specs.Records.{Core, Partition, Request}
use Rattle.kp_parts.specs.PartitionRooms.{sooner}
use Rattle.kp_parts.proofs.MomentLemmas.{earliest-append}

abbrev timeouts : Core → List Request → List ℕ
timeouts s requests = map (λ r. r.sent + s.config.request_timeout_ms) requests

abbrev of_partitions : Core → List Partition → List ℕ
of_partitions s ts = flat_map (partition_moments s.config) ts

pub due-is : (from : ℕ) (s : Core) (a b d : Option ℕ) → a ≡ earliest from (map (λ r. r.sent + s.config.request_timeout_ms) s.requests)
    → b ≡ earliest from (flat_map (partition_moments s.config) s.partitions) → d ≡ earliest from (id_moments s)
    → sooner (sooner a b) d ≡ next_due_from from s
unfolding next_due_from moments
due-is from s a b d e f g =
    let before = timeouts s s.requests in
    let behind = of_partitions s s.partitions in
    ap (λ (x : Option ℕ). sooner (sooner x b) d) e
    ∙ ap (λ (x : Option ℕ). sooner (sooner (earliest from before) x) d) f
    ∙ ap (λ (x : Option ℕ). sooner (sooner (earliest from before) (earliest from behind)) x) g
    ∙ ap (λ (x : Option ℕ). sooner x (earliest from (id_moments s))) (sym (earliest-append from before behind))
    ∙ sym (earliest-append from (before ++ behind) (id_moments s))

-- the moments of one more
pub earliest-more : (from : ℕ) (g : ℕ → List ℕ) (ps : List ℕ) (k : ℕ) → k < length ps
    → sooner (earliest from (flat_map g (take k ps))) (earliest from (g (get_or ps k 0))) ≡ earliest from (flat_map g (take (k + 1) ps))
earliest-more from g ps k l =
    let p = get_or ps k 0 in
    let before = flat_map g (take k ps) in
    sym (earliest-append from before (g p))
    ∙ ap (λ (xs : List ℕ). earliest from (before ++ xs)) (sym (append-nil (g p)))
    ∙ ap (earliest from) (sym (flat_map-append g (take k ps) (p ∷ [])))
    ∙ ap (λ (qs : List ℕ). earliest from (flat_map g qs)) (ap (λ (q : ℕ). take k ps ++ q ∷ []) (get_or_default ps k 0 p l) ∙ sym (take_more ps k p l))
