-- Headers that are read one after the other.
use Rattle.std.proofs.Common.{◌≡◌, ℕ, ◌+◌, ◌<◌, ◌≤◌, List, [], ◌∷◌, ◌++◌, length, take, drop, Option, sym, ap, ◌∙◌}
use Rattle.std.proofs.lemmas.List.{append_assoc, append-nil, drop_all, drop_more}
use Rattle.std.proofs.Math.ListN.{get_or}
use Rattle.kp_batch.specs.declared.record.Header.{Header}
use Rattle.kp_c.specs.Records.{behind, given, header_at, headers_in, value_len}
use Rattle.kp_c.specs.declared.values.KpSpan.{KpSpan}

pub headers_more : (all : List Header) (spans : List KpSpan) (place : ℕ) (d : KpSpan) (first new : List Header) (rest others : List ℕ)
    → place < length spans → all ≡ first ++ headers_in (drop place spans) rest
    → new ≡ first ++ header_at (get_or spans place d) rest ∷ [] → others ≡ behind (get_or spans place d) rest
    → all ≡ new ++ headers_in (drop (place + 1) spans) others
unfolding headers_in
headers_more all spans place d first new rest others lt so put is =
    let s = get_or spans place d in
    so ∙ ap (λ (ss : List KpSpan). first ++ headers_in ss rest) (drop_more spans place d lt)
    ∙ sym (append_assoc first (header_at s rest ∷ []) (headers_in (drop (place + 1) spans) (behind s rest)))
    ∙ ap (λ (hs : List Header). hs ++ headers_in (drop (place + 1) spans) (behind s rest)) (sym put)
    ∙ ap (λ (r : List ℕ). new ++ headers_in (drop (place + 1) spans) r) (sym is)

pub headers_all : (all : List Header) (spans : List KpSpan) (place : ℕ) (first : List Header) (rest : List ℕ)
    → length spans ≤ place → all ≡ first ++ headers_in (drop place spans) rest → first ≡ all
unfolding headers_in
headers_all all spans place first rest past so =
    sym (so ∙ ap (λ (ss : List KpSpan). first ++ headers_in ss rest) (drop_all place spans past) ∙ append-nil first)

-- A header of this name and this value.
pub header_is : (s : KpSpan) (bytes key : List ℕ) (value : Option (List ℕ))
    → key ≡ take s.name_len bytes → value ≡ given s.has_value (take (value_len s) (drop s.name_len bytes))
    → record { key = key; value = value } ≡ header_at s bytes
header_is s bytes key value named valued =
    ap (λ (k : List ℕ). record { key = k; value = value }) named ∙ ap (λ (v : Option (List ℕ)). record { key = take s.name_len bytes; value = v }) valued
