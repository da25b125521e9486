-- Bells that tell whose they are, one more after the other.
use Rattle.std.proofs.Common.{◌≡◌, ◌<◌, ◌≤◌, List, [], ◌∷◌, ◌++◌, Some, length, sym, ap, ◌∙◌, ⊎_elim, get_or, arith}
use Rattle.std.proofs.lemmas.Bool.{cases_lt}
use Rattle.std.proofs.lemmas.List.{get_or_append_left, get_or_push, length-append}
use Rattle.std.proofs.lemmas.Option.{get_or_from_slice_get, slice_get-get_or, slice_get_within}
use Rattle.kp_running.specs.Numbered.{AreNumbered}
use Rattle.kp_running.specs.declared.bell.SenderBell.{SenderBell}

pub none_numbered : AreNumbered []
none_numbered = record { its = λ i bell is. let near : i < 0 = slice_get_within [] i bell is in absurd (omega (arith, near)) }

pub numbered_then : (bells : List SenderBell) (next : SenderBell) → AreNumbered bells → next.number ≡ length bells → AreNumbered (bells ++ next ∷ [])
numbered_then bells next numbered number = record {
  its = λ i bell is.
      let at : get_or (bells ++ next ∷ []) i next ≡ bell = get_or_from_slice_get (bells ++ next ∷ []) i bell next is in
      let within : i < length (bells ++ next ∷ []) = slice_get_within (bells ++ next ∷ []) i bell is in
      ⊎_elim
      (λ (near : i < length bells).
      numbered.its i bell (slice_get-get_or bells i next near ∙ ap (λ (b : SenderBell). Some b) (sym (get_or_append_left bells (next ∷ []) next i near) ∙ at)))
      (λ (far : length bells ≤ i).
      let same : length bells ≡ i = omega (arith, far, within, length-append bells (next ∷ [])) in
      ap (λ (b : SenderBell). b.number) (sym at ∙ get_or_push bells next next i same) ∙ number ∙ same)
      (cases_lt i (length bells));
}
