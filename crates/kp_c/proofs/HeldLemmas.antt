-- A handle's producer is taken out, called, and put back.
use Rattle.std.proofs.Common.{◌≡◌, sym, subst, ap, ◌∙◌}
use Rattle.std.specs.Prelude.{Option, Some}
use Rattle.kp_c.specs.Calls.{Makes, OnHeld}
use Rattle.kp_embed.specs.Producer.{Producer}

pub makes : (Becomes : Producer → Producer → Type 0) (held old : Producer) (first last : Option Producer) (new : Producer)
    → first ≡ Some held → old ≡ held → last ≡ Some new → Becomes old new → Makes Becomes first last
makes Becomes held old first last new taken same put became =
    subst (λ (o : Option Producer). Makes Becomes o last) (ap (λ (p : Producer). Some p) same ∙ sym taken)
    (subst (λ (n : Option Producer). Makes Becomes (Some old) n) (sym put) became)

pub on_held : (Becomes : Producer → Producer → Type 0) (held old : Producer) (first last : Option Producer) (new : Producer)
    → first ≡ Some held → old ≡ held → last ≡ Some new → Becomes old new → OnHeld Becomes first last
on_held Becomes held old first last new taken same put became =
    subst (λ (o : Option Producer). OnHeld Becomes o last) (ap (λ (p : Producer). Some p) same ∙ sym taken)
    (subst (λ (n : Option Producer). OnHeld Becomes (Some old) n) (sym put) became)
