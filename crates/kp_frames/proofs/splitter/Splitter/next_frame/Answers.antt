use Rattle.std.proofs.Common.{◌≡◌, ◌+◌, ◌∷◌, ◌++◌, [], ℕ, List, Ok, Err, drop, length, ap, sym, subst, ◌∙◌, refl, arith}
use Rattle.kp_frames.specs.Stream.{Split, frame, first, stream}
use Rattle.kp_frames.specs.Held.{IsHeld}
use Rattle.kp_frames.specs.Life.{behind}
use Rattle.kp_frames.proofs.StreamLemmas.{first_then, first_none}
use Rattle.kp_frames.proofs.HeldLemmas.{from_here, gives_frame, none_whole, refused, dropped}
use Rattle.kp_frames.proofs.splitter.Splitter.next_frame.Goals as goal

pub returns-then-self : goal.returns-then-self
returns-then-self c =
    let bytes = c.self.inside.bytes.items in
    let all : (stream (drop c.self.inside.given bytes)).rest ≡ drop c.self.inside.given bytes =
    c.self.invariant.held.rest ∙ ap (λ (n : ℕ). drop n bytes) (sym c.if-self.true) in
    (none_whole c.args.self.now (subst (λ (held : List ℕ). (stream held).rest ≡ held) c.self.view_is all), refl)

pub returns-in_default : goal.returns-in_default
returns-in_default c =
    let at = from_here c.deref.result.now c.self.inside.bytes.items c.self.inside.given c.deref.ensures.value ∙ c.self.view_is in
    let e : first c.args.self.now ≡ Err c.in_default.field-0 = ap first (sym at) ∙ c.in_default.ensures.first in
    (ap (λ (s : Split). s.frames) (first_none c.args.self.now c.in_default.field-0 e), refl)

pub returns-in_err-frame : goal.returns-in_err-frame
returns-in_err-frame c =
    let at = from_here c.deref.result.now c.self.inside.bytes.items c.self.inside.given c.deref.ensures.value ∙ c.self.view_is in
    let e : first c.args.self.now ≡ Ok (c.in-Ok.content.now, c.in-Ok.field-0-1.now) = ap first (sym at) ∙ c.in-Ok.ensures.first in
    refused c.args.self.now c.in-Ok.content.now c.in-Ok.field-0-1.now c.from_residual.result e c.from_residual.ensures.1

pub overflow_add-given-2 : goal.overflow_add-given-2
overflow_add-given-2 c =
    let at = from_here c.deref.result.now c.self.inside.bytes.items c.self.inside.given c.deref.ensures.value in
    let e : first (drop c.self.inside.given c.self.inside.bytes.items) ≡ Ok (c.in-Ok.content.now, c.in-Ok.field-0-1.now) = ap first (sym at) ∙ c.in-Ok.ensures.first in
    let g = gives_frame c.self.inside.bytes.items c.in-Ok.content.now c.in-Ok.field-0-1.now c.self.inside.given c.self.inside.whole c.self.inside.tail c.self.invariant.held e in
    let n : c.len.result ≡ length c.in-Ok.content.now = c.len.ensures ∙ c.in_ok-frame.ensures.len in
    let fits = g.fits in
    let len = c.deref.ensures in
    omega (arith, ap length c.deref.ensures.value)

pub drop_given-requires-clause-before : goal.drop_given-requires-clause-before
drop_given-requires-clause-before c =
    let at = from_here c.deref.result.now c.self.inside.bytes.items c.self.inside.given c.deref.ensures.value in
    let e : first (drop c.self.inside.given c.self.inside.bytes.items) ≡ Ok (c.in-Ok.content.now, c.in-Ok.field-0-1.now) = ap first (sym at) ∙ c.in-Ok.ensures.first in
    let g = gives_frame c.self.inside.bytes.items c.in-Ok.content.now c.in-Ok.field-0-1.now c.self.inside.given c.self.inside.whole c.self.inside.tail c.self.invariant.held e in
    let n : c.len.result ≡ length c.in-Ok.content.now = c.len.ensures ∙ c.in_ok-frame.ensures.len in
    let before = g.held.given_before in
    omega arith

pub invariant_of-self : goal.invariant_of-self
invariant_of-self c =
    let at = from_here c.deref.result.now c.self.inside.bytes.items c.self.inside.given c.deref.ensures.value in
    let e : first (drop c.self.inside.given c.self.inside.bytes.items) ≡ Ok (c.in-Ok.content.now, c.in-Ok.field-0-1.now) = ap first (sym at) ∙ c.in-Ok.ensures.first in
    let g = gives_frame c.self.inside.bytes.items c.in-Ok.content.now c.in-Ok.field-0-1.now c.self.inside.given c.self.inside.whole c.self.inside.tail c.self.invariant.held e in
    let n : c.len.result ≡ length c.in-Ok.content.now = c.len.ensures ∙ c.in_ok-frame.ensures.len in
    let held = subst (λ (k : ℕ). IsHeld c.self.inside.bytes.items (c.self.inside.given + (4 + k)) c.self.inside.whole c.self.inside.tail) (sym n) g.held in
    dropped c.self.inside.bytes.items c.drop_given.new.bytes.items (c.self.inside.given + (4 + c.len.result)) c.self.inside.whole c.drop_given.result.0 c.drop_given.result.1 c.self.inside.tail
    held c.drop_given.ensures

pub returns : goal.returns
returns c =
    let at = from_here c.deref.result.now c.self.inside.bytes.items c.self.inside.given c.deref.ensures.value in
    let e : first (drop c.self.inside.given c.self.inside.bytes.items) ≡ Ok (c.in-Ok.content.now, c.in-Ok.field-0-1.now) = ap first (sym at) ∙ c.in-Ok.ensures.first in
    let g = gives_frame c.self.inside.bytes.items c.in-Ok.content.now c.in-Ok.field-0-1.now c.self.inside.given c.self.inside.whole c.self.inside.tail c.self.invariant.held e in
    let n : c.len.result ≡ length c.in-Ok.content.now = c.len.ensures ∙ c.in_ok-frame.ensures.len in
    let rest : drop c.drop_given.result.0 c.drop_given.new.bytes.items ≡ c.in-Ok.field-0-1.now =
    c.drop_given.ensures.waiting ∙ ap (λ (k : ℕ). drop (c.self.inside.given + (4 + k)) c.self.inside.bytes.items) n ∙ g.view in
    let items : c.in_ok-frame.frame.items ≡ c.in-Ok.content.now = c.in_ok-frame.ensures.items in
    let now : first c.args.self.now ≡ Ok (c.in-Ok.content.now, c.in-Ok.field-0-1.now) = ap first (sym c.self.view_is) ∙ e in
    let spelled : c.args.self.now ≡ frame.spell c.in-Ok.content.now ++ c.in-Ok.field-0-1.now = sym c.self.view_is ∙ sym at ∙ c.in-Ok.ensures.spelled in
    let P : List ℕ → List ℕ → Type 0 = λ (a b : List ℕ). (first c.args.self.now ≡ Ok (a, b)) × (stream c.args.self.now ≡ behind (a ∷ []) (stream b)) × (c.args.self.now ≡ frame.spell a ++ b) in
    subst (λ (b : List ℕ). P c.in_ok-frame.frame.items b) (sym rest)
    (subst (λ (a : List ℕ). P a c.in-Ok.field-0-1.now) (sym items)
    (now, first_then c.args.self.now (c.in-Ok.content.now, c.in-Ok.field-0-1.now) now, spelled))
