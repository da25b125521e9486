use Rattle.std.proofs.Common.{[], ◌++◌, ℕ, List, Vec, refl, sym, ◌∙◌, subst}
use Rattle.std.specs.Prelude.{Option, Ok}
use Rattle.std.proofs.Common.{Global}
use Rattle.kp_embed.specs.Hearing.{HearsAll, HearsOver}
use Rattle.kp_embed.proofs.ActLemmas.{acts_same, acts_then}
use Rattle.kp_embed.proofs.HearLemmas.{hears_more, hears_none, with_held}
use Rattle.kp_embed.proofs.embed.Embed.hear_all.Goals as goal
use Rattle.kp_frames.specs.Life.{Next}

pub returns-in-Err-clause-acts : goal.returns-in-Err-clause-acts
returns-in-Err-clause-acts c = ([], acts_same c.args.self.now)

pub loop-init : goal.loop-init
loop-init c =
    let a = c.args.self.now in
    let line = c.args.line.now in record {
      hears = subst (λ (held : List ℕ). HearsAll c.args.now a line c.args.bytes.now a (with_held held line)) (sym c.in_default.ensures.whole) (hears_none c.args.now a line c.args.bytes.now);
      lines = refl;
      still = refl;
    }

pub returns-in-Ok-None-clause-heard : goal.returns-in-Ok-None-clause-heard
returns-in-Ok-None-clause-heard c =
    let next = subst (λ (o : Option (Vec ℕ Global)). Next c.loop.line.held (Ok o) c.next_frame.new.self) c.in-Ok-None.field-0-is c.in-Ok-None.ensures in
    subst (λ (held : List ℕ). HearsAll c.args.now c.args.self.now c.args.line.now c.args.bytes.now c.loop.self (with_held held c.loop.line)) (sym next.1) c.loop.invariant.hears

pub returns-in-Err-hear-clause-acts : goal.returns-in-Err-hear-clause-acts
returns-in-Err-hear-clause-acts c =
    let h = c.loop.invariant.hears in
    let k = c.in-Err-hear.ensures.acts in
    (h.calls ++ k.0, acts_then c.args.self.now c.loop.self c.hear.new.self h.calls k.0 h.acts k.1)

pub loop-preserved : goal.loop-preserved
loop-preserved c =
    let content = c.in-Ok-Some.content.items in
    let rest = c.next_frame.new.self in
    let next = subst (λ (o : Option (Vec ℕ Global)). Next c.loop.line.held (Ok o) rest) c.in-Ok-Some.field-0-is c.in-Ok-Some.ensures in
    let heard = subst (λ (bytes : List ℕ). HearsOver c.args.now c.loop.self (with_held rest c.loop.line) bytes c.hear.new.self c.hear.new.line) c.deref.ensures.value c.in-Ok.ensures.heard in
    record {
      hears = hears_more c.args.now c.args.self.now c.loop.self c.hear.new.self c.args.line.now c.loop.line c.hear.new.line c.args.bytes.now content rest c.loop.invariant.hears next.2 heard;
      lines = c.hear.ensures.lines ∙ c.loop.invariant.lines;
      still = c.hear.ensures.still ∙ c.loop.invariant.still;
    }
