use Rattle.std.proofs.Common.{◌≡◌, ◌∙◌, Some, None, ap}
use Rattle.std.specs.Prelude.{find, option_map}
use Rattle.kp_rules.specs.Attempts.{goes_to}
use Rattle.kp_rules.specs.Records.{Core, Request}
use Rattle.kp_core.proofs.machine.Core.oldest_to.Goals as goal

pub returns : goal.returns
returns c =
    let found : Some c.in_ok-first_to.field-0.now ≡ find (goes_to c.args.node) c.args.self.now.requests =
    c.in_ok-first_to.ensures ∙ ap (find (goes_to c.args.node)) c.deref.ensures.value ∙ ap (λ (x : Core). find (goes_to c.args.node) x.requests) c.self.view_is in
    ap Some c.sent.ensures ∙ ap (option_map (λ (r : Request). r.sent)) found

pub returns-in_err-first_to : goal.returns-in_err-first_to
returns-in_err-first_to c =
    let found : None ≡ find (goes_to c.args.node) c.args.self.now.requests =
    c.in_err-first_to.ensures ∙ ap (find (goes_to c.args.node)) c.deref.ensures.value ∙ ap (λ (x : Core). find (goes_to c.args.node) x.requests) c.self.view_is in
    c.from_residual.ensures ∙ ap (option_map (λ (r : Request). r.sent)) found
