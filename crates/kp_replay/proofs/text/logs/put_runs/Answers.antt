use Rattle.std.proofs.Common.{ℕ, List, ◌++◌, ◌∙◌, ap}
use Rattle.std.proofs.lemmas.Result.{on_ok_weaker}
use Rattle.kp_replay.proofs.LineLemmas.{runs_told}
use Rattle.kp_replay.proofs.text.logs.put_runs.Goals as goal

pub returns-in-Some : goal.returns-in-Some
returns-in-Some c =
    rw c.in-Some.is
    (on_ok_weaker c.put_audit.result
    (λ done. done ∙ ap (λ (text : List ℕ). c.args.out.now.items ++ text) (runs_told c.args.partition c.in-Some.runs.now))
    c.put_audit.ensures)
