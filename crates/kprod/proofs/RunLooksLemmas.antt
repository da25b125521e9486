-- What keeps a run from beginning, what it prints, and what is no run.
use Rattle.std.proofs.Common.{◌≡◌, ◌∙◌, ℕ, List, ap, arith, inl, subst}
use Rattle.std.specs.Prelude.{Option, Some, None, Result, Ok, Err, IfSome, IsErrAnd}
use Rattle.std.proofs.lemmas.Result.{err_from_is_err_and}
use Rattle.kp_run.specs.Options.{AreFine, RefusedFor}
use Rattle.kp_run.specs.declared.fault.RunFault.{RunFault}
use Rattle.kp_run.specs.declared.checked.Checked.{Checked}
use Rattle.kp_options.specs.declared.options.Options.{Options}
use Rattle.kprod.specs.Faults.{of_run}
use Rattle.kp_command_line.specs.CommandLine.{Sends}
use Rattle.kp_command_line.specs.declared.command_line.Command.{Command}
use Rattle.kp_command_line.specs.declared.command_line.Command.TheVariants.{Pack, Replay, Run, Send}
use Rattle.kprod.specs.Runs.{Looks, LooksFirst, PrintsLines, PrintsRun}
use Rattle.kprod.specs.declared.fault.Fault.{Fault}

pub told_first : (options : Options) (why : RunFault) (r : Result (Unit {0}) Fault) → RefusedFor options why → IsErrAnd r (λ y. y ≡ of_run why) → LooksFirst options r
told_first options why r refused is =
    let left = err_from_is_err_and r is in
    inl (why, refused, left.1 ∙ ap Err left.2)

pub prints_run : (options : Options) (looked_at : Checked) (known : Option (List ℕ)) (read : List ℕ) (held held' : Option (List ℕ))
    → AreFine options looked_at → IfSome known (λ bytes. read ≡ bytes) → PrintsLines looked_at read held held'
    → IfSome known (λ bytes. PrintsRun options bytes held held')
prints_run options looked_at None read held held' fine is prints = tt
prints_run options looked_at (Some bytes) read held held' fine is prints = record {
  looked_at = looked_at;
  fine = fine;
  prints = subst (λ (bs : List ℕ). PrintsLines looked_at bs held held') is prints;
}

-- A command that is another program's does not end well.
pub sends_nothing : (command : Command) (done : Unit {0}) → Sends command → Looks command (Ok done) → ⊥
sends_nothing Send done sends looks = grind (arith, looks)
sends_nothing (Pack file) done sends looks = sends
sends_nothing (Replay file) done sends looks = sends
sends_nothing (Run wanted) done sends looks = sends
