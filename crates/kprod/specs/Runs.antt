-- What a run prints, and what keeps it from beginning.
use Rattle.std.specs.Prelude.{◌≡◌, ◌⊎◌, ℕ, List, map, Option, Result, Err}
use Rattle.std.specs.Io.KnownBytes.{Appends}
use denote.Ref.{Bor}
use Rattle.kp_run.specs.Options.{AreFine, RefusedFor}
use Rattle.kp_run.specs.Runs.{CameOf}
use Rattle.kp_run.specs.declared.fault.RunFault.{RunFault}
use Rattle.kp_run.specs.declared.checked.Checked.{Checked}
use Rattle.kp_options.specs.declared.options.Options.{Options}
use Rattle.kp_run.specs.declared.running.Came.{Came}
use Rattle.kprod.specs.Faults.{of_run}
use Rattle.kp_program.specs.Lines.{lines}
use Rattle.kprod.specs.RunText.{run_text}
use Rattle.kp_command_line.specs.declared.command_line.Command.{Command}
use Rattle.kp_command_line.specs.declared.command_line.Command.TheVariants.{Pack, Replay, Run, Send}
use Rattle.kprod.specs.declared.fault.Fault.{Fault}
use Rattle.kprod.specs.declared.fault.Fault.TheVariants.{Elsewhere}

-- ---- what is printed

-- Something came of the lines, and an output has gained the text of it.
pub record Prints (looked_at : Checked) (sent : List (Bor (List ℕ))) (held held' : Option (List ℕ)) : Type 0 where
  pub came : Came
  pub of_run : CameOf looked_at sent came
  pub printed : Appends held held' (run_text looked_at.options.totals came)

-- The same of the lines of these bytes.
pub record PrintsLines (looked_at : Checked) (bytes : List ℕ) (held held' : Option (List ℕ)) : Type 0 where
  pub sent : List (Bor (List ℕ))
  pub are : map (λ line. line.now) sent ≡ lines bytes
  pub prints : Prints looked_at sent held held'

-- The same where the options have no fault.
pub record PrintsRun (options : Options) (bytes : List ℕ) (held held' : Option (List ℕ)) : Type 0 where
  pub looked_at : Checked
  pub fine : AreFine options looked_at
  pub prints : PrintsLines looked_at bytes held held'

-- ---- which fault is told

-- The first fault of the options is told; or they have none, whatever came then.
abbrev pub LooksFirst : Options → Result (Unit {0}) Fault → Type 0
LooksFirst options result =
    ((why : RunFault) × RefusedFor options why × (result ≡ Err (of_run why)))
    ⊎ ((looked_at : Checked) × AreFine options looked_at)

-- So it is with a run; any other command is left to another program.
abbrev pub Looks : Command → Result (Unit {0}) Fault → Type 0
Looks (Run wanted) result = LooksFirst wanted.options result
Looks (Pack file) result = result ≡ Err Elsewhere
Looks (Replay file) result = result ≡ Err Elsewhere
Looks Send result = result ≡ Err Elsewhere
