use Rattle.std.proofs.Common.{◌≡◌, [], ap, sym, subst}
use Rattle.kp_embed.specs.Going.{Stays}
use Rattle.kp_drive.specs.Serving.{fresh_pipe}
use Rattle.kp_drive.specs.declared.pipe.Pipe.{Pipe}
use Rattle.kp_drive.proofs.ServeLemmas.{stays_same}
use Rattle.kp_drive.proofs.link.open.Goals.{in-Some+in-Ok+in-Err, in-Some+in_default-new, in_default}
use Rattle.kp_drive.proofs.link.open.Goals as goal

fresh_unwritten : {S : Type 0} (pipe : Pipe S) (stream : S) → pipe ≡ fresh_pipe stream → pipe.unwritten ≡ []
fresh_unwritten {S} pipe stream is = ap (λ (b : Pipe S). b.unwritten) is

pub returns-in-Ok-connected : goal.returns-in-Ok-connected
returns-in-Ok-connected g c = λ k. (fresh_unwritten c.in-Ok.pipe c.in-Some.stream c.in-Ok.ensures, c.in-Ok-connected.ensures.connects)

pub returns : goal.returns
returns g c = λ k.
    let p = c.args.embed.now in
    let stays : Stays p c.match-made.embed = elim c.match-made.branch [
      | in-Some+in-Ok+in-Err w ↦ subst (Stays p) (sym w.embed-is) w.in-Err.ensures.refused
      | in-Some+in_default-new w ↦ subst (Stays p) (sym w.embed-is) (stays_same p)
      | in_default w ↦ subst (Stays p) (sym w.embed-is) (stays_same p)
    ] in
    record { after = c.match-made.embed; refused = stays; lost = c.lost.ensures.loses }
