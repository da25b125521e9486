use Rattle.std.proofs.Common.{ℕ, List, ◌∙◌, subst}
use Rattle.std.specs.Io.KnownBytes.{Appends}
use Rattle.kprod.proofs.running.print_run.Goals as goal

pub returns-in-Ok-write_whole : goal.returns-in-Ok-write_whole
returns-in-Ok-write_whole g c =
    subst (λ (bs : List ℕ). Appends (g.O.Write.contents c.args.out.now) (g.O.Write.contents c.write_whole.new.out) bs)
    (c.as_slice.ensures.value ∙ c.in-Ok.ensures) c.in-Ok-write_whole.ensures
