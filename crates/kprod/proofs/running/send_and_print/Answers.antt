use Rattle.std.proofs.Common.{subst}
use Rattle.std.proofs.lemmas.Result.{on_ok_weaker}
use Rattle.std.specs.Io.KnownBytes.{Appends}
use Rattle.kp_options.specs.declared.options.Options.{Options}
use Rattle.kprod.specs.RunText.{run_text}
use Rattle.kprod.proofs.running.send_and_print.Goals as goal

pub returns : goal.returns
returns g c =
    on_ok_weaker c.print_run-printed.result
    (λ printed. record {
      came = c.in_ok-came.came;
      of_run = c.in_ok-came.ensures;
      printed = subst
          (λ (o : Options). Appends (g.O.Write.contents c.args.out.now) (g.O.Write.contents c.print_run-printed.new.out) (run_text o.totals c.in_ok-came.came))
          c.options-options.ensures printed;
    })
    c.print_run-printed.ensures
