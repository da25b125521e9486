use Rattle.std.proofs.Common.{◌++◌, codes, decimal}
use Rattle.std.proofs.lemmas.Result.{on_ok_weaker}
use Rattle.kp_text.specs.Ends.{ends_text}
use Rattle.kp_text.specs.Lines.{newline}
use Rattle.kp_text.proofs.TextLemmas.{three_texts}
use Rattle.kp_text.proofs.totals.put_totals.Goals as goal

pub returns : goal.returns
returns c =
    let first = codes "total accepted " ++ decimal c.args.accepted in
    on_ok_weaker c.end_line.result
    (three_texts first (ends_text c.args.reports.now) newline c.args.out.now.items c.put_named.new.out.items c.put_ends.new.out.items c.end_line.new.out.items
    c.in_ok-put_named.ensures c.in_ok-put_ends.ensures)
    c.end_line.ensures
