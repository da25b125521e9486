use Rattle.std.proofs.Common.{◌++◌, codes, decimal}
use Rattle.std.proofs.lemmas.Result.{on_ok_weaker}
use Rattle.std.proofs.KnownBytes.{Appends-trans}
use Rattle.kp_text.specs.Lines.{newline}
use Rattle.kprod_replay.proofs.fault.put_line_fault.Goals as goal

pub returns : goal.returns
returns g c =
    let at_first = g.W.Write.contents c.args.err.now in
    let after_words = g.W.Write.contents c.write_all.new.self in
    let after_number = g.W.Write.contents c.write_all-2.new.self in
    let after_wrong = g.W.Write.contents c.write_all-3.new.self in
    let at_last = g.W.Write.contents c.write_all-4.new.self in
    let words = codes "kprod: line " in
    let digits = decimal c.args.line in
    let wrong = c.args.wrong.now in
    let named = rw (c.as_bytes.ensures.value, c.format.ensures.text) at c.in_ok-write_all-2.ensures.bytes in
    let two = Appends-trans at_first after_words after_number words digits c.in_ok-write_all.ensures.bytes named in
    let three = Appends-trans at_first after_number after_wrong (words ++ digits) wrong two c.in_ok-write_all-3.ensures.bytes in
    on_ok_weaker c.write_all-4.result (λ last. Appends-trans at_first after_wrong at_last ((words ++ digits) ++ wrong) newline three last) c.write_all-4.ensures.bytes
