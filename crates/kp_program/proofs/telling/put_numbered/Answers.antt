use Rattle.std.proofs.Common.{◌++◌, decimal}
use Rattle.std.proofs.lemmas.Result.{on_ok_weaker}
use Rattle.std.proofs.KnownBytes.{Appends-trans}
use Rattle.kp_text.specs.Lines.{newline}
use Rattle.kp_program.proofs.telling.put_numbered.Goals as goal

pub returns : goal.returns
returns g c =
    let at_first = g.W.Write.contents c.args.err.now in
    let after_text = g.W.Write.contents c.write_all.new.self in
    let after_number = g.W.Write.contents c.write_all-2.new.self in
    let at_last = g.W.Write.contents c.write_all-3.new.self in
    let text = c.args.text.now in
    let digits = decimal c.args.number in
    let named = rw (c.as_bytes.ensures.value, c.format.ensures.text) at c.in_ok-write_all-2.ensures.bytes in
    let two = Appends-trans at_first after_text after_number text digits c.in_ok-write_all.ensures.bytes named in
    on_ok_weaker c.write_all-3.result (λ last. Appends-trans at_first after_number at_last (text ++ digits) newline two last) c.write_all-3.ensures.bytes
