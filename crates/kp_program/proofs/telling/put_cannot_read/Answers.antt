use Rattle.std.proofs.Common.{◌++◌, codes}
use Rattle.std.proofs.lemmas.Result.{on_ok_weaker}
use Rattle.kp_text.specs.Lines.{newline}
use Rattle.std.proofs.KnownBytes.{Appends-trans}
use Rattle.kp_program.proofs.telling.put_cannot_read.Goals as goal

pub returns : goal.returns
returns g c =
    let at_first = g.W.Write.contents c.args.err.now in
    let after_words = g.W.Write.contents c.write_all.new.self in
    let after_file = g.W.Write.contents c.write_all-2.new.self in
    let at_last = g.W.Write.contents c.write_all-3.new.self in
    let words = codes "kprod: cannot read " in
    let file = c.args.file.now in
    let named = rw c.as_bytes.ensures.value at c.in_ok-write_all-2.ensures.bytes in
    let two = Appends-trans at_first after_words after_file words file c.in_ok-write_all.ensures.bytes named in
    on_ok_weaker c.write_all-3.result (λ last. Appends-trans at_first after_file at_last (words ++ file) newline two last) c.write_all-3.ensures.bytes
