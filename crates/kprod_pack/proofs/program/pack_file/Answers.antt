use Rattle.std.proofs.Common.{◌≡◌, ℕ, List, subst}
use Rattle.kp_packing.specs.Packed.{packed_text}
use Rattle.kp_program.specs.Lines.{lines}
use Rattle.kprod_pack.proofs.PrintLemmas.{prints_packed}
use Rattle.kprod_pack.proofs.program.pack_file.Goals as goal

pub returns-in-Ok : goal.returns-in-Ok
returns-in-Ok g c = record {
  input = λ dash.
      let text = c.in_ok-text.text.items in
      let is = subst (λ (read : List ℕ). text ≡ packed_text (lines read)) c.as_slice.ensures.value c.in_ok-text.ensures.text in
      prints_packed (g.I.Read.remaining c.args.input.now) c.in_ok-bytes.bytes.items text
      (g.O.Write.contents c.args.out.now) (g.O.Write.contents c.write_whole.new.out) (c.in_ok-bytes.ensures.input dash) is
      (rw c.as_slice-2.ensures.value at c.in-Ok.ensures);
}
