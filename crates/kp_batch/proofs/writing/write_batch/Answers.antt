use Rattle.std.proofs.Common.{map, ◌≡◌, ◌∙◌, ◌+◌, ◌++◌, length, take, drop, [], ap, sym, subst, refl, List, ℕ, arith}
use Rattle.kp_batch.specs.Spelling.{front, Spells, written, covered}
use Rattle.kp_batch.proofs.SizeLemmas.{size_of_batch-is}
use Rattle.std.proofs.lemmas.List.{take_at}
use Rattle.kp_batch.proofs.BatchLemmas.{length-covered, length-before}
use Rattle.kp_batch.proofs.WritingLemmas.{unsealed, unsealed_spelled, sealed, batch_spelled}
use Rattle.kp_batch.proofs.writing.write_batch.Goals as goal

-- what stands before the seal
before : (out front-bytes covered-bytes whole : List ℕ) (o1 : List ℕ) → out ≡ [] → o1 ≡ out ++ front-bytes → whole ≡ o1 ++ covered-bytes → whole ≡ front-bytes ++ covered-bytes
before out f cov whole o1 e0 e1 e2 = rw (e2, e1, e0) refl

pub seal-requires : goal.seal-requires
unfolding unsealed
seal-requires g c =
    let rs = map g.T.AsRecord.body c.args.records.now in
    let cov = covered c.args.h rs in
    let whole : c.deref_mut.result.now ≡ front.spell unsealed ++ cov = c.deref_mut.ensures.value ∙ before _ (front.spell unsealed) cov _ _ c.in_ok-out.ensures.items (c.in_ok-extend_from_slice.ensures.items ∙ ap (λ (x : List ℕ). c.in_ok-out.out.items ++ x) (sym unsealed_spelled)) c.in_ok-put_covered.ensures.spelled in
    let sum : length c.deref_mut.result.now ≡ 21 + length cov = ap length whole ∙ length-before unsealed cov in
    record {
      long = omega (arith, sum);
      fits = omega (arith, sum, length-covered c.args.h rs, size_of_batch-is rs, c.requires.fits);
    }

pub returns : goal.returns
unfolding unsealed
returns g c =
    let h = c.args.h in
    let rs = map g.T.AsRecord.body c.args.records.now in
    let cov = covered h rs in
    let whole : c.deref_mut.result.now ≡ front.spell unsealed ++ cov = c.deref_mut.ensures.value ∙ before _ (front.spell unsealed) cov _ _ c.in_ok-out.ensures.items (c.in_ok-extend_from_slice.ensures.items ∙ ap (λ (x : List ℕ). c.in_ok-out.out.items ++ x) (sym unsealed_spelled)) c.in_ok-put_covered.ensures.spelled in
    let items : c.put_covered.new.out.items ≡ c.deref_mut.result.now = sym c.deref_mut.ensures.value in
    let done : c.seal.new.bytes ≡ front.spell (sealed unsealed cov) ++ cov = c.seal.ensures.sealed unsealed cov whole in
    let same : length c.deref_mut.result.now ≡ length c.seal.new.bytes = omega (arith, ap length whole, ap length done, length-before unsealed cov, length-before (sealed unsealed cov) cov) in
    let through = take_at c.seal.new.bytes (drop (length c.seal.new.bytes) c.deref_mut.result.now) c.put_covered.new.out.len (sym (c.put_covered.new.out.ok.0 ∙ ap length items ∙ same)) in
    let S : List ℕ → Type 0 = λ x. Spells (take c.put_covered.new.out.len (c.seal.new.bytes ++ drop (length c.seal.new.bytes) x)) (written h rs) in
    subst S (sym items)
    (batch_spelled h rs _ (omega (arith, length-covered h rs, size_of_batch-is rs, c.requires.fits)) c.in_ok-put_covered.ensures.fits (c.seal.ensures.fits unsealed cov whole) (through ∙ done))
