-- A batch that is read was opened.
use Rattle.std.proofs.Common.{◌≡◌, ℕ, List, Ok, Result, Err, refl, sym, subst}
use Rattle.std.specs.Prelude.{IsOk, IfErr}
use Rattle.kp_wire.proofs.ReadLemmas.{bind_ok}
use Rattle.kp_batch.specs.declared.batch.Batch.{Batch}
use Rattle.kp_batch.specs.declared.fault.BatchFault.{BatchFault}
use Rattle.kp_batch.specs.Reading.{Opened, opened, batch_at}

pub read_opened : (bytes : List ℕ) (b : Batch) → batch_at bytes ≡ Ok b → IsOk (opened bytes)
unfolding batch_at
read_opened bytes b read =
    let o = bind_ok (opened bytes) _ b read in
    subst (λ (r : Result Opened BatchFault). IsOk r) (sym o.1) refl

-- so whatever is wanting behind it is wanting of an opened batch
pub wanting_opened : {A E : Type 0} (bytes : List ℕ) (b : Batch) (r : Result A E) → batch_at bytes ≡ Ok b → IfErr r (λ _. IsOk (opened bytes))
wanting_opened bytes b (Ok x) read = tt
wanting_opened bytes b (Err e) read = read_opened bytes b read
