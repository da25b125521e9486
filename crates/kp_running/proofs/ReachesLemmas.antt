-- One poll more, before any number of polls.
use Rattle.std.proofs.Common.{◌≡◌, ◌∷◌, Option, Some, IfSome, sym, subst}
use Rattle.futures.specs.Poll.{OnPending}
use Rattle.futures.specs.declared.task.Poll.{Poll}
use Rattle.futures.specs.declared.task.Poll.TheVariants.{Ready, Pending}
use Rattle.kp_running.specs.Running.{Reaches}

module _ {E P : Type 0} (polls : E → Poll P → E → Type 0) where
  pub Reaches-then : (old next new : E) (stop : P) → polls old Pending next → Reaches polls next stop new → Reaches polls old stop new
  Reaches-then old next new stop went later = record { between = next ∷ later.between; goes = (went, later.goes) }

  -- what an owner of the engine gives later, it gives from before a pending poll
  pub gives_later : {A : Type 0} (r : Poll A) (was is : Option E) (old next : E) → was ≡ Some old → is ≡ Some next → polls old Pending next
      → OnPending r ((out : E × P) → IfSome is (λ e. Reaches polls e out.1 out.0) → IfSome was (λ e. Reaches polls e out.1 out.0))
  gives_later (Ready x) was is old next before after went = tt
  gives_later Pending was is old next before after went = λ out later.
      let Later : Option E → Type 0 = λ o. IfSome o (λ e. Reaches polls e out.1 out.0) in
      subst Later (sym before) (Reaches-then old next out.0 out.1 went (subst Later after later))
