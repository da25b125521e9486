-- What a sender knows of the gate once it has left it, and what is so of a result whatever it is.
use Rattle.std.proofs.Common.{◌≡◌, sym}
use Rattle.std.specs.Prelude.{Result, Ok, Err, OnOk, IfErr}
use Rattle.kp_lanes.specs.Gate.{admitted, outside}
use Rattle.kp_lanes.specs.declared.fault.FlushFault.TheVariants.{Closed, LaneFull}
use Rattle.kp_lanes.specs.declared.gate.view.Stage.TheVariants.{Out}
use Rattle.kp_lanes.specs.declared.gate.view.View.{View}

pub left_again : (v : View) → v.stage ≡ Out → outside (admitted v) ≡ v
left_again v out = λ i. record v { stage = sym out i }

pub on_ok_so : {A E P : Type 0} (r : Result A E) → P → OnOk r P
on_ok_so (Ok x) h = h
on_ok_so (Err e) h = tt

pub if_err_so : {A E P : Type 0} (Q : E → Type 0) (r : Result A E) → P → IfErr r (λ e. Q e → P)
if_err_so Q (Ok x) h = tt
if_err_so Q (Err e) h = λ _. h

pub closed_not_full : Closed ≡ LaneFull → ⊥
closed_not_full e = cc
