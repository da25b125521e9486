use Rattle.std.proofs.Common.{◌∙◌, ap, refl, subst, sym}
use Rattle.std.specs.Prelude.{All}
use Rattle.kp_engine.specs.declared.parts.Parts.{Parts}
use Rattle.kp_lanes.specs.Intake.{lanes_of}
use Rattle.kp_lanes.specs.Settling.{IsOf}
use Rattle.kp_client.specs.Left.{parts_in, IsSettled}
use Rattle.kp_client.specs.declared.left.Left.{Left}
use Rattle.kp_client.proofs.AccountLemmas.{all_accounts_for}
use Rattle.kp_client.proofs.EndLemmas.{looks_on, stays_ended, still_looks}
use Rattle.kp_client.proofs.SingleLemmas.{is_why}
use Rattle.kp_client.proofs.left.Ended.settle.Goals as goal

pub returns-in-Ok-clause-settled : goal.returns-in-Ok-clause-settled
returns-in-Ok-clause-settled c =
    let its = c.new.ensures in
    all_accounts_for c.args.self.parts c.in-Ok.settled c.new.result c.args.finished.items c.args.self.accounted (ap (λ (l : Left). l.items) its) (ap (λ (l : Left). l.reports) its)
    (ap (λ (l : Left). l.held) its) (ap (λ (l : Left). l.core) its) c.requires c.in-Ok.ensures.settled

pub returns-in-Err-clause-why : goal.returns-in-Err-clause-why
returns-in-Err-clause-why c = is_why c.args.self.parts c.args.finished.items c.in-Err.fault c.in-Err.ensures.missing c.in-Err.ensures.not_missing

pub returns-in-Err-clause-back : goal.returns-in-Err-clause-back
returns-in-Err-clause-back c =
    let same = c.in-Err.ensures.intake in
    let lists = c.in-Err.ensures.lists in
    let is = c.new-in-Err.ensures.0 in record {
      same_core = ap (λ (p : Parts). p.core) is;
      same_held = ap (λ (p : Parts). p.held) is;
      same_lanes = ap (λ (p : Parts). lanes_of p.intake) is ∙ same.lanes;
      same_ending = c.new-in-Err.ensures.1;
      same_connections = c.new-in-Err.ensures.2;
      same_end = stays_ended c.args.self c.new-in-Err.result
          (looks_on c.args.self.parts.intake c.in-Err.intake (parts_in c.new-in-Err.result).intake
          (record { lanes = same.lanes; limits = same.limits; passed = lists.0; taken = lists.1; told = lists.2 })
          (still_looks c.in-Err.intake (parts_in c.new-in-Err.result).intake (ap (λ (p : Parts). p.intake) is)))
          (ap (λ (p : Parts). p.core) is) (ap (λ (p : Parts). p.held) is) c.new-in-Err.ensures.1;
      same_finished = c.in-Err.ensures.finished;
      again = subst (λ (p : Parts). All (IsOf (lanes_of p.intake)) c.in-Err.finished.items) (sym is) c.in-Err.ensures.again;
    }

pub returns-in-Ok-clause-rings : goal.returns-in-Ok-clause-rings
returns-in-Ok-clause-rings c = subst (λ (l : Left). IsSettled c.args.self.parts c.args.finished.items l) (sym c.new.ensures) (record {
  theirs = c.requires;
  each_once = c.in-Ok.ensures.all refl;
  in_place = c.in-Ok.ensures.in_place;
  adds = c.in-Ok.ensures.settled;
  same_core = refl;
  same_held = refl;
})
