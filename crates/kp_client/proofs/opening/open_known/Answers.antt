use Rattle.std.proofs.Common.{◌≡◌, ◌∙◌, ap, subst, sym}
use Rattle.std.specs.Prelude.{All, IfSome, length, ℕ}
use Rattle.kp_hello.specs.declared.hello.Hello.{Hello}
use Rattle.kp_lanes.specs.Closer.{closer_gate}
use Rattle.kp_lanes.specs.Intake.{intake_gate, intake_limits, lanes_of}
use Rattle.kp_lanes.specs.Sender.{IsFresh, IsSenderOf}
use Rattle.kp_lanes.specs.declared.intake.Intake.{Intake}
use Rattle.kp_lanes.specs.declared.limits.Limits.{Limits}
use Rattle.kp_settings.specs.Settings.{limits_of}
use Rattle.kp_client.specs.Opening.{first_core, IsGreeting}
use Rattle.kp_client.specs.Service.{hello_of, intake_of}
use Rattle.kp_client.proofs.OpeningLemmas.{all_of_lanes, numbers_of_lanes}
use Rattle.kp_client.proofs.opening.open_known.Goals as goal

pub returns-clause-opened : goal.returns-clause-opened
returns-clause-opened c =
    let lanes = c.in_ok-senders.ensures in
    let made = c.in_ok-service.ensures in
    let s = c.args.settings in
    let ps = c.in_ok-producers.producers.items in
    let ss = c.in_ok-senders.senders.items in
    let handles = c.in_ok-producers.ensures in
    let hello = made.made.0 in
    let Fresh : Limits → Type 0 = λ limits. All (IsFresh s.capacity limits) ss in
    let Theirs : Intake → Type 0 = λ t. All (IsSenderOf (lanes_of t)) ss in
    let limits : Fresh (limits_of c.args.hello s) =
    subst (λ (most : ℕ). Fresh (record { partitions = c.args.hello.partitions; max_record = most })) c.max_record.ensures lanes.fresh in record {
      service = record {
        greeting = subst (λ (h : Hello). IsGreeting s.names h) (sym hello) c.requires.greeting;
        asked = subst (λ (h : Hello). IfSome s.partitions (λ n. h.partitions ≡ n)) (sym hello) c.requires.asked;
        core = made.core ∙ ap (λ (h : Hello). first_core s h) (sym hello);
        brokers = made.made.1;
      };
      numbers = numbers_of_lanes ps ss handles ∙ lanes.numbers;
      fresh = all_of_lanes (IsFresh s.capacity (limits_of (hello_of c.in_ok-service.service) s)) ps ss handles
          (subst (λ (h : Hello). Fresh (limits_of h s)) (sym hello) limits);
      lanes = all_of_lanes (IsSenderOf (lanes_of (intake_of c.in_ok-service.service))) ps ss handles (subst Theirs (sym made.intake) lanes.of);
      senders = ap (λ (t : Intake). length (lanes_of t)) made.intake ∙ lanes.lanes;
      gate = ap closer_gate c.new-closer.ensures ∙ lanes.gate ∙ ap intake_gate (sym made.intake);
    }

pub new-requires-2-clause-limits : goal.new-requires-2-clause-limits
new-requires-2-clause-limits c =
    subst (λ (most : ℕ). intake_limits c.in_ok-senders.intake ≡ record { partitions = c.args.hello.partitions; max_record = most }) c.max_record.ensures c.in_ok-senders.ensures.limits
