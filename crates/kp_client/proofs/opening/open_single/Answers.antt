use Rattle.std.proofs.Common.{◌≡◌, ◌∙◌, ◌∷◌, [], ap, arith, length, map, sym}
use Rattle.std.specs.Prelude.{slice_index_or}
use Rattle.std.proofs.lemmas.List.{length-map}
use Rattle.kp_lanes.specs.Intake.{lanes_of}
use Rattle.kp_lanes.specs.Sender.{sender_id, sender_number, IsFresh, IsSenderOf}
use Rattle.kp_settings.specs.Settings.{limits_of}
use Rattle.kp_client.specs.Brokers.{IsAt}
use Rattle.kp_client.specs.Producer.{lane_of}
use Rattle.kp_client.specs.Service.{hello_of, intake_of}
use Rattle.kp_client.specs.declared.producer.Producer.{Producer}
use Rattle.kp_client.proofs.OpeningLemmas.{at_single, begun_over}
use Rattle.kp_client.proofs.SingleLemmas.{last_only, only_lane, only_of}
use Rattle.kp_client.proofs.opening.open_single.Goals as goal

pub returns-clause-opened : goal.returns-clause-opened
returns-clause-opened g c =
    let opened = c.in_ok-producers.ensures.opened in
    let ps = c.in_ok-producers.field-0.producers.items in
    let p = c.in-Some.producer in
    let service = c.in_ok-producers.field-0.service in
    let lanes = lanes_of (intake_of service) in
    let one : ps ≡ p ∷ [] = last_only ps c.pop.new.self.items p (sym (length-map ps (λ (q : Producer). sender_number (lane_of q))) ∙ ap (λ l. length l) opened.numbers) c.in-Some.ensures.items in
    let number : sender_number (lane_of p) ≡ 0 =
    ap (λ l. slice_index_or l 0 0) (sym (ap (map (λ (q : Producer). sender_number (lane_of q))) one) ∙ opened.numbers) in record {
      begins = begun_over (IsAt c.args.address (record c.args.settings { senders = 1 })) (IsAt c.args.address c.args.settings)
          (at_single c.args.address c.args.settings) (record c.args.settings { senders = 1 }) service opened.service;
      number = number;
      fresh = only_of (λ (q : Producer). IsFresh c.args.settings.capacity (limits_of (hello_of service) c.args.settings) (lane_of q)) ps p one opened.fresh;
      lane = only_lane lanes (sender_number (lane_of p)) (sender_id (lane_of p)) number opened.senders (only_of (λ (q : Producer). IsSenderOf lanes (lane_of q)) ps p one opened.lanes).1;
      gate = opened.gate;
    }

pub unreachable-requires : goal.unreachable-requires
unreachable-requires g c =
    let ps = c.in_ok-producers.field-0.producers.items in
    let one = sym (length-map ps (λ (q : Producer). sender_number (lane_of q))) ∙ ap (λ l. length l) c.in_ok-producers.ensures.opened.numbers in
    let none = c.in-None.ensures.cases.0 in
    omega (arith, one, none)
