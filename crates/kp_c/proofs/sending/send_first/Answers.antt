use Rattle.std.proofs.Common.{List, ℕ, w64, ap, sym, ◌∙◌}
use Rattle.std.proofs.lemmas.Int.{to_z-of_z}
use Rattle.std.specs.Prelude.{Some}
use Rattle.kp_c.proofs.sending.send_first.Goals as goal

pub returns-in-Ok-send_or_refuse-clause-accepts : goal.returns-in-Ok-send_or_refuse-clause-accepts
returns-in-Ok-send_or_refuse-clause-accepts c =
    let body = c.in-Ok.ensures in
    let t = c.in-Ok-send_or_refuse._ticket in record {
      ticket = record { number = t.number; partition = t.partition };
      accepts = record {
        body = c.in-Ok.body;
        parts = record {
          at = sym (to_z-of_z w64 c.args.timestamp_ms c.ranges.timestamp_ms) ∙ body.timestamp;
          key_is = body.key;
          value_is = body.value ∙ ap (λ (v : List ℕ). Some v) c.in-Some.ensures.0;
          headers_are = body.headers ∙ c.new-headers.ensures ∙ c.new.ensures.items;
        };
        sends = c.in-Ok-send_or_refuse.ensures.sends;
      };
      to = c.in-Ok-send_or_refuse.ensures.to;
    }
