use Rattle.std.proofs.Common.{w64, sym, ◌∙◌}
use Rattle.std.proofs.lemmas.Int.{to_z-of_z}
use Rattle.kp_c.proofs.HeldLemmas.{makes}
use Rattle.kp_c.proofs.SendLemmas.{accepts_by}
use Rattle.kp_c.proofs.sending.kp_producer_send.Goals as goal

pub returns-in-Ok-done-clause-accepts : goal.returns-in-Ok-done-clause-accepts
returns-in-Ok-done-clause-accepts c =
    let body = c.in-Ok-record_of.ensures in
    λ _. makes _ _ _ _ _ _ c.in-Some.ensures.some c.deref_mut.ensures.value c.put.ensures
    (accepts_by _ _ _ _ _ _ c.in-Ok-done.place c.in-Ok-record_of.body _ _ (record {
      at = sym (to_z-of_z w64 c.args.timestamp_ms c.ranges.timestamp_ms) ∙ body.timestamp;
      key_is = body.key;
      value_is = body.value;
      headers_are = body.headers ∙ c.in-Ok.ensures;
    }) (assumption c) c.in-Ok-done.ensures.sends)
