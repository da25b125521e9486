use Rattle.std.proofs.Common.{◌≡◌, ◌∙◌, ◌<◌, ◌^◌, List, length, map, pos, ap, sym, subst, rules, arith}
use Rattle.std.proofs.lemmas.Bool.Decides.{nat_tests}
use Rattle.std.proofs.lemmas.Int.{to_z_pos}
use mir.Val.{to_z}
use mir.Syntax.{w32, w64}
use Rattle.kp_batch.specs.Spelling.{HasSpelling, written}
use Rattle.kp_accum.specs.Queue.{body_of, size_of}
use Rattle.kp_rules.specs.Framing.{head_of, batch_of}
use Rattle.kp_rules.specs.Next.{Sending}
use Rattle.kp_producer_runs.proofs.FrameLemmas.{one_fits}
use Rattle.kp_producer_runs.proofs.parts.PartPlayer.tell_request.Goals as goal

pub write_batch-requires-clause-fits : goal.write_batch-requires-clause-fits
unfolding size_of
write_batch-requires-clause-fits c =
    let items : c.items.result.now ≡ c.in_ok-sending.sending.batch.items =
    c.items.ensures.value ∙ ap (λ (x : Sending). x.batch.items) c.sending.view_is in
    rw items c.in_ok-sending.ensures.writable.size

pub produce_frame-requires : goal.produce_frame-requires
produce_frame-requires c =
    let x = c.in_ok-sending.sending in
    let items : c.items.result.now ≡ x.batch.items = c.items.ensures.value ∙ ap (λ (y : Sending). y.batch.items) c.sending.view_is in
    let id : c.id.result ≡ x.batch.id = c.id.ensures ∙ ap (λ (y : Sending). y.batch.id) c.sending.view_is in
    let sequence : c.sequence.result ≡ x.batch.sequence = c.sequence.ensures ∙ ap (λ (y : Sending). y.batch.sequence) c.sending.view_is in
    let id_is : to_z w64 c.id.result ≡ pos x.batch.id = to_z_pos w64 c.id.result (rw id c.in_ok-sending.ensures.writable.id) ∙ ap pos id in
    let sequence_is : to_z w32 c.sequence.result ≡ pos x.batch.sequence =
    to_z_pos w32 c.sequence.result (rw sequence c.in_ok-sending.ensures.writable.sequence) ∙ ap pos sequence in
    let spelled : HasSpelling (written (head_of x.batch) (map body_of x.batch.items)) =
    rw (← items, ← id_is, ← sequence_is) c.in_ok-write_batch.ensures.is_batch in
    let time : c.args.self.now.config.request_timeout_ms < 2 ^ 31 = grind (arith, nat_tests) in
    let small : c.from.result < 2 ^ 31 = search rules in
    one_fits c.args.self.now.config (record { topic = c.in_ok-names.names.topic; client = c.in_ok-names.names.client }) c.from.result x time small
    c.in_ok-names.ensures.short.1 c.in_ok-names.ensures.utf8.1 c.in_ok-names.ensures.short.0 c.in_ok-names.ensures.utf8.0
    c.in_ok-sending.ensures.partition c.in_ok-sending.ensures.size spelled
