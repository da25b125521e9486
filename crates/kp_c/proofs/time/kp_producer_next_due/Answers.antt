use Rattle.std.proofs.Common.{◌≡◌, Option, sym, subst}
use Rattle.std.specs.Prelude.{MatchOption}
use Rattle.kp_embed.specs.Producer.{Producer}
use Rattle.kp_c.specs.Seeing.{NEVER, TellsDue}
use Rattle.kp_c.proofs.time.kp_producer_next_due.Goals as goal

pub returns-clause-told : goal.returns-clause-told
returns-clause-told c =
    let due = c.unwrap_or-due.result in
    subst (λ (held : Option Producer). MatchOption held (due ≡ NEVER) (TellsDue c.args.now due)) (sym c.in-Some.ensures.some)
    (subst (λ (p : Producer). TellsDue c.args.now due p) c.deref.ensures (record {
      due = c.next_due.result;
      is = c.unwrap_or-due.ensures;
      ready = c.next_due.ensures.ready;
      cluster = c.next_due.ensures.cluster;
      later = c.next_due.ensures.later;
    }))
