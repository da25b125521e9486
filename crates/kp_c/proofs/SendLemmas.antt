-- A record that is accepted.
use Rattle.std.proofs.Common.{◌≡◌, ℕ, ℤ, List, Option, sym, subst}
use Rattle.kp_batch.specs.declared.record.Header.{Header}
use Rattle.kp_batch.specs.declared.record.Record.{Record}
use Rattle.kp_c.specs.Records.{HasParts}
use Rattle.kp_c.specs.Sending.{Accepts}
use Rattle.kp_c.specs.declared.values.KpTicket.{KpTicket}
use Rattle.kp_embed.specs.Producer.{Producer}
use Rattle.kp_embed.specs.Sending.{Sends}
use Rattle.kp_embed.specs.declared.target.Ticket.{Ticket}

pub accepts_by : (timestamp : ℤ) (key value : Option (List ℕ)) (headers : List Header) (now : ℕ) (t : KpTicket) (place : Ticket) (body : Record) (old new : Producer)
    → HasParts timestamp key value headers body → t ≡ record { number = place.number; partition = place.partition } → Sends old now body place new
    → Accepts timestamp key value headers now t old new
accepts_by timestamp key value headers now t place body old new parts is sends = record {
  body = body;
  parts = parts;
  sends = subst (λ (u : KpTicket). Sends old now body (record { partition = u.partition; number = u.number }) new) (sym is) sends;
}
