use Rattle.std.proofs.Common.{◌≡◌, sym, ◌∙◌}
use Rattle.std.specs.Prelude.{None}
use Rattle.kp_accum.specs.declared.item.Item.{Item}
use Rattle.kp_lanes.proofs.EachLemmas.{same_default}
use Rattle.kp_engine.specs.Agreement.{held_at}
use Rattle.kp_engine.proofs.TakingLemmas.{if_some_is}
use Rattle.kp_engine.proofs.exchange.Exchange.take_held.Goals as goal

pub returns-clause-its : goal.returns-clause-its
returns-clause-its c =
    let held : c.take.result ≡ held_at c.args.self.now.items.items c.args.sender =
    c.take.ensures.value ∙ c.index_mut.ensures.value ∙ same_default c.args.self.now.items.items c.args.sender c.index_mut.result.now None c.requires in
    if_some_is (λ (x : Item). x.sender ≡ c.args.sender) c.take.result (λ x is. c.args.self.now.agree.its_item c.args.sender x (sym held ∙ is))
