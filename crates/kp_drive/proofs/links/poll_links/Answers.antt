use Rattle.std.proofs.Common.{◌<◌, length, refl, ◌∙◌, arith}
use Rattle.std.proofs.lemmas.List.{length-set}
use Rattle.kp_drive.specs.Links.{EachTurns}
use Rattle.kp_drive.proofs.LinkLemmas.{each_more, link_is, links_still}
use Rattle.kp_drive.proofs.links.poll_links.Goals as goal

pub loop-node-init : goal.loop-node-init
loop-node-init g c = record {
  each = EachTurns.none;
  count = refl;
  waits = λ still k less. absurd (omega arith);
  keeps = λ fact h. h;
}

pub loop-node-preserved : goal.loop-node-preserved
loop-node-preserved g c =
    let l = c.loop-node in
    let ls = l.links.items in
    let there : l.node < length ls = omega (arith, c.loop-node-test.true, c.len-node-end.ensures, l.invariant.count) in
    let new = c.poll_turn-moved.new.self in
    let is = link_is ls l.node c.index_mut.result.now there c.index_mut.ensures.value in
    record {
      each = each_more g.S.Stream.answers c.args.now c.args.host.now.embed l.host.embed c.poll_turn-moved.new.host.embed c.args.links.now.items ls l.node c.index_mut.result.now new l.invariant.each there is c.poll_turn-moved.ensures.turns;
      count = length-set ls l.node new ∙ l.invariant.count;
      waits = links_still g.D.Dial.waits g.S.Stream.reader g.S.Stream.writer g.S.Stream.answers l.cx c.poll_turn-moved.new.cx c.poll_turn-moved.ensures.kept l.moved c.poll_turn-moved.result ls l.node new there l.invariant.waits c.poll_turn-moved.ensures.waits;
      keeps = λ fact h. c.poll_turn-moved.ensures.kept fact (l.invariant.keeps fact h);
    }
