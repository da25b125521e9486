use Rattle.std.proofs.Common.{◌<◌, List, ◌++◌, [], length, sym, subst, ◌∙◌, arith}
use mathlib.Core.List.{IsPrefix}
use Rattle.kp_lanes.specs.declared.entry.Entry.{Entry}
use Rattle.kp_lanes.specs.Port.{passed, taken, told}
use Rattle.kp_lanes.specs.Sender.{all_entered, all_accepted, all_got}
use Rattle.kp_lanes.specs.Sender.{finished_number}
use Rattle.kp_lanes.proofs.EachLemmas.{here, here_set, kept}
use Rattle.kp_lanes.proofs.settling.settle_at.Goals as goal

pub returns-clause-numbers : goal.returns-clause-numbers
returns-clause-numbers c = kept finished_number c.args.finished.now.items c.args.j _ c.settle.new.finished c.index_mut-2.ensures.value c.settle.ensures.number

pub returns-clause-entered : goal.returns-clause-entered
returns-clause-entered c =
    let ps = c.args.ports.now.items in let fs = c.args.finished.now.items in
    let near : c.args.i < length ps = omega arith in let there : c.args.j < length fs = omega arith in
    subst (λ (z : List Entry × List Entry). IsPrefix z.0 z.1)
    (λ k. (sym (here passed ps c.args.i _ [] near c.index_mut.ensures.value) k, sym (here all_entered fs c.args.j _ [] there c.index_mut-2.ensures.value) k))
    c.settle.ensures.entered

pub returns-clause-left : goal.returns-clause-left
returns-clause-left c =
    let ps = c.args.ports.now.items in let fs = c.args.finished.now.items in let ls = c.args.settled.now.left.items in
    let near : c.args.i < length ps = omega arith in let there : c.args.j < length fs = omega arith in let room : c.args.i < length ls = omega arith in
    here all_accepted fs c.args.j _ [] there c.index_mut-2.ensures.value ∙ (c.settle.ensures.left
    ∙ (λ k. sym (here taken ps c.args.i _ [] near c.index_mut.ensures.value) k ++ sym (here_set (λ v. v.items) ls c.args.i c.settle.new.left [] room) k))

pub returns-clause-told : goal.returns-clause-told
returns-clause-told c =
    let ps = c.args.ports.now.items in let fs = c.args.finished.now.items in let rs = c.args.settled.now.reports.items in
    let near : c.args.i < length ps = omega arith in let there : c.args.j < length fs = omega arith in let room : c.args.i < length rs = omega arith in
    here told ps c.args.i _ [] near c.index_mut.ensures.value ∙ (c.settle.ensures.reports
    ∙ (λ k. sym (here all_got fs c.args.j _ [] there c.index_mut-2.ensures.value) k ++ sym (here_set (λ v. v.items) rs c.args.i c.settle.new.reports [] room) k))
