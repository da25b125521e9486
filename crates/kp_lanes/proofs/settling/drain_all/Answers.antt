use Rattle.std.proofs.Common.{◌≡◌, ◌≢◌, ◌++◌, ◌<◌, ◌≤◌, ℕ, List, [], length, map, get_or, sym, ap, ◌∙◌, subst, arith}
use Rattle.std.specs.Prelude.{vec_capacity}
use Rattle.std.proofs.lemmas.List.{length-map}
use Rattle.std.specs.declared.alloc.Global.{Global}
use Rattle.std.specs.declared.vec.Vec.{Vec}
use mathlib.Core.Logic.{dite}
use native.Mathlib.Decide.{ℕ_discrete}
use Rattle.kp_accum.specs.declared.item.Item.{Item}
use Rattle.kp_rules.specs.declared.outcome.Report.{Report}
use mathlib.Core.List.{IsPrefix}
use Rattle.kp_lanes.specs.declared.entry.Entry.{Entry}
use Rattle.kp_lanes.specs.Port.{passed, taken, told}
use Rattle.kp_lanes.specs.Sender.{all_entered, all_accepted, all_got}
use Rattle.kp_lanes.specs.Sender.{finished_number}
use Rattle.kp_lanes.specs.Settling.{numbers, left_items, left_reports, AddsAt}
use Rattle.kp_lanes.proofs.SettlingLemmas.{place_left, carry, at_number}
use Rattle.kp_lanes.proofs.settling.drain_all.Goals as goal

pub settle_at-requires-clause-port : goal.settle_at-requires-clause-port
settle_at-requires-clause-port c =
    let inv = c.loop-j.invariant in let ps = c.args.ports.now.items in let fs = c.args.finished.now.items in let s = c.args.settled.now in let j = c.loop-j.j in let n = c.index.result.now.outbox.sender in
    let there : j < length fs = omega arith in let from_here : j ≤ j = omega arith in let i : ℕ = get_or (numbers fs) j 0 in
    let at = place_left ps c.loop-j.ports.items fs c.loop-j.finished.items j c.index.result.now inv.wide.0 inv.wide.1 inv.counted (inv.ports j from_here there) (inv.ends j from_here) c.requires.placed there c.index.ensures in
    let near = at.1 in let near_p = at.2 in let wide_l = c.requires.rooms.wide.0 in let wide_r = c.requires.rooms.wide.1 in let same_l = inv.wide.2 in let same_r = inv.wide.3 in (omega arith, omega arith, omega arith)

pub settle_at-requires-clause-meet : goal.settle_at-requires-clause-meet
settle_at-requires-clause-meet c =
    let inv = c.loop-j.invariant in let ps = c.args.ports.now.items in let fs = c.args.finished.now.items in let s = c.args.settled.now in let j = c.loop-j.j in let n = c.index.result.now.outbox.sender in
    let there : j < length fs = omega arith in let from_here : j ≤ j = omega arith in let i : ℕ = get_or (numbers fs) j 0 in
    let at = place_left ps c.loop-j.ports.items fs c.loop-j.finished.items j c.index.result.now inv.wide.0 inv.wide.1 inv.counted (inv.ports j from_here there) (inv.ends j from_here) c.requires.placed there c.index.ensures in
    at.3

pub settle_at-requires-clause-empty : goal.settle_at-requires-clause-empty
settle_at-requires-clause-empty c =
    let inv = c.loop-j.invariant in let ps = c.args.ports.now.items in let fs = c.args.finished.now.items in let s = c.args.settled.now in let j = c.loop-j.j in let n = c.index.result.now.outbox.sender in
    let there : j < length fs = omega arith in let from_here : j ≤ j = omega arith in let i : ℕ = get_or (numbers fs) j 0 in
    let at = place_left ps c.loop-j.ports.items fs c.loop-j.finished.items j c.index.result.now inv.wide.0 inv.wide.1 inv.counted (inv.ports j from_here there) (inv.ends j from_here) c.requires.placed there c.index.ensures in
    let none = c.requires.rooms.empty i in (
      at_number (λ (v : Vec Item Global). v.items) s.left.items c.loop-j.settled.left.items i n [] at.0 inv.wide.2 (inv.left j from_here there) ∙ none.0,
      at_number (λ (v : Vec Report Global). v.items) s.reports.items c.loop-j.settled.reports.items i n [] at.0 inv.wide.3 (inv.reports j from_here there) ∙ none.1,
    )

pub settle_at-requires-clause-items : goal.settle_at-requires-clause-items
settle_at-requires-clause-items c =
    let inv = c.loop-j.invariant in let ps = c.args.ports.now.items in let fs = c.args.finished.now.items in let s = c.args.settled.now in let j = c.loop-j.j in let n = c.index.result.now.outbox.sender in
    let there : j < length fs = omega arith in let from_here : j ≤ j = omega arith in let i : ℕ = get_or (numbers fs) j 0 in
    let at = place_left ps c.loop-j.ports.items fs c.loop-j.finished.items j c.index.result.now inv.wide.0 inv.wide.1 inv.counted (inv.ports j from_here there) (inv.ends j from_here) c.requires.placed there c.index.ensures in
    let a : get_or (map all_accepted c.loop-j.finished.items) j [] ≡ get_or (map all_accepted fs) j [] = carry all_accepted fs c.loop-j.finished.items j [] inv.wide.1 (inv.ends j from_here) in
    let g : get_or (map all_got c.loop-j.finished.items) j [] ≡ get_or (map all_got fs) j [] = carry all_got fs c.loop-j.finished.items j [] inv.wide.1 (inv.ends j from_here) in
    let t : get_or (map taken c.loop-j.ports.items) n [] ≡ get_or (map taken ps) i [] = at_number taken ps c.loop-j.ports.items i n [] at.0 inv.wide.0 (inv.ports j from_here there) in
    let o : get_or (map told c.loop-j.ports.items) n [] ≡ get_or (map told ps) i [] = at_number told ps c.loop-j.ports.items i n [] at.0 inv.wide.0 (inv.ports j from_here there) in
    let k = at_number vec_capacity s.left.items c.loop-j.settled.left.items i n 0 at.0 inv.wide.2 (inv.left j from_here there) in
    let base = c.requires.rooms.items j there in let la = ap length a in let lt = ap length t in omega arith

pub settle_at-requires-clause-reports : goal.settle_at-requires-clause-reports
settle_at-requires-clause-reports c =
    let inv = c.loop-j.invariant in let ps = c.args.ports.now.items in let fs = c.args.finished.now.items in let s = c.args.settled.now in let j = c.loop-j.j in let n = c.index.result.now.outbox.sender in
    let there : j < length fs = omega arith in let from_here : j ≤ j = omega arith in let i : ℕ = get_or (numbers fs) j 0 in
    let at = place_left ps c.loop-j.ports.items fs c.loop-j.finished.items j c.index.result.now inv.wide.0 inv.wide.1 inv.counted (inv.ports j from_here there) (inv.ends j from_here) c.requires.placed there c.index.ensures in
    let a : get_or (map all_accepted c.loop-j.finished.items) j [] ≡ get_or (map all_accepted fs) j [] = carry all_accepted fs c.loop-j.finished.items j [] inv.wide.1 (inv.ends j from_here) in
    let g : get_or (map all_got c.loop-j.finished.items) j [] ≡ get_or (map all_got fs) j [] = carry all_got fs c.loop-j.finished.items j [] inv.wide.1 (inv.ends j from_here) in
    let t : get_or (map taken c.loop-j.ports.items) n [] ≡ get_or (map taken ps) i [] = at_number taken ps c.loop-j.ports.items i n [] at.0 inv.wide.0 (inv.ports j from_here there) in
    let o : get_or (map told c.loop-j.ports.items) n [] ≡ get_or (map told ps) i [] = at_number told ps c.loop-j.ports.items i n [] at.0 inv.wide.0 (inv.ports j from_here there) in
    let k = at_number vec_capacity s.reports.items c.loop-j.settled.reports.items i n 0 at.0 inv.wide.3 (inv.reports j from_here there) in
    let base = c.requires.rooms.reports j there in let lg = ap length g in let lo = ap length o in omega arith

pub loop-j-preserved : goal.loop-j-preserved
loop-j-preserved c =
    let inv = c.loop-j.invariant in let ps = c.args.ports.now.items in let fs = c.args.finished.now.items in let s = c.args.settled.now in let j = c.loop-j.j in let n = c.index.result.now.outbox.sender in
    let there : j < length fs = omega arith in let from_here : j ≤ j = omega arith in let i : ℕ = get_or (numbers fs) j 0 in
    let at = place_left ps c.loop-j.ports.items fs c.loop-j.finished.items j c.index.result.now inv.wide.0 inv.wide.1 inv.counted (inv.ports j from_here there) (inv.ends j from_here) c.requires.placed there c.index.ensures in
    let a : get_or (map all_accepted c.loop-j.finished.items) j [] ≡ get_or (map all_accepted fs) j [] = carry all_accepted fs c.loop-j.finished.items j [] inv.wide.1 (inv.ends j from_here) in
    let g : get_or (map all_got c.loop-j.finished.items) j [] ≡ get_or (map all_got fs) j [] = carry all_got fs c.loop-j.finished.items j [] inv.wide.1 (inv.ends j from_here) in
    let t : get_or (map taken c.loop-j.ports.items) n [] ≡ get_or (map taken ps) i [] = at_number taken ps c.loop-j.ports.items i n [] at.0 inv.wide.0 (inv.ports j from_here there) in
    let o : get_or (map told c.loop-j.ports.items) n [] ≡ get_or (map told ps) i [] = at_number told ps c.loop-j.ports.items i n [] at.0 inv.wide.0 (inv.ports j from_here there) in
    let e : get_or (map all_entered c.loop-j.finished.items) j [] ≡ get_or (map all_entered fs) j [] = carry all_entered fs c.loop-j.finished.items j [] inv.wide.1 (inv.ends j from_here) in
    let p : get_or (map passed c.loop-j.ports.items) n [] ≡ get_or (map passed ps) i [] = at_number passed ps c.loop-j.ports.items i n [] at.0 inv.wide.0 (inv.ports j from_here there) in
    let one = c.settle_at.ensures in let others = one.others in let s' = c.settle_at.new.settled in
    let long : length (numbers fs) ≡ length fs = length-map fs finished_number in
    let later : (k : ℕ) → j < k → k < length fs → get_or (numbers fs) k 0 ≢ n = λ k after below e. c.requires.differ j k after (omega arith) (sym at.0 ∙ sym e) in
    let sooner : (k : ℕ) → k < j → get_or (numbers fs) k 0 ≢ n = λ k before e. c.requires.differ k j before (omega arith) (e ∙ at.0) in record {
      counted = one.numbers ∙ inv.counted;
      wide = (others.0.0 ∙ inv.wide.0, others.1.0 ∙ inv.wide.1, others.2.0 ∙ inv.wide.2, others.3.0 ∙ inv.wide.3);
      ports = λ k after below d. others.0.1 (get_or (numbers fs) k 0) d (later k (omega arith) below) ∙ inv.ports k (omega arith) below d;
      ends = λ k after d. others.1.1 k d (λ e. absurd (omega arith)) ∙ inv.ends k (omega arith) d;
      left = λ k after below d. others.2.1 (get_or (numbers fs) k 0) d (later k (omega arith) below) ∙ inv.left k (omega arith) below d;
      reports = λ k after below d. others.3.1 (get_or (numbers fs) k 0) d (later k (omega arith) below) ∙ inv.reports k (omega arith) below d;
      done = λ k below. dite (ℕ_discrete k j)
          (λ same. subst (AddsAt ps fs s') (sym same) (
            sym a ∙ (one.left ∙ (λ x. t x ++ ap (λ m. get_or (left_items s'.left.items) m []) at.0 x)),
            sym o ∙ (one.told ∙ (λ x. g x ++ ap (λ m. get_or (left_reports s'.reports.items) m []) at.0 x)),
            subst (λ (z : List Entry × List Entry). IsPrefix z.0 z.1) (λ x. (p x, e x)) one.entered,
          ))
          (λ other.
          let old = inv.done k (omega arith) in let m : ℕ = get_or (numbers fs) k 0 in let apart : m ≢ n = sooner k (omega arith) in
          let l : get_or (left_items s'.left.items) m [] ≡ get_or (left_items c.loop-j.settled.left.items) m [] = carry (λ (v : Vec Item Global). v.items) c.loop-j.settled.left.items s'.left.items m [] others.2.0 (λ d. others.2.1 m d apart) in
          let r : get_or (left_reports s'.reports.items) m [] ≡ get_or (left_reports c.loop-j.settled.reports.items) m [] = carry (λ (v : Vec Report Global). v.items) c.loop-j.settled.reports.items s'.reports.items m [] others.3.0 (λ d. others.3.1 m d apart) in (
            old.0 ∙ ap (λ x. get_or (map taken ps) m [] ++ x) (sym l),
            old.1 ∙ ap (λ x. get_or (map all_got fs) k [] ++ x) (sym r),
            old.2,
          ));
    }

pub returns-clause-all : goal.returns-clause-all
returns-clause-all c = λ j below. c.loop-j.invariant.done j (omega arith)
