use Rattle.std.proofs.Common.{◌-◌, ◌≤◌, ℕ, List, length, ap, sym, subst, ◌∙◌}
use Rattle.kp_frames.specs.Held.{is_stopped}
use Rattle.kp_frames.proofs.HeldLemmas.{grown, fed_open, fed_stopped, dropped, still_few}
use Rattle.kp_frames.proofs.splitter.Splitter.append.Goals as goal

pub overflow_sub-self : goal.overflow_sub-self
overflow_sub-self c =
    let s = c.self.inside in
    let g = grown s.bytes.items c.args.piece.now c.args.self.now c.extend_from_slice.new.self.items c.deref.result.now s.given s.whole c.len.result c.rest_of-rest_len.result.0 s.tail c.rest_of-rest_len.result.1
    c.self.invariant.held c.self.view_is c.in_ok-extend_from_slice.ensures.items c.deref.ensures.value (c.len.ensures ∙ sym c.deref.ensures.len) c.rest_of-rest_len.ensures.len c.rest_of-rest_len.ensures.tail in
    g.fits

pub invariant_of-self-in-Open : goal.invariant_of-self-in-Open
invariant_of-self-in-Open c =
    let s = c.self.inside in
    let g = grown s.bytes.items c.args.piece.now c.args.self.now c.extend_from_slice.new.self.items c.deref.result.now s.given s.whole c.len.result c.rest_of-rest_len.result.0 s.tail c.rest_of-rest_len.result.1
    c.self.invariant.held c.self.view_is c.in_ok-extend_from_slice.ensures.items c.deref.ensures.value (c.len.ensures ∙ sym c.deref.ensures.len) c.rest_of-rest_len.ensures.len c.rest_of-rest_len.ensures.tail in
    let f = fed_open c.args.self.now c.args.piece.now c.extend_from_slice.new.self.items s.given c.len.result c.rest_of-rest_len.result.0 c.rest_of-rest_len.result.1 g c.in-Open.is in
    let few : s.given ≤ length c.args.self.now = subst (λ (held : List ℕ). s.given ≤ length held) c.self.view_is c.self.invariant.few_given in
    record {
      held = f.invariant;
      few_given = still_few c.args.self.now c.args.piece.now c.extend_from_slice.new.self.items s.given g.view few;
    }

pub drop_given-requires-clause-before : goal.drop_given-requires-clause-before
drop_given-requires-clause-before c =
    let s = c.self.inside in
    let g = grown s.bytes.items c.args.piece.now c.args.self.now c.extend_from_slice.new.self.items c.deref.result.now s.given s.whole c.len.result c.rest_of-rest_len.result.0 s.tail c.rest_of-rest_len.result.1
    c.self.invariant.held c.self.view_is c.in_ok-extend_from_slice.ensures.items c.deref.ensures.value (c.len.ensures ∙ sym c.deref.ensures.len) c.rest_of-rest_len.ensures.len c.rest_of-rest_len.ensures.tail in
    let f = fed_stopped c.args.self.now c.args.piece.now c.extend_from_slice.new.self.items c.truncate.new.self.items s.given c.len.result c.rest_of-rest_len.result.0 c.rest_of-rest_len.result.1 g c.in-Stopped.is c.truncate.ensures.items in
    f.invariant.given_before

pub invariant_of-self-in-Stopped : goal.invariant_of-self-in-Stopped
invariant_of-self-in-Stopped c =
    let s = c.self.inside in
    let g = grown s.bytes.items c.args.piece.now c.args.self.now c.extend_from_slice.new.self.items c.deref.result.now s.given s.whole c.len.result c.rest_of-rest_len.result.0 s.tail c.rest_of-rest_len.result.1
    c.self.invariant.held c.self.view_is c.in_ok-extend_from_slice.ensures.items c.deref.ensures.value (c.len.ensures ∙ sym c.deref.ensures.len) c.rest_of-rest_len.ensures.len c.rest_of-rest_len.ensures.tail in
    let f = fed_stopped c.args.self.now c.args.piece.now c.extend_from_slice.new.self.items c.truncate.new.self.items s.given c.len.result c.rest_of-rest_len.result.0 c.rest_of-rest_len.result.1 g c.in-Stopped.is c.truncate.ensures.items in
    dropped c.truncate.new.self.items c.drop_given.new.bytes.items s.given (c.len.result - c.rest_of-rest_len.result.0) c.drop_given.result.0 c.drop_given.result.1 c.rest_of-rest_len.result.1
    f.invariant c.drop_given.ensures

pub returns-in-Open : goal.returns-in-Open
returns-in-Open c =
    let s = c.self.inside in
    let g = grown s.bytes.items c.args.piece.now c.args.self.now c.extend_from_slice.new.self.items c.deref.result.now s.given s.whole c.len.result c.rest_of-rest_len.result.0 s.tail c.rest_of-rest_len.result.1
    c.self.invariant.held c.self.view_is c.in_ok-extend_from_slice.ensures.items c.deref.ensures.value (c.len.ensures ∙ sym c.deref.ensures.len) c.rest_of-rest_len.ensures.len c.rest_of-rest_len.ensures.tail in
    let f = fed_open c.args.self.now c.args.piece.now c.extend_from_slice.new.self.items s.given c.len.result c.rest_of-rest_len.result.0 c.rest_of-rest_len.result.1 g c.in-Open.is in
    (f.faulty ∙ ap is_stopped c.in-Open.is, f.view)

pub returns-in-Stopped : goal.returns-in-Stopped
returns-in-Stopped c =
    let s = c.self.inside in
    let g = grown s.bytes.items c.args.piece.now c.args.self.now c.extend_from_slice.new.self.items c.deref.result.now s.given s.whole c.len.result c.rest_of-rest_len.result.0 s.tail c.rest_of-rest_len.result.1
    c.self.invariant.held c.self.view_is c.in_ok-extend_from_slice.ensures.items c.deref.ensures.value (c.len.ensures ∙ sym c.deref.ensures.len) c.rest_of-rest_len.ensures.len c.rest_of-rest_len.ensures.tail in
    let f = fed_stopped c.args.self.now c.args.piece.now c.extend_from_slice.new.self.items c.truncate.new.self.items s.given c.len.result c.rest_of-rest_len.result.0 c.rest_of-rest_len.result.1 g c.in-Stopped.is c.truncate.ensures.items in
    (f.faulty ∙ ap is_stopped c.in-Stopped.is, c.drop_given.ensures.waiting ∙ f.view)
