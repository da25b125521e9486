use Rattle.std.proofs.Common.{◌≡◌, ◌∙◌, ℕ, List, Bool, Some, None, sym, ap}
use Rattle.std.specs.Prelude.{slice_get, if◌then◌else◌, unwrap_or}
use Rattle.std.specs.List.{last_or}
use Rattle.std.specs.Option.{option_copied}
use Rattle.kp_rules.specs.Attempts.{lowest_waiting}
use Rattle.kp_rules.specs.MaySend.{new_batch}
use Rattle.kp_rules.specs.Records.{Partition}
use Rattle.kp_parts.proofs.SendsLemmas.{sends-fenced, sends-waiting, sends-nothing, sends-front, ready-is}
use Rattle.kp_parts.proofs.partition.Partition.next_batch.Goals as goal

pub returns-then-self : goal.returns-then-self
returns-then-self c =
    let fenced = ap (λ (t : Partition). t.fenced) (sym c.self.view_is) ∙ c.if-self.true in
    sym (sends-fenced c.args.config.now c.args.flags c.args.now c.args.self.now fenced)

pub returns-then-is_rested : goal.returns-then-is_rested
returns-then-is_rested c =
    let t = c.args.self.now in
    let fenced = ap (λ (t : Partition). t.fenced) (sym c.self.view_is) ∙ c.if-self.false in
    let lowest : lowest_waiting t ≡ Some c.in-Some.lowest.now = sym c.lowest_waiting.ensures ∙ ap option_copied c.in-Some.is in
    let batch = c.in-Some.lowest.now.batch in
    ap Some c.batch.ensures
    ∙ sym (sends-waiting c.args.config.now c.args.flags c.args.now t c.in-Some.lowest.now fenced lowest
    ∙ ap (λ (z : Bool). if z then Some batch else None) (sym c.is_rested.ensures ∙ c.if-is_rested.true))

pub returns-in-Some : goal.returns-in-Some
returns-in-Some c =
    let t = c.args.self.now in
    let fenced = ap (λ (t : Partition). t.fenced) (sym c.self.view_is) ∙ c.if-self.false in
    let lowest : lowest_waiting t ≡ Some c.in-Some.lowest.now = sym c.lowest_waiting.ensures ∙ ap option_copied c.in-Some.is in
    let batch = c.in-Some.lowest.now.batch in
    sym (sends-waiting c.args.config.now c.args.flags c.args.now t c.in-Some.lowest.now fenced lowest
    ∙ ap (λ (z : Bool). if z then Some batch else None) (sym c.is_rested.ensures ∙ c.if-is_rested.false))

pub returns-in_err-front : goal.returns-in_err-front
returns-in_err-front c =
    let t = c.args.self.now in
    let fenced = ap (λ (t : Partition). t.fenced) (sym c.self.view_is) ∙ c.if-self.false in
    let lowest : lowest_waiting t ≡ None = sym c.lowest_waiting.ensures ∙ ap option_copied (c.in_default.is) in
    let front : slice_get t.queue 0 ≡ None = ap (λ (t : Partition). slice_get t.queue 0) (sym c.self.view_is) ∙ sym (c.in_err-front.ensures) in
    c.from_residual.ensures ∙ sym (sends-nothing c.args.config.now c.args.flags c.args.now t fenced lowest front)

pub returns-then-not-may_hand_over : goal.returns-then-not-may_hand_over
returns-then-not-may_hand_over c =
    let t = c.args.self.now in
    let fenced = ap (λ (t : Partition). t.fenced) (sym c.self.view_is) ∙ c.if-self.false in
    let lowest : lowest_waiting t ≡ None = sym c.lowest_waiting.ensures ∙ ap option_copied (c.in_default.is) in
    let b = c.in_ok-front.front.now in
    let front : slice_get t.queue 0 ≡ Some b = ap (λ (t : Partition). slice_get t.queue 0) (sym c.self.view_is) ∙ sym (c.in_ok-front.ensures) in
    let batch = new_batch t b in
    sym (sends-front c.args.config.now c.args.flags c.args.now t b fenced lowest front
    ∙ ap (λ (z : Bool). if z then Some batch else None) (sym c.may_hand_over.ensures ∙ c.if-not-may_hand_over.true))

pub returns : goal.returns
returns c =
    let t = c.args.self.now in
    let fenced = ap (λ (t : Partition). t.fenced) (sym c.self.view_is) ∙ c.if-self.false in
    let lowest : lowest_waiting t ≡ None = sym c.lowest_waiting.ensures ∙ ap option_copied (c.in_default.is) in
    let b = c.in_ok-front.front.now in
    let front : slice_get t.queue 0 ≡ Some b = ap (λ (t : Partition). slice_get t.queue 0) (sym c.self.view_is) ∙ sym (c.in_ok-front.ensures) in
    let batch = new_batch t b in
    let same : c.new.result ≡ batch = ready-is t b c.new.result (c.new.ensures.number ∙ ap (λ (t : Partition). t.next_number) c.self.view_is) (c.new.ensures.id ∙ c.last_id-id.ensures ∙ ap (λ (z : List ℕ). unwrap_or (last_or None z) 0) (c.deref.ensures.value ∙ ap (λ (t : Partition). t.ids) c.self.view_is)) (c.new.ensures.sequence ∙ ap (λ (t : Partition). t.next_sequence) c.self.view_is) c.new.ensures.items in
    ap Some same
    ∙ sym (sends-front c.args.config.now c.args.flags c.args.now t b fenced lowest front
    ∙ ap (λ (z : Bool). if z then Some batch else None) (sym c.may_hand_over.ensures ∙ c.if-not-may_hand_over.false))
