use Rattle.std.proofs.Common.{◌≡◌, ◌∙◌, sym, ap, subst, to_z, of_z, ℤ, w64, arith, Bool, ◌++◌, None, Some, length, pos, ◌+ℤ◌, ◌≤ℤ◌, ◌-◌, ◌^◌}
use mir.Syntax.{w16}
use Rattle.std.specs.Prelude.{◌||◌}
use Rattle.std.specs.Option.{option_copied}
use Rattle.std.proofs.lemmas.Int.{ints}
use Rattle.kp_rules.specs.declared.meaning.Meaning.TheVariants.{Stored, Duplicate, Retry, Reject}
use Rattle.kp_rules.specs.declared.outcome.Outcome.TheVariants.{Rejected}
use Rattle.kp_rules.specs.Attempts.{awaiting}
use Rattle.kp_rules.specs.Fence.{fence}
use Rattle.kp_rules.specs.Records.{Effect, Partition}
use Rattle.kp_rules.specs.Settling.{meaning_of, settle_batch, without_attempt}
use Rattle.kp_rules.specs.Telling.{told_all, told_offsets}
use Rattle.kp_parts.specs.Desk.{tell_desk, Covers}
use Rattle.kp_parts.proofs.SettlingLemmas.{offsets_fit, settled-none, settled-some}
use Rattle.kp_parts.proofs.TellingLemmas.{covers_first, covers_then, tell_desk-nil, told_then}
use Rattle.kp_parts.proofs.partition.Partition.settle_batch.Goals as goal

pub returns-in_default-clause-after : goal.returns-in_default-clause-after
returns-in_default-clause-after c =
    let none : awaiting c.args.correlation c.args.self.now ≡ None = sym c.awaiting.ensures ∙ ap option_copied c.in_default.is in
    ap (λ (x : Effect). x.after) (sym (settled-none c.args.now c.args.correlation c.args.self.now c.args.entry.now none))

pub returns-in_default-clause-told : goal.returns-in_default-clause-told
returns-in_default-clause-told c =
    let none : awaiting c.args.correlation c.args.self.now ≡ None = sym c.awaiting.ensures ∙ ap option_copied c.in_default.is in
    sym (tell_desk-nil c.args.desk.now)
    ∙ ap (λ (x : Effect). tell_desk x.told c.args.desk.now) (sym (settled-none c.args.now c.args.correlation c.args.self.now c.args.entry.now none))

-- ---- it is stored

pub tell_offsets-requires-clause-covered : goal.tell_offsets-requires-clause-covered
tell_offsets-requires-clause-covered c =
    let t = c.args.self.now in
    let a = c.args.entry.now in
    let d = c.args.desk.now in
    let o = c.in-Some.open.now in
    let here : awaiting c.args.correlation t ≡ Some o = sym c.awaiting.ensures ∙ ap option_copied c.in-Some.is in
    let code : to_z w16 (of_z w16 a.error_code) ≡ a.error_code = omega (arith, ints) in
    let means : meaning_of a.error_code ≡ Stored = ap meaning_of (sym code) ∙ sym c.meaning_of.ensures ∙ c.in-Stored.is in
    let settled = settled-some c.args.now c.args.correlation t a o Stored here means in
    let base : to_z w64 (of_z w64 a.base_offset) ≡ a.base_offset = omega (arith, ints) in
    subst (λ (z : ℤ). Covers d (told_offsets z o.batch.items)) (sym base) (subst (λ (x : Effect). Covers d x.told) settled c.requires.covered)

pub tell_offsets-requires-clause-fits : goal.tell_offsets-requires-clause-fits
tell_offsets-requires-clause-fits c =
    let t = c.args.self.now in
    let a = c.args.entry.now in
    let d = c.args.desk.now in
    let o = c.in-Some.open.now in
    let here : awaiting c.args.correlation t ≡ Some o = sym c.awaiting.ensures ∙ ap option_copied c.in-Some.is in
    let code : to_z w16 (of_z w16 a.error_code) ≡ a.error_code = omega (arith, ints) in
    let means : meaning_of a.error_code ≡ Stored = ap meaning_of (sym code) ∙ sym c.meaning_of.ensures ∙ c.in-Stored.is in
    let settled = settled-some c.args.now c.args.correlation t a o Stored here means in
    let base : to_z w64 (of_z w64 a.base_offset) ≡ a.base_offset = omega (arith, ints) in
    subst (λ (z : ℤ). (z +ℤ pos (length o.batch.items)) ≤ℤ pos (2 ^ 63 - 1)) (sym base) (offsets_fit (awaiting c.args.correlation t) a o c.requires.offsets here means)

pub returns-in-Stored-clause-after : goal.returns-in-Stored-clause-after
returns-in-Stored-clause-after c =
    let t = c.args.self.now in
    let a = c.args.entry.now in
    let d = c.args.desk.now in
    let o = c.in-Some.open.now in
    let here : awaiting c.args.correlation t ≡ Some o = sym c.awaiting.ensures ∙ ap option_copied c.in-Some.is in
    let code : to_z w16 (of_z w16 a.error_code) ≡ a.error_code = omega (arith, ints) in
    let means : meaning_of a.error_code ≡ Stored = ap meaning_of (sym code) ∙ sym c.meaning_of.ensures ∙ c.in-Stored.is in
    let settled = settled-some c.args.now c.args.correlation t a o Stored here means in
    c.acknowledge.ensures
    ∙ ap (λ (first : Bool). record (without_attempt c.args.correlation t) { acknowledged = t.acknowledged || first }) c.is_first_under_id-first.ensures
    ∙ ap (λ (x : Effect). x.after) (sym settled)

pub returns-in-Stored-clause-told : goal.returns-in-Stored-clause-told
returns-in-Stored-clause-told c =
    let t = c.args.self.now in
    let a = c.args.entry.now in
    let d = c.args.desk.now in
    let o = c.in-Some.open.now in
    let here : awaiting c.args.correlation t ≡ Some o = sym c.awaiting.ensures ∙ ap option_copied c.in-Some.is in
    let code : to_z w16 (of_z w16 a.error_code) ≡ a.error_code = omega (arith, ints) in
    let means : meaning_of a.error_code ≡ Stored = ap meaning_of (sym code) ∙ sym c.meaning_of.ensures ∙ c.in-Stored.is in
    let settled = settled-some c.args.now c.args.correlation t a o Stored here means in
    let base : to_z w64 (of_z w64 a.base_offset) ≡ a.base_offset = omega (arith, ints) in
    c.tell_offsets.ensures
    ∙ ap (λ (z : ℤ). tell_desk (told_offsets z o.batch.items) d) base
    ∙ ap (λ (x : Effect). tell_desk x.told d) (sym settled)

-- ---- it was stored before

pub tell-requires : goal.tell-requires
tell-requires c =
    let t = c.args.self.now in
    let a = c.args.entry.now in
    let d = c.args.desk.now in
    let o = c.in-Some.open.now in
    let here : awaiting c.args.correlation t ≡ Some o = sym c.awaiting.ensures ∙ ap option_copied c.in-Some.is in
    let code : to_z w16 (of_z w16 a.error_code) ≡ a.error_code = omega (arith, ints) in
    let means : meaning_of a.error_code ≡ Duplicate = ap meaning_of (sym code) ∙ sym c.meaning_of.ensures ∙ c.in-Duplicate.is in
    let settled = settled-some c.args.now c.args.correlation t a o Duplicate here means in
    subst (λ (x : Effect). Covers d x.told) settled c.requires.covered

pub returns-in-Duplicate-clause-after : goal.returns-in-Duplicate-clause-after
returns-in-Duplicate-clause-after c =
    let t = c.args.self.now in
    let a = c.args.entry.now in
    let d = c.args.desk.now in
    let o = c.in-Some.open.now in
    let here : awaiting c.args.correlation t ≡ Some o = sym c.awaiting.ensures ∙ ap option_copied c.in-Some.is in
    let code : to_z w16 (of_z w16 a.error_code) ≡ a.error_code = omega (arith, ints) in
    let means : meaning_of a.error_code ≡ Duplicate = ap meaning_of (sym code) ∙ sym c.meaning_of.ensures ∙ c.in-Duplicate.is in
    let settled = settled-some c.args.now c.args.correlation t a o Duplicate here means in
    c.acknowledge-in-Duplicate.ensures
    ∙ ap (λ (first : Bool). record (without_attempt c.args.correlation t) { acknowledged = t.acknowledged || first }) c.is_first_under_id-first-in-Duplicate.ensures
    ∙ ap (λ (x : Effect). x.after) (sym settled)

pub returns-in-Duplicate-clause-told : goal.returns-in-Duplicate-clause-told
returns-in-Duplicate-clause-told c =
    let t = c.args.self.now in
    let a = c.args.entry.now in
    let d = c.args.desk.now in
    let o = c.in-Some.open.now in
    let here : awaiting c.args.correlation t ≡ Some o = sym c.awaiting.ensures ∙ ap option_copied c.in-Some.is in
    let code : to_z w16 (of_z w16 a.error_code) ≡ a.error_code = omega (arith, ints) in
    let means : meaning_of a.error_code ≡ Duplicate = ap meaning_of (sym code) ∙ sym c.meaning_of.ensures ∙ c.in-Duplicate.is in
    let settled = settled-some c.args.now c.args.correlation t a o Duplicate here means in
    c.tell.ensures ∙ ap (λ (x : Effect). tell_desk x.told d) (sym settled)

-- ---- it is tried again

pub returns-in-Retry-clause-after : goal.returns-in-Retry-clause-after
returns-in-Retry-clause-after c =
    let t = c.args.self.now in
    let a = c.args.entry.now in
    let d = c.args.desk.now in
    let o = c.in-Some.open.now in
    let here : awaiting c.args.correlation t ≡ Some o = sym c.awaiting.ensures ∙ ap option_copied c.in-Some.is in
    let code : to_z w16 (of_z w16 a.error_code) ≡ a.error_code = omega (arith, ints) in
    let means : meaning_of a.error_code ≡ Retry = ap meaning_of (sym code) ∙ sym c.meaning_of.ensures ∙ c.in-Retry.is in
    let settled = settled-some c.args.now c.args.correlation t a o Retry here means in
    c.put_off.ensures ∙ ap (λ (x : Effect). x.after) (sym settled)

pub returns-in-Retry-clause-told : goal.returns-in-Retry-clause-told
returns-in-Retry-clause-told c =
    let t = c.args.self.now in
    let a = c.args.entry.now in
    let d = c.args.desk.now in
    let o = c.in-Some.open.now in
    let here : awaiting c.args.correlation t ≡ Some o = sym c.awaiting.ensures ∙ ap option_copied c.in-Some.is in
    let code : to_z w16 (of_z w16 a.error_code) ≡ a.error_code = omega (arith, ints) in
    let means : meaning_of a.error_code ≡ Retry = ap meaning_of (sym code) ∙ sym c.meaning_of.ensures ∙ c.in-Retry.is in
    let settled = settled-some c.args.now c.args.correlation t a o Retry here means in
    sym (tell_desk-nil d) ∙ ap (λ (x : Effect). tell_desk x.told d) (sym settled)

-- ---- it is refused

pub tell-requires-in-Reject : goal.tell-requires-in-Reject
tell-requires-in-Reject c =
    let t = c.args.self.now in
    let a = c.args.entry.now in
    let d = c.args.desk.now in
    let o = c.in-Some.open.now in
    let here : awaiting c.args.correlation t ≡ Some o = sym c.awaiting.ensures ∙ ap option_copied c.in-Some.is in
    let code : to_z w16 (of_z w16 a.error_code) ≡ a.error_code = omega (arith, ints) in
    let means : meaning_of a.error_code ≡ Reject = ap meaning_of (sym code) ∙ sym c.meaning_of.ensures ∙ c.in-Reject.is in
    let settled = settled-some c.args.now c.args.correlation t a o Reject here means in
    subst (λ (z : ℤ). Covers d (told_all (Rejected z) o.batch.items)) (sym code)
    (covers_first _ _ _ d (ap (λ (x : Effect). x.told) settled) c.requires.covered)

pub fence-requires : goal.fence-requires
fence-requires c =
    let t = c.args.self.now in
    let a = c.args.entry.now in
    let d = c.args.desk.now in
    let o = c.in-Some.open.now in
    let here : awaiting c.args.correlation t ≡ Some o = sym c.awaiting.ensures ∙ ap option_copied c.in-Some.is in
    let code : to_z w16 (of_z w16 a.error_code) ≡ a.error_code = omega (arith, ints) in
    let means : meaning_of a.error_code ≡ Reject = ap meaning_of (sym code) ∙ sym c.meaning_of.ensures ∙ c.in-Reject.is in
    let settled = settled-some c.args.now c.args.correlation t a o Reject here means in
    let told = c.tell-in-Reject.ensures ∙ ap (λ (z : ℤ). tell_desk (told_all (Rejected z) o.batch.items) d) code in
    let all : (settle_batch c.args.now c.args.correlation t a).told ≡ told_all (Rejected a.error_code) o.batch.items ++ (fence c.take_attempt.new.self).told =
    ap (λ (x : Effect). x.told) settled
    ∙ ap (λ (u : Partition). told_all (Rejected a.error_code) o.batch.items ++ (fence u).told) (sym c.take_attempt.ensures) in
    covers_then _ _ _ d c.tell-in-Reject.new.desk all told c.requires.covered

pub returns-in-Reject-clause-after : goal.returns-in-Reject-clause-after
returns-in-Reject-clause-after c =
    let t = c.args.self.now in
    let a = c.args.entry.now in
    let d = c.args.desk.now in
    let o = c.in-Some.open.now in
    let here : awaiting c.args.correlation t ≡ Some o = sym c.awaiting.ensures ∙ ap option_copied c.in-Some.is in
    let code : to_z w16 (of_z w16 a.error_code) ≡ a.error_code = omega (arith, ints) in
    let means : meaning_of a.error_code ≡ Reject = ap meaning_of (sym code) ∙ sym c.meaning_of.ensures ∙ c.in-Reject.is in
    let settled = settled-some c.args.now c.args.correlation t a o Reject here means in
    c.fence.ensures.after
    ∙ ap (λ (u : Partition). (fence u).after) c.take_attempt.ensures
    ∙ ap (λ (x : Effect). x.after) (sym settled)

pub returns-in-Reject-clause-told : goal.returns-in-Reject-clause-told
returns-in-Reject-clause-told c =
    let t = c.args.self.now in
    let a = c.args.entry.now in
    let d = c.args.desk.now in
    let o = c.in-Some.open.now in
    let here : awaiting c.args.correlation t ≡ Some o = sym c.awaiting.ensures ∙ ap option_copied c.in-Some.is in
    let code : to_z w16 (of_z w16 a.error_code) ≡ a.error_code = omega (arith, ints) in
    let means : meaning_of a.error_code ≡ Reject = ap meaning_of (sym code) ∙ sym c.meaning_of.ensures ∙ c.in-Reject.is in
    let settled = settled-some c.args.now c.args.correlation t a o Reject here means in
    let told = c.tell-in-Reject.ensures ∙ ap (λ (z : ℤ). tell_desk (told_all (Rejected z) o.batch.items) d) code in
    let all : (settle_batch c.args.now c.args.correlation t a).told ≡ told_all (Rejected a.error_code) o.batch.items ++ (fence c.take_attempt.new.self).told =
    ap (λ (x : Effect). x.told) settled
    ∙ ap (λ (u : Partition). told_all (Rejected a.error_code) o.batch.items ++ (fence u).told) (sym c.take_attempt.ensures) in
    c.fence.ensures.told ∙ told_then _ _ _ d c.tell-in-Reject.new.desk all told
