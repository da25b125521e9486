-- The texts of actions and entries.
use Rattle.std.proofs.Common.{◌≡◌, ℕ, ◌<◌, ◌^◌, true, cond, eqb, ℤ, pos, nat_abs, List, [], ◌∷◌, get_or, drop, map, codes, refl, sym, ap, ◌∙◌, arith}
use Rattle.std.specs.Fmt.{decimal}
use Rattle.std.specs.List.{AllByRecursion, slice_split}
use Rattle.std.specs.Int.{IsInRange}
use Rattle.std.specs.Str.Parse.{AllDigits, digits_value}
use Rattle.std.proofs.lemmas.Str.Parse.{IsNumeralModel, numerals_by_value, tells_digits}
use Rattle.std.proofs.lemmas.Fmt.{digits_decimal, digits_value-decimal, decimal_injective}
use Rattle.kp_log.specs.declared.error_code.ErrorCode.{ErrorCode}
use Rattle.kp_broker.specs.declared.plan.action.Action.{Action}
use Rattle.kp_broker.specs.declared.plan.action.Action.TheVariants.{DropRequest, DropReply, Repeat, Refuse, Late, HangUp, Move}
use Rattle.kp_broker.specs.Plan.{Entry, number_of, action_of, action_text, code_text, entry_text, entries_text, IsAllowed, IsAllowedAction, IsAllowedCode}
use Rattle.kp_broker.proofs.CodeLemmas.{allowed-number, code-number}
use Rattle.kp_broker.proofs.EntryLemmas.{entry_text-parts}
use Rattle.kp_broker.proofs.SplitLemmas.{lacks, is_byte, lacks-append, digits-lack, cut-injective, slice_split-join}

own : IsNumeralModel (AllDigits 10) (digits_value 10)
own = numerals_by_value (AllDigits 10) tells_digits

-- ---- what they lack

decimal-lacks : (c n : ℕ) → (IsInRange 48 57 c → ⊥) → n < 2 ^ 64 → lacks c (decimal n) ≡ true
decimal-lacks c n other small = digits-lack c other (decimal n) (digits_decimal own n small)

code-lacks_comma : (code : ErrorCode) → IsAllowedCode code → lacks 44 (code_text code) ≡ true
code-lacks_comma code a =
    let (n, w) = allowed-number code a in
    rw w.value (decimal-lacks 44 n (λ r. omega arith) (omega (arith, w.high)))

action-lacks_comma : (a : Action) → IsAllowedAction a → lacks 44 (action_text a) ≡ true
action-lacks_comma DropRequest h = refl
action-lacks_comma DropReply h = refl
action-lacks_comma Repeat h = refl
action-lacks_comma (Refuse code) h = lacks-append 44 (codes "refuse:") (code_text code) refl (code-lacks_comma code h)
action-lacks_comma (Late code) h = lacks-append 44 (codes "late:") (code_text code) refl (code-lacks_comma code h)
action-lacks_comma HangUp h = refl
action-lacks_comma (Move to) h = lacks-append 44 (codes "move:") (decimal to) refl (decimal-lacks 44 to (λ r. omega arith) (omega (arith, h)))

entry-lacks_comma : (e : Entry) → IsAllowed e → lacks 44 (entry_text e) ≡ true
entry-lacks_comma e a =
    rw (entry_text-parts e)
    (lacks-append 44 (decimal (number_of e)) (61 ∷ action_text (action_of e)) (decimal-lacks 44 (number_of e) (λ r. omega arith) (omega (arith, a.number))) (action-lacks_comma (action_of e) a.action))

all-lack_comma : (entries : List Entry) → AllByRecursion IsAllowed entries → AllByRecursion (λ part. lacks 44 part ≡ true) (map entry_text entries)
all-lack_comma [] all = tt
all-lack_comma (e ∷ es) all = (entry-lacks_comma e all.0, all-lack_comma es all.1)

-- the parts of the entries' text
pub parts-entries_text : (e : Entry) (es : List Entry) → AllByRecursion IsAllowed (e ∷ es) → slice_split (is_byte 44) (entries_text (e ∷ es)) ≡ map entry_text (e ∷ es)
parts-entries_text e es all = slice_split-join 44 (entry_text e) (map entry_text es) (all-lack_comma (e ∷ es) all)

-- ---- one action has one text

-- which action it is, and the number that it names, if it names one
pub record Mark : Type 0 where
  pub kind : ℕ
  pub number : ℤ

mark_of : Action → Mark
mark_of DropRequest = record { kind = 0; number = pos 0 }
mark_of DropReply = record { kind = 1; number = pos 0 }
mark_of Repeat = record { kind = 2; number = pos 0 }
mark_of (Refuse code) = record { kind = 3; number = code.number }
mark_of (Late code) = record { kind = 4; number = code.number }
mark_of HangUp = record { kind = 5; number = pos 0 }
mark_of (Move to) = record { kind = 6; number = pos to }

-- told by a few bytes of the text
mark_in : List ℕ → Mark
mark_in text =
    cond (eqb (get_or text 2 0) 118) (record { kind = 6; number = pos (digits_value 10 (drop 5 text)) })
    (cond (eqb (get_or text 2 0) 112) (record { kind = 2; number = pos 0 })
    (cond (eqb (get_or text 2 0) 110) (record { kind = 5; number = pos 0 })
    (cond (eqb (get_or text 2 0) 102) (record { kind = 3; number = pos (digits_value 10 (drop 7 text)) })
    (cond (eqb (get_or text 2 0) 116) (record { kind = 4; number = pos (digits_value 10 (drop 5 text)) })
    (cond (eqb (get_or text 7 0) 113) (record { kind = 0; number = pos 0 }) (record { kind = 1; number = pos 0 }))))))

code_back : (code : ErrorCode) → IsAllowedCode code → pos (digits_value 10 (code_text code)) ≡ code.number
code_back code a =
    let (n, w) = allowed-number code a in
    rw w.value (ap pos (digits_value-decimal own n (omega (arith, w.high))))

mark_in-action_text : (a : Action) → IsAllowedAction a → mark_in (action_text a) ≡ mark_of a
unfolding mark_in mark_of
mark_in-action_text DropRequest h = refl
mark_in-action_text DropReply h = refl
mark_in-action_text Repeat h = refl
mark_in-action_text (Refuse code) h = ap (λ z. record { kind = 3; number = z }) (code_back code h)
mark_in-action_text (Late code) h = ap (λ z. record { kind = 4; number = z }) (code_back code h)
mark_in-action_text HangUp h = refl
mark_in-action_text (Move to) h = ap (λ (n : ℕ). record { kind = 6; number = pos n }) (digits_value-decimal own to (omega (arith, h)))

-- the mark of an action is that of no other
by_kind : (a b : Action) → (mark_of a).kind ≡ (mark_of b).kind → (mark_of a).number ≡ (mark_of b).number → a ≡ b
unfolding mark_of
by_kind DropRequest DropRequest k n = refl
by_kind DropRequest DropReply k n = absurd (omega arith)
by_kind DropRequest Repeat k n = absurd (omega arith)
by_kind DropRequest (Refuse d) k n = absurd (omega arith)
by_kind DropRequest (Late d) k n = absurd (omega arith)
by_kind DropRequest HangUp k n = absurd (omega arith)
by_kind DropRequest (Move n) k is = absurd (omega arith)
by_kind DropReply DropReply k n = refl
by_kind DropReply DropRequest k n = absurd (omega arith)
by_kind DropReply Repeat k n = absurd (omega arith)
by_kind DropReply (Refuse d) k n = absurd (omega arith)
by_kind DropReply (Late d) k n = absurd (omega arith)
by_kind DropReply HangUp k n = absurd (omega arith)
by_kind DropReply (Move n) k is = absurd (omega arith)
by_kind Repeat Repeat k n = refl
by_kind Repeat DropRequest k n = absurd (omega arith)
by_kind Repeat DropReply k n = absurd (omega arith)
by_kind Repeat (Refuse d) k n = absurd (omega arith)
by_kind Repeat (Late d) k n = absurd (omega arith)
by_kind Repeat HangUp k n = absurd (omega arith)
by_kind Repeat (Move n) k is = absurd (omega arith)
by_kind (Refuse c) (Refuse d) k n = ap Refuse (code-number c d n)
by_kind (Refuse c) DropRequest k n = absurd (omega arith)
by_kind (Refuse c) DropReply k n = absurd (omega arith)
by_kind (Refuse c) Repeat k n = absurd (omega arith)
by_kind (Refuse c) (Late d) k n = absurd (omega arith)
by_kind (Refuse c) HangUp k n = absurd (omega arith)
by_kind (Refuse c) (Move n) k is = absurd (omega arith)
by_kind (Late c) (Late d) k n = ap Late (code-number c d n)
by_kind (Late c) DropRequest k n = absurd (omega arith)
by_kind (Late c) DropReply k n = absurd (omega arith)
by_kind (Late c) Repeat k n = absurd (omega arith)
by_kind (Late c) (Refuse d) k n = absurd (omega arith)
by_kind (Late c) HangUp k n = absurd (omega arith)
by_kind (Late c) (Move n) k is = absurd (omega arith)
by_kind HangUp HangUp k n = refl
by_kind HangUp DropRequest k n = absurd (omega arith)
by_kind HangUp DropReply k n = absurd (omega arith)
by_kind HangUp Repeat k n = absurd (omega arith)
by_kind HangUp (Refuse d) k n = absurd (omega arith)
by_kind HangUp (Late d) k n = absurd (omega arith)
by_kind HangUp (Move n) k is = absurd (omega arith)
by_kind (Move m) (Move n) k is = ap Move (ap nat_abs is)
by_kind (Move m) DropRequest k is = absurd (omega arith)
by_kind (Move m) DropReply k is = absurd (omega arith)
by_kind (Move m) Repeat k is = absurd (omega arith)
by_kind (Move m) (Refuse d) k is = absurd (omega arith)
by_kind (Move m) (Late d) k is = absurd (omega arith)
by_kind (Move m) HangUp k is = absurd (omega arith)

action_text-injective : (a b : Action) → IsAllowedAction a → IsAllowedAction b → action_text a ≡ action_text b → a ≡ b
action_text-injective a b h k is =
    let same = sym (mark_in-action_text a h) ∙ ap mark_in is ∙ mark_in-action_text b k in
    by_kind a b (ap (λ m. m.kind) same) (ap (λ m. m.number) same)

-- ---- and one entry, and one list of entries

pub entry_text-injective : (e f : Entry) → IsAllowed e → IsAllowed f → entry_text e ≡ entry_text f → e ≡ f
entry_text-injective e f h k is =
    let e_small : number_of e < 2 ^ 64 = omega (arith, h.number) in
    let f_small : number_of f < 2 ^ 64 = omega (arith, k.number) in
    let cut = cut-injective 61 (decimal (number_of e)) (action_text (action_of e)) (decimal (number_of f)) (action_text (action_of f))
    (decimal-lacks 61 (number_of e) (λ r. omega arith) e_small) (decimal-lacks 61 (number_of f) (λ r. omega arith) f_small)
    (sym (entry_text-parts e) ∙ is ∙ entry_text-parts f) in
    let number = decimal_injective (number_of e) (number_of f) e_small f_small cut.0 in
    let action = action_text-injective (action_of e) (action_of f) h.action k.action cut.1 in
    λ i. (number i, action i)

pub texts-injective : (es fs : List Entry) → AllByRecursion IsAllowed es → AllByRecursion IsAllowed fs → map entry_text es ≡ map entry_text fs → es ≡ fs
texts-injective [] [] h k is = refl
texts-injective [] (f ∷ fs) h k is = absurd cc
texts-injective (e ∷ es) [] h k is = absurd cc
texts-injective (e ∷ es) (f ∷ fs) h k is =
    let first = entry_text-injective e f h.0 k.0 cc in
    let others = texts-injective es fs h.1 k.1 cc in
    cc
