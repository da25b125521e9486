-- Calls that are made from a list.
use Rattle.std.proofs.Common.{◌≡◌, false, List, [], ◌∷◌, ◌++◌, append_assoc, append-nil, refl, sym, ap, ◌∙◌, subst}
use Rattle.std.specs.Prelude.{Result, Ok, Err, IfErr}
use Rattle.std.proofs.lemmas.List.{map-append}
use Rattle.kp_accum.specs.declared.fault.AppendFault.{AppendFault}
use Rattle.kp_accum.specs.declared.fault.AppendFault.TheVariants.{BufferFull}
use Rattle.kp_accum.specs.declared.item.Item.{Item}
use Rattle.kp_rules.specs.Appending.{Appends, may_append, append_step}
use Rattle.kp_rules.specs.Calls.{Gives, Lives, life_of, followed_by}
use Rattle.kp_rules.specs.Records.{Core, quietly}
use Rattle.kp_rules.proofs.LeadingOnLemmas.{one_more}
use Rattle.kp_core.specs.declared.calls.Asked.{Asked}
use Rattle.kp_core.specs.declared.calls.Answered.{Answered}
use Rattle.kp_core.specs.Answers.{answer_of}
use Rattle.kp_core.specs.Calling.{asked_by, answered_by, with_item, IsMade, AreMade}

refused : (i : Item) (s : Core) → may_append i s ≡ false → append_step i s ≡ quietly s (Err BufferFull)
unfolding append_step
refused i s e = rw e refl

pub refuses : (i : Item) (s : Core) → may_append i s ≡ false → Gives (append_step i s) (Err BufferFull) s
refuses i s e = (ap (λ (a : Appends). a.answer) (refused i s e), sym (ap (λ (a : Appends). a.after) (refused i s e)))

pub item_back : (i : Item) (answer : Result (Unit {0}) (AppendFault × Item)) → IfErr answer (λ x. x.1 ≡ i) → with_item i (answer_of answer) ≡ answer
item_back i (Ok done) back = refl
item_back i (Err x) back = ap (λ (j : Item). let y : Result (Unit {0}) (AppendFault × Item) = Err (x.0, j) in y) (sym back)

-- ---- a list of calls, one after the other

pub none_made : (s : Core) → AreMade s [] [] s
unfolding Lives
none_made s = record { calls = []; asks = refl; answer = refl; life = record { appended = []; told = []; packets = [] }; lives = (refl, refl) }

pub one_more_made : (s m t : Core) (arguments : List Asked) (answers : List Answered) (one : Asked) (answer : Answered)
    → AreMade s arguments answers m → IsMade m one answer t → AreMade s (arguments ++ one ∷ []) (answers ++ answer ∷ []) t
one_more_made s m t arguments answers one answer made last = record {
  calls = made.calls ++ last.call ∷ [];
  asks = map-append asked_by made.calls (last.call ∷ []) ∙ ap (λ (xs : List Asked). xs ++ asked_by last.call ∷ []) made.asks
      ∙ ap (λ (x : Asked). arguments ++ x ∷ []) last.asks;
  answer = map-append answered_by made.calls (last.call ∷ []) ∙ ap (λ (xs : List Answered). xs ++ answered_by last.call ∷ []) made.answer
      ∙ ap (λ (x : Answered). answers ++ x ∷ []) last.answers;
  life = followed_by made.life (life_of m last.call);
  lives = one_more s m t made.calls made.life last.call made.lives last.step;
}

-- the calls are made but for the rest
pub record IsPartMade (s : Core) (all rest : List Asked) (answers : List Answered) (t : Core) : Type 0 where
  pub front : List Asked
  pub split : front ++ rest ≡ all
  pub made : AreMade s front answers t

pub next_made : (s m t : Core) (all rest : List Asked) (answers : List Answered) (one : Asked) (answer : Answered)
    → IsPartMade s all (one ∷ rest) answers m → IsMade m one answer t → IsPartMade s all rest (answers ++ answer ∷ []) t
next_made s m t all rest answers one answer part last = record {
  front = part.front ++ one ∷ [];
  split = append_assoc part.front (one ∷ []) rest ∙ part.split;
  made = one_more_made s m t part.front answers one answer part.made last;
}

pub all_made : (s t : Core) (all : List Asked) (answers : List Answered) → IsPartMade s all [] answers t → AreMade s all answers t
all_made s t all answers part = subst (λ (xs : List Asked). AreMade s xs answers t) (sym (append-nil part.front) ∙ part.split) part.made
