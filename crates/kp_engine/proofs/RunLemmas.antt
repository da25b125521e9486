-- Calls on the core of an exchange, one after the other.
use Rattle.std.proofs.Common.{◌≡◌, List, [], ◌∷◌, ◌++◌, refl, sym, ap, ◌∙◌, append_assoc, append-nil, subst}
use Rattle.std.specs.Prelude.{ℕ, Option, Some, None, Result, Ok, Err, OnErr, option_map}
use Rattle.kp_accum.specs.declared.fault.AppendFault.{AppendFault}
use Rattle.kp_accum.specs.declared.fault.AppendFault.TheVariants.{BufferFull, OutOfMemory}
use Rattle.kp_accum.specs.declared.item.Item.{Item}
use Rattle.kp_wire.proofs.ListLemmas.{all_append}
use Rattle.kp_rules.specs.Calls.{Call, Append, Step, Lives, life_of, followed_by}
use Rattle.kp_rules.specs.Held.{IsRecord}
use Rattle.kp_rules.specs.InOrder.{IsHeld}
use Rattle.kp_rules.specs.Records.{Core}
use Rattle.kp_rules.proofs.LeadingOnLemmas.{led_on, one_more}
use Rattle.kp_engine.specs.Exchange.{Runs, notes_in}
use Rattle.kp_engine.specs.Steps.{AppendsOne, OnlyItem}
use Rattle.kp_engine.specs.Turned.{Noted, append_answer, noted, strays_after, strays_behind}
use Rattle.kp_engine.specs.declared.exchange.Exchange.{Exchange}

pub nothing_lived : (s t : Core) → t ≡ s → Lives s [] (record { appended = []; told = []; packets = [] }) t
unfolding Lives
nothing_lived s t same = (refl, same)

pub one_lived : (s t : Core) (x : Call) → Step s x t → Lives s (x ∷ []) (followed_by (record { appended = []; told = []; packets = [] }) (life_of s x)) t
one_lived s t x step = one_more s s t [] (record { appended = []; told = []; packets = [] }) x (nothing_lived s s refl) step

none_kept : (kept : Option (List Call)) → option_map (λ before. before ++ []) kept ≡ kept
none_kept None = refl
none_kept (Some calls) = ap (λ (xs : List Call). Some xs) (append-nil calls)

none_noted : (before : Noted) → noted [] before ≡ before
none_noted before = ap (λ (kept : Option (List Call)). record { strays = before.strays; calls = kept }) (none_kept before.calls)

kept_then : (xs ys : List Call) (kept : Option (List Call))
    → option_map (λ before. before ++ ys) (option_map (λ before. before ++ xs) kept) ≡ option_map (λ before. before ++ (xs ++ ys)) kept
kept_then xs ys None = refl
kept_then xs ys (Some calls) = ap (λ (zs : List Call). Some zs) (append_assoc calls xs ys)

strays_then : (xs ys : List Call) (n : ℕ) → strays_after ys (strays_after xs n) ≡ strays_after (xs ++ ys) n
strays_then [] ys n = refl
strays_then (x ∷ xs) ys n = strays_then xs ys (strays_behind x n)

pub noted_then : (xs ys : List Call) (before : Noted) → noted ys (noted xs before) ≡ noted (xs ++ ys) before
noted_then xs ys before =
    ap (λ (n : ℕ). record { strays = n; calls = option_map (λ kept. kept ++ ys) (noted xs before).calls }) (strays_then xs ys before.strays)
    ∙ ap (λ (kept : Option (List Call)). record { strays = strays_after (xs ++ ys) before.strays; calls = kept }) (kept_then xs ys before.calls)

pub runs_none : (old new : Exchange) → new.core ≡ old.core → notes_in new ≡ notes_in old → Runs old [] new
runs_none old new core kept = record {
  life = record { appended = []; told = []; packets = [] };
  lives = nothing_lived old.core new.core core;
  held = tt;
  kept = kept ∙ sym (none_noted (notes_in old));
}

pub runs_one : (old new : Exchange) (x : Call) → IsHeld x → Step old.core x new.core → notes_in new ≡ noted (x ∷ []) (notes_in old) → Runs old (x ∷ []) new
runs_one old new x held step kept = record {
  life = followed_by (record { appended = []; told = []; packets = [] }) (life_of old.core x);
  lives = one_lived old.core new.core x step;
  held = (held, tt);
  kept = kept;
}

pub runs_then : (a b c : Exchange) (xs ys : List Call) → Runs a xs b → Runs b ys c → Runs a (xs ++ ys) c
runs_then a b c xs ys p q = record {
  life = followed_by p.life q.life;
  lives = led_on a.core b.core c.core xs ys p.life q.life p.lives q.lives;
  held = all_append IsHeld xs ys p.held q.held;
  kept = q.kept ∙ ap (λ (before : Noted). noted ys before) p.kept ∙ noted_then xs ys (notes_in a);
}

-- the same core, and the same calls are kept
pub runs_still : (a b c : Exchange) (xs : List Call) → Runs a xs b → c.core ≡ b.core → notes_in c ≡ notes_in b → Runs a xs c
runs_still a b c xs p core kept = subst (λ (ys : List Call). Runs a ys c) (append-nil xs) (runs_then a b c xs [] p (runs_none b c core kept))

-- what was noted behind calls that are kept still
pub noted_behind : (xs : List Call) (a b c : Noted) → c ≡ noted xs b → b ≡ a → c ≡ noted xs a
noted_behind xs a b c more same = more ∙ ap (λ (before : Noted). noted xs before) same

pub on_err : {T E : Type 0} (r : Result T E) (P : Type 0) → P → OnErr r P
on_err (Ok x) P p = tt
on_err (Err e) P p = p

-- an append that was noted by a copy of its item
pub noted_append : (item : Item) (fault : Option AppendFault) (copy : Option Item) (k0 k1 k2 : Noted)
    → ((x : Item) → copy ≡ option_map (λ _. x) k1.calls → k2 ≡ noted (Append x (append_answer fault) ∷ []) k1)
    → copy ≡ option_map (λ _. item) k0.calls → k1 ≡ k0 → k2 ≡ noted (Append item (append_answer fault) ∷ []) k0
noted_append item fault copy k0 k1 k2 adds is same =
    noted_behind (Append item (append_answer fault) ∷ []) k0 k1 k2 (adds item (is ∙ ap (λ (before : Noted). option_map (λ _. item) before.calls) (sym same))) same

first_same : (x y : Item × AppendFault) → Some x ≡ Some y → y.0 ≡ x.0
first_same x y is = let same : x ≡ y = cc in ap (λ (p : Item × AppendFault). p.0) (sym same)

-- an append that was refused, and whose item is held
pub refused_one : (i : ℕ) (item : Item) (fault : AppendFault) (old new : Exchange) → IsRecord item.body → Step old.core (Append item (Err fault)) new.core
    → notes_in new ≡ noted (Append item (Err fault) ∷ []) (notes_in old) → OnlyItem i old (Some item) new → AppendsOne i item old (Err fault) new
refused_one i item BufferFull old new held step kept only = (runs_one old new (Append item (Err BufferFull)) held step kept, only)
refused_one i item OutOfMemory old new held step kept only = record {
  last = Some (item, OutOfMemory);
  its = first_same (item, OutOfMemory);
  runs = runs_one old new (Append item (Err OutOfMemory)) held step kept;
  only = only;
}
