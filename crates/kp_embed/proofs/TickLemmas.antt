-- What is made of a producer as time goes on.
use Rattle.std.proofs.Common.{◌≡◌, ◌⊎◌, inl, inr, ℕ, ◌+◌, true, false, Bool, List, [], ◌∷◌, ◌++◌, Option, Some, None, refl, sym, ap, ◌∙◌, subst}
use Rattle.std.specs.Prelude.{if◌then◌else◌}
use Rattle.std.proofs.lemmas.Bool.{cases_eq}
use Rattle.kp_embed.specs.Connecting.{Loses}
use Rattle.kp_accum.specs.declared.config.Config.{Config}
use Rattle.kp_embed.specs.Going.{Acts, Called, Goes, Stays, if_core}
use Rattle.kp_embed.specs.Lines.{AtNode, SameLines, line_at}
use Rattle.kp_embed.specs.Producer.{Producer}
use Rattle.kp_embed.specs.Ticking.{GivesUpIfSpent, LooksAtAll, none, one_more, MayEnd, Ticks, TicksOne, can_only_end_in, looks_at}
use Rattle.kp_embed.specs.declared.line.Line.{Line}
use Rattle.kp_embed.proofs.ActLemmas.{acts_called, acts_idly, acts_same, acts_then}
use Rattle.kp_rules.specs.Calls.{Call, Disconnect, End, Tick}
use Rattle.kp_rules.specs.Records.{Core}
use Rattle.kp_rules.specs.declared.names.Names.{Names}
use Rattle.kp_rules.specs.declared.ticked.Ticked.{Ticked}

-- ---- where there is no core

some_not : (u : Core) → Some u ≡ None → ⊥
some_not u e = cc

-- where there was no core, there is none behind a call
pub called_unopened : (s t : Option Core) (c : Call) → Called s c t → s ≡ None → t ≡ None
called_unopened None t c called is = called
called_unopened (Some s) t c called is = absurd (some_not s is)

-- No call takes a core away.
goes_back : (config : Config) (names : Names) (s t : Option Core) (calls : List Call) → Goes config names s calls t → t ≡ None → s ≡ None
goes_back config names None t calls goes is = refl
goes_back config names (Some s) None calls goes is = absurd goes
goes_back config names (Some s) (Some t) calls goes is = absurd (some_not t is)

pub no_calls : (s : Option Core) → if_core s [] ≡ []
no_calls None = refl
no_calls (Some s) = refl

-- ---- calls where there is a core

-- These calls, where there is a core, and then those.
pub acts_if_then : (a b c : Producer) (calls more : List Call) → (a.core ≡ None → b.core ≡ None) → Acts a (if_core a.core calls) b → Acts b (if_core b.core more) c
    → Acts a (if_core a.core (calls ++ more)) c
acts_if_then a b c calls more still h k = subst (λ (cs : List Call). Acts a cs c) (joined a.core b.core still (goes_back a.config a.names a.core b.core (if_core a.core calls) h.core)) (acts_then a b c (if_core a.core calls) (if_core b.core more) h k)
  where
    joined : (s t : Option Core) → (s ≡ None → t ≡ None) → (t ≡ None → s ≡ None) → if_core s calls ++ if_core t more ≡ if_core s (calls ++ more)
    joined None t still back = ap (λ (x : Option Core). if_core x more) (still refl)
    joined (Some s) None still back = absurd (some_not s (back refl))
    joined (Some s) (Some t) still back = refl

-- ---- no calls

-- a producer of which no more than its cluster is another, and lines that are as they were
pub stays_made : (a b : Producer) → b.config ≡ a.config → b.names ≡ a.names → b.core ≡ a.core → b.counts ≡ a.counts → SameLines a.lines b.lines → Stays a b
stays_made a b config names core counts lines = record {
  acts = acts_idly a b config names core counts;
  lines = lines;
}

-- ---- lines

pub ends_none : (a b : Producer) → b.lines ≡ a.lines → MayEnd a b
ends_none a b same k = inl (ap (λ (ls : List (Option Line)). line_at k ls) same)

pub ends_at : (node : ℕ) (a b : Producer) → AtNode node None a.lines b.lines → MayEnd a b
ends_at node a b at k = by (cases_eq k node)
  where
    by : (k ≡ node) ⊎ (k ≡ node → ⊥) → (line_at k b.lines ≡ line_at k a.lines) ⊎ (line_at k b.lines ≡ None)
    by (inl is) = inr (ap (λ (n : ℕ). line_at n b.lines) is ∙ at.its)
    by (inr isnt) = inl (at.others k isnt)

pub ends_then : (a b c : Producer) → MayEnd a b → MayEnd b c → MayEnd a c
ends_then a b c h j k = by (j k) (h k)
  where
    by : (line_at k c.lines ≡ line_at k b.lines) ⊎ (line_at k c.lines ≡ None) → (line_at k b.lines ≡ line_at k a.lines) ⊎ (line_at k b.lines ≡ None)
        → (line_at k c.lines ≡ line_at k a.lines) ⊎ (line_at k c.lines ≡ None)
    by (inr gone) old = inr gone
    by (inl same) (inl old) = inl (same ∙ old)
    by (inl same) (inr gone) = inr (same ∙ gone)

-- ---- one node

pub ticks_quiet : (a b : Producer) (node now : ℕ) (answer : Ticked) → answer.reconnect ≡ false → b.config ≡ a.config → b.names ≡ a.names → Called a.core (Tick node now answer) b.core
    → b.counts ≡ a.counts → b.lines ≡ a.lines → TicksOne node now a b
ticks_quiet a b node now answer is config names called counts lines = record {
  answer = answer;
  acts = subst (λ (late : Bool). Acts a (if_core a.core (Tick node now answer ∷ (if late then Disconnect node now ∷ [] else []))) b) (sym is)
      (acts_called a b (Tick node now answer) config names called counts tt);
  lines = ends_none a b lines;
}

pub ticks_late : (a b c : Producer) (node now : ℕ) (answer : Ticked) → answer.reconnect ≡ true → b.config ≡ a.config → b.names ≡ a.names → Called a.core (Tick node now answer) b.core
    → b.counts ≡ a.counts → b.lines ≡ a.lines → Loses node now b c → TicksOne node now a c
ticks_late a b c node now answer is config names called counts lines loses = record {
  answer = answer;
  acts = subst (λ (late : Bool). Acts a (if_core a.core (Tick node now answer ∷ (if late then Disconnect node now ∷ [] else []))) c) (sym is)
      (acts_if_then a b c (Tick node now answer ∷ []) (Disconnect node now ∷ []) (called_unopened a.core b.core (Tick node now answer) called)
      (acts_called a b (Tick node now answer) config names called counts tt) loses.acts);
  lines = ends_then a b c (ends_none a b lines) (ends_at node b c loses.lines);
}

-- ---- one after the other

-- The core has looked at the clock for so many nodes.
pub record TicksTo (now n : ℕ) (old new : Producer) : Type 0 where
  pub calls : List Call
  pub looks : LooksAtAll now n calls
  pub acts : Acts old (if_core old.core calls) new
  pub lines : MayEnd old new
  pub unopened : old.core ≡ None → new.core ≡ None

pub ticks_first : (now : ℕ) (a b c : Producer) → b.config ≡ a.config → b.names ≡ a.names → b.core ≡ a.core → b.counts ≡ a.counts → b.lines ≡ a.lines
    → Acts b [] c → MayEnd b c → (b.core ≡ None → c.core ≡ None) → TicksTo now 0 a c
ticks_first now a b c config names core counts lines acts ends still = record {
  calls = [];
  looks = none;
  acts = subst (λ (calls : List Call). Acts a calls c) (sym (no_calls a.core)) (acts_then a b c [] [] (acts_idly a b config names core counts) acts);
  lines = ends_then a b c (ends_none a b lines) ends;
  unopened = λ is. still (core ∙ is);
}

pub ticks_more : (now n : ℕ) (a b c : Producer) → TicksTo now n a b → TicksOne n now b c → (b.core ≡ None → c.core ≡ None) → TicksTo now (n + 1) a c
ticks_more now n a b c h one still = record {
  calls = h.calls ++ looks_at n now one.answer;
  looks = one_more n h.calls one.answer h.looks;
  acts = acts_if_then a b c h.calls (looks_at n now one.answer) h.unopened h.acts one.acts;
  lines = ends_then a b c h.lines one.lines;
  unopened = λ is. still (h.unopened is);
}

pub ticks_all : (now n : ℕ) (a b c : Producer) → TicksTo now n a b → GivesUpIfSpent b c → Ticks now a c
ticks_all now n a b c h gives_up = record {
  nodes = n;
  calls = h.calls;
  looks = h.looks;
  looked = b;
  acts = h.acts;
  lines = h.lines;
  gives_up = gives_up;
}

-- ---- all of it

-- all calls on the core
pub ticks_act : (now : ℕ) (a b : Producer) → Ticks now a b → (calls : List Call) × Acts a calls b
ticks_act now a b t = (_, acts_then a t.looked b (if_core a.core t.calls) _ t.acts t.gives_up.acts)

pub ticks_end : (now : ℕ) (a b : Producer) → Ticks now a b → MayEnd a b
ticks_end now a b t = ends_then a t.looked b t.lines (ends_none t.looked b t.gives_up.lines)

-- ---- what is given up

pub given_up_spent : (a b : Producer) (told : ℕ) → can_only_end_in a.core ≡ true → b.config ≡ a.config → b.names ≡ a.names → Called a.core (End told) b.core → b.counts ≡ a.counts → b.lines ≡ a.lines
    → GivesUpIfSpent a b
given_up_spent a b told is config names called counts lines = record {
  told = told;
  acts = subst (λ (over : Bool). Acts a (if over then End told ∷ [] else []) b) (sym is) (subst (λ (calls : List Call). Acts a calls b) (there a.core is) (acts_called a b (End told) config names called counts tt));
  lines = lines;
}
  where
    there : (s : Option Core) → can_only_end_in s ≡ true → if_core s (End told ∷ []) ≡ End told ∷ []
    there None is = cc
    there (Some s) is = refl

pub not_given_up : (a : Producer) → can_only_end_in a.core ≡ false → GivesUpIfSpent a a
not_given_up a is = record {
  told = 0;
  acts = subst (λ (over : Bool). Acts a (if over then End 0 ∷ [] else []) a) (sym is) (acts_same a);
  lines = refl;
}
