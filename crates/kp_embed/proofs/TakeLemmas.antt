-- Bytes that are taken of a line.
use Rattle.std.proofs.Common.{◌≡◌, ℕ, ◌≤◌, List, [], ◌++◌, length, take, drop, Option, Some, None, sym, ap, ◌∙◌, subst, append-nil, arith}
use Rattle.std.specs.Prelude.{min, ◌⊎◌}
use Rattle.std.proofs.Math.Nat.{min-le_left}
use Rattle.std.proofs.lemmas.List.{length-take-le, take-append-drop, take-append-le, take_all}
use Rattle.kp_embed.specs.Asking.{Asks, HasNone}
use Rattle.kp_embed.specs.Going.{Acts}
use Rattle.kp_embed.specs.Lines.{AtNode, line_at}
use Rattle.kp_embed.specs.Producer.{Producer}
use Rattle.kp_embed.specs.Taking.{AsksNext, AsksNone, CarriesNone, CarriesOut}
use Rattle.kp_embed.specs.declared.line.Line.{Line}
use Rattle.kp_embed.proofs.ActLemmas.{acts_then}
use Rattle.kp_embed.proofs.AskLemmas.{with_out}
use Rattle.kp_embed.proofs.LineLemmas.{none_taken, put_back, put_same}
use Rattle.kp_rules.specs.declared.names.Names.{Names}
use Rattle.kp_rules.specs.Calls.{Call}

-- the bytes at the front of the room are those that were taken
front_taken : (n : ℕ) (out room new : List ℕ) → n ≡ min (length out) (length room) → new ≡ take n out ++ drop n room → out ≡ take n new ++ drop n out
front_taken n out room new count is =
    let within : n ≤ length out = subst (λ (k : ℕ). k ≤ length out) (sym count) (min-le_left (length out) (length room)) in
    let len : length (take n out) ≡ n = length-take-le n out within in
    let near : n ≤ length (take n out) = omega (arith, len) in
    let front : take n new ≡ take n out =
    ap (take n) is ∙ take-append-le n (take n out) (drop n room) near ∙ take_all n (take n out) (omega (arith, len)) in
    sym (take-append-drop n out) ∙ ap (λ (xs : List ℕ). xs ++ drop n out) (sym front)

-- calls before and behind which nothing is called
acts_within : (a taken m b : Producer) (calls : List Call) → Acts a [] taken → Acts m [] b → Acts taken calls m → Acts a calls b
acts_within a taken m b calls idle still h =
    subst (λ (cs : List Call). Acts a cs b) (append-nil calls) (acts_then a m b calls [] (acts_then a taken m [] calls idle h) still)

asks_within : (node now : ℕ) (a taken m b : Producer) (line asked : Line) → Acts a [] taken → taken.names ≡ a.names → Acts m [] b → AsksNext node now taken line m asked → AsksNext node now a line b asked
asks_within node now a taken m b line asked idle names still h = record {
  calls = h.calls;
  acts = acts_within a taken m b h.calls idle still h.acts;
  held = h.held;
  asks = subst (λ (n : Names). ((h.calls ≡ []) × (asked.question ≡ line.question) × (asked.out ≡ line.out)) ⊎ ((line.out ≡ []) × Asks n node now line.question asked.out h.calls asked.question)) names h.asks;
}

-- bytes were taken of a line, which was taken and put back
pub carried : (node now : ℕ) (a taken m b : Producer) (line asked after : Line) (n : ℕ) (room new : List ℕ) → Acts a [] taken → taken.names ≡ a.names → Acts m [] b → line_at node a.lines ≡ Some line
    → AtNode node None a.lines taken.lines → AsksNext node now taken line m asked → m.lines ≡ taken.lines → n ≡ min (length asked.out) (length room) → new ≡ take n asked.out ++ drop n room
    → after ≡ with_out (drop n asked.out) asked → AtNode node (Some after) m.lines b.lines → CarriesOut node now a (take n new) b
carried node now a taken m b line asked after n room new idle names still was left asks lines count is rest put = record {
  line = line;
  asked = asked;
  after = after;
  is = was;
  asks = asks_within node now a taken m b line asked idle names still asks;
  bytes = front_taken n asked.out room new count is ∙ ap (λ (xs : List ℕ). take n new ++ xs) (sym (ap (λ (l : Line). l.out) rest));
  rest = (ap (λ (l : Line). l.question) rest, ap (λ (l : Line). l.held) rest);
  lines = put_back node None (Some after) a.lines taken.lines b.lines left (subst (λ (ls : List (Option Line)). AtNode node (Some after) ls b.lines) lines put);
}

-- nothing was taken of it
pub carried_none : (node now : ℕ) (a taken m b : Producer) (line after : Line) → Acts a [] taken → Acts m [] b → line_at node a.lines ≡ Some line → AtNode node None a.lines taken.lines
    → AsksNone node now taken m → m.lines ≡ taken.lines → after ≡ line → AtNode node (Some after) m.lines b.lines → CarriesNone node now a b
carried_none node now a taken m b line after idle still was left none lines same put = record {
  asks = record { calls = none.calls; acts = acts_within a taken m b none.calls idle still none.acts; none = none.none };
  lines = put_same node None line a.lines taken.lines b.lines was left
      (subst (λ (l : Line). AtNode node (Some l) taken.lines b.lines) same (subst (λ (ls : List (Option Line)). AtNode node (Some after) ls b.lines) lines put));
}

-- there was no line
pub carried_nothing : (node now : ℕ) (a b : Producer) → Acts a [] b → line_at node a.lines ≡ None → AtNode node None a.lines b.lines → CarriesNone node now a b
carried_nothing node now a b idle none left = record {
  asks = record { calls = []; acts = idle; none = HasNone.unasked };
  lines = none_taken node a.lines b.lines none left;
}
