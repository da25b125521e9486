-- Arguments that are added one by one.
use Rattle.std.proofs.Common.{◌≡◌, ◌∙◌, ap, ap₂, refl, Bool, true, false, Bor, List, [], ◌∷◌, ◌++◌, map}
use Rattle.std.specs.Prelude.{◌||◌}
use Rattle.std.proofs.lemmas.List.{map-append}
use Rattle.clap.specs.Words.{AddsAliases, AddsArg, App, Rule, Text, app_of, rule_of, with_rule}
use Rattle.clap.specs.declared.builder.arg.Arg.{Arg}
use Rattle.clap.specs.declared.builder.command.Command.{Command}
use Rattle.clap.specs.declared.builder.command.Command.TheViews.{out-Command as fields_of}
use Rattle.kp_command_line.specs.OptionRules.{Adds, TakesAlso}

or_false : (b : Bool) → (b || false) ≡ b
or_false true = refl
or_false false = refl

-- one more argument, of this command alone
pub one_more : {r : Rule} {old new : Command} {a : Arg} → AddsArg old a new → rule_of a ≡ r → a.global ≡ false → Adds r old new
one_more {old = old} adds is local = record {
  shape = adds.shape local ∙ ap (with_rule (app_of old)) is;
  local = adds.globals ∙ ap (λ (g : Bool). (fields_of old).has_globals || g) local ∙ or_false _;
}

-- some, and then some more
pub further : {more most : App → App} {old mid new : Command} → TakesAlso more old mid → TakesAlso most mid new
    → TakesAlso (λ app. most (more app)) old new
further {most = most} before after = record {
  shape = after.shape ∙ ap most before.shape;
  local = after.local ∙ before.local;
}

-- one more name
pub aliased : {r : Rule} (old new : Arg) (name : Bor Text) → rule_of old ≡ r → r.aliases ≡ [] → AddsAliases old new ((name, true) ∷ [])
    → rule_of new ≡ record r { aliases = name.now ∷ [] }
aliased old new name is none adds =
    ap rule_of adds.0
    ∙ ap₂ (λ (s : Rule) (names : List Text). record s { aliases = names }) is
    (ap (map (λ (alias : Bor Text × Bool). alias.0.now)) adds.1
    ∙ map-append (λ (alias : Bor Text × Bool). alias.0.now) old.aliases.items ((name, true) ∷ [])
    ∙ ap (λ (names : List Text). names ++ name.now ∷ []) (ap (λ (s : Rule). s.aliases) is ∙ none))
