use Rattle.std.proofs.Common.{[], Bor, List, Option, ap, codes, map, option_map, sym, unwrap_or, ◌∙◌}
use Rattle.std.proofs.lemmas.Result.{IfOk-weaker}
use Rattle.clap.specs.Words.{Text, found_of}
use Rattle.kp_command_line.proofs.OptionWordsLemmas.{all_is}
use Rattle.kp_send_words.proofs.send_words.headers_of.Goals as goal

abbrev texts : List (Bor Text) → List Text
texts = map (λ text. text.now)

abbrev texts_or : Option (Bor (List (Bor Text))) → List Text
texts_or said = unwrap_or (option_map (λ words. texts words.now) said) []

pub returns-in-Some : goal.returns-in-Some
returns-in-Some c =
    let all = all_is (found_of c.args.matches.now) (codes "header") c.get_strs.result c.get_strs.ensures in
    IfOk-weaker c.from_slice.result _ _
    (λ headers items. ap texts items ∙ sym (ap (λ (o : Option (List Text)). unwrap_or o []) all ∙ ap texts_or c.in-Some.is))
    c.from_slice.ensures.items

pub returns-in-None : goal.returns-in-None
returns-in-None c =
    let all = all_is (found_of c.args.matches.now) (codes "header") c.get_strs.result c.get_strs.ensures in
    ap texts c.new.ensures.items ∙ sym (ap (λ (o : Option (List Text)). unwrap_or o []) all ∙ ap texts_or c.in-None.is)
