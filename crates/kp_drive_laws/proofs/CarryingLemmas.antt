-- Uses of a driven producer, step by step.
use Rattle.std.proofs.Common.{◌≡◌, ◌⊎◌, inl, inr, ℕ, List, [], ◌++◌, Some, None, sym, ◌∙◌, subst, append-nil, append_assoc}
use Rattle.std.proofs.lemmas.List.Concat.{flat_map-append}
use Rattle.kp_accum.specs.declared.config.Config.{Config}
use Rattle.kp_cluster.specs.Cluster.{Cluster}
use Rattle.kp_connection.specs.Answers.{Answer, came, came_by}
use Rattle.kp_connection.specs.Wire.{Told}
use Rattle.kp_drive.specs.Connection.{HasCarried, Since}
use Rattle.kp_drive.specs.Serving.{Exchanges}
use Rattle.kp_drive.specs.Using.{Uses}
use Rattle.kp_drive.specs.declared.link.Link.{Link}
use Rattle.kp_drive.specs.declared.pipe.Pipe.{Pipe}
use Rattle.kp_drive.proofs.TurnLemmas.{turn_acts}
use Rattle.kp_drive_laws.specs.Carrying.{CarriesOn, IsGivenUp}
use Rattle.kp_embed.specs.Lines.{line_at}
use Rattle.kp_embed.specs.Producer.{Producer, new_producer}
use Rattle.kp_embed.specs.declared.line.Line.{Line}
use Rattle.kp_embed_laws.specs.Connection.{Carries, Over}
use Rattle.kp_embed_laws.specs.Running.{Runs}
use Rattle.kp_embed_laws.proofs.CarryLemmas.{carries}
use Rattle.kp_rules.specs.Calls.{Call}
use Rattle.kp_rules.specs.declared.names.Names.{Names}

-- ---- calls

pub uses_run : {K S : Type 0} (answers : Told S) (config : Config) (names : Names) (cluster : Cluster) (p : Producer) (links : List (Link K S)) → Uses answers (new_producer config names cluster) p links
    → (calls : List Call) × Runs config names calls p
uses_run answers config names cluster p links Uses.made = ([], Runs.made cluster)
uses_run answers config names cluster p links (Uses.turned now a b ls ms rest turn) =
    let before = uses_run answers config names cluster a ls rest in
    let acts = turn_acts answers now a b ls ms turn in
    (before.0 ++ acts.0, Runs.acted a b before.0 acts.0 before.1 acts.1)
uses_run answers config names cluster p links (Uses.called a b ls calls rest acts lines) =
    let before = uses_run answers config names cluster a ls rest in
    (before.0 ++ calls, Runs.acted a b before.0 calls before.1 acts)

-- ---- a line

-- so much went over a node's connection
pub record Went (node : ℕ) (taken fed : List ℕ) (p : Producer) : Type 0 where
  pub heard : List (List ℕ)
  pub mine : List Call
  pub over : Over node taken fed heard mine p

is_not_none : (line : Line) → Some line ≡ None → ⊥
is_not_none line e = cc

-- What is not there is neither asked nor fed.
none_stays : (node now : ℕ) (p q : Producer) (taken fed : List ℕ) → Exchanges node now p taken fed q → IsGivenUp node p → IsGivenUp node q
none_stays node now p q taken fed Exchanges.none none = none
none_stays node now p q taken fed (Exchanges.took before heard bytes a b rest step) none =
    absurd (is_not_none step.line (sym step.is ∙ none_stays node now p a before heard rest none))
none_stays node now p q taken fed (Exchanges.refused before heard a b rest step) none = step.lines node ∙ none_stays node now p a before heard rest none
none_stays node now p q taken fed (Exchanges.heard before heard bytes a b rest step) none =
    absurd (is_not_none step.line (sym step.is ∙ none_stays node now p a before heard rest none))

exchanges_went : (node now : ℕ) (p q : Producer) (was_taken was_fed taken fed : List ℕ) → Went node was_taken was_fed p → Exchanges node now p taken fed q → Went node (was_taken ++ taken) (was_fed ++ fed) q
exchanges_went node now p q was_taken was_fed taken fed w Exchanges.none =
    subst (λ (xs : List ℕ). Went node xs (was_fed ++ []) p) (sym (append-nil was_taken)) (subst (λ (xs : List ℕ). Went node was_taken xs p) (sym (append-nil was_fed)) w)
exchanges_went node now p q was_taken was_fed taken fed w (Exchanges.took before heard bytes a b rest step) =
    let g = exchanges_went node now p a was_taken was_fed before heard w rest in
    subst (λ (xs : List ℕ). Went node xs (was_fed ++ heard) b) (append_assoc was_taken before bytes) (record {
      heard = g.heard;
      mine = g.mine ++ step.asks.calls;
      over = Over.took now a b (was_taken ++ before) (was_fed ++ heard) bytes g.heard g.mine g.over step;
    })
exchanges_went node now p q was_taken was_fed taken fed w (Exchanges.refused before heard a b rest step) =
    let g = exchanges_went node now p a was_taken was_fed before heard w rest in record {
      heard = g.heard;
      mine = g.mine;
      over = Over.meanwhile a b (was_taken ++ before) (was_fed ++ heard) g.heard g.mine step.asks.calls g.over step.asks.acts (step.lines node);
    }
exchanges_went node now p q was_taken was_fed taken fed w (Exchanges.heard before heard bytes a b rest step) =
    let g = exchanges_went node now p a was_taken was_fed before heard w rest in
    subst (λ (xs : List ℕ). Went node (was_taken ++ before) xs b) (append_assoc was_fed heard bytes) (record {
      heard = g.heard ++ step.hears.contents;
      mine = g.mine;
      over = Over.listened now a b (was_taken ++ before) (was_fed ++ heard) bytes g.heard g.mine g.over step;
    })

-- ---- since it was made

module _ {S : Type 0} (answers : Told S) (node : ℕ) (first : S) where
  since_went : (xs : List Answer) (taken : List ℕ) (p : Producer) (b : Pipe S) → Since answers node first xs taken p b → IsGivenUp node p ⊎ Went node taken (came xs) p
  since_went xs taken p b (Since.connected now q r c stream none connects) = inr (record { heard = []; mine = []; over = Over.connected now q r connects })
  since_went xs taken p b (Since.served now q r a c ys before rest s) = served (since_went ys before q a rest)
    where
      served : IsGivenUp node q ⊎ Went node before (came ys) q → IsGivenUp node r ⊎ Went node (before ++ s.taken) (came (ys ++ s.xs)) r
      served (inl none) = inl (none_stays node now q r s.taken (came s.xs) s.exchanges none)
      served (inr w) = inr (subst (λ (zs : List ℕ). Went node (before ++ s.taken) zs r) (sym (flat_map-append came_by ys s.xs))
          (exchanges_went node now q r before (came ys) s.taken (came s.xs) w s.exchanges))
  since_went xs taken p b (Since.meanwhile q r c ys before calls rest acts may) = meanwhile (since_went ys before q c rest) may
    where
      meanwhile : IsGivenUp node q ⊎ Went node before (came ys) q → (line_at node r.lines ≡ line_at node q.lines) ⊎ (line_at node r.lines ≡ None) → IsGivenUp node r ⊎ Went node before (came ys) r
      meanwhile was (inr none) = inl none
      meanwhile (inl none) (inl same) = inl (same ∙ none)
      meanwhile (inr w) (inl same) = inr (record { heard = w.heard; mine = w.mine; over = Over.meanwhile q r before (came ys) w.heard w.mine calls w.over acts same })

pub carries_on : {S : Type 0} (answers : Told S) (node : ℕ) (p : Producer) (b : Pipe S) → HasCarried answers node p b → CarriesOn answers node p b
carries_on answers node p b h = so (since_went answers node h.first h.xs h.taken p b h.since)
  where
    so : IsGivenUp node p ⊎ Went node h.taken (came h.xs) p → CarriesOn answers node p b
    so (inl none) = inl none
    so (inr w) = inr (record {
      first = h.first;
      xs = h.xs;
      told = h.carries.told;
      heard = w.heard;
      mine = w.mine;
      carries = subst (λ (taken : List ℕ). Carries node taken (came h.xs) w.heard w.mine p) (sym h.carries.written)
          (carries node h.taken (came h.xs) w.heard w.mine p w.over);
    })
