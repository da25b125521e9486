-- What became of each item, and of what was told of it, since the engine was made.
use Rattle.std.proofs.Common.{◌≡◌, ℕ, ◌+◌, ◌<◌, ◌≤◌, Bool, true, false, List, [], ◌∷◌, ◌++◌, length, map, get_or, refl, sym, ap, ◌∙◌, subst, ⊎_elim, arith, sum_by}
use Rattle.std.specs.Prelude.{All, Option, None, filter, flat_map, option_to_list, ◌==◌, if◌then◌else◌}
use Rattle.std.specs.List.{AllByRecursion}
use Rattle.std.specs.Str.{IsUtf8}
use Rattle.std.proofs.lemmas.Bool.{cases_lt}
use Rattle.std.proofs.lemmas.List.{length-replicate}
use Rattle.std.proofs.lemmas.List.Elements.{All-get_or}
use Rattle.std.proofs.lemmas.List.Sums.{sum_by-append, sum_by-cons}
use Rattle.kp_accum.specs.declared.config.Config.{Config}
use Rattle.kp_accum.specs.declared.item.Item.{Item}
use Rattle.kp_lanes.specs.Entries.{items_of}
use Rattle.kp_lanes.specs.Intake.{passed_lists, passed_of, told_lists, told_of}
use Rattle.kp_lanes.specs.declared.intake.Intake.{Intake}
use Rattle.kp_rules.specs.Auditing.{opened, unaudited, without_audits}
use Rattle.kp_rules.specs.Calls.{Call, Life, Lives}
use Rattle.kp_rules.specs.InOrder.{HasLived, IsHeld}
use Rattle.kp_rules.specs.Opening.{MayOpen, new_core}
use Rattle.kp_rules.specs.Partitions.{all_untold, untold}
use Rattle.kp_rules.specs.Records.{Core, Partition, Told}
use Rattle.kp_rules.specs.Reports.{reports_to}
use Rattle.kp_rules.specs.declared.names.Names.{Names}
use Rattle.kp_rules.specs.declared.outcome.Report.{Report}
use Rattle.kp_rules.proofs.LifeLemmas.{all_told, told_or_untold}
use Rattle.kp_rules.proofs.UnauditedLemmas.{lived}
use Rattle.kp_engine.specs.Agreement.{held_at, waiting_of}
use Rattle.kp_engine.specs.Engine.{IsNew}
use Rattle.kp_engine.specs.Exchange.{mail_of, senders_of, side_of}
use Rattle.kp_engine.specs.Opening.{IsFresh, MayTurn}
use Rattle.kp_engine.specs.Serving.{HasPlaces, HasServed, Served, from_sender, reports_of}
use Rattle.kp_engine.specs.declared.exchange.Exchange.{Exchange}
use Rattle.kp_engine.proofs.AgreementLemmas.{nothing_beyond}
use Rattle.kp_engine.proofs.FreshLemmas.{fresh_reports, none_at, nothing_at}

-- ---- a new engine

pub empty_at : {A : Type 0} (xs : List (List A)) (i : ℕ) → All (λ l. l ≡ []) xs → get_or xs i [] ≡ []
empty_at xs i all = ⊎_elim (λ (near : i < length xs). All-get_or (λ l. l ≡ []) xs i [] near all) (λ (far : length xs ≤ i). nothing_beyond xs i far) (cases_lt i (length xs))

pub new_places : (core : Core) (intake : Intake) (keeps : Bool) (x : Exchange) → IsNew core intake keeps x → HasPlaces x
new_places core intake keeps x h =
    ap (λ (s : Core). length s.reports) h.core ∙ sym (ap (λ (l : List (Option Item)). length l) h.items ∙ length-replicate (length core.reports) None)

module _ (core : Core) (intake : Intake) (keeps : Bool) (x : Exchange) (may : MayTurn core intake) (h : IsNew core intake keeps x) (i : ℕ) where
  nothing_passed : items_of (side_of x i).passed ≡ []
  nothing_passed = ap items_of (ap (λ (t : Intake). passed_of t i) h.intake ∙ empty_at (passed_lists intake) i may.nothing_passed)

  nothing_held : (side_of x i).held ≡ None
  nothing_held = ap (λ (l : List (Option Item)). held_at l i) h.items ∙ none_at (length core.reports) i

  no_reports : reports_of x i ≡ []
  no_reports =
      ap (λ (rs : List Report). rs ++ option_to_list (mail_of x i).held ++ waiting_of x.core i)
      (ap (λ (t : Intake). told_of t i) h.intake ∙ empty_at (told_lists intake) i may.nothing_told)
      ∙ ap (λ (o : Option Report). option_to_list o ++ waiting_of x.core i)
      (ap (λ (l : List (Option Report)). held_at l i) h.reports ∙ none_at (length core.reports) i)
      ∙ ap (λ (s : Core). waiting_of s i) h.core
      ∙ ap (λ (l : List (List Report)). get_or l i []) (fresh_reports core may.fresh)
      ∙ nothing_at may.fresh.senders i

  pub since_new : (calls : List Call) (y : Exchange) (served : Served x calls y) → i < senders_of x
      → (items_of (side_of y i).passed ≡ from_sender i served.life.appended ++ option_to_list (side_of y i).held)
      × (reports_of y i ≡ reports_to i served.life.told)
  since_new calls y served near =
      let t = served.took i near in
      let u = served.told i near in (
        t.taken ∙ ap (λ (xs : List Item). xs ++ t.more) nothing_passed
            ∙ ap (λ (o : Option Item). option_to_list o ++ t.more) (sym nothing_held)
            ∙ t.in_order,
        u.in_order ∙ ap (λ (rs : List Report). rs ++ reports_to i served.life.told) no_reports,
      )

-- ---- weights

-- the sender's items alone
abbrev of_sender : ℕ → (Item → ℕ) → Item → ℕ
of_sender i f x = if x.sender == i then f x else 0

sum_of_sender : (i : ℕ) (f : Item → ℕ) (xs : List Item) → sum_by (of_sender i f) xs ≡ sum_by f (from_sender i xs)
sum_of_sender i f [] = refl
sum_of_sender i f (x ∷ xs) = sum_by-cons (of_sender i f) x xs ∙ at_test (x.sender == i) (sum_of_sender i f xs)
  where
    at_test : (b : Bool) → sum_by (of_sender i f) xs ≡ sum_by f (from_sender i xs)
        → (if b then f x else 0) + sum_by (of_sender i f) xs ≡ sum_by f (if b then x ∷ from_sender i xs else from_sender i xs)
    at_test true e = ap (λ (n : ℕ). f x + n) e ∙ sym (sum_by-cons f x (from_sender i xs))
    at_test false e = omega (arith, e)

-- of what is told of a sender's items, its reports weigh as much
sum_of_reports : (i : ℕ) (g : ℕ → ℕ → ℕ) (told : List Told)
    → sum_by (λ x. g x.partition x.number) (from_sender i (map (λ t. t.item) told)) ≡ sum_by (λ r. g r.partition r.number) (reports_to i told)
sum_of_reports i g [] = refl
sum_of_reports i g (t ∷ ts) = at_test (t.item.sender == i) (sum_of_reports i g ts)
  where
    report : Told → Report
    report u = record { sender = u.item.sender; partition = u.item.partition; number = u.item.number; outcome = u.outcome }

    at_test : (b : Bool) → sum_by (λ (x : Item). g x.partition x.number) (from_sender i (map (λ (u : Told). u.item) ts)) ≡ sum_by (λ (r : Report). g r.partition r.number) (reports_to i ts)
        → sum_by (λ (x : Item). g x.partition x.number) (if b then t.item ∷ from_sender i (map (λ (u : Told). u.item) ts) else from_sender i (map (λ (u : Told). u.item) ts))
        ≡ sum_by (λ (r : Report). g r.partition r.number) (map (λ (u : Told). let r : Report = record {
          sender = u.item.sender;
          partition = u.item.partition;
          number = u.item.number;
          outcome = u.outcome;
        } in r) (if b then t ∷ filter (λ (u : Told). u.item.sender == i) ts else filter (λ (u : Told). u.item.sender == i) ts))
    at_test true e =
        sum_by-cons (λ (x : Item). g x.partition x.number) t.item (from_sender i (map (λ (u : Told). u.item) ts))
        ∙ ap (λ (n : ℕ). g t.item.partition t.item.number + n) e
        ∙ sym (sum_by-cons (λ (r : Report). g r.partition r.number) (report t) (reports_to i ts))
    at_test false e = e

-- ---- a core that keeps no audits

untold_alike : (ts : List Partition) → flat_map untold (map unaudited ts) ≡ flat_map untold ts
unfolding untold
untold_alike [] = refl
untold_alike (t ∷ ts) = ap (λ (xs : List Item). untold t ++ xs) (untold_alike ts)

same_untold : (s : Core) → all_untold (without_audits s) ≡ all_untold s
unfolding without_audits
same_untold s = untold_alike s.partitions

same_ended : (s : Core) → (without_audits s).ended ≡ s.ended
unfolding without_audits
same_ended s = refl

names_in : (audits : Bool) (c : Config) (names : Names) (partitions senders id correlation : ℕ)
    → (opened audits (new_core c names partitions senders id correlation)).names ≡ names
unfolding new_core without_audits
names_in true c names partitions senders id correlation = refl
names_in false c names partitions senders id correlation = refl

-- A core with audits that lived through the same, and of which as much is untold.
record LivedAlike (config : Config) (names : Names) (partitions senders id correlation : ℕ) (calls : List Call) (life : Life) (u : Core) : Type 0 where
  with_audits : Core
  lives : HasLived config names partitions senders id correlation calls life with_audits
  same : all_untold u ≡ all_untold with_audits
  end : u.ended ≡ with_audits.ended

lived_alike : (audits : Bool) (c : Config) (n : Names) (partitions senders id correlation : ℕ) (calls : List Call) (life : Life) (u : Core)
    → MayOpen c n partitions senders id correlation → IsUtf8 n.topic → IsUtf8 n.client → AllByRecursion IsHeld calls
    → Lives (opened audits (new_core c n partitions senders id correlation)) calls life u
    → LivedAlike c n partitions senders id correlation calls life u
lived_alike true c n partitions senders id correlation calls life u may topic client held lives = record {
  with_audits = u;
  lives = record { opens = may; topic = topic; client = client; held = held; lives = lives };
  same = refl;
  end = refl;
}
lived_alike false c n partitions senders id correlation calls life u may topic client held lives =
    let found = lived (new_core c n partitions senders id correlation) calls life u lives in record {
      with_audits = found.0;
      lives = record { opens = may; topic = topic; client = client; held = held; lives = found.1 };
      same = ap all_untold found.2 ∙ same_untold found.0;
      end = ap (λ (s : Core). s.ended) found.2 ∙ same_ended found.0;
    }

-- ---- what an engine has served

module _ (core : Core) (intake : Intake) (calls : List Call) (y : Exchange) (h : HasServed core intake calls y) where
  f : IsFresh core
  f = h.may.fresh

  its_names : core.names ≡ f.names
  its_names = ap (λ (s : Core). s.names) f.is ∙ names_in f.audits f.config f.names f.partitions f.senders f.id f.correlation

  alike : LivedAlike f.config f.names f.partitions f.senders f.id f.correlation calls h.served.life y.core
  alike = lived_alike f.audits f.config f.names f.partitions f.senders f.id f.correlation calls h.served.life y.core f.may
      (subst (λ (n : Names). IsUtf8 n.topic) its_names h.is_new.topic) (subst (λ (n : Names). IsUtf8 n.client) its_names h.is_new.client) h.served.held
      (subst (λ (s : Core). Lives s calls h.served.life y.core) (h.is_new.core ∙ f.is) h.served.lives)

  taken_weighs : (i : ℕ) → i < senders_of y → (w : Item → ℕ)
      → sum_by w (items_of (side_of y i).passed) ≡ sum_by w (from_sender i h.served.life.appended) + sum_by w (option_to_list (side_of y i).held)
  taken_weighs i near w =
      ap (sum_by w) ((since_new core intake h.keeps h.first h.may h.is_new i calls y h.served (omega (arith, near, h.served.lanes.senders))).0)
      ∙ sum_by-append w (from_sender i h.served.life.appended) (option_to_list (side_of y i).held)

  pub reports_are : (i : ℕ) → i < senders_of y → reports_of y i ≡ reports_to i h.served.life.told
  reports_are i near = (since_new core intake h.keeps h.first h.may h.is_new i calls y h.served (omega (arith, near, h.served.lanes.senders))).1

  pub taken_is : (i : ℕ) → i < senders_of y → (w : Item → ℕ) → sum_by w (items_of (side_of y i).passed)
      ≡ sum_by w (option_to_list (side_of y i).held) + sum_by w (from_sender i (all_untold y.core)) + sum_by w (from_sender i (map (λ t. t.item) h.served.life.told))
  taken_is i near w =
      let told = map (λ (t : Told). t.item) h.served.life.told in
      let appended : sum_by w (from_sender i h.served.life.appended) ≡ sum_by w (from_sender i told) + sum_by w (from_sender i (all_untold y.core)) =
      sym (sum_of_sender i w h.served.life.appended)
      ∙ told_or_untold f.config f.names f.partitions f.senders f.id f.correlation calls h.served.life alike.with_audits alike.lives (of_sender i w)
      ∙ ap (λ (xs : List Item). sum_by (of_sender i w) told + sum_by (of_sender i w) xs) (sym alike.same)
      ∙ ap (λ (n : ℕ). n + sum_by (of_sender i w) (all_untold y.core)) (sum_of_sender i w told)
      ∙ ap (λ (n : ℕ). sum_by w (from_sender i told) + n) (sum_of_sender i w (all_untold y.core)) in
      add_up (sum_by w (items_of (side_of y i).passed)) (sum_by w (from_sender i h.served.life.appended)) (sum_by w (option_to_list (side_of y i).held))
      (sum_by w (from_sender i told)) (sum_by w (from_sender i (all_untold y.core))) (taken_weighs i near w) appended
    where
      add_up : (taken appended held told left : ℕ) → taken ≡ appended + held → appended ≡ told + left → taken ≡ held + left + told
      add_up taken appended held told left p q = omega (arith, p, q)

  appended_at_the_end : y.core.ended ≡ true → (i : ℕ) → (w : Item → ℕ)
      → sum_by w (from_sender i h.served.life.appended) ≡ sum_by w (from_sender i (map (λ t. t.item) h.served.life.told))
  appended_at_the_end ended i w =
      sym (sum_of_sender i w h.served.life.appended)
      ∙ all_told f.config f.names f.partitions f.senders f.id f.correlation calls h.served.life alike.with_audits alike.lives (sym alike.end ∙ ended) (of_sender i w)
      ∙ sum_of_sender i w (map (λ (t : Told). t.item) h.served.life.told)

  pub taken_at_the_end : y.core.ended ≡ true → (i : ℕ) → i < senders_of y → (w : Item → ℕ) → sum_by w (items_of (side_of y i).passed)
      ≡ sum_by w (option_to_list (side_of y i).held) + sum_by w (from_sender i (map (λ t. t.item) h.served.life.told))
  taken_at_the_end ended i near w =
      add_up (sum_by w (items_of (side_of y i).passed)) (sum_by w (from_sender i h.served.life.appended)) (sum_by w (option_to_list (side_of y i).held))
      (sum_by w (from_sender i (map (λ (t : Told). t.item) h.served.life.told))) (taken_weighs i near w) (appended_at_the_end ended i w)
    where
      add_up : (taken appended held told : ℕ) → taken ≡ appended + held → appended ≡ told → taken ≡ held + told
      add_up taken appended held told p q = omega (arith, p, q)

  reports_weigh : (i : ℕ) → i < senders_of y → (g : ℕ → ℕ → ℕ)
      → sum_by (λ x. g x.partition x.number) (from_sender i (map (λ t. t.item) h.served.life.told)) ≡ sum_by (λ r. g r.partition r.number) (reports_of y i)
  reports_weigh i near g = sum_of_reports i g h.served.life.told ∙ ap (λ (rs : List Report). sum_by (λ r. g r.partition r.number) rs) (sym (reports_are i near))

  pub taken_reported : (i : ℕ) → i < senders_of y → (g : ℕ → ℕ → ℕ) → sum_by (λ x. g x.partition x.number) (items_of (side_of y i).passed)
      ≡ sum_by (λ x. g x.partition x.number) (option_to_list (side_of y i).held)
      + sum_by (λ x. g x.partition x.number) (from_sender i (all_untold y.core))
      + sum_by (λ r. g r.partition r.number) (reports_of y i)
  taken_reported i near g =
      taken_is i near (λ x. g x.partition x.number)
      ∙ ap (λ (n : ℕ). sum_by (λ (x : Item). g x.partition x.number) (option_to_list (side_of y i).held) + sum_by (λ (x : Item). g x.partition x.number) (from_sender i (all_untold y.core)) + n)
      (reports_weigh i near g)

  pub taken_reported_at_the_end : y.core.ended ≡ true → (i : ℕ) → i < senders_of y → (g : ℕ → ℕ → ℕ) → sum_by (λ x. g x.partition x.number) (items_of (side_of y i).passed)
      ≡ sum_by (λ x. g x.partition x.number) (option_to_list (side_of y i).held) + sum_by (λ r. g r.partition r.number) (reports_of y i)
  taken_reported_at_the_end ended i near g =
      taken_at_the_end ended i near (λ x. g x.partition x.number)
      ∙ ap (λ (n : ℕ). sum_by (λ (x : Item). g x.partition x.number) (option_to_list (side_of y i).held) + n) (reports_weigh i near g)

  pub appended_reported_at_the_end : y.core.ended ≡ true → (i : ℕ) → i < senders_of y → (g : ℕ → ℕ → ℕ)
      → sum_by (λ x. g x.partition x.number) (from_sender i h.served.life.appended) ≡ sum_by (λ r. g r.partition r.number) (reports_of y i)
  appended_reported_at_the_end ended i near g = appended_at_the_end ended i (λ x. g x.partition x.number) ∙ reports_weigh i near g
