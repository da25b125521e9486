-- Polls, one after the other.
use Rattle.std.proofs.Common.{◌≡◌, ℕ, true, List, [], ◌++◌, Option, subst, sym, ◌∙◌, append_assoc, append-nil}
use Rattle.std.specs.Prelude.{IfOk, is_some, Result, Ok, Err}
use Rattle.kp_publish.specs.Files.{Shows}
use Rattle.kp_publish.specs.Publishing.{GoesOn, IsPublished, Polls, Turns}
use Rattle.kp_publish.specs.declared.files.Files.{Files}
use Rattle.kp_publish.proofs.GoingLemmas.{goes_on}
use Rattle.kp_send.specs.Sender.{Account, is_done}
use Rattle.kp_send.specs.Texts.{IsEmpty}
use Rattle.kp_send.specs.declared.texts.Texts.{Texts}
use Rattle.kp_send.specs.declared.telling.Tellings.{Tellings}

module _ {F : Type 0} (contents : F → Option (List ℕ)) where
  pub one_poll : (a : Account) (f : Files F) (t : List ℕ) (b : Account) (g : Files F) → Turns contents a f t b g → Polls contents a f ([] ++ t) b g
  one_poll a f t b g turn = Polls.one_more [] t a b f g Polls.none turn

  polls_more : (a : Account) (f : Files F) (t : List ℕ) (b : Account) (g : Files F) (u : List ℕ) (c : Account) (h : Files F)
      → Polls contents a f t b g → Polls contents b g u c h → Polls contents a f (t ++ u) c h
  polls_more a f t b g u c h first Polls.none = subst (λ (bytes : List ℕ). Polls contents a f bytes b g) (sym (append-nil t)) first
  polls_more a f t b g u c h first (Polls.one_more before more mid d between last so_far turn) =
      subst (λ (bytes : List ℕ). Polls contents a f bytes d last) (append_assoc t before more)
      (Polls.one_more (t ++ before) more mid d between last (polls_more a f t b g before mid between first so_far) turn)

  -- what is published behind a poll is published from before it
  published_before : (a : Account) (f : Files F) (t : List ℕ) (b : Account) (g : Files F) (tellings : Tellings) → Turns contents a f t b g
      → IsPublished contents b g tellings → IsPublished contents a f tellings
  published_before a f t b g tellings turn p = record {
    taken = ([] ++ t) ++ p.taken;
    last = p.last;
    files' = p.files';
    polls = polls_more a f ([] ++ t) b g p.taken p.last p.files' (one_poll a f t b g turn) p.polls;
    done = p.done;
    counted = p.counted;
  }

  -- the calls of a poll, and what was written then
  pub turn : (a b c : Account) (f g h k : Files F) (x y z : Texts) → IsEmpty x → x.places ≡ is_some f.offsets → GoesOn a x b y → g ≡ f → GoesOn b y c z → h ≡ g
      → Shows contents h z k → (taken : List ℕ) × Turns contents a f taken c k
  turn a b c f g h k x y z empty wanted first same later still shows =
      let all = goes_on a b c x y z first later in (
        all.0,
        record {
          nothing = x;
          texts = z;
          empty = empty;
          wanted = wanted;
          goes = all.1;
          shows = subst (λ (files : Files F). Shows contents files z k) (still ∙ same) shows;
        },
      )

  -- the same, where nothing has changed behind it
  pub turn_still : (a b c d : Account) (f g h k m : Files F) (x y z : Texts) → IsEmpty x → x.places ≡ is_some f.offsets → GoesOn a x b y → g ≡ f → GoesOn b y c z → h ≡ g
      → Shows contents h z k → d ≡ c → m ≡ k → (taken : List ℕ) × Turns contents a f taken d m
  turn_still a b c d f g h k m x y z empty wanted first same later still shows unmoved unwritten =
      subst (λ (account : Account). (taken : List ℕ) × Turns contents a f taken account m) (sym unmoved)
      (subst (λ (files : Files F). (taken : List ℕ) × Turns contents a f taken c files) (sym unwritten)
      (turn a b c f g h k x y z empty wanted first same later still shows))

  -- the last poll
  pub ended : {E : Type 0} (a : Account) (f : Files F) (t : List ℕ) (b : Account) (g : Files F) (result : Result Tellings E)
      → Turns contents a f t b g → true ≡ is_done b → IfOk result (λ tellings. b.tellings ≡ tellings) → IfOk result (IsPublished contents a f)
  ended a f t b g (Ok tellings) turns done counted = record {
    taken = [] ++ t;
    last = b;
    files' = g;
    polls = one_poll a f t b g turns;
    done = sym done;
    counted = counted;
  }
  ended a f t b g (Err e) turns done counted = tt

  -- one that is not the last
  pub earlier : {E : Type 0} (a : Account) (f : Files F) (t : List ℕ) (b : Account) (g : Files F) → Turns contents a f t b g
      → (result : Result Tellings E) → IfOk result (IsPublished contents b g) → IfOk result (IsPublished contents a f)
  earlier a f t b g turns (Ok tellings) later = published_before a f t b g tellings turns later
  earlier a f t b g turns (Err e) later = tt
