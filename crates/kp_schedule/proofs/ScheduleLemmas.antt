-- One text, one schedule.
use Rattle.std.proofs.Common.{◌≡◌, ℕ, ◌<◌, ◌≤◌, List, [], ◌∷◌, ◌++◌, length, map, refl, sym, ap, subst, ◌∙◌, append-nil, append_assoc, arith}
use Rattle.std.proofs.Props.{props}
use Rattle.kp_accum.specs.declared.config.Config.{Config}
use Rattle.kp_world.specs.declared.event.Event.{Event}
use Rattle.kp_schedule.specs.Config.{config_of}
use Rattle.kp_schedule.specs.Draft.{at}
use Rattle.kp_schedule.specs.Grammar.{MayBeSaid, Says}
use Rattle.kp_schedule.specs.Lines.{Text, lines}
use Rattle.kp_schedule.specs.Reading.{MayFollow, Say, drafted, set_or}
use Rattle.kp_schedule.specs.Schedule.{IsFirstBad, Spells}
use Rattle.kp_schedule.specs.declared.saying.Saying.{Saying}
use Rattle.kp_schedule.specs.declared.schedule.Schedule.{Schedule}
use Rattle.kp_schedule.specs.declared.schedule.Scheduled.{Scheduled}
use Rattle.kp_schedule.specs.declared.setting.Setting.TheVariants.{Partitions, Senders}
use Rattle.kp_schedule.proofs.OneLemmas.{says-one, say-one}

-- ---- what a schedule keeps is known of it in one way

same-scheduled : (n m : ℕ) (e f : Event) → n ≡ m → e ≡ f → (h : ∥ MayBeSaid e ∥₁) (k : ∥ MayBeSaid f ∥₁)
    → ◌≡◌ {A = Scheduled} (record { line = n; event = e; may_be = h }) (record { line = m; event = f; may_be = k })
same-scheduled n m e f line event h =
    subst (λ f. (k : ∥ MayBeSaid f ∥₁) → ◌≡◌ {A = Scheduled} (record { line = n; event = e; may_be = h }) (record { line = m; event = f; may_be = k })) event
    (λ k. λ i. record { line = line i; event = e; may_be = prop h k i })
  where
    prop : IsProp (∥ MayBeSaid e ∥₁)
    prop = hlevel

at-injective : (a b : Scheduled) → at a ≡ at b → a ≡ b
at-injective a b is =
    same-scheduled a.line b.line a.event b.event (ap (λ x. x.line) is) (ap (λ x. x.event) is) a.may_be b.may_be

all-at-injective : (xs ys : List Scheduled) → map at xs ≡ map at ys → xs ≡ ys
all-at-injective [] [] is = refl
all-at-injective [] (y ∷ ys) is = absurd cc
all-at-injective (x ∷ xs) [] is = absurd cc
all-at-injective (x ∷ xs) (y ∷ ys) is =
    let first = at-injective x y cc in
    let others = all-at-injective xs ys cc in
    cc

module _ (c d : Config) (es fs : List Scheduled) (config : c ≡ d) (events : es ≡ fs) where
  same-senders : (p : ℕ) (s t : ℕ) → s ≡ t → (h1 k1 : 1 ≤ p) (h2 k2 : p ≤ 1024) (h3 : 1 ≤ s) (h4 : s ≤ 64) (k3 : 1 ≤ t) (k4 : t ≤ 64)
      → ◌≡◌ {A = Schedule} (record { config = c; partitions = p; senders = s; events = es; some_partitions = h1; few_partitions = h2; some_senders = h3; few_senders = h4 })
      (record { config = d; partitions = p; senders = t; events = fs; some_partitions = k1; few_partitions = k2; some_senders = k3; few_senders = k4 })
  same-senders p s t same h1 k1 h2 k2 h3 h4 =
      subst (λ t. (k3 : 1 ≤ t) (k4 : t ≤ 64)
      → ◌≡◌ {A = Schedule} (record { config = c; partitions = p; senders = s; events = es; some_partitions = h1; few_partitions = h2; some_senders = h3; few_senders = h4 })
      (record { config = d; partitions = p; senders = t; events = fs; some_partitions = k1; few_partitions = k2; some_senders = k3; few_senders = k4 })) same
      (λ k3 k4. λ i. record { config = config i; partitions = p; senders = s; events = events i; some_partitions = le1 h1 k1 i; few_partitions = le2 h2 k2 i; some_senders = le3 h3 k3 i; few_senders = le4 h4 k4 i })
    where
      le1 : IsProp (1 ≤ p)
      le1 = hlevel props

      le2 : IsProp (p ≤ 1024)
      le2 = hlevel props

      le3 : IsProp (1 ≤ s)
      le3 = hlevel props

      le4 : IsProp (s ≤ 64)
      le4 = hlevel props

  same-schedule : (p q s t : ℕ) → p ≡ q → s ≡ t → (h1 : 1 ≤ p) (h2 : p ≤ 1024) (h3 : 1 ≤ s) (h4 : s ≤ 64) (k1 : 1 ≤ q) (k2 : q ≤ 1024) (k3 : 1 ≤ t) (k4 : t ≤ 64)
      → ◌≡◌ {A = Schedule} (record { config = c; partitions = p; senders = s; events = es; some_partitions = h1; few_partitions = h2; some_senders = h3; few_senders = h4 })
      (record { config = d; partitions = q; senders = t; events = fs; some_partitions = k1; few_partitions = k2; some_senders = k3; few_senders = k4 })
  same-schedule p q s t partitions senders h1 h2 h3 h4 =
      subst (λ q. (k1 : 1 ≤ q) (k2 : q ≤ 1024) (k3 : 1 ≤ t) (k4 : t ≤ 64)
      → ◌≡◌ {A = Schedule} (record { config = c; partitions = p; senders = s; events = es; some_partitions = h1; few_partitions = h2; some_senders = h3; few_senders = h4 })
      (record { config = d; partitions = q; senders = t; events = fs; some_partitions = k1; few_partitions = k2; some_senders = k3; few_senders = k4 })) partitions
      (λ k1 k2 k3 k4. same-senders p s t senders h1 k1 h2 k2 h3 h4 k3 k4)

-- ---- one text

pub one-schedule : (text : Text) (a b : Schedule) → Spells text a → Spells text b → a ≡ b
one-schedule text a b h k =
    let same = say-one [] (lines text) h.sayings k.sayings h.said k.said in
    same-schedule a.config b.config a.events b.events
    (h.config ∙ ap (λ xs. config_of (drafted xs).settings) same ∙ sym k.config)
    (all-at-injective a.events b.events (h.events ∙ ap (λ xs. (drafted xs).events) same ∙ sym k.events))
    a.partitions b.partitions a.senders b.senders
    (h.partitions ∙ ap (λ xs. set_or Partitions 1 (drafted xs).settings) same ∙ sym k.partitions)
    (h.senders ∙ ap (λ xs. set_or Senders 1 (drafted xs).settings) same ∙ sym k.senders)
    a.some_partitions a.few_partitions a.some_senders a.few_senders b.some_partitions b.few_partitions b.some_senders b.few_senders

-- ---- one fault

-- where more lines are understood, the next one is, behind what those before it say
next-said : (before : List Saying) (ls : List Text) (l : Text) (ms : List Text) (xs ys : List Saying) → Say before ls xs → Say before (ls ++ l ∷ ms) ys
    → (x : Saying) × Says l x × MayFollow (before ++ xs) x
next-said before [] l ms [] [] h k = absurd k
next-said before [] l ms [] (y ∷ ys) h k = (y, k.0, subst (λ b. MayFollow b y) (sym (append-nil before)) k.1)
next-said before [] l ms (x ∷ xs) ys h k = absurd h
next-said before (j ∷ js) l ms [] ys h k = absurd h
next-said before (j ∷ js) l ms (x ∷ xs) [] h k = absurd k
next-said before (j ∷ js) l ms (x ∷ xs) (y ∷ ys) h k =
    let same = says-one j x y h.0 k.0 in
    let (z, says, follows) = next-said (before ++ x ∷ []) js l ms xs ys h.2 (subst (λ z. Say (before ++ z ∷ []) (js ++ l ∷ ms) ys) (sym same) k.2) in
    (z, says, subst (λ b. MayFollow b z) (append_assoc before (x ∷ []) xs) follows)

pub no-schedule : (text : Text) (s : Schedule) (n : ℕ) → Spells text s → IsFirstBad text n → ⊥
no-schedule text s n spells bad =
    let (x, says, follows) = next-said [] bad.earlier bad.line bad.later bad.sayings spells.sayings bad.said (subst (λ ls. Say [] ls spells.sayings) bad.there spells.said) in
    bad.bad x says follows

-- a line of the same text that stands before another
stands-before : (js : List Text) (j : Text) (js' ks : List Text) (k : Text) (ks' : List Text) → js ++ j ∷ js' ≡ ks ++ k ∷ ks' → length js < length ks → (ms : List Text) × (ks ≡ js ++ j ∷ ms)
stands-before js j js' [] k ks' is less = absurd (omega arith)
stands-before [] j js' (l ∷ ls) k ks' is less = (ls, cc)
stands-before (i ∷ is) j js' (l ∷ ls) k ks' same less =
    let shorter : length is < length ls = omega (arith, less) in
    let tails : is ++ j ∷ js' ≡ ls ++ k ∷ ks' = cc in
    let (ms, others) = stands-before is j js' ls k ks' tails shorter in
    (ms, cc)

not-later : (text : Text) (n k : ℕ) → IsFirstBad text n → IsFirstBad text k → n < k → ⊥
not-later text n k a b less =
    let shorter : length a.earlier < length b.earlier = omega (arith, less, a.number, b.number) in
    let (ms, there) = stands-before a.earlier a.line a.later b.earlier b.line b.later (sym a.there ∙ b.there) shorter in
    let (x, says, follows) = next-said [] a.earlier a.line ms a.sayings b.sayings a.said (subst (λ ls. Say [] ls b.sayings) there b.said) in
    a.bad x says follows

pub one-fault : (text : Text) (n k : ℕ) → IsFirstBad text n → IsFirstBad text k → n ≡ k
one-fault text n k a b =
    let before = not-later text n k a b in
    let after = not-later text k n b a in
    grind arith
