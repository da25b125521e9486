-- What comes of frames, one after the other.
use Rattle.std.proofs.Common.{◌≡◌, ℕ, List, [], ◌∷◌, ◌++◌, Option, Some, None, inl, inr, refl, sym, ap, subst, ◌∙◌, append_assoc, append-nil}
use Rattle.kp_broker.specs.Broker.{Broker}
use Rattle.kp_broker.specs.Plan.{Plan}
use Rattle.kp_broker.specs.Serving.{Course, Ending, silent, and_then, handled, served, Breaks}
use Rattle.kp_broker.proofs.ReplyLemmas.{and_then-open}

-- ---- one thing behind another

and_then-nothing_at : (w : List ℕ) (b : Broker) (e : Option Ending) → let c : Course = record { written = w; broker = b; ending = e } in and_then c silent ≡ c
unfolding and_then
and_then-nothing_at w b None = λ i. record { written = append-nil w i; broker = b; ending = None }
and_then-nothing_at w b (Some e) = refl

pub and_then-nothing : (c : Course) → and_then c silent ≡ c
and_then-nothing c = and_then-nothing_at c.written c.broker c.ending

pub and_then-ended : (w : List ℕ) (b : Broker) (e : Ending) (next : Broker → Course) → let c : Course = record { written = w; broker = b; ending = Some e } in and_then c next ≡ c
unfolding and_then
and_then-ended w b e next = refl

assoc_late : (w : List ℕ) (c : Course) (v : List ℕ) (m : Broker) (e : Option Ending) → c ≡ record { written = v; broker = m; ending = e } → (g : Broker → Course)
    → and_then (record { written = w ++ v; broker = m; ending = e }) g
    ≡ record { written = w ++ (and_then c g).written; broker = (and_then c g).broker; ending = (and_then c g).ending }
unfolding and_then
assoc_late w c v m None is g = rw is (λ i. record { written = append_assoc w v (g m).written i; broker = (g m).broker; ending = (g m).ending })
assoc_late w c v m (Some e) is g = rw is refl

assoc_at : (w : List ℕ) (b : Broker) (e : Option Ending) (f g : Broker → Course) → let c : Course = record { written = w; broker = b; ending = e } in
    and_then (and_then c f) g ≡ and_then c (λ m. and_then (f m) g)
assoc_at w b None f g =
    ap (λ c. and_then c g) (and_then-open w b f)
    ∙ assoc_late w (f b) (f b).written (f b).broker (f b).ending refl g
    ∙ sym (and_then-open w b (λ m. and_then (f m) g))
assoc_at w b (Some e) f g =
    ap (λ c. and_then c g) (and_then-ended w b e f) ∙ and_then-ended w b e g ∙ sym (and_then-ended w b e (λ m. and_then (f m) g))

pub and_then-assoc : (c : Course) (f g : Broker → Course) → and_then (and_then c f) g ≡ and_then c (λ m. and_then (f m) g)
and_then-assoc c f g = assoc_at c.written c.broker c.ending f g

-- what ends open was open before, and goes on to its end
pub record Opens (c : Course) (next : Broker → Course) (w : List ℕ) (m : Broker) : Type 0 where
  pub goes_on : c.ending ≡ None
  pub later : next c.broker ≡ record { written = (next c.broker).written; broker = m; ending = None }
  pub split : w ≡ c.written ++ (next c.broker).written

opens_at : (v : List ℕ) (b : Broker) (e : Option Ending) (next : Broker → Course) (w : List ℕ) (m : Broker) → let c : Course = record { written = v; broker = b; ending = e } in
    and_then c next ≡ record { written = w; broker = m; ending = None } → Opens c next w m
opens_at v b None next w m is =
    let all = sym (and_then-open v b next) ∙ is in
    record {
      goes_on = refl;
      later = λ i. record { written = (next b).written; broker = (all i).broker; ending = (all i).ending };
      split = sym (ap (λ c. c.written) all);
    }
opens_at v b (Some e) next w m is =
    let all = ap (λ c. c.ending) (sym (and_then-ended v b e next) ∙ is) in
    absurd cc

pub opens : (c : Course) (next : Broker → Course) (w : List ℕ) (m : Broker) → and_then c next ≡ record { written = w; broker = m; ending = None } → Opens c next w m
opens c next w m is = opens_at c.written c.broker c.ending next w m is

-- ---- frames behind frames

pub served-append : (node : ℕ) (plan : Plan) (b : Broker) (xs ys : List (List ℕ)) → served node plan b (xs ++ ys) ≡ and_then (served node plan b xs) (λ m. served node plan m ys)
served-append node plan b [] ys = sym (and_then-open [] b (λ m. served node plan m ys))
served-append node plan b (x ∷ xs) ys =
    ap (and_then (handled node plan b x)) ((λ i m. served-append node plan m xs ys i))
    ∙ sym (and_then-assoc (handled node plan b x) (λ m. served node plan m xs) (λ m. served node plan m ys))

pub served-one : (node : ℕ) (plan : Plan) (b : Broker) (x : List ℕ) → served node plan b (x ∷ []) ≡ handled node plan b x
served-one node plan b x = and_then-nothing (handled node plan b x)

-- ---- a connection that breaks

module _ (Within : Broker → List ℕ → List ℕ → Broker → Type 0) (node : ℕ) (plan : Plan) where
  pub still-breaks : (b : Broker) (xs : List (List ℕ)) → Breaks Within node plan b xs [] b
  still-breaks b [] = (refl, refl)
  still-breaks b (x ∷ xs) = inl (refl, refl)

  pub breaks-more : (b : Broker) (xs ys : List (List ℕ)) (w : List ℕ) (after : Broker) → Breaks Within node plan b xs w after → Breaks Within node plan b (xs ++ ys) w after
  breaks-more b [] [] w after still = still
  breaks-more b [] (y ∷ ys) w after still = inl still
  breaks-more b (x ∷ xs) ys w after (inl still) = inl still
  breaks-more b (x ∷ xs) ys w after (inr (inl within)) = inr (inl within)
  breaks-more b (x ∷ xs) ys w after (inr (inr behind)) =
      inr (inr (record { goes_on = behind.goes_on; later = behind.later; split = behind.split; next = breaks-more (handled node plan b x).broker xs ys behind.later after behind.next }))

  pub breaks-behind : (b : Broker) (xs ys : List (List ℕ)) (w : List ℕ) (m : Broker) (v : List ℕ) (after : Broker) → served node plan b xs ≡ record { written = w; broker = m; ending = None } → Breaks Within node plan m ys v after → Breaks Within node plan b (xs ++ ys) (w ++ v) after
  breaks-behind b [] ys w m v after is breaks =
      let none : [] ≡ w = ap (λ (c : Course). c.written) is in
      let same : b ≡ m = ap (λ (c : Course). c.broker) is in
      subst (λ u. Breaks Within node plan b ys (u ++ v) after) none (subst (λ n. Breaks Within node plan n ys v after) (sym same) breaks)
  breaks-behind b (x ∷ xs) ys w m v after is breaks =
      let c = handled node plan b x in
      let o = opens c (λ n. served node plan n xs) w m is in
      let later = (served node plan c.broker xs).written in
      inr (inr (record {
        goes_on = o.goes_on;
        later = later ++ v;
        split = ap (λ u. u ++ v) o.split ∙ append_assoc c.written later v;
        next = breaks-behind c.broker xs ys later m v after o.later breaks;
      }))
