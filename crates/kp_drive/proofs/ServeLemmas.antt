-- What goes over an open connection, stretch by stretch.
use Rattle.std.proofs.Common.{◌≡◌, ◌⊎◌, ℕ, List, [], ◌∷◌, ◌++◌, take, drop, refl, sym, ap, subst, ◌∙◌, inl, append_assoc, append-nil}
use Rattle.std.specs.Prelude.{Result, Ok, Err, OnOk, OnErr}
use Rattle.std.proofs.lemmas.List.{take-append-drop}
use Rattle.std.proofs.lemmas.List.Concat.{flat_map-append}
use Rattle.kp_connection.specs.Answers.Answer.{Came, Went}
use Rattle.kp_connection.specs.Answers.{Answer, came, came_by, gone, gone_by}
use Rattle.kp_connection.specs.Wire.{Told}
use Rattle.kp_connection.proofs.WireLemmas.{through}
use Rattle.kp_drive.specs.Flow.{ByFlow, moved}
use Rattle.kp_drive.specs.declared.flow.Flow.{Flow}
use Rattle.kp_drive.specs.declared.flow.Flow.TheVariants.{Idle, Moved, Ended}
use Rattle.kp_drive.specs.Serving.{Exchanges, Serves, Stops}
use Rattle.kp_drive.specs.declared.pipe.Pipe.{Pipe}
use Rattle.kp_embed.specs.Going.{Stays}
use Rattle.kp_embed.specs.Hearing.{GivesUp, Listens}
use Rattle.kp_embed.specs.Producer.{Producer}
use Rattle.kp_embed.specs.Taking.{CarriesNone, CarriesOut}
use Rattle.kp_embed.proofs.ActLemmas.{acts_same}

pub stays_same : (p : Producer) → Stays p p
stays_same p = record { acts = acts_same p; lines = λ k. refl }

-- ---- with the producer

pub exchanges_then : (node now : ℕ) (p q r : Producer) (taken fed more news : List ℕ) → Exchanges node now p taken fed q → Exchanges node now q more news r
    → Exchanges node now p (taken ++ more) (fed ++ news) r
exchanges_then node now p q r taken fed more news first Exchanges.none =
    subst (λ (xs : List ℕ). Exchanges node now p xs (fed ++ []) q) (sym (append-nil taken))
    (subst (λ (xs : List ℕ). Exchanges node now p taken xs q) (sym (append-nil fed)) first)
exchanges_then node now p q r taken fed more news first (Exchanges.took before heard bytes a b rest step) =
    subst (λ (xs : List ℕ). Exchanges node now p xs (fed ++ heard) b) (append_assoc taken before bytes)
    (Exchanges.took (taken ++ before) (fed ++ heard) bytes a b (exchanges_then node now p q a taken fed before heard first rest) step)
exchanges_then node now p q r taken fed more news first (Exchanges.refused before heard a b rest step) =
    Exchanges.refused (taken ++ before) (fed ++ heard) a b (exchanges_then node now p q a taken fed before heard first rest) step
exchanges_then node now p q r taken fed more news first (Exchanges.heard before heard bytes a b rest step) =
    subst (λ (xs : List ℕ). Exchanges node now p (taken ++ before) xs b) (append_assoc fed heard bytes)
    (Exchanges.heard (taken ++ before) (fed ++ heard) bytes a b (exchanges_then node now p q a taken fed before heard first rest) step)

-- ---- one behind the other

module _ {S : Type 0} (answers : Told S) (in_order : (a : S) (xs : List Answer) (b : S) (ys : List Answer) (c : S) → answers a xs b → answers b ys c → answers a (xs ++ ys) c) (node now : ℕ) (p q r : Producer) (a b : Pipe S) where
  pub serves_then : (c : Pipe S) → Serves answers node now p a q b → Serves answers node now q b r c → Serves answers node now p a r c
  serves_then c h k = record {
    xs = h.xs ++ k.xs;
    told = in_order a.stream h.xs b.stream k.xs c.stream h.told k.told;
    taken = h.taken ++ k.taken;
    exchanges = subst (λ (zs : List ℕ). Exchanges node now p (h.taken ++ k.taken) zs r) (sym (flat_map-append came_by h.xs k.xs))
        (exchanges_then node now p q r h.taken (came h.xs) k.taken (came k.xs) h.exchanges k.exchanges);
    written = ap (λ (zs : List ℕ). zs ++ c.unwritten) (flat_map-append gone_by h.xs k.xs)
        ∙ through (gone h.xs) (gone k.xs) a.unwritten b.unwritten c.unwritten h.taken k.taken h.written k.written;
  }

  pub serves_stops : Serves answers node now p a q b → Stops answers node now q b r → Stops answers node now p a r
  serves_stops h k = record {
    xs = h.xs ++ k.xs;
    last = k.last;
    told = in_order a.stream h.xs b.stream k.xs k.last h.told k.told;
    taken = h.taken ++ k.taken;
    fed = came h.xs ++ k.fed;
    middle = k.middle;
    exchanges = exchanges_then node now p q k.middle h.taken (came h.xs) k.taken k.fed h.exchanges k.exchanges;
    unwritten = k.unwritten;
    written = ap (λ (zs : List ℕ). zs ++ k.unwritten) (flat_map-append gone_by h.xs k.xs)
        ∙ through (gone h.xs) (gone k.xs) a.unwritten b.unwritten k.unwritten h.taken k.taken h.written k.written;
    unfed = k.unfed;
    read = flat_map-append came_by h.xs k.xs ∙ ap (λ (zs : List ℕ). came h.xs ++ zs) k.read ∙ sym (append_assoc (came h.xs) k.fed k.unfed);
    refused = k.refused;
  }

  -- and then one that goes on or ends
  pub serves_by : (c : Pipe S) (flow : Flow) → Serves answers node now p a q b → ByFlow flow (Serves answers node now q b r c) (Stops answers node now q b r)
      → ByFlow flow (Serves answers node now p a r c) (Stops answers node now p a r)
  serves_by c Idle h k = serves_then c h k
  serves_by c Moved h k = serves_then c h k
  serves_by c Ended h k = serves_stops h k

-- the same where something has moved before
pub by_moved : (P Q : Type 0) (flow : Flow) → ByFlow flow P Q → ByFlow (moved flow) P Q
by_moved P Q Idle h = h
by_moved P Q Moved h = h
by_moved P Q Ended h = h

module _ {S : Type 0} (answers : Told S) (node now : ℕ) (p q : Producer) (a : Pipe S) where
  -- it may stop at any time
  pub stops_here : (b : Pipe S) → Serves answers node now p a q b → Stops answers node now p a q
  stops_here b h = record {
    xs = h.xs;
    last = b.stream;
    told = h.told;
    taken = h.taken;
    fed = came h.xs;
    middle = q;
    exchanges = h.exchanges;
    unwritten = b.unwritten;
    written = h.written;
    unfed = [];
    read = sym (append-nil (came h.xs));
    refused = inl (stays_same q);
  }

  -- ---- one step

  -- bytes were taken, of which there were none
  pub took : (bytes : List ℕ) → ((s : S) → answers s [] s) → a.unwritten ≡ [] → CarriesOut node now p bytes q
      → Serves answers node now p a q (record { stream = a.stream; unwritten = bytes })
  took bytes nothing none carries = record {
    xs = [];
    told = nothing a.stream;
    taken = bytes;
    exchanges = Exchanges.took [] [] bytes p q Exchanges.none carries;
    written = ap (λ (zs : List ℕ). zs ++ bytes) (sym none);
  }

  pub took_none : (bytes : List ℕ) → ((s : S) → answers s [] s) → a.unwritten ≡ [] → bytes ≡ [] → CarriesNone node now p q
      → Serves answers node now p a q (record { stream = a.stream; unwritten = bytes })
  took_none bytes nothing none left carries = record {
    xs = [];
    told = nothing a.stream;
    taken = [];
    exchanges = Exchanges.refused [] [] p q Exchanges.none carries;
    written = left ∙ sym none ∙ sym (append-nil a.unwritten);
  }

  pub refilled : {A E : Type 0} (r : Result A E) (bytes : List ℕ) → ((s : S) → answers s [] s) → a.unwritten ≡ [] → OnOk r (CarriesOut node now p bytes q)
      → OnErr r (CarriesNone node now p q) → OnErr r (bytes ≡ []) → Serves answers node now p a q (record { stream = a.stream; unwritten = bytes })
  refilled (Ok x) bytes nothing none taken refused left = took bytes nothing none taken
  refilled (Err e) bytes nothing none taken refused left = took_none bytes nothing none left refused

  pub heard : (bytes : List ℕ) (s : S) → answers a.stream (Came bytes ∷ []) s → Listens node now p bytes q
      → Serves answers node now p a q (record { stream = s; unwritten = a.unwritten })
  heard bytes s told listens = record {
    xs = Came bytes ∷ [];
    told = told;
    taken = [];
    exchanges = subst (λ (zs : List ℕ). Exchanges node now p [] zs q) (sym (append-nil bytes)) (Exchanges.heard [] [] bytes p q Exchanges.none listens);
    written = sym (append-nil a.unwritten);
  }

  pub not_heard : (bytes : List ℕ) (s : S) → answers a.stream (Came bytes ∷ []) s → Stays p q ⊎ GivesUp node now p q → Stops answers node now p a q
  not_heard bytes s told refused = record {
    xs = Came bytes ∷ [];
    last = s;
    told = told;
    taken = [];
    fed = [];
    middle = p;
    exchanges = Exchanges.none;
    unwritten = a.unwritten;
    written = sym (append-nil a.unwritten);
    unfed = bytes;
    read = append-nil bytes;
    refused = refused;
  }

module _ {S : Type 0} (answers : Told S) (node now : ℕ) (p : Producer) (a : Pipe S) where
  -- no call at all
  pub serves_same : ((s : S) → answers s [] s) → Serves answers node now p a p a
  serves_same nothing = record { xs = []; told = nothing a.stream; taken = []; exchanges = Exchanges.none; written = sym (append-nil a.unwritten) }

  -- a call that moved no bytes
  pub moved_none : (x : Answer) (s : S) → came_by x ≡ [] → gone_by x ≡ [] → answers a.stream (x ∷ []) s
      → Serves answers node now p a p (record { stream = s; unwritten = a.unwritten })
  moved_none x s none_came none_gone told = record {
    xs = x ∷ [];
    told = told;
    taken = [];
    exchanges = subst (λ (zs : List ℕ). Exchanges node now p [] zs p) (sym (append-nil (came_by x) ∙ none_came)) Exchanges.none;
    written = ap (λ (zs : List ℕ). zs ++ a.unwritten) (append-nil (gone_by x) ∙ none_gone) ∙ sym (append-nil a.unwritten);
  }

  pub wrote : (n : ℕ) (s : S) → answers a.stream (Went (take n a.unwritten) ∷ []) s
      → Serves answers node now p a p (record { stream = s; unwritten = drop n a.unwritten })
  wrote n s told = record {
    xs = Went (take n a.unwritten) ∷ [];
    told = told;
    taken = [];
    exchanges = Exchanges.none;
    written = ap (λ (zs : List ℕ). zs ++ drop n a.unwritten) (append-nil (take n a.unwritten)) ∙ take-append-drop n a.unwritten ∙ sym (append-nil a.unwritten);
  }
