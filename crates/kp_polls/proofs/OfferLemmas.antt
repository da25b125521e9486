-- The items of one sender that the calls of a turn offer to the core.
use Rattle.std.proofs.Common.{◌≡◌, ◌≢◌, ℕ, true, false, List, [], ◌∷◌, ◌++◌, map, refl, sym, ap, ◌∙◌, subst}
use Rattle.std.specs.Prelude.{Option, Some, None, Ok, Err, option_to_list}
use Rattle.kp_accum.specs.declared.fault.AppendFault.{AppendFault}
use Rattle.kp_accum.specs.declared.fault.AppendFault.TheVariants as append
use Rattle.kp_accum.specs.declared.item.Item.{Item}
use Rattle.kp_engine.specs.Turn.{appends, fails, refuses}
use Rattle.kp_headline.proofs.FeedLemmas.{Feeds, Offer, Theirs, all_appended, offer_elsewhere, offer_here, offers}

abbrev pub refused : Option Item → List Offer
refused held = map (λ x. (x, false)) (option_to_list held)

pub appends_here : (i : ℕ) (items : List Item) → Theirs i items → offers i (appends items) ≡ all_appended items
appends_here i [] h = refl
appends_here i (x ∷ items) h =
    ap (λ (os : List Offer). os ++ offers i (appends items)) (offer_here x i (Ok tt) h.0)
    ∙ ap (λ (os : List Offer). (x, true) ∷ os) (appends_here i items h.1)

pub appends_elsewhere : (i k : ℕ) (items : List Item) → k ≢ i → Theirs k items → offers i (appends items) ≡ []
appends_elsewhere i k [] other h = refl
appends_elsewhere i k (x ∷ items) other h =
    ap (λ (os : List Offer). os ++ offers i (appends items)) (offer_elsewhere x i (Ok tt) (λ is. other (sym h.0 ∙ is)))
    ∙ appends_elsewhere i k items other h.1

pub refuses_here : (i : ℕ) (held : Option Item) → Theirs i (option_to_list held) → offers i (refuses held) ≡ refused held
refuses_here i None h = refl
refuses_here i (Some x) h = ap (λ (os : List Offer). os ++ []) (offer_here x i (Err append.BufferFull) h.0)

pub refuses_elsewhere : (i k : ℕ) (held : Option Item) → k ≢ i → Theirs k (option_to_list held) → offers i (refuses held) ≡ []
refuses_elsewhere i k None other h = refl
refuses_elsewhere i k (Some x) other h = ap (λ (os : List Offer). os ++ []) (offer_elsewhere x i (Err append.BufferFull) (λ is. other (sym h.0 ∙ is)))

-- an append that failed is of what is held
module _ (last : Option (Item × AppendFault)) (held : Option Item) (its : (x : Item × AppendFault) → last ≡ Some x → held ≡ Some x.0) where
  theirs_of : (k : ℕ) (x : Item × AppendFault) → last ≡ Some x → Theirs k (option_to_list held) → x.0.sender ≡ k
  theirs_of k x is h = let h' : Theirs k (option_to_list (Some x.0)) = subst (λ (o : Option Item). Theirs k (option_to_list o)) (its x is) h in h'.0

pub fails_elsewhere : (i k : ℕ) (last : Option (Item × AppendFault)) (held : Option Item) → ((x : Item × AppendFault) → last ≡ Some x → held ≡ Some x.0) → k ≢ i
    → Theirs k (option_to_list held) → offers i (fails last) ≡ []
fails_elsewhere i k None held its other h = refl
fails_elsewhere i k (Some x) held its other h =
    ap (λ (os : List Offer). os ++ []) (offer_elsewhere x.0 i (Err x.1) (λ is. other (sym (theirs_of (Some x) held its k x refl h) ∙ is)))

-- ---- what they feed

pub refused_feeds : (held : Option Item) (later : List Item) → Feeds (option_to_list held ++ later) (refused held) (option_to_list held ++ later)
refused_feeds None later = refl
refused_feeds (Some x) later = (later, refl, refl)

pub fails_feeds : (i : ℕ) (last : Option (Item × AppendFault)) (held : Option Item) → ((x : Item × AppendFault) → last ≡ Some x → held ≡ Some x.0)
    → Theirs i (option_to_list held) → (later : List Item) → Feeds (option_to_list held ++ later) (offers i (fails last)) (option_to_list held ++ later)
fails_feeds i None held its h later = refl
fails_feeds i (Some x) held its h later =
    subst (λ (o : Option Item). Feeds (option_to_list o ++ later) (offers i (fails (Some x))) (option_to_list o ++ later)) (sym (its x refl))
    (subst (λ (os : List Offer). Feeds (x.0 ∷ later) os (x.0 ∷ later))
    (sym (ap (λ (os : List Offer). os ++ []) (offer_here x.0 i (Err x.1) (theirs_of (Some x) held its i x refl h))))
    (later, refl, refl))
