-- What was written on a connection that broke.
use Rattle.std.proofs.Common.{◌≡◌, ℕ, List, [], ◌∷◌, ◌++◌, Option, Some, None, inl, inr, refl, sym, ap, ◌∙◌, append_assoc, append-nil}
use Rattle.kp_broker.specs.Broker.{Broker}
use Rattle.kp_broker.specs.Plan.{Plan}
use Rattle.kp_broker.specs.Serving.{Course, Ending, and_then, handled, served, Breaks, LosesAnswer, LosesMemory}

-- what one thing writes stands before what is written behind it
begins-at : (w : List ℕ) (b : Broker) (e : Option Ending) (next : Broker → Course) → let c : Course = record { written = w; broker = b; ending = e } in (rest : List ℕ) × ((and_then c next).written ≡ w ++ rest)
unfolding and_then
begins-at w b None next = ((next b).written, refl)
begins-at w b (Some e) next = ([], sym (append-nil w))

begins : (c : Course) (next : Broker → Course) → (rest : List ℕ) × ((and_then c next).written ≡ c.written ++ rest)
begins c next = begins-at c.written c.broker c.ending next

goes_on-at : (w : List ℕ) (b : Broker) (e : Option Ending) (next : Broker → Course) → e ≡ None → let c : Course = record { written = w; broker = b; ending = e } in (and_then c next).written ≡ w ++ (next b).written
unfolding and_then
goes_on-at w b None next none = refl
goes_on-at w b (Some e) next none = absurd cc

module _ (Within : Broker → List ℕ → List ℕ → Broker → Type 0) (node : ℕ) (plan : Plan) (within : (b : Broker) (content written : List ℕ) (after : Broker) → Within b content written after → (rest : List ℕ) × ((handled node plan b content).written ≡ written ++ rest)) where
  wrote-first : (b after : Broker) (frames : List (List ℕ)) (written : List ℕ) → Breaks Within node plan b frames written after → (rest : List ℕ) × ((served node plan b frames).written ≡ written ++ rest)
  wrote-first b after [] written still = ([], sym (ap (λ w. w ++ []) still.0))
  wrote-first b after (x ∷ xs) written (inl still) = ((served node plan b (x ∷ xs)).written, sym (ap (λ w. w ++ (served node plan b (x ∷ xs)).written) still.0))
  wrote-first b after (x ∷ xs) written (inr (inl now)) =
      let (lost, is) = within b x written after now in
      let (others, all) = begins (handled node plan b x) (λ m. served node plan m xs) in
      (lost ++ others, all ∙ ap (λ w. w ++ others) is ∙ append_assoc written lost others)
  wrote-first b after (x ∷ xs) written (inr (inr behind)) =
      let c = handled node plan b x in
      let (rest, is) = wrote-first c.broker after xs behind.later behind.next in
      (rest, goes_on-at c.written c.broker c.ending (λ m. served node plan m xs) behind.goes_on ∙ ap (λ w. c.written ++ w) is ∙ sym (append_assoc c.written behind.later rest) ∙ ap (λ w. w ++ rest) (sym behind.split))

pub answer-lost : (node : ℕ) (plan : Plan) (b after : Broker) (frames : List (List ℕ)) (written : List ℕ) → Breaks (LosesAnswer node plan) node plan b frames written after → (rest : List ℕ) × ((served node plan b frames).written ≡ written ++ rest)
answer-lost node plan b after frames written breaks =
    wrote-first (LosesAnswer node plan) node plan (λ b content written after (lost, is). (lost, ap (λ (c : Course). c.written) is)) b after frames written breaks

pub memory-lost : (node : ℕ) (plan : Plan) (b after : Broker) (frames : List (List ℕ)) (written : List ℕ) → Breaks (LosesMemory node plan) node plan b frames written after → (rest : List ℕ) × ((served node plan b frames).written ≡ written ++ rest)
memory-lost node plan b after frames written breaks =
    wrote-first (LosesMemory node plan) node plan (λ b content written after (none, stops). ((handled node plan b content).written, sym (ap (λ w. w ++ (handled node plan b content).written) none))) b after frames written breaks
