-- Links by node, and what they wait for.
use Rattle.std.proofs.Common.{◌≡◌, ◌≢◌, ◌⊎◌, ◌+◌, ◌<◌, ◌||◌, ℕ, Bool, true, false, List, [], ◌∷◌, length, get_or, set, refl, sym, subst, inl, inr, ⊎_elim, arith, ◌∙◌}
use Rattle.std.proofs.lemmas.Bool.{cases_eq}
use Rattle.std.proofs.lemmas.List.{get_or-set_other, get_or-set_same, get_or_default}
use Rattle.futures.specs.Task.{Covers, Keeps, Lasting}
use Rattle.futures.specs.declared.task.context.Context.{Context}
use Rattle.kp_connection.specs.Answers.Answer.{Read_waits}
use Rattle.kp_connection.specs.Wire.{Told}
use Rattle.kp_drive.specs.Links.{EachTurns, LinkTurns, OnlyAt, link_at}
use Rattle.kp_drive.specs.Waiting.{LinkWaits, PipeWaits, WriteWaits}
use Rattle.kp_drive.specs.declared.link.Link.{Link}
use Rattle.kp_drive.specs.declared.link.Link.TheVariants.{Closed, Dialing, Open}
use Rattle.kp_drive.specs.declared.pipe.Pipe.{Pipe}
use Rattle.kp_embed.specs.Producer.{Producer}

-- ---- a poll that goes on

pub covers_kept : (old new : Context) (needs : ℕ → Type 0) → Keeps old new → Covers old needs → Covers new needs
covers_kept old new needs keeps c = (keeps Lasting.armed c.0, λ s n. keeps (Lasting.hears s) (c.1 s n))

module _ {K S : Type 0} (waits : K → ℕ → Type 0) (reader writer : S → ℕ → Type 0) (answers : Told S) (old new : Context) (keeps : Keeps old new) where
  write_kept : (pipe : Pipe S) → (pipe.unwritten ≡ []) ⊎ WriteWaits writer answers old pipe.stream → (pipe.unwritten ≡ []) ⊎ WriteWaits writer answers new pipe.stream
  write_kept pipe (inl none) = inl none
  write_kept pipe (inr w) = inr (record { before = w.before; covers = covers_kept old new (writer w.before) keeps w.covers; read = w.read })

  pub link_kept : (link : Link K S) → LinkWaits waits reader writer answers old link → LinkWaits waits reader writer answers new link
  link_kept Closed w = w
  link_kept (Dialing k) w = covers_kept old new (waits k) keeps w
  link_kept (Open pipe) w = record { read = covers_kept old new (reader pipe.stream) keeps w.read; write = write_kept pipe w.write }

  -- those before the one that was polled now, and that one
  links_more : (ls ms : List (Link K S)) (i : ℕ) → ((k : ℕ) → k ≢ i → link_at k ms ≡ link_at k ls) → ((k : ℕ) → k < i → LinkWaits waits reader writer answers old (link_at k ls))
      → LinkWaits waits reader writer answers new (link_at i ms) → (k : ℕ) → k < i + 1 → LinkWaits waits reader writer answers new (link_at k ms)
  links_more ls ms i others before this k less = ⊎_elim
      (λ (same : k ≡ i). subst (λ (n : ℕ). LinkWaits waits reader writer answers new (link_at n ms)) (sym same) this)
      (λ (other : k ≢ i). subst (LinkWaits waits reader writer answers new) (sym (others k other)) (link_kept (link_at k ls) (before k (below k other less))))
      (cases_eq k i)
    where
      below : (k : ℕ) → k ≢ i → k < i + 1 → k < i
      below k other less = omega arith

-- a read that waits behind a write
pub pipe_waits : {S : Type 0} (reader writer : S → ℕ → Type 0) (answers : Told S) (old new : Context) (keeps : Keeps old new) (before : S) (pipe : Pipe S)
    → Covers new (reader pipe.stream) → (written : (pipe.unwritten ≡ []) ⊎ Covers old (writer before)) → answers before (Read_waits ∷ []) pipe.stream → PipeWaits reader writer answers new pipe
pipe_waits reader writer answers old new keeps before pipe read (inl none) told = record { read = read; write = inl none }
pipe_waits reader writer answers old new keeps before pipe read (inr covers) told =
    record { read = read; write = inr (record { before = before; covers = covers_kept old new (writer before) keeps covers; read = told }) }

-- ---- links that are written

pub link_is : {K S : Type 0} (ls : List (Link K S)) (i : ℕ) (link : Link K S) → i < length ls → link ≡ get_or ls i link → link_at i ls ≡ link
link_is ls i link there is = get_or_default ls i Closed link there ∙ sym is

pub link_put : {K S : Type 0} (ls : List (Link K S)) (i : ℕ) (new : Link K S) → i < length ls → link_at i (set ls i new) ≡ new
link_put ls i new there = get_or-set_same ls i new Closed there

pub others_stay : {K S : Type 0} (ls : List (Link K S)) (i : ℕ) (new : Link K S) → OnlyAt i ls (set ls i new)
others_stay ls i new k other = get_or-set_other ls i k new Closed other

-- one more had its turn
pub each_more : {K S : Type 0} (answers : Told S) (now : ℕ) (p q r : Producer) (links ls : List (Link K S)) (n : ℕ) (old new : Link K S) → EachTurns answers now p links n q ls → n < length ls
    → link_at n ls ≡ old → LinkTurns answers n now q old r new → EachTurns answers now p links (n + 1) r (set ls n new)
each_more answers now p q r links ls n old new rest there is turn =
    EachTurns.one_more n q r ls (set ls n new) rest
    (subst (λ (l : Link _ _). LinkTurns answers n now q l r (link_at n (set ls n new))) (sym is)
    (subst (LinkTurns answers n now q old r) (sym (link_put ls n new there)) turn))
    (others_stay ls n new)

true_not : true ≡ false → ⊥
true_not e = cc

neither : (a b : Bool) → a || b ≡ false → (a ≡ false) × (b ≡ false)
neither false b e = (refl, e)
neither true b e = absurd (true_not e)

-- where nothing has moved, those before wait, and the one that was written now
pub links_still : {K S : Type 0} (waits : K → ℕ → Type 0) (reader writer : S → ℕ → Type 0) (answers : Told S) (old new : Context) → Keeps old new → (before polled : Bool) (ls : List (Link K S)) (i : ℕ) (link : Link K S)
    → i < length ls → (before ≡ false → (k : ℕ) → k < i → LinkWaits waits reader writer answers old (link_at k ls)) → (polled ≡ false → LinkWaits waits reader writer answers new link)
    → before || polled ≡ false → (k : ℕ) → k < i + 1 → LinkWaits waits reader writer answers new (link_at k (set ls i link))
links_still waits reader writer answers old new keeps before polled ls i link there those this still =
    links_more waits reader writer answers old new keeps ls (set ls i link) i (others_stay ls i link) (those (neither before polled still).0)
    (subst (LinkWaits waits reader writer answers new) (sym (link_put ls i link there)) (this (neither before polled still).1))
