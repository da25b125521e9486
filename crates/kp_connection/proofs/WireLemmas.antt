-- Stretches of calls on a wire, one after another.
use Rattle.std.proofs.Common.{◌≡◌, ℕ, ◌+◌, ◌≤◌, List, [], ◌∷◌, ◌++◌, length, Result, Ok, Err, refl, sym, ap, subst, ◌∙◌, inl, inr, append_assoc, append-nil, arith}
use Rattle.std.specs.List.{concat}
use Rattle.std.specs.declared.io.Error.{Error}
use Rattle.std.proofs.lemmas.List.{nil_from_length}
use Rattle.std.proofs.lemmas.List.Elements.{Contains-push}
use Rattle.std.proofs.lemmas.List.Concat.{flat_map-append}
use Rattle.std.proofs.lemmas.List.Folds.{concat-append}
use Rattle.futures.specs.declared.task.Poll.{Poll}
use Rattle.futures.specs.declared.task.Poll.TheVariants.{Ready, Pending}
use Rattle.tokio.specs.Io.Moved.{count_moved}
use Rattle.kp_wire.proofs.ListLemmas.{all_append}
use Rattle.kp_frames.specs.declared.frame.TheConstants.{CONTENT_LIMIT}
use Rattle.kp_frames.specs.Life.{behind}
use Rattle.kp_frames.specs.Stream as framing
use Rattle.kp_frames.proofs.StreamLemmas.{passes_spelled}
use Rattle.kp_connection.specs.Answers.Answer.{Went, Write_waits, Write_failed}
use Rattle.kp_connection.specs.Answers.{Answer, came, gone, came_by, gone_by, write_answer}
use Rattle.kp_connection.specs.Wire.{Wired, Told, frames, AreContents, Goes, Breaks, Stops, Writes}

-- ---- bytes through two stretches: what passed, then what is there, are what was there, then what was put in

-- the far end of one stretch joined with another, on which bytes are lost at the end
pub through : (gone more kept0 kept1 kept2 put adds : List ℕ) → gone ++ kept1 ≡ kept0 ++ put → more ++ kept2 ≡ kept1 ++ adds → (gone ++ more) ++ kept2 ≡ kept0 ++ (put ++ adds)
through gone more kept0 kept1 kept2 put adds p q =
    append_assoc gone more kept2 ∙ ap (λ (zs : List ℕ). gone ++ zs) q ∙ sym (append_assoc gone kept1 adds)
    ∙ ap (λ (zs : List ℕ). zs ++ adds) p ∙ append_assoc kept0 put adds

module _ {S : Type 0} (answers : Told S) (in_order : (a : S) (xs : List Answer) (b : S) (ys : List Answer) (c : S) → answers a xs b → answers b ys c → answers a (xs ++ ys) c) (a b c : Wired S) (sent heard more news : List (List ℕ)) (xs ys : List Answer) where
  pub written_through : (left : List ℕ) → gone xs ++ b.kept ≡ a.kept ++ concat sent → gone ys ++ left ≡ b.kept ++ concat more → gone (xs ++ ys) ++ left ≡ a.kept ++ concat (sent ++ more)
  written_through left p q =
      ap (λ (zs : List ℕ). zs ++ left) (flat_map-append gone_by xs ys)
      ∙ through (gone xs) (gone ys) a.kept b.kept left (concat sent) (concat more) p q
      ∙ ap (λ (zs : List ℕ). a.kept ++ zs) (sym (concat-append sent more))

  pub read_through : (left : List ℕ) → frames heard ++ b.held ≡ a.held ++ came xs → frames news ++ left ≡ b.held ++ came ys → frames (heard ++ news) ++ left ≡ a.held ++ came (xs ++ ys)
  read_through left p q =
      ap (λ (zs : List ℕ). zs ++ left) (flat_map-append framing.frame.spell heard news)
      ∙ through (frames heard) (frames news) a.held b.held left (came xs) (came ys) p q
      ∙ ap (λ (zs : List ℕ). a.held ++ zs) (sym (flat_map-append came_by xs ys))

  pub contents_through : AreContents heard → AreContents news → AreContents (heard ++ news)
  contents_through p q = all_append (λ content. length content ≤ CONTENT_LIMIT) heard news p q

  pub Goes-then : Goes answers a sent heard xs b → Goes answers b more news ys c → Goes answers a (sent ++ more) (heard ++ news) (xs ++ ys) c
  Goes-then p q =
      record {
        told = in_order a.stream xs b.stream ys c.stream p.told q.told;
        written = written_through c.kept p.written q.written;
        read = read_through c.held p.read q.read;
        contents = contents_through p.contents q.contents;
      }

  -- a stretch that gives up nothing, and then one that may
  unfoldable pub Stops-then : Goes answers a sent heard xs b → Stops answers b more news ys c → Stops answers a (sent ++ more) (heard ++ news) (xs ++ ys) c
  Stops-then p q =
      record {
        told = in_order a.stream xs b.stream ys c.stream p.told q.told;
        unwritten = q.unwritten;
        written = written_through q.unwritten p.written q.written;
        unheard = q.unheard;
        read = read_through q.unheard p.read q.read;
        contents = contents_through p.contents q.contents;
      }

  pub Breaks-then : Goes answers a sent heard xs b → Breaks answers b more news ys c → Breaks answers a (sent ++ more) (heard ++ news) (xs ++ ys) c
  Breaks-then p q =
      record {
        told = in_order a.stream xs b.stream ys c.stream p.told q.told;
        written = written_through c.kept p.written q.written;
        lost = q.lost;
        read =
            append_assoc (frames (heard ++ news)) c.held q.lost
            ∙ read_through (c.held ++ q.lost) p.read (sym (append_assoc (frames news) c.held q.lost) ∙ q.read);
        contents = contents_through p.contents q.contents;
      }

  -- a stretch in which a size of no frame was read, and then one that reads nothing
  pub Breaks-before : Breaks answers a sent heard xs b → came ys ≡ [] → Goes answers b more news ys c → Breaks answers a (sent ++ more) (heard ++ news) (xs ++ ys) c
  Breaks-before p none q =
      let hears : frames news ++ c.held ≡ b.held = q.read ∙ ap (λ (zs : List ℕ). b.held ++ zs) none ∙ append-nil b.held in
      record {
        told = in_order a.stream xs b.stream ys c.stream p.told q.told;
        written = written_through c.kept p.written q.written;
        lost = p.lost;
        read =
            ap (λ (zs : List ℕ). (zs ++ c.held) ++ p.lost) (flat_map-append framing.frame.spell heard news)
            ∙ ap (λ (zs : List ℕ). zs ++ p.lost) (append_assoc (frames heard) (frames news) c.held ∙ ap (λ (zs : List ℕ). frames heard ++ zs) hears)
            ∙ p.read
            ∙ ap (λ (zs : List ℕ). a.held ++ zs) (sym (flat_map-append came_by xs ys ∙ ap (λ (zs : List ℕ). came xs ++ zs) none ∙ append-nil (came xs)));
        contents = contents_through p.contents q.contents;
      }

module _ {S : Type 0} (answers : Told S) where
  pub Goes-nothing : ((s : S) → answers s [] s) → (a : Wired S) → Goes answers a [] [] [] a
  Goes-nothing nothing a =
      record { told = nothing a.stream; written = sym (append-nil a.kept); read = sym (append-nil a.held); contents = tt }

  unfoldable pub Goes-stops : (a b : Wired S) (sent heard : List (List ℕ)) (xs : List Answer) → Goes answers a sent heard xs b → Stops answers a sent heard xs b
  Goes-stops a b sent heard xs p =
      record { told = p.told; unwritten = b.kept; written = p.written; unheard = b.held; read = p.read; contents = p.contents }

  pub Breaks-stops : (a b : Wired S) (sent heard : List (List ℕ)) (xs : List Answer) → Breaks answers a sent heard xs b → Stops answers a sent heard xs b
  Breaks-stops a b sent heard xs p =
      record {
        told = p.told;
        unwritten = b.kept;
        written = p.written;
        unheard = b.held ++ p.lost;
        read = sym (append_assoc (frames heard) b.held p.lost) ∙ p.read;
        contents = p.contents;
      }

  -- the frames of what was read are those that were heard and those behind them
  pub Goes-stream : (a b : Wired S) (sent heard : List (List ℕ)) (xs : List Answer) → Goes answers a sent heard xs b → framing.stream (a.held ++ came xs) ≡ behind heard (framing.stream b.held)
  Goes-stream a b sent heard xs p = ap framing.stream (sym p.read) ∙ (passes_spelled heard p.contents).over b.held

  pub Stops-stream : (a b : Wired S) (sent heard : List (List ℕ)) (xs : List Answer) (p : Stops answers a sent heard xs b) → framing.stream (a.held ++ came xs) ≡ behind heard (framing.stream p.unheard)
  Stops-stream a b sent heard xs p = ap framing.stream (sym p.read) ∙ (passes_spelled heard p.contents).over p.unheard

  pub Stops-first : (a b : Wired S) (sent heard : List (List ℕ)) (xs : List Answer) → Stops answers a sent heard xs b → (more : List (List ℕ)) × ((framing.stream (a.held ++ came xs)).frames ≡ heard ++ more)
  Stops-first a b sent heard xs p =
      ((framing.stream p.unheard).frames, ap (λ (s : framing.Split). s.frames) (Stops-stream a b sent heard xs p))

-- ---- writing

-- Some writes, and then one more of what is kept.
module _ {S : Type 0} (answers : Told S) (in_order : (a : S) (xs : List Answer) (b : S) (ys : List Answer) (c : S) → answers a xs b → answers b ys c → answers a (xs ++ ys) c) (a b c : Wired S) (polled : Poll (Result ℕ Error)) (before : (xs : List Answer) × Goes answers a [] [] xs b) (once : Goes answers b [] [] (write_answer polled b.kept ∷ []) c) where
  one_more : (x : Answer) → write_answer polled b.kept ≡ x → Goes answers a [] [] (before.0 ++ x ∷ []) c
  one_more x e =
      Goes-then answers in_order a b c [] [] [] [] before.0 (x ∷ []) before.1
      (subst (λ (y : Answer). Goes answers b [] [] (y ∷ []) c) e once)

  pub wrote_more : (xs : List Answer) × Goes answers a [] [] xs c
  wrote_more = (before.0 ++ write_answer polled b.kept ∷ [], one_more (write_answer polled b.kept) refl)

  module _ (held : c.held ≡ a.held) (less : length c.kept + count_moved polled ≡ length b.kept) (some : b.kept ≡ [] → ⊥) where
    some_left : count_moved polled ≡ 0 → c.kept ≡ [] → ⊥
    some_left zero none = some (nil_from_length b.kept (omega (arith, less, zero, ap length none)))

    pub writes_waited : polled ≡ Pending → Writes answers a Pending c
    writes_waited e =
        record {
          xs = before.0 ++ Write_waits ∷ [];
          goes = one_more Write_waits (ap (λ (r : Poll (Result ℕ Error)). write_answer r b.kept) e);
          held = held;
          all = (λ ready. absurd ready, some_left (ap count_moved e));
          waited = Contains-push before.0 Write_waits;
          failed = tt;
        }

    pub writes_failed : (fault : Error) → polled ≡ Ready (Err fault) → Writes answers a (Ready (Err fault)) c
    writes_failed fault e =
        record {
          xs = before.0 ++ Write_failed ∷ [];
          goes = one_more Write_failed (ap (λ (r : Poll (Result ℕ Error)). write_answer r b.kept) e);
          held = held;
          all = (λ ready. absurd ready, some_left (ap count_moved e));
          waited = tt;
          failed = inl (Contains-push before.0 Write_failed);
        }

    pub writes_none : (fault : Error) → polled ≡ Ready (Ok 0) → Writes answers a (Ready (Err fault)) c
    writes_none fault e =
        record {
          xs = before.0 ++ Went [] ∷ [];
          goes = one_more (Went []) (ap (λ (r : Poll (Result ℕ Error)). write_answer r b.kept) e);
          held = held;
          all = (λ ready. absurd ready, some_left (ap count_moved e));
          waited = tt;
          failed = inr (Contains-push before.0 (Went []));
        }
