-- What one read, and one question for a frame, do.
use Rattle.std.proofs.Common.{◌≡◌, ℕ, ◌+◌, ◌-◌, ◌≤◌, true, List, [], ◌∷◌, ◌++◌, length, take, drop, Option, Some, None, Result, Ok, Err, refl, sym, ap, subst, ◌∙◌, inl, inr, append-nil, arith}
use Rattle.std.specs.Global.{Vec}
use Rattle.std.specs.Result.{MatchResult, IsErrAnd}
use Rattle.std.specs.declared.alloc.AllocError.{AllocError}
use Rattle.std.proofs.lemmas.Bool.{cases_Bool}
use Rattle.std.proofs.lemmas.List.{take-append-drop, length-take-le}
use Rattle.std.specs.declared.io.Error.{Error}
use Rattle.futures.specs.declared.task.Poll.{Poll}
use Rattle.futures.specs.declared.task.Poll.TheVariants.{Ready, Pending}
use Rattle.tokio.specs.Io.Moved.{count_moved}
use Rattle.kp_frames.specs.declared.fault.FrameFault.{FrameFault}
use Rattle.kp_frames.specs.declared.fault.FrameFault.TheVariants.{TooLarge, OutOfMemory}
use Rattle.kp_frames.specs.Life.{Feeds, Next}
use Rattle.kp_frames.specs.Stream.{frame, first, stream, is_faulty, kept}
use Rattle.kp_frames.proofs.FirstLemmas.{fronted}
use Rattle.kp_connection.specs.declared.fault.ReadFault.{ReadFault}
use Rattle.kp_connection.specs.declared.fault.ReadFault.TheVariants as read
use Rattle.kp_connection.specs.Answers.{read_answer}
use Rattle.kp_connection.specs.Answers.Answer.{Came}
use Rattle.kp_connection.specs.Wire.{Wired, Told, Refuses, Lacks, refusal, Reads, Gives, Hears}

-- What is kept of bytes is a beginning of them.
kept_begins : (bytes : List ℕ) → (lost : List ℕ) × (kept bytes ++ lost ≡ bytes)
unfolding kept
kept_begins bytes =
    let n = length bytes - length (stream bytes).rest + 4 in
    elim (cases_Bool (is_faulty bytes)) [
      | inl e ↦ (drop n bytes, rw e (take-append-drop n bytes))
      | inr e ↦ ([], rw e (append-nil bytes))
    ]

-- ---- reading

module _ {S : Type 0} (answers : Told S) (a b : S) (unsent held after bytes : List ℕ) (most : ℕ) (bound : length bytes ≤ most) (told : answers a (Came bytes ∷ []) b) where
  abbrev old : Wired S
  old = record { stream = a; kept = unsent; held = held }

  abbrev new : Wired S
  new = record { stream = b; kept = unsent; held = after }

  refuses : (is_faulty (held ++ bytes) ≡ true) × (after ≡ kept (held ++ bytes)) → Refuses answers most old new
  refuses p =
      let k = kept_begins (held ++ bytes) in
      record {
        bytes = bytes;
        bound = bound;
        faulty = p.0;
        held = p.1;
        breaks = record {
          told = told;
          written = sym (append-nil unsent);
          lost = k.0;
          read = ap (λ (zs : List ℕ). zs ++ k.0) p.1 ∙ k.1 ∙ ap (λ (zs : List ℕ). held ++ zs) (sym (append-nil bytes));
          contents = tt;
        };
      }

  lacks : after ≡ held → Lacks answers most old new
  lacks same =
      record {
        xs = Came bytes ∷ [];
        once = inr (bytes, bound, refl);
        kept = refl;
        held = same;
        stops = record {
          told = told;
          unwritten = unsent;
          written = sym (append-nil unsent);
          unheard = held ++ bytes;
          read = ap (λ (zs : List ℕ). held ++ zs) (sym (append-nil bytes));
          contents = tt;
        };
      }

  -- what was read was fed, and refused
  refused : (fault : FrameFault) → Feeds held bytes (Err fault) after → Reads answers most old (Ready (Err (refusal fault))) new
  refused TooLarge p = refuses p
  refused OutOfMemory p = lacks p
  refused fault p = absurd p

-- so many bytes came into a buffer
pub fed_refused : {S : Type 0} (answers : Told S) (a b : S) (unsent held after room : List ℕ) (count most : ℕ) (polled : Poll (Result ℕ Error)) (fault : FrameFault) → polled ≡ Ready (Ok count) → count_moved polled ≤ length room → length room ≡ most → answers a (read_answer polled room ∷ []) b → Feeds held (take count room) (Err fault) after → Reads answers most (record { stream = a; kept = unsent; held = held }) (Ready (Err (refusal fault))) (record { stream = b; kept = unsent; held = after })
fed_refused answers a b unsent held after room count most polled fault e bound len told feeds =
    let all : count ≤ length room = subst (λ (r : Poll (Result ℕ Error)). count_moved r ≤ length room) e bound in
    let so : answers a (Came (take count room) ∷ []) b = subst (λ (r : Poll (Result ℕ Error)). answers a (read_answer r room ∷ []) b) e told in
    refused answers a b unsent held after (take count room) most (omega (arith, length-take-le count room all, len)) so fault feeds

-- a read of few bytes is one of more
pub reads_more : {S : Type 0} (answers : Told S) (few most : ℕ) → few ≤ most → (old new : Wired S) (r : Poll (Result ℕ ReadFault)) → Reads answers few old r new → Reads answers most old r new
reads_more answers few most le old new Pending p = p
reads_more answers few most le old new (Ready (Ok count)) p =
    let bound = p.bound in
    record { bytes = p.bytes; len = p.len; bound = omega arith; sound = p.sound; goes = p.goes }
reads_more answers few most le old new (Ready (Err (read.Io e))) p = p
reads_more answers few most le old new (Ready (Err read.TooLarge)) p =
    let bound = p.bound in
    record { bytes = p.bytes; bound = omega arith; faulty = p.faulty; held = p.held; breaks = p.breaks }
reads_more answers few most le old new (Ready (Err read.OutOfMemory)) p =
    record {
      xs = p.xs;
      once = elim p.once [ inl e ↦ inl e | inr x ↦ let bound = x.1 in inr (x.0, omega arith, x.2) ];
      kept = p.kept;
      held = p.held;
      stops = p.stops;
    }

-- ---- hearing

module _ {S : Type 0} (answers : Told S) where
  -- what a splitter's answer to a question for a frame says of the wire
  gives : ((s : S) → answers s [] s) → (stream : S) (unsent held after content : List ℕ) → first held ≡ Ok (content, after) → held ≡ frame.spell content ++ after → Gives answers (record { stream = stream; kept = unsent; held = held }) content (record { stream = stream; kept = unsent; held = after })
  gives nothing stream unsent held after content e spelled =
      let f = fronted held (content, after) e in
      record {
        oldest = e;
        goes = record {
          told = nothing stream;
          written = sym (append-nil unsent);
          read = ap (λ (zs : List ℕ). zs ++ after) (append-nil (frame.spell content)) ∙ sym spelled ∙ sym (append-nil held);
          contents = (f.is_front.small, tt);
        };
      }

  pub hears : ((s : S) → answers s [] s) → (P : FrameFault → AllocError → Type 0) (stream : S) (unsent held after : List ℕ) (r : Result (Option (Vec ℕ)) FrameFault) (s : Result (Option (Vec ℕ)) AllocError) → Next held r after → MatchResult r (λ x. s ≡ Ok x) (λ e. IsErrAnd s (P e)) → Hears answers (record { stream = stream; kept = unsent; held = held }) s (record { stream = stream; kept = unsent; held = after })
  hears nothing P stream unsent held after (Ok (Some content)) s e same =
      let old : Wired S = record { stream = stream; kept = unsent; held = held } in
      let new : Wired S = record { stream = stream; kept = unsent; held = after } in
      subst (λ (t : Result (Option (Vec ℕ)) AllocError). Hears answers old t new) (sym same)
      (gives nothing stream unsent held after content.items e.0 e.2)
  hears nothing P stream unsent held after (Ok None) s e same =
      let old : Wired S = record { stream = stream; kept = unsent; held = held } in
      let new : Wired S = record { stream = stream; kept = unsent; held = after } in
      subst (λ (t : Result (Option (Vec ℕ)) AllocError). Hears answers old t new) (sym same)
      (e.0, ap (λ (h : List ℕ). record { stream = stream; kept = unsent; held = h }) e.1)
  hears nothing P stream unsent held after (Err OutOfMemory) (Err refused) e same =
      (e.0, ap (λ (h : List ℕ). record { stream = stream; kept = unsent; held = h }) e.1)
  hears nothing P stream unsent held after (Err OutOfMemory) (Ok x) e same = absurd same
  hears nothing P stream unsent held after (Err fault) s e same = absurd e
