-- One answer off a wire, read as far as it wants bytes.
use Rattle.std.proofs.Common.{◌≡◌, ◌⊎◌, ℕ, ◌+◌, ◌-◌, ◌<◌, ◌≤◌, List, [], ◌∷◌, ◌++◌, length, Ok, Err, refl, sym, ap, subst, ◌∙◌, inl, inr, append-nil, arith, false}
use Rattle.std.specs.Prelude.{Result, Option, Some, None}
use Rattle.std.specs.Global.{Vec}
use Rattle.std.specs.declared.io.Error.{Error}
use Rattle.std.proofs.lemmas.List.{length-append, nil_from_length}
use Rattle.std.proofs.lemmas.List.Elements.{Contains-append_right}
use Rattle.futures.specs.declared.task.Poll.{Poll}
use Rattle.futures.specs.declared.task.Poll.TheVariants.{Ready, Pending}
use Rattle.kp_wire.proofs.ReadLemmas.{done, failed}
use Rattle.kp_frames.specs.declared.fault.FrameFault.TheVariants as frame
use Rattle.kp_frames.specs.declared.frame.TheConstants.{CONTENT_LIMIT}
use Rattle.kp_frames.specs.Stream as framing
use Rattle.kp_frames.proofs.StreamLemmas.{first_none}
use Rattle.kp_connection.specs.declared.fault.ReadFault.{ReadFault}
use Rattle.kp_connection.specs.declared.fault.ReadFault.TheVariants as read
use Rattle.kp_hello.specs.declared.fault.HandshakeFault.{HandshakeFault}
use Rattle.kp_hello.specs.declared.fault.HandshakeFault.TheVariants.{Io, Frame, BadAnswer, Refused, OutOfMemory}
use Rattle.kp_connection.specs.Answers.{Answer, came, gone}
use Rattle.kp_connection.specs.Answers.Answer.{Came, Read_waits, Read_failed}
use Rattle.kp_connection.specs.Fault.{of_read}
use Rattle.kp_connection.specs.Listening as listening
use Rattle.kp_connection.specs.Wire.{Told, Wired, Goes, IsOneAtMost, Met, Writes, Brings, Refuses, Lacks, Reads, Gives, Hears}
use Rattle.kp_connection.proofs.HandshakeLemmas.{failed_then}
use Rattle.kp_connection.proofs.WantLemmas.{wants_some, part_small, nothing_behind, still_part, large_read}
use Rattle.kp_connection.proofs.WireLemmas.{Goes-then, Goes-stops, Stops-then}

-- ---- what stays the same

-- where nothing was handed to write and nothing went
same_kept : {S : Type 0} {answers : Told S} (old new : Wired S) (heard : List (List ℕ)) (xs : List Answer) → gone xs ≡ [] → Goes answers old [] heard xs new → new.kept ≡ old.kept
same_kept old new heard xs none goes = ap (λ (zs : List ℕ). zs ++ new.kept) (sym none) ∙ goes.written ∙ append-nil old.kept

-- where nothing was heard and this came
more_held : {S : Type 0} {answers : Told S} (old new : Wired S) (xs : List Answer) (bytes : List ℕ) → came xs ≡ bytes → Goes answers old [] [] xs new → new.held ≡ old.held ++ bytes
more_held old new xs bytes is goes = goes.read ∙ ap (λ (zs : List ℕ). old.held ++ zs) is

pub wants : (held : List ℕ) (n : ℕ) → framing.first held ≡ Err frame.Short → n ≡ framing.wanted (framing.stream held).rest → n ≡ framing.wanted held
wants held n partial is = is ∙ ap (λ (s : framing.Split). framing.wanted s.rest) (first_none held frame.Short partial)

pub wants_more : (held : List ℕ) (n : ℕ) → framing.first held ≡ Err frame.Short → n ≡ framing.wanted (framing.stream held).rest → 0 < n
wants_more held n partial is = omega (arith, wants held n partial is, wants_some held partial)

-- ---- on the way

-- some calls, in which nothing was handed to write and nothing heard
abbrev pub Goes-to : {S : Type 0} → Told S → Wired S → Wired S → Type 0
Goes-to answers old new = (xs : List Answer) × Goes answers old [] [] xs new

-- All is written, and part of the answer was read.
pub record Underway {S : Type 0} (answers : Told S) (old new : Wired S) : Type 0 where
  pub goes : Goes-to answers old new
  pub written : new.kept ≡ []
  pub partial : framing.first new.held ≡ Err frame.Short

-- A read brought some of the bytes that it wants.
pub record Brought {S : Type 0} (answers : Told S) (old mid new : Wired S) : Type 0 where
  pub goes : Goes-to answers old new
  pub written : new.kept ≡ []
  pub partial : framing.first mid.held ≡ Err frame.Short
  pub bytes : List ℕ
  pub held : new.held ≡ mid.held ++ bytes
  pub some : 0 < length bytes
  pub most : length bytes ≤ framing.wanted mid.held
  pub sound : framing.is_faulty (mid.held ++ bytes) ≡ false

module _ {S : Type 0} (answers : Told S) (in_order : (a : S) (xs : List Answer) (b : S) (ys : List Answer) (c : S) → answers a xs b → answers b ys c → answers a (xs ++ ys) c) (old mid new : Wired S) where
  then_reads : (u : Underway answers old mid) (ys : List Answer) → Goes answers mid [] [] ys new → Goes answers old [] [] (u.goes.0 ++ ys) new
  then_reads u ys goes = Goes-then answers in_order old mid new [] [] [] [] u.goes.0 ys u.goes.1 goes

  pub read_waits : Underway answers old mid → Goes answers mid [] [] (Read_waits ∷ []) new → listening.Waits answers old new
  read_waits u goes = record {
    xs = u.goes.0 ++ (Read_waits ∷ []);
    goes = then_reads u (Read_waits ∷ []) goes;
    partial = ap framing.first (more_held mid new (Read_waits ∷ []) [] refl goes ∙ append-nil mid.held) ∙ u.partial;
    met = inl (same_kept mid new [] (Read_waits ∷ []) refl goes ∙ u.written, Contains-append_right u.goes.0 (Read_waits ∷ []) Read_waits (0, omega arith, refl));
  }

  -- what it did not hear where there was no room is what was held, and bytes that it still wanted
  lacked : (n : ℕ) → n ≡ framing.wanted mid.held → framing.first mid.held ≡ Err frame.Short → (r : Lacks answers n mid new) → IsOneAtMost r.stops.unheard
  lacked n is partial r content rest e =
      elim r.once [
        | inl h ↦ absurd (apart (sym (ap framing.first (r.stops.read ∙ ap (λ (xs : List Answer). mid.held ++ came xs) h.0 ∙ append-nil mid.held) ∙ partial) ∙ e))
        | inr h ↦
            let bound = h.1 in
            nothing_behind mid.held h.0 content rest partial (omega arith)
            (ap framing.first (sym (r.stops.read ∙ ap (λ (xs : List Answer). mid.held ++ came xs) h.2 ∙ ap (λ (zs : List ℕ). mid.held ++ zs) (append-nil h.0))) ∙ e)
      ]
    where
      apart : {A : Type 0} {x : A} → failed frame.Short ≡ done x → ⊥
      apart e = cc

  pub read_ends : (n : ℕ) → Underway answers old mid → Brings answers n mid 0 new → listening.Fails answers old new
  read_ends n u b =
      let none : b.bytes ≡ [] = nil_from_length b.bytes b.len in
      let goes = subst (λ (bytes : List ℕ). Goes answers mid [] [] (Came bytes ∷ []) new) none b.goes in
      record {
        xs = u.goes.0 ++ (Came [] ∷ []);
        goes = then_reads u (Came [] ∷ []) goes;
        partial = ap framing.first (more_held mid new (Came [] ∷ []) [] refl goes ∙ append-nil mid.held) ∙ u.partial;
        failed = inl (inr (Contains-append_right u.goes.0 (Came [] ∷ []) (Came []) (0, omega arith, refl)));
      }

  refuses_large : (n : ℕ) → n ≡ framing.wanted mid.held → Underway answers old mid → Refuses answers n mid new → listening.Overflows answers old new
  refuses_large n is u r =
      let large = large_read mid.held r.bytes u.partial (omega (arith, r.bound)) r.faulty in
      let held : new.held ≡ mid.held ++ r.bytes = r.held ∙ large.whole in
      let all : new.held ++ r.breaks.lost ≡ mid.held ++ r.bytes = r.breaks.read ∙ ap (λ (zs : List ℕ). mid.held ++ zs) (append-nil r.bytes) in
      let goes : Goes answers mid [] [] (Came r.bytes ∷ []) new =
      record {
        told = r.breaks.told;
        written = r.breaks.written;
        read = held ∙ ap (λ (zs : List ℕ). mid.held ++ zs) (sym (append-nil r.bytes));
        contents = tt;
      } in
      record {
        xs = u.goes.0 ++ (Came r.bytes ∷ []);
        goes = then_reads u (Came r.bytes ∷ []) goes;
        written = same_kept mid new [] (Came r.bytes ∷ []) refl goes ∙ u.written;
        size = ap length held ∙ large.four;
        large = ap framing.first held ∙ large.large;
      }

  pub read_fails : (n : ℕ) (fault : ReadFault) → n ≡ framing.wanted mid.held → Underway answers old mid → Reads answers n mid (Ready (Err fault)) new → listening.Listens answers old (Err (of_read fault)) new
  unfolding Stops-then
  read_fails n (read.Io error) is u goes = record {
    xs = u.goes.0 ++ (Read_failed ∷ []);
    goes = then_reads u (Read_failed ∷ []) goes;
    partial = ap framing.first (more_held mid new (Read_failed ∷ []) [] refl goes ∙ append-nil mid.held) ∙ u.partial;
    failed = inl (inl (Contains-append_right u.goes.0 (Read_failed ∷ []) Read_failed (0, omega arith, refl)));
  }
  read_fails n read.TooLarge is u r = refuses_large n is u r
  read_fails n read.OutOfMemory is u r = record {
    xs = u.goes.0 ++ r.xs;
    stops = Stops-then answers in_order old mid new [] [] [] [] u.goes.0 r.xs u.goes.1 r.stops;
    one = lacked n is u.partial r;
  }

  pub brought : (n count : ℕ) → n ≡ framing.wanted mid.held → (count ≡ 0 → ⊥) → Underway answers old mid → Brings answers n mid count new → Brought answers old mid new
  brought n count is not u b = record {
    goes = (u.goes.0 ++ (Came b.bytes ∷ []), then_reads u (Came b.bytes ∷ []) b.goes);
    written = same_kept mid new [] (Came b.bytes ∷ []) refl b.goes ∙ u.written;
    partial = u.partial;
    bytes = b.bytes;
    held = more_held mid new (Came b.bytes ∷ []) b.bytes (append-nil b.bytes) b.goes;
    some = omega (arith, b.len, not);
    most = omega (arith, b.len, b.bound);
    sound = b.sound;
  }

-- ---- the frame

module _ {S : Type 0} (answers : Told S) (in_order : (a : S) (xs : List Answer) (b : S) (ys : List Answer) (c : S) → answers a xs b → answers b ys c → answers a (xs ++ ys) c) (old mid last new : Wired S) (b : Brought answers old mid last) where
  pub gives : (content : List ℕ) → Gives answers last content new → listening.Hears answers old content new
  gives content g =
      let oldest : framing.first (mid.held ++ b.bytes) ≡ Ok (content, new.held) = ap framing.first (sym b.held) ∙ g.oldest in
      record {
        xs = b.goes.0 ++ [];
        goes = Goes-then answers in_order old last new [] [] [] (content ∷ []) b.goes.0 [] b.goes.1 g.goes;
        written = same_kept last new (content ∷ []) [] refl g.goes ∙ b.written;
        read = nothing_behind mid.held b.bytes content new.held b.partial b.most oldest;
      }

  pub none_yet : (framing.stream last.held).frames ≡ [] → new ≡ last → Underway answers old new
  none_yet none same =
      let sound : framing.is_faulty last.held ≡ false = ap framing.is_faulty b.held ∙ b.sound in
      subst (λ (w : Wired S). Underway answers old w) (sym same) (record { goes = b.goes; written = b.written; partial = still_part last.held sound none })

  pub no_room : new ≡ last → listening.Lacks answers old new
  unfolding Goes-stops
  no_room same =
      subst (λ (w : Wired S). listening.Lacks answers old w) (sym same) (record {
        xs = b.goes.0;
        stops = Goes-stops answers old last [] [] b.goes.0 b.goes.1;
        one = λ content rest e. nothing_behind mid.held b.bytes content rest b.partial b.most (ap framing.first (sym b.held) ∙ e);
      })

-- ---- a read's answer under a pattern

pub brings_by : {S : Type 0} (answers : Told S) (n : ℕ) (old new : Wired S) (r : Result ℕ ReadFault) (count : ℕ) → r ≡ Ok count → Reads answers n old (Ready r) new → Brings answers n old count new
brings_by answers n old new r count is reads = subst (λ (x : Result ℕ ReadFault). Reads answers n old (Ready x) new) is reads

pub fails_by : {S : Type 0} (answers : Told S) (n : ℕ) (old new : Wired S) (r : Result ℕ ReadFault) (fault : ReadFault) → r ≡ Err fault → Reads answers n old (Ready r) new → Reads answers n old (Ready (Err fault)) new
fails_by answers n old new r fault is reads = subst (λ (x : Result ℕ ReadFault). Reads answers n old (Ready x) new) is reads

pub some_by : {S : Type 0} (answers : Told S) (old new : Wired S) (r : Option (Vec ℕ)) (content : Vec ℕ) → r ≡ Some content → Hears answers old (Ok r) new → Gives answers old content.items new
some_by answers old new r content is hears = subst (λ (x : Option (Vec ℕ)). Hears answers old (Ok x) new) is hears

pub none_by : {S : Type 0} (answers : Told S) (old new : Wired S) (r : Option (Vec ℕ)) → r ≡ None → Hears answers old (Ok r) new → ((framing.stream old.held).frames ≡ []) × (new ≡ old)
none_by answers old new r is hears = subst (λ (x : Option (Vec ℕ)). Hears answers old (Ok x) new) is hears

-- a read takes the bytes that are wanted away
pub nearer : {S : Type 0} (answers : Told S) (old mid last new : Wired S) (b : Brought answers old mid last) → new ≡ last → (4 + CONTENT_LIMIT) - length new.held < (4 + CONTENT_LIMIT) - length mid.held
nearer {S = S} answers old mid last new b same =
    let len : length new.held ≡ length mid.held + length b.bytes = ap (λ (w : Wired S). length w.held) same ∙ ap length b.held ∙ length-append mid.held b.bytes in
    omega (arith, len, b.some, part_small mid.held b.partial)

-- ---- behind what was written

module _ {S : Type 0} (answers : Told S) (in_order : (a : S) (xs : List Answer) (b : S) (ys : List Answer) (c : S) → answers a xs b → answers b ys c → answers a (xs ++ ys) c) (old mid new : Wired S) where
  behind_writes : (w : Goes-to answers old mid) (heard : List (List ℕ)) (ys : List Answer) → Goes answers mid [] heard ys new → Goes answers old [] heard (w.0 ++ ys) new
  behind_writes w heard ys goes = Goes-then answers in_order old mid new [] [] [] heard w.0 ys w.1 goes

  waits_behind : (w : Goes-to answers old mid) → listening.Waits answers mid new → listening.Waits answers old new
  waits_behind w q = record { xs = w.0 ++ q.xs; goes = behind_writes w [] q.xs q.goes; partial = q.partial; met = met_behind q.met }
    where
      met_behind : {A : Type 0} {x y : Answer} → (A × Met x q.xs) ⊎ Met y q.xs → (A × Met x (w.0 ++ q.xs)) ⊎ Met y (w.0 ++ q.xs)
      met_behind {x = x} (inl h) = inl (h.0, Contains-append_right w.0 q.xs x h.1)
      met_behind {y = y} (inr h) = inr (Contains-append_right w.0 q.xs y h)

  pub listens_behind : (w : Goes-to answers old mid) (r : Result (Poll (Vec ℕ)) HandshakeFault) → listening.Listens answers mid r new → listening.Listens answers old r new
  unfolding Stops-then
  listens_behind w (Ok Pending) q = waits_behind w q
  listens_behind w (Ok (Ready content)) q = record { xs = w.0 ++ q.xs; goes = behind_writes w (content.items ∷ []) q.xs q.goes; written = q.written; read = q.read }
  listens_behind w (Err Io) q = record { xs = w.0 ++ q.xs; goes = behind_writes w [] q.xs q.goes; partial = q.partial; failed = failed_then w.0 q.xs q.failed }
  listens_behind w (Err OutOfMemory) q = record { xs = w.0 ++ q.xs; stops = Stops-then answers in_order old mid new [] [] [] [] w.0 q.xs w.1 q.stops; one = q.one }
  listens_behind w (Err (Frame frame.TooLarge)) q = record { xs = w.0 ++ q.xs; goes = behind_writes w [] q.xs q.goes; written = q.written; size = q.size; large = q.large }
  listens_behind w (Err (Frame frame.Short)) q = absurd q
  listens_behind w (Err (Frame frame.Trailing)) q = absurd q
  listens_behind w (Err (Frame frame.UnknownApi)) q = absurd q
  listens_behind w (Err (Frame frame.UnknownVersion)) q = absurd q
  listens_behind w (Err (Frame (frame.Wire fault))) q = absurd q
  listens_behind w (Err (Frame frame.OutOfMemory)) q = absurd q
  listens_behind w (Err (Frame frame.Mismatch)) q = absurd q
  listens_behind w (Err BadAnswer) q = absurd q
  listens_behind w (Err (Refused code)) q = absurd q

-- what was written, seen by what comes behind it
module _ {S : Type 0} (answers : Told S) (old new : Wired S) where
  pub write_waits : Writes answers old Pending new → framing.first old.held ≡ Err frame.Short → listening.Waits answers old new
  write_waits w partial = record { xs = w.xs; goes = w.goes; partial = ap framing.first w.held ∙ partial; met = inr w.waited }

  pub write_fails : (error : Error) → Writes answers old (Ready (Err error)) new → framing.first old.held ≡ Err frame.Short → listening.Fails answers old new
  write_fails error w partial = record { xs = w.xs; goes = w.goes; partial = ap framing.first w.held ∙ partial; failed = inr w.failed }

  pub underway : (done : Unit {0}) → Writes answers old (Ready (Ok done)) new → framing.first old.held ≡ Err frame.Short → Underway answers old new
  underway done w partial = record { goes = (w.xs, w.goes); written = w.all.0 tt; partial = ap framing.first w.held ∙ partial }
