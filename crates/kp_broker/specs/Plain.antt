-- What a reader and a writer of std's tell of their calls.
use Rattle.std.specs.Prelude.{◌≡◌, ℕ, ◌<◌, ◌≤◌, List, [], ◌∷◌, ◌++◌, length, take, Option, Result, Ok, Err}
use Rattle.std.specs.Io.KnownBytes.{Appends, Consumes, IsAtEnd, Keeps, ReadConsumes, WriteAppends}
use Rattle.std.specs.declared.io.Error.{Error}
use Rattle.std.proofs.Common.{refl, sym, ap, subst, ◌∙◌, append-nil, arith}
use Rattle.std.proofs.KnownBytes.{Appends-nil, Appends-trans, Consumes-nil, Consumes-trans}
use Rattle.std.proofs.lemmas.List.{length-take-le}
use Rattle.std.proofs.lemmas.List.Concat.{flat_map-append}
use Rattle.kp_broker.specs.Calls.{Answer, came, came_by, gone, gone_by, read_answer, write_answer, flush_answer}
use Rattle.kp_broker.specs.Calls.Answer.{Came, Read_failed, Went, Write_failed, Flushed, Flush_failed}

-- What was read was taken from the reader, where it tells its bytes, and what was written was put behind what the writer
-- held, where it tells these. Where the last call was a read that met the end no byte was left. Where nothing was called
-- nothing was read.
pub record Passes (unread unread' held held' : Option (List ℕ)) (xs : List Answer) : Type 0 where
  pub consumed : Consumes unread unread' (came xs)
  pub appended : Appends held held' (gone xs)
  pub at_end : (before : List Answer) → xs ≡ before ++ Came [] ∷ [] → IsAtEnd unread'
  pub still : xs ≡ [] → unread' ≡ unread

-- ---- calls, one after the other

no_last : {A : Type 0} (before : List A) (x : A) → [] ≡ before ++ x ∷ [] → ⊥
no_last [] x e = absurd cc
no_last (y ∷ before) x e = absurd cc

pub passes_nothing : (unread held : Option (List ℕ)) → Passes unread unread held held []
passes_nothing unread held = record {
  consumed = Consumes-nil unread;
  appended = Appends-nil held;
  at_end = λ before e. absurd (no_last before (Came []) e);
  still = λ _. refl;
}

-- the last of two lists is that of the second, where it has one
last_of : {A : Type 0} (xs : List A) (y : A) (ys before : List A) (x : A) → xs ++ (y ∷ ys) ≡ before ++ x ∷ [] → (mid : List A) × (y ∷ ys ≡ mid ++ x ∷ [])
last_of [] y ys before x e = (before, e)
last_of (w ∷ xs) y ys [] x e = absurd (too_long xs y ys (tail_of e))
  where
    tail_of : {A : Type 0} {v w : A} {vs ws : List A} → v ∷ vs ≡ w ∷ ws → vs ≡ ws
    tail_of e = cc

    too_long : {A : Type 0} (xs : List A) (y : A) (ys : List A) → xs ++ (y ∷ ys) ≡ [] → ⊥
    too_long [] y ys e = absurd cc
    too_long (v ∷ xs) y ys e = absurd cc
last_of (w ∷ xs) y ys (v ∷ before) x e = last_of xs y ys before x (tail_of e)
  where
    tail_of : {A : Type 0} {v w : A} {vs ws : List A} → v ∷ vs ≡ w ∷ ws → vs ≡ ws
    tail_of e = cc

module _ (unread unread' unread'' held held' held'' : Option (List ℕ)) (xs : List Answer) where
  ends : (ys : List Answer) → Passes unread unread' held held' xs → Passes unread' unread'' held' held'' ys → (before : List Answer) → xs ++ ys ≡ before ++ Came [] ∷ [] → IsAtEnd unread''
  ends [] p q before e = subst IsAtEnd (sym (q.still refl)) (p.at_end before (sym (append-nil xs) ∙ e))
  ends (y ∷ ys) p q before e = let (mid, is) = last_of xs y ys before (Came []) e in q.at_end mid is

  stays : (ys : List Answer) → Passes unread unread' held held' xs → Passes unread' unread'' held' held'' ys → xs ++ ys ≡ [] → unread'' ≡ unread
  stays [] p q e = q.still refl ∙ p.still (sym (append-nil xs) ∙ e)
  stays (y ∷ ys) p q e = absurd (none_behind xs e)
    where
      none_behind : (xs : List Answer) → xs ++ (y ∷ ys) ≡ [] → ⊥
      none_behind [] e = absurd cc
      none_behind (x ∷ xs) e = absurd cc

  pub passes_in_order : (ys : List Answer) → Passes unread unread' held held' xs → Passes unread' unread'' held' held'' ys → Passes unread unread'' held held'' (xs ++ ys)
  passes_in_order ys p q = record {
    consumed = subst (Consumes unread unread'') (sym (flat_map-append came_by xs ys)) (Consumes-trans unread unread' unread'' (came xs) (came ys) p.consumed q.consumed);
    appended = subst (Appends held held'') (sym (flat_map-append gone_by xs ys)) (Appends-trans held held' held'' (gone xs) (gone ys) p.appended q.appended);
    at_end = ends ys p q;
    still = stays ys p q;
  }

-- ---- one call

kept_consumes : (a b : Option (List ℕ)) → Keeps a b → Consumes a b []
kept_consumes Option.None b k = tt
kept_consumes (Option.Some x) Option.None k = absurd k
kept_consumes (Option.Some x) (Option.Some y) k = sym k

kept_appends : (a b : Option (List ℕ)) → Keeps a b → Appends a b []
kept_appends Option.None b k = tt
kept_appends (Option.Some x) Option.None k = absurd k
kept_appends (Option.Some x) (Option.Some y) k = k ∙ sym (append-nil x)

some_call : {A : Type 0} (x : A) (P : Type 0) → x ∷ [] ≡ [] → P
some_call x P e = absurd cc

only_call : {A : Type 0} (x y : A) (before : List A) → x ∷ [] ≡ before ++ y ∷ [] → x ≡ y
only_call x y [] e = cc
only_call x y (z ∷ before) e = absurd (no_last before y cc)

pub passes_read : (unread unread' held : Option (List ℕ)) (r : Result ℕ Error) (buf : List ℕ) → (n_bound : (n : ℕ) → r ≡ Ok n → n ≤ length buf) → 0 < length buf → ReadConsumes unread unread' r buf
    → Passes unread unread' held held (read_answer r buf ∷ [])
passes_read unread unread' held (Ok n) buf bound some (took, end) = record {
  consumed = subst (Consumes unread unread') (sym (append-nil (take n buf))) took;
  appended = Appends-nil held;
  at_end = λ before e. let nothing : take n buf ≡ [] = bytes_of (only_call (Came (take n buf)) (Came []) before e) in
      end (omega (arith, ap length nothing, length-take-le n buf (bound n refl))) some;
  still = some_call (Came (take n buf)) (unread' ≡ unread);
}
  where
    bytes_of : {a b : List ℕ} → Came a ≡ Came b → a ≡ b
    bytes_of e = cc
passes_read unread unread' held (Err e) buf bound some kept = record {
  consumed = kept_consumes unread unread' kept;
  appended = Appends-nil held;
  at_end = λ before e. absurd (apart (only_call Read_failed (Came []) before e));
  still = some_call Read_failed (unread' ≡ unread);
}
  where
    apart : Read_failed ≡ Came [] → ⊥
    apart e = absurd cc

pub passes_write : (unread held held' : Option (List ℕ)) (r : Result ℕ Error) (buf : List ℕ) → WriteAppends held held' r buf → Passes unread unread held held' (write_answer r buf ∷ [])
passes_write unread held held' (Ok n) buf put = record {
  consumed = Consumes-nil unread;
  appended = subst (Appends held held') (sym (append-nil (take n buf))) put;
  at_end = λ before e. absurd (apart (take n buf) (only_call (Went (take n buf)) (Came []) before e));
  still = λ _. refl;
}
  where
    apart : (bytes : List ℕ) → Went bytes ≡ Came [] → ⊥
    apart bytes e = absurd cc
passes_write unread held held' (Err e) buf kept = record {
  consumed = Consumes-nil unread;
  appended = kept_appends held held' kept;
  at_end = λ before e. absurd (apart (only_call Write_failed (Came []) before e));
  still = λ _. refl;
}
  where
    apart : Write_failed ≡ Came [] → ⊥
    apart e = absurd cc

pub passes_flush : (unread held held' : Option (List ℕ)) (r : Result (Unit {0}) Error) → Keeps held held' → Passes unread unread held held' (flush_answer r ∷ [])
passes_flush unread held held' (Ok done) kept = record {
  consumed = Consumes-nil unread;
  appended = kept_appends held held' kept;
  at_end = λ before e. absurd (apart (only_call Flushed (Came []) before e));
  still = λ _. refl;
}
  where
    apart : Flushed ≡ Came [] → ⊥
    apart e = absurd cc
passes_flush unread held held' (Err e) kept = record {
  consumed = Consumes-nil unread;
  appended = kept_appends held held' kept;
  at_end = λ before e. absurd (apart (only_call Flush_failed (Came []) before e));
  still = λ _. refl;
}
  where
    apart : Flush_failed ≡ Came [] → ⊥
    apart e = absurd cc
