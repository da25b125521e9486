-- Values that are accepted one after the other.
use Rattle.std.proofs.Common.{◌≡◌, ℕ, ℤ, ◌+◌, ◌<◌, List, [], ◌∷◌, ◌++◌, length, take, drop, refl, sym, subst, ap, ◌∙◌}
use Rattle.std.specs.Prelude.{◌≢◌, pos, Result, Ok, Err, OnOk, OnErr}
use Rattle.std.proofs.lemmas.List.{append_assoc, drop_more, length-append}
use Rattle.std.proofs.Math.ListN.{get_or}
use Rattle.kp_c.specs.Sending.{AcceptsEach, AcceptsSome, AcceptsValue, none, one_more, values_in}
use Rattle.kp_embed.specs.Producer.{Producer}
use Rattle.kp_embed.specs.declared.target.Target.{Target}

-- So many values were accepted, and the bytes behind them are the rest.
pub record SoMany (timestamp : ℤ) (now : ℕ) (target : Target) (lengths bytes : List ℕ) (place : ℕ) (rest : List ℕ) (old new : Producer) : Type 0 where
  pub values : List (List ℕ)
  pub first : values_in lengths bytes ≡ values ++ values_in (drop place lengths) rest
  pub many : length values ≡ place
  pub each : AcceptsEach timestamp now target old values new

pub so_many_none : (timestamp : ℤ) (now : ℕ) (target : Target) (lengths bytes : List ℕ) (old : Producer) → SoMany timestamp now target lengths bytes 0 bytes old old
so_many_none timestamp now target lengths bytes old = record { values = []; first = refl; many = refl; each = none }

pub so_many_more : (timestamp : ℤ) (now : ℕ) (target : Target) (lengths bytes : List ℕ) (place : ℕ) (rest others : List ℕ) (d : ℕ) (old middle new : Producer)
    → place < length lengths → SoMany timestamp now target lengths bytes place rest old middle
    → AcceptsValue timestamp now target (take (get_or lengths place d) rest) middle new → others ≡ drop (get_or lengths place d) rest
    → SoMany timestamp now target lengths bytes (place + 1) others old new
unfolding values_in
so_many_more timestamp now target lengths bytes place rest others d old middle new lt s accepts is =
    let n = get_or lengths place d in
    let value = take n rest in
    record {
      values = s.values ++ value ∷ [];
      first = s.first
          ∙ ap (λ (ls : List ℕ). s.values ++ values_in ls rest) (drop_more lengths place d lt)
          ∙ sym (append_assoc s.values (value ∷ []) (values_in (drop (place + 1) lengths) (drop n rest)))
          ∙ ap (λ (r : List ℕ). (s.values ++ value ∷ []) ++ values_in (drop (place + 1) lengths) r) (sym is);
      many = length-append s.values (value ∷ []) ∙ ap (λ (k : ℕ). k + 1) s.many;
      each = one_more s.values value middle new s.each accepts;
    }

pub so_many_some : (timestamp : ℤ) (now : ℕ) (target : Target) (lengths bytes : List ℕ) (place : ℕ) (rest : List ℕ) (old new : Producer)
    → SoMany timestamp now target lengths bytes place rest old new → AcceptsSome timestamp now target lengths bytes place old new
so_many_some timestamp now target lengths bytes place rest old new s =
    record { values = s.values; others = values_in (drop place lengths) rest; first = s.first; many = s.many; each = s.each }

-- What is equal to the timestamp and the target stands for them.
pub accepts_same : (at timestamp : ℤ) (now : ℕ) (to target : Target) (lengths bytes : List ℕ) (count : ℕ) (old new : Producer)
    → at ≡ timestamp → to ≡ target → AcceptsSome at now to lengths bytes count old new → AcceptsSome timestamp now target lengths bytes count old new
accepts_same at timestamp now to target lengths bytes count old new at_is to_is accepts =
    subst (λ (t : ℤ). AcceptsSome t now target lengths bytes count old new) at_is
    (subst (λ (t : Target). AcceptsSome at now t lengths bytes count old new) to_is accepts)

-- The next value was refused, or there is no other: so many were accepted.
pub some_of : (at timestamp : ℤ) (now : ℕ) (target : Target) (lengths bytes : List ℕ) (place : ℕ) (rest : List ℕ) (old middle new : Producer)
    → at ≡ timestamp → SoMany at now target lengths bytes place rest old middle → new ≡ middle → AcceptsSome timestamp now target lengths bytes place old new
some_of at timestamp now target lengths bytes place rest old middle new at_is s same = record {
  values = s.values;
  others = values_in (drop place lengths) rest;
  first = s.first;
  many = s.many;
  each = subst (λ (t : ℤ). AcceptsEach t now target old s.values new) at_is (subst (λ (p : Producer). AcceptsEach at now target old s.values p) (sym same) s.each);
}

-- What holds where it was done holds where the status is that of what was done.
pub where_done : {E : Type 0} (done : Result (Unit {0}) E) (status : ℤ) (P : Type 0) → OnErr done (status ≢ pos 0) → OnOk done P → status ≡ pos 0 → P
where_done (Ok x) status P refused so is = so
where_done (Err e) status P refused so is = absurd (refused is)
