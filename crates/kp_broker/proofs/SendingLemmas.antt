-- Bytes that are written, piece by piece.
use Rattle.std.proofs.Common.{◌≡◌, ℕ, ◌+◌, ◌<◌, List, [], ◌∷◌, ◌++◌, length, take, drop, Result, Ok, Err, refl, sym, ap, subst, ◌∙◌, append_assoc, append-nil, arith, take-append-drop, length-take-le}
use Rattle.kp_broker.specs.declared.fault.BrokerFault.{BrokerFault}
use Rattle.kp_broker.specs.declared.fault.BrokerFault.TheVariants.{Io}
use Rattle.kp_broker.specs.Calls.{Answer, Told, gone, reads, AreGood, HasFailed}
use Rattle.kp_broker.specs.Calls.Answer.{Went, Flushed, Flush_failed}
use Rattle.kp_broker.specs.Sending.{Flushes, Sends}
use Rattle.kp_broker.proofs.CallLemmas.{gone_behind, reads_behind, good_behind}

-- the first of the bytes were written, and these are left
pub record HasSent {C : Type 0} (answers : Told C) (old now : C) (bytes rest : List ℕ) : Type 0 where
  pub xs : List Answer
  pub told : answers old xs now
  pub no_reads : reads xs ≡ 0
  pub good : AreGood xs
  pub split : bytes ≡ gone xs ++ rest

pub none-sent : {C : Type 0} (answers : Told C) → ((s : C) → answers s [] s) → (old : C) (bytes : List ℕ) → HasSent answers old old bytes bytes
none-sent answers nothing old bytes = record { xs = []; told = nothing old; no_reads = refl; good = tt; split = refl }

module _ {C : Type 0} (answers : Told C) (in_order : (a : C) (xs : List Answer) (b : C) (ys : List Answer) (c : C) → answers a xs b → answers b ys c → answers a (xs ++ ys) c)
    (old now : C) (bytes rest : List ℕ) (has : HasSent answers old now bytes rest) where
  no-reads : (last : Answer) → reads (last ∷ []) ≡ 0 → reads (has.xs ++ last ∷ []) ≡ 0
  no-reads last none = omega (arith, reads_behind has.xs (last ∷ []), has.no_reads)

  pub one-more : (len : ℕ) → len < length rest + 1 → (len ≡ 0 → ⊥) → (new : C) → answers now (Went (take len rest) ∷ []) new → (left : List ℕ) → left ≡ drop len rest → HasSent answers old new bytes left
  one-more len most some new wrote left is =
      let front = take len rest in
      record {
        xs = has.xs ++ Went front ∷ [];
        told = in_order old has.xs now (Went front ∷ []) new has.told wrote;
        no_reads = no-reads (Went front) refl;
        good = good_behind has.xs (Went front ∷ []) has.good (omega (arith, length-take-le len rest (omega arith)), tt);
        split = has.split ∙ ap (λ (ys : List ℕ). gone has.xs ++ ys) (sym (take-append-drop len rest)) ∙ sym (append_assoc (gone has.xs) front (drop len rest))
            ∙ ap (λ (ys : List ℕ). (gone has.xs ++ ys) ++ drop len rest) (sym (append-nil front)) ∙ ap (λ (ys : List ℕ). ys ++ drop len rest) (sym (gone_behind has.xs (Went front ∷ [])))
            ∙ ap (λ (ys : List ℕ). gone (has.xs ++ Went front ∷ []) ++ ys) (sym is);
      }

  same-gone : (last : Answer) → gone (last ∷ []) ≡ [] → gone (has.xs ++ last ∷ []) ≡ gone has.xs
  same-gone last none = gone_behind has.xs (last ∷ []) ∙ ap (λ (ys : List ℕ). gone has.xs ++ ys) none ∙ append-nil (gone has.xs)

  pub failed : (last : Answer) → reads (last ∷ []) ≡ 0 → gone (last ∷ []) ≡ [] → HasFailed last → (new : C) → answers now (last ∷ []) new → Sends answers old bytes (Err Io) new
  failed last none wrote fails new told = record {
    xs = has.xs ++ last ∷ [];
    told = in_order old has.xs now (last ∷ []) new has.told told;
    no_reads = no-reads last none;
    sent = (
      refl,
      (rest, has.split ∙ ap (λ (ys : List ℕ). ys ++ rest) (sym (same-gone last wrote))),
      record { before = has.xs; last = last; are = refl; good = has.good; holds = fails },
    );
  }

  pub all-sent : rest ≡ [] → (r : Result (Unit {0}) BrokerFault) (new : C) → Flushes answers now r new → Sends answers old bytes r new
  all-sent none (Ok done) new told = record {
    xs = has.xs ++ Flushed ∷ [];
    told = in_order old has.xs now (Flushed ∷ []) new has.told told;
    no_reads = no-reads Flushed refl;
    sent = (
      same-gone Flushed refl ∙ sym (append-nil (gone has.xs)) ∙ ap (λ (ys : List ℕ). gone has.xs ++ ys) (sym none) ∙ sym has.split,
      good_behind has.xs (Flushed ∷ []) has.good (tt, tt),
    );
  }
  all-sent none (Err fault) new (is, told) = subst (λ f. Sends answers old bytes (Err f) new) (sym is) (failed Flush_failed refl refl tt new told)
