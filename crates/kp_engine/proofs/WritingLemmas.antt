-- Requests written, one after another.
use Rattle.std.proofs.Common.{◌≡◌, ◌⊎◌, ℕ, ◌+◌, ◌≤◌, ◌<◌, List, [], ◌∷◌, ◌++◌, length, Some, None, Ok, Err, refl, sym, ap, subst, ◌∙◌, inl, inr, append-nil, arith}
use Rattle.std.specs.Prelude.{Option, Result}
use Rattle.std.specs.Global.{Vec}
use Rattle.std.specs.declared.alloc.AllocError.{AllocError}
use Rattle.std.specs.declared.io.Error.{Error}
use Rattle.std.proofs.lemmas.List.{length-append, map-append}
use Rattle.std.proofs.lemmas.List.Elements.{Contains-append_right}
use Rattle.futures.specs.declared.task.Poll.TheVariants.{Ready, Pending}
use Rattle.kp_connection.specs.Answers.{Answer}
use Rattle.kp_connection.specs.Answers.Answer.{Went, Write_waits, Write_failed}
use Rattle.kp_connection.specs.Wire.{Told, Wired, Goes, Met, Writes}
use Rattle.kp_rules.specs.Calls.{Call, Request}
use Rattle.kp_rules.specs.declared.fault.CoreFault.{CoreFault}
use Rattle.kp_rules.specs.declared.outgoing.Outgoing.{Outgoing}
use Rattle.kp_engine.specs.Exchange.{OnlyCore}
use Rattle.kp_engine.specs.Talking.{AsksOne, Talks, WritesOn, WritesCut, WritesUntil}
use Rattle.kp_engine.specs.Turn.{asks, requests}
use Rattle.kp_engine.specs.declared.exchange.Exchange.{Exchange}
use Rattle.kp_engine.proofs.AgreementLemmas.{none_some}
use Rattle.kp_engine.proofs.TalkLemmas.{for_some, talks_none, talks_then, talks_then_core, talks_then_wire}

-- So many requests were handed to write.
pub record Written {S : Type 0} (answers : Told S) (node now count : ℕ) (x : Exchange) (w : Wired S) (y : Exchange) (v : Wired S) : Type 0 where
  pub sent : List Outgoing
  pub xs : List Answer
  pub len : length sent ≡ count
  pub talks : Talks answers x w sent [] (requests node now sent) xs y v
  pub held : v.held ≡ w.held

pub nothing_written : {S : Type 0} (answers : Told S) → ((s : S) → answers s [] s) → (node now : ℕ) (x : Exchange) (w : Wired S) → Written answers node now 0 x w x w
nothing_written answers nothing node now x w = record { sent = []; xs = []; len = refl; talks = talks_none answers nothing x w; held = refl }

pub idle_written : {S : Type 0} (answers : Told S) → ((s : S) → answers s [] s) → (node now : ℕ) (x : Exchange) (w : Wired S) → w.kept ≡ [] → WritesOn answers 0 node now x w x w
idle_written answers nothing node now x w idle = record {
  sent = [];
  last = None;
  xs = [];
  few = omega arith;
  none = λ answer is. absurd (none_some is);
  talks = talks_none answers nothing x w;
  held = refl;
  kept = inl idle;
  all = inl (inl refl);
}

requests_then : (node now : ℕ) (a b : List Outgoing) → requests node now (a ++ b) ≡ requests node now a ++ requests node now b
requests_then node now a b = map-append (λ (request : Outgoing). Request node now (Ok (Some request))) a b

module _ {S : Type 0} (answers : Told S) (nothing : (s : S) → answers s [] s) (in_order : (a : S) (xs : List Answer) (b : S) (ys : List Answer) (c : S) → answers a xs b → answers b ys c → answers a (xs ++ ys) c) (most node now count : ℕ) (x : Exchange) (w : Wired S) (y : Exchange) (v u : Wired S) (so_far : Written answers node now count x w y v) where
  -- after a write of what was kept
  after_write : (ys : List Answer) → Goes answers v [] [] ys u → Talks answers x w so_far.sent [] (requests node now so_far.sent) (so_far.xs ++ ys) y u
  after_write ys goes = talks_then_wire answers in_order x y w v u so_far.sent [] (requests node now so_far.sent) so_far.xs ys so_far.talks goes

  -- the write waited
  pub write_waited : count ≤ most → Writes answers v Pending u → WritesOn answers most node now x w y u
  write_waited few p =
      let met = Contains-append_right so_far.xs p.xs Write_waits p.waited in
      record {
        sent = so_far.sent;
        last = None;
        xs = so_far.xs ++ p.xs;
        few = omega (arith, so_far.len, few);
        none = λ answer is. absurd (none_some is);
        talks = subst (λ (c : List Call). Talks answers x w so_far.sent [] c (so_far.xs ++ p.xs) y u) (sym (append-nil (requests node now so_far.sent))) (after_write p.xs p.goes);
        held = p.held ∙ so_far.held;
        kept = inr met;
        all = inr met;
      }

  -- the write failed or took no bytes
  pub write_failed : count ≤ most → (e : Error) → Writes answers v (Ready (Err e)) u → WritesCut answers most node now x w y u
  write_failed few e p = record {
    sent = so_far.sent;
    xs = so_far.xs ++ p.xs;
    few = omega (arith, so_far.len, few);
    talks = after_write p.xs p.goes;
    failed = behind p.failed;
  }
    where
      behind : Met Write_failed p.xs ⊎ Met (Went []) p.xs → Met Write_failed (so_far.xs ++ p.xs) ⊎ Met (Went []) (so_far.xs ++ p.xs)
      behind (inl h) = inl (Contains-append_right so_far.xs p.xs Write_failed h)
      behind (inr h) = inr (Contains-append_right so_far.xs p.xs (Went []) h)

  -- all was written, and as many requests went out as may
  pub enough_written : count ≡ most → Writes answers v (Ready (Ok tt)) u → WritesOn answers most node now x w y u
  enough_written full p = record {
    sent = so_far.sent;
    last = None;
    xs = so_far.xs ++ p.xs;
    few = omega (arith, so_far.len, full);
    none = λ answer is. absurd (none_some is);
    talks = subst (λ (c : List Call). Talks answers x w so_far.sent [] c (so_far.xs ++ p.xs) y u) (sym (append-nil (requests node now so_far.sent))) (after_write p.xs p.goes);
    held = p.held ∙ so_far.held;
    kept = inl (p.all.0 tt);
    all = inl (inl (so_far.len ∙ full));
  }

  -- all was written, and the core gives no request
  pub none_given : (z : Exchange) → count < most → Writes answers v (Ready (Ok tt)) u → AsksOne node now y (Ok None) z → OnlyCore y z → WritesOn answers most node now x w z u
  none_given z few p given only = record {
    sent = so_far.sent;
    last = Some given.0;
    xs = so_far.xs ++ p.xs;
    few = omega (arith, so_far.len, few);
    none = for_some _ given.0 given.1;
    talks = talks_then_core answers in_order nothing x y z w u so_far.sent [] (requests node now so_far.sent) (Request node now given.0 ∷ []) (so_far.xs ++ p.xs) (after_write p.xs p.goes) given.2 only;
    held = p.held ∙ so_far.held;
    kept = inl (p.all.0 tt);
    all = inl (inr refl);
  }

  -- all was written, and memory was refused
  pub none_made : (z : Exchange) → count < most → (refused : AllocError) → Writes answers v (Ready (Ok tt)) u → AsksOne node now y (Err refused) z → OnlyCore y z → WritesUntil answers most node now x w z u
  none_made z few refused p given only = record {
    sent = so_far.sent;
    last = given.0;
    xs = so_far.xs ++ p.xs;
    few = at_most given.0;
    lacking = given.1;
    talks = talks_then_core answers in_order nothing x y z w u so_far.sent [] (requests node now so_far.sent) (asks node now given.0) (so_far.xs ++ p.xs) (after_write p.xs p.goes) given.2 only;
  }
    where
      at_most : (last : Option (Result (Option Outgoing) CoreFault)) → length so_far.sent + length (asks node now last) ≤ most
      at_most None = omega (arith, so_far.len, few)
      at_most (Some answer) = omega (arith, so_far.len, few)

  -- all was written, and a request is handed to write
  pub one_written : (z : Exchange) (t : Wired S) (frame : Vec ℕ) → Writes answers v (Ready (Ok tt)) u → AsksOne node now y (Ok (Some frame)) z → OnlyCore y z
      → Goes answers u (frame.items ∷ []) [] [] t → t.held ≡ u.held → Written answers node now (count + 1) x w z t
  one_written z t frame p given only goes same =
      let request = given.0 in
      let sends : Goes answers u (request.bytes ∷ []) [] [] t = subst (λ (bytes : List ℕ). Goes answers u (bytes ∷ []) [] [] t) given.1 goes in
      let out : Talks answers y u (request ∷ []) [] (Request node now (Ok (Some request)) ∷ []) [] z t = record { runs = given.2; only = only; goes = sends } in
      record {
        sent = so_far.sent ++ request ∷ [];
        xs = (so_far.xs ++ p.xs) ++ [];
        len = length-append so_far.sent (request ∷ []) ∙ ap (λ (n : ℕ). n + 1) so_far.len;
        talks = subst (λ (c : List Call). Talks answers x w (so_far.sent ++ request ∷ []) [] c ((so_far.xs ++ p.xs) ++ []) z t) (sym (requests_then node now so_far.sent (request ∷ [])))
            (talks_then answers in_order x y z w u t so_far.sent (request ∷ []) [] [] (requests node now so_far.sent) (Request node now (Ok (Some request)) ∷ []) (so_far.xs ++ p.xs) [] (after_write p.xs p.goes) out);
        held = same ∙ p.held ∙ so_far.held;
      }

-- ---- answers under a pattern

pub wrote_by : {S : Type 0} (answers : Told S) (v u : Wired S) (given is : Result (Unit {0}) Error) → given ≡ is → Writes answers v (Ready given) u → Writes answers v (Ready is) u
wrote_by answers v u given is same p = subst (λ (r : Result (Unit {0}) Error). Writes answers v (Ready r) u) same p

pub asks_by : (node now : ℕ) (y z : Exchange) (given is : Option (Vec ℕ)) → given ≡ is → AsksOne node now y (Ok given) z → AsksOne node now y (Ok is) z
asks_by node now y z given is same p = subst (λ (o : Option (Vec ℕ)). AsksOne node now y (Ok o) z) same p
