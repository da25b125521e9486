-- Bytes that were taken of what was here.
use Rattle.std.proofs.Common.{◌≡◌, ◌∙◌, ℕ, ◌+◌, ◌-◌, ◌≤◌, List, [], ◌++◌, ap, arith, append_assoc, append-nil, drop, length, length-append, length-drop, subst, sym}
use Rattle.std.proofs.Math.Seq.{drop-append_seam}
use Rattle.std.proofs.lemmas.List.{drop-drop}
use Rattle.kp_publish.specs.Input.{rest_of}
use Rattle.kp_publish.specs.Publishing.{Draws, DrawsSilently, GoesOn}
use Rattle.kp_publish.specs.declared.input.Input.{Input}
use Rattle.kp_publish.proofs.GoingLemmas.{goes_more}
use Rattle.kp_send.specs.Sender.{Account, Finishes, Takes}
use Rattle.kp_send.specs.Streaming.{Calls, Goes}
use Rattle.kp_send.specs.declared.texts.Texts.{Texts}

-- what is left of a piece stands at its end
at_the_end : (piece taken rest : List ℕ) (k : ℕ) → k ≤ length piece → drop k piece ≡ taken ++ rest → drop (length piece - length rest) piece ≡ rest
at_the_end piece taken rest k within is =
    let counted : length piece - k ≡ length taken + length rest = sym (length-drop k piece) ∙ ap length is ∙ length-append taken rest in
    let place : length piece - length rest ≡ k + length taken = omega (arith, counted) in
    ap (λ (n : ℕ). drop n piece) place
    ∙ sym (drop-drop (length taken) k piece)
    ∙ ap (drop (length taken)) is
    ∙ drop-append_seam taken rest

pub by_takes : (i j : Input) (a b : Account) (chunk rest : List ℕ) → i.taken ≤ length i.piece.items → j.piece ≡ i.piece
    → j.taken ≡ length i.piece.items - length rest → chunk ≡ rest_of i → Takes a chunk rest b → DrawsSilently [] i a j b
by_takes i j a b chunk rest within same place is t texts =
    let left : rest_of j ≡ rest =
    ap (λ (n : ℕ). drop n j.piece.items) place
    ∙ ap (λ (p : List ℕ). drop (length i.piece.items - length rest) p) (ap (λ p. p.items) same)
    ∙ at_the_end i.piece.items t.taken rest i.taken within (sym is ∙ t.front) in
    record {
      taken = [] ++ t.taken;
      goes = Goes.one_more [] t.taken a b texts texts Goes.none (Calls.takes chunk rest b t);
      front = append-nil (rest_of i) ∙ sym is ∙ t.front ∙ ap (λ (r : List ℕ). t.taken ++ r) (sym left);
    }

pub by_comes : (i j : Input) (a : Account) (came : List ℕ) → rest_of i ≡ [] → rest_of j ≡ came → DrawsSilently came i a j a
by_comes i j a came spent is texts = record {
  taken = [];
  goes = Goes.none;
  front = ap (λ (r : List ℕ). r ++ came) spent ∙ sym is;
}

pub by_finishes : (i j : Input) (a b : Account) → rest_of i ≡ [] → rest_of j ≡ rest_of i → Finishes a b → DrawsSilently [] i a j b
by_finishes i j a b spent same f texts = record {
  taken = [] ++ [];
  goes = Goes.one_more [] [] a b texts texts Goes.none (Calls.finishes b f);
  front = append-nil (rest_of i) ∙ sym same;
}

-- calls that take nothing of what is here
pub by_calls : (i j : Input) (a b : Account) (x y : Texts) → j ≡ i → Goes a x [] b y → Draws [] i a x j b y
by_calls i j a b x y same goes = record {
  taken = [];
  goes = goes;
  front = append-nil (rest_of i) ∙ sym (ap rest_of same);
}

pub still : (came : List ℕ) (i j k : Input) (a b c : Account) (x y : Texts) → Draws came i a x j b y → k ≡ j → c ≡ b → Draws came i a x k c y
still came i j k a b c x y d same unmoved =
    subst (λ (input : Input). Draws came i a x input c y) (sym same)
    (subst (λ (account : Account). Draws came i a x j account y) (sym unmoved) d)

pub unmoved : (came : List ℕ) (i j k : Input) (a b : Account) (x y : Texts) → Draws came i a x j b y → rest_of k ≡ rest_of j → Draws came i a x k b y
unmoved came i j k a b x y d same = record {
  taken = d.taken;
  goes = d.goes;
  front = d.front ∙ ap (λ (r : List ℕ). d.taken ++ r) (sym same);
}

-- such calls as any
pub going : (came : List ℕ) (i j : Input) (a b : Account) (x y : Texts) → Draws came i a x j b y → GoesOn a x b y
going came i j a b x y d = (d.taken, d.goes)

-- some, and then some
pub draws_on : (first later : List ℕ) (i j k : Input) (a b c : Account) (x y z : Texts) → Draws first i a x j b y → Draws later j b y k c z
    → Draws (first ++ later) i a x k c z
draws_on first later i j k a b c x y z d e = record {
  taken = d.taken ++ e.taken;
  goes = goes_more a x d.taken b y e.taken c z d.goes e.goes;
  front =
      sym (append_assoc (rest_of i) first later)
      ∙ ap (λ (r : List ℕ). r ++ later) d.front
      ∙ append_assoc d.taken (rest_of j) later
      ∙ ap (λ (r : List ℕ). d.taken ++ r) e.front
      ∙ sym (append_assoc d.taken e.taken (rest_of k));
}
