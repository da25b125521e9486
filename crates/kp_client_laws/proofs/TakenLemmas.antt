-- How many of a sender's items were taken.
use Rattle.std.proofs.Common.{◌≡◌, ◌≢◌, ℕ, zero, suc, ◌+◌, ◌<◌, Bool, List, [], ◌∷◌, ◌++◌, length, length-append, length-set, get_or-set_same, get_or-set_other, refl, sym, ap, ◌∙◌, subst, ⊎_elim, eq-eqb, ne_eqb, arith}
use Rattle.std.specs.Prelude.{Some, None, Ok, Err, flat_map, replicate, slice_index, ◌==◌, if◌then◌else◌}
use Rattle.std.proofs.lemmas.Bool.{cases_eq}
use Rattle.std.proofs.lemmas.List.Elements.{filter-append}
use Rattle.kp_accum.specs.declared.item.Item.{Item}
use Rattle.kp_engine.specs.Serving.{from_sender}
use Rattle.kp_headline.specs.Laws.{calls_in}
use Rattle.kp_headline.specs.Moves.{Move, Accepting, Calling, Meeting, Drawing, Others, after, called, led, with_packets}
use Rattle.kp_headline.specs.Outside.{Outside, State}
use Rattle.kp_rules.specs.Calls.{Call, Life, Lives, appended_by, packets_by}
use Rattle.kp_rules.specs.Calls as call
use Rattle.kp_rules.specs.Records.{Core}
use Rattle.kp_rules.specs.Requesting.{Packet}

-- by these calls so many of the sender's items were appended
abbrev count_in : ℕ → List Item → ℕ
count_in n items = length (from_sender n items)

record Takes (n : ℕ) (old : List ℕ) (appended : List Item) (new : List ℕ) : Type 0 where
  more : slice_index new n ≡ slice_index old n + count_in n appended
  wide : length new ≡ length old

none_taken : (n : ℕ) (old new : List ℕ) → new ≡ old → Takes n old [] new
none_taken n old new same = record { more = omega (arith, ap (λ (l : List ℕ). slice_index l n) same); wide = ap length same }

same_taken : (xs : List Packet) (o : Outside) → (with_packets xs o).taken ≡ o.taken
same_taken [] o = refl
same_taken (x ∷ xs) o = same_taken xs _

takes : (n : ℕ) (s : Core) (c : Call) (o : Outside) → n < length o.taken → Takes n o.taken (appended_by c) (called s c o).taken
takes n s (call.Append i (Ok done)) o near = record {
  more = ⊎_elim
      (λ (same : i.sender ≡ n).
      let one : count_in n (i ∷ []) ≡ 1 = ap (λ (b : Bool). length (if b then i ∷ [] else [])) (eq-eqb i.sender n same) in
      let set : slice_index (called s (call.Append i (Ok tt)) o).taken i.sender ≡ slice_index o.taken i.sender + 1 =
      get_or-set_same o.taken i.sender (slice_index o.taken i.sender + 1) 0 (subst (λ (k : ℕ). k < length o.taken) (sym same) near) in
      let here : slice_index (called s (call.Append i (Ok tt)) o).taken n ≡ slice_index o.taken n + 1 =
      subst (λ (k : ℕ). slice_index (called s (call.Append i (Ok tt)) o).taken k ≡ slice_index o.taken k + 1) same set in
      omega (arith, here, one))
      (λ (other : i.sender ≢ n).
      let none : count_in n (i ∷ []) ≡ 0 = ap (λ (b : Bool). length (if b then i ∷ [] else [])) (ne_eqb i.sender n other) in
      let kept : slice_index (called s (call.Append i (Ok tt)) o).taken n ≡ slice_index o.taken n =
      get_or-set_other o.taken i.sender n (slice_index o.taken i.sender + 1) 0 (λ is. other (sym is)) in
      omega (arith, kept, none))
      (cases_eq i.sender n);
  wide = length-set o.taken i.sender (slice_index o.taken i.sender + 1);
}
takes n s (call.Append i (Err refusal)) o near = none_taken n o.taken _ refl
takes n s (call.Request node now (Ok answer)) o near = none_taken n o.taken _ (same_taken (packets_by s (call.Request node now (Ok answer))) o)
takes n s (call.Request node now (Err refusal)) o near = none_taken n o.taken _ refl
takes n s (call.Reply now content answer) o near = none_taken n o.taken _ refl
takes n s (call.Tick node now answer) o near = none_taken n o.taken _ refl
takes n s (call.Disconnect node now) o near = none_taken n o.taken _ refl
takes n s (call.Lead p leader now) o near = none_taken n o.taken _ refl
takes n s call.Close o near = none_taken n o.taken _ refl
takes n s call.Flush o near = none_taken n o.taken _ refl
takes n s (call.End reports) o near = none_taken n o.taken _ refl
takes n s (call.Fetch sender (Some report)) o near = none_taken n o.taken _ refl
takes n s (call.Fetch sender None) o near = none_taken n o.taken _ refl

pub taken_led : (n : ℕ) (a : State) (ms : List Move) → n < length a.outside.taken
    → slice_index (led a ms).outside.taken n ≡ slice_index a.outside.taken n + count_in n (flat_map appended_by (calls_in ms))
taken_led n a [] near = omega arith
taken_led n a (Accepting i ∷ ms) near = taken_led n (after (Accepting i) a) ms near
taken_led n a (Calling c t ∷ ms) near =
    let one : Takes n a.outside.taken (appended_by c) (called a.core c a.outside).taken = takes n a.core c a.outside near in
    let rest = taken_led n (after (Calling c t) a) ms (omega (arith, near, one.wide)) in
    let both : count_in n (appended_by c ++ flat_map appended_by (calls_in ms)) ≡ count_in n (appended_by c) + count_in n (flat_map appended_by (calls_in ms)) =
    ap (λ (xs : List Item). length xs) (filter-append (λ (i : Item). i.sender == n) (appended_by c) (flat_map appended_by (calls_in ms)))
    ∙ length-append (from_sender n (appended_by c)) (from_sender n (flat_map appended_by (calls_in ms))) in
    omega (arith, rest, one.more, both)
taken_led n a (Meeting k x answer log ∷ ms) near = taken_led n (after (Meeting k x answer log) a) ms near
taken_led n a (Drawing k ids reply ∷ ms) near = taken_led n (after (Drawing k ids reply) a) ms near
taken_led n a (Others p records ∷ ms) near = taken_led n (after (Others p records) a) ms near

pub lives_appended : (s : Core) (calls : List Call) (life : Life) (t : Core) → Lives s calls life t → life.appended ≡ flat_map appended_by calls
unfolding Lives
lives_appended s [] life t h = ap (λ (l : Life). l.appended) h.0
lives_appended s (c ∷ calls) life t h =
    ap (λ (l : Life). l.appended) h.4 ∙ ap (λ (xs : List Item). appended_by c ++ xs) (lives_appended h.0 calls h.1 t h.3)

pub none_yet : (senders n : ℕ) → slice_index (replicate senders 0) n ≡ 0
none_yet zero n = refl
none_yet (suc senders) zero = refl
none_yet (suc senders) (suc n) = none_yet senders n
