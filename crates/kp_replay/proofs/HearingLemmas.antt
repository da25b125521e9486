-- A reply's bytes are heard as its message.
use Rattle.std.proofs.Common.{◌≡◌, ◌≢◌, ℕ, zero, suc, ◌<◌, Bool, true, List, [], ◌∷◌, drop, get_or, Some, Ok, Err, OnOk, refl, sym, ap, subst, ◌∙◌, arith}
use Rattle.std.specs.Prelude.{Result, slice_get, length}
use Rattle.std.proofs.lemmas.Bool.{ltb-true}
use Rattle.kp_accum.specs.declared.config.Config.{Config}
use Rattle.kp_frames.specs.Response as response
use Rattle.kp_frames.specs.Stream.{frame}
use Rattle.kp_rules.specs.Calls.{Reply, Gives, Step}
use Rattle.kp_rules.specs.Flush.{is_flushed}
use Rattle.kp_rules.specs.Records.{Core}
use Rattle.kp_rules.specs.Replies.{Replies, reply_step, response_step}
use Rattle.kp_rules.specs.declared.fault.CoreFault.{CoreFault}
use Rattle.kp_rules.specs.declared.fault.CoreFault.TheVariants as fault
use Rattle.kp_rules.specs.declared.ticked.Replied.{Replied}
use Rattle.kp_rules.proofs.FetchedLemmas.{reply_behind}
use Rattle.kp_rules.proofs.HearingLemmas.{heard_as_response}
use Rattle.kp_world.specs.Client.{client, reply_line, replying}
use Rattle.kp_world.specs.Line.{Line}
use Rattle.kp_world.specs.Noting.{noted}
use Rattle.kp_world.specs.Replay.{stepped}
use Rattle.kp_world.specs.World.{World}
use Rattle.kp_world.specs.World as world
use Rattle.kp_world.specs.declared.event.Event.TheVariants as event
use Rattle.kp_world.proofs.ListLemmas.{in_at}
use Rattle.kp_replay.specs.Bounds.{IsInBounds}
use Rattle.kp_replay.specs.Shown.{Each, IsReplied, LeadsOn, Seen, Shows, is_there, with_noted}
use Rattle.kp_replay.proofs.KindLemmas.{read-as}
use Rattle.kp_replay.proofs.ReachedLemmas.{replayed-kinds}
use Rattle.kp_replay.proofs.ShownLemmas.{lead-on, same-answer, shows-noted, within}
use Rattle.kp_replay.proofs.TellingLemmas.{tells-reply}

pub content-is : (content : List ℕ) → drop 4 (frame.spell content) ≡ content
unfolding frame
content-is content = refl

-- where memory is there, the call gives its step
pub gives : (now : ℕ) (content : List ℕ) (answer : Result Replied CoreFault) (s t : Core) → answer ≢ Err fault.OutOfMemory → Step s (Reply now content answer) t → Gives (reply_step now content s) answer t
gives now content (Ok x) s t memory step = step
gives now content (Err fault.OutOfMemory) s t memory step = absurd (memory refl)
gives now content (Err fault.CorrelationSpent) s t memory step = step
gives now content (Err (fault.ReplyFault x)) s t memory step = step
gives now content (Err fault.Ended) s t memory step = step

-- one of these there is, and one of those is for it
pub record IsAt {A B : Type 0} (R : A → B → Type 0) (xs : List A) (ys : List B) (j : ℕ) (y : B) : Type 0 where
  pub x : A
  pub there : slice_get xs j ≡ Some x
  pub for_it : R x y

pub found-at : {A B : Type 0} (R : A → B → Type 0) (xs : List A) (ys : List B) (j : ℕ) (y d : B) → j < length ys → y ≡ get_or ys j d → Each R xs ys → IsAt R xs ys j y
found-at R [] [] j y d inside is all = absurd (omega arith)
found-at R (x ∷ xs) (y' ∷ ys) zero y d inside is all = record { x = x; there = refl; for_it = subst (R x) (sym is) all.0 }
found-at R (x ∷ xs) (y' ∷ ys) (suc j) y d inside is all =
    let rest = found-at R xs ys j y d (omega (arith, inside)) is all.1 in
    record { x = rest.x; there = rest.there; for_it = rest.for_it }
found-at R [] (y' ∷ ys) j y d inside is all = absurd all
found-at R (x ∷ xs) [] j y d inside is all = absurd all

module _ (j : ℕ) (a : Seen) (bytes : List ℕ) (there : is_there (event.Reply j) a ≡ true) (at : bytes ≡ get_or a.replies j bytes) where
  answered : (c : Config) (w : World) → Shows c w a → IsAt IsReplied w.replies a.replies j bytes
  answered c w sh = found-at IsReplied w.replies a.replies j bytes bytes (ltb-true j (length a.replies) there) at sh.replies

  pub reply-leads : (b : Seen) (content : List ℕ) (answer : Result Replied CoreFault) (t : Core) (ls : List Line) → content ≡ drop 4 bytes → answer ≢ Err fault.OutOfMemory → Step a.core (Reply a.moment content answer) t
      → ls ≡ reply_line j answer → b ≡ with_noted ls (is_flushed a.core) (record a { core = t }) → LeadsOn (event.Reply j) a b
  unfolding stepped client
  reply-leads b content answer t ls content-of memory step line is = λ c w replayed sh.
      let x = answered c w sh in
      let r : world.Reply = x.x in
      let spelled : content ≡ response.spelling r.response = content-of ∙ ap (drop 4) x.for_it.bytes ∙ content-is (response.spelling r.response) in
      let y : Replies = response_step w.moment r.response w.core in
      let heard : reply_step w.moment content w.core ≡ y =
      heard_as_response (response.api_of r.response.body) w.moment content w.core r.response (record { is_of = refl; fits = x.for_it.fits; is_spelling = spelled })
      (read-as w r (replayed-kinds c w replayed) (in_at w.replies j r x.there)) in
      let call : Core → Replies = reply_step w.moment content in
      let step-given : Gives (reply_step w.moment content a.core) answer t = subst (λ m. Gives (reply_step m content a.core) answer t) sh.moment (gives a.moment content answer a.core t memory step) in
      let same : answer ≡ y.answer =
      sym step-given.0 ∙ ap (λ s. (call s).answer) sh.core ∙ sym (same-answer call (λ r s. reply_behind r w.moment content s) (tells-reply w.moment content) w.core) ∙ ap (λ (z : Replies). z.answer) heard in
      let v : World = noted y.after (reply_line j y.answer) y.told w in
      let lines : ls ≡ reply_line j y.answer = line ∙ ap (reply_line j) same in
      let before : Shows c (noted (call w.core).after (reply_line j y.answer) (call w.core).told w) (with_noted (reply_line j y.answer) (is_flushed a.core) (record a { core = (call a.core).after })) =
      shows-noted call (λ r s. reply_behind r w.moment content s) (tells-reply w.moment content) c w a sh (reply_line j y.answer) in
      let end : b ≡ with_noted (reply_line j y.answer) (is_flushed a.core) (record a { core = (call a.core).after }) = is ∙ (λ i. with_noted (lines i) (is_flushed a.core) (record a { core = step-given.1 i })) in (
        v,
        ap (λ o. replying j o w) x.there,
        subst (Shows c v) (sym end) (subst (λ (z : Replies). Shows c (noted z.after (reply_line j y.answer) z.told w) (with_noted (reply_line j y.answer) (is_flushed a.core) (record a { core = (call a.core).after }))) heard before),
      )

pub reply-returns : {T E : Type 0} (r : Result T E) (j : ℕ) (a v b : Seen) (is : v ≡ a) (bytes : List ℕ) → is_there (event.Reply j) a ≡ true → bytes ≡ get_or v.replies j bytes → (was : Bool) → was ≡ is_flushed v.core
    → (content : List ℕ) (answer : Result Replied CoreFault) (t : Core) (ls : List Line) → content ≡ drop 4 bytes → answer ≢ Err fault.OutOfMemory → Step v.core (Reply v.moment content answer) t → ls ≡ reply_line j answer
    → OnOk r (b ≡ with_noted ls was (record v { core = t })) → OnOk r (LeadsOn (event.Reply j) a b)
reply-returns r j a v b is bytes there at was flushed content answer t ls content-of memory step line = lead-on ls was (event.Reply j) a (record v { core = t }) b r (λ same.
    subst (λ a. LeadsOn (event.Reply j) a b) is (reply-leads j v bytes (ap (λ x. is_there (event.Reply j) x) is ∙ there) at b content answer t ls content-of memory step line (same ∙ (λ i. with_noted ls (flushed i) (record v { core = t })))))

-- whatever is answered, the bounds stay
pub reply-within : {accepted taken logs moment : ℕ} (now : ℕ) (content : List ℕ) (answer : Result Replied CoreFault) (s t : Core) → Step s (Reply now content answer) t → IsInBounds s accepted taken logs moment → IsInBounds t accepted taken logs moment
reply-within now content (Ok x) s t step bounds = within s (reply_step now content s) (tells-reply now content s) t step.1 bounds
reply-within {accepted = accepted} {taken = taken} {logs = logs} {moment = moment} now content (Err fault.OutOfMemory) s t step bounds = subst (λ (x : Core). IsInBounds x accepted taken logs moment) (sym step.1) bounds
reply-within now content (Err fault.CorrelationSpent) s t step bounds = within s (reply_step now content s) (tells-reply now content s) t step.1 bounds
reply-within now content (Err (fault.ReplyFault x)) s t step bounds = within s (reply_step now content s) (tells-reply now content s) t step.1 bounds
reply-within now content (Err fault.Ended) s t step bounds = within s (reply_step now content s) (tells-reply now content s) t step.1 bounds
