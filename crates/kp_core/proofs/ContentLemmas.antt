-- The bytes of a reply are heard, case by case.
use Rattle.std.proofs.Common.{◌≡◌, ◌∙◌, ℕ, Bool, true, false, List, Some, None, Ok, Err, refl, sym, ap, subst, rules}
use Rattle.std.specs.Prelude.{ℤ, IsSome, Option, Result, if◌then◌else◌}
use Rattle.kp_wire.specs.declared.fault.WireFault.{WireFault}
use Rattle.kp_wire.specs.Fields.{int32}
use Rattle.kp_frames.specs.declared.fault.FrameFault.{FrameFault}
use Rattle.kp_frames.specs.declared.fault.FrameFault.TheVariants as frame
use Rattle.kp_frames.specs.declared.response.Response.{Response}
use Rattle.kp_frames.specs.Fault.{Refuses}
use Rattle.kp_frames.specs.Response.{response_at}
use Rattle.kp_rules.specs.declared.fault.CoreFault.{CoreFault}
use Rattle.kp_rules.specs.declared.fault.CoreFault.TheVariants.{CorrelationSpent, Ended, OutOfMemory, ReplyFault}
use Rattle.kp_rules.specs.declared.ticked.Replied.{Replied}
use Rattle.kp_rules.specs.Calls.{Gives, Reply, Step}
use Rattle.kp_rules.specs.Records.{Core, Request}
use Rattle.kp_rules.specs.Replies.{Replies, ReplyNeedsMemory, api_of, awaited, refuse_as, reply_step, unknown}
use Rattle.kp_rules.proofs.CallLemmas.{hearing, naming, reading}
use Rattle.kp_core.specs.Hearing.{Hears, refused_by}
use Rattle.kp_core.proofs.ReplyLemmas.{gives}

-- ---- the call's steps

pub refused_ended : (now : ℕ) (content : List ℕ) (s : Core) → s.ended ≡ true → reply_step now content s ≡ refuse_as Ended s
unfolding reply_step
refused_ended now content s e = ap (λ (b : Bool). if b then refuse_as Ended s else hearing now content s (int32.read content)) e

going : (now : ℕ) (content : List ℕ) (s : Core) → s.ended ≡ false → reply_step now content s ≡ hearing now content s (int32.read content)
unfolding reply_step
going now content s e = ap (λ (b : Bool). if b then refuse_as Ended s else hearing now content s (int32.read content)) e

pub refused_short : (now : ℕ) (content : List ℕ) (s : Core) (fault : WireFault) → s.ended ≡ false → int32.read content ≡ Err fault
    → reply_step now content s ≡ refuse_as (ReplyFault frame.Short) s
refused_short now content s fault e short = going now content s e ∙ ap (hearing now content s) short

-- The reply's first four bytes name this request, or none.
pub record Names (content : List ℕ) (s : Core) (named : Option Request) : Type 0 where
  pub going : s.ended ≡ false
  pub correlation : ℤ
  pub behind : List ℕ
  pub reads : int32.read content ≡ Ok (correlation, behind)
  pub finds : awaited correlation s ≡ named

names : {content : List ℕ} {s : Core} {named : Option Request} (now : ℕ) → Names content s named → reply_step now content s ≡ naming now content s named
names {content} {s} now n = going now content s n.going ∙ ap (hearing now content s) n.reads ∙ ap (naming now content s) n.finds

pub names_none : {content : List ℕ} {s : Core} (now : ℕ) → Names content s None → reply_step now content s ≡ unknown s
names_none now n = names now n

reads_so : {content : List ℕ} {s : Core} {r : Request} (now : ℕ) (o : Result Response FrameFault) → Names content s (Some r)
    → response_at (api_of r.demand) content ≡ o → reply_step now content s ≡ reading now s o
reads_so {s = s} now o n is = names now n ∙ ap (reading now s) is

needs_memory : {content : List ℕ} {s : Core} {r : Request} → Names content s (Some r) → ReplyNeedsMemory content s
needs_memory n = record {
  going = n.going;
  correlation = n.correlation;
  behind = n.behind;
  named = n.reads;
  in_flight = subst IsSome (sym n.finds) (search rules);
}

-- ---- the call

-- it can't be read
pub refuses : {content : List ℕ} {s : Core} {r : Request} (now : ℕ) (begun : Type 0) (fault : FrameFault) → Names content s (Some r)
    → Refuses begun fault (response_at (api_of r.demand) content) → Step s (Reply now content (Err (refused_by fault))) s
refuses now begun frame.OutOfMemory n is = (needs_memory n, refl)
refuses now begun frame.Short n is = gives (reads_so now (Err frame.Short) n is)
refuses now begun frame.Trailing n is = gives (reads_so now (Err frame.Trailing) n is)
refuses now begun frame.UnknownApi n is = gives (reads_so now (Err frame.UnknownApi) n is)
refuses now begun frame.UnknownVersion n is = gives (reads_so now (Err frame.UnknownVersion) n is)
refuses now begun (frame.Wire fault) n is = gives (reads_so now (Err (frame.Wire fault)) n is)
refuses now begun frame.TooLarge n is = gives (reads_so now (Err frame.TooLarge) n is)
refuses now begun frame.Mismatch n is = gives (reads_so now (Err frame.Mismatch) n is)

-- it is heard as the response that it is read as
pub hears : {content : List ℕ} {s : Core} {r : Request} (now : ℕ) (x : Response) (t : Core) (result : Result Replied CoreFault) → Names content s (Some r)
    → response_at (api_of r.demand) content ≡ Ok x → Hears now x s result t → Step s (Reply now content result) t
hears {content} {s} now x t (Ok replied) n is h = subst (λ (y : Replies). Gives y (Ok replied) t) (sym (reads_so now (Ok x) n is)) h
hears {content} {s} now x t (Err OutOfMemory) n is h = (needs_memory n, h)
hears {content} {s} now x t (Err CorrelationSpent) n is h = subst (λ (y : Replies). Gives y (Err CorrelationSpent) t) (sym (reads_so now (Ok x) n is)) h
hears {content} {s} now x t (Err (ReplyFault f)) n is h = subst (λ (y : Replies). Gives y (Err (ReplyFault f)) t) (sym (reads_so now (Ok x) n is)) h
hears {content} {s} now x t (Err Ended) n is h = subst (λ (y : Replies). Gives y (Err Ended) t) (sym (reads_so now (Ok x) n is)) h
