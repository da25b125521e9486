-- The laws of runs hold of any moves, since a world of a run matches.
use Rattle.std.proofs.Common.{◌≡◌, ℕ, ◌<◌, true, List, [], ◌∷◌, Some, None, refl, sym, ap, ◌∙◌, subst, Contains}
use Rattle.std.specs.Prelude.{Ok, Err}
use Rattle.kp_rules.specs.Attempts.{awaiting}
use Rattle.kp_rules.specs.Calls.{Call, packets_by}
use Rattle.kp_rules.specs.Calls as call
use Rattle.kp_rules.specs.Partitions.{partition_at}
use Rattle.kp_rules.specs.Records.{Core}
use Rattle.kp_rules.specs.Requesting.{Packet}
use Rattle.kp_rules.proofs.ListLemmas.{at_contained}
use Rattle.kp_rules.specs.declared.outcome.Report.{Report}
use Rattle.kp_rules.specs.Fetched.{with_fetched}
use Rattle.kp_rules.specs.Flush.{is_flushed}
use Rattle.kp_world.specs.Accounts.{AreAccountedFor, AreInOrder, ArePlaced, IsNeverSent, IsToldBy, IsToldOnce, IsUsedByUntold}
use Rattle.kp_world.specs.Events as event
use Rattle.kp_world.specs.Handed.{AreHandedOver, AreItems, FirstWasDelivered, GoesOutTheSame, GrowsAtEnd, IsAudited}
use Rattle.kp_world.proofs.EventLemmas.{run_append}
use Rattle.kp_world.proofs.FlushedLemmas.{told_by_flush}
use Rattle.kp_world.proofs.HandedLemmas as handed
use Rattle.kp_world.proofs.KeptLaws as kept
use Rattle.kp_headline.proofs.CallingLemmas.{flushed, flush_runs, flush_matches}
use Rattle.kp_world.specs.Events.{WorldEvent}
use Rattle.kp_world.specs.Facts.{Facts, facts}
use Rattle.kp_world.specs.FreshIds.{AreDrawn, BeginsAnew, GoesOnAlone}
use Rattle.kp_world.specs.LogLaws.{EachDeliveryHasItsOffset, EarlierIdsAreSilent, IsPrefix, ToldOffsetsStand}
use Rattle.kp_world.specs.Run.{IsReached}
use Rattle.kp_world.specs.World.{World, Opening}
use Rattle.kp_world.proofs.AccountLaws as account
use Rattle.kp_world.proofs.FreshIdLemmas as fresh
use Rattle.kp_world.proofs.LogLawLemmas as log
use Rattle.kp_world.proofs.StandingLemmas as standing
use Rattle.kp_headline.specs.Laws.{AfterAnyMoves, AreReported, AreToldByFlush, GrowsWith, NoDuplicateIsAwaited}
use Rattle.kp_headline.specs.Matching.{CanFollow, IsPartOf, Matches, IsMatched}
use Rattle.kp_headline.specs.Moves.{Move, Accepting, Calling, Meeting, Drawing, Others, with_packets, called, after, AreMoves, led}
use Rattle.kp_headline.specs.Outside.{Said, Outside, State, new_state, known}
use Rattle.kp_headline.proofs.MoveLemmas.{all_moved, matched}
use Rattle.kp_headline.proofs.ReportLemmas.{Reports, reported}

-- What holds of what is known in every world of a run holds of what is known once any moves were made.
pub of_moves : (P : Facts → Type 0) (o : Opening) → ((es : List WorldEvent) (w : World) → IsReached o es w → P (facts w)) → AfterAnyMoves o (λ b. P (known b))
of_moves P o law ms may are h =
    let x : IsMatched o (led (new_state o) ms) = matched o ms may are h in
    subst P x.matches.same (law x.events x.world x.reached)

-- ---- the logs

pub prefixes : (o : Opening) (p : ℕ) → p < o.partitions → AfterAnyMoves o (λ b. IsPrefix p (known b))
prefixes o p l = of_moves (IsPrefix p) o (λ es w r. log.log_is_prefix o es w r p l)

pub offsets_stand : (o : Opening) → AfterAnyMoves o (λ b. ToldOffsetsStand (known b))
offsets_stand o = of_moves ToldOffsetsStand o (standing.told_offsets_stand o)

pub with_offsets : (o : Opening) → AfterAnyMoves o (λ b. EachDeliveryHasItsOffset (known b))
with_offsets o = of_moves EachDeliveryHasItsOffset o (standing.each_delivery_has_its_offset o)

pub anew : (o : Opening) (p : ℕ) → p < o.partitions → AfterAnyMoves o (λ b. BeginsAnew p (known b))
anew o p l = of_moves (BeginsAnew p) o (λ es w r. fresh.begins_anew o es w r p l)

pub alone : (o : Opening) (p : ℕ) → p < o.partitions → AfterAnyMoves o (λ b. GoesOnAlone p (known b))
alone o p l = of_moves (GoesOnAlone p) o (λ es w r. fresh.goes_on_alone o es w r p l)

pub silent : (o : Opening) → AfterAnyMoves o (λ b. EarlierIdsAreSilent (known b))
silent o = of_moves EarlierIdsAreSilent o (log.earlier_ids_are_silent o)

pub items_stand : (o : Opening) (p : ℕ) → p < o.partitions → AfterAnyMoves o (λ b. AreItems p (known b))
items_stand o p l = of_moves (AreItems p) o (λ es w r. handed.are_items o es w r p l)

-- ---- what was handed over, and ids

pub handed_over : (o : Opening) → AfterAnyMoves o (λ b. AreHandedOver (known b))
handed_over o = of_moves AreHandedOver o (handed.are_handed_over o)

pub the_same : (o : Opening) → AfterAnyMoves o (λ b. GoesOutTheSame (known b))
the_same o = of_moves GoesOutTheSame o (handed.goes_out_the_same o)

pub audited : (o : Opening) (p : ℕ) → p < o.partitions → AfterAnyMoves o (λ b. IsAudited o.audits p (known b))
audited o p l = of_moves (IsAudited o.audits p) o (λ es w r. kept.is_audited o es w r p l)

pub delivered_first : (o : Opening) (p : ℕ) → p < o.partitions → AfterAnyMoves o (λ b. FirstWasDelivered p (known b))
delivered_first o p l = of_moves (FirstWasDelivered p) o (λ es w r. kept.first_was_delivered o es w r p l)

pub ids_drawn : (o : Opening) (p : ℕ) → p < o.partitions → AfterAnyMoves o (λ b. AreDrawn p (known b))
ids_drawn o p l = of_moves (AreDrawn p) o (λ es w r. kept.are_drawn o es w r p l)

-- ---- accounts

pub placed : (o : Opening) (s p : ℕ) → AfterAnyMoves o (λ b. ArePlaced s p (known b))
placed o s p = of_moves (ArePlaced s p) o (λ es w r. account.placed o es w s p r)

pub memory : (o : Opening) → AfterAnyMoves o (λ b. IsUsedByUntold (known b))
memory o = of_moves IsUsedByUntold o (account.memory o)

pub accounted : (o : Opening) (s p : ℕ) → p < o.partitions → AfterAnyMoves o (λ b. AreAccountedFor s p (known b))
accounted o s p l = of_moves (AreAccountedFor s p) o (λ es w r. account.accounted o es w s p r l)

pub ordered : (o : Opening) (s p : ℕ) → p < o.partitions → AfterAnyMoves o (λ b. AreInOrder s p (known b))
ordered o s p l = of_moves (AreInOrder s p) o (λ es w r. account.ordered o es w s p r l)

pub never_sent : (o : Opening) (p : ℕ) → p < o.partitions → AfterAnyMoves o (λ b. IsNeverSent p (known b))
never_sent o p l = of_moves (IsNeverSent p) o (λ es w r. account.never_sent o es w p r l)

pub told_once : (o : Opening) → AfterAnyMoves o (λ b. IsToldOnce (known b))
told_once o = of_moves IsToldOnce o (account.once o)

pub all_reported : (o : Opening) → AfterAnyMoves o (AreReported o.senders)
all_reported o = of_moves (Reports o.senders) o (reported o)

-- ---- then and later

pub grown : (o : Opening) (p : ℕ) → p < o.partitions → AfterAnyMoves o (GrowsWith p)
grown o p l ms may are h later more assumed =
    let x : IsMatched o (led (new_state o) ms) = matched o ms may are h in
    let y : CanFollow x.world (led (led (new_state o) ms) later) = all_moved (led (new_state o) ms) x.world later x.matches more assumed in
    let grows = handed.grows_at_end o x.events x.world y.events y.world x.reached y.run p l in
    subst (λ (f : Facts). GrowsAtEnd p f (known (led (led (new_state o) ms) later))) x.matches.same
    (subst (λ (f : Facts). GrowsAtEnd p (facts x.world) f) y.matches.same grows)

flush_read : (fetched : List (List Report)) (s : Core) → is_flushed (with_fetched fetched s) ≡ is_flushed s
unfolding is_flushed
flush_read fetched s = refl

pub flushed_all : (o : Opening) → AfterAnyMoves o AreToldByFlush
flushed_all o ms may are h t later more assumed complete =
    let b : State = led (new_state o) ms in
    let x : IsMatched o b = matched o ms may are h in
    let m : Matches (after (Calling call.Flush t) b) (flushed x.world) = flush_matches b x.world t x.matches more.0 in
    let y : CanFollow (flushed x.world) (led b (Calling call.Flush t ∷ later)) = all_moved (after (Calling call.Flush t) b) (flushed x.world) later m more.1
    (record { honest = assumed.honest.1; not_made_up = assumed.not_made_up.1; in_turn = assumed.in_turn.1; ids_once = assumed.ids_once.1 }) in
    let is : is_flushed y.world.core ≡ true = ap (λ (f : Facts). is_flushed f.core) y.matches.same ∙ flush_read (led b (Calling call.Flush t ∷ later)).outside.fetched (led b (Calling call.Flush t ∷ later)).core ∙ complete in
    let told = told_by_flush o x.events x.world y.events y.world x.reached (run_append (event.Flush ∷ []) y.events x.world (flushed x.world) y.world (flush_runs x.world) y.run) is in
    subst (λ (f : Facts). IsToldBy (known (led b (Calling call.Flush t ∷ later))) f) x.matches.same
    (subst (λ (f : Facts). IsToldBy f (facts x.world)) y.matches.same told)

-- ---- what was said

pub part_of_reply : (a : State) (w : World) (x : Said) → Matches a w → Contains a.outside.said x → IsPartOf a.outside.packets w.replies x
part_of_reply a w x m i = at_contained (IsPartOf a.outside.packets w.replies) a.outside.said x m.said i

pub no_duplicate : (o : Opening) → AfterAnyMoves o NoDuplicateIsAwaited
no_duplicate o ms may are h x packet i there is =
    let y : IsMatched o (led (new_state o) ms) = matched o ms may are h in
    let part = part_of_reply (led (new_state o) ms) y.world x y.matches i in
    let found : Some part.packet ≡ Some packet = sym part.went_out ∙ there in
    let same : part.packet ≡ packet = cc in
    let none = log.no_duplicate_is_awaited o y.events y.world y.reached part.packet.correlation (record { partition = x.part.partition; answer = x.answer })
    (record { reply = part.reply; given = part.given; correlation = part.correlation; parts = part.answers; content = part.content; part = part.answer }) is in
    subst (λ (p : Packet). awaiting p.correlation (partition_at x.part.partition (led (new_state o) ms).core.partitions) ≡ None) same
    (subst (λ (f : Facts). awaiting part.packet.correlation (partition_at x.part.partition f.core.partitions) ≡ None) y.matches.same none)

-- ---- a gate that is shut

same_gate : (xs : List Packet) (o : Outside) → ((with_packets xs o).is_shut ≡ o.is_shut) × ((with_packets xs o).accepted ≡ o.accepted)
same_gate [] o = (refl, refl)
same_gate (x ∷ xs) o = same_gate xs _

-- a call accepts nothing, and does not open it
still_shut : (s : Core) (c : Call) (o : Outside) → o.is_shut ≡ true → ((called s c o).is_shut ≡ true) × ((called s c o).accepted ≡ o.accepted)
still_shut s (call.Append i (Ok done)) o is = (is, refl)
still_shut s (call.Append i (Err refusal)) o is = (is, refl)
still_shut s (call.Request node now (Ok answer)) o is = let g = same_gate (packets_by s (call.Request node now (Ok answer))) o in (g.0 ∙ is, g.1)
still_shut s (call.Request node now (Err refusal)) o is = (is, refl)
still_shut s (call.Reply now content answer) o is = (is, refl)
still_shut s (call.Tick node now answer) o is = (is, refl)
still_shut s (call.Disconnect node now) o is = (is, refl)
still_shut s (call.Lead p leader now) o is = (is, refl)
still_shut s call.Close o is = (refl, refl)
still_shut s call.Flush o is = (is, refl)
still_shut s (call.End reports) o is = (is, refl)
still_shut s (call.Fetch sender (Some report)) o is = (is, refl)
still_shut s (call.Fetch sender None) o is = (is, refl)

none_accepted : (a : State) (ms : List Move) → a.outside.is_shut ≡ true → AreMoves a ms → (led a ms).outside.accepted ≡ a.outside.accepted
none_accepted a [] is are = refl
none_accepted a (Accepting i ∷ ms) is are = let opened : a.outside.is_shut ≡ _ = are.0.going in absurd cc
none_accepted a (Calling c t ∷ ms) is are = let s = still_shut a.core c a.outside is in none_accepted (after (Calling c t) a) ms s.0 are.1 ∙ s.1
none_accepted a (Meeting k x answer log' ∷ ms) is are = none_accepted (after (Meeting k x answer log') a) ms is are.1
none_accepted a (Drawing k ids reply ∷ ms) is are = none_accepted (after (Drawing k ids reply) a) ms is are.1
none_accepted a (Others p records ∷ ms) is are = none_accepted (after (Others p records) a) ms is are.1

pub closed : (a : State) (t : Core) (ms : List Move) → AreMoves a (Calling call.Close t ∷ ms) → (led a (Calling call.Close t ∷ ms)).outside.accepted ≡ a.outside.accepted
closed a t ms are = none_accepted (after (Calling call.Close t) a) ms refl are.1
