use Rattle.std.proofs.Common.{◌≡◌, ◌∙◌, ◌<◌, ◌≤◌, ◌++◌, ℕ, List, length, take, drop, OnOk, sym, ap, subst, arith}
use Rattle.std.specs.Prelude.{filter_map}
use Rattle.std.specs.List.{AllByRecursion}
use Rattle.std.proofs.lemmas.List.{append_assoc, length-drop, length-take-le}
use Rattle.std.proofs.lemmas.Result.{IfErr-weaker, MatchResult-from_err}
use Rattle.kp_accum.specs.declared.config.Config.{Config}
use Rattle.kp_accum.specs.declared.flags.Flags.{Flags}
use Rattle.kp_rules.specs.Next.{Sending}
use Rattle.kp_rules.specs.Partitions.{leads, partition_at}
use Rattle.kp_rules.specs.Records.{Partition}
use Rattle.kp_rules.proofs.ListLemmas.{all_filter}
use Rattle.kp_core.specs.Busy.{busy_from}
use Rattle.kp_core.specs.Choosing.{numbered_from, sends_in}
use Rattle.kp_core.proofs.BusyLemmas.{busy_under}
use Rattle.kp_core.proofs.TurnLemmas.{none_first, none_second}
use Rattle.kp_core.proofs.WorkLemmas.{work_from, work_sent_from}
use Rattle.kp_core.proofs.machine.partitions.Partitions.gather_from.Goals as goal

abbrev sent : ℕ → Config → Flags → ℕ → List Partition → List ℕ → List Sending
sent node c flags now ts ps = filter_map (λ p. sends_in node c flags now (p, partition_at p ts)) ps

-- what the two parts send is what all send
both : (node : ℕ) (c : Config) (flags : Flags) (now m : ℕ) (ts : List Partition) (below behind : List ℕ) → m ≤ length ts
    → below ≡ work_from node 0 (take m ts) ts → behind ≡ work_from node m (drop m ts) ts
    → sent node c flags now ts behind ++ sent node c flags now ts below ≡ filter_map (sends_in node c flags now) (numbered_from m ts)
both node c flags now m ts below behind l low high =
    ap (λ (ps : List ℕ). sent node c flags now ts ps ++ sent node c flags now ts below) high
    ∙ ap (λ (ps : List ℕ). sent node c flags now ts (work_from node m (drop m ts) ts) ++ sent node c flags now ts ps) low
    ∙ work_sent_from node c flags now m ts l

pub gather-requires : goal.gather-requires
gather-requires c =
    let ts = c.args.self.now in
    subst (AllByRecursion (λ p. p < length ts)) (sym c.split.ensures.behind)
    (all_filter (λ p. p < length ts) (λ p. leads c.args.node (partition_at p ts)) (busy_from c.args.first (drop c.args.first ts))
    (busy_under c.args.first (length ts) (drop c.args.first ts) (omega (arith, c.requires, length-drop c.args.first ts))))

pub gather-requires-2 : goal.gather-requires-2
gather-requires-2 c =
    let ts = c.args.self.now in
    subst (AllByRecursion (λ p. p < length ts)) (sym c.split.ensures.below)
    (all_filter (λ p. p < length ts) (λ p. leads c.args.node (partition_at p ts)) (busy_from 0 (take c.args.first ts))
    (busy_under 0 (length ts) (take c.args.first ts) (omega (arith, c.requires, length-take-le c.args.first ts c.requires))))

pub returns-in_err-gather-clause-some : goal.returns-in_err-gather-clause-some
returns-in_err-gather-clause-some c =
    let ts = c.args.self.now in
    let whole = both c.args.node c.args.config.now c.args.flags c.args.now c.args.first ts c.split.result.0.now c.split.result.1.now c.requires c.split.ensures.below c.split.ensures.behind in
    MatchResult-from_err c.from_residual.result _ _ c.from_residual.ensures.0
    (λ e none. c.in_err-gather.ensures.some (none_first _ _ (whole ∙ none)))

pub returns-clause-ok : goal.returns-clause-ok
returns-clause-ok c =
    let ts = c.args.self.now in
    let s = sent c.args.node c.args.config.now c.args.flags c.args.now ts in
    let old = c.args.sendings.now.items in
    let below = c.split.result.0.now in
    let behind = c.split.result.1.now in
    let whole = both c.args.node c.args.config.now c.args.flags c.args.now c.args.first ts below behind c.requires c.split.ensures.below c.split.ensures.behind in
    subst (λ (xs : List Sending). OnOk c.gather-2.result (c.gather-2.new.sendings.items ≡ xs))
    (ap (λ (xs : List Sending). xs ++ s below) c.in_ok-gather.ensures.ok ∙ append_assoc old (s behind) (s below) ∙ ap (λ (xs : List Sending). old ++ xs) whole)
    c.gather-2.ensures.ok

pub returns-clause-some : goal.returns-clause-some
returns-clause-some c =
    let ts = c.args.self.now in
    let whole = both c.args.node c.args.config.now c.args.flags c.args.now c.args.first ts c.split.result.0.now c.split.result.1.now c.requires c.split.ensures.below c.split.ensures.behind in
    IfErr-weaker c.gather-2.result _ _ (λ e some none. some (none_second _ _ (whole ∙ none))) c.gather-2.ensures.some
