-- A node that leads nothing that has something to do: no request goes out to it.
use Rattle.std.proofs.Common.{◌≡◌, ◌∙◌, ℕ, ◌≤◌, Bool, true, false, List, [], ◌++◌, length, take, drop, min, None, refl, sym, ap, arith}
use Rattle.std.specs.Prelude.{Option, filter_map, find, if◌then◌else◌}
use Rattle.kp_accum.specs.declared.config.Config.{Config}
use Rattle.kp_accum.specs.declared.flags.Flags.{Flags}
use Rattle.kp_rules.specs.Attempts.{has_window}
use Rattle.kp_rules.specs.MaySend.{wants_id}
use Rattle.kp_rules.specs.Next.{Sending, flags_of, next_asking, next_batches, next_demand, used_up_to}
use Rattle.kp_rules.specs.Partitions.{partition_at}
use Rattle.kp_rules.specs.Records.{Core, Partition}
use Rattle.kp_core.specs.ByLeader.{work_in}
use Rattle.kp_core.specs.Choosing.{numbered_from, sends_in}
use Rattle.kp_core.proofs.ChoosingLemmas.{fitting-nil}
use Rattle.kp_core.proofs.RequestStepLemmas.{no_batches, no_window}
use Rattle.kp_core.proofs.TurnLemmas.{gathered, next_batches-is, none_first, none_second}
use Rattle.kp_core.proofs.WorkLemmas.{work_from, work_sent_from, work_split, work_wants}

asks_nothing : (node now : ℕ) (s : Core) → work_in node s.partitions ≡ [] → next_asking node now s ≡ None
asks_nothing node now s none = by_test _ (sym (work_wants node s.config s.partitions) ∙ ap (find (λ p. wants_id s.config (partition_at p s.partitions))) none)
  where
    by_test : (b : Bool) {o : Option ℕ} → o ≡ None → (if b then o else None) ≡ None
    by_test true is = is
    by_test false is = refl

none_sent : (node : ℕ) (c : Config) (flags : Flags) (now m : ℕ) (ts : List Partition) → m ≤ length ts → work_in node ts ≡ []
    → filter_map (sends_in node c flags now) (numbered_from m ts) ≡ []
none_sent node c flags now m ts l none =
    let sent : List ℕ → List Sending = filter_map (λ p. sends_in node c flags now (p, partition_at p ts)) in
    let below = work_from node 0 (take m ts) ts in
    let behind = work_from node m (drop m ts) ts in
    let both : below ++ behind ≡ [] = sym (work_split node m ts l) ∙ none in
    sym (work_sent_from node c flags now m ts l)
    ∙ ap (λ (ps : List ℕ). sent ps ++ sent below) (none_second below behind both)
    ∙ ap sent (none_first below behind both)

sends_nothing : (node now : ℕ) (s : Core) → work_in node s.partitions ≡ [] → next_batches node now s ≡ []
sends_nothing node now s none =
    let first = min (used_up_to node s.turns) (length s.partitions) in
    let nothing = none_sent node s.config (flags_of s) now first s.partitions (omega arith) none in
    sym (next_batches-is node now s [] (sym nothing ∙ gathered node now s first (flags_of s) refl refl))
    ∙ fitting-nil s.config.max_request_size

pub wants_nothing : (node now : ℕ) (s : Core) → work_in node s.partitions ≡ [] → next_demand node now s ≡ None
wants_nothing node now s none = by_window (has_window node s) refl
  where
    by_window : (b : Bool) → has_window node s ≡ b → next_demand node now s ≡ None
    by_window true is = no_batches node now s is (asks_nothing node now s none) (sends_nothing node now s none)
    by_window false is = no_window node now s is
