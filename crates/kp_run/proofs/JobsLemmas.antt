-- The senders' jobs, each at its place.
use Rattle.std.proofs.Common.{◌≡◌, ℕ, zero, suc, ◌<◌, ◌%◌, List, ◌++◌, ◌∷◌, [], map, length, ap, sym, subst, ◌∙◌, refl, arith}
use Rattle.std.specs.Prelude.{All, slice_index_or, IfOk, Result, Ok, Err}
use Rattle.std.proofs.Math.ListN.{get_or-map}
use Rattle.std.proofs.lemmas.List.{length-map}
use Rattle.kp_accum.specs.declared.item.Item.{Item}
use Rattle.kp_lanes.proofs.EachLemmas.{at_below, length_below}
use Rattle.kp_lanes.specs.Entries.{items_of}
use Rattle.kp_lanes.specs.Intake.{numbers_below}
use Rattle.kp_lanes.specs.Lane.{LaneId}
use Rattle.kp_lanes.specs.Sender.{sender_id, sender_number, IsFresh, IsSenderOf}
use Rattle.kp_lanes.specs.declared.limits.Limits.{Limits}
use Rattle.kp_client.specs.Producer.{lane_of}
use Rattle.kp_client.specs.declared.producer.Producer.{Producer}
use Rattle.kp_rules.specs.declared.outcome.Report.{Report}
use Rattle.kp_dealing.specs.Dealing.{Deal}
use Rattle.kp_run.specs.Jobs.{accepted_by, limits_in, number_of, producer_of, turn_of, HasRun, HasTried, IsIdle, IsJobOf, Keeps, SameJob, SameJobs}
use Rattle.kp_run.specs.Portions.{whole, Comes, Gathered, Portion}
use Rattle.kp_run.specs.Sending.{AreSent, HaveLines}
use Rattle.kp_run.specs.declared.sender_thread.Job.{Job}
use Rattle.kp_run.proofs.JobLemmas.{moved}

-- ---- new jobs

one_more : (jobs : List Job) (job : Job) (rest : List Producer) → map producer_of (jobs ++ job ∷ []) ++ rest ≡ map producer_of jobs ++ (producer_of job ∷ rest)
one_more [] job rest = refl
one_more (x ∷ jobs) job rest = ap (λ (ps : List Producer). producer_of x ∷ ps) (one_more jobs job rest)

pub handed_on : (jobs more : List Job) (job : Job) (p : Producer) (before rest all : List Producer)
    → map producer_of jobs ++ before ≡ all → more ≡ jobs ++ job ∷ [] → before ≡ p ∷ rest → job.producer ≡ p → map producer_of more ++ rest ≡ all
handed_on jobs more job p before rest all done longer is its =
    ap (λ (js : List Job). map producer_of js ++ rest) longer
    ∙ one_more jobs job rest ∙ ap (λ (q : Producer). map producer_of jobs ++ (q ∷ rest)) its
    ∙ ap (λ (ps : List Producer). map producer_of jobs ++ ps) (sym is) ∙ done

behind : {A : Type 0} (P : A → Type 0) (xs : List A) (x : A) → All P xs → P x → All P (xs ++ x ∷ [])
behind P [] x h p zero d near = p
behind P [] x h p (suc k) d near = absurd (omega (arith, near))
behind P (y ∷ ys) x h p zero d near = h zero d (omega arith)
behind P (y ∷ ys) x h p (suc k) d near = behind P ys x (λ i e low. h (suc i) e (omega (arith, low))) p k d (omega (arith, near))

pub all_more : {A : Type 0} (P : A → Type 0) (xs more : List A) (x : A) → more ≡ xs ++ x ∷ [] → All P xs → P x → All P more
all_more P xs more x is h p = subst (λ ys. All P ys) (sym is) (behind P xs x h p)

fresh_tried : (deal : Deal) (capacity : ℕ) (limits : Limits) (job : Job) → IsFresh capacity limits (lane_of job.producer) → IsIdle job → HasTried deal 0 job
fresh_tried deal capacity limits job fresh idle =
    let n = number_of job in
    let nothing : accepted_by job ≡ [] = ap items_of fresh.nothing_sent in record {
      sent = moved deal 0 limits (limits_in job) n n (n % limits.partitions) (turn_of job) [] (accepted_by job) fresh.limits_are refl fresh.turn_is nothing AreSent.none;
      keeps = record {
        counted = idle.accepted ∙ sym (ap length nothing);
        heard = λ whole. idle.heard ∙ sym fresh.nothing_got;
      };
    }

-- what holds of each producer holds of its job's
of_jobs : (P : Producer → Type 0) (jobs : List Job) (ps : List Producer) → map producer_of jobs ≡ ps → All P ps → All (λ job. P job.producer) jobs
of_jobs P jobs ps are h k d near =
    let all : All P (map producer_of jobs) = subst (λ (qs : List Producer). All P qs) (sym are) h in
    subst P (get_or-map producer_of jobs k d) (all k d.producer (omega (arith, near, length-map jobs producer_of)))

pub all_tried : (deal : Deal) (capacity : ℕ) (limits : Limits) (jobs : List Job) (ps : List Producer) → map producer_of jobs ≡ ps
    → All (λ p. IsFresh capacity limits (lane_of p)) ps → All IsIdle jobs → All (HasTried deal 0) jobs
all_tried deal capacity limits jobs ps are fresh idle k d near =
    fresh_tried deal capacity limits (slice_index_or jobs k d) (of_jobs (λ p. IsFresh capacity limits (lane_of p)) jobs ps are fresh k d near) (idle k d near)

-- ---- the same jobs later

-- what stays with a sender and its lane
still : (P : Job → Type 0) (old new : List Job) → ((a b : Job) → SameJob a b → P a → P b) → SameJobs old new → All P old → All P new
still P old new step same all k d near =
    let low : k < length old = omega (arith, near, same.many) in
    step (slice_index_or old k d) (slice_index_or new k d) (same.each k d low) (all k d low)

job_still : (lanes : List LaneId) (a b : Job) → SameJob a b → IsJobOf lanes a → IsJobOf lanes b
job_still lanes a b same h = (
  subst (λ (n : ℕ). n < length lanes) (sym same.number) h.0,
  subst (λ (n : ℕ). slice_index_or lanes n (sender_id (lane_of b.producer)) ≡ sender_id (lane_of b.producer)) (sym same.number)
      (subst (λ (x : LaneId). slice_index_or lanes (number_of a) x ≡ x) (sym same.id) h.1),
)

-- The jobs are of these lanes: those of their producers.
pub jobs_of_lanes : (lanes its : List LaneId) (ps : List Producer) (old new : List Job) → map producer_of old ≡ ps
    → All (λ p. IsSenderOf lanes (lane_of p)) ps → its ≡ lanes → SameJobs old new → All (IsJobOf its) new
jobs_of_lanes lanes its ps old new are of is same =
    subst (λ (ls : List LaneId). All (IsJobOf ls) new) (sym is)
    (still (IsJobOf lanes) old new (job_still lanes) same (of_jobs (λ p. IsSenderOf lanes (lane_of p)) old ps are of))

numbers_still : (old new : List Job) → SameJobs old new → map number_of new ≡ map number_of old
numbers_still [] [] same = refl
numbers_still [] (y ∷ new) same = absurd (omega (arith, same.many))
numbers_still (x ∷ old) [] same = absurd (omega (arith, same.many))
numbers_still (x ∷ old) (y ∷ new) same =
    let rest : SameJobs old new = record {
      many = omega (arith, same.many);
      each = λ k d near. same.each (suc k) d (omega (arith, near));
    } in
    ap (λ (n : ℕ). n ∷ map number_of new) (same.each zero x (omega arith)).number ∙ ap (λ (ns : List ℕ). number_of x ∷ ns) (numbers_still old new rest)

numbers_through : (jobs : List Job) → map number_of jobs ≡ map (λ p. sender_number (lane_of p)) (map producer_of jobs)
numbers_through [] = refl
numbers_through (x ∷ jobs) = ap (λ (ns : List ℕ). number_of x ∷ ns) (numbers_through jobs)

-- They are numbered as their producers are.
pub jobs_numbered : (n : ℕ) (ps : List Producer) (old new : List Job) → map producer_of old ≡ ps
    → map (λ p. sender_number (lane_of p)) ps ≡ numbers_below n → SameJobs old new → map number_of new ≡ numbers_below n
jobs_numbered n ps old new are numbers same =
    numbers_still old new same ∙ numbers_through old ∙ ap (λ (qs : List Producer). map (λ p. sender_number (lane_of p)) qs) are ∙ numbers

pub jobs_limited : (capacity : ℕ) (limits : Limits) (ps : List Producer) (old new : List Job) → map producer_of old ≡ ps
    → All (λ p. IsFresh capacity limits (lane_of p)) ps → SameJobs old new → All (λ job. limits_in job ≡ limits) new
jobs_limited capacity limits ps old new are fresh same =
    still (λ job. limits_in job ≡ limits) old new (λ a b s h. s.limits ∙ h) same
    (λ k d near. (of_jobs (λ p. IsFresh capacity limits (lane_of p)) old ps are fresh k d near).limits_are)

pub all_keep : (deal : Deal) (jobs : List Job) → All (HasRun deal) jobs → All Keeps jobs
all_keep deal jobs ran k d near = (ran k d near).keeps

-- ---- what came of them

behind_first : {A : Type 0} → List A → List A
behind_first [] = []
behind_first (x ∷ xs) = xs

lines_at : (P : ℕ → List Item → Type 0) (jobs : List Job) (portions : List Portion) → map whole portions ≡ map accepted_by jobs
    → All (λ job. P (number_of job) (accepted_by job)) jobs → (i : ℕ) (d : Portion) → i < length portions
    → P (slice_index_or (map number_of jobs) i 0) (whole (slice_index_or portions i d))
unfolding behind_first
lines_at P jobs [] are all i d near = absurd (omega (arith, near))
lines_at P [] (p ∷ portions) are all i d near = let e : length (map whole (p ∷ portions)) ≡ 0 = ap length are in absurd (omega (arith, e))
lines_at P (x ∷ jobs) (p ∷ portions) are all zero d near =
    let e : whole p ≡ accepted_by x = ap (λ (xs : List (List Item)). slice_index_or xs 0 []) are in
    subst (λ (items : List Item). P (number_of x) items) (sym e) (all zero x (omega arith))
lines_at P (x ∷ jobs) (p ∷ portions) are all (suc i) d near =
    lines_at P jobs portions (ap behind_first are) (λ k e low. all (suc k) e (omega (arith, low))) i d (omega (arith, near))

have_lines : (deal : Deal) (limits : Limits) (jobs : List Job) → All (λ job. limits_in job ≡ limits) jobs → All (HasRun deal) jobs
    → All (λ job. HaveLines deal limits (number_of job) (accepted_by job)) jobs
have_lines deal limits jobs limited ran k d near =
    let job = slice_index_or jobs k d in
    subst (λ (l : Limits). HaveLines deal l (number_of job) (accepted_by job)) (limited k d near) (ran k d near).lines

pub comes : (deal : Deal) (partitions most accepted : ℕ) (jobs : List Job) (reports : List Report) → map number_of jobs ≡ numbers_below deal.senders
    → All (λ job. limits_in job ≡ record { partitions = partitions; max_record = most }) jobs → All (HasRun deal) jobs
    → Gathered jobs accepted reports → Comes deal most accepted reports
comes deal partitions most accepted jobs reports numbers limited ran g =
    let limits : Limits = record { partitions = partitions; max_record = most } in
    let many : length g.portions ≡ deal.senders =
    sym (length-map g.portions whole) ∙ ap length g.are ∙ length-map jobs accepted_by ∙ sym (length-map jobs number_of) ∙ ap length numbers ∙ length_below deal.senders in
    let at : (i : ℕ) (d : Portion) → i < length g.portions → HaveLines deal limits (slice_index_or (map number_of jobs) i 0) (whole (slice_index_or g.portions i d)) =
    lines_at (HaveLines deal limits) jobs g.portions g.are (have_lines deal limits jobs limited ran) in record {
      partitions = partitions;
      portions = g.portions;
      senders = many;
      lines = λ i d near. let e : slice_index_or (map number_of jobs) i 0 ≡ i =
          ap (λ (ns : List ℕ). slice_index_or ns i 0) numbers ∙ at_below deal.senders i 0 (omega (arith, near, many)) in
          subst (λ (k : ℕ). HaveLines deal limits k (whole (slice_index_or g.portions i d))) e (at i d near);
      add_up = g.add_up;
    }

pub if_ok : {A E : Type 0} {P Q : A → Type 0} (r : Result A E) → ((x : A) → P x → Q x) → IfOk r P → IfOk r Q
if_ok (Ok x) step p = step x p
if_ok (Err e) step p = p
