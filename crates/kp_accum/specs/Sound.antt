-- What is true of an accumulator, beside what is seen of it.
use Rattle.std.specs.Prelude.{◌≡◌, ℕ, ◌≤◌, List, length, sum_by, Ok}
use Rattle.std.specs.List.{AllByRecursion}
use Rattle.kp_accum.specs.declared.config.Config.{Config}
use Rattle.kp_accum.specs.Config.{checked}
use Rattle.kp_accum.specs.Queue.{Pending, size_of, marked_in}

-- the batch fits into a request
abbrev pub Fits : Config → Pending → Type 0
Fits c b = size_of b.items ≤ c.max_request_size

abbrev pub AllFit : Config → List Pending → Type 0
AllFit c queue = AllByRecursion (Fits c) queue

-- The configuration is one that is let through, the memory's limit is its, the batches and those marked are counted, and
-- each batch fits into a request.
pub record IsSound (c : Config) (queues : List (List Pending)) (limit batches marked : ℕ) : Type 0 where
  pub allowed : checked c ≡ Ok tt
  pub limited : limit ≡ c.buffer_memory
  pub counted : batches ≡ sum_by length queues
  pub marks : marked ≡ sum_by marked_in queues
  pub fitting : AllByRecursion (AllFit c) queues
