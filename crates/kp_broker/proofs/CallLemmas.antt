-- Calls on a connection, one after the other.
use Rattle.std.proofs.Common.{◌≡◌, ◌+◌, List, [], ◌∷◌, ◌++◌, Result, Ok, Err, refl, sym, ap, ◌∙◌, append_assoc, arith}
use Rattle.std.proofs.lemmas.List.Concat.{flat_map-append}
use Rattle.std.proofs.lemmas.List.Sums.{sum_by-append, sum_by-cons}
use Rattle.kp_wire.proofs.ListLemmas.{all_append}
use Rattle.kp_broker.specs.declared.fault.BrokerFault.{BrokerFault}
use Rattle.kp_broker.specs.declared.fault.BrokerFault.TheVariants.{Frame, Io, OutOfMemory, TooLong}
use Rattle.kp_broker.specs.declared.serving.Served.{Served}
use Rattle.kp_broker.specs.Calls.{Answer, came, came_by, gone, gone_by, reads, read_by, IsGood, AreGood, EndsWith}
use Rattle.kp_broker.specs.Calls.Answer.{Came, Read_failed, Went, Write_failed, Flushed, Flush_failed}
use Rattle.kp_broker.specs.Taking.{GoBy}

pub came_behind : (xs ys : List Answer) → came (xs ++ ys) ≡ came xs ++ came ys
came_behind xs ys = flat_map-append came_by xs ys

pub gone_behind : (xs ys : List Answer) → gone (xs ++ ys) ≡ gone xs ++ gone ys
gone_behind xs ys = flat_map-append gone_by xs ys

pub reads_behind : (xs ys : List Answer) → reads (xs ++ ys) ≡ reads xs + reads ys
reads_behind xs ys = sum_by-append read_by xs ys

pub good_behind : (xs ys : List Answer) → AreGood xs → AreGood ys → AreGood (xs ++ ys)
good_behind xs ys p q = all_append IsGood xs ys p q

pub ends_behind : (Holds : Answer → Type 0) (xs ys : List Answer) → AreGood xs → EndsWith Holds ys → EndsWith Holds (xs ++ ys)
ends_behind Holds xs ys p q = record {
  before = xs ++ q.before;
  last = q.last;
  are = ap (λ zs. xs ++ zs) q.are ∙ sym (append_assoc xs q.before (q.last ∷ []));
  good = good_behind xs q.before p q.good;
  holds = q.holds;
}

pub goes_behind : (r : Result Served BrokerFault) (xs ys : List Answer) → AreGood xs → GoBy r ys → GoBy r (xs ++ ys)
goes_behind (Ok served) xs ys p q = good_behind xs ys p q
goes_behind (Err (Frame fault)) xs ys p q = good_behind xs ys p q
goes_behind (Err Io) xs ys p q = ends_behind _ xs ys p q
goes_behind (Err OutOfMemory) xs ys p q = good_behind xs ys p q
goes_behind (Err TooLong) xs ys p q = good_behind xs ys p q

-- where nothing was read nothing came
pub none_came : (xs : List Answer) → reads xs ≡ 0 → came xs ≡ []
none_came [] e = refl
none_came (Came bytes ∷ xs) e = absurd (omega (arith, sum_by-cons read_by (Came bytes) xs))
none_came (Read_failed ∷ xs) e = absurd (omega (arith, sum_by-cons read_by Read_failed xs))
none_came (Went bytes ∷ xs) e = none_came xs (omega (arith, sum_by-cons read_by (Went bytes) xs))
none_came (Write_failed ∷ xs) e = none_came xs (omega (arith, sum_by-cons read_by Write_failed xs))
none_came (Flushed ∷ xs) e = none_came xs (omega (arith, sum_by-cons read_by Flushed xs))
none_came (Flush_failed ∷ xs) e = none_came xs (omega (arith, sum_by-cons read_by Flush_failed xs))
