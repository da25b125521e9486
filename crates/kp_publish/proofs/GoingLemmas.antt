-- Calls on a sender, one after the other.
use Rattle.std.proofs.Common.{ℕ, List, [], ◌++◌, subst, sym, append_assoc, append-nil}
use Rattle.kp_embed.specs.declared.fault.SendFault.{SendFault}
use Rattle.kp_embed.specs.declared.target.Ticket.{Ticket}
use Rattle.kp_rules.specs.declared.outcome.Report.{Report}
use Rattle.kp_send.specs.Sender.{Accepts, Account, Hears, Leaves, StaysButOrder}
use Rattle.kp_send.specs.Streaming.{Calls, Goes}
use Rattle.kp_send.specs.declared.texts.Texts.{Texts}
use Rattle.kp_publish.specs.Publishing.{GoesOn}

pub goes_more : (a : Account) (x : Texts) (t : List ℕ) (b : Account) (y : Texts) (u : List ℕ) (c : Account) (z : Texts)
    → Goes a x t b y → Goes b y u c z → Goes a x (t ++ u) c z
goes_more a x t b y u c z first Goes.none = subst (λ (bytes : List ℕ). Goes a x bytes b y) (sym (append-nil t)) first
goes_more a x t b y u c z first (Goes.one_more before more mid d between last so_far call) =
    subst (λ (bytes : List ℕ). Goes a x bytes d last) (append_assoc t before more)
    (Goes.one_more (t ++ before) more mid d between last (goes_more a x t b y before mid between first so_far) call)

-- no call
pub stays : (a : Account) (x : Texts) → GoesOn a x a x
stays a x = ([], Goes.none)

-- some, and then some
pub goes_on : (a b c : Account) (x y z : Texts) → GoesOn a x b y → GoesOn b y c z → GoesOn a x c z
goes_on a b c x y z first later = (first.0 ++ later.0, goes_more a x first.0 b y later.0 c z first.1 later.1)

-- calls that take nothing of the stream
pub none : (a : Account) (x : Texts) → Goes a x [] a x
none a x = Goes.none

pub reserves : (a b : Account) (x : Texts) → StaysButOrder a b → Goes a x [] b x
reserves a b x r = Goes.one_more [] [] a b x x Goes.none (Calls.reserves b r)

pub accepts : (a b : Account) (ticket : Ticket) (x y : Texts) → Accepts a ticket x y b → Goes a x [] b y
accepts a b ticket x y h = Goes.one_more [] [] a b x y Goes.none (Calls.accepts ticket b y h)

pub leaves : (a b : Account) (fault : SendFault) (x y : Texts) → Leaves a fault x y b → Goes a x [] b y
leaves a b fault x y h = Goes.one_more [] [] a b x y Goes.none (Calls.leaves fault b y h)

pub by_hears : (a b : Account) (report : Report) (x y : Texts) → Hears a report x y b → GoesOn a x b y
by_hears a b report x y h = ([], Goes.one_more [] [] a b x y Goes.none (Calls.hears report b y h))
