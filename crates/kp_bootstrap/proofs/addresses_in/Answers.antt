use Rattle.std.proofs.Common.{ℕ, ◌≤◌, List, [], length, take, ap, sym, subst, ◌∙◌, arith, lit<}
use Rattle.std.specs.Str.Iter.{split_text, split_has_more, split_pattern}
use Rattle.std.proofs.lemmas.List.{length_push}
use Rattle.std.proofs.lemmas.Iterator.Splits.{YieldsList-from_str_split}
use Rattle.std.proofs.lemmas.Iterator.Consumers.{YieldsList-turn, YieldsList-end}
use Rattle.kp_bootstrap.specs.Addresses.{AreAddresses, entries_of, none}
use Rattle.kp_cluster.specs.declared.slot.Address.{Address}
use Rattle.kp_bootstrap.proofs.AddressLemmas.{addresses_all, addresses_more}
use Rattle.kp_bootstrap.proofs.addresses_in.Goals as goal

pub loop-entry-init : goal.loop-entry-init
loop-entry-init c = subst (λ (xs : List Address). AreAddresses [] xs) (sym c.new-addresses.ensures.items) none

pub loop-entry-preserved : goal.loop-entry-preserved
loop-entry-preserved c =
    let same = c.into_iter-entry-iterator.ensures.into_iter_gives in
    let entries = entries_of c.args.text.now in
    let at = YieldsList-turn
    (YieldsList-from_str_split 44 c.args.text.now (lit< tt) (ap split_text same ∙ c.split-entry-items.ensures.text) (ap split_has_more same ∙ c.split-entry-items.ensures.has_more) (ap split_pattern same ∙ c.split-entry-items.ensures.pattern))
    c.loop-entry.yielded _ c.loop-entry.yielded_by _ _ c.in-Some.entry c.in-Some.is c.next.ensures.steps in
    subst (λ (n : ℕ). AreAddresses (take n entries) c.put_address.new.addresses.items) (sym (length_push c.loop-entry.yielded c.in-Some.entry))
    (addresses_more entries (length c.loop-entry.yielded) c.in-Some.entry.now c.loop-entry.addresses.items c.put_address.new.addresses.items at.0 at.1 c.loop-entry.invariant c.in_ok-put_address.ensures)

pub returns : goal.returns
returns c =
    let same = c.into_iter-entry-iterator.ensures.into_iter_gives in
    let end = YieldsList-end
    (YieldsList-from_str_split 44 c.args.text.now (lit< tt) (ap split_text same ∙ c.split-entry-items.ensures.text) (ap split_has_more same ∙ c.split-entry-items.ensures.has_more) (ap split_pattern same ∙ c.split-entry-items.ensures.pattern))
    c.loop-entry.yielded _ c.loop-entry.yielded_by _ _ c.in-None.is c.next.ensures.steps in
    let past : length (entries_of c.args.text.now) ≤ length c.loop-entry.yielded = omega (arith, end.1) in
    addresses_all (entries_of c.args.text.now) (length c.loop-entry.yielded) c.loop-entry.addresses.items past c.loop-entry.invariant
