use Rattle.std.proofs.Common.{◌≡◌, take}
use Rattle.kp_send.proofs.form.copy_of_headers.Given as goal

abbrev pub invariant-loop-header : goal.invariant-loop-header
invariant-loop-header l = l.copy.items ≡ take l.header-index l.headers
