-- What functions over a frame's content gave, unless memory was refused.
use Rattle.std.proofs.Common.{◌≡◌, Result, Ok, Err, refl, sym, ap, subst, ◌∙◌}
use Rattle.std.specs.Result.{IsErrAnd}
use Rattle.std.proofs.lemmas.Result.{err_from_is_err_and}
use Rattle.kp_wire.specs.Reading.{◌>>=◌}
use Rattle.kp_wire.proofs.ReadLemmas.{failed}
use Rattle.kp_frames.specs.declared.fault.FrameFault.{FrameFault}
use Rattle.kp_frames.specs.declared.fault.FrameFault.TheVariants as frame
use Rattle.kp_frames.specs.Fault.{Refuses}
use Rattle.kp_hello.specs.declared.fault.HandshakeFault.{HandshakeFault}
use Rattle.kp_hello.specs.declared.fault.HandshakeFault.TheVariants.{Io, Frame, BadAnswer, Refused, OutOfMemory}
use Rattle.kp_hello.specs.Fault.{of_frame}
use Rattle.kp_hello.specs.Chart.{Gives}
use Rattle.kp_hello.specs.Hello.{in_handshake, UnlessMemory}

pub unless_is : {A : Type 0} (got given : Result A HandshakeFault) → got ≡ given → UnlessMemory got given
unless_is (Ok x) given e = e
unless_is (Err Io) given e = e
unless_is (Err (Frame fault)) given e = e
unless_is (Err BadAnswer) given e = e
unless_is (Err (Refused code)) given e = e
unless_is (Err OutOfMemory) given e = tt

-- the fault of reading a message ends the handshake
refused_by : {A B : Type 0} (begun : Type 0) (fault : FrameFault) (read : Result A FrameFault) (f : A → Result B HandshakeFault) → Refuses begun fault read
    → UnlessMemory (failed {A = B} (of_frame fault)) (in_handshake read >>= f)
refused_by begun frame.Short read f e = rw e refl
refused_by begun frame.Trailing read f e = rw e refl
refused_by begun frame.UnknownApi read f e = rw e refl
refused_by begun frame.UnknownVersion read f e = rw e refl
refused_by begun (frame.Wire fault) read f e = rw e refl
refused_by begun frame.TooLarge read f e = rw e refl
refused_by begun frame.OutOfMemory read f e = tt
refused_by begun frame.Mismatch read f e = rw e refl

pub refused_read : {A B : Type 0} (begun : Type 0) (fault : FrameFault) (read : Result A FrameFault) (f : A → Result B HandshakeFault) (got : Result B HandshakeFault) → Refuses begun fault read
    → IsErrAnd got (λ e. e ≡ of_frame fault) → UnlessMemory got (in_handshake read >>= f)
refused_read {B = B} begun fault read f got e is =
    let p = err_from_is_err_and got is in
    let same : got ≡ failed (of_frame fault) = p.1 ∙ ap (λ (x : HandshakeFault). failed {A = B} x) p.2 in
    subst (λ (x : Result B HandshakeFault). UnlessMemory x (in_handshake read >>= f)) (sym same) (refused_by begun fault read f e)

-- the message was read, and judged
pub judged_read : {A B : Type 0} (x : A) (read : Result A FrameFault) (f : A → Result B HandshakeFault) (got : Result B HandshakeFault) → read ≡ Ok x → got ≡ f x → UnlessMemory got (in_handshake read >>= f)
judged_read x read f got e is = unless_is got (in_handshake read >>= f) (is ∙ sym (rw e refl))

-- ---- seen by view

refused_seen : {A X Y : Type 0} (view : X → Y) (begun : Type 0) (fault : FrameFault) (read : Result A FrameFault) (f : A → Result Y HandshakeFault) → Refuses begun fault read
    → Gives view (failed {A = X} (of_frame fault)) (in_handshake read >>= f)
refused_seen view begun frame.Short read f e = rw e refl
refused_seen view begun frame.Trailing read f e = rw e refl
refused_seen view begun frame.UnknownApi read f e = rw e refl
refused_seen view begun frame.UnknownVersion read f e = rw e refl
refused_seen view begun (frame.Wire fault) read f e = rw e refl
refused_seen view begun frame.TooLarge read f e = rw e refl
refused_seen view begun frame.OutOfMemory read f e = tt
refused_seen view begun frame.Mismatch read f e = rw e refl

pub gives_refused : {A X Y : Type 0} (view : X → Y) (begun : Type 0) (fault : FrameFault) (read : Result A FrameFault) (f : A → Result Y HandshakeFault) (got : Result X HandshakeFault)
    → Refuses begun fault read → IsErrAnd got (λ e. e ≡ of_frame fault) → Gives view got (in_handshake read >>= f)
gives_refused {X = X} view begun fault read f got e is =
    let p = err_from_is_err_and got is in
    let same : got ≡ failed (of_frame fault) = p.1 ∙ ap (λ (x : HandshakeFault). failed {A = X} x) p.2 in
    subst (λ (x : Result X HandshakeFault). Gives view x (in_handshake read >>= f)) (sym same) (refused_seen view begun fault read f e)

pub gives_judged : {A X Y : Type 0} (view : X → Y) (x : A) (read : Result A FrameFault) (f : A → Result Y HandshakeFault) (got : Result X HandshakeFault) → read ≡ Ok x → Gives view got (f x)
    → Gives view got (in_handshake read >>= f)
gives_judged {Y = Y} view x read f got e h = subst (λ (r : Result Y HandshakeFault). Gives view got r) (sym (rw e refl)) h
