-- Names tell settings apart.
use Rattle.std.proofs.Common.{◌≡◌, cond, eqb, length, get_or, refl, sym, ap, ◌∙◌}
use Rattle.kp_schedule.specs.Grammar.{name_of}
use Rattle.kp_schedule.specs.Lines.{Text}
use Rattle.kp_schedule.specs.declared.setting.Setting.{Setting}
use Rattle.kp_schedule.specs.declared.setting.Setting.TheVariants.{Partitions, Senders, BatchSize, Linger, BufferMemory, MaxRequestSize, RequestTimeout, DeliveryTimeout, RetryBackoff, MaxInFlight, SequenceLimit}

-- told by a name's length and first byte
named : Text → Setting
named name =
    cond (eqb (length name) 7) Senders
    (cond (eqb (length name) 9) Linger
    (cond (eqb (length name) 14) SequenceLimit
    (cond (eqb (length name) 18) RequestTimeout
    (cond (eqb (length name) 19) DeliveryTimeout
    (cond (eqb (length name) 10) (cond (eqb (get_or name 0 0) 112) Partitions BatchSize)
    (cond (eqb (length name) 13) (cond (eqb (get_or name 0 0) 98) BufferMemory MaxInFlight)
    (cond (eqb (get_or name 0 0) 109) MaxRequestSize RetryBackoff)))))))

named-name_of : (s : Setting) → named (name_of s) ≡ s
unfolding named
named-name_of Partitions = refl
named-name_of Senders = refl
named-name_of BatchSize = refl
named-name_of Linger = refl
named-name_of BufferMemory = refl
named-name_of MaxRequestSize = refl
named-name_of RequestTimeout = refl
named-name_of DeliveryTimeout = refl
named-name_of RetryBackoff = refl
named-name_of MaxInFlight = refl
named-name_of SequenceLimit = refl

pub name_of-injective : (a b : Setting) → name_of a ≡ name_of b → a ≡ b
name_of-injective a b same = sym (named-name_of a) ∙ ap named same ∙ named-name_of b
