-- The three apis of a producer's connection, each in one version (protocol guide, "Api Keys").
use Rattle.std.specs.Prelude.{ℤ, pos, Result, Ok, Err, if◌then◌else◌}
use Rattle.std.specs.Ordering.{int_eq}
use Rattle.kp_frames.specs.declared.api.Api.{Api}
use Rattle.kp_frames.specs.declared.api.Api.TheVariants.{Produce, Metadata, InitProducerId}
use Rattle.kp_frames.specs.declared.fault.FrameFault.{FrameFault}
use Rattle.kp_frames.specs.declared.fault.FrameFault.TheVariants.{UnknownApi}

abbrev pub key_of : Api → ℤ
key_of Produce = pos 0
key_of Metadata = pos 3
key_of InitProducerId = pos 22

abbrev pub version_of : Api → ℤ
version_of Produce = pos 3
version_of Metadata = pos 1
version_of InitProducerId = pos 0

-- the api that has this key
unfoldable pub api_with : ℤ → Result Api FrameFault
api_with key =
    if int_eq key (pos 0) then Ok Produce
    else if int_eq key (pos 3) then Ok Metadata
    else if int_eq key (pos 22) then Ok InitProducerId
    else Err UnknownApi
