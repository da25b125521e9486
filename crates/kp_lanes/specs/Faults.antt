-- The numbers of the faults.
use Rattle.std.specs.Prelude.{ℕ}
use Rattle.kp_lanes.specs.declared.fault.OpenFault.{OpenFault}
use Rattle.kp_lanes.specs.declared.fault.OpenFault.TheVariants as opening
use Rattle.kp_lanes.specs.declared.fault.SendFault.{SendFault}
use Rattle.kp_lanes.specs.declared.fault.SendFault.TheVariants as sending
use Rattle.kp_lanes.specs.declared.fault.FlushFault.{FlushFault}
use Rattle.kp_lanes.specs.declared.fault.FlushFault.TheVariants as flushing
use Rattle.kp_lanes.specs.declared.fault.SettleFault.{SettleFault}
use Rattle.kp_lanes.specs.declared.fault.SettleFault.TheVariants as settling

abbrev pub open_fault_number : OpenFault → ℕ
open_fault_number opening.Senders = 1
open_fault_number opening.Capacity = 2
open_fault_number opening.Partitions = 3
open_fault_number opening.OutOfMemory = 4

abbrev pub send_fault_number : SendFault → ℕ
send_fault_number sending.Closed = 1
send_fault_number sending.LaneFull = 2
send_fault_number sending.RecordTooLarge = 3
send_fault_number sending.NoSuchPartition = 4
send_fault_number sending.NumberSpent = 5

abbrev pub flush_fault_number : FlushFault → ℕ
flush_fault_number flushing.Closed = 1
flush_fault_number flushing.LaneFull = 2

abbrev pub settle_fault_number : SettleFault → ℕ
settle_fault_number settling.Missing = 1
settle_fault_number settling.OutOfMemory = 2
