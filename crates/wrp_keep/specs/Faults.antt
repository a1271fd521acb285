-- The faults of a log among those of a keep.
use Rattle.wrp_log.specs.declared.fault.AppendFault.{AppendFault}
use Rattle.wrp_log.specs.declared.fault.AppendFault.TheVariants as appends
use Rattle.wrp_keep.specs.declared.fault.AddFault.{AddFault}
use Rattle.wrp_keep.specs.declared.fault.AddFault.TheVariants as adds
use Rattle.wrp_keep.specs.declared.fault.FlushFault.{FlushFault}
use Rattle.wrp_keep.specs.declared.fault.FlushFault.TheVariants as flushes
use Rattle.wrp_log.specs.declared.fault.OpenFault.{OpenFault}
use Rattle.wrp_log.specs.declared.fault.OpenFault.TheVariants as opens
use Rattle.wrp_keep.specs.declared.fault.ReopenFault.{ReopenFault}
use Rattle.wrp_keep.specs.declared.fault.ReopenFault.TheVariants as reopens
use Rattle.wrp_keep.specs.declared.fault.StartFault.{StartFault}
use Rattle.wrp_keep.specs.declared.fault.StartFault.TheVariants as starts

abbrev pub as_flush : AppendFault → FlushFault
as_flush (appends.Full length limit) = flushes.Full length limit
as_flush appends.Disk = flushes.Disk

abbrev pub as_add : AppendFault → AddFault
as_add (appends.Full length limit) = adds.Full length limit
as_add appends.Disk = adds.Disk

abbrev pub open_as_start : OpenFault → StartFault
open_as_start (opens.NotALog length) = starts.NotALog length
open_as_start (opens.Broken at) = starts.Broken at
open_as_start opens.Disk = starts.Disk
open_as_start opens.Memory = starts.Memory

abbrev pub append_as_start : AppendFault → StartFault
append_as_start (appends.Full length limit) = starts.Full length limit
append_as_start appends.Disk = starts.Disk

abbrev pub open_as_reopen : OpenFault → ReopenFault
open_as_reopen (opens.NotALog length) = reopens.NotALog length
open_as_reopen (opens.Broken at) = reopens.Broken at
open_as_reopen opens.Disk = reopens.Disk
open_as_reopen opens.Memory = reopens.Memory
