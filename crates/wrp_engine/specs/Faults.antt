-- The faults of a flush among those of a search.
use Rattle.wrp_keep.specs.declared.fault.FlushFault.{FlushFault}
use Rattle.wrp_keep.specs.declared.fault.FlushFault.TheVariants as flushes
use Rattle.wrp_engine.specs.declared.fault.SearchFault.{SearchFault}
use Rattle.wrp_engine.specs.declared.fault.SearchFault.TheVariants as searches

abbrev pub of_flush : FlushFault → SearchFault
of_flush (flushes.Full length limit) = searches.Full length limit
of_flush flushes.Disk = searches.Disk
