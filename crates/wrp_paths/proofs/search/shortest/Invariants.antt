use Rattle.std.proofs.Common.{heap_items}
use Rattle.wrp_paths.proofs.Searches.{first_junction}
use Rattle.wrp_paths.proofs.search.shortest.Given as goal

abbrev pub ghost-settle_all : goal.ghost-settle_all
ghost-settle_all a = first_junction (heap_items a.queue.now)
