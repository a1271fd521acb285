use Rattle.wrp_tableau.proofs.Listing.{Listing}
use Rattle.wrp_tableau.proofs.start.slack_row.Given as goal

abbrev pub invariant-loop-number : goal.invariant-loop-number
invariant-loop-number l = Listing l.coefs l.number l.terms.items
