-- Each clause is a lemma of SparseRows.
use Rattle.wrp_sums.proofs.SparseRows.{dense_is_sparse, coef_at_more}
use Rattle.wrp_sums.proofs.sparse_laws.Goals as goal

pub returns : goal.returns
returns c = record {
  sums = dense_is_sparse;
  one_more = coef_at_more;
}
