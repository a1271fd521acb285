use Rattle.wrp_rows.proofs.Kept.{coef_at_terms}
use Rattle.wrp_rows.proofs.RowLaws.{sum_of_terms}
use Rattle.wrp_rows.proofs.laws.terms_laws.Goals as goal

pub returns : goal.returns
returns c = record { coef = λ town row arc. coef_at_terms town row.coef arc; sums = sum_of_terms }
