use Rattle.wrp_licence.proofs.PointNumbers.{number_of_pairs}
use Rattle.wrp_licence.proofs.PointRules.{record_stands, licensed_where}
use Rattle.wrp_licence.proofs.exact_points_are_licensed.Goals as goal

pub returns-clause-stands : goal.returns-clause-stands
returns-clause-stands c = λ town items node point item unlabelled opened exact is. record_stands town items node point unlabelled opened exact item is

pub returns-clause-licensed : goal.returns-clause-licensed
returns-clause-licensed c = λ town items node arc point item unlabelled opened exact is part.
    licensed_where town items node point unlabelled opened exact item arc is part

pub returns-clause-numbers : goal.returns-clause-numbers
returns-clause-numbers c = λ town point arc. number_of_pairs point arc
