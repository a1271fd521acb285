-- A fault stops all that comes after it.
use Rattle.std.proofs.Common.{ap}
use Rattle.std.specs.Prelude.{Result}
use Rattle.wrp_street.specs.declared.table.TableFault.{TableFault}
use Rattle.wrp_street.specs.declared.table.TableFault.TheVariants as faults
use Rattle.wrp_street.specs.Faults.{◌>>=◌, Fails}

pub fails_on : {A B : Type 0} (fault : TableFault) (read : Result A TableFault) (f : A → Result B TableFault) → Fails fault read → Fails fault (read >>= f)
fails_on faults.Header read f h = ap (λ r. r >>= f) h
fails_on (faults.Fields row) read f h = ap (λ r. r >>= f) h
fails_on (faults.Name row field) read f h = ap (λ r. r >>= f) h
fails_on (faults.Cost row field) read f h = ap (λ r. r >>= f) h
fails_on (faults.Need row) read f h = ap (λ r. r >>= f) h
fails_on (faults.Streets row) read f h = ap (λ r. r >>= f) h
fails_on (faults.Junctions row) read f h = ap (λ r. r >>= f) h
fails_on (faults.Demands row) read f h = ap (λ r. r >>= f) h
fails_on faults.Memory read f h = tt
