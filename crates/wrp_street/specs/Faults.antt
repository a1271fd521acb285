-- Reading that gives a value or the first fault, and what a reader answers for it.
use Rattle.std.specs.Prelude.{◌≡◌, Result, Ok, Err}
use Rattle.wrp_street.specs.declared.table.TableFault.{TableFault}
use Rattle.wrp_street.specs.declared.table.TableFault.TheVariants as faults

-- go on where reading gave a value, stop at the first fault
infixl 10 ◌>>=◌
abbrev pub ◌>>=◌ : {A B : Type 0} → Result A TableFault → (A → Result B TableFault)
    → Result B TableFault
(Ok x) >>= f = f x
(Err fault) >>= f = Err fault

-- the reader stopped at want of memory, or at the first fault
abbrev pub Fails : {A : Type 0} → TableFault → Result A TableFault → Type 0
Fails faults.Header read = read ≡ Err faults.Header
Fails (faults.Fields row) read = read ≡ Err (faults.Fields row)
Fails (faults.Name row field) read = read ≡ Err (faults.Name row field)
Fails (faults.Cost row field) read = read ≡ Err (faults.Cost row field)
Fails (faults.Need row) read = read ≡ Err (faults.Need row)
Fails (faults.Streets row) read = read ≡ Err (faults.Streets row)
Fails (faults.Junctions row) read = read ≡ Err (faults.Junctions row)
Fails (faults.Demands row) read = read ≡ Err (faults.Demands row)
Fails faults.Memory read = Unit {0}

-- the reader's answer, seen by view, is what reading gives
abbrev pub GivesAs : {X A : Type 0} → (X → A) → Result X TableFault → Result A TableFault → Type 0
GivesAs view (Ok x) read = read ≡ Ok (view x)
GivesAs view (Err fault) read = Fails fault read

-- the reader's answer is what reading gives
abbrev pub Gives : {A : Type 0} → Result A TableFault → Result A TableFault → Type 0
Gives (Ok x) read = read ≡ Ok x
Gives (Err fault) read = Fails fault read

-- the value that the reader has after its answer is what reading gives
abbrev pub GivesNew : {A : Type 0} → A → Result (Unit {0}) TableFault → Result A TableFault → Type 0
GivesNew x (Ok done) read = read ≡ Ok x
GivesNew x (Err fault) read = Fails fault read
