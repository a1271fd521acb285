-- The files that a command names.
use Rattle.std.specs.Prelude.{◌≡◌, Option, Some}
use Rattle.wrp_postman.specs.declared.command.Names.{Names}
use Rattle.wrp_postman.specs.declared.command.Names.TheVariants as names
use Rattle.wrp_postman.specs.declared.files.Files.{Files}

-- the streets are those of the command, and the proof is read or written where the command does so
abbrev pub AreFilesOf : Option Names → Files → Type 0
AreFilesOf (Some (names.Solve streets proof log budget)) files =
    (files.streets ≡ streets) × (files.proof_out ≡ proof)
AreFilesOf (Some (names.Check streets proof)) files =
    (files.streets ≡ streets) × (files.proof_in ≡ proof)
AreFilesOf (Some (names.Info streets)) files = files.streets ≡ streets
AreFilesOf command files = Unit {0}
