-- The line of a record and the text of a proof, worked out.
use Rattle.std.specs.Prelude.{codes}
use Rattle.std.specs.Fmt.{digits}
use Rattle.std.proofs.Common.{◌≡◌, ℕ, List, [], ◌∷◌, ◌++◌, refl, arith}
use Rattle.wrp_rules.specs.declared.record.Record.TheVariants.{Bound}
use Rattle.wrp_rules.specs.declared.record.End.TheVariants.{Optimal}
use Rattle.wrp_rules.specs.Lines.{line_of}
use Rattle.wrp_rules.specs.Proofs.{version_1, IsProofBy, ended}
use Rattle.wrp_worked.proofs.Towns.{windy_street}
use Rattle.wrp_worked.proofs.Lists.{odd_list}

-- the line of a bound
pub bound_is_written : line_of (Bound 0 2 ((1, 1) ∷ (3, 5) ∷ [])) ≡ codes "b 0 2 1:1 3:5"
unfolding digits
bound_is_written = refl

-- the bytes of a whole proof
abbrev pub proof_bytes : List ℕ
proof_bytes =
    ended (codes "postman-proof 1") ++ ended (codes "t 5 0+ 0-") ++ ended (codes "o 0") ++ ended (codes "b 0 2 1:1 3:5")
    ++ ended (codes "end optimal 5")

pub bytes_are_a_proof : IsProofBy windy_street version_1 odd_list (Optimal 5) proof_bytes
unfolding digits
bytes_are_a_proof = record {
  text = refl;
  valid = refl;
  agreeing = refl;
  lines = (omega arith, (omega arith, (omega arith, tt)));
  whole = omega arith;
}
