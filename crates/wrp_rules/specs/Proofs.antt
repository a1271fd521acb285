-- Proofs: a version line, the lines of a valid list, and the line of an end that agrees with it.
use Rattle.std.specs.Prelude.{codes, ◌≡◌, ℕ, ◌≤◌, ◌^◌, ◌⊎◌, true, List, [], ◌∷◌, ◌++◌, length}
use Rattle.std.specs.List.{flat_map, AllByRecursion}
use Rattle.wrp_town.specs.declared.town.Town.{Town}
use Rattle.wrp_town.specs.Arcs.{is_small}
use Rattle.wrp_rules.specs.declared.record.Record.{Record}
use Rattle.wrp_rules.specs.declared.record.End.{End}
use Rattle.wrp_rules.specs.Nodes.{standing}
use Rattle.wrp_rules.specs.Lists.{is_valid, agrees}
use Rattle.wrp_rules.specs.Lines.{line_of, end_line}

-- a version line, and the greatest length of the lines after it
pub record Version : Type 0 where
  pub line : List ℕ
  pub limit : ℕ

abbrev pub version_1 : Version
version_1 = record { line = codes "postman-proof 1"; limit = 2 ^ 24 }

abbrev pub version_2 : Version
version_2 = record { line = codes "postman-proof 2"; limit = 2 ^ 28 }

-- the greatest length of the line of a record or of an end
abbrev pub longest_line : ℕ
longest_line = version_2.limit

-- the byte that ends a line
abbrev pub line_feed : ℕ
line_feed = 10

-- a line and its line feed
abbrev pub ended : List ℕ → List ℕ
ended line = line ++ line_feed ∷ []

-- the lines of a list of records
abbrev pub record_lines : List Record → List ℕ
record_lines records = flat_map (λ item. ended (line_of item)) records

-- the whole text of a proof
abbrev pub proof_text : Version → List Record → End → List ℕ
proof_text version records end = ended version.line ++ record_lines records ++ ended (end_line end)

-- the greatest number of bytes of a proof
abbrev pub most_bytes : ℕ
most_bytes = 2 ^ 40

-- the bytes prove the end by these records
pub record IsProofBy
    (town : Town) (version : Version) (records : List Record) (end : End) (bytes : List ℕ)
    : Type 0 where
  pub text : bytes ≡ proof_text version records end
  pub valid : is_valid town records ≡ true
  pub agreeing : agrees (standing town records) end ≡ true
  pub lines : AllByRecursion (λ item. length (line_of item) ≤ version.limit) records
  pub whole : length bytes ≤ most_bytes

-- the bytes are a proof of the town with this end; version 1 is for small towns
abbrev pub IsProof : Town → End → List ℕ → Type 0
IsProof town end bytes =
    (records : List Record) × (IsProofBy town version_2 records end bytes
    ⊎ ((is_small town ≡ true) × IsProofBy town version_1 records end bytes))
