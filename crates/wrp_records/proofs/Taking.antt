-- What a read of csv's reader does to the records that are left.
use Rattle.std.proofs.Common.{◌≡◌, ◌∷◌, [], ℕ, List, true, false, Some, refl, inl, ◌∙◌}
use Rattle.std.specs.Borrow.{Bor}
use Rattle.csv.specs.Machine.{ends_at_end}
use Rattle.csv.specs.declared.parser.State.{State}
use Rattle.csv.specs.Reading.{Reached, ReadRecord, default_config, source_of}
use Rattle.csv.specs.declared.reader.Reader.{Reader}
use Rattle.csv.proofs.ReadFacts.{rows-end, rows-more}
use Rattle.wrp_records.specs.Streams.{Between, bytes_in, records_left}
use Rattle.wrp_records.proofs.Enough.{between_next, records_left-more, records_left-none}

-- a read took the first record that was left
pub record Took (a b : Reader (Bor (List ℕ))) (fields : List (List ℕ)) : Type 0 where
  pub reader : Between b
  pub first : records_left a.state (bytes_in a) ≡ fields ∷ records_left b.state (bytes_in b)

-- what was reached by one record
one_reached : (s : State) (xs : List ℕ) (fields : List (List ℕ)) (t : State) (ys : List ℕ) → ends_at_end s ≡ false
    → Reached default_config s xs (fields ∷ []) t ys
    → (ends_at_end t ≡ false) × (records_left s xs ≡ fields ∷ records_left t ys)
unfolding Reached
one_reached s xs fields t ys between (p, next, same, (state, rest)) =
    (rw (← state) (between_next s xs p next), rw (same, ← state, ← rest) (records_left-more s xs p between next))

took_reached : (a b : Reader (Bor (List ℕ))) (fields : List (List ℕ)) → Between a → b.first ≡ true → b.flexible ≡ a.flexible
    → ReadRecord (λ s. Some s.now) a b true fields
    → (ys : List ℕ) × (source_of (λ s. Some s.now) b ≡ Some ys) × Reached default_config a.state (bytes_in a) (fields ∷ []) b.state ys
    → Took a b fields
took_reached a b fields now first flexible read (ys, left, reached) =
    let one = one_reached a.state (bytes_in a) fields b.state ys now.between reached in
    record {
      reader = record {
        trim = read.3 ∙ now.trim;
        ready = inl first;
        flexible = flexible ∙ now.flexible;
        config = read.2 ∙ now.config;
        between = one.0;
        left = rw left refl;
      };
      first = rw left one.1;
    }

-- a read that found a record, at a reader between two records
pub took_record : (a b : Reader (Bor (List ℕ))) (fields : List (List ℕ)) → Between a → b.first ≡ true → b.flexible ≡ a.flexible
    → ReadRecord (λ s. Some s.now) a b true fields → Took a b fields
unfolding Reached
took_record a b fields now first flexible read =
    took_reached a b fields now first flexible read
    (rows-more (λ s. Some s.now) a b fields default_config a.state (bytes_in a) (bytes_in a) [] now.config now.left (refl, refl) read)

-- a read that found no record leaves none
pub took_none : (a b : Reader (Bor (List ℕ))) (fields : List (List ℕ)) → Between a
    → ReadRecord (λ s. Some s.now) a b false fields → records_left a.state (bytes_in a) ≡ []
took_none a b fields now read =
    records_left-none a.state (bytes_in a) (rows-end (λ s. Some s.now) a b fields default_config (bytes_in a) now.config now.left read)
