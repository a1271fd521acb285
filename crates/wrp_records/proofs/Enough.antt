-- The bound of `records_from` makes no difference where it is above the number of bytes, since each
-- record takes at least one.
use Rattle.std.proofs.Common.{◌≡◌, ◌+◌, ◌<◌, ◌≤◌, ◌==◌, ◌||◌, ◌++◌, ◌∷◌, [], ℕ, zero, suc, List, length, Bool, true, false, cond, Option, Some, None, refl, sym, ◌∙◌, ap, add-one, arith}
use Rattle.std.proofs.lemmas.Bool.{false≢true}
use Rattle.csv.specs.Machine.{Read, ends_at_end, field_after, fields_after, in_field, is_end, next_record, start_record, step}
use Rattle.csv.specs.Reading.{default_config, records_from, records_next}
use Rattle.csv.specs.declared.parser.State.{State}
use Rattle.csv.specs.declared.parser.State.TheVariants as st
use Rattle.csv.specs.declared.parser.Action.{Action}
use Rattle.csv.specs.declared.parser.Action.TheVariants as act
use Rattle.wrp_records.specs.Streams.{records_left}

-- a step that ends a record leads to a state between two records
record Ends (x : State × Action) : Type 0 where
  pub between : is_end x.1 ≡ true → ends_at_end x.0 ≡ false

-- a step that ends no record
goes : (s : State) (a : Action) → is_end a ≡ false → Ends (s, a)
goes s a e = record { between = λ t. absurd (false≢true (sym e ∙ t)) }

-- the step of a line's end
closes : (b : Bool) → Ends (cond b st.AfterCr st.StartRecord, act.EndRecord)
closes true = record { between = λ t. refl }
closes false = record { between = λ t. refl }

-- a choice of two steps
pick : (b : Bool) (x y : State × Action) → Ends x → Ends y → Ends (cond b x y)
pick true x y p q = p
pick false x y p q = q

ends-in_field : (c : ℕ) → Ends (in_field default_config c)
ends-in_field c =
    pick (c == 44) _ _ (goes st.StartField act.EndField refl)
    (pick ((c == 13) || (c == 10)) _ _ (closes (c == 13)) (goes st.InField act.Copy refl))

ends-start_field : (c : ℕ) → Ends (step default_config st.StartField c)
ends-start_field c = pick (c == 34) _ _ (goes st.InQuoted act.Skip refl) (ends-in_field c)

ends-start_record : (c : ℕ) → Ends (start_record default_config c)
ends-start_record c =
    pick ((c == 13) || (c == 10)) _ _ (goes st.StartRecord act.Skip refl) (ends-start_field c)

ends : (s : State) (c : ℕ) → Ends (step default_config s c)
ends st.StartRecord c = ends-start_record c
ends st.StartField c = ends-start_field c
ends st.InField c = ends-in_field c
ends st.InQuoted c = pick (c == 34) _ _ (goes st.AfterQuote act.Skip refl) (goes st.InQuoted act.Copy refl)
ends st.InEscape c = goes st.InQuoted act.Copy refl
ends st.AfterQuote c = pick (c == 34) _ _ (goes st.InQuoted act.Copy refl) (ends-in_field c)
ends st.InComment c = pick (c == 10) _ _ (goes st.StartRecord act.Skip refl) (goes st.InComment act.Skip refl)
ends st.AfterCr c = pick (c == 10) _ _ (goes st.StartRecord act.Skip refl) (ends-start_record c)

-- what was read leaves at most so many bytes, and a state between two records
pub record Follows (n : ℕ) (p : Read) : Type 0 where
  pub bound : length p.2 ≤ n
  pub between : ends_at_end p.1 ≡ false

-- one byte ends the record, or the bytes after it do
follows_byte : (b : Bool) (n : ℕ) (q p : Read) (o : Option Read) → length q.2 ≡ n → (b ≡ true → ends_at_end q.1 ≡ false)
    → (o ≡ Some p → Follows n p) → cond b (Some q) o ≡ Some p → Follows n p
follows_byte true n q p o size between other e =
    let same : q ≡ p = cc e in
    record { bound = rw (← same, size) (omega arith); between = rw (← same) (between refl) }
follows_byte false n q p o size between other e = other e

weaker : (n : ℕ) (p : Read) → Follows n p → Follows (suc n) p
weaker n p f = record { bound = omega arith; between = f.between }

-- a read leaves no more bytes than there were
follows_next : (s : State) (fields : List (List ℕ)) (field xs : List ℕ) (p : Read)
    → next_record default_config s fields field xs ≡ Some p → Follows (length xs) p
unfolding next_record
follows_next s fields field [] p e =
    follows_byte (ends_at_end s) 0 (fields ++ (field ∷ []), st.StartRecord, []) p None refl (λ t. refl) (λ t. cc t) e
follows_next s fields field (c ∷ rest) p e =
    weaker (length rest) p
    (follows_byte (is_end (step default_config s c).1) (length rest)
    (fields_after (step default_config s c).1 fields field, (step default_config s c).0, rest) p
    (next_record default_config (step default_config s c).0 (fields_after (step default_config s c).1 fields field)
    (field_after (step default_config s c).1 c field) rest)
    refl (λ t. (ends s c).between t)
    (λ t. follows_next (step default_config s c).0 (fields_after (step default_config s c).1 fields field)
    (field_after (step default_config s c).1 c field) rest p t)
    e)

-- a read from between two records takes at least one byte
pub shorter_next : (s : State) (xs : List ℕ) (p : Read) → ends_at_end s ≡ false
    → next_record default_config s [] [] xs ≡ Some p → length p.2 < length xs
unfolding next_record
shorter_next s [] p between e = let none : None ≡ Some p = rw between at e in cc none
shorter_next s (c ∷ rest) p between e =
    let follows = follows_byte (is_end (step default_config s c).1) (length rest)
    (fields_after (step default_config s c).1 [] [], (step default_config s c).0, rest) p
    (next_record default_config (step default_config s c).0 (fields_after (step default_config s c).1 [] [])
    (field_after (step default_config s c).1 c []) rest)
    refl (λ t. (ends s c).between t)
    (λ t. follows_next (step default_config s c).0 (fields_after (step default_config s c).1 [] [])
    (field_after (step default_config s c).1 c []) rest p t)
    e in
    omega (arith, follows.bound)

-- two readings of the records after the next one agree
same_next : (n m : ℕ) (o : Option Read)
    → ((p : Read) → o ≡ Some p → records_from default_config n p.1 p.2 ≡ records_from default_config m p.1 p.2)
    → records_next (records_from default_config n) o ≡ records_next (records_from default_config m) o
same_next n m None same = refl
same_next n m (Some p) same = ap (λ (rest : List (List (List ℕ))). p.0 ∷ rest) (same p refl)

-- any two bounds above the number of bytes give the same records
pub records_from-enough : (n m : ℕ) (s : State) (xs : List ℕ) → ends_at_end s ≡ false → length xs < n → length xs < m
    → records_from default_config n s xs ≡ records_from default_config m s xs
unfolding records_from
records_from-enough zero m s xs between a b = absurd (omega arith)
records_from-enough (suc n) zero s xs between a b = absurd (omega arith)
records_from-enough (suc n) (suc m) s xs between a b =
    same_next n m (next_record default_config s [] [] xs) (λ p e.
    let shorter = shorter_next s xs p between e in
    let follows = follows_next s [] [] xs p e in
    records_from-enough n m p.1 p.2 follows.between (omega arith) (omega arith))

left-some : (n : ℕ) (o : Option Read) (p : Read) → o ≡ Some p
    → records_next (records_from default_config n) o ≡ p.0 ∷ records_from default_config n p.1 p.2
left-some n o p e = rw e refl

left-none : (n : ℕ) (o : Option Read) → o ≡ None → records_next (records_from default_config n) o ≡ []
left-none n o e = rw e refl

-- where a record is next, it is the first of those left
pub records_left-more : (s : State) (xs : List ℕ) (p : Read) → ends_at_end s ≡ false
    → next_record default_config s [] [] xs ≡ Some p → records_left s xs ≡ p.0 ∷ records_left p.1 p.2
unfolding records_from
records_left-more s xs p between e =
    let shorter = shorter_next s xs p between e in
    let follows = follows_next s [] [] xs p e in
    rw (add-one (length xs)) (left-some (length xs) (next_record default_config s [] [] xs) p e
    ∙ ap (λ (rest : List (List (List ℕ))). p.0 ∷ rest)
    (records_from-enough (length xs) (length p.2 + 1) p.1 p.2 follows.between (omega arith) (omega arith)))

-- where no record is next, none is left
pub records_left-none : (s : State) (xs : List ℕ) → next_record default_config s [] [] xs ≡ None → records_left s xs ≡ []
unfolding records_from
records_left-none s xs e = rw add-one (left-none (length xs) (next_record default_config s [] [] xs) e)

-- a read leaves a state between two records
pub between_next : (s : State) (xs : List ℕ) (p : Read) → next_record default_config s [] [] xs ≡ Some p → ends_at_end p.1 ≡ false
between_next s xs p e = (follows_next s [] [] xs p e).between
