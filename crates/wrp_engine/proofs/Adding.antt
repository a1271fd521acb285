-- What calls of a search add, one after the other.
use Rattle.std.proofs.Common.{◌≡◌, ℕ, ◌+◌, ◌≤◌, suc, Bool, true, false, cond, List, [], ◌∷◌, ◌++◌, length, append_assoc, ap, refl, sym, ◌∙◌, subst, inl, inr, arith}
use Rattle.std.specs.Prelude.{⊤}
use Rattle.std.specs.List.{All, fold}
use Rattle.std.proofs.lemmas.Bool.{false≢true}
use Rattle.std.proofs.lemmas.List.{length-append, append-nil}
use Rattle.std.proofs.lemmas.List.Elements.{All-head, All-tail}
use Rattle.std.proofs.lemmas.List.Sums.{fold-append, sum_by-append, sum_by-cons, count_by-le-length}
use Rattle.wrp_town.specs.declared.town.Town.{Town}
use Rattle.wrp_town.specs.declared.street.Step.{Step}
use Rattle.wrp_rules.specs.declared.record.Record.{Record}
use Rattle.wrp_rules.specs.declared.record.Record.TheVariants.{Tour, Conn, Odd, Round, Kc}
use Rattle.wrp_rules.specs.Rules.{is_cut}
use Rattle.wrp_licence.specs.Causes.{is_split, cuts_of, cuts_since_split, count_since, IsCaused, AreCaused}
use Rattle.wrp_licence.proofs.Prefixes.{each_of_more}
use Rattle.wrp_licence.proofs.Pools.{since_more}
use Rattle.wrp_keep.specs.Keeps.{KeepState}
use Rattle.wrp_engine.specs.Offers.{Joins, AddsAtMost, AddsTourAtMost}
use Rattle.wrp_engine.specs.Additions.{is_tour, tours_of, IsFew, StayCaused, AddsWhere, Adds, AddsCuts, AddsOnlyCuts}

-- ---- counts

pub cuts_both : (a b : List Record) → cuts_of (a ++ b) ≡ cuts_of a + cuts_of b
cuts_both a b = sum_by-append (λ r. cond (is_cut r) 1 0) a b

pub tours_both : (a b : List Record) → tours_of (a ++ b) ≡ tours_of a + tours_of b
tours_both a b = sum_by-append (λ r. cond (is_tour r) 1 0) a b

pub few_both : (m n t u : ℕ) (a b : List Record) → IsFew m t a → IsFew n u b → IsFew (m + n) (t + u) (a ++ b)
few_both m n t u a b one two = record {
  records = omega (arith, length-append a b, cuts_both a b, one.records, two.records);
  tours = omega (arith, tours_both a b, cuts_both a b, one.tours, two.tours);
}

pub few_weaker : (m n t u : ℕ) (a : List Record) → m ≤ n → t ≤ u → IsFew m t a → IsFew n u a
few_weaker m n t u a more many few = record { records = omega (arith, few.records, more); tours = omega (arith, few.tours, many) }

-- ---- one call behind another

pub stay_then : (so also : List Record → Type 0) (a b : KeepState) (first second : List Record) → b.town ≡ a.town → b.records ≡ a.records ++ first → ((entry added : List Record) → a.records ≡ entry ++ added → so added → also (added ++ first))
    → StayCaused so a first → StayCaused also b second → StayCaused so a (first ++ second)
stay_then so also a b first second town is follows one two entry added at here caused =
    subst (λ (items : List Record). AreCaused a.town entry items) (append_assoc added first second)
    (subst (λ (t : Town). AreCaused t entry ((added ++ first) ++ second)) town
    (two entry (added ++ first)
    (is ∙ ap (λ (items : List Record). items ++ first) at ∙ append_assoc entry added first)
    (follows entry added at here)
    (subst (λ (t : Town). AreCaused t entry (added ++ first)) (sym town) (one entry added at here caused))))

pub both_are : (a b c : KeepState) (first second : List Record) → b.records ≡ a.records ++ first → c.records ≡ b.records ++ second → c.records ≡ a.records ++ (first ++ second)
both_are a b c first second one two = two ∙ ap (λ (items : List Record). items ++ second) one ∙ append_assoc a.records first second

-- behind a call that adds, another whose condition follows
abbrev pub where_then : (so also : List Record → Type 0) (m n t u : ℕ) (a b c : KeepState) → b.town ≡ a.town → (one : AddsWhere so m t a b)
    → ((entry added : List Record) → a.records ≡ entry ++ added → so added → also (added ++ one.more)) → AddsWhere also n u b c → AddsWhere so (m + n) (t + u) a c
where_then so also m n t u a b c town one follows two = record {
  more = one.more ++ two.more;
  is = both_are a b c one.more two.more one.is two.is;
  few = few_both m n t u one.more two.more one.few two.few;
  caused = stay_then so also a b one.more two.more town one.is follows one.caused two.caused;
}

abbrev pub adds_then : (m n t u : ℕ) (a b c : KeepState) → b.town ≡ a.town → Adds m t a b → Adds n u b c → Adds (m + n) (t + u) a c
adds_then m n t u a b c town one two = where_then (λ _. ⊤) (λ _. ⊤) m n t u a b c town one (λ entry added at here. record {}) two

-- what always holds, holds under a condition
pub adds_where : (so : List Record → Type 0) (m t : ℕ) (a b : KeepState) → Adds m t a b → AddsWhere so m t a b
adds_where so m t a b adds = record {
  more = adds.more;
  is = adds.is;
  few = adds.few;
  caused = λ entry added at here caused. adds.caused entry added at (record {}) caused;
}

abbrev pub where_weaker : (so : List Record → Type 0) (m n t u : ℕ) (a b : KeepState) → m ≤ n → t ≤ u → AddsWhere so m t a b → AddsWhere so n u a b
where_weaker so m n t u a b more many adds = record {
  more = adds.more;
  is = adds.is;
  few = few_weaker m n t u adds.more more many adds.few;
  caused = adds.caused;
}

pub where_also : (so also : List Record → Type 0) (m t : ℕ) (a b : KeepState) → ((added : List Record) → also added → so added) → AddsWhere so m t a b → AddsWhere also m t a b
where_also so also m t a b stronger adds = record {
  more = adds.more;
  is = adds.is;
  few = adds.few;
  caused = λ entry added at here caused. adds.caused entry added at (stronger added here) caused;
}

-- ---- nothing, or one record

abbrev pub adds_none : (so : List Record → Type 0) (m t : ℕ) (a b : KeepState) → b.records ≡ a.records → AddsWhere so m t a b
adds_none so m t a b same = record {
  more = [];
  is = same ∙ sym (append-nil a.records);
  few = record { records = omega arith; tours = omega arith };
  caused = λ entry added at here caused. subst (λ (items : List Record). AreCaused a.town entry items) (sym (append-nil added)) caused;
}

-- where a record has its cause, all do with it
pub stay_with : (so : List Record → Type 0) (a : KeepState) (item : Record) → ((entry added : List Record) → a.records ≡ entry ++ added → so added → IsCaused a.town entry added item) → StayCaused so a (item ∷ [])
stay_with so a item cause entry added at here caused = each_of_more (IsCaused a.town entry) added item caused (cause entry added at here)

pub few_one : (t : ℕ) (item : Record) → cond (is_tour item) 1 0 ≤ t → IsFew 1 t (item ∷ [])
few_one t item tour = record { records = omega arith; tours = omega (arith, tour, tours_one item) }
  where
    tours_one : (r : Record) → tours_of (r ∷ []) ≡ cond (is_tour r) 1 0
    tours_one r = omega (arith, sum_by-cons (λ i. cond (is_tour i) 1 0) r [])

abbrev pub adds_one : (so : List Record → Type 0) (t : ℕ) (a b : KeepState) (item : Record) → cond (is_tour item) 1 0 ≤ t → ((entry added : List Record) → a.records ≡ entry ++ added → so added → IsCaused a.town entry added item) → Joins item a b → AddsWhere so 1 t a b
adds_one so t a b item tour cause joins = record {
  more = item ∷ [];
  is = joins;
  few = few_one t item tour;
  caused = stay_with so a item cause;
}

-- two records
pub adds_two : (so : List Record → Type 0) (a b c : KeepState) (first second : Record) → is_tour first ≡ false → is_tour second ≡ false
    → ((entry added : List Record) → a.records ≡ entry ++ added → so added → IsCaused a.town entry added first)
    → ((entry added : List Record) → a.records ≡ entry ++ added → so added → IsCaused a.town entry (added ++ first ∷ []) second)
    → Joins first a b → Joins second b c → AddsWhere so 2 0 a c
adds_two so a b c first second untoured none one two joins more = record {
  more = first ∷ second ∷ [];
  is = both_are a b c (first ∷ []) (second ∷ []) joins more;
  few = few_both 1 1 0 0 (first ∷ []) (second ∷ []) (few_one 0 first (no_tour first untoured)) (few_one 0 second (no_tour second none));
  caused = λ entry added at here caused.
      subst (λ (items : List Record). AreCaused a.town entry items) (append_assoc added (first ∷ []) (second ∷ []))
      (each_of_more (IsCaused a.town entry) (added ++ first ∷ []) second (each_of_more (IsCaused a.town entry) added first caused (one entry added at here)) (two entry added at here));
}
  where
    no_tour : (item : Record) → is_tour item ≡ false → cond (is_tour item) 1 0 ≤ 0
    no_tour item none = subst (λ (t : Bool). cond t 1 0 ≤ 0) (sym none) (omega arith)

-- the same list behind it
pub where_same : (so : List Record → Type 0) (m t : ℕ) (a b c : KeepState) → c.records ≡ b.records → AddsWhere so m t a b → AddsWhere so m t a c
where_same so m t a b c same adds = record {
  more = adds.more;
  is = same ∙ adds.is;
  few = adds.few;
  caused = adds.caused;
}

-- a record that needs no cause
pub adds_free : (t : ℕ) (a b : KeepState) (item : Record) → cond (is_tour item) 1 0 ≤ t → ((entry added : List Record) → IsCaused a.town entry added item) → AddsAtMost item a b → Adds 1 t a b
adds_free t a b item tour cause (inl joins) = adds_one (λ _. ⊤) t a b item tour (λ entry added at here. cause entry added) joins
adds_free t a b item tour cause (inr same) = adds_none (λ _. ⊤) 1 t a b same

pub tour_at_most : (a b : KeepState) (cost : ℕ) (steps : List Step) → AddsAtMost (Tour cost steps) a b → AddsTourAtMost a b
tour_at_most a b cost steps (inl joins) = inl (cost, steps, joins)
tour_at_most a b cost steps (inr same) = inr same

pub tour_then_same : (a b c : KeepState) → c.records ≡ b.records → AddsTourAtMost a b → AddsTourAtMost a c
tour_then_same a b c same (inl (cost, steps, joins)) = inl (cost, steps, same ∙ joins)
tour_then_same a b c same (inr stays) = inr (same ∙ stays)

pub adds_tour : (a b : KeepState) → AddsTourAtMost a b → Adds 1 1 a b
adds_tour a b (inl (cost, steps, joins)) = adds_one (λ _. ⊤) 1 a b (Tour cost steps) (omega arith) (λ entry added at here. record {}) joins
adds_tour a b (inr same) = adds_none (λ _. ⊤) 1 1 a b same

-- ---- cuts

pub since_both : (added more : List Record) → cuts_since_split (added ++ more) ≡ fold count_since (cuts_since_split added) more
since_both added more = fold-append count_since 0 added more

-- cuts behind cuts
abbrev pub cuts_then : (k l m n t u : ℕ) (a b c : KeepState) → b.town ≡ a.town → AddsCuts k m t a b → AddsCuts l n u b c → AddsCuts (k + l) (m + n) (t + u) a c
cuts_then k l m n t u a b c town one two = record {
  adds = adds_then m n t u a b c town one.adds two.adds;
  cuts = λ added. omega (
    arith,
    one.cuts added,
    two.cuts (added ++ one.adds.more),
    ap cuts_since_split (append_assoc added one.adds.more two.adds.more),
  );
}

pub cuts_weaker : (k l m n t u : ℕ) (a b : KeepState) → l ≤ k → m ≤ n → t ≤ u → AddsCuts k m t a b → AddsCuts l n u a b
cuts_weaker k l m n t u a b less more many adds = record {
  adds = where_weaker (λ _. ⊤) m n t u a b more many adds.adds;
  cuts = λ added. omega (arith, less, adds.cuts added);
}

pub cuts_none : (m t : ℕ) (a b : KeepState) → b.records ≡ a.records → AddsCuts 0 m t a b
cuts_none m t a b same = record {
  adds = adds_none (λ _. ⊤) m t a b same;
  cuts = λ added. omega (arith, ap cuts_since_split (append-nil added));
}

-- a record that is no Split and needs no cause
pub cuts_free : (t : ℕ) (a b : KeepState) (item : Record) → cond (is_tour item) 1 0 ≤ t → is_split item ≡ false → is_cut item ≡ false → ((entry added : List Record) → IsCaused a.town entry added item) → AddsAtMost item a b → AddsCuts 0 1 t a b
cuts_free t a b item tour unsplit uncut cause (inl joins) = record {
  adds = adds_one (λ _. ⊤) t a b item tour (λ entry added at here. cause entry added) joins;
  cuts = λ added. omega (arith, since_more added item, same (cuts_since_split added) (is_split item) (is_cut item) refl refl);
}
  where
    same : (n : ℕ) (s c : Bool) → is_split item ≡ s → is_cut item ≡ c → count_since n item ≡ n
    same n s c is is_so = ap (λ (b : Bool). cond b 0 (cond (is_cut item) (suc n) n)) unsplit ∙ ap (λ (b : Bool). cond b (suc n) n) uncut
cuts_free t a b item tour unsplit uncut cause (inr same) = cuts_none 1 t a b same

-- ---- cuts alone

one_more : (n : ℕ) (item : Record) → is_cut item ≡ true → count_since n item ≡ suc n
one_more n (Conn r1 r2 set) cut = refl
one_more n (Odd set) cut = refl
one_more n (Round divisor mult) cut = refl
one_more n (Kc k of) cut = refl
one_more n item cut = absurd (false≢true cut)

pub only_count : (items : List Record) → All (λ item. is_cut item ≡ true) items → cuts_of items ≡ length items
only_count [] all = refl
only_count (item ∷ items) all =
    omega (
      arith,
      sum_by-cons (λ r. cond (is_cut r) 1 0) item items,
      ap {B = ℕ} (λ (t : Bool). cond t 1 0) (All-head (λ r. is_cut r ≡ true) item items all),
      only_count items (All-tail (λ r. is_cut r ≡ true) item items all),
    )

pub only_since : (n : ℕ) (items : List Record) → All (λ item. is_cut item ≡ true) items → fold count_since n items ≡ n + length items
only_since n [] all = omega arith
only_since n (item ∷ items) all =
    ap (λ (k : ℕ). fold count_since k items) (one_more n item (All-head (λ r. is_cut r ≡ true) item items all))
    ∙ only_since (suc n) items (All-tail (λ r. is_cut r ≡ true) item items all)
    ∙ omega arith

abbrev pub only_cuts : (least : ℕ) (a b : KeepState) → AddsOnlyCuts least a b → AddsCuts least 0 0 a b
only_cuts least a b only = record {
  adds = record {
    more = only.more;
    is = only.is;
    few = record {
      records = omega (arith, only_count only.more only.cuts);
      tours = omega (arith, only_count only.more only.cuts, count_by-le-length is_tour only.more);
    };
    caused = only.caused;
  };
  cuts = λ added. omega (arith, since_both added only.more, only_since (cuts_since_split added) only.more only.cuts, only.some);
}
