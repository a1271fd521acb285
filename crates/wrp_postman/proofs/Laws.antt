-- What the sources tell decides what a check finds, want of memory and faults of a read apart.
use Rattle.std.proofs.Common.{◌≡◌, ◌∙◌, ℕ, ◌<◌, ◌⊎◌, inl, inr, List, length, Option, Some, IfSome, refl, sym, ap, subst, arith}
use Rattle.std.proofs.Math.Bool.{Bool-set}
use Rattle.std.proofs.Math.Bridge.{le_prop}
use Rattle.wrp_out.specs.Outside.{Input}
use Rattle.wrp_town.specs.declared.town.Town.{Town}
use Rattle.wrp_town.specs.declared.street.Street.{Street}
use Rattle.wrp_town.specs.Streets.{IsTown}
use Rattle.wrp_street.specs.declared.table.TableFault.{TableFault}
use Rattle.wrp_street.specs.Tables.{Table, table_in}
use Rattle.wrp_check.specs.Verdicts.{Verdict, verdict}
use Rattle.wrp_check.specs.Verdicts as verdicts
use Rattle.wrp_postman.specs.declared.status.Status.{Status}
use Rattle.wrp_postman.specs.declared.status.Status.TheVariants.{Accepted, ProofRefused, TableRefused, ReadFault, TooLong, Memory}
use Rattle.wrp_postman.specs.Outsides.{Sources}
use Rattle.wrp_postman.specs.Runs.{table_bytes, IsTownTable, HasFault, EndsAtTable, EndsAtProof, FindsCheck}

-- ---- a table is that of one town at most

town_once : (junctions : List (List ℕ)) (streets : List Street) → IsProp (IsTown junctions streets)
town_once junctions streets = hlevel (le_prop, Bool-set)

town_of_table : (table : Table) → IsTown table.junctions table.streets → Town
town_of_table table sound = record { junctions = table.junctions; streets = table.streets; well_formed = sound }

same_made : (a b : Table) (p : IsTown a.junctions a.streets) (q : IsTown b.junctions b.streets) → a ≡ b → town_of_table a p ≡ town_of_table b q
unfolding town_of_table
same_made a b p q e = subst (λ (t : Table). (w : IsTown t.junctions t.streets) → town_of_table a p ≡ town_of_table t w) e (λ w. ap (town_of_table a) (town_once a.junctions a.streets p w)) q

same_town : (a b : Town) → table_in a ≡ table_in b → a ≡ b
unfolding town_of_table
same_town a b e = same_made (table_in a) (table_in b) a.well_formed b.well_formed e

-- ---- the status that bytes lead to

-- neither want of memory nor a fault of a read
abbrev pub IsDecided : Status → Type 0
IsDecided ReadFault = ⊥
IsDecided Memory = ⊥
IsDecided status = Unit {0}

told_as : Verdict → Status
told_as (verdicts.Accepted end) = Accepted end
told_as (verdicts.Refused line rule) = ProofRefused line rule
told_as verdicts.Long = TooLong

Leads : List ℕ → List ℕ → Status → Type 0
Leads table proof status =
    ((table_bytes < length table) × (status ≡ TooLong))
    ⊎ (((fault : TableFault) × HasFault fault table × (status ≡ TableRefused fault))
    ⊎ ((town : Town) × IsTownTable town table × (status ≡ told_as (verdict town proof))))

at_table : (table proof : List ℕ) (status : Status) (old new : Input) → old.left ≡ Some table → IsDecided status → EndsAtTable status old new → Leads table proof status
unfolding Leads
at_table table proof TooLong old new is decided ends = inl (subst (λ (told : Option (List ℕ)). IfSome told (λ bytes. table_bytes < length bytes)) is ends, refl)
at_table table proof (TableRefused fault) old new is decided ends = inr (inl (fault, subst (λ (told : Option (List ℕ)). IfSome told (HasFault fault)) is ends.1, refl))
at_table table proof ReadFault old new is decided ends = absurd decided
at_table table proof Memory old new is decided ends = absurd decided
at_table table proof status old new is decided ends = absurd ends

module _ (table proof : List ℕ) (town : Town) (fits : IsTownTable town table) where
  by_verdict : (said : Verdict) (old : Input) → old.left ≡ Some proof → IfSome old.left (λ bytes. verdict town bytes ≡ said) → Leads table proof (told_as said)
  unfolding Leads
  by_verdict said old is judged =
      let same : verdict town proof ≡ said = subst (λ (told : Option (List ℕ)). IfSome told (λ bytes. verdict town bytes ≡ said)) is judged in
      inr (inr (town, fits, ap told_as (sym same)))

  at_proof : (status : Status) (old new : Input) → old.left ≡ Some proof → IsDecided status → EndsAtProof town status old new → Leads table proof status
  unfolding told_as
  at_proof (Accepted end) old new is decided ends = by_verdict (verdicts.Accepted end) old is ends.judged
  at_proof (ProofRefused line rule) old new is decided ends = by_verdict (verdicts.Refused line rule) old is ends
  at_proof TooLong old new is decided ends = by_verdict verdicts.Long old is ends
  at_proof ReadFault old new is decided ends = absurd decided
  at_proof Memory old new is decided ends = absurd decided
  at_proof status old new is decided ends = absurd ends

one_status : (table proof : List ℕ) (a b : Status) → Leads table proof a → Leads table proof b → a ≡ b
unfolding Leads
one_status table proof a b (inl (long, is)) (inl (far, also)) = is ∙ sym also
one_status table proof a b (inl (long, is)) (inr (inl (fault, has, also))) = absurd (omega (arith, long, has.short))
one_status table proof a b (inl (long, is)) (inr (inr (town, fits, also))) = absurd (omega (arith, long, fits.short))
one_status table proof a b (inr (inl (fault, has, is))) (inl (long, also)) = absurd (omega (arith, long, has.short))
one_status table proof a b (inr (inl (fault, has, is))) (inr (inl (other, had, also))) = cc (has.first, had.first)
one_status table proof a b (inr (inl (fault, has, is))) (inr (inr (town, fits, also))) = cc (has.first, fits.table)
one_status table proof a b (inr (inr (town, fits, is))) (inl (long, also)) = absurd (omega (arith, long, fits.short))
one_status table proof a b (inr (inr (town, fits, is))) (inr (inl (fault, has, also))) = cc (has.first, fits.table)
one_status table proof a b (inr (inr (town, fits, is))) (inr (inr (other, fit, also))) =
    let tables : table_in town ≡ table_in other = cc (fits.table, fit.table) in
    let same : town ≡ other = same_town town other tables in
    is ∙ (ap (λ (t : Town). told_as (verdict t proof)) same ∙ sym also)

-- ---- the law

-- the sources tell these bytes
pub record TellBytes (table proof : List ℕ) (old : Sources) : Type 0 where
  pub streets : old.streets.left ≡ Some table
  pub proof_in : old.proof_in.left ≡ Some proof

leads : (table proof : List ℕ) (status : Status) (old new : Sources) → TellBytes table proof old → IsDecided status → FindsCheck status old new → Leads table proof status
leads table proof status old new told decided (inl ends) = at_table table proof status old.streets new.streets told.streets decided ends
leads table proof status old new told decided (inr (town, fits, ends)) =
    at_proof table proof town (subst (λ (t : Option (List ℕ)). IfSome t (IsTownTable town)) told.streets fits) status old.proof_in new.proof_in told.proof_in decided ends

-- two checks of the same bytes find the same
pub one_finding : (table proof : List ℕ) (a b : Status) (old_a new_a old_b new_b : Sources) → TellBytes table proof old_a → TellBytes table proof old_b → IsDecided a → IsDecided b → FindsCheck a old_a new_a → FindsCheck b old_b new_b → a ≡ b
one_finding table proof a b old_a new_a old_b new_b told_a told_b decided_a decided_b finds_a finds_b =
    one_status table proof a b (leads table proof a old_a new_a told_a decided_a finds_a) (leads table proof b old_b new_b told_b decided_b finds_b)
