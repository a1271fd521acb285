-- The rules that a record keeps where none is broken, and a tour that is there.
use Rattle.std.proofs.Common.{◌≡◌, ℕ, zero, suc, Bool, true, false, List, [], ◌∷◌, get_or, is_none, refl}
use Rattle.std.proofs.lemmas.Bool.{false≢true}
use Rattle.wrp_town.specs.declared.street.Step.{Step}
use Rattle.wrp_town.specs.declared.town.Town.{Town}
use Rattle.wrp_town.specs.Walks.{is_tour, walk_cost}
use Rattle.wrp_rules.specs.declared.record.Record.{Record}
use Rattle.wrp_rules.specs.declared.rule.Rule.{Rule}
use Rattle.wrp_rules.specs.declared.rule.Rule.TheVariants as rules
use Rattle.wrp_rules.specs.Nodes.{Standing}
use Rattle.wrp_rules.specs.Rules.{common_rules, first_broken, rules_of}

-- each rule is kept where none is broken
pub rules_kept : (tried : List (Rule × Bool)) → is_none (first_broken tried) ≡ true → (k : ℕ) → (get_or tried k (rules.Number, true)).1 ≡ true
rules_kept [] sound k = refl
rules_kept ((rule, true) ∷ tried) sound zero = refl
rules_kept ((rule, true) ∷ tried) sound (suc k) = rules_kept tried sound k
rules_kept ((rule, false) ∷ tried) sound k = absurd (false≢true sound)

-- all rules of a record, in the order in which they are tried
abbrev pub all_rules : Town → Standing → Record → List (Rule × Bool)
all_rules town s item = common_rules s item (rules_of town s item)

-- a tour of this cost is there
pub record HasTour (town : Town) (cost : ℕ) : Type 0 where
  pub tour : List Step
  pub serves : is_tour town tour ≡ true
  pub attained : walk_cost town tour ≡ cost
