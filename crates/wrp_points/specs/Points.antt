-- The numbers of a point: pairs of an arc and its number.
use Rattle.std.specs.Prelude.{◌≡◌, ℕ, ◌*◌, ◌^◌, ◌<◌, ◌≤◌, true, List, length, drop, slice_index, Option}
use Rattle.std.specs.List.{All, list_all}
use Rattle.wrp_town.specs.declared.town.Town.{Town}
use Rattle.wrp_town.specs.Limits.{street_limit}
use Rattle.wrp_town.specs.Arcs.{is_legal}
use Rattle.wrp_rules.specs.declared.record.Record.TheVariants.{Point}
use Rattle.wrp_rules.specs.declared.rule.Rule.{Rule}
use Rattle.wrp_rules.specs.Nodes.{Standing}
use Rattle.wrp_rules.specs.Rules.{number_at, rules_of, first_broken}

-- the arcs are among the first of this number, and few, and their numbers are small
pub record AreNumbers (arcs : ℕ) (numbers : List (ℕ × ℕ)) : Type 0 where
  pub inside : All (λ q. q.0 < arcs) numbers
  pub small : All (λ q. q.1 ≤ 2 ^ 72) numbers
  pub few : length numbers ≤ 2 * street_limit

-- the arcs are legal
abbrev pub AreLegal : Town → List (ℕ × ℕ) → Type 0
AreLegal town numbers = list_all (λ q. is_legal town q.0) numbers ≡ true

-- the table has the number of each arc
abbrev pub HasNumbers : List (ℕ × ℕ) → List ℕ → Type 0
HasNumbers numbers table = (arc : ℕ) → slice_index table arc ≡ number_at numbers arc

-- the first rule that a point breaks behind Range and Closed, if it breaks one
abbrev pub rule_of_point : Town → Standing → ℕ → ℕ → List (ℕ × ℕ) → Option Rule
rule_of_point town s node denominator numbers =
    first_broken (drop 2 (rules_of town s (Point node denominator numbers)))
