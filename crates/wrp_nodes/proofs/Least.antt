-- The least bound of open nodes, one node after the other.
use Rattle.std.proofs.Common.{◌≡◌, ℕ, ◌+◌, ◌<◌, ◌≤◌, Bool, true, false, cond, ℤ, pos, List, ◌∷◌, length, get_or, drop, filter, Option, Some, None, ap, refl, sym, ◌∙◌, arith}
use Rattle.std.specs.Int.{int_min}
use Rattle.std.specs.Option.{option_map_or}
use Rattle.std.proofs.lemmas.Int.{ints, int_min_is}
use Rattle.std.proofs.lemmas.List.{at_drop_more, at_drop_all}
use Rattle.wrp_rules.specs.Nodes.{Node, is_open, least_bound}

-- a bound, and the least of others
abbrev pub with_bound_of : ℤ → Option ℤ → Option ℤ
with_bound_of bound least = Some (option_map_or (int_min bound) least bound)

-- the least of two, of which either may be missing
abbrev pub least_of : Option ℤ → Option ℤ → Option ℤ
least_of None other = other
least_of (Some bound) other = with_bound_of bound other

pub least_of-none : (least : Option ℤ) → least_of least None ≡ least
least_of-none None = refl
least_of-none (Some bound) = refl

min_turns : (a b : ℤ) → int_min a b ≡ int_min b a
min_turns a b = omega (arith, ints, int_min_is a b, int_min_is b a)

min_groups : (a b c : ℤ) → int_min (int_min a b) c ≡ int_min b (int_min a c)
min_groups a b c = omega (arith, ints, int_min_is (int_min a b) c, int_min_is a b, int_min_is b (int_min a c), int_min_is a c)

-- one more bound goes from the one to the other
pub least_of-more : (bound : ℤ) (least rest : Option ℤ) → least_of (with_bound_of bound least) rest ≡ least_of least (with_bound_of bound rest)
least_of-more bound None rest = refl
least_of-more bound (Some x) None = ap (λ (z : ℤ). Some z) (min_turns bound x)
least_of-more bound (Some x) (Some y) = ap (λ (z : ℤ). Some z) (min_groups bound x y)

-- the least bound of the nodes from one place on
abbrev pub least_from : Option ℕ → List Node → ℕ → Option ℤ
least_from upper nodes i = least_bound (filter (is_open upper) (drop i nodes))

least_choice : (t : Bool) (node : Node) (nodes : List Node) → least_bound (cond t (node ∷ nodes) nodes) ≡ cond t (with_bound_of node.bound (least_bound nodes)) (least_bound nodes)
least_choice true node nodes = refl
least_choice false node nodes = refl

pub least_from_more : (upper : Option ℕ) (nodes : List Node) (i : ℕ) (d : Node) → i < length nodes → least_from upper nodes i ≡ cond (is_open upper (get_or nodes i d)) (with_bound_of (get_or nodes i d).bound (least_from upper nodes (i + 1))) (least_from upper nodes (i + 1))
least_from_more upper nodes i d below =
    at_drop_more (λ (xs : List Node). least_bound (filter (is_open upper) xs)) nodes i d below
    ∙ least_choice (is_open upper (get_or nodes i d)) (get_or nodes i d) (filter (is_open upper) (drop (i + 1) nodes))

-- an open node is taken, another is passed by, and at the end the least is that of all
pub least_taken : (upper : Option ℕ) (nodes : List Node) (i : ℕ) (d : Node) (least : Option ℤ) → i < length nodes → is_open upper (get_or nodes i d) ≡ true → least_of (with_bound_of (get_or nodes i d).bound least) (least_from upper nodes (i + 1)) ≡ least_of least (least_from upper nodes i)
least_taken upper nodes i d least below told =
    let bound = (get_or nodes i d).bound in
    let rest = least_from upper nodes (i + 1) in
    least_of-more bound least rest
    ∙ ap (λ (z : Option ℤ). least_of least z) (sym (least_from_more upper nodes i d below ∙ ap (λ (t : Bool). cond t (with_bound_of bound rest) rest) told))

pub least_passed : (upper : Option ℕ) (nodes : List Node) (i : ℕ) (d : Node) (least : Option ℤ) → i < length nodes → is_open upper (get_or nodes i d) ≡ false → least_of least (least_from upper nodes (i + 1)) ≡ least_of least (least_from upper nodes i)
least_passed upper nodes i d least below told =
    let bound = (get_or nodes i d).bound in
    let rest = least_from upper nodes (i + 1) in
    ap (λ (z : Option ℤ). least_of least z) (sym (least_from_more upper nodes i d below ∙ ap (λ (t : Bool). cond t (with_bound_of bound rest) rest) told))

pub least_of_all : (upper : Option ℕ) (nodes : List Node) (i : ℕ) (least : Option ℤ) → length nodes ≤ i → least_of least (least_from upper nodes i) ≡ least
least_of_all upper nodes i least past =
    ap (λ (z : Option ℤ). least_of least z) (at_drop_all (λ (xs : List Node). least_bound (filter (is_open upper) xs)) nodes i past) ∙ least_of-none least

-- some node, for places past the end
abbrev pub no_node : Node
no_node = record { lo = λ arc. 0; hi = λ arc. 0; bound = pos 0; is_closed = false }
