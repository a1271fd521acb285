-- Sums over the open nodes.
use Rattle.std.proofs.Common.{◌≡◌, ℕ, zero, suc, ◌+◌, ◌<◌, ◌≤◌, Bool, true, false, cond, not, ◌&&◌, ℤ, pos, int_lt, List, [], ◌∷◌, ◌++◌, length, get_or, Option, Some, None, ap, refl, ◌∙◌, subst, arith}
use Rattle.std.specs.List.{All, sum_by, count_by}
use Rattle.std.proofs.lemmas.List.Sums.{sum_by-cons}
use Rattle.wrp_sums.proofs.Integers.{tests}
use Rattle.wrp_rules.specs.Nodes.{Node, is_below, is_open, changed}
use Rattle.wrp_tree.specs.Entries.{sum_of_open}

-- what one node gives
abbrev pub given : (ℕ → ℤ → ℕ) → Option ℕ → ℕ → Node → ℕ
given f upper i node = cond (is_open upper node) (f i node.bound) 0

pub zero_plus : (k : ℕ) → 0 + k ≡ k
zero_plus k = omega arith

-- one node changed: n is its number
pub sum_changed : (f : ℕ → ℤ → ℕ) (upper : Option ℕ) (change : Node → Node) (i j n : ℕ) (nodes : List Node) (d : Node) → n ≡ i + j → j < length nodes
    → sum_of_open f upper i (changed change j nodes) + given f upper n (get_or nodes j d) ≡ sum_of_open f upper i nodes + given f upper n (change (get_or nodes j d))
sum_changed f upper change i j n [] d is below = absurd (omega arith)
sum_changed f upper change i zero n (node ∷ nodes) d is below =
    let same : n ≡ i = omega (arith, is) in
    let old = ap (λ (m : ℕ). given f upper m node) same in
    let new = ap (λ (m : ℕ). given f upper m (change node)) same in
    omega (arith, old, new)
sum_changed f upper change i (suc j) n (node ∷ nodes) d is below =
    let rest = sum_changed f upper change (i + 1) j n nodes d (omega (arith, is)) (omega arith) in
    omega (arith, rest)

-- more nodes behind: n is the number of the first of them
pub sum_append : (f : ℕ → ℤ → ℕ) (upper : Option ℕ) (i n : ℕ) (nodes more : List Node) → n ≡ i + length nodes → sum_of_open f upper i (nodes ++ more) ≡ sum_of_open f upper i nodes + sum_of_open f upper n more
sum_append f upper i n [] more is = let same : i ≡ n = omega (arith, is) in omega (arith, ap (λ (m : ℕ). sum_of_open f upper m more) same)
sum_append f upper i n (node ∷ nodes) more is =
    let rest = sum_append f upper (i + 1) n nodes more (omega (arith, is)) in
    omega (arith, rest)

-- one node gives no more than all
pub sum_at : (f : ℕ → ℤ → ℕ) (upper : Option ℕ) (i j n : ℕ) (nodes : List Node) (d : Node) → n ≡ i + j → j < length nodes → given f upper n (get_or nodes j d) ≤ sum_of_open f upper i nodes
sum_at f upper i j n [] d is below = absurd (omega arith)
sum_at f upper i zero n (node ∷ nodes) d is below = let same : n ≡ i = omega (arith, is) in omega (arith, ap (λ (m : ℕ). given f upper m node) same)
sum_at f upper i (suc j) n (node ∷ nodes) d is below =
    let rest = sum_at f upper (i + 1) j n nodes d (omega (arith, is)) (omega arith) in
    omega (arith, rest)

-- where no node gives anything
pub sum_of_none : (f : ℕ → ℤ → ℕ) (upper : Option ℕ) (i : ℕ) (nodes : List Node) → ((k : ℕ) (d : Node) → k < length nodes → given f upper (i + k) (get_or nodes k d) ≡ 0) → sum_of_open f upper i nodes ≡ 0
sum_of_none f upper i [] none = refl
sum_of_none f upper i (node ∷ nodes) none =
    let first = none 0 node (omega arith) in
    let same = ap (λ (n : ℕ). given f upper n node) (plus_zero) in
    let rest = sum_of_none f upper (i + 1) nodes (λ k d below. subst (λ (n : ℕ). given f upper n (get_or nodes k d) ≡ 0) (moved k) (none (suc k) d (omega arith))) in
    omega (arith, first, same, rest)
  where
    plus_zero : i + 0 ≡ i
    plus_zero = omega arith

    moved : (k : ℕ) → i + suc k ≡ (i + 1) + k
    moved k = omega arith

-- a cheaper tour closes those whose bounds aren't below its cost
below_more : (upper : Option ℕ) (cost : ℕ) (bound : ℤ) → is_below (pos cost) upper ≡ true → int_lt bound (pos cost) ≡ true → is_below bound upper ≡ true
below_more None cost bound is low = refl
below_more (Some most) cost bound is low = by (int_lt bound (pos most)) refl
  where
    by : (t : Bool) → int_lt bound (pos most) ≡ t → int_lt bound (pos most) ≡ true
    by true h = h
    by false h = absurd (omega (arith, tests, h, is, low))

pub sum_cut : (f : ℕ → ℤ → ℕ) (upper : Option ℕ) (cost : ℕ) (i : ℕ) (nodes : List Node) → is_below (pos cost) upper ≡ true
    → sum_of_open f (Some cost) i nodes ≡ sum_of_open (λ n b. cond (int_lt b (pos cost)) (f n b) 0) upper i nodes
sum_cut f upper cost i [] is = refl
sum_cut f upper cost i (node ∷ nodes) is =
    let rest = sum_cut f upper cost (i + 1) nodes is in
    let first = by node.is_closed (int_lt node.bound (pos cost)) (is_below node.bound upper) (below_more upper cost node.bound is) in
    omega (arith, rest, first)
  where
    by : (c t u : Bool) → (t ≡ true → u ≡ true) → cond (not c && t) (f i node.bound) 0 ≡ cond (not c && u) (cond t (f i node.bound) 0) 0
    by true t u goes = refl
    by false true true goes = refl
    by false true false goes = absurd (clash (goes refl))
      where
        clash : false ≡ true → ⊥
        clash e = cc
    by false false true goes = refl
    by false false false goes = refl

-- ---- sums over entries

pub some_positive : {X : Type 0} (f : X → ℕ) (xs : List X) (d : X) → 0 < sum_by f xs → (k : ℕ) × (k < length xs) × (0 < f (get_or xs k d))
some_positive f [] d some = absurd (omega arith)
some_positive f (x ∷ xs) d some = by (f x) refl (some_positive f xs d)
  where
    by : (n : ℕ) → f x ≡ n → (0 < sum_by f xs → (k : ℕ) × (k < length xs) × (0 < f (get_or xs k d))) → (k : ℕ) × (k < length (x ∷ xs)) × (0 < f (get_or (x ∷ xs) k d))
    by (suc n) is later = (0, omega arith, omega (arith, is))
    by zero is later =
        let rest = later (omega (arith, sum_by-cons f x xs, is)) in
        (suc rest.0, omega (arith, rest.1), rest.2)

pub none_positive : {X : Type 0} (f : X → ℕ) (xs : List X) → sum_by f xs ≡ 0 → All (λ x. f x ≡ 0) xs
none_positive f [] none k d below = absurd (omega arith)
none_positive f (x ∷ xs) none zero d below = omega (arith, sum_by-cons f x xs)
none_positive f (x ∷ xs) none (suc k) d below = none_positive f xs (omega (arith, sum_by-cons f x xs)) k d (omega arith)

pub sum_of_ones : {X : Type 0} (xs : List X) → sum_by (λ x. 1) xs ≡ length xs
sum_of_ones [] = refl
sum_of_ones (x ∷ xs) = sum_by-cons (λ x. 1) x xs ∙ omega (arith, sum_of_ones xs)

-- the open nodes and the others are all
pub open_and_done : (upper : Option ℕ) (i : ℕ) (nodes : List Node) → sum_of_open (λ n b. 1) upper i nodes + count_by (λ node. not (is_open upper node)) nodes ≡ length nodes
open_and_done upper i [] = refl
open_and_done upper i (node ∷ nodes) =
    let rest = open_and_done upper (i + 1) nodes in
    let more = sum_by-cons (λ node. cond (not (is_open upper node)) 1 0) node nodes in
    let one = by (is_open upper node) in
    omega (arith, rest, more, one)
  where
    by : (t : Bool) → cond t 1 0 + cond (not t) 1 0 ≡ 1
    by true = refl
    by false = refl

-- a sum that isn't 0 has an open node that gives something
abbrev pub SomeGives : (ℕ → ℤ → ℕ) → Option ℕ → ℕ → List Node → Node → Type 0
SomeGives f upper i nodes d = (k : ℕ) × (k < length nodes) × (is_open upper (get_or nodes k d) ≡ true) × (0 < f (i + k) (get_or nodes k d).bound)

pub some_open : (f : ℕ → ℤ → ℕ) (upper : Option ℕ) (i : ℕ) (nodes : List Node) (d : Node) → 0 < sum_of_open f upper i nodes → SomeGives f upper i nodes d
some_open f upper i [] d some = absurd (omega arith)
some_open f upper i (node ∷ nodes) d some = by (is_open upper node) (f i node.bound) refl refl (some_open f upper (i + 1) nodes d)
  where
    further : SomeGives f upper (i + 1) nodes d → SomeGives f upper i (node ∷ nodes) d
    further rest =
        let moved : (i + 1) + rest.0 ≡ i + suc rest.0 = omega arith in
        (suc rest.0, omega (arith, rest.1), rest.2, subst (λ (n : ℕ). 0 < f n (get_or nodes rest.0 d).bound) moved rest.3)

    by : (t : Bool) (n : ℕ) → is_open upper node ≡ t → f i node.bound ≡ n → (0 < sum_of_open f upper (i + 1) nodes → SomeGives f upper (i + 1) nodes d) → SomeGives f upper i (node ∷ nodes) d
    by true (suc n) told is later =
        let plus_zero : i ≡ i + 0 = omega arith in
        (0, omega arith, told, subst (λ (m : ℕ). 0 < f m node.bound) plus_zero (omega (arith, is)))
    by true zero told is later = further (later (omega (arith, is, ap (λ (t : Bool). cond t (f i node.bound) 0) told)))
    by false n told is later = further (later (omega (arith, ap (λ (t : Bool). cond t (f i node.bound) 0) told)))

-- an item gives no more than all
pub item_at : {X : Type 0} (f : X → ℕ) (xs : List X) (k : ℕ) (d : X) → k < length xs → f (get_or xs k d) ≤ sum_by f xs
item_at f [] k d below = absurd (omega arith)
item_at f (x ∷ xs) zero d below = omega (arith, sum_by-cons f x xs)
item_at f (x ∷ xs) (suc k) d below = omega (arith, sum_by-cons f x xs, item_at f xs k d (omega arith))
