-- Laws of lists of nodes: one changed, one more at the end, one set.
use Rattle.std.proofs.Common.{◌≡◌, ℕ, zero, suc, ◌<◌, List, [], ◌∷◌, ◌++◌, length, get_or, set, ap, refl, arith}
use Rattle.wrp_rules.specs.Nodes.{Node, changed}

-- what an item keeps in the place of another, the list keeps
pub set_keeps : {X Y : Type 0} (f : X → Y) (xs : List X) (i j : ℕ) (x d : X) → f x ≡ f (get_or xs i d) → f (get_or (set xs i x) j d) ≡ f (get_or xs j d)
set_keeps f [] i j x d same = refl
set_keeps f (y ∷ xs) zero zero x d same = same
set_keeps f (y ∷ xs) zero (suc j) x d same = refl
set_keeps f (y ∷ xs) (suc i) zero x d same = refl
set_keeps f (y ∷ xs) (suc i) (suc j) x d same = set_keeps f xs i j x d same

pub length-changed : (change : Node → Node) (i : ℕ) (nodes : List Node) → length (changed change i nodes) ≡ length nodes
length-changed change i [] = refl
length-changed change zero (node ∷ nodes) = refl
length-changed change (suc i) (node ∷ nodes) = ap suc (length-changed change i nodes)

-- what a change keeps of each node, it keeps of all
pub changed_keeps : {X : Type 0} (f : Node → X) (change : Node → Node) → ((n : Node) → f (change n) ≡ f n) → (i j : ℕ) (nodes : List Node) (d : Node) → f (get_or (changed change i nodes) j d) ≡ f (get_or nodes j d)
changed_keeps f change keeps i j [] d = refl
changed_keeps f change keeps zero zero (node ∷ nodes) d = keeps node
changed_keeps f change keeps zero (suc j) (node ∷ nodes) d = refl
changed_keeps f change keeps (suc i) zero (node ∷ nodes) d = refl
changed_keeps f change keeps (suc i) (suc j) (node ∷ nodes) d = changed_keeps f change keeps i j nodes d

-- a change of one of the first nodes
pub changed-append : (change : Node → Node) (i : ℕ) (nodes more : List Node) → i < length nodes → changed change i (nodes ++ more) ≡ changed change i nodes ++ more
changed-append change i [] more below = absurd (omega arith)
changed-append change zero (node ∷ nodes) more below = refl
changed-append change (suc i) (node ∷ nodes) more below = ap (λ (xs : List Node). node ∷ xs) (changed-append change i nodes more (omega arith))

-- the item after those of a list
pub get_or_next : {X : Type 0} (xs : List X) (x d : X) (i : ℕ) → i ≡ length xs → get_or (xs ++ x ∷ []) i d ≡ x
get_or_next [] x d zero e = refl
get_or_next [] x d (suc i) e = absurd (omega arith)
get_or_next (y ∷ xs) x d zero e = absurd (omega arith)
get_or_next (y ∷ xs) x d (suc i) e = get_or_next xs x d i (omega arith)
