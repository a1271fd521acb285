-- The entries of the open nodes, as nodes change.
use Rattle.std.proofs.Common.{◌≡◌, ℕ, zero, suc, ◌+◌, ◌<◌, ◌≤◌, Bool, true, false, cond, not, ◌&&◌, ◌==◌, ℤ, pos, ◌≤ℤ◌, int_lt, int_le, ◌⊎◌, inl, inr, List, [], ◌∷◌, ◌++◌, length, get_or, filter, Contains, Option, Some, None, ap, refl, sym, ◌∙◌, subst, arith}
use Rattle.std.specs.Option.{option_map_or}
use Rattle.std.specs.Int.{int_min}
use Rattle.std.specs.List.{All}
use Rattle.std.specs.List.Sorted.{IsPermutation}
use Rattle.std.proofs.lemmas.Bool.{and_parts, and_from, eqb-true, eq-eqb, ne_eqb, false≢true, cases_eq}
use Rattle.std.proofs.lemmas.Int.{ints, int_min_is}
use Rattle.std.proofs.lemmas.List.{get_or_default}
use Rattle.std.proofs.lemmas.List.Sums.{sum_by-cons}
use Rattle.std.proofs.lemmas.List.Sorted.{sum_by_pushed, sum_by_popped}
use Rattle.wrp_sums.proofs.Integers.{tests}
use Rattle.wrp_town.specs.declared.town.Town.{Town}
use Rattle.wrp_rules.specs.Nodes.{Node, root, is_below, is_open, changed, closed, with_bound, least_bound}
use Rattle.wrp_nodes.specs.Kept.{node_in}
use Rattle.wrp_tree.specs.declared.entries.Entry.{Entry}
use Rattle.wrp_tree.specs.Entries.{is_before, AreAscending, IsIndexOf, AreCutBelow}
use Rattle.wrp_tree.specs.Indexes.{IsFirst, done_of}
use Rattle.wrp_tree.proofs.Places.{less_from}
use Rattle.wrp_tree.proofs.Sums.{given, sum_changed, sum_append, sum_at, sum_of_none, sum_cut, some_positive, none_positive, some_open, item_at, zero_plus, sum_of_ones, open_and_done}

-- ---- which nodes have an entry

-- 1 for one number, 0 for others; 1 for one number and bound, 0 for others
abbrev one_number : ℕ → ℕ → ℤ → ℕ
one_number j n b = cond (n == j) 1 0

abbrev one_entry : ℕ → ℤ → ℕ → ℤ → ℕ
one_entry j x n b = cond ((n == j) && (int_le b x && int_le x b)) 1 0

same_int : (a b : ℤ) → int_le a b ≡ true → int_le b a ≡ true → a ≡ b
same_int a b first second = omega (arith, tests, first, second)

le_itself : (a : ℤ) → int_le a a ≡ true
le_itself a = by (int_le a a) refl
  where
    by : (t : Bool) → int_le a a ≡ t → int_le a a ≡ true
    by true h = h
    by false h = absurd (omega (arith, tests, h))

-- an open node has an entry
pub entry_there : (upper : Option ℕ) (nodes : List Node) (entries : List Entry) (j : ℕ) (d : Node) → IsIndexOf upper nodes entries → j < length nodes → is_open upper (get_or nodes j d) ≡ true
    → Contains entries (record { bound = (get_or nodes j d).bound; node = j })
entry_there upper nodes entries j d index below told = (found.0, found.1, same found.2)
  where
    bound : ℤ
    bound = (get_or nodes j d).bound

    own : Entry
    own = record { bound = bound; node = j }

    gives : given (one_entry j bound) upper j (get_or nodes j d) ≡ 1
    gives =
        ap (λ (t : Bool). cond t (one_entry j bound j bound) 0) told
        ∙ ap (λ (t : Bool). cond t 1 0) (and_from (j == j) (int_le bound bound && int_le bound bound) (eq-eqb j j refl) (and_from (int_le bound bound) (int_le bound bound) (le_itself bound) (le_itself bound)))

    found : (k : ℕ) × (k < length entries) × (0 < one_entry j bound (get_or entries k own).node (get_or entries k own).bound)
    found = some_positive (λ e. one_entry j bound e.node e.bound) entries own (omega (arith, gives, sum_at (one_entry j bound) upper 0 j j nodes d (omega arith) below, index.same (one_entry j bound)))

    positive : (t : Bool) → 0 < cond t 1 0 → t ≡ true
    positive true some = refl
    positive false some = absurd (omega arith)

    same : 0 < one_entry j bound (get_or entries found.0 own).node (get_or entries found.0 own).bound → get_or entries found.0 own ≡ own
    same some =
        let e = get_or entries found.0 own in
        let both = and_parts (e.node == j) (int_le e.bound bound && int_le bound e.bound) (positive ((e.node == j) && (int_le e.bound bound && int_le bound e.bound)) some) in
        let bounds = and_parts (int_le e.bound bound) (int_le bound e.bound) both.1 in
        ap (λ (x : ℤ). record { bound = x; node = e.node }) (same_int e.bound bound bounds.0 bounds.1)
        ∙ ap (λ (n : ℕ). record { bound = bound; node = n }) (eqb-true e.node j both.0)

-- an entry is that of an open node
pub record IsEntry (upper : Option ℕ) (nodes : List Node) (e : Entry) : Type 0 where
  pub there : e.node < length nodes
  pub told : (d : Node) → is_open upper (get_or nodes e.node d) ≡ true
  pub bound : (d : Node) → (get_or nodes e.node d).bound ≡ e.bound

pub entry_open : (upper : Option ℕ) (nodes : List Node) (entries : List Entry) (k : ℕ) (e : Entry) (d : Node) → IsIndexOf upper nodes entries → k < length entries → IsEntry upper nodes (get_or entries k e)
entry_open upper nodes entries k e d index below = record {
  there = omega (arith, found.1, number);
  told = λ x. subst (λ (n : Node). is_open upper n ≡ true) (here x) found.2;
  bound = λ x. ap (λ (n : Node). n.bound) (sym (here x)) ∙ same_int (get_or nodes found.0 d).bound own.bound bounds.0 bounds.1;
}
  where
    own : Entry
    own = get_or entries k e

    gives : one_entry own.node own.bound own.node own.bound ≡ 1
    gives = ap (λ (t : Bool). cond t 1 0) (and_from (own.node == own.node) (int_le own.bound own.bound && int_le own.bound own.bound) (eq-eqb own.node own.node refl) (and_from (int_le own.bound own.bound) (int_le own.bound own.bound) (le_itself own.bound) (le_itself own.bound)))

    found : (n : ℕ) × (n < length nodes) × (is_open upper (get_or nodes n d) ≡ true) × (0 < one_entry own.node own.bound n (get_or nodes n d).bound)
    found =
        let some = some_open (one_entry own.node own.bound) upper 0 nodes d (omega (arith, gives, item_at (λ e. one_entry own.node own.bound e.node e.bound) entries k e below, index.same (one_entry own.node own.bound))) in
        (some.0, some.1, some.2, subst (λ (n : ℕ). 0 < one_entry own.node own.bound n (get_or nodes some.0 d).bound) (zero_plus some.0) some.3)

    positive : (t : Bool) → 0 < cond t 1 0 → t ≡ true
    positive true some = refl
    positive false some = absurd (omega arith)

    both : ((found.0 == own.node) ≡ true) × ((int_le (get_or nodes found.0 d).bound own.bound && int_le own.bound (get_or nodes found.0 d).bound) ≡ true)
    both = and_parts (found.0 == own.node) (int_le (get_or nodes found.0 d).bound own.bound && int_le own.bound (get_or nodes found.0 d).bound) (positive ((found.0 == own.node) && (int_le (get_or nodes found.0 d).bound own.bound && int_le own.bound (get_or nodes found.0 d).bound)) found.3)

    bounds : (int_le (get_or nodes found.0 d).bound own.bound ≡ true) × (int_le own.bound (get_or nodes found.0 d).bound ≡ true)
    bounds = and_parts (int_le (get_or nodes found.0 d).bound own.bound) (int_le own.bound (get_or nodes found.0 d).bound) both.1

    number : found.0 ≡ own.node
    number = eqb-true found.0 own.node both.0

    here : (x : Node) → get_or nodes found.0 d ≡ get_or nodes own.node x
    here x = get_or_default nodes found.0 d x found.1 ∙ ap (λ (n : ℕ). get_or nodes n x) number

-- a number that no open node has has no entry
pub no_entry : (upper : Option ℕ) (nodes : List Node) (entries : List Entry) (j : ℕ) → IsIndexOf upper nodes entries → ((d : Node) → j < length nodes → is_open upper (get_or nodes j d) ≡ false) → All (λ e. (e.node == j) ≡ false) entries
no_entry upper nodes entries j index none k d below =
    zero_test ((get_or entries k d).node == j) (none_positive (λ e. one_number j e.node e.bound) entries (index.same (one_number j) ∙ sum_of_none (one_number j) upper 0 nodes nothing) k d below)
  where
    zero_test : (t : Bool) → cond t (suc zero) zero ≡ zero → t ≡ false
    zero_test true is = absurd (omega (arith, is))
    zero_test false is = refl

    nothing : (n : ℕ) (d : Node) → n < length nodes → given (one_number j) upper (0 + n) (get_or nodes n d) ≡ 0
    nothing n d inside = by (cases_eq n j)
      where
        by : (n ≡ j) ⊎ (n ≡ j → ⊥) → given (one_number j) upper (0 + n) (get_or nodes n d) ≡ 0
        by (inl same) = ap (λ (t : Bool). cond t (one_number j (0 + n) (get_or nodes n d).bound) 0) (subst (λ (m : ℕ). is_open upper (get_or nodes m d) ≡ false) (sym same) (none d (omega (arith, same))))
        by (inr differs) = either (is_open upper (get_or nodes n d)) ((0 + n) == j) (ne_eqb (0 + n) j (λ same. differs (omega (arith, same))))
          where
            either : (t u : Bool) → u ≡ false → cond t (cond u 1 0) (zero) ≡ zero
            either true u is = ap (λ (u : Bool). cond u 1 zero) is
            either false u is = refl

-- ---- changes

-- what an open node and a closed one give
open_gives : (f : ℕ → ℤ → ℕ) (upper : Option ℕ) (i : ℕ) (node : Node) → is_open upper node ≡ true → given f upper i node ≡ f i node.bound
open_gives f upper i node told = ap (λ (t : Bool). cond t (f i node.bound) 0) told

pub index_closed : (upper : Option ℕ) (nodes : List Node) (old new : List Entry) (j : ℕ) (d : Node) → IsIndexOf upper nodes old → j < length nodes → is_open upper (get_or nodes j d) ≡ true
    → AreAscending new → IsPermutation old (record { bound = (get_or nodes j d).bound; node = j } ∷ new) → IsIndexOf upper (changed closed j nodes) new
index_closed upper nodes old new j d index below told ascending others = record {
  ascending = ascending;
  same = λ f. omega (arith, sum_by_popped (λ e. f e.node e.bound) (record { bound = (get_or nodes j d).bound; node = j }) old new others, index.same f, sum_changed f upper closed 0 j j nodes d (omega arith) below, open_gives f upper j (get_or nodes j d) told);
}

-- the node of a changed list
pub changed_here : (change : Node → Node) (j : ℕ) (nodes : List Node) (d : Node) → j < length nodes → get_or (changed change j nodes) j d ≡ change (get_or nodes j d)
changed_here change j [] d below = absurd (omega arith)
changed_here change zero (node ∷ nodes) d below = refl
changed_here change (suc j) (node ∷ nodes) d below = changed_here change j nodes d (omega arith)

-- a closed node has no entry
pub closed_gone : (upper : Option ℕ) (nodes : List Node) (entries : List Entry) (j : ℕ) → IsIndexOf upper (changed closed j nodes) entries → j < length nodes → All (λ e. (e.node == j) ≡ false) entries
closed_gone upper nodes entries j index below =
    no_entry upper (changed closed j nodes) entries j index (λ d inside. ap (is_open upper) (changed_here closed j nodes d below))

-- a node with a new bound gives what it gives for that bound, where that is below upper
raised_gives : (f : ℕ → ℤ → ℕ) (upper : Option ℕ) (i : ℕ) (node : Node) (bound : ℤ) → is_open upper node ≡ true → given f upper i (with_bound bound node) ≡ cond (is_below bound upper) (f i bound) 0
raised_gives f upper i node bound told = by node.is_closed refl
  where
    clash : (t u : Bool) → t ≡ true → (not t && u) ≡ true → ⊥
    clash true u is both = false≢true both
    clash false u is both = false≢true is

    by : (t : Bool) → node.is_closed ≡ t → given f upper i (with_bound bound node) ≡ cond (is_below bound upper) (f i bound) 0
    by true is = absurd (clash node.is_closed (is_below node.bound upper) is told)
    by false is = ap (λ (t : Bool). cond (not t && is_below bound upper) (f i bound) 0) is

module _ (upper : Option ℕ) (nodes : List Node) (mid : List Entry) (j : ℕ) (d : Node) (bound : ℤ) (index : IsIndexOf upper (changed closed j nodes) mid) (below : j < length nodes) (told : is_open upper (get_or nodes j d) ≡ true) where
  pub index_raised : (new : List Entry) → is_below bound upper ≡ true → AreAscending new → IsPermutation (record { bound = bound; node = j } ∷ mid) new → IsIndexOf upper (changed (with_bound bound) j nodes) new
  index_raised new low ascending others = record {
    ascending = ascending;
    same = λ f.
        let opened = raised_gives f upper j (get_or nodes j d) bound told ∙ ap (λ (t : Bool). cond t (f j bound) 0) low in
        omega (arith, sum_by_pushed (λ e. f e.node e.bound) (record { bound = bound; node = j }) mid new others, index.same f, sum_changed f upper closed 0 j j nodes d (omega arith) below, sum_changed f upper (with_bound bound) 0 j j nodes d (omega arith) below, opened);
  }

  pub index_raised_out : is_below bound upper ≡ false → IsIndexOf upper (changed (with_bound bound) j nodes) mid
  index_raised_out high = record {
    ascending = index.ascending;
    same = λ f.
        let opened = raised_gives f upper j (get_or nodes j d) bound told ∙ ap (λ (t : Bool). cond t (f j bound) 0) high in
        omega (arith, index.same f, sum_changed f upper closed 0 j j nodes d (omega arith) below, sum_changed f upper (with_bound bound) 0 j j nodes d (omega arith) below, opened);
  }

-- one more open node
pub index_pushed : (upper : Option ℕ) (nodes : List Node) (node : Node) (old new : List Entry) → IsIndexOf upper nodes old → is_open upper node ≡ true → AreAscending new
    → IsPermutation (record { bound = node.bound; node = length nodes } ∷ old) new → IsIndexOf upper (nodes ++ node ∷ []) new
index_pushed upper nodes node old new index told ascending others = record {
  ascending = ascending;
  same = λ f. omega (arith, sum_by_pushed (λ e. f e.node e.bound) (record { bound = node.bound; node = length nodes }) old new others, index.same f, sum_append f upper 0 (length nodes) nodes (node ∷ []) (omega arith), open_gives f upper (length nodes) node told);
}

-- the same of an entry with its bound and number
pub index_next : (upper : Option ℕ) (nodes : List Node) (node : Node) (e : Entry) (old new : List Entry) → IsIndexOf upper nodes old → is_open upper node ≡ true → e.bound ≡ node.bound → e.node ≡ length nodes → AreAscending new
    → IsPermutation (e ∷ old) new → IsIndexOf upper (nodes ++ node ∷ []) new
index_next upper nodes node e old new index told bound number ascending others =
    let same : e ≡ record { bound = node.bound; node = length nodes } = ap (λ (z : ℤ). record { bound = z; node = e.node }) bound ∙ ap (λ (n : ℕ). record { bound = node.bound; node = n }) number in
    index_pushed upper nodes node old new index told ascending (subst (λ (x : Entry). IsPermutation (x ∷ old) new) same others)

-- the root alone
pub index_root : (town : Town) (entries : List Entry) → entries ≡ record { bound = pos 0; node = 0 } ∷ [] → IsIndexOf None (root town ∷ []) entries
index_root town entries is = subst (IsIndexOf None (root town ∷ [])) (sym is) (record {
  ascending = λ i j d less below. absurd (omega arith);
  same = λ f. omega (arith, sum_by-cons (λ (e : Entry). f e.node e.bound) (record { bound = pos 0; node = 0 }) []);
})

-- its number had no entry before
pub next_gone : (upper : Option ℕ) (nodes : List Node) (entries : List Entry) → IsIndexOf upper nodes entries → All (λ e. (e.node == length nodes) ≡ false) entries
next_gone upper nodes entries index = no_entry upper nodes entries (length nodes) index (λ d inside. absurd (omega arith))

-- a cheaper tour
pub index_cut : (upper : Option ℕ) (nodes : List Node) (cost : ℕ) (old new : List Entry) → IsIndexOf upper nodes old → is_below (pos cost) upper ≡ true → AreAscending new → AreCutBelow cost old new → IsIndexOf (Some cost) nodes new
index_cut upper nodes cost old new index low ascending cut = record {
  ascending = ascending;
  same = λ f. cut (λ e. f e.node e.bound) ∙ index.same (λ n b. cond (int_lt b (pos cost)) (f n b) 0) ∙ sym (sum_cut f upper cost 0 nodes low);
}

-- ---- what the entries tell

pub few_entries : (upper : Option ℕ) (nodes : List Node) (entries : List Entry) → IsIndexOf upper nodes entries → length entries + done_of upper nodes ≡ length nodes
few_entries upper nodes entries index = omega (arith, sum_of_ones entries, index.same (λ n b. 1), open_and_done upper 0 nodes)

-- none is open where there is no entry
pub none_first : (town : Town) (upper : Option ℕ) (nodes : List Node) (entries : List Entry) → IsIndexOf upper nodes entries → length entries ≡ 0 → IsFirst town nodes upper None
none_first town upper nodes entries index none node below = by (is_open upper (node_in town nodes node)) refl
  where
    by : (t : Bool) → is_open upper (node_in town nodes node) ≡ t → is_open upper (node_in town nodes node) ≡ false
    by false told = told
    by true told = let found = entry_there upper nodes entries node (root town) index below told in absurd (omega (arith, found.1, none))

-- the first entry is that of the first open node
pub some_first : (town : Town) (upper : Option ℕ) (nodes : List Node) (entries : List Entry) (e : Entry) → IsIndexOf upper nodes entries → 0 < length entries → get_or entries 0 e ≡ e → IsFirst town nodes upper (Some e)
some_first town upper nodes entries e index some is = (
  record {
    there = own.there;
    told = own.told (root town);
    least = λ other below told. (order other below told).0;
    lowest = λ other below told same. (order other below told).1 same;
  },
  sym (own.bound (root town)),
)
  where
    own : IsEntry upper nodes e
    own = subst (IsEntry upper nodes) is (entry_open upper nodes entries 0 e (root town) index some)

    other_entry : ℕ → Entry
    other_entry other = record { bound = (node_in town nodes other).bound; node = other }

    order : (other : ℕ) → other < length nodes → is_open upper (node_in town nodes other) ≡ true → ((node_in town nodes e.node).bound ≤ℤ (node_in town nodes other).bound) × ((node_in town nodes other).bound ≡ (node_in town nodes e.node).bound → e.node ≤ other)
    order other below told = by found.0 found.1 found.2
      where
        found : Contains entries (other_entry other)
        found = entry_there upper nodes entries other (root town) index below told

        by : (k : ℕ) → k < length entries → get_or entries k (other_entry other) ≡ other_entry other → ((node_in town nodes e.node).bound ≤ℤ (node_in town nodes other).bound) × ((node_in town nodes other).bound ≡ (node_in town nodes e.node).bound → e.node ≤ other)
        by zero inside same =
            let one : e ≡ other_entry other = sym is ∙ get_or_default entries 0 e (other_entry other) some ∙ same in
            (omega (arith, tests, own.bound (root town), ap (λ (x : Entry). x.bound) one), λ equal. omega (arith, ap (λ (x : Entry). x.node) one))
        by (suc k) inside same =
            let first : is_before (get_or entries 0 e) (get_or entries (suc k) e) ≡ true = index.ascending 0 (suc k) e (omega arith) inside in
            let second : get_or entries (suc k) e ≡ other_entry other = get_or_default entries (suc k) e (other_entry other) inside ∙ same in
            let before : is_before e (other_entry other) ≡ true = subst (λ (x : Entry). is_before e x ≡ true) second (subst (λ (x : Entry). is_before x (get_or entries (suc k) e) ≡ true) is first) in
            let less = less_from e (other_entry other) before in (
              omega (arith, tests, less.low, own.bound (root town)),
              λ equal. omega (arith, less.less (back (int_le (node_in town nodes other).bound e.bound) refl (equal ∙ own.bound (root town)))),
            )
          where
            back : (t : Bool) → int_le (node_in town nodes other).bound e.bound ≡ t → (node_in town nodes other).bound ≡ e.bound → int_le (node_in town nodes other).bound e.bound ≡ true
            back true h equal = h
            back false h equal = absurd (omega (arith, tests, h, equal))

-- ---- the least bound

-- no bound of these is below b
all_above : (test : Node → Bool) (nodes : List Node) (b : ℤ) → ((k : ℕ) (d : Node) → k < length nodes → test (get_or nodes k d) ≡ true → b ≤ℤ (get_or nodes k d).bound) → option_map_or (int_le b) (least_bound (filter test nodes)) true ≡ true
all_above test [] b above = refl
all_above test (node ∷ nodes) b above = by (test node) refl (all_above test nodes b (λ k d below told. above (suc k) d (omega arith) told))
  where
    by : (t : Bool) → test node ≡ t → option_map_or (int_le b) (least_bound (filter test nodes)) true ≡ true → option_map_or (int_le b) (least_bound (cond t (node ∷ filter test nodes) (filter test nodes))) true ≡ true
    by false told rest = rest
    by true told rest = with_rest (least_bound (filter test nodes)) rest (above 0 node (omega arith) told)
      where
        le_true : (x : ℤ) → b ≤ℤ x → int_le b x ≡ true
        le_true x low = cases (int_le b x) refl
          where
            cases : (t : Bool) → int_le b x ≡ t → int_le b x ≡ true
            cases true h = h
            cases false h = absurd (omega (arith, tests, h, low))

        with_rest : (o : Option ℤ) → option_map_or (int_le b) o true ≡ true → b ≤ℤ node.bound → int_le b (option_map_or (int_min node.bound) o node.bound) ≡ true
        with_rest None rest low = le_true node.bound low
        with_rest (Some x) rest low = le_true (int_min node.bound x) (omega (arith, tests, ints, int_min_is node.bound x, low, rest))

pub least_is : (test : Node → Bool) (nodes : List Node) (b : ℤ) (k : ℕ) (d : Node) → k < length nodes → test (get_or nodes k d) ≡ true → (get_or nodes k d).bound ≡ b
    → ((k : ℕ) (d : Node) → k < length nodes → test (get_or nodes k d) ≡ true → b ≤ℤ (get_or nodes k d).bound) → least_bound (filter test nodes) ≡ Some b
least_is test [] b k d below told is above = absurd (omega arith)
least_is test (node ∷ nodes) b zero d below told is above =
    ap (λ (t : Bool). least_bound (cond t (node ∷ filter test nodes) (filter test nodes))) told ∙ by (least_bound (filter test nodes)) (all_above test nodes b (λ k d below told. above (suc k) d (omega arith) told))
  where
    by : (o : Option ℤ) → option_map_or (int_le b) o true ≡ true → Some (option_map_or (int_min node.bound) o node.bound) ≡ Some b
    by None rest = ap (λ (x : ℤ). Some x) is
    by (Some x) rest = ap (λ (x : ℤ). Some x) (omega (arith, tests, ints, int_min_is node.bound x, is, rest))
least_is test (node ∷ nodes) b (suc k) d below told is above = by (test node) refl (least_is test nodes b k d (omega arith) told is (λ k d below told. above (suc k) d (omega arith) told))
  where
    by : (t : Bool) → test node ≡ t → least_bound (filter test nodes) ≡ Some b → least_bound (cond t (node ∷ filter test nodes) (filter test nodes)) ≡ Some b
    by false first rest = rest
    by true first rest = ap (λ (o : Option ℤ). Some (option_map_or (int_min node.bound) o node.bound)) rest ∙ ap (λ (x : ℤ). Some x) (omega (arith, tests, ints, int_min_is node.bound b, above 0 node (omega arith) first))

pub least_of_none : (test : Node → Bool) (nodes : List Node) → ((k : ℕ) (d : Node) → k < length nodes → test (get_or nodes k d) ≡ false) → least_bound (filter test nodes) ≡ None
least_of_none test [] none = refl
least_of_none test (node ∷ nodes) none = ap (λ (t : Bool). least_bound (cond t (node ∷ filter test nodes) (filter test nodes))) (none 0 node (omega arith)) ∙ least_of_none test nodes (λ k d below. none (suc k) d (omega arith))
