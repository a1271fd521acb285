-- Searches along sides with room: nothing changes, a node gets a mark, one step after another.
use Rattle.std.proofs.Common.{◌≡◌, ◌≢◌, ℕ, ◌<◌, true, false, cond, min, List, [], ◌∷◌, ◌++◌, length, get_or, set, refl, sym, ap, ◌∙◌, subst, inl, inr, arith, Option, Some, None, is_some}
use Rattle.std.proofs.Math.ListN.{get_or-append}
use Rattle.std.specs.Prelude.{not}
use Rattle.std.specs.List.{Contains}
use Rattle.std.proofs.lemmas.Bool.{cases_eq, cases_lt, true≢false}
use Rattle.std.proofs.lemmas.Option.{none-some, same_Some}
use Rattle.std.proofs.lemmas.List.{get_or-set_same, get_or-set_other, length-set, length_push, get_or_past, get_or_default, get_or_read_under}
use Rattle.std.proofs.lemmas.List.Elements.{Contains-append_left, Contains-push, Contains-push_cases}
use Rattle.std.proofs.lemmas.List.Sums.{sum_by-set}
use Rattle.wrp_town.proofs.TownLaws.{some_value}
use Rattle.wrp_flow.specs.declared.net.Net.{Net}
use Rattle.wrp_flow.specs.declared.reach.Mark.{Mark}
use Rattle.wrp_flow.specs.Sides.{begin_in, end_in, sides}
use Rattle.wrp_flow.specs.Searches.{mark_at, is_marked, IsStep, IsClosed, IsSearch, IsDone, GoesOn}

pub marked_from : (marks : List (Option Mark)) (j : ℕ) (mark : Mark) → mark_at marks j ≡ Some mark → is_marked marks j ≡ true
marked_from marks j mark is = ap is_some is

pub still_marked : (marks new : List (Option Mark)) → ((j : ℕ) (mark : Mark) → mark_at marks j ≡ Some mark → mark_at new j ≡ Some mark) → (j : ℕ) → is_marked marks j ≡ true → is_marked new j ≡ true
still_marked marks new kept j has = let mark = some_value (mark_at marks j) has in ap is_some (kept j mark.0 mark.1)

module _ (net : Net) (room : List ℕ) where
  step_still : (marks new : List (Option Mark)) → ((j : ℕ) (mark : Mark) → mark_at marks j ≡ Some mark → mark_at new j ≡ Some mark) → (j : ℕ) (mark : Mark) → IsStep net room marks j mark → IsStep net room new j mark
  step_still marks new kept j mark is = record {
    inside = is.inside;
    ends = is.ends;
    from = is.from;
    begins = kept (begin_in net mark.side) is.from is.begins;
    earlier = is.earlier;
    fits = is.fits;
    least = is.least;
  }

  pub goes_on_same : (marks : List (Option Mark)) (queue : List ℕ) → GoesOn net room marks queue marks queue
  goes_on_same marks queue = record { long = refl; kept = λ j mark is. is; longer = omega arith; same = λ k below. refl; work = refl; search = λ from is. is }

  pub goes_on_join : (a b c : List (Option Mark)) (x y z : List ℕ) → GoesOn net room a x b y → GoesOn net room b y c z → GoesOn net room a x c z
  goes_on_join a b c x y z one two = record {
    long = two.long ∙ one.long;
    kept = λ j mark is. two.kept j mark (one.kept j mark is);
    longer = omega (arith, one.longer, two.longer);
    same = λ k below. two.same k (omega (arith, one.longer)) ∙ one.same k below;
    work = two.work ∙ one.work;
    search = λ from is. two.search from (one.search from is);
  }

  module _ (marks : List (Option Mark)) (queue : List ℕ) (head : ℕ) (from mark : Mark)
      (inside : mark.side < sides net) (ends : end_in net mark.side ≡ head) (begins : mark_at marks (begin_in net mark.side) ≡ Some from)
      (below : head < length marks) (none : mark_at marks head ≡ None)
      (place : mark.place ≡ length queue) (some : 0 < get_or room mark.side 0) (most : mark.most ≡ min (get_or room mark.side 0) from.most) where
    abbrev new : List (Option Mark)
    new = set marks head (Some mark)

    here : mark_at new head ≡ Some mark
    here = get_or-set_same marks head (Some mark) None below

    elsewhere : (j : ℕ) → j ≢ head → mark_at new j ≡ mark_at marks j
    elsewhere j differs = get_or-set_other marks head j (Some mark) None differs

    kept : (j : ℕ) (old : Mark) → mark_at marks j ≡ Some old → mark_at new j ≡ Some old
    kept j old is = elim (cases_eq j head) [
      | inl same ↦ absurd (none-some old (sym none ∙ subst (λ (z : ℕ). mark_at marks z ≡ Some old) same is))
      | inr differs ↦ elsewhere j differs ∙ is
    ]

    -- a mark is the new one, or an old one elsewhere
    by_mark : (j : ℕ) (m : Mark) (P : Type 0) → mark_at new j ≡ Some m → (j ≡ head → m ≡ mark → P) → (j ≢ head → mark_at marks j ≡ Some m → P) → P
    by_mark j m P is fresh old = elim (cases_eq j head) [
      | inl same ↦ fresh same (same_Some m mark (sym is ∙ subst (λ (z : ℕ). mark_at new z ≡ Some mark) (sym same) here))
      | inr differs ↦ old differs (sym (elsewhere j differs) ∙ is)
    ]

    by_marked : (j : ℕ) (P : Type 0) → is_marked new j ≡ true → (j ≡ head → P) → (is_marked marks j ≡ true → P) → P
    by_marked j P has fresh old = elim (cases_eq j head) [
      | inl same ↦ fresh same
      | inr differs ↦ old (ap is_some (sym (elsewhere j differs)) ∙ has)
    ]

    new_step : from.place < length queue → IsStep net room new head mark
    new_step earlier = record {
      inside = inside;
      ends = ends;
      from = from;
      begins = kept (begin_in net mark.side) from begins;
      earlier = omega (arith, earlier, place);
      fits = omega (arith, most);
      least = omega (arith, most);
    }

    search_new : (f : ℕ) → IsSearch net room f marks queue → IsSearch net room f new (queue ++ head ∷ [])
    search_new f is = record {
      reached = record {
        long = length-set marks head (Some mark) ∙ is.reached.long;
        begun = still_marked marks new kept f is.reached.begun;
        some = λ j m has. by_mark j m (0 < m.most) has
            (λ same fresh. subst (λ (z : Mark). 0 < z.most) (sym fresh) (omega (arith, most, some, is.reached.some (begin_in net mark.side) from begins)))
            (λ differs old. is.reached.some j m old);
        step = λ j m no_start has. by_mark j m (IsStep net room new j m) has
            (λ same fresh. subst (λ (z : ℕ). IsStep net room new z m) (sym same) (subst (λ (z : Mark). IsStep net room new head z) (sym fresh) (new_step (is.placed (begin_in net mark.side) from begins))))
            (λ differs old. step_still marks new kept j m (is.reached.step j m no_start old));
        within = λ set holds closed j has. by_marked j (set j ≡ true) has
            (λ same. ap set same ∙ ap set (sym ends) ∙ closed mark.side inside (is.reached.within set holds closed (begin_in net mark.side) (marked_from marks (begin_in net mark.side) from begins)) some)
            (λ old. is.reached.within set holds closed j old);
      };
      queued = λ j has. by_marked j (Contains (queue ++ head ∷ []) j) has
          (λ same. subst (λ (z : ℕ). Contains (queue ++ head ∷ []) z) (sym same) (Contains-push queue head))
          (λ old. Contains-append_left queue (head ∷ []) j (is.queued j old));
      marked = λ j has. elim (Contains-push_cases queue head j has) [
        | inl before ↦ still_marked marks new kept j (is.marked j before)
        | inr same ↦ subst (λ (z : ℕ). is_marked new z ≡ true) same (ap is_some here)
      ];
      placed = λ j m has. by_mark j m (m.place < length (queue ++ head ∷ [])) has
          (λ same fresh. omega (arith, ap (λ (z : Mark). z.place) fresh, place, length_push queue head))
          (λ differs old. omega (arith, is.placed j m old, length_push queue head));
    }

    pub goes_on_new : GoesOn net room marks queue (set marks head (Some mark)) (queue ++ head ∷ [])
    goes_on_new = record {
      long = length-set marks head (Some mark);
      kept = kept;
      longer = omega (arith, length_push queue head);
      same = λ k under. get_or-append queue (head ∷ []) 0 k under;
      work = omega (arith, length_push queue head, sum_by-set (λ (o : Option Mark). cond (not (is_some o)) 1 0) marks head (Some mark) None below, ap (λ (o : Option Mark). cond {A = ℕ} (not (is_some o)) 1 0) none);
      search = search_new;
    }

pub none_from : (o : Option Mark) → is_some o ≡ false → o ≡ None
none_from None is = refl
none_from (Some m) is = cc is

-- what was read of a list, at the default of contracts
pub read_option : {X : Type 0} (xs : List (Option X)) (i n : ℕ) (x : Option X) → x ≡ get_or xs i x → length xs ≡ n → i < n → x ≡ get_or xs i None
read_option xs i n x is long below = get_or_read_under xs i (length xs) x None is (omega arith) refl

pub marked_inside : (marks : List (Option Mark)) (j : ℕ) → is_marked marks j ≡ true → j < length marks
marked_inside marks j has = elim (cases_lt j (length marks)) [
  | inl inside ↦ inside
  | inr past ↦ absurd (true≢false (sym has ∙ ap is_some (get_or_past marks j None past)))
]

-- where all that stands in the queue is done, the marks are closed
pub closed_from : (net : Net) (room : List ℕ) (marks : List (Option Mark)) (queue : List ℕ) → ((j : ℕ) → is_marked marks j ≡ true → Contains queue j)
    → ((k : ℕ) → k < length queue → IsDone net room marks (get_or queue k 0)) → IsClosed net room (is_marked marks)
closed_from net room marks queue queued done side inside has some =
    let at = queued (begin_in net side) has in
    done at.0 at.1 side inside (sym at.2 ∙ get_or_default queue at.0 (begin_in net side) 0 at.1) some

pub done_still : (net : Net) (room : List ℕ) (marks new : List (Option Mark)) (node : ℕ) → ((j : ℕ) (mark : Mark) → mark_at marks j ≡ Some mark → mark_at new j ≡ Some mark) → IsDone net room marks node → IsDone net room new node
done_still net room marks new node kept done side inside begins some = still_marked marks new kept (end_in net side) (done side inside begins some)
