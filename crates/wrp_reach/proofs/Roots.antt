-- A search from root to root: where it begins, how it goes on from one root, and what it has at the end.
use Rattle.std.proofs.Common.{◌≡◌, ℕ, ◌+◌, ◌<◌, List, [], length, map, replicate, get_or, sym, ap, ◌∙◌, subst, inl, inr, arith}
use Rattle.std.specs.Prelude.{slice_index}
use Rattle.std.specs.List.{All}
use Rattle.std.proofs.lemmas.Bool.{cases_eq, cases_lt}
use Rattle.std.proofs.lemmas.List.{get_or-replicate, get_or_past, length-replicate, length-map, get_or-map}
use Rattle.std.proofs.lemmas.List.Elements.{All-nil}
use Rattle.std.proofs.lemmas.List.Sums.{count_by-le-length}
use Rattle.wrp_town.specs.declared.town.Town.{Town}
use Rattle.wrp_town.specs.Arcs.{tail_of, head_of}
use Rattle.wrp_town.proofs.TownLaws.{legal_below, tail_of-below, head_of-below}
use Rattle.wrp_reach.specs.declared.search.Mark.{Mark}
use Rattle.wrp_reach.specs.declared.search.Mark.TheVariants.{New, Done}
use Rattle.wrp_reach.specs.declared.search.Search.{Search}
use Rattle.wrp_reach.specs.Components.{label_of, AreComponents}
use Rattle.wrp_reach.specs.Search.{mark_at, is_new, IsSearch, AllReach, Enters, GoesOn, IsAtRoot}
use Rattle.wrp_reach.proofs.Ways.{by_mark, new_or_path, new_or_done}
use Rattle.wrp_reach.proofs.Entering.{goes_on_entered, met_entered}

-- ---- the start

all_new : (n j : ℕ) → mark_at (replicate n New) j ≡ New
all_new n j = elim (cases_lt j n) [
  | inl inside ↦ get_or-replicate n j New New inside
  | inr past ↦ get_or_past (replicate n New) j New (omega (arith, length-replicate {A = Mark} n New))
]

pub begins : (town : Town) (s : Search) → s.marks.items ≡ replicate (length town.junctions) New → s.path.items ≡ [] → s.todo.items ≡ [] → s.groups.items ≡ [] → s.count ≡ 0 → IsAtRoot town 0 s
begins town s marks path todo groups count =
    let n : ℕ = length town.junctions in
    let fresh : (j : ℕ) → mark_at s.marks.items j ≡ New = λ j. ap (λ (ms : List Mark). mark_at ms j) marks ∙ all_new n j in
    let no_path : length s.path.items ≡ 0 = ap length path in
    let no_todo : length s.todo.items ≡ 0 = ap length todo in
    let no_groups : length s.groups.items ≡ 0 = ap length groups in
    let each : length s.marks.items ≡ n = ap length marks ∙ length-replicate {A = Mark} n New in
    record {
      search = record {
        order = record {
          each = each;
          placed = λ j at is. absurd (new_or_path at _ (fresh j) is);
          stands = λ at small. absurd (omega arith);
          ascend = λ k m less small. absurd (omega arith);
          begun = λ k small. absurd (omega arith);
          covered = λ at small. absurd (omega arith);
          inside = subst (λ (xs : List ℕ). All (λ j. j < n) xs) (sym todo) (All-nil (λ j. j < n));
          few = omega (arith, count, each, count_by-le-length is_new s.marks.items);
        };
        path = record {
          forward = λ first second less small. absurd (omega arith);
          back = λ first second less small grouped. absurd (omega arith);
          wanted = λ k t small low below. absurd (omega arith);
          known = λ arc at legal small leaves. absurd (omega arith);
        };
        done = record {
          below = λ j label is. absurd (new_or_done label _ (fresh j) is);
          falls = λ arc label legal is. absurd (new_or_done label _ (fresh (tail_of town arc)) is);
          strong = λ i j label first second. absurd (new_or_done label _ (fresh i) first);
        };
      };
      idle = no_groups;
      met = λ j small. absurd (omega arith);
    }

-- ---- from one root

-- the search goes on from where a loop began
pub record IsGoing (town : Town) (old new : Search) : Type 0 where
  pub search : IsSearch town new
  pub kept : (j : ℕ) → mark_at new.marks.items j ≡ New → mark_at old.marks.items j ≡ New

pub going_more : (town : Town) (old mid new : Search) → IsGoing town old mid → GoesOn town mid new → IsGoing town old new
going_more town old mid new g on = record { search = on.search; kept = λ j fresh. g.kept j (on.kept j fresh) }

-- between roots the path is empty
no_path : (town : Town) (s : Search) → IsSearch town s → length s.groups.items ≡ 0 → length s.path.items ≡ 0
no_path town s search idle = elim (cases_lt 0 (length s.path.items)) [
  | inl some ↦ (let c = search.order.covered 0 some in absurd (omega (arith, c.1)))
  | inr none ↦ omega arith
]

pub root_enters : (town : Town) (root : ℕ) (old new : Search) → IsAtRoot town root old → root < length town.junctions → mark_at old.marks.items root ≡ New → Enters town root old new → GoesOn town old new
root_enters town root old new at small fresh entered =
    goes_on_entered town root old new at.search entered small fresh (λ place within. absurd (omega (arith, no_path town old at.search at.idle)))

pub root_done : (town : Town) (root : ℕ) (old entered new : Search) → IsAtRoot town root old → root < length town.junctions → mark_at old.marks.items root ≡ New → Enters town root old entered → IsGoing town entered new → length new.groups.items ≡ 0 → IsAtRoot town (root + 1) new
root_done town root old entered new at small fresh e going idle =
    let reached : AllReach town old root = λ place within. absurd (omega (arith, no_path town old at.search at.idle)) in
    record {
      search = going.search;
      idle = idle;
      met = λ j below is. elim (cases_eq j root) [
        | inl same ↦ met_entered town root old entered at.search e small fresh reached j same (going.kept j is)
        | inr before ↦ at.met j (omega arith) ((root_enters town root old entered at small fresh e).kept j (going.kept j is))
      ];
    }

pub root_known : (town : Town) (root : ℕ) (s : Search) → IsAtRoot town root s → (mark_at s.marks.items root ≡ New → ⊥) → IsAtRoot town (root + 1) s
root_known town root s at known = record {
  search = at.search;
  idle = at.idle;
  met = λ j below is. elim (cases_eq j root) [ inl same ↦ known (ap (mark_at s.marks.items) (sym same) ∙ is) | inr before ↦ at.met j (omega arith) is ];
}

-- ---- the end

all_done : (town : Town) (s : Search) (j : ℕ) → IsAtRoot town (length town.junctions) s → j < length town.junctions → (label : ℕ) × (mark_at s.marks.items j ≡ Done label)
all_done town s j at small = by_mark ((label : ℕ) × (mark_at s.marks.items j ≡ Done label)) (mark_at s.marks.items j)
    (λ fresh. absurd (at.met j small fresh))
    (λ place is. absurd (omega (arith, (at.search.order.placed j place is).0, no_path town s at.search at.idle)))
    (λ label is. (label, is))

pub components_found : (town : Town) (s : Search) (labels : List ℕ) → IsAtRoot town (length town.junctions) s → labels ≡ map label_of s.marks.items → AreComponents town s.count labels
components_found town s labels at is =
    let n : ℕ = length town.junctions in
    let each = at.search.order.each in
    let label : (j l : ℕ) → j < n → mark_at s.marks.items j ≡ Done l → slice_index labels j ≡ l = λ j l small marked. ap (λ (xs : List ℕ). get_or xs j 0) is ∙ get_or-map label_of s.marks.items j New 0 (omega arith) ∙ ap label_of marked in
    record {
      each = ap length is ∙ length-map s.marks.items label_of ∙ each;
      few = omega (arith, at.search.order.few);
      below = λ j small. let d = all_done town s j at small in omega (arith, label j d.0 small d.1, at.search.done.below j d.0 d.1);
      falls = λ arc legal.
          let below = legal_below town arc legal in
          let t = all_done town s (tail_of town arc) at (tail_of-below town arc below) in
          let f = at.search.done.falls arc t.0 legal t.1 in
          omega (arith, label (tail_of town arc) t.0 (tail_of-below town arc below) t.1, label (head_of town arc) f.0 (head_of-below town arc below) f.1, f.2);
      strong = λ i j small_i small_j same.
          let a = all_done town s i at small_i in
          let b = all_done town s j at small_j in
          let labels_same : b.0 ≡ a.0 = sym (label j b.0 small_j b.1) ∙ sym same ∙ label i a.0 small_i a.1 in
          at.search.done.strong i j a.0 a.1 (b.1 ∙ ap Done labels_same);
    }
