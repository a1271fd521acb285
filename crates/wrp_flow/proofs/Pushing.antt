-- A push from the sink back to the source, one side of the way after another.
use Rattle.std.proofs.Common.{◌≡◌, ◌≢◌, ℕ, ◌+◌, ◌-◌, ◌*◌, ◌<◌, ◌^◌, ◌≤◌, Bool, cond, ◌==◌, List, length, get_or, refl, sym, ap, ◌∙◌, subst, inl, inr, ◌⊎◌, arith, eq-eqb, Option, Some, None}
use Rattle.std.proofs.lemmas.Bool.{cases_eq, ne_eqb}
use Rattle.std.proofs.lemmas.Option.{same_Some}
use Rattle.wrp_webs.specs.Nets.{sum_at_end}
use Rattle.wrp_webs.proofs.SumsBelow.{same_sum, term_sum}
use Rattle.wrp_flow.specs.declared.net.Net.{Net}
use Rattle.wrp_flow.specs.declared.reach.Mark.{Mark}
use Rattle.wrp_flow.specs.Flows.{tail_in, head_in, capacity_in, IsNet, ArePoles, IsNetFlow}
use Rattle.wrp_flow.specs.Sides.{begin_in, end_in, sides, twin_of, IsResidual}
use Rattle.wrp_flow.specs.Searches.{mark_at, IsStep, AreReached}
use Rattle.wrp_flow.specs.Pushes.{changed, IsPushed, IsShifted}
use Rattle.wrp_flow.proofs.Pushes.{pushed_none, pushed_all, pushed_forward, pushed_back}
use Rattle.wrp_flow.proofs.Sides.{side_cases, begin_even, begin_odd, end_even, end_odd, twin_even, twin_odd, begin_twin, begin_below}

-- what an arc carries
abbrev pub carried : List ℕ → ℕ → ℕ
carried room a = get_or room (2 * a + 1) 0

same_pushed : (nodes n : ℕ) (tail head capacity f g : ℕ → ℕ) (s t value d v : ℕ) → ((a : ℕ) → a < n → f a ≡ g a) → IsPushed nodes n tail head capacity f s t value d v → IsPushed nodes n tail head capacity g s t value d v
same_pushed nodes n tail head capacity f g s t value d v same is = record {
  within = λ a below. omega (arith, is.within a below, same a below);
  kept = λ j below no_s no_t no_v. sym (sums tail j) ∙ is.kept j below no_s no_t no_v ∙ sums head j;
  owes = λ no_s no_t. omega (arith, sums tail v, sums head v, is.owes no_s no_t);
  worth = λ no_s. omega (arith, sums tail s, sums head s, is.worth no_s);
  done = λ at_s. omega (arith, sums tail s, sums head s, is.done at_s);
}
  where
    sums : (end : ℕ → ℕ) (j : ℕ) → sum_at_end n end f j ≡ sum_at_end n end g j
    sums end j = same_sum (λ a. cond (end a == j) (f a) 0) (λ a. cond (end a == j) (g a) 0) n (λ a below. ap (λ (x : ℕ). cond (end a == j) x 0) (same a below))

-- ---- shifted room, by the parity of the side

even_here : (b d : ℕ) (old new : List ℕ) → IsShifted (2 * b) d old new → get_or new (2 * b + 1) 0 ≡ get_or old (2 * b + 1) 0 + d
even_here b d old new is = ap (λ (k : ℕ). get_or new k 0) (sym (twin_even b)) ∙ is.there ∙ ap (λ (k : ℕ). get_or old k 0 + d) (twin_even b)

odd_here : (b d : ℕ) (old new : List ℕ) → IsShifted (2 * b + 1) d old new → get_or new (2 * b) 0 ≡ get_or old (2 * b) 0 + d
odd_here b d old new is = ap (λ (k : ℕ). get_or new k 0) (sym (twin_odd b)) ∙ is.there ∙ ap (λ (k : ℕ). get_or old k 0 + d) (twin_odd b)

even_others : (b d : ℕ) (old new : List ℕ) → IsShifted (2 * b) d old new → (k : ℕ) → (k ≡ 2 * b → ⊥) → (k ≡ 2 * b + 1 → ⊥) → get_or new k 0 ≡ get_or old k 0
even_others b d old new is k first second = is.others k first (λ e. second (e ∙ twin_even b))

odd_others : (b d : ℕ) (old new : List ℕ) → IsShifted (2 * b + 1) d old new → (k : ℕ) → (k ≡ 2 * b → ⊥) → (k ≡ 2 * b + 1 → ⊥) → get_or new k 0 ≡ get_or old k 0
odd_others b d old new is k first second = is.others k second (λ e. first (e ∙ twin_odd b))

-- both sides of an arc share what they did
pub still_shared : (side d a : ℕ) (old new : List ℕ) → IsShifted side d old new → get_or new (2 * a) 0 + get_or new (2 * a + 1) 0 ≡ get_or old (2 * a) 0 + get_or old (2 * a + 1) 0
still_shared side d a old new is = elim (side_cases side) [
  | inl (b, e) ↦ even b (subst (λ (z : ℕ). IsShifted z d old new) e is)
  | inr (b, e) ↦ odd b (subst (λ (z : ℕ). IsShifted z d old new) e is)
]
  where
    even : (b : ℕ) → IsShifted (2 * b) d old new → get_or new (2 * a) 0 + get_or new (2 * a + 1) 0 ≡ get_or old (2 * a) 0 + get_or old (2 * a + 1) 0
    even b sh = elim (cases_eq a b) [
      | inl same ↦ omega (arith, ap (λ (z : ℕ). get_or new (2 * z) 0) same, ap (λ (z : ℕ). get_or new (2 * z + 1) 0) same, ap (λ (z : ℕ). get_or old (2 * z) 0) same, ap (λ (z : ℕ). get_or old (2 * z + 1) 0) same, sh.here, even_here b d old new sh)
      | inr differs ↦ omega (arith, even_others b d old new sh (2 * a) (λ h. differs (omega arith)) (λ h. absurd (omega arith)), even_others b d old new sh (2 * a + 1) (λ h. absurd (omega arith)) (λ h. differs (omega arith)))
    ]

    odd : (b : ℕ) → IsShifted (2 * b + 1) d old new → get_or new (2 * a) 0 + get_or new (2 * a + 1) 0 ≡ get_or old (2 * a) 0 + get_or old (2 * a + 1) 0
    odd b sh = elim (cases_eq a b) [
      | inl same ↦ omega (arith, ap (λ (z : ℕ). get_or new (2 * z) 0) same, ap (λ (z : ℕ). get_or new (2 * z + 1) 0) same, ap (λ (z : ℕ). get_or old (2 * z) 0) same, ap (λ (z : ℕ). get_or old (2 * z + 1) 0) same, sh.here, odd_here b d old new sh)
      | inr differs ↦ omega (arith, odd_others b d old new sh (2 * a) (λ h. differs (omega arith)) (λ h. absurd (omega arith)), odd_others b d old new sh (2 * a + 1) (λ h. absurd (omega arith)) (λ h. differs (omega arith)))
    ]

-- ---- one side of the way

module _ (net : Net) (s t value d : ℕ) (old new : List ℕ) where
  abbrev IsPushedAt : List ℕ → ℕ → Type 0
  IsPushedAt room v = IsPushed net.nodes (length net.arcs) (tail_in net) (head_in net) (capacity_in net) (carried room) s t value d v

  push_even : IsNet net → (b : ℕ) → b < length net.arcs → (tail_in net b ≡ head_in net b → ⊥) → (head_in net b ≡ s → ⊥) → d ≤ get_or old (2 * b) 0
      → get_or old (2 * b) 0 + get_or old (2 * b + 1) 0 ≡ capacity_in net b → IsShifted (2 * b) d old new → IsPushedAt old (head_in net b) → IsPushedAt new (tail_in net b)
  push_even is b below apart no_source room shared sh pushed =
      same_pushed net.nodes (length net.arcs) (tail_in net) (head_in net) (capacity_in net) (changed (carried old) b (carried old b + d)) (carried new) s t value d (tail_in net b)
      (λ a less. by a (cases_eq a b))
      (pushed_forward net.nodes (length net.arcs) (tail_in net) (head_in net) (capacity_in net) (carried old) s t value d b below (is.tails b below) apart no_source (omega arith) pushed)
    where
      by : (a : ℕ) → (a ≡ b) ⊎ (a ≡ b → ⊥) → changed (carried old) b (carried old b + d) a ≡ carried new a
      by a (inl same) = ap (λ (z : Bool). cond z (carried old b + d) (carried old a)) (eq-eqb a b same) ∙ sym (even_here b d old new sh) ∙ ap (carried new) (sym same)
      by a (inr differs) = ap (λ (z : Bool). cond z (carried old b + d) (carried old a)) (ne_eqb a b differs) ∙ sym (even_others b d old new sh (2 * a + 1) (λ h. absurd (omega arith)) (λ h. differs (omega arith)))

  push_odd : IsNet net → (b : ℕ) → b < length net.arcs → (head_in net b ≡ tail_in net b → ⊥) → (tail_in net b ≡ s → ⊥) → d ≤ get_or old (2 * b + 1) 0
      → IsShifted (2 * b + 1) d old new → IsPushedAt old (tail_in net b) → IsPushedAt new (head_in net b)
  push_odd is b below apart no_source room sh pushed =
      same_pushed net.nodes (length net.arcs) (tail_in net) (head_in net) (capacity_in net) (changed (carried old) b (carried old b - d)) (carried new) s t value d (head_in net b)
      (λ a less. by a (cases_eq a b))
      (pushed_back net.nodes (length net.arcs) (tail_in net) (head_in net) (capacity_in net) (carried old) s t value d b below (is.heads b below) apart no_source room pushed)
    where
      here : carried old b - d ≡ carried new b
      here = omega (arith, sh.here)

      by : (a : ℕ) → (a ≡ b) ⊎ (a ≡ b → ⊥) → changed (carried old) b (carried old b - d) a ≡ carried new a
      by a (inl same) = ap (λ (z : Bool). cond z (carried old b - d) (carried old a)) (eq-eqb a b same) ∙ here ∙ ap (carried new) (sym same)
      by a (inr differs) = ap (λ (z : Bool). cond z (carried old b - d) (carried old a)) (ne_eqb a b differs) ∙ sym (odd_others b d old new sh (2 * a + 1) (λ h. absurd (omega arith)) (λ h. differs (omega arith)))

  pub push_side : IsNet net → (side : ℕ) → side < sides net → (begin_in net side ≡ end_in net side → ⊥) → (end_in net side ≡ s → ⊥) → d ≤ get_or old side 0
      → ((a : ℕ) → a < length net.arcs → get_or old (2 * a) 0 + get_or old (2 * a + 1) 0 ≡ capacity_in net a) → IsShifted side d old new → IsPushedAt old (end_in net side) → IsPushedAt new (begin_in net side)
  push_side is side inside apart no_source room shared sh pushed = elim (side_cases side) [
    | inl (b, e) ↦ (
        let tail = ap (begin_in net) e ∙ begin_even net b in
        let head = ap (end_in net) e ∙ end_even net b in
        let room_there : d ≤ get_or old (2 * b) 0 = subst (λ (z : ℕ). d ≤ get_or old z 0) e room in
        subst (IsPushedAt new) (sym tail) (push_even is b (omega arith) (λ h. apart (tail ∙ h ∙ sym head)) (λ h. no_source (head ∙ h)) room_there (shared b (omega arith)) (subst (λ (z : ℕ). IsShifted z d old new) e sh) (subst (IsPushedAt old) head pushed))
        )
    | inr (b, e) ↦ (
        let tail = ap (begin_in net) e ∙ begin_odd net b in
        let head = ap (end_in net) e ∙ end_odd net b in
        let room_there : d ≤ get_or old (2 * b + 1) 0 = subst (λ (z : ℕ). d ≤ get_or old z 0) e room in
        subst (IsPushedAt new) (sym tail) (push_odd is b (omega arith) (λ h. apart (tail ∙ h ∙ sym head)) (λ h. no_source (head ∙ h)) room_there (subst (λ (z : ℕ). IsShifted z d old new) e sh) (subst (IsPushedAt old) head pushed))
        )
  ]

-- ---- the push between two sides: the node owes d, and the sides before it have their room still

pub record IsPushing (net : Net) (s t : ℕ) (marks : List (Option Mark)) (first room : List ℕ) (d node : ℕ) : Type 0 where
  pub long : length room ≡ sides net
  pub shared : (a : ℕ) → a < length net.arcs → get_or room (2 * a) 0 + get_or room (2 * a + 1) 0 ≡ capacity_in net a
  pub inside : node < net.nodes
  pub mark : Mark
  pub has : mark_at marks node ≡ Some mark
  pub most : d ≤ mark.most
  pub still : (j : ℕ) (m : Mark) → j ≢ s → mark_at marks j ≡ Some m → m.place ≤ mark.place → get_or room m.side 0 ≡ get_or first m.side 0
  pub pushed : (value : ℕ) → IsNetFlow net s t value (carried first) → IsPushed net.nodes (length net.arcs) (tail_in net) (head_in net) (capacity_in net) (carried room) s t value d node

module _ (net : Net) (is : IsNet net) (s t : ℕ) (marks : List (Option Mark)) (first : List ℕ) where
  pub pushing_first : ArePoles net s t → (value : ℕ) → IsResidual net s t value first → (mark : Mark) → mark_at marks t ≡ Some mark → IsPushing net s t marks first first mark.most t
  pushing_first poles value residual mark has = record {
    long = residual.long;
    shared = residual.shared;
    inside = poles.sink;
    mark = mark;
    has = has;
    most = omega arith;
    still = λ j m no_s is_m earlier. refl;
    pushed = λ v flow. pushed_none net.nodes (length net.arcs) (tail_in net) (head_in net) (capacity_in net) (carried first) s t v mark.most poles.differ flow;
  }

  pub pushing_last : (room : List ℕ) (d node : ℕ) → node ≡ s → IsPushing net s t marks first room d node → (value : ℕ) → IsResidual net s t value first → IsResidual net s t (value + d) room
  pushing_last room d node here p value residual = record {
    long = p.long;
    shared = p.shared;
    flow = pushed_all net.nodes (length net.arcs) (tail_in net) (head_in net) (capacity_in net) (carried room) s t value d
        (subst (λ (z : ℕ). IsPushed net.nodes (length net.arcs) (tail_in net) (head_in net) (capacity_in net) (carried room) s t value d z) here (p.pushed value residual.flow));
  }

  module _ (reached : AreReached net first s marks) (room : List ℕ) (d node : ℕ) (no_s : node ≢ s) (p : IsPushing net s t marks first room d node) where
    pub step_of : IsStep net first marks node p.mark
    step_of = reached.step node p.mark no_s p.has

    pub fits : d ≤ get_or room p.mark.side 0
    fits = omega (arith, step_of.fits, p.most, p.still node p.mark no_s p.has (omega arith))

    marks_same : (i j : ℕ) (m k : Mark) → i ≡ j → mark_at marks i ≡ Some m → mark_at marks j ≡ Some k → m ≡ k
    marks_same i j m k same one two = same_Some m k (sym one ∙ ap (mark_at marks) same ∙ two)

    apart : begin_in net p.mark.side ≡ end_in net p.mark.side → ⊥
    apart same =
        omega (arith, step_of.earlier, ap (λ (m : Mark). m.place) (marks_same (begin_in net p.mark.side) node step_of.from p.mark (same ∙ step_of.ends) step_of.begins p.has))

    still_new : (new : List ℕ) → IsShifted p.mark.side d room new → (j : ℕ) (m : Mark) → j ≢ s → mark_at marks j ≡ Some m → m.place ≤ step_of.from.place → get_or new m.side 0 ≡ get_or first m.side 0
    still_new new sh j m away is_m earlier =
        sh.others m.side
        (λ same. absurd (omega (arith, earlier, step_of.earlier, ap (λ (k : Mark). k.place) (marks_same j node m p.mark (sym (reached.step j m away is_m).ends ∙ ap (end_in net) same ∙ step_of.ends) is_m p.has))))
        (λ same.
        let step = reached.step j m away is_m in
        absurd (omega (arith, earlier, step_of.earlier, step.earlier, ap (λ (k : Mark). k.place) (marks_same (begin_in net m.side) node step.from p.mark (ap (begin_in net) same ∙ begin_twin net p.mark.side ∙ step_of.ends) step.begins p.has))))
        ∙ p.still j m away is_m (omega (arith, earlier, step_of.earlier))

    pub pushing_more : (new : List ℕ) → IsShifted p.mark.side d room new → IsPushing net s t marks first new d (begin_in net p.mark.side)
    pushing_more new sh = record {
      long = sh.long ∙ p.long;
      shared = λ a below. still_shared p.mark.side d a room new sh ∙ p.shared a below;
      inside = begin_below net is p.mark.side step_of.inside;
      mark = step_of.from;
      has = step_of.begins;
      most = omega (arith, p.most, step_of.least);
      still = still_new new sh;
      pushed = λ value flow. push_side net s t value d room new is p.mark.side step_of.inside apart (λ h. no_s (sym step_of.ends ∙ h)) fits p.shared sh
          (subst (λ (z : ℕ). IsPushed net.nodes (length net.arcs) (tail_in net) (head_in net) (capacity_in net) (carried room) s t value d z) (sym step_of.ends) (p.pushed value flow));
    }

-- ---- bounds

pub room_small : (net : Net) → IsNet net → (room : List ℕ) → ((a : ℕ) → a < length net.arcs → get_or room (2 * a) 0 + get_or room (2 * a + 1) 0 ≡ capacity_in net a)
    → (side : ℕ) → side < sides net → get_or room side 0 + get_or room (twin_of side) 0 < 2 ^ 100
room_small net is room shared side inside = elim (side_cases side) [
  | inl (b, e) ↦ omega (arith, ap (λ (z : ℕ). get_or room z 0) e, ap (λ (z : ℕ). get_or room (twin_of z) 0) e, ap (λ (z : ℕ). get_or room z 0) (twin_even b), shared b (omega arith), term_sum (capacity_in net) b (length net.arcs) (omega arith), is.small)
  | inr (b, e) ↦ omega (arith, ap (λ (z : ℕ). get_or room z 0) e, ap (λ (z : ℕ). get_or room (twin_of z) 0) e, ap (λ (z : ℕ). get_or room z 0) (twin_odd b), shared b (omega arith), term_sum (capacity_in net) b (length net.arcs) (omega arith), is.small)
]

-- when a node was reached
abbrev pub place_in : Option Mark → ℕ
place_in None = 0
place_in (Some mark) = mark.place

module _ (net : Net) (is : IsNet net) (s t : ℕ) (marks : List (Option Mark)) (first room : List ℕ) (d node : ℕ) (reached : AreReached net first s marks)
    (no_s : node ≢ s) (p : IsPushing net s t marks first room d node) (m : Mark) (has : mark_at marks node ≡ Some m) where
  same_mark : p.mark ≡ m
  same_mark = same_Some p.mark m (sym p.has ∙ has)

  pub side_inside : m.side < sides net
  side_inside = subst (λ (k : Mark). k.side < sides net) same_mark (step_of net is s t marks first reached room d node no_s p).inside

  pub side_fits : d ≤ get_or room m.side 0
  side_fits = subst (λ (k : Mark). d ≤ get_or room k.side 0) same_mark (fits net is s t marks first reached room d node no_s p)

  pub side_pushed : (new : List ℕ) → IsShifted m.side d room new → IsPushing net s t marks first new d (begin_in net m.side)
  side_pushed new sh =
      subst (λ (k : Mark). IsPushing net s t marks first new d (begin_in net k.side)) same_mark
      (pushing_more net is s t marks first reached room d node no_s p new (subst (λ (k : Mark). IsShifted k.side d room new) (sym same_mark) sh))

  pub place_falls : place_in (mark_at marks (begin_in net m.side)) < place_in (mark_at marks node)
  place_falls =
      let step = step_of net is s t marks first reached room d node no_s p in
      omega (arith, ap place_in has, ap (λ (k : Mark). k.place) same_mark, ap (λ (k : Mark). place_in (mark_at marks (begin_in net k.side))) same_mark, ap place_in step.begins, step.earlier)
