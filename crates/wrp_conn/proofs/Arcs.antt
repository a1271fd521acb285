-- The net of a point, arc after arc.
use Rattle.std.proofs.Common.{◌≡◌, ℕ, suc, ◌+◌, ◌*◌, ◌^◌, ◌<◌, ◌≤◌, Bool, true, false, cond, ◌&&◌, not, ℤ, pos, List, [], ◌∷◌, ◌++◌, length, get_or, ap, refl, sym, ◌∙◌, subst, inl, inr, ◌⊎◌, arith}
use Rattle.std.specs.Prelude.{◌≤ℤ◌, unsigned_abs}
use Rattle.std.proofs.lemmas.Bool.{cases_lt}
use Rattle.std.proofs.lemmas.List.{length_push, get_or_push}
use Rattle.std.proofs.Math.ListN.{get_or-append}
use Rattle.wrp_town.specs.declared.town.Town.{Town}
use Rattle.wrp_town.specs.Arcs.{tail_of, head_of}
use Rattle.wrp_town.proofs.TownLaws.{few_streets}
use Rattle.wrp_webs.specs.Webs.{sum_below}
use Rattle.wrp_webs.specs.Nets.{leaving}
use Rattle.wrp_webs.proofs.SumsBelow.{same_sum}
use Rattle.wrp_flow.specs.Flows.{tail_in, head_in, capacity_in, IsNet}
use Rattle.wrp_conn.specs.Shrunk.{net_with, IsNetBelow}

sum_push : (f g : ℕ → ℕ) (n m : ℕ) → m ≡ n + 1 → ((a : ℕ) → a < n → f a ≡ g a) → sum_below f m ≡ sum_below g n + f n
sum_push f g n m next same = let last : m ≡ suc n = omega arith in ap (sum_below f) last ∙ ap (λ (k : ℕ). k + f n) (same_sum f g n same)

module _ (town : Town) (nodes : List ℕ) (x : ℕ → ℕ) where
  abbrev from_arc : ℕ → ℕ
  from_arc a = get_or nodes (tail_of town a) 0

  abbrev to_arc : ℕ → ℕ
  to_arc a = get_or nodes (head_of town a) 0

  leaving_more : (below : ℕ) (set : ℕ → Bool) → leaving (below + 1) from_arc to_arc x set ≡ leaving below from_arc to_arc x set + cond (set (from_arc below) && not (set (to_arc below))) (x below) 0
  leaving_more below set = let last : below + 1 ≡ suc below = omega arith in ap (λ (n : ℕ). leaving n from_arc to_arc x set) last

  module _ (arcs : List (ℕ × ℕ × ℤ)) (u v : ℕ) (number : ℤ) where
    abbrev new : List (ℕ × ℕ × ℤ)
    new = arcs ++ (u, v, number) ∷ []

    older : (a : ℕ) → a < length arcs → get_or new a (0, 0, pos 0) ≡ get_or arcs a (0, 0, pos 0)
    older a below = get_or-append arcs ((u, v, number) ∷ []) (0, 0, pos 0) a below

    here : get_or new (length arcs) (0, 0, pos 0) ≡ (u, v, number)
    here = get_or_push arcs (u, v, number) (0, 0, pos 0) (length arcs) refl

    long : length new ≡ length arcs + 1
    long = length_push arcs (u, v, number)

    each : (P : ℕ × ℕ × ℤ → Type 0) → ((a : ℕ) → a < length arcs → P (get_or arcs a (0, 0, pos 0))) → P (u, v, number) → (a : ℕ) → a < length new → P (get_or new a (0, 0, pos 0))
    each P old this a below = elim (cases_lt a (length arcs)) [
      | inl inside ↦ subst P (sym (older a inside)) (old a inside)
      | inr past ↦ (let at : a ≡ length arcs = omega (arith, long, past, below) in subst P (sym (ap (λ (k : ℕ). get_or new k (0, 0, pos 0)) at ∙ here)) this)
    ]

    pub arc_added : (below : ℕ) → from_arc below ≡ u → to_arc below ≡ v → u < length town.junctions → v < length town.junctions → pos 0 ≤ℤ number → unsigned_abs number ≡ x below → x below ≤ 2 ^ 72 → IsNetBelow town nodes x below arcs
        → IsNetBelow town nodes x (below + 1) new
    arc_added below from to u_below v_below least same high is = record {
      tails = each (λ arc. arc.0 < length town.junctions) is.tails u_below;
      heads = each (λ arc. arc.1 < length town.junctions) is.heads v_below;
      low = each (λ arc. pos 0 ≤ℤ arc.2) is.low least;
      small = omega (
        arith,
        sum_push (capacity_in (net_with town new)) (capacity_in (net_with town arcs)) (length arcs) (length new) long (λ a inside. ap (λ (arc : ℕ × ℕ × ℤ). unsigned_abs arc.2) (older a inside)),
        ap (λ (arc : ℕ × ℕ × ℤ). unsigned_abs arc.2) here,
        same,
        high,
        is.small,
      );
      leaves = λ set.
          sum_push (λ a. cond (set (tail_in (net_with town new) a) && not (set (head_in (net_with town new) a))) (capacity_in (net_with town new) a) 0)
          (λ a. cond (set (tail_in (net_with town arcs) a) && not (set (head_in (net_with town arcs) a))) (capacity_in (net_with town arcs) a) 0) (length arcs) (length new) long
          (λ a inside. ap (λ (arc : ℕ × ℕ × ℤ). cond (set arc.0 && not (set arc.1)) (unsigned_abs arc.2) 0) (older a inside))
          ∙ ap (λ (n : ℕ). n + cond (set (tail_in (net_with town new) (length arcs)) && not (set (head_in (net_with town new) (length arcs)))) (capacity_in (net_with town new) (length arcs)) 0) (is.leaves set)
          ∙ ap (λ (n : ℕ). leaving below from_arc to_arc x set + n)
          (ap (λ (arc : ℕ × ℕ × ℤ). cond (set arc.0 && not (set arc.1)) (unsigned_abs arc.2) 0) here
          ∙ ap (λ (n : ℕ). cond (set u && not (set v)) n 0) same
          ∙ ap (λ (k : ℕ). cond (set k && not (set v)) (x below) 0) (sym from)
          ∙ ap (λ (k : ℕ). cond (set (from_arc below) && not (set k)) (x below) 0) (sym to))
          ∙ sym (leaving_more below set);
    }

  one_end : (b : Bool) (n : ℕ) → cond (b && not b) n 0 ≡ 0
  one_end true n = refl
  one_end false n = refl

  no_number : (b : Bool) → ◌≡◌ {A = ℕ} (cond b 0 0) 0
  no_number true = refl
  no_number false = refl

  pub arc_left_out : (arcs : List (ℕ × ℕ × ℤ)) (below : ℕ) → (x below ≡ 0) ⊎ (from_arc below ≡ to_arc below) → IsNetBelow town nodes x below arcs → IsNetBelow town nodes x (below + 1) arcs
  arc_left_out arcs below why is = record {
    tails = is.tails;
    heads = is.heads;
    low = is.low;
    small = omega (arith, is.small);
    leaves = λ set. is.leaves set ∙ sym (omega (arith, leaving_more below set, none set why));
  }
    where
      none : (set : ℕ → Bool) → (x below ≡ 0) ⊎ (from_arc below ≡ to_arc below) → cond (set (from_arc below) && not (set (to_arc below))) (x below) 0 ≡ 0
      none set (inl zero_there) = ap (λ (n : ℕ). cond (set (from_arc below) && not (set (to_arc below))) n 0) zero_there ∙ no_number (set (from_arc below) && not (set (to_arc below)))
      none set (inr same) = ap (λ (k : ℕ). cond (set (from_arc below) && not (set k)) (x below) 0) (sym same) ∙ one_end (set (from_arc below)) (x below)

  pub no_arcs : IsNetBelow town nodes x 0 []
  no_arcs = record {
    tails = λ a below. absurd (omega arith);
    heads = λ a below. absurd (omega arith);
    low = λ a below. absurd (omega arith);
    small = omega arith;
    leaves = λ set. refl;
  }

  pub all_arcs : (arcs : List (ℕ × ℕ × ℤ)) → IsNetBelow town nodes x (2 * length town.streets) arcs → IsNet (net_with town arcs)
  all_arcs arcs is = record { tails = is.tails; heads = is.heads; low = is.low; small = omega (arith, is.small, few_streets town) }
