-- Leave to split a node, and what it adds.
use Rattle.std.proofs.Common.{◌≡◌, ℕ, ◌≤◌, cond, true, false, List, [], ◌∷◌, ◌++◌, Option, Some, None, inl, inr, ap, refl, sym, ◌∙◌, subst, arith, eq-eqb}
use Rattle.std.specs.Prelude.{IfSome, ⊤}
use Rattle.std.proofs.lemmas.Bool.{false≢true}
use Rattle.wrp_town.specs.declared.town.Town.{Town}
use Rattle.wrp_rules.specs.declared.record.Record.{Record}
use Rattle.wrp_rules.specs.declared.record.Record.TheVariants.{Blind, Split}
use Rattle.wrp_rules.specs.Nodes.{standing}
use Rattle.wrp_rules.specs.Rules.{number_at, leads_to_split}
use Rattle.wrp_writer.specs.Limits.{is_writable}
use Rattle.wrp_progress.specs.Progress.{LeadsTo}
use Rattle.wrp_box.specs.declared.branch.Branch.{Branch}
use Rattle.wrp_licence.specs.Licences.{IsLicensed}
use Rattle.wrp_licence.specs.Roundings.{MeetsRoundings}
use Rattle.wrp_licence.specs.Causes.{HasBlindCause, IsCaused, IsLicensedSplit}
use Rattle.wrp_keep.specs.Keeps.{KeepState, broken_by}
use Rattle.wrp_engine.specs.Searches.{IsOpenAt}
use Rattle.wrp_engine.specs.Offers.{Joins, AddsAtMost, AddsAtMostSome, OffersSome}
use Rattle.wrp_engine.specs.Additions.{is_tour, Adds, AddsWhere}
use Rattle.wrp_engine.specs.Splits.{IsLicence, MaySplit, MeetsAt, IsRoundedLeave, IsRefused, LeadsBy, KeepsNode}
use Rattle.wrp_engine.proofs.Adding.{adds_none, adds_one, adds_two, adds_where, where_same, where_weaker}
use Rattle.wrp_engine.proofs.Splitting.{IsSameList, blind_leads, leads_behind, keeps_open}

-- ---- what may lead

module _ (keep : KeepState) (node : ℕ) (branch : Branch) where
  pub may_write : (leave : Option Record) → MaySplit keep node branch leave → IfSome leave (λ item. is_writable item ≡ true)
  may_write None may = tt
  may_write (Some item) may = may.writable

  pub blind_cause : (leave : Option Record) → MaySplit keep node branch leave → IsRefused keep leave → HasBlindCause keep.town keep.records node
  blind_cause None may refused = may
  blind_cause (Some item) may refused = may.refused refused

  point_leads : (item : Record) → IsLicence keep node branch item → leads_to_split node item ≡ true
  point_leads item may = ap (leads_to_split node) may.is ∙ eq-eqb node node refl

  -- a Point needs no cause
  point_free : (item : Record) → IsLicence keep node branch item → (town : Town) (entry added : List Record) → IsCaused town entry added item
  point_free item may town entry added = subst (λ (r : Record). IsCaused town entry added r) (sym may.is) (record {})

-- ---- the leave was offered

module _ (node : ℕ) (old new : KeepState) where
  pub leads_joined : (leave : Option Record) → OffersSome leave old new true → LeadsBy node leave old new
  leads_joined None offers = absurd (false≢true (sym offers.0))
  leads_joined (Some item) offers = inl (item, refl, offers.0, offers.1)

  pub leave_refused : (leave : Option Record) → OffersSome leave old new false → IsRefused old leave
  leave_refused None offers = record {}
  leave_refused (Some item) offers = offers.0

  pub refused_same : (leave : Option Record) → OffersSome leave old new false → new.records ≡ old.records
  refused_same None offers = offers.1
  refused_same (Some item) offers = offers.1

  pub leave_adds : (branch : Branch) (leave : Option Record) → MaySplit old node branch leave → AddsAtMostSome leave old new → Adds 1 0 old new
  leave_adds branch None may same = adds_none (λ _. ⊤) 1 0 old new same
  leave_adds branch (Some item) may (inl joins) =
      adds_one (λ _. ⊤) 0 old new item (subst (λ (r : Record). cond (is_tour r) 1 0 ≤ 0) (sym may.is) (omega arith)) (λ entry added at here. point_free old node branch item may old.town entry added) joins
  leave_adds branch (Some item) may (inr same) = adds_none (λ _. ⊤) 1 0 old new same

-- ---- a Blind behind a leave that was refused

module _ (node : ℕ) (old mid new : KeepState) (same : IsSameList old mid) where
  blind_caused : HasBlindCause old.town old.records node → (entry added : List Record) → old.records ≡ entry ++ added → IsCaused old.town entry added (Blind node)
  blind_caused cause entry added at = subst (λ (items : List Record). HasBlindCause old.town items node) at cause

  blind_joins : Joins (Blind node) mid new → Joins (Blind node) old new
  blind_joins joins = joins ∙ ap (λ (items : List Record). items ++ Blind node ∷ []) same.records

  pub blind_adds : HasBlindCause old.town old.records node → AddsAtMost (Blind node) mid new → Adds 1 0 old new
  blind_adds cause (inl joins) = adds_one (λ _. ⊤) 0 old new (Blind node) (omega arith) (λ entry added at here. blind_caused cause entry added at) (blind_joins joins)
  blind_adds cause (inr stays) = adds_none (λ _. ⊤) 1 0 old new (stays ∙ same.records)

  pub leads_blindly : (leave : Option Record) → IsRefused old leave → Joins (Blind node) mid new → LeadsBy node leave old new
  leads_blindly leave refused joins = inr (refused, blind_joins joins)

-- ---- behind what leads

module _ (a b : KeepState) (node : ℕ) (branch : Branch) where
  some_is : (leave : Option Record) (item : Record) → leave ≡ Some item → MaySplit a node branch leave → IsLicence a node branch item
  some_is leave item is may = subst (λ (o : Option Record). MaySplit a node branch o) is may

  pub leads_to : (leave : Option Record) → MaySplit a node branch leave → LeadsBy node leave a b → LeadsTo b.records node
  leads_to leave may (inl (item, is, none, joins)) = leads_behind a b node item (point_leads a node branch item (some_is leave item is may)) joins
  leads_to leave may (inr (refused, joins)) = leads_behind a b node (Blind node) (blind_leads node) joins

  pub keeps_node : (leave : Option Record) → b.town ≡ a.town → IsOpenAt a node → MaySplit a node branch leave → LeadsBy node leave a b → KeepsNode node a b
  keeps_node leave town opened may (inl (item, is, none, joins)) = keeps_open a b node item (point_leads a node branch item (some_is leave item is may)) town joins opened
  keeps_node leave town opened may (inr (refused, joins)) = keeps_open a b node (Blind node) (blind_leads node) town joins opened

  -- the Split behind it has its cause
  module _ (item : Record) (may : IsLicence a node branch item) (valid : broken_by item a ≡ None) where
    licensed_split : (entry added : List Record) → a.records ≡ entry ++ added → IsRoundedLeave a node (Some item) added → IsLicensedSplit a.town entry (added ++ item ∷ []) node branch.arc branch.k
    licensed_split entry added at rounded = record {
      earlier = added;
      den = may.den;
      numbers = may.numbers;
      is = ap (λ (r : Record). added ++ r ∷ []) may.is;
      licensed = subst (λ (items : List Record). IsLicensed a.town (standing a.town items) node may.den may.numbers) at (may.licensed valid);
      part = may.part;
      floor = may.floor;
      rounded = λ room few.
          subst (λ (items : List Record). MeetsRoundings a.town (standing a.town items) node may.den (number_at may.numbers)) at
          (subst (λ (r : Record). MeetsAt a node r) may.is (rounded few));
    }

  module _ (c : KeepState) where
    behind_point : (leave : Option Record) (item : Record) → leave ≡ Some item → IsLicence a node branch item → broken_by item a ≡ None → Joins item a b
        → Joins (Split node branch.arc branch.k) b c → AddsWhere (IsRoundedLeave a node leave) 2 0 a c
    behind_point leave item is may valid joins more =
        adds_two (IsRoundedLeave a node leave) a b c item (Split node branch.arc branch.k) (ap is_tour may.is) refl
        (λ entry added at here. point_free a node branch item may a.town entry added)
        (λ entry added at here. inl (licensed_split item may valid entry added at (subst (λ (o : Option Record). IsRoundedLeave a node o added) is here)))
        joins more

    behind_blind : (leave : Option Record) → HasBlindCause a.town a.records node → Joins (Blind node) a b → Joins (Split node branch.arc branch.k) b c → AddsWhere (IsRoundedLeave a node leave) 2 0 a c
    behind_blind leave cause joins more =
        adds_two (IsRoundedLeave a node leave) a b c (Blind node) (Split node branch.arc branch.k) refl refl
        (λ entry added at here. subst (λ (items : List Record). HasBlindCause a.town items node) at cause)
        (λ entry added at here. inr (record { earlier = added; is = refl }))
        joins more

    joined_split : (leave : Option Record) → MaySplit a node branch leave → LeadsBy node leave a b → Joins (Split node branch.arc branch.k) b c → AddsWhere (IsRoundedLeave a node leave) 2 0 a c
    joined_split leave may (inl (item, is, none, joins)) more = behind_point leave item is (some_is leave item is may) none joins more
    joined_split leave may (inr (refused, joins)) more = behind_blind leave (blind_cause a node branch leave may refused) joins more

    pub split_adds : (leave : Option Record) → MaySplit a node branch leave → Adds 1 0 a b → LeadsBy node leave a b → AddsAtMost (Split node branch.arc branch.k) b c → AddsWhere (IsRoundedLeave a node leave) 2 0 a c
    split_adds leave may adds leads (inl joins) = joined_split leave may leads joins
    split_adds leave may adds leads (inr same) =
        where_same (IsRoundedLeave a node leave) 2 0 a b c same
        (where_weaker (IsRoundedLeave a node leave) 1 2 0 0 a b (omega arith) (omega arith) (adds_where (IsRoundedLeave a node leave) 1 0 a b adds))
