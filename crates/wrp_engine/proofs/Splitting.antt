-- An open node of a search is split.
use Rattle.std.proofs.Common.{◌≡◌, ℕ, ◌^◌, ◌<◌, Bool, true, false, ◌&&◌, nat_lt, nat_le, List, [], ◌∷◌, ◌++◌, length, get_or, Option, None, Some, ap, refl, sym, ◌∙◌, subst, arith, eq-eqb}
use Rattle.std.specs.Prelude.{codes}
use Rattle.std.specs.Fmt.{decimal}
use Rattle.std.specs.Option.{option_map_or}
use Rattle.std.specs.List.{last_or}
use Rattle.std.proofs.lemmas.Bool.{and_from, and_parts, lt-ltb, ltb-true, le-leb, false≢true}
use Rattle.std.proofs.lemmas.Fmt.{length-decimal-le}
use Rattle.std.proofs.lemmas.List.{length-append}
use Rattle.wrp_town.specs.declared.town.Town.{Town}
use Rattle.wrp_town.specs.Arcs.{is_legal}
use Rattle.wrp_town.proofs.TownLaws.{legal_below, few_streets, few_demands}
use Rattle.wrp_rules.specs.declared.record.Record.{Record}
use Rattle.wrp_rules.specs.declared.record.Record.TheVariants.{Point, Blind, Split}
use Rattle.wrp_rules.specs.Contents.{has_number_rules}
use Rattle.wrp_rules.specs.Lines.{line_of}
use Rattle.wrp_rules.specs.Nodes.{Node, Standing, root, after, standing, is_open}
use Rattle.wrp_rules.specs.Rules.{broken_rule, leads_to_split, parts_range}
use Rattle.wrp_rules.specs.Lists.{is_valid}
use Rattle.wrp_writer.specs.Limits.{is_writable}
use Rattle.wrp_tour.specs.Tours.{HasTour}
use Rattle.wrp_keep.specs.Keeps.{KeepState, broken_by}
use Rattle.wrp_progress.specs.Progress.{HasNoLabels, LeadsTo, IsDoneIn}
use Rattle.wrp_progress.proofs.Growing.{standing_more}
use Rattle.wrp_progress.proofs.Branching.{blind_follows, split_follows, split_up}
use Rattle.wrp_progress.proofs.Unlabelled.{unlabelled}
use Rattle.wrp_engine.specs.Searches.{now, at_node, IsOpenAt, IsDoneAt}
use Rattle.wrp_engine.specs.Offers.{Offers, Joins}
use Rattle.wrp_engine.specs.Splits.{KeepsNode}
use Rattle.wrp_engine.proofs.FewUses.{few_uses}

-- ---- records that may be written

pub blind_writable : (node : ℕ) → node < 2 ^ 63 → is_writable (Blind node) ≡ true
blind_writable node small =
    and_from (has_number_rules (Blind node)) (nat_le (length (line_of (Blind node))) (2 ^ 28))
    (and_from (nat_lt node (2 ^ 63) && true) true (and_from (nat_lt node (2 ^ 63)) true (lt-ltb node (2 ^ 63) small) refl) refl)
    (le-leb (length (line_of (Blind node))) (2 ^ 28)
    (omega (
      arith,
      length-append (codes " " ++ decimal node) [],
      length-append (codes " ") (decimal node),
      length-decimal-le 19 node (omega arith) (omega (arith, small)) (omega (arith, small)),
    )))

pub split_writable : (node arc k : ℕ) → node < 2 ^ 63 → arc < 2 ^ 32 → k < 2 ^ 32 → is_writable (Split node arc k) ≡ true
split_writable node arc k small low few =
    and_from (has_number_rules (Split node arc k)) (nat_le (length (line_of (Split node arc k))) (2 ^ 28))
    (and_from _ true (and_from (nat_lt node (2 ^ 63)) _ (lt-ltb node (2 ^ 63) small)
    (and_from (nat_lt arc (2 ^ 32)) _ (lt-ltb arc (2 ^ 32) low)
    (and_from (nat_lt k (2 ^ 32)) true (lt-ltb k (2 ^ 32) few) refl))) refl)
    (le-leb (length (line_of (Split node arc k))) (2 ^ 28)
    (omega (
      arith,
      length-append (decimal node) (32 ∷ (decimal arc ++ (32 ∷ (decimal k ++ [])))),
      length-append (decimal arc) (32 ∷ (decimal k ++ [])),
      length-append (decimal k) [],
      length-decimal-le 19 node (omega arith) (omega (arith, small)) (omega (arith, small)),
      length-decimal-le 10 arc (omega arith) (omega (arith, low)) (omega (arith, low)),
      length-decimal-le 10 k (omega arith) (omega (arith, few)) (omega (arith, few)),
    )))

-- ---- leave to split

last_is : (o : Option Record) (records : List Record) (item : Record) → last_or o (records ++ item ∷ []) ≡ Some item
last_is o [] item = refl
last_is o (other ∷ records) item = last_is (Some other) records item

pub leads_behind : (old new : KeepState) (node : ℕ) (item : Record) → leads_to_split node item ≡ true → Joins item old new → LeadsTo new.records node
leads_behind old new node item leads joins =
    ap (λ (rs : List Record). option_map_or (leads_to_split node) (last_or None rs) false) joins
    ∙ ap (λ (o : Option Record). option_map_or (leads_to_split node) o false) (last_is None old.records item)
    ∙ leads

pub blind_leads : (node : ℕ) → leads_to_split node (Blind node) ≡ true
blind_leads node = eq-eqb node node refl

nodes_same : (town : Town) (s : Standing) (node : ℕ) (item : Record) → leads_to_split node item ≡ true → (after town s item).nodes ≡ s.nodes
nodes_same town s node (Point other den numbers) leads = refl
nodes_same town s node (Blind other) leads = refl
nodes_same town s node item leads = absurd (false≢true leads)

upper_same : (town : Town) (s : Standing) (node : ℕ) (item : Record) → leads_to_split node item ≡ true → (after town s item).upper ≡ s.upper
upper_same town s node (Point other den numbers) leads = refl
upper_same town s node (Blind other) leads = refl
upper_same town s node item leads = absurd (false≢true leads)

-- leave to split a node leaves it open, and as it was
pub keeps_open : (old new : KeepState) (node : ℕ) (item : Record) → leads_to_split node item ≡ true → new.town ≡ old.town → Joins item old new → IsOpenAt old node → KeepsNode node old new
keeps_open old new node item leads town joins opened =
    let s = standing old.town old.records in
    let is = ap (λ (t : Town). standing t new.records) town ∙ ap (standing old.town) joins ∙ standing_more old.town old.records item in
    let nodes = ap (λ (t : Standing). t.nodes) is ∙ nodes_same old.town s node item leads in
    let upper = ap (λ (t : Standing). t.upper) is ∙ upper_same old.town s node item leads in
    let same = ap (λ (t : Town). get_or (now new).nodes node (root t)) town ∙ ap (λ (ns : List Node). get_or ns node (root old.town)) nodes in
    record {
      opened = record {
        there = subst (λ (ns : List Node). node < length ns) (sym nodes) opened.there;
        told = ap (λ (u : Option ℕ). is_open u (at_node new node)) upper ∙ ap (is_open s.upper) same ∙ opened.told;
      };
      same = same;
    }

-- ---- the same list

pub record IsSameList (old new : KeepState) : Type 0 where
  pub town : new.town ≡ old.town
  pub records : new.records ≡ old.records

pub not_joined : (item : Record) (old new : KeepState) (joined : Bool) → new.town ≡ old.town → joined ≡ false → Offers item old new joined → IsSameList old new
not_joined item old new true town is offers = absurd (false≢true (sym is))
not_joined item old new false town is offers = record { town = town; records = offers.1 }

pub still_kept : (old mid new : KeepState) (node : ℕ) → IsSameList old mid → new.town ≡ mid.town → Joins (Blind node) mid new → IsOpenAt old node → KeepsNode node old new
still_kept old mid new node same town joins opened =
    keeps_open old new node (Blind node) (blind_leads node) (town ∙ same.town) (joins ∙ ap (λ (rs : List Record). rs ++ Blind node ∷ []) same.records) opened

-- ---- records that break no rule

pub some_tour : (town : Town) (records : List Record) → HasTour town → is_valid town records ≡ true → HasNoLabels records
some_tour town records tour valid = unlabelled town (λ none. none tour.0 tour.1) records valid

pub blind_valid : (old mid : KeepState) (node : ℕ) → IsSameList old mid → HasTour old.town → is_valid old.town old.records ≡ true → node < 2 ^ 63 → IsOpenAt old node → broken_by (Blind node) mid ≡ None
blind_valid old mid node same tour valid small opened =
    ap (λ (t : Town). broken_rule t (standing t mid.records) (Blind node)) same.town
    ∙ ap (λ (rs : List Record). broken_rule old.town (standing old.town rs) (Blind node)) same.records
    ∙ blind_follows old.town old.records (some_tour old.town old.records tour valid) node (blind_writable node small) opened

-- a number that parts the range of a legal arc is small, as the arc is
pub parting_writable : (keep : KeepState) (node arc k : ℕ) → is_valid keep.town keep.records ≡ true → node < 2 ^ 63 → is_legal keep.town arc ≡ true → parts_range (at_node keep node) arc k ≡ true → is_writable (Split node arc k) ≡ true
parting_writable keep node arc k valid small legal parts =
    let high : k < (at_node keep node).hi arc = ltb-true k ((at_node keep node).hi arc) (and_parts (nat_le ((at_node keep node).lo arc) k) (nat_lt k ((at_node keep node).hi arc)) parts).1 in
    split_writable node arc k small
    (omega (arith, legal_below keep.town arc legal, few_streets keep.town))
    (omega (arith, high, few_uses keep.town keep.records valid node arc, few_demands keep.town))

pub split_valid : (keep : KeepState) (node arc k : ℕ) → HasTour keep.town → is_valid keep.town keep.records ≡ true → node < 2 ^ 63 → IsOpenAt keep node → LeadsTo keep.records node
    → is_legal keep.town arc ≡ true → parts_range (at_node keep node) arc k ≡ true → broken_by (Split node arc k) keep ≡ None
split_valid keep node arc k tour valid small opened leads legal parts =
    split_follows keep.town keep.records (some_tour keep.town keep.records tour valid) node arc k (parting_writable keep node arc k valid small legal parts) opened leads legal parts

pub splits_up : (old new : KeepState) (node arc k : ℕ) → new.town ≡ old.town → Joins (Split node arc k) old new → IsOpenAt old node → IsDoneAt new node
splits_up old new node arc k town joins opened =
    subst (λ (t : Town). IsDoneIn t new.records node) (sym town)
    (subst (λ (rs : List Record). IsDoneIn old.town rs node) (sym joins) (split_up old.town old.records node opened arc k))
