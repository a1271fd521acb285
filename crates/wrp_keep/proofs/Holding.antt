-- The payloads of a log with those of more records.
use Rattle.std.proofs.Common.{◌≡◌, ℕ, zero, suc, ◌<◌, List, [], ◌∷◌, ◌++◌, length, take, Option, Some, None, sym, ◌∙◌, ap, subst, arith}
use Rattle.std.specs.Prelude.{IfSome, Ok}
use Rattle.std.specs.List.{All, flat_map}
use Rattle.std.specs.Option.{option_map}
use Rattle.std.proofs.lemmas.List.{append-nil, map-append}
use Rattle.std.proofs.lemmas.Grind.{flat_map-append}
use Rattle.std.proofs.lemmas.List.Elements.{All-append}
use Rattle.wrp_disk.specs.Disks.{Meaning}
use Rattle.wrp_log.specs.Logs.{Place, IsOn, list_told}
use Rattle.wrp_town.specs.declared.town.Town.{Town}
use Rattle.wrp_street.specs.Canonical.{canonical_of}
use Rattle.wrp_rules.specs.declared.record.Record.{Record}
use Rattle.wrp_keep.specs.Keeps.{KeepState, acknowledged_records, joined, IsLogged, IsHeld}
use Rattle.wrp_keep.specs.Calls.{SameAcknowledged}
use Rattle.wrp_keep.specs.Appends.{AppendsTo}

all_one : (group : List Record) → 0 < length group → All (λ g. 0 < length g) (group ∷ [])
all_one group some zero d lt = some
all_one group some (suc k) d lt = absurd (omega (arith, lt))

-- one more payload, of some records
pub logged_more : (town : Town) (records group : List Record) (payloads : List (List ℕ)) → 0 < length group → IsLogged town records payloads
    → IsLogged town (records ++ group) (payloads ++ joined group ∷ [])
logged_more town records group payloads some logged = record {
  groups = logged.groups ++ group ∷ [];
  not_empty = All-append (λ g. 0 < length g) logged.groups (group ∷ []) logged.not_empty (all_one group some);
  records_are = ap (λ (l : List Record). l ++ group) logged.records_are ∙ sym (flat_map-append (λ g. g) logged.groups (group ∷ []) ∙ ap (λ (l : List Record). flat_map (λ g. g) logged.groups ++ l) (append-nil group));
  payloads_are = ap (λ (l : List (List ℕ)). l ++ joined group ∷ []) logged.payloads_are ∙ ap (λ (l : List (List ℕ)). canonical_of town ∷ l) (sym (map-append joined logged.groups (group ∷ [])));
}

if_mapped : {X Y : Type 0} (P : X → Type 0) (Q : Y → Type 0) (f : X → Y) (o : Option X) → ((x : X) → P x → Q (f x)) → IfSome o P → IfSome (option_map f o) Q
if_mapped P Q f None step has = has
if_mapped P Q f (Some x) step has = step x has

-- the payload of some records was added to a log that holds the records before them
module _ (town : Town) (records group : List Record) (some : 0 < length group) (before after : Meaning) where
  told_more : (payloads : List ℕ) → payloads ≡ joined group → list_told after ≡ option_map (λ ps. ps ++ payloads ∷ []) (list_told before) → IfSome (list_told before) (IsLogged town records)
      → IfSome (list_told after) (IsLogged town (records ++ group))
  told_more payload is list logged =
      subst (λ o. IfSome o (IsLogged town (records ++ group))) (sym list)
      (if_mapped (IsLogged town records) (IsLogged town (records ++ group)) (λ ps. ps ++ payload ∷ []) (list_told before)
      (λ ps l. subst (λ (p : List ℕ). IsLogged town (records ++ group) (ps ++ p ∷ [])) (sym is) (logged_more town records group ps some l)) logged)

  pub on_more : (payload : List ℕ) (old new : Option Place) → AppendsTo payload old new before after (Ok tt) → IfSome new (λ log. IsOn log after)
  on_more payload old None appends = record {}
  on_more payload None (Some new) appends = absurd (grind (arith, appends.0))
  on_more payload (Some old) (Some new) appends = appends.added.on

  pub holds_more : (payload : List ℕ) (old new : Option Place) → payload ≡ joined group → AppendsTo payload old new before after (Ok tt)
      → IfSome old (λ log. IfSome (list_told before) (IsLogged town records)) → IfSome new (λ log. IfSome (list_told after) (IsLogged town (records ++ group)))
  holds_more payload old None is appends held = record {}
  holds_more payload None (Some new) is appends held = absurd (grind (arith, appends.0))
  holds_more payload (Some old) (Some new) is appends held = told_more payload is appends.added.list held

pub held_more : (keep later : KeepState) (group : List Record) (payload : List ℕ) (before after : Meaning) → later.town ≡ keep.town
    → take later.acknowledged later.records ≡ take keep.acknowledged keep.records ++ group → payload ≡ joined group → 0 < length group
    → IsHeld keep before → AppendsTo payload keep.log later.log before after (Ok tt) → IsHeld later after
held_more keep later group payload before after town records is some held appends =
    let kept = take keep.acknowledged keep.records in
    record {
      on = on_more keep.town kept group some before after payload keep.log later.log appends;
      holds = subst (λ (t : Town). IfSome later.log (λ log. IfSome (list_told after) (IsLogged t (take later.acknowledged later.records)))) (sym town)
          (subst (λ (rs : List Record). IfSome later.log (λ log. IfSome (list_told after) (IsLogged keep.town rs))) (sym records)
          (holds_more keep.town kept group some before after payload keep.log later.log is appends held.holds));
    }

-- the same records are still held
pub held_stays : (old new : KeepState) (disk : Meaning) → SameAcknowledged old new → IsHeld old disk → IsHeld new disk
held_stays old new disk same held = record {
  on = subst (λ (l : Option Place). IfSome l (λ log. IsOn log disk)) (sym same.log) held.on;
  holds = subst (λ (l : Option Place). IfSome l (λ log. IfSome (list_told disk) (IsLogged new.town (acknowledged_records new)))) (sym same.log)
      (subst (λ (t : Town). IfSome old.log (λ log. IfSome (list_told disk) (IsLogged t (acknowledged_records new)))) (sym same.town)
      (subst (λ (rs : List Record). IfSome old.log (λ log. IfSome (list_told disk) (IsLogged old.town rs))) (sym same.records) held.holds));
}

-- where there is no log, nothing is asked of a disk
pub bare_held : (keep : KeepState) (disk : Meaning) → keep.log ≡ None → IsHeld keep disk
bare_held keep disk none = record {
  on = subst (λ (l : Option Place). IfSome l (λ log. IsOn log disk)) (sym none) (record {});
  holds = subst (λ (l : Option Place). IfSome l (λ log. IfSome (list_told disk) (IsLogged keep.town (acknowledged_records keep)))) (sym none) (record {});
}
