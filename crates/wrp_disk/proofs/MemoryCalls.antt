-- What one more change of a disk in memory means for any disk.
use Rattle.std.proofs.Common.{◌≡◌, inl, inr, ⊎_elim, ℕ, List, ◌∷◌, refl, sym, subst, arith}
use Rattle.wrp_out.proofs.CountFacts.{never_falls_same}
use Rattle.wrp_disk.specs.Disks.{Syncs, Writes, Fails, Passes}
use Rattle.wrp_disk.specs.Changes.{Change, Wrote, Tore, Synced, bytes_after, IsImage}
use Rattle.wrp_disk.specs.Lasting.{honest, torn_none}
use Rattle.wrp_disk.specs.Memory.{meaning_at}

module _ (first : List ℕ) (changes : List Change) (limit faults : ℕ) where
  kept_passes : (change : Change) → Passes (IsImage first (change ∷ changes)) (meaning_at first changes limit faults) (meaning_at first (change ∷ changes) limit faults)
  kept_passes change = record {
    later = omega arith;
    kept = λ t c le was. inr (le, was);
    added = λ t c le has. ⊎_elim (λ new. inr new) (λ was. inl was.1) has;
    tells = refl;
    faults = never_falls_same faults;
    limit = refl;
  }

  pub writes_at : (at : ℕ) (bytes : List ℕ) (later : List Change) → later ≡ Wrote at bytes ∷ changes → Writes at bytes (meaning_at first changes limit faults) (meaning_at first later limit faults)
  writes_at at bytes later is = subst (λ l. Writes at bytes (meaning_at first changes limit faults) (meaning_at first l limit faults)) (sym is) (record {
    told = refl;
    image = λ c. (λ is. is, λ is. is);
    time = kept_passes (Wrote at bytes);
  })

  pub tears_at : (at n : ℕ) (later : List Change) → later ≡ Tore at n ∷ changes → Fails at n (meaning_at first changes limit faults) (meaning_at first later limit faults)
  tears_at at n later is = subst (λ l. Fails at n (meaning_at first changes limit faults) (meaning_at first l limit faults)) (sym is) (record {
    told = torn_none at n (bytes_after first changes);
    image = λ c is. is;
    time = kept_passes (Tore at n);
  })

  now : (c : List ℕ) → c ≡ bytes_after first changes → IsImage first changes c
  now c same = subst (IsImage first changes) (sym same) (honest first changes)

  pub syncs_at : (later : List Change) → later ≡ Synced ∷ changes → Syncs (meaning_at first changes limit faults) (meaning_at first later limit faults)
  syncs_at later is = subst (λ l. Syncs (meaning_at first changes limit faults) (meaning_at first l limit faults)) (sym is) (record {
    told = refl;
    only = λ c new. new;
    image = now;
    time = record {
      later = omega arith;
      kept = λ t c le was. inr (le, was);
      added = λ t c le has. ⊎_elim (λ new. inr (now c new)) (λ was. inl was.1) has;
      tells = refl;
      faults = never_falls_same faults;
      limit = refl;
    };
  })
