-- How time passes over several calls.
use Rattle.std.proofs.Common.{◌≡◌, inl, inr, ⊎_elim, ℕ, List, Option, Some, None, refl, sym, subst, ap, ◌∙◌, arith}
use Rattle.std.specs.Prelude.{IfSome}
use Rattle.std.specs.Option.{option_map}
use Rattle.wrp_out.proofs.CountFacts.{never_falls_same, never_falls_then}
use Rattle.wrp_disk.specs.Disks.{Meaning, IsLawful, Passes, AtEachMoment, EachImage, Torn, Looks, Syncs, Writes, Fails, put_at, torn_images}
use Rattle.wrp_disk.specs.Lasting.{torn_none}

-- before the first call
pub passes_none : (P : List ℕ → Type 0) (disk : Meaning) → Passes P disk disk
passes_none P disk = record {
  later = omega arith;
  kept = λ t c le was. was;
  added = λ t c le was. inl was;
  tells = refl;
  faults = never_falls_same disk.faults;
  limit = refl;
}

-- some calls, and then some more
pub passes_then : (P : List ℕ → Type 0) (old mid new : Meaning) → Passes P old mid → Passes P mid new → Passes P old new
passes_then P old mid new one two = record {
  later = omega (arith, one.later, two.later);
  kept = λ t c le was. two.kept t c (omega (arith, le, one.later)) (one.kept t c le was);
  added = λ t c le is. ⊎_elim (λ was. one.added t c le was) (λ has. inr has) (two.added t c (omega (arith, le, one.later)) is);
  tells = two.tells ∙ one.tells;
  faults = never_falls_then old.faults mid.faults new.faults one.faults two.faults;
  limit = two.limit ∙ one.limit;
}

pub passes_weaker : (P Q : List ℕ → Type 0) (old new : Meaning) → ((c : List ℕ) → P c → Q c) → Passes P old new → Passes Q old new
passes_weaker P Q old new weaker one = record {
  later = one.later;
  kept = one.kept;
  added = λ t c le is. ⊎_elim (λ was. inl was) (λ has. inr (weaker c has)) (one.added t c le is);
  tells = one.tells;
  faults = one.faults;
  limit = one.limit;
}

-- what an image has at the start, and each new one within, each has at each moment since
pub at_each : (P : List ℕ → Type 0) (old new : Meaning) → IsLawful old → EachImage P old → Passes P old new → AtEachMoment P old new
at_each P old new lawful start time = record {
  each = λ c is. ⊎_elim (λ was. start c (lawful.only_now c was)) (λ has. has) (time.added old.moment c (omega arith) is);
  time = time;
}

-- ---- calls that change neither the bytes nor the images

pub looks_none : (disk : Meaning) → Looks disk disk
looks_none disk = record { told = refl; image = λ c. (λ is. is, λ is. is); time = passes_none disk.image disk }

module _ (old mid new : Meaning) (looks : Looks old mid) where
  -- what an image has that comes of one of mid, it has as well where it comes of one of old
  pub looks_then_passes : (P Q : List ℕ → Type 0) → ((c : List ℕ) → old.image c → Q c) → ((c : List ℕ) → P c → Q c) → Passes P mid new → Passes Q old new
  looks_then_passes P Q start weaker two =
      passes_then Q old mid new (passes_weaker old.image Q old mid start looks.time) (passes_weaker P Q mid new weaker two)

  pub looks_then : Looks mid new → Looks old new
  looks_then two = record {
    told = two.told ∙ looks.told;
    image = λ c. (λ is. (looks.image c).0 ((two.image c).0 is), λ is. (two.image c).1 ((looks.image c).1 is));
    time = looks_then_passes mid.image old.image (λ c is. is) (λ c is. (looks.image c).0 is) two.time;
  }

  pub looks_then_syncs : Syncs mid new → Syncs old new
  looks_then_syncs two = record {
    told = two.told ∙ looks.told;
    only = subst (λ t. IfSome t (λ bytes. (c : List ℕ) → new.image c → c ≡ bytes)) looks.told two.only;
    image = λ c is. (looks.image c).0 (two.image c is);
    time = looks_then_passes mid.image old.image (λ c is. is) (λ c is. (looks.image c).0 is) two.time;
  }

  torn_before : (at n : ℕ) (c : List ℕ) → torn_images at n mid c → torn_images at n old c
  torn_before at n c (d, is, torn) = (d, (looks.image d).0 is, torn)

  torn_behind : (at n : ℕ) (c : List ℕ) → torn_images at n old c → torn_images at n mid c
  torn_behind at n c (d, is, torn) = (d, (looks.image d).1 is, torn)

  torn_not : (at n : ℕ) (c : List ℕ) → old.image c → torn_images at n old c
  torn_not at n c is = (c, is, torn_none at n c)

  pub looks_then_writes : (at : ℕ) (bytes : List ℕ) → Writes at bytes mid new → Writes at bytes old new
  looks_then_writes at bytes two = record {
    told = two.told ∙ ap (option_map (put_at at bytes)) looks.told;
    image = λ c. (λ is. torn_before at _ c ((two.image c).0 is), λ is. (two.image c).1 (torn_behind at _ c is));
    time = looks_then_passes _ _ (torn_not at _) (torn_before at _) two.time;
  }

  pub looks_then_fails : (at n : ℕ) → Fails at n mid new → Fails at n old new
  looks_then_fails at n two = record {
    told = subst (λ t. IfSome t (λ before. IfSome new.told (Torn at n before))) looks.told two.told;
    image = λ c is. torn_before at n c (two.image c is);
    time = looks_then_passes _ _ (torn_not at n) (torn_before at n) two.time;
  }

-- a write of which nothing has come
pub looks_fails : (at n : ℕ) (old new : Meaning) → Looks old new → Fails at n old new
looks_fails at n old new looks = record {
  told = subst (λ t. IfSome old.told (λ before. IfSome t (Torn at n before))) (sym looks.told) (same old.told);
  image = λ c is. (c, (looks.image c).0 is, torn_none at n c);
  time = passes_weaker old.image (torn_images at n old) old new (λ c is. (c, is, torn_none at n c)) looks.time;
}
  where
    same : (told : Option (List ℕ)) → IfSome told (λ before. IfSome told (Torn at n before))
    same None = record {}
    same (Some bytes) = torn_none at n bytes
