-- What the last byte of a field means for the blanks at its end.
use Rattle.std.proofs.Common.{◌≡◌, ◌++◌, ◌∷◌, ◌&&◌, [], ℕ, List, Bool, true, false, refl, ap}
use Rattle.std.proofs.Math.Bool.{and-false}
use Rattle.std.specs.List.{list_all}
use Rattle.wrp_records.specs.Fields.{is_blank, trim_end}

-- one more blank changes nothing of whether all bytes are blank
blank_more : (bytes : List ℕ) (last : ℕ) → is_blank last ≡ true → list_all is_blank (bytes ++ (last ∷ [])) ≡ list_all is_blank bytes
blank_more [] last e = rw e refl
blank_more (byte ∷ bytes) last e = ap (λ (p : Bool). is_blank byte && p) (blank_more bytes last e)

-- not all bytes are blank where the last one is not
not_all_blank : (bytes : List ℕ) (last : ℕ) → is_blank last ≡ false → list_all is_blank (bytes ++ (last ∷ [])) ≡ false
not_all_blank [] last e = rw e refl
not_all_blank (byte ∷ bytes) last e = rw (not_all_blank bytes last e) (and-false (is_blank byte))

trim_end-append_blank : (bytes : List ℕ) (last : ℕ) → is_blank last ≡ true → trim_end (bytes ++ (last ∷ [])) ≡ trim_end bytes
unfolding trim_end
trim_end-append_blank [] last e = rw e refl
trim_end-append_blank (byte ∷ bytes) last e = rw (blank_more bytes last e, trim_end-append_blank bytes last e) refl

trim_end-append_other : (bytes : List ℕ) (last : ℕ) → is_blank last ≡ false → trim_end (bytes ++ (last ∷ [])) ≡ bytes ++ (last ∷ [])
unfolding trim_end
trim_end-append_other [] last e = rw e refl
trim_end-append_other (byte ∷ bytes) last e =
    rw (not_all_blank bytes last e, trim_end-append_other bytes last e, and-false (is_blank byte)) refl

-- a blank at the end goes
pub last_blank : (field others : List ℕ) (last : ℕ) → field ≡ others ++ (last ∷ []) → is_blank last ≡ true → trim_end field ≡ trim_end others
last_blank field others last e blank = rw e (trim_end-append_blank others last blank)

-- another byte at the end keeps the field as it is
pub last_stands : (field others : List ℕ) (last : ℕ) → field ≡ others ++ (last ∷ []) → is_blank last ≡ false → trim_end field ≡ field
last_stands field others last e other = rw e (trim_end-append_other others last other)

pub ruleset at_end = (last_blank, last_stands)
