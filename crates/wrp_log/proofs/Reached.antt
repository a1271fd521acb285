-- How the payloads of a log are reached one by one.
use Rattle.std.proofs.Common.{◌≡◌, ◌≢◌, ◌⊎◌, inl, inr, ℕ, zero, suc, ◌+◌, ◌<◌, ◌≤◌, List, [], ◌∷◌, length, get_or, take, drop, refl, sym, ◌∙◌, ap, subst, arith, Result, Ok, Err, Some, None, Bool, true, false}
use Rattle.std.specs.Prelude.{IfSome, if◌then◌else◌}
use Rattle.std.specs.List.{slice_get}
use Rattle.std.proofs.lemmas.Bool.{cases_eq, false≢true}
use Rattle.std.proofs.lemmas.List.{drop-drop, drop_more, take_more, length-drop, length-take-le}
use Rattle.std.proofs.lemmas.Option.{slice_get-get_or}
use Rattle.wrp_disk.specs.Disks.{Meaning, IsLawful, Looks}
use Rattle.wrp_log.specs.declared.fault.OpenFault.{OpenFault}
use Rattle.wrp_log.specs.declared.fault.OpenFault.TheVariants as faults
use Rattle.wrp_log.specs.Payloads.{gates, before_all, is_whole, size_at, payload_limit, list_of, ok_or_none, gate_after}
use Rattle.wrp_log.specs.Logs.{Place, IsAt, IsOn, replayed_in, stopped_at}
use Rattle.wrp_log.specs.Steps.{HasPayload}
use Rattle.wrp_log.proofs.Adding.{if_some_map}
use Rattle.wrp_log.proofs.Appended.{told_both, gate_push}
use Rattle.wrp_log.proofs.Beginning.{short_stands}
use Rattle.wrp_log.proofs.Parted.{whole_tests}
use Rattle.wrp_log.proofs.Stepping.{step_closed, opened, passed}

-- what stands at a gate behind which a payload is read, and then others
record First (limit at : ℕ) (payload : List ℕ) (payloads : List (List ℕ)) (bytes : List ℕ) : Type 0 where
  pub size : size_at (drop 1 bytes) ≡ length payload
  pub is : take (length payload) (drop 5 bytes) ≡ payload
  pub fits : length payload ≤ limit
  pub long : 5 + length payload < length bytes
  pub others : gates limit (at + 5 + length payload) 0 (drop (5 + length payload) bytes) ≡ Ok payloads

one_read : (first payload : List ℕ) (payloads : List (List ℕ)) (read : Result (List (List ℕ)) OpenFault) → before_all first read ≡ Ok (payload ∷ payloads) → (first ≡ payload) × (read ≡ Ok payloads)
one_read first payload payloads (Ok others) is = (grind arith, grind arith)
one_read first payload payloads (Err fault) is = absurd (grind arith)

module _ (limit at : ℕ) (bytes payload : List ℕ) (payloads : List (List ℕ)) where
  whole_first : is_whole limit (drop 1 bytes) ≡ true → before_all (take (size_at (drop 1 bytes)) (drop 4 (drop 1 bytes))) (gates limit (at + 1) (4 + size_at (drop 1 bytes)) (drop 1 bytes)) ≡ Ok (payload ∷ payloads)
      → First limit at payload payloads bytes
  whole_first whole is =
      let size = size_at (drop 1 bytes) in
      let tests = whole_tests (length (drop 1 bytes)) limit size whole in
      let len = length-drop 1 bytes in
      let one = one_read _ payload payloads _ is in
      let first : take size (drop 5 bytes) ≡ payload = ap (λ (l : List ℕ). take size l) (sym (drop-drop 4 1 bytes)) ∙ one.0 in
      let read : gates limit (at + 5 + size) 0 (drop (5 + size) bytes) ≡ Ok payloads = sym (passed limit at bytes size (omega (arith, len, tests.2))) ∙ one.1 in
      let same : size ≡ length payload = sym (length-take-le size (drop 4 (drop 1 bytes)) (omega (arith, length-drop 4 (drop 1 bytes), tests.2))) ∙ ap length one.0 in
      record {
        size = same;
        is = ap (λ (n : ℕ). take n (drop 5 bytes)) (sym same) ∙ first;
        fits = omega (arith, same, tests.1);
        long = omega (arith, same, len, tests.2);
        others = subst (λ n. gates limit (at + 5 + n) 0 (drop (5 + n) bytes) ≡ Ok payloads) same read;
      }

  by_whole : (whole : Bool) → is_whole limit (drop 1 bytes) ≡ whole
      → (if whole then before_all (take (size_at (drop 1 bytes)) (drop 4 (drop 1 bytes))) (gates limit (at + 1) (4 + size_at (drop 1 bytes)) (drop 1 bytes)) else Err (faults.Broken at)) ≡ Ok (payload ∷ payloads)
      → First limit at payload payloads bytes
  by_whole true whole is = whole_first whole is
  by_whole false whole is = absurd (grind arith)

  first_payload : gates limit at 0 bytes ≡ Ok (payload ∷ payloads) → First limit at payload payloads bytes
  first_payload is = elim (cases_eq (get_or bytes 0 0) 1) [
    | inl open_one ↦ by_whole (is_whole limit (drop 1 bytes)) refl (sym (opened limit at bytes open_one) ∙ is)
    | inr shut ↦ let none : Ok [] ≡ Ok (payload ∷ payloads) = sym (step_closed limit at bytes shut) ∙ is in absurd (grind arith)
  ]

-- the gate of a later payload
gate_more : (payloads : List (List ℕ)) (i : ℕ) → i < length payloads → gate_after (take (i + 1) payloads) ≡ gate_after (take i payloads) + 5 + length (get_or payloads i [])
gate_more payloads i lt = ap gate_after (take_more payloads i [] lt) ∙ gate_push (take i payloads) (get_or payloads i [])

gate_within : (payloads : List (List ℕ)) (n : ℕ) → gate_after (take n payloads) ≤ gate_after payloads
gate_within [] zero = omega arith
gate_within [] (suc n) = omega arith
gate_within (p ∷ payloads) zero = omega (arith, gate_within payloads 0)
gate_within (p ∷ payloads) (suc n) = omega (arith, gate_within payloads n)

module _ (limit : ℕ) (bytes : List ℕ) (payloads : List (List ℕ)) (read : gates limit 8 0 (drop 8 bytes) ≡ Ok payloads) where
  -- at the gate of each payload stand this one and those behind it
  reach : (i : ℕ) → i ≤ length payloads → gates limit (gate_after (take i payloads)) 0 (drop (gate_after (take i payloads)) bytes) ≡ Ok (drop i payloads)
  reach zero le = read
  reach (suc i) le =
      let g = gate_after (take i payloads) in
      let n = length (get_or payloads i []) in
      let lt : i < length payloads = omega (arith, le) in
      let one = first_payload limit g (drop g bytes) (get_or payloads i []) (drop (i + 1) payloads) (reach i (omega (arith, le)) ∙ ap Ok (drop_more payloads i [] lt)) in
      let e : suc i ≡ i + 1 = omega arith in
      let next : gate_after (take (suc i) payloads) ≡ g + 5 + n = ap (λ (k : ℕ). gate_after (take k payloads)) e ∙ gate_more payloads i lt in
      let place : g + (5 + n) ≡ g + 5 + n = omega arith in
      let behind : drop (5 + n) (drop g bytes) ≡ drop (g + 5 + n) bytes = drop-drop (5 + n) g bytes ∙ ap (λ (k : ℕ). drop k bytes) place in
      subst (λ k. gates limit k 0 (drop k bytes) ≡ Ok (drop (suc i) payloads)) (sym next)
      (ap (λ (l : List ℕ). gates limit (g + 5 + n) 0 l) (sym behind) ∙ one.others ∙ ap (λ (k : ℕ). Ok (drop k payloads)) (sym e))

  -- behind its gate stands each payload
  has_payload : (i : ℕ) → i < length payloads
      → HasPayload (gate_after (take i payloads)) (gate_after payloads) (get_or payloads i []) bytes × (length (get_or payloads i []) ≤ limit)
  has_payload i lt =
      let g = gate_after (take i payloads) in
      let p = get_or payloads i [] in
      let one = first_payload limit g (drop g bytes) p (drop (i + 1) payloads) (reach i (omega (arith, lt)) ∙ ap Ok (drop_more payloads i [] lt)) in (
        record {
          size = ap size_at (sym (drop-drop 1 g bytes)) ∙ one.size;
          is = ap (λ (l : List ℕ). take (length p) l) (sym (drop-drop 5 g bytes)) ∙ one.is;
          four = omega (arith, one.long, length-drop g bytes);
          within = omega (arith, gate_more payloads i lt, gate_within payloads (i + 1));
        },
        one.fits,
      )

below : (a c n : ℕ) → a ≢ c → c ≡ n → a ≤ n → a < n
below a c n ne is le = omega arith

-- a log that looked alone, at the same payloads
on_looks : (log later : Place) (old new : Meaning) → IsOn log old → Looks old new → later.limit ≡ log.limit → (P : List ℕ → Type 0) → IfSome old.told P
    → ((bytes : List ℕ) → P bytes → IsAt log (list_of bytes) new → IsAt later (list_of bytes) new) → IsOn later new
on_looks log later old new on looks limit P known moved = record {
  limit = limit ∙ on.limit ∙ sym looks.time.limit;
  settled = subst (λ t. IfSome t (λ bytes. IsAt later (list_of bytes) new)) (sym looks.told) (if_some_map old.told (λ bytes h. moved bytes h.0 (record {
    count = h.1.count;
    gate = h.1.gate;
    replayed = h.1.replayed;
    next = h.1.next;
    begun = λ begun c is. h.1.begun begun c ((looks.image c).0 is);
    fresh = λ fresh c is. h.1.fresh fresh c ((looks.image c).0 is);
  })) (told_both _ _ old.told known on.settled));
}

-- a log that stays where it is, and perhaps is given up
pub on_still : (log later : Place) (old new : Meaning) → IsOn log old → Looks old new → later ≡ log ⊎ (later ≡ stopped_at log) → IsOn later new
on_still log later old new on looks (inl same) = subst (λ l. IsOn l new) (sym same) (on_looks log log old new on looks refl _ on.settled (λ bytes h at. at))
on_still log later old new on looks (inr same) = subst (λ l. IsOn l new) (sym same) (on_looks log (stopped_at log) old new on looks refl _ on.settled (λ bytes h at. record {
  count = at.count;
  gate = at.gate;
  replayed = at.replayed;
  next = at.next;
  begun = at.begun;
  fresh = at.fresh;
}))

-- where payloads are left, the log was begun and has room
pub has_room : (fresh : Bool) (replayed count gate limit : ℕ) → (fresh ≡ true → replayed ≡ count) → (fresh ≡ false → gate < limit) → replayed ≢ count → gate < limit
has_room true replayed count gate limit all room more = absurd (more (all refl))
has_room false replayed count gate limit all room more = room refl

module _ (log : Place) (old : Meaning) (lawful : IsLawful old) (on : IsOn log old) where
  none_case : (bytes : List ℕ) → IsAt log (list_of bytes) old → old.image bytes → log.fresh ≡ true → length (list_of bytes) ≡ 0
  none_case bytes at now fresh = ap length (ap ok_or_none (short_stands bytes (at.fresh fresh bytes now)))

  next_case : (bytes : List ℕ) → log.replayed ≢ log.count → IsAt log (list_of bytes) old → old.image bytes → (fresh : Bool) → log.fresh ≡ fresh
      → HasPayload log.next log.gate (get_or (list_of bytes) log.replayed []) bytes × (length (get_or (list_of bytes) log.replayed []) ≤ payload_limit log.version)
  next_case bytes more at now true is = absurd (more (omega (arith, none_case bytes at now is, at.count, at.replayed)))
  next_case bytes more at now false is =
      let written = at.begun is bytes now in
      let lt = below log.replayed log.count (length (list_of bytes)) more at.count at.replayed in
      let has = has_payload (payload_limit log.version) bytes (list_of bytes) written.gates log.replayed lt in (
        subst (λ g. HasPayload log.next g (get_or (list_of bytes) log.replayed []) bytes) (sym at.gate)
            (subst (λ n. HasPayload n (gate_after (list_of bytes)) (get_or (list_of bytes) log.replayed []) bytes) (sym at.next) has.0),
        has.1,
      )

  -- the next payload stands behind its gate
  pub next_payload : log.replayed ≢ log.count
      → IfSome old.told (λ bytes. HasPayload log.next log.gate (get_or (list_of bytes) log.replayed []) bytes × (length (get_or (list_of bytes) log.replayed []) ≤ payload_limit log.version))
  next_payload more = if_some_map old.told (λ bytes both. next_case bytes more both.1 both.0 log.fresh refl) (told_both _ _ old.told lawful.honest on.settled)

  -- a read that finds each payload which is there has found the next one
  module _ (more : log.replayed ≢ log.count) (most : ℕ) (limit : most ≡ payload_limit log.version) (whole : Bool) (items : List ℕ)
      (read : IfSome old.told (λ bytes. (payload : List ℕ) → length payload ≤ most → HasPayload log.next log.gate payload bytes → (whole ≡ true) × (items ≡ payload))) where
    pub found : IfSome old.told (λ bytes. (whole ≡ true) × (items ≡ get_or (list_of bytes) log.replayed []) × (log.replayed < length (list_of bytes)))
    found = if_some_map old.told (λ bytes h.
        let got = h.0.0 (get_or (list_of bytes) log.replayed []) (omega (arith, h.0.1.1, limit)) h.0.1.0 in
        (got.0, got.1, below log.replayed log.count (length (list_of bytes)) more h.1.count h.1.replayed))
        (told_both _ _ old.told (told_both _ _ old.told read (next_payload more)) on.settled)

    pub lent_next : IfSome old.told (λ bytes. Some items ≡ slice_get (list_of bytes) log.replayed)
    lent_next = if_some_map old.told (λ bytes h. ap Some h.1 ∙ sym (slice_get-get_or (list_of bytes) log.replayed [] h.2)) found

    pub not_none : whole ≡ false → IfSome old.told (λ bytes. None ≡ slice_get (list_of bytes) log.replayed)
    not_none cut = if_some_map old.told (λ bytes h. absurd (false≢true (sym cut ∙ h.0))) found

    passed_at : (bytes : List ℕ) (new : Meaning) → (whole ≡ true) × (items ≡ get_or (list_of bytes) log.replayed []) × (log.replayed < length (list_of bytes))
        → IsAt log (list_of bytes) new → IsAt (replayed_in (Some items) log) (list_of bytes) new
    passed_at bytes new h at = record {
      count = at.count;
      gate = at.gate;
      replayed = omega (arith, h.2);
      next = omega (arith, at.next, gate_more (list_of bytes) log.replayed h.2, ap length h.1);
      begun = at.begun;
      fresh = at.fresh;
    }

    pub on_next : (new : Meaning) → Looks old new → IsOn (replayed_in (Some items) log) new
    on_next new looks = on_looks log (replayed_in (Some items) log) old new on looks refl _ found (λ bytes h at. passed_at bytes new h at)
