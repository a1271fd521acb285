-- How a log stands once it is opened.
use Rattle.std.proofs.Common.{◌≡◌, ℕ, ◌<◌, ◌≤◌, List, [], length, take, sym, ◌∙◌, ap, subst, arith, Ok, true, false}
use Rattle.std.specs.Prelude.{IfSome, nat_le}
use Rattle.std.proofs.lemmas.Bool.Decides.{nat_tests}
use Rattle.wrp_disk.specs.Disks.{Meaning, Looks, Syncs}
use Rattle.wrp_log.specs.Payloads.{payloads_of, version_of, IsWritten, gate_after, list_of, ok_or_none}
use Rattle.wrp_log.specs.Logs.{Place, IsAt, IsOn}
use Rattle.wrp_log.specs.Steps.{PlaceIs, Opens}
use Rattle.wrp_log.proofs.Written.{written_stands, test_short, test_long}
use Rattle.wrp_log.proofs.Beginning.{short_stands}
use Rattle.wrp_log.proofs.Appended.{told_both}
use Rattle.wrp_log.proofs.Adding.{if_some_map}

-- the log stands at these payloads of these bytes
pub record IsIn (log : Place) (bytes : List ℕ) : Type 0 where
  pub payloads : List (List ℕ)
  pub stands : payloads_of bytes ≡ Ok payloads
  pub count : log.count ≡ length payloads
  pub gate : log.gate ≡ gate_after payloads
  pub replayed : log.replayed ≡ 0
  pub next : log.next ≡ 8
  pub begun : log.fresh ≡ false → IsWritten log.version payloads bytes
  pub fresh : log.fresh ≡ true → length bytes ≤ 9

pub in_fresh : (log : Place) (bytes : List ℕ) → log.fresh ≡ true → log.count ≡ 0 → log.gate ≡ 8 → log.replayed ≡ 0 → log.next ≡ 8 → length bytes ≤ 9 → IsIn log bytes
in_fresh log bytes fresh count gate replayed next short = record {
  payloads = [];
  stands = short_stands bytes short;
  count = count;
  gate = gate;
  replayed = replayed;
  next = next;
  begun = λ begun. absurd (grind arith);
  fresh = λ _. short;
}

pub in_begun : (log : Place) (bytes : List ℕ) → log.fresh ≡ false → log.replayed ≡ 0 → log.next ≡ 8 → PlaceIs (Ok (log.version, log.count, log.gate)) bytes → IsIn log bytes
in_begun log bytes begun replayed next (payloads, written, count, gate) = record {
  payloads = payloads;
  stands = written_stands log.version payloads bytes written;
  count = count;
  gate = gate;
  replayed = replayed;
  next = next;
  begun = λ _. written;
  fresh = λ fresh. absurd (grind arith);
}

-- after the first sync the bytes are the only image, and what comes after only looks
module _ (old one last : Meaning) (syncs : Syncs old one) (looks : Looks one last) where
  open_told : last.told ≡ old.told
  open_told = looks.told ∙ syncs.told

  at_log : (log : Place) (bytes : List ℕ) → ((c : List ℕ) → one.image c → c ≡ bytes) → IsIn log bytes → IsAt log (list_of bytes) last
  at_log log bytes only is_in =
      let same : (c : List ℕ) → last.image c → c ≡ bytes = λ c is. only c ((looks.image c).0 is) in
      subst (λ l. IsAt log l last) (sym (ap ok_or_none is_in.stands)) (record {
        count = is_in.count;
        gate = is_in.gate;
        replayed = omega (arith, is_in.replayed);
        next = is_in.next ∙ sym (ap (λ (n : ℕ). gate_after (take n is_in.payloads)) is_in.replayed);
        begun = λ begun c is. subst (IsWritten log.version is_in.payloads) (sym (same c is)) (is_in.begun begun);
        fresh = λ fresh c is. subst (λ b. length b ≤ 9) (sym (same c is)) (is_in.fresh fresh);
      })

  pub open_on : (log : Place) → log.limit ≡ one.limit → IfSome old.told (IsIn log) → IsOn log last
  open_on log limit is_in = record {
    limit = limit ∙ sym looks.time.limit;
    settled = subst (λ t. IfSome t (λ bytes. IsAt log (list_of bytes) last)) (sym open_told) (if_some_map old.told (λ bytes h. at_log log bytes h.0 h.1) (told_both _ _ old.told syncs.only is_in));
  }

test_fresh : (n : ℕ) → n ≤ 9 → true ≡ nat_le n 9
test_fresh n le = grind (arith, nat_tests)

test_begun : (n : ℕ) → 9 < n → false ≡ nat_le n 9
test_begun n lt = grind (arith, nat_tests)

pub opens_fresh : (log : Place) (bytes : List ℕ) → log.fresh ≡ true → log.count ≡ 0 → log.replayed ≡ 0 → log.version ≡ 2 → length bytes ≤ 9 → Opens log bytes
opens_fresh log bytes fresh count replayed version short = record {
  payloads = [];
  stands = short_stands bytes short;
  count = count;
  replayed = replayed;
  fresh = fresh ∙ test_fresh (length bytes) short;
  version = version ∙ sym (test_short (length bytes) 2 (version_of bytes) short);
}

pub opens_begun : (log : Place) (bytes : List ℕ) → log.fresh ≡ false → log.replayed ≡ 0 → PlaceIs (Ok (log.version, log.count, log.gate)) bytes → 9 < length bytes → Opens log bytes
opens_begun log bytes begun replayed (payloads, written, count, gate) long = record {
  payloads = payloads;
  stands = written_stands log.version payloads bytes written;
  count = count;
  replayed = replayed;
  fresh = begun ∙ test_begun (length bytes) long;
  version = sym written.same_version ∙ sym (test_long (length bytes) 2 (version_of bytes) long);
}
