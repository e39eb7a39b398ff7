-- Laws of the encoder's refusals: what its tests say, that their numbers rise, and which is the lowest. Assumes nothing.
use Prim.Native.Nat.{ℕ, ◌-◌, ◌*◌, ◌≤◌, ◌<◌}
use mathlib.Core.Path.{◌≡◌, refl, sym, ◌∙◌}
use mathlib.Core.Logic.{◌≢◌}
use mathlib.Core.Bool.{true, false, not}
use mathlib.Core.List.{List, []}
use Rattle.std.specs.Prelude.{None, Some}
use native.Mathlib.Omega.{arith}
use borrow.Author.Tests.{eqb-true, eq-eqb, ne_eqb, lt-ltb, le-ltb, ltb-false, not-false}
use lib.Dec.{eqb, ltb}
use lib.IntN.{ℤ}
use lib.ListN.{length, get_or, get_or-eq_default}
use Rattle.refusal.specs.declared.Refusal.TheVariants.{WordLength, NotBidiagonal, DataBits}
use Rattle.refusal.specs.Lowest.{lowest, rising}
use Rattle.refusal.specs.Place.{somewhere}
use Rattle.refusal.proofs.Lowest.{lowest_here, lowest_next, none_append, none_holds}
use Rattle.refusal.proofs.Place.{somewhere_none, somewhere_no}
use Rattle.graph.proofs.Decide.{both_ways, by_bool, by_le, neither}
use Rattle.exponent.specs.Limits.{plan_rules, WellFormed}
use Rattle.exponent.proofs.Rules as plan_laws
use Rattle.bidiagonal.specs.Shape.{not_bidiagonal}
use Rattle.encoding.specs.Encode.{bad_data, coding_rules, encode_rules}
use Rattle.encoding.specs.Work.{Bits, Greatest}

-- the numbers of the refusals rise
pub encode_rise : (plan : List ℤ) (rows cols lift : ℕ) (info : List ℕ) (room : ℕ) → rising (encode_rules plan rows cols lift info room) ≡ true
unfolding encode_rules plan_rules coding_rules
encode_rise plan rows cols lift info room = refl

-- 31: the length, and a byte above 1
pub bad_length : (n : ℕ) (info : List ℕ) → length info ≢ n → bad_data n info ≡ true
bad_length n info d = rw (ne_eqb (length info) n d)

pub bad_byte : (n : ℕ) (info : List ℕ) (x : ℕ) → length info ≡ n → Greatest (length info) info x → bad_data n info ≡ ltb 1 x
bad_byte n info x e g = rw (eq-eqb (length info) n e) (by_le 2 x above within)
  where
    above : 2 ≤ x → somewhere (ltb 1) info ≡ ltb 1 x
    above h =
        let (k, l, q) = g.met (omega arith) in
        by_bool (somewhere (ltb 1) info)
        (λ t. t ∙ sym (lt-ltb 1 x (omega arith)))
        (λ t. both_ways (lt-ltb 1 (get_or info k 0) (omega arith)) (somewhere_no (ltb 1) 0 info t k l))

    within : x < 2 → somewhere (ltb 1) info ≡ ltb 1 x
    within h = somewhere_none (ltb 1) 0 info (λ i l. le-ltb 1 (get_or info i 0) (omega (arith, g.most i l))) ∙ sym (le-ltb 1 x (omega arith))

-- what 31 does not fall on: data of the right length, each byte 0 or 1
pub good_data : (n : ℕ) (info : List ℕ) → bad_data n info ≡ false → (length info ≡ n) × Bits info
good_data n info e =
    let (p, q) = neither (not (eqb (length info) n)) (somewhere (ltb 1) info) e in
    (eqb-true (length info) n (not-false _ p), record { low = low q })
  where
    low : somewhere (ltb 1) info ≡ false → (b : ℕ) → get_or info b 0 < 2
    low q b =
        by_le (length info) b
        (λ h. omega (arith, get_or-eq_default info 0 h))
        (λ h. omega (arith, ltb-false 1 (get_or info b 0) (somewhere_no (ltb 1) 0 info q b h)))

-- WHICH IS THE LOWEST, of 16, 30 and 31
module _ (plan : List ℤ) (rows cols lift : ℕ) (info : List ℕ) (room : ℕ) where
  pub refused_16 : room ≢ cols * lift → lowest (coding_rules plan rows cols lift info room) ≡ Some WordLength
  unfolding coding_rules
  refused_16 d = lowest_here _ WordLength _ (rw (ne_eqb room (cols * lift) d))

  module _ (whole : room ≡ cols * lift) where
    right : not (eqb room (cols * lift)) ≡ false
    right = rw (eq-eqb room (cols * lift) whole)

    pub refused_30 : not_bidiagonal plan rows cols lift ≡ true → lowest (coding_rules plan rows cols lift info room) ≡ Some NotBidiagonal
    unfolding coding_rules
    refused_30 e = lowest_next _ WordLength _ right ∙ lowest_here _ NotBidiagonal _ e

    module _ (shape : not_bidiagonal plan rows cols lift ≡ false) where
      pub refused_31 : bad_data ((cols - rows) * lift) info ≡ true → lowest (coding_rules plan rows cols lift info room) ≡ Some DataBits
      unfolding coding_rules
      refused_31 e = lowest_next _ WordLength _ right ∙ lowest_next _ NotBidiagonal _ shape ∙ lowest_here _ DataBits [] e

      pub none_refused : bad_data ((cols - rows) * lift) info ≡ false → lowest (coding_rules plan rows cols lift info room) ≡ None
      unfolding coding_rules lowest
      none_refused e = rw (right, shape, e)

-- what plan and data have where nothing is refused
pub record Accepted (plan : List ℤ) (rows cols lift : ℕ) (info : List ℕ) : Type 0 where
  pub formed : WellFormed plan rows cols lift
  pub shaped : not_bidiagonal plan rows cols lift ≡ false
  pub data_whole : length info ≡ (cols - rows) * lift
  pub data_bits : Bits info

pub accepted : (plan : List ℤ) (rows cols lift : ℕ) (info : List ℕ) (room : ℕ) → lowest (encode_rules plan rows cols lift info room) ≡ None → Accepted plan rows cols lift info
unfolding encode_rules coding_rules
accepted plan rows cols lift info room e =
    let rules = coding_rules plan rows cols lift info room in
    let (p, q) = (none_append (plan_rules plan rows cols lift) rules).0 e in
    let (_, (shaped, (good, _))) = (none_holds rules).0 q in
    let (whole, bits) = good_data ((cols - rows) * lift) info good in
    record { formed = (plan_laws.accepted plan rows cols lift).0 p; shaped = shaped; data_whole = whole; data_bits = bits }
