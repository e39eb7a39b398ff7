-- Laws of printing: a line, an alist or its refusal, and the arms of the judgement. Assumes nothing.
use Rattle.std.specs.Prelude.{Result, Ok, Err, Option, None}
use Rattle.refusal.specs.Answer.{outcome}
use Rattle.refusal.proofs.Answer.{none_of_ok, some_of_err}
use Prim.Native.Nat.{ℕ, ◌+◌, ◌≤◌, ◌<◌, min}
use mathlib.Core.Path.{◌≡◌, refl, sym, ap, subst, ◌∙◌}
use mathlib.Core.List.{List, [], ◌∷◌, ◌++◌}
use native.Mathlib.Omega.{arith}
use lib.IntN.{ℤ}
use lib.ListN.{length, get_or, drop}
use lib.Seq.{sets, sets-eq, length-sets, drop-cons}
use borrow.Author.Tests.{ltb-false}
use Rattle.refusal.specs.declared.Refusal.{Refusal}
use Rattle.refusal.specs.Number.{number}
use Rattle.refusal.specs.Lowest.{lowest}
use Rattle.refusal.proofs.Number.{number_range}
use Rattle.refusal.proofs.Lowest.{none_holds, none_append}
use Rattle.graph.specs.Count.{member}
use Rattle.graph.specs.Girth.{Passes}
use Rattle.writing.specs.Wrote.{Wrote}
use native.Mathlib.Numerals.{add-one}
use Rattle.writing.proofs.Wrote.{Going, wrote_then, part_done}
use Rattle.exponent.specs.Limits.{plan_rules, WellFormed}
use Rattle.exponent.specs.Tanner.{tanner}
use Rattle.exponent.proofs.Rules.{accepted}
use Rattle.girth.specs.declared.Cycle.{Cycle}
use Rattle.girth.specs.Test.{allowed, Answer, refused, passed, failed}
use Rattle.girth.proofs.Rules.{not_refused}
use Rattle.decimal.specs.Decimal.{decimal}
use Rattle.decimal.proofs.Digits.{length_under}
use Rattle.weights.specs.Weights.{shape_of}
use Rattle.alist.specs.Calls.{alist_text, place_rules, write_rules, laid}
use Rattle.planning.specs.Output.{refused_line, printed}
use Rattle.planning.specs.Steps.{Printed}

-- bytes on the way, from the i-th on: the next one
pub byte_done : {before text : List ℕ} {at p r : ℕ} {out : List ℕ} (bytes : List ℕ) (i : ℕ) → Going before at bytes (drop i bytes) p text → i < length bytes
    → Wrote text p (get_or bytes i 0 ∷ []) r out → Going before at bytes (drop (i + 1) bytes) r out
byte_done bytes i g h w = part_done (get_or bytes i 0 ∷ []) (drop (i + 1) bytes) (rw (add-one i) (drop-cons bytes i 0 h)) g w

-- a refusal's number has at most two digits
pub number_short : (r : Refusal) → length (decimal (number r)) ≤ 2
number_short r = length_under 1 (number r) (let e = number_range r in omega arith)

-- the line of a refusal: three runs of bytes one after the other, as far as there is room
pub line_wrote : {before one two after : List ℕ} {a b end count n : ℕ} (r : Refusal) → n ≡ number r
    → Wrote before 0 (114 ∷ 101 ∷ 102 ∷ 117 ∷ 115 ∷ 101 ∷ 100 ∷ 32 ∷ []) a one → Wrote one a (decimal n) b two → Wrote two b (10 ∷ []) end after
    → count ≡ min end (length after) → Printed before (refused_line r) count after
unfolding refused_line
line_wrote {before} {one} {two} {after} {a} {b} {end} {count} {n} r e f g h k =
    let w = wrote_then f (wrote_then (subst (λ (m : ℕ). Wrote one a (decimal m) b two) e g) h) in
    record { counted = omega (arith, k, w.place, ap length w.list, length-sets before 0 (refused_line r)); text = w.list }

-- by the answer a of `write`, which left the text `after`
module _ (plan : List ℤ) (rows cols lift : ℕ) (byrow bycol before after : List ℕ) where
  abbrev rules : Option Refusal
  rules = lowest (write_rules plan rows cols lift byrow bycol before)

  abbrev whole : List ℕ
  whole = alist_text plan rows cols lift

  room_enough : rules ≡ None → length whole ≤ length before
  unfolding write_rules
  room_enough e =
      let more = place_rules plan (shape_of rows cols lift) byrow bycol before in
      let (p, r) = (none_append (plan_rules plan rows cols lift) more).0 e in
      ltb-false (length before) (length whole) ((none_holds more).0 r).0

  -- the alist is in place
  pub alist_printed : (n : ℕ) → Ok n ≡ outcome rules (length whole) → after ≡ laid rules whole before → Printed before (printed rules whole) n after
  alist_printed n a l =
      let (e, k) = none_of_ok (length whole) rules n (sym a) in
      let b = room_enough e in
      let p : printed rules whole ≡ whole = ap (λ (o : Option Refusal). printed o whole) e in
      let z : 0 + length whole ≡ length whole = omega arith in
      record {
        counted = omega (arith, k, b, ap length p);
        text =
            l ∙ ap (λ (o : Option Refusal). laid o whole before) e
            ∙ sym (sets-eq whole before 0 (omega arith) ∙ ap (λ (m : ℕ). whole ++ drop m before) z)
            ∙ ap (sets before 0) (sym p);
      }

  -- the writer refused and left the text as it was, and the line is printed
  pub line_printed : (r : Refusal) (n : ℕ) (out : List ℕ) → Err r ≡ outcome rules (length whole) → after ≡ laid rules whole before
      → Printed after (refused_line r) n out → Printed before (printed rules whole) n out
  line_printed r n out a l w =
      let e = some_of_err (length whole) rules r (sym a) in
      let p : printed rules whole ≡ refused_line r = ap (λ (o : Option Refusal). printed o whole) e in
      let s : after ≡ before = l ∙ ap (λ (o : Option Refusal). laid o whole before) e in
      record {
        counted = omega (arith, w.counted, ap length p, ap length s);
        text = w.text ∙ ap (λ (t : List ℕ). sets t 0 (refused_line r)) s ∙ ap (sets before 0) (sym p);
      }

-- the girth test says of a plan that passes at 12 that it does
pub told_passed : (plan : List ℤ) (rows cols lift : ℕ) (t : Result (Option Cycle) Refusal) → Answer plan rows cols lift 12 t
    → WellFormed plan rows cols lift → Passes (tanner plan rows cols lift) 12 → t ≡ Ok None
unfolding Passes allowed member
told_passed plan rows cols lift t (refused x e) w p =
    absurd (let f = sym e ∙ not_refused plan rows cols lift 12 ((accepted plan rows cols lift).1 w) refl in let z : ◌≡◌ {A = ℕ} 0 1 = cc in omega arith)
told_passed plan rows cols lift t (passed e q) w p = refl
told_passed plan rows cols lift t (failed c e x) w p = absurd (omega (arith, p c.n _ _ x.cycle, x.short))
