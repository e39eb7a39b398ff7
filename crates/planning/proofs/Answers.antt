-- What the builder's answer tells of what is printed: a built plan stands at the front of the lent list and passes at 12, and its
-- alist is the output; for a refusal the output is its line. Assumes nothing.
use Rattle.std.specs.Prelude.{Ok, Err, Option, None}
use Rattle.refusal.specs.Answer.{outcome}
use Rattle.exponent.proofs.Numbers.{place_small}
use Rattle.exponent.specs.declared.Shape.{Shape}
use Prim.Native.Nat.{ℕ, ◌+◌, ◌*◌, ◌≤◌, min}
use mathlib.Core.Path.{◌≡◌, sym, ap, ◌∙◌}
use mathlib.Core.List.{List}
use native.Mathlib.Omega.{arith}
use lib.IntN.{ℤ}
use lib.ListN.{length, take, drop}
use lib.Seq.{sets, sets-eq, length-sets, take_at}
use Rattle.refusal.specs.declared.Refusal.{Refusal}
use Rattle.refusal.specs.Lowest.{lowest}
use Rattle.graph.specs.Girth.{Passes}
use Rattle.exponent.specs.Limits.{WellFormed}
use Rattle.exponent.specs.Tanner.{tanner}
use Rattle.refusal.specs.Lent.{lent}
use Rattle.alist.specs.Calls.{alist_text, write_rules}
use Rattle.planning.specs.declared.request.Request.{Request}
use Rattle.planning.specs.Request.{request_of}
use Rattle.planning.specs.Output.{rows_of, cols_of, cyclic_rules, cyclic_plan, cyclic_shape, cyclic_weights, refused_line, printed, output_for, output, plan_after}
use Rattle.planning.specs.Steps.{Printed}
use Rattle.weights.specs.declared.Side.TheVariants.{Bits, Checks}
use Rattle.refusal.proofs.Answer.{none_of_ok, some_of_err}
use Rattle.planning.proofs.Plans.{cyclic_is_good, cyclic_fits}

-- by the builder's answer, and the list `left` that it leaves
module _ (q : Request) (plan left : List ℤ) (p : left ≡ lent (lowest (cyclic_rules q (length plan))) (sets plan 0 (cyclic_plan q)) plan) where
  abbrev refusal : Option Refusal
  refusal = lowest (cyclic_rules q (length plan))

  module _ (s : Shape) (e : Ok s ≡ outcome (lowest (cyclic_rules q (length plan))) (cyclic_shape q)) where
    none_refused : refusal ≡ None
    none_refused = (none_of_ok (cyclic_shape q) refusal s (sym e)).0

    shape_is : s ≡ cyclic_shape q
    shape_is = sym (none_of_ok (cyclic_shape q) refusal s (sym e)).1

    pub size_small : s.rows * s.cols ≤ 98304
    size_small = let w = (cyclic_is_good q (length plan) none_refused).is_well_formed in rw shape_is (place_small _ _ w.few_rows w.few_cols)

    left_is : left ≡ sets plan 0 (cyclic_plan q)
    left_is = p ∙ ap (λ (o : Option Refusal). lent o (sets plan 0 (cyclic_plan q)) plan) none_refused

    pub size_fits : s.rows * s.cols ≤ length left
    size_fits = rw shape_is (omega (arith, (cyclic_fits q (length plan) none_refused).1, ap length left_is, length-sets plan 0 (cyclic_plan q)))

    front : take (s.rows * s.cols) left ≡ cyclic_plan q
    front =
        let w = (cyclic_is_good q (length plan) none_refused).is_well_formed.whole in
        let room = (cyclic_fits q (length plan) none_refused).1 in
        rw shape_is
        (ap (take (rows_of q * cols_of q)) (left_is ∙ sets-eq (cyclic_plan q) plan 0 (omega (arith, w, room)))
        ∙ take_at (cyclic_plan q) (drop (0 + length (cyclic_plan q)) plan) (rows_of q * cols_of q) w)

    pub good : WellFormed (take (s.rows * s.cols) left) s.rows s.cols s.lift × Passes (tanner (take (s.rows * s.cols) left) s.rows s.cols s.lift) 12
    good = let g = cyclic_is_good q (length plan) none_refused in rw (front, shape_is) (g.is_well_formed, g.passes)

    -- what is left in the two lists is the cyclic plan's weights
    pub shown : (byrow bycol rows_left cols_left : List ℕ) → rows_left ≡ lent (lowest (cyclic_rules q (length plan))) (cyclic_weights q Checks) byrow
        → cols_left ≡ lent (lowest (cyclic_rules q (length plan))) (cyclic_weights q Bits) bycol → (text : List ℕ) {n : ℕ} {out : List ℕ}
        → Printed text (printed (lowest (write_rules (take (s.rows * s.cols) left) s.rows s.cols s.lift rows_left cols_left text)) (alist_text (take (s.rows * s.cols) left) s.rows s.cols s.lift)) n out
        → Printed text (output_for q (length plan) text) n out
    unfolding output_for
    shown byrow bycol rows_left cols_left b c text w = rw (none_refused) (rw (front, shape_is, b, c, none_refused) at w)

  pub turned_away : (r : Refusal) → Err r ≡ outcome (lowest (cyclic_rules q (length plan))) (cyclic_shape q) → (text : List ℕ) {n : ℕ} {out : List ℕ} → Printed text (refused_line r) n out
      → Printed text (output_for q (length plan) text) n out
  unfolding output_for
  turned_away r e text w = rw (some_of_err (cyclic_shape q) refusal r (sym e)) w

-- the same of the input that the request was read from
pub told : (q : Request) (plan left : List ℤ) → left ≡ lent (lowest (cyclic_rules q (length plan))) (sets plan 0 (cyclic_plan q)) plan
    → (input text : List ℕ) → q ≡ request_of input → {n : ℕ} {out : List ℕ} → Printed text (output_for q (length plan) text) n out
    → (n ≡ min (length (output input (length plan) text)) (length text)) × ((out ≡ sets text 0 (output input (length plan) text)) × (left ≡ plan_after input plan))
told q plan left p input text r w = (
  w.counted ∙ ap (λ (x : Request). min (length (output_for x (length plan) text)) (length text)) r,
  (
    w.text ∙ ap (λ (x : Request). sets text 0 (output_for x (length plan) text)) r,
    p ∙ ap (λ (x : Request). lent (lowest (cyclic_rules x (length plan))) (sets plan 0 (cyclic_plan x)) plan) r,
  ),
)
