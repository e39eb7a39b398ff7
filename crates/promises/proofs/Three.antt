-- Promise 3 holds: the test's answer says that the plan is valid and its graph has no short cycle, a column's three blocks give each bit
-- three checks; then graph's `few_recovered` applies to the filled word. Assumes nothing.
use Rattle.std.specs.Prelude.{Ok}
use Prim.Native.Nat.{ℕ, suc, ◌*◌, ◌≤◌, ◌<◌}
use Rattle.refusal.specs.Answer.{ok_unless}
use mathlib.Core.Path.{◌≡◌, sym, ap, ap₂, ◌∙◌}
use mathlib.Core.List.{List}
use native.Mathlib.Omega.{arith}
use borrow.Author.Tests.{eqb-true}
use lib.IntN.{ℤ}
use lib.ListN.{length, get_or, get_or-eq_default}
use Rattle.refusal.specs.Lowest.{lowest}
use Rattle.graph.specs.Girth.{Passes}
use Rattle.graph.specs.Stopping.{Least, girth_6, girth_8, girth_10, girth_12, girth_14, girth_16, girth_18}
use Rattle.graph.specs.Erasure.{erased, Codeword}
use Rattle.graph.proofs.Decide.{by_bool, by_le}
use Rattle.graph.proofs.Recovery.{few_recovered}
use Rattle.exponent.specs.Limits.{plan_rules, WellFormed}
use Rattle.exponent.specs.Tanner.{tanner, ThreeBlocks}
use Rattle.exponent.proofs.Rules.{accepted, valid_none}
use Rattle.exponent.proofs.Tanner.{three_checks}
use Rattle.girth.proofs.Rules.{formed}
use Rattle.syndrome.proofs.Rules.{word_accepted, even_exactly}
use Rattle.peeling.proofs.Rules.{not_refused}
use Rattle.promises.specs.Three.{Bound, at_6, at_8, at_10, at_12, at_14, at_16, at_18, Loses, Recovered, Promise3, CodeFrames}
use Rattle.promises.proofs.Two.{verdict}

-- the bound is one less than the least stopping set
pub least : {target bound : ℕ} → Bound target bound → Least target (suc bound)
least at_6 = girth_6
least at_8 = girth_8
least at_10 = girth_10
least at_12 = girth_12
least at_14 = girth_14
least at_16 = girth_16
least at_18 = girth_18

-- a codeword has the plan's length, and no byte of it is above 1, so none of a damaged one above 2
module _ (plan : List ℤ) (rows cols lift : ℕ) (f : List ℕ) (code : Codeword (tanner plan rows cols lift) f) where
  pub whole : length f ≡ cols * lift
  unfolding tanner
  whole = code.same_length

  low : (b : ℕ) → get_or f b 0 < 2
  low b = by_le (length f) b (λ h. omega (arith, get_or-eq_default f 0 h)) (λ h. code.known b (omega (arith, code.same_length)))

  damaged_low : (f' : List ℕ) (n : ℕ) → Loses f f' n → (b : ℕ) → get_or f' b 0 ≤ 2
  damaged_low f' n loses b = by_bool (erased f' b) (λ e. omega (arith, eqb-true (get_or f' b 0) 2 e)) (λ e. omega (arith, loses.kept b e, low b))

module _ (plan : List ℤ) (rows cols lift target bound : ℕ) (at : Bound target bound) (well : WellFormed plan rows cols lift)
    (no-cycle : Passes (tanner plan rows cols lift) target) (three : ThreeBlocks plan rows cols lift)
    (f f' : List ℕ) (code : Codeword (tanner plan rows cols lift) f) (loses : Loses f f' bound) where
  pub recovered : Recovered plan rows cols lift f f'
  recovered =
      let valid = (word_accepted plan rows cols lift f').1 (well, loses.same_length ∙ whole plan rows cols lift f code, damaged_low plan rows cols lift f code f' bound loses) in
      let back = few_recovered (tanner plan rows cols lift) (least at) no-cycle (three_checks plan rows cols lift well.some_lift three) f f'
      (record { codeword = code; same_length = loses.same_length; kept = loses.kept }) (omega (arith, loses.few)) in
      let filled = not_refused plan rows cols lift f' valid back.0 in
      record { answer = filled.0 ∙ ap₂ (λ (m n : ℕ). Ok (record { filled = m; left = n })) back.2 back.3; word = filled.1 ∙ back.1 }

pub promise_3 : Promise3
promise_3 plan rows cols lift target bound at r answer pass three f g f' g' code-f code-g loses-f loses-g =
    let (accept, no-cycle) = (verdict plan rows cols lift target answer).passed.0 pass in
    let well = formed plan rows cols lift target accept in
    let a = recovered plan rows cols lift target bound at well no-cycle three f f' code-f loses-f in
    let b = recovered plan rows cols lift target bound at well no-cycle three g g' code-g loses-g in
    (a, b, (λ e. sym a.word ∙ e ∙ b.word, λ e. a.word ∙ e ∙ sym b.word))

pub code_frames : CodeFrames
code_frames plan rows cols lift f =
    let even = even_exactly plan rows cols lift f in (
      λ e. let (well, code) = even.0 e in (ap ok_unless ((accepted plan rows cols lift).1 well), code),
      λ h. even.1 ((accepted plan rows cols lift).0 (valid_none (lowest (plan_rules plan rows cols lift)) h.0), h.1),
    )
