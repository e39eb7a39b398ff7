-- Assumes nothing.
use Prim.Native.Nat.{ℕ, ◌*◌}
use mathlib.Core.Path.{◌≡◌, sym, ap, ◌∙◌}
use mathlib.Core.List.{[], ◌∷◌}
use native.Mathlib.Omega.{arith}
use mir.Syntax.{w16}
use mir.Val.{to_z, of_z}
use borrow.Author.Rules.{rules}
use Rattle.writing.proofs.Wrote.{wrote_one, wrote_all}
use Rattle.square.proofs.Each.{length_ones, each_digits}
use Rattle.square.proofs.Runs.{turn}
use Rattle.steiner.specs.System.{cols}
use Rattle.steiner.specs.Build.{entry, steiner_plan}
use Rattle.steiner.proofs.Orders.{small}
use Rattle.steiner.proofs.write.fill.Invariants.{number}
use Rattle.steiner.proofs.write.fill.Goals as goal

pub loop-n-preserved : goal.loop-n-preserved
loop-n-preserved c = let a = c.args in
    let e : to_z w16 (of_z w16 c.entry.result) ≡ c.entry.result = search rules in
    turn (λ k. number a.order a.lift a.voltages.now k ∷ []) c.loop-n.invariant (wrote_one _ _ _ _ (e ∙ rw c.cols-cols.ensures at c.entry.ensures))

pub returns : goal.returns
unfolding steiner_plan
returns c = let a = c.args in
    let f = number a.order a.lift a.voltages.now in
    let size = a.order * cols a.order in
    let end : c.loop-n.n ≡ size = omega (arith, ap (λ (n : ℕ). a.order * n) c.cols-cols.ensures) in
    wrote_all _ _ _ _ (c.requires.1 ∙ sym (length_ones size f)) (rw end at c.loop-n.invariant)
    ∙ sym (each_digits a.order (cols a.order) (omega (arith, (small _ c.requires.0.known).some_triples)) (λ i j. entry a.order a.lift a.voltages.now i j ∷ []))
