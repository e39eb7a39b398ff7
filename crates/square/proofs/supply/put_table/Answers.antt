-- Assumes nothing.
use Prim.Native.Nat.{◌*◌}
use mathlib.Core.Path.{◌≡◌, sym, ap, ◌∙◌}
use mathlib.Core.List.{[], ◌∷◌}
use native.Mathlib.Omega.{arith}
use lib.IntN.{pos}
use mir.Syntax.{w16}
use mir.Val.{to_z, of_z}
use borrow.Author.Rules.{rules}
use Rattle.writing.proofs.Wrote.{wrote_one, wrote_all}
use Rattle.square.proofs.Each.{length_ones, supplied_are}
use Rattle.square.proofs.Runs.{turn}
use Rattle.square.proofs.supply.put_table.Invariants.{number}
use Rattle.square.proofs.supply.put_table.Goals as goal

pub loop-n-preserved : goal.loop-n-preserved
loop-n-preserved c = let a = c.args in
    let e : to_z w16 (of_z w16 c.make.result) ≡ c.make.result = search rules in
    turn (λ k. number a.family a.order k ∷ []) c.loop-n.invariant (wrote_one _ _ _ _ (e ∙ c.make.ensures ∙ ap pos c.supplied_at.ensures))

pub returns : goal.returns
returns c = let f = number c.args.family c.args.order in
    wrote_all _ _ _ _ (c.requires.2 ∙ sym (length_ones (c.args.order * c.args.order) f))
    (rw (let e : c.loop-n.n ≡ c.args.order * c.args.order = omega arith in e) at c.loop-n.invariant)
    ∙ sym (supplied_are c.args.order c.requires.0 c.args.family)
