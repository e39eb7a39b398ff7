-- `square::search::minus` meets its contract: reducing the first number does not change the difference. Assumes nothing.
use native.Mathlib.Nat.{mod-add-mod}
use Rattle.square.proofs.search.minus.Goals as goal

pub returns : goal.returns
returns c = mod-add-mod c.args.a c.args.lift _
