-- `flipping::flip_valid` meets its contract: odd checks are marked with the index along the rows, then marked bits are turned.
-- Assumes nothing.
use Rattle.exponent.specs.Tanner.{tanner}
use Rattle.exponent.specs.Graphs.{graph}
use Rattle.flipping.proofs.Unmarking.{round_count, round_word}
use Rattle.flipping.proofs.flip_valid.Goals as goal

pub returns : goal.returns
unfolding tanner
returns c =
    let G = graph c.args.plan.now in
    let known = c.requires.known in
    let marked = rw c.new-rows.ensures at c.mark_odd.ensures in
    record {
      count = round_count G _ _ _ _ known marked c.flip_marked.ensures;
      word = round_word G _ _ _ _ known marked c.flip_marked.ensures;
    }
