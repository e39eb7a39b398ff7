-- `index::build` meets its contract: the places that the index along the rows names are the filled ones, so the index that is
-- made from it is the one down the columns. Assumes nothing.
use borrow.Author.Rules.{rules}
use Rattle.index.proofs.Skips.{down_index}
use Rattle.index.proofs.build.Goals as goal

pub returns : goal.returns
returns c = let d = c.build_down in
    let along = c.build_along.ensures in
    (down_index _ _ _ along _ (search rules) d.ensures, along)
