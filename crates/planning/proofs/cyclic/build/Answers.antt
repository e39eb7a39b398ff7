-- `planning::cyclic::build` meets its contract: what it lends does for the cyclic plan, or the order is refused. Assumes nothing.
use mathlib.Core.Path.{refl}
use Rattle.planning.proofs.Plans.{side_area, part_length}
use Rattle.planning.proofs.cyclic.build.Goals as goal

pub slice_bounds-build_with-end : goal.slice_bounds-build_with-end
slice_bounds-build_with-end c = part_length _ 49 _ (side_area _ _ c.side-n.ensures) refl

pub slice_bounds-build_with-end-2 : goal.slice_bounds-build_with-end-2
slice_bounds-build_with-end-2 c = part_length _ 49 _ (side_area _ _ c.side-n.ensures) refl
