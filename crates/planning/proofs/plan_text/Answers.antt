-- `planning::plan_text` meets its contract: the request is read, and lists are lent for the weights of its plan. Assumes nothing.
use native.Mathlib.Omega.{arith}
use mathlib.Core.Path.{refl, sym}
use Rattle.planning.proofs.Plans.{side_area, side_cols, part_length}
use Rattle.planning.proofs.plan_text.Goals as goal

pub slice_bounds-request_text-end : goal.slice_bounds-request_text-end
slice_bounds-request_text-end c = part_length _ 147 _ (omega (arith, side_area _ _ c.side-n.ensures)) refl

pub slice_bounds-request_text-end-2 : goal.slice_bounds-request_text-end-2
slice_bounds-request_text-end-2 c = part_length _ 343 _ (side_cols _ _ c.side-n.ensures) refl

pub request_text-requires : goal.request_text-requires
request_text-requires c =
    rw (sym c.side-n.ensures)
    (sym (part_length _ 147 _ (omega (arith, side_area _ _ c.side-n.ensures)) refl), sym (part_length _ 343 _ (side_cols _ _ c.side-n.ensures) refl))
