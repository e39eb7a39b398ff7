-- `planning::request_text` meets its contract: the builder's answer tells what is printed. Assumes nothing.
use mathlib.Core.Path.{refl}
use Rattle.planning.proofs.Plans.{part_length}
use Rattle.planning.proofs.Answers.{size_fits, good, shown, turned_away}
use Rattle.planning.proofs.request_text.Goals as goal

pub slice_bounds-judged-end-in-Ok : goal.slice_bounds-judged-end-in-Ok
slice_bounds-judged-end-in-Ok c = part_length _ _ _ (size_fits _ _ _ c.build.ensures.place _ c.in-Ok.ensures.answer) refl

pub judged-requires : goal.judged-requires
judged-requires c = let g = good _ _ _ c.build.ensures.place _ c.in-Ok.ensures.answer in (g.0, g.1)

pub returns-in-Ok-clause-bytes : goal.returns-in-Ok-clause-bytes
returns-in-Ok-clause-bytes c = shown _ _ _ c.build.ensures.place _ c.in-Ok.ensures.answer _ _ _ _ c.build.ensures.rows c.build.ensures.cols _ c.judged.ensures

pub returns-in-Err-clause-bytes : goal.returns-in-Err-clause-bytes
returns-in-Err-clause-bytes c = turned_away _ _ _ c.build.ensures.place _ c.in-Err.ensures.answer _ c.refused.ensures
