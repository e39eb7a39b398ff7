-- Slip 5: a preview equals what filling reports on a copy. Assumes nothing.
use Rattle.std.specs.Prelude.{Ok}
use Rattle.std.specs.Prelude.{Result, Err}
use Rattle.refusal.specs.declared.Refusal.{Refusal}
use Rattle.peeling.specs.declared.Filling.{Filling}
use mathlib.Core.Path.{◌≡◌, sym, ap, ◌∙◌}
use mathlib.Core.List.{[], ◌∷◌}
use Rattle.peeling.specs.Fill.{fill_answer, Previews}
use Rattle.promises.specs.TurnedAway.{RefusedWith}
use Rattle.promises.specs.Cases.{pair}
use Rattle.promises.specs.Preview.{PreviewedAsFilled}
use Rattle.promises.proofs.Cases.{bench_cases}

pub previewed_as_filled : PreviewedAsFilled
previewed_as_filled plan rows cols lift word copy left previewed filled same p f = p ∙ sym (f.0 ∙ ap (fill_answer plan rows cols lift) same)

-- THE BENCH CASES of document 01 that are filled, previewed: one bit would come back, two stay lost, no values fit
module _ (r : Result Filling Refusal) where
  pub one_lost_previewed : Previews pair 1 2 2 (1 ∷ 0 ∷ 0 ∷ 2 ∷ []) r → r ≡ Ok (record { filled = 1; left = 0 })
  one_lost_previewed p = p ∙ bench_cases.one_lost_answer

  pub two_lost_previewed : Previews pair 1 2 2 (2 ∷ 0 ∷ 0 ∷ 2 ∷ []) r → r ≡ Ok (record { filled = 0; left = 2 })
  two_lost_previewed p = p ∙ bench_cases.two_lost_answer

  pub none_fit_previewed : Previews pair 1 2 2 (1 ∷ 2 ∷ 2 ∷ 0 ∷ []) r → RefusedWith 20 [] Err r
  none_fit_previewed p = rw p bench_cases.none_fit_answer
