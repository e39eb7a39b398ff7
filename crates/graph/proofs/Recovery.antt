-- Where the girth is large and every bit has three checks, few erasures are always filled: the heart of promise 3. Assumes nothing.
use Prim.Native.Nat.{ℕ, pred, ◌≤◌, ◌<◌}
use mathlib.Core.Path.{◌≡◌, ◌∙◌}
use mathlib.Core.Bool.{Bool, true, false}
use mathlib.Core.List.{List}
use native.Mathlib.Omega.{arith}
use lib.ListN.{length}
use Rattle.graph.specs.Count.{below, count}
use Rattle.graph.specs.Graph.{Bipartite}
use Rattle.graph.specs.Girth.{Passes}
use Rattle.graph.specs.Stopping.{ThreeChecks, Least}
use Rattle.graph.specs.Erasure.{Damaged, StoppingIn, largest}
use Rattle.graph.specs.Filling.{filled_word, clash, erasures, filled_count, left_count}
use Rattle.graph.proofs.Tree.{stopping_least}
use Rattle.graph.proofs.Peeling.{none_left, erased_low}
use Rattle.graph.proofs.Filling.{recovers_whole}

module _ (G : Bipartite) {t n : ℕ} (least : Least t n) (passes : Passes G t) (three : ThreeChecks G) where
  -- fewer erasures than the least stopping set has bits leave none in U
  pub few_filled : (w : List ℕ) → length w ≡ G.bits → erasures w < n → (b : ℕ) → largest G w b ≡ false
  few_filled w len few = none_left G w (pred n) large (omega arith)
    where
      large : (S : ℕ → Bool) → StoppingIn G w S → (b : ℕ) → S b ≡ true → pred n < count S (below (length w))
      large S stop b s =
          let low : b < G.bits = omega (arith, erased_low w b (stop.within b s)) in
          let enough : n ≤ count S (below (length w)) = rw len (stopping_least G S least passes three stop.stops b low s) in
          omega arith

  -- a codeword that loses fewer bits comes back whole
  pub few_recovered : (v w : List ℕ) → Damaged G v w → erasures w < n
      → (clash G (filled_word G w) ≡ false) × (filled_word G w ≡ v) × (filled_count G w ≡ erasures w) × (left_count G w ≡ 0)
  few_recovered v w d few = recovers_whole G v w d (few_filled w (d.same_length ∙ d.codeword.same_length) few)
