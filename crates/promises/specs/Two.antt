-- Promise 2 (demand 2 of the requirement), a record for each of its sentences, over the definitions that the calls answer by.
use Rattle.std.specs.Prelude.{ℕ, ◌+◌, ◌*◌, ◌<◌, ◌≡◌, ◌↔◌, ◌≢◌, Bool, true, false, not, ◌&&◌, List, map, ℤ, length, get_or}
use Rattle.std.specs.Prelude.{Option, None, Some, Result, Ok}
use Rattle.refusal.specs.declared.Refusal.{Refusal}
use Rattle.refusal.specs.Answer.{outcome}
use Rattle.exponent.specs.declared.Shape.{Shape}
use Rattle.refusal.specs.Lowest.{lowest}
use Rattle.graph.specs.Count.{below, count}
use Rattle.graph.specs.Graph.{Bipartite}
use Rattle.graph.specs.Girth.{SimpleCycle, Passes, IsGirth}
use Rattle.graph.specs.Erasure.{erased, Damaged, StoppingIn, Union, largest, Solution}
use Rattle.graph.specs.Filling.{erasures}
use Rattle.exponent.specs.Tanner.{tanner}
use Rattle.girth.specs.declared.Cycle.{Cycle}
use Rattle.girth.specs.Test.{test_rules, Witness, Answer}
use Rattle.peeling.specs.Fill.{fill_answer, fill_word}
use Rattle.square.specs.Table.{table_at}
use Rattle.square.specs.Mask.{mask_at, weight}
use Rattle.grid.specs.Source004.{kept_columns, kept_rows, target as target004, written}
use Rattle.weights.specs.Weights.{Held}
use Rattle.table.specs.Build.{build_refusal, after_build, built_shape}

-- A PLAN PASSES at a target exactly when its expanded graph has no simple cycle with fewer edges than the target, and else such a
-- cycle is shown, of exactly as many edges as the girth (document 02, slip 2).

-- there is a simple cycle with fewer edges than the target
pub record ShortCycle (G : Bipartite) (target : ℕ) : Type 0 where
  pub n : ℕ
  pub checks : List ℕ
  pub bits : List ℕ
  pub cycle : SimpleCycle G n checks bits
  pub short : 2 * n < target

-- it answers with a cycle
abbrev pub Fails : Result (Option Cycle) Refusal → Type 0
Fails r = (c : Cycle) × (r ≡ Ok (Some c))

-- what an answer of the girth test says, where `lowest … ≡ None` is that plan and target are not turned away
pub record Verdict (plan : List ℤ) (rows cols lift target : ℕ) (r : Result (Option Cycle) Refusal) : Type 0 where
  pub passed : (r ≡ Ok None) ↔ ((lowest (test_rules plan rows cols lift target) ≡ None) × Passes (tanner plan rows cols lift) target)
  pub failed : Fails r ↔ ((lowest (test_rules plan rows cols lift target) ≡ None) × ShortCycle (tanner plan rows cols lift) target)
  pub shown : lowest (test_rules plan rows cols lift target) ≡ None → r ≢ Ok None → (c : Cycle) × (r ≡ Ok (Some c)) × Witness (tanner plan rows cols lift) target c
  pub girth : (c : Cycle) → r ≡ Ok (Some c) → IsGirth (tanner plan rows cols lift) (2 * c.n)

-- there is an answer, and every answer says so
abbrev pub Verdicts : Type 0
Verdicts =
    (plan : List ℤ) (rows cols lift target : ℕ)
    → ((r : Result (Option Cycle) Refusal) × Answer plan rows cols lift target r)
    × ((r : Result (Option Cycle) Refusal) → Answer plan rows cols lift target r → Verdict plan rows cols lift target r)

-- A BUILT PLAN is the one in source document 004, and always passes at 12.

-- every answer of the girth test is that the plan passes
abbrev pub Passing : List ℤ → ℕ → ℕ → ℕ → ℕ → Type 0
Passing plan rows cols lift target = (r : Result (Option Cycle) Refusal) → Answer plan rows cols lift target r → r ≡ Ok None

-- 004's matrix, row by row, is written with −1 for ∞ and its entries modulo P; L is the mask's common weight
pub record BuiltPlan (order lift : ℕ) (table : List ℤ) (mask : List ℕ) (plan : List ℤ) (rows cols : ℕ) : Type 0 where
  pub from_004 : plan ≡ map (written lift) (target004 order (weight order mask) (table_at order table) (mask_at order mask))
  pub rows_004 : rows ≡ length (kept_rows order (weight order mask) (table_at order table) (mask_at order mask))
  pub cols_004 : cols ≡ length (kept_columns order (weight order mask) (mask_at order mask))
  pub passes : Passes (tanner plan rows cols lift) 12
  pub passing : Passing plan rows cols lift 12

-- wherever the builder answers that it built, of what its lent place then holds
abbrev pub BuiltPlans : Type 0
BuiltPlans =
    (order lift : ℕ) (table : List ℤ) (mask : List ℕ) (h : Held) (s : Shape)
    → outcome (build_refusal order lift table mask h) (built_shape order lift mask) ≡ Ok s
    → BuiltPlan order lift table mask (after_build order lift table mask h).plan s.rows s.cols

-- THE FILLER recovers each lost bit outside the largest set of lost bits that no check touches just once, and no other.

-- the union of such sets, however many are collected, is one
abbrev pub Unions : Type 1
Unions =
    (G : Bipartite) (word : List ℕ) (Collected : (ℕ → Bool) → Type 0) (U : ℕ → Bool)
    → ((S : ℕ → Bool) → Collected S → StoppingIn G word S) → Union Collected U → StoppingIn G word U

-- U is such a set and contains every other one
pub record LargestStopping (G : Bipartite) (word : List ℕ) (U : ℕ → Bool) : Type 0 where
  pub stopping : StoppingIn G word U
  pub contains : (S : ℕ → Bool) → StoppingIn G word S → (b : ℕ) → S b ≡ true → U b ≡ true

-- of a word, what the filler made of it, and the two numbers that it reports
pub record Recovers (G : Bipartite) (word after : List ℕ) (filled left : ℕ) : Type 0 where
  -- U is the largest stopping set;
  pub u_largest : LargestStopping G word (largest G word)
  -- outside U each lost bit becomes 0 or 1, and all these values together are the only ones that fit;
  pub outside : (b : ℕ) → erased word b ≡ true → largest G word b ≡ false → get_or after b 0 < 2
  pub fits : Solution G word after
  pub only_fit : (v : List ℕ) → Solution G word v → v ≡ after
  -- so if the word is a code frame that lost bits, they have that frame's values again;
  pub recovered : (v : List ℕ) → Damaged G v word → (b : ℕ) → largest G word b ≡ false → get_or after b 0 ≡ get_or v b 0
  -- in U all stay lost, and known bits stay as they are;
  pub inside : (b : ℕ) → largest G word b ≡ true → get_or after b 0 ≡ 2
  pub known : (b : ℕ) → erased word b ≡ false → get_or after b 0 ≡ get_or word b 0
  -- and the lost bits outside U and in U are counted.
  pub filled_outside : filled ≡ count (λ b. erased word b && not (largest G word b)) (below (length word))
  pub left_inside : left ≡ count (largest G word) (below (length word))
  pub every_one : filled + left ≡ erasures word

-- wherever the filler does not refuse
abbrev pub Recoveries : Type 0
Recoveries =
    (plan : List ℤ) (rows cols lift : ℕ) (word : List ℕ) (filled left : ℕ)
    → fill_answer plan rows cols lift word ≡ Ok (record { filled = filled; left = left })
    → Recovers (tanner plan rows cols lift) word (fill_word plan rows cols lift word) filled left

-- the whole promise
pub record Promise2 : Type 1 where
  pub girth_test : Verdicts
  pub table_plans : BuiltPlans
  pub stuck_sets : Unions
  pub filler : Recoveries
