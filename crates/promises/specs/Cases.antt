-- The starred cases of document 01's "Bench cases", in its order: what the calls answer, as one table.
use Rattle.std.specs.Prelude.{Result, Ok, Err, Option, Some}
use Rattle.refusal.specs.Answer.{outcome}
use Rattle.exponent.specs.Plan.{shape_of}
use Rattle.refusal.specs.declared.Refusal.{Refusal}
use Rattle.exponent.specs.declared.Shape.{Shape}
use Rattle.std.specs.Prelude.{ℕ, ◌*◌, ◌≤◌, ◌≡◌, List, [], ◌∷◌, ℤ, get_or, take, replicate}
use Rattle.std.specs.Prelude.{None}
use Rattle.refusal.specs.Lowest.{lowest}
use Rattle.exponent.specs.declared.block.Block.TheVariants.{Shift}
use Rattle.exponent.specs.Plan.{shifts, block_at}
use Rattle.exponent.specs.Limits.{plan_rules}
use Rattle.exponent.specs.Tanner.{tanner}
use Rattle.girth.specs.declared.Cycle.{Cycle}
use Rattle.girth.specs.Test.{Answer}
use Rattle.syndrome.specs.Check.{syndrome_of}
use Rattle.peeling.specs.Fill.{fill_answer, fill_word}
use Rattle.square.specs.declared.supply.Family.TheVariants.{Cyclic}
use Rattle.square.specs.Table.{supplied_table}
use Rattle.square.specs.Mask.{mask_at}
use Rattle.grid.specs.declared.Column.{Column}
use Rattle.grid.specs.Plan.{columns}
use Rattle.table.specs.Build.{build_rules, built_plan, built_shape}
use Rattle.tokens.specs.Bytes.{bytes}
use Rattle.alist.specs.Calls.{alist_text}
use Rattle.planning.specs.Output.{output}
use Rattle.promises.specs.TurnedAway.{RefusedWith}
use Rattle.promises.specs.Two.{Passing, Fails}

-- every answer of the girth test is that the plan fails; that it fails and the shown cycle has so many edges
abbrev pub Failing : List ℤ → ℕ → ℕ → ℕ → ℕ → Type 0
Failing plan rows cols lift target = (r : Result (Option Cycle) Refusal) → Answer plan rows cols lift target r → Fails r

abbrev pub FailingWith : ℕ → List ℤ → ℕ → ℕ → ℕ → ℕ → Type 0
FailingWith edges plan rows cols lift target = (r : Result (Option Cycle) Refusal) → Answer plan rows cols lift target r → (c : Cycle) × (r ≡ Ok (Some c)) × (2 * c.n ≡ edges)

-- the one-row plan 0 1
abbrev pub pair : List ℤ
pair = shifts (0 ∷ 1 ∷ [])

-- the cyclic table of order 4 with the full mask and a place of 48 × 64 numbers: what the builder answers, and the plan that it builds
abbrev pub full : List ℕ
full = replicate 16 1

abbrev pub cyclic_answer : ℕ → Result Shape Refusal
cyclic_answer lift = outcome (lowest (build_rules 4 lift (supplied_table Cyclic 4) full (record { plan = 48 * 64; rows = 48; cols = 64 }))) (built_shape 4 lift full)

abbrev pub cyclic_plan : ℕ → List ℤ
cyclic_plan lift = built_plan 4 lift (supplied_table Cyclic 4) full

abbrev pub column : ℕ → ℕ → ℕ → Column
column a j r = record { a = a; j = j; r = r }

-- THE TABLE
pub record BenchCases : Type 0 where
  -- 2×2 plan of zeros, P = 1: cycle of 4, fails at 6
  pub zeros_fails_6 : FailingWith 4 (shifts (0 ∷ 0 ∷ 0 ∷ 0 ∷ [])) 2 2 1 6
  -- 0 0 / 0 1, P = 2: passes 8, fails 10 with a cycle of 8; P = 3: passes 12
  pub corner_passes_8 : Passing (shifts (0 ∷ 0 ∷ 0 ∷ 1 ∷ [])) 2 2 2 8
  pub corner_fails_10 : FailingWith 8 (shifts (0 ∷ 0 ∷ 0 ∷ 1 ∷ [])) 2 2 2 10
  pub corner_passes_12 : Passing (shifts (0 ∷ 0 ∷ 0 ∷ 1 ∷ [])) 2 2 3 12
  -- 0 0 / 0 2, P = 4: fails 10
  pub corner_2_fails_10 : Failing (shifts (0 ∷ 0 ∷ 0 ∷ 2 ∷ [])) 2 2 4 10
  -- 0 0 0 0 / 0 0 1 1 / 0 1 0 1, P = 2 (002, example 1): fails 6
  pub example_1_fails_6 : Failing (shifts (0 ∷ 0 ∷ 0 ∷ 0 ∷ 0 ∷ 0 ∷ 1 ∷ 1 ∷ 0 ∷ 1 ∷ 0 ∷ 1 ∷ [])) 3 4 2 6
  -- any one-row plan passes 12; P = 4,096 is taken, 4,097 is 3
  pub one_row_passes_12 : (plan : List ℤ) (cols lift : ℕ) → lowest (plan_rules plan 1 cols lift) ≡ None → Passing plan 1 cols lift 12
  pub lift_4096_taken : Passing (shifts (0 ∷ 0 ∷ 0 ∷ [])) 1 3 4096 12
  pub lift_4097_refused : (plan : List ℤ) (cols : ℕ) → 1 ≤ cols → cols ≤ 512 → (r : Result (Option Cycle) Refusal) → Answer plan 1 cols 4097 12 r → RefusedWith 3 [] Err r
  -- cyclic J = 4, P = 6: refusal 10 with 0, 2, 1, 3; input "4 6" prints "refused 10", whatever room and text place are
  -- lent (of a place below 11 bytes, as far as it goes)
  pub cyclic_6_refused : RefusedWith 10 (0 ∷ 2 ∷ 1 ∷ 3 ∷ []) Err (cyclic_answer 6)
  pub input_4_6 : (room : ℕ) (place : List ℕ) → output (bytes "4 6") room place ≡ bytes "refused 10\n"
  -- P = 7: built, 448 bits, text begins "448 336"
  pub cyclic_7_built : cyclic_answer 7 ≡ Ok (shape_of 48 64 7)
  pub cyclic_7_bits : (tanner (cyclic_plan 7) 48 64 7).bits ≡ 448
  pub cyclic_7_text : take 8 (alist_text (cyclic_plan 7) 48 64 7) ≡ bytes "448 336\n"
  -- in it column (1,1,3), number 23, has 1 in row 5, 0 in row 23, 3 in row 39
  pub column_23 : get_or (columns 4 4 (mask_at 4 full)) 23 (column 0 0 0) ≡ column 1 1 3
  pub row_5 : block_at (cyclic_plan 7) 64 7 5 23 ≡ Shift 1
  pub row_23 : block_at (cyclic_plan 7) 64 7 23 23 ≡ Shift 0
  pub row_39 : block_at (cyclic_plan 7) 64 7 39 23 ≡ Shift 3
  -- plan 0 1 (one row), P = 2: 1 0 0 2 becomes 1 0 0 1, filled 1; 2 0 0 2: filled 0, left 2; 1 2 2 0: 20; 1 0 1 1: check 1 odd
  pub one_lost_answer : fill_answer pair 1 2 2 (1 ∷ 0 ∷ 0 ∷ 2 ∷ []) ≡ Ok (record { filled = 1; left = 0 })
  pub one_lost_word : fill_word pair 1 2 2 (1 ∷ 0 ∷ 0 ∷ 2 ∷ []) ≡ 1 ∷ 0 ∷ 0 ∷ 1 ∷ []
  pub two_lost_answer : fill_answer pair 1 2 2 (2 ∷ 0 ∷ 0 ∷ 2 ∷ []) ≡ Ok (record { filled = 0; left = 2 })
  pub two_lost_word : fill_word pair 1 2 2 (2 ∷ 0 ∷ 0 ∷ 2 ∷ []) ≡ 2 ∷ 0 ∷ 0 ∷ 2 ∷ []
  pub none_fit_answer : RefusedWith 20 [] Err (fill_answer pair 1 2 2 (1 ∷ 2 ∷ 2 ∷ 0 ∷ []))
  pub none_fit_word : fill_word pair 1 2 2 (1 ∷ 2 ∷ 2 ∷ 0 ∷ []) ≡ 1 ∷ 2 ∷ 2 ∷ 0 ∷ []
  pub check_1_odd : syndrome_of pair 1 2 2 (1 ∷ 0 ∷ 1 ∷ 1 ∷ []) ≡ Ok (Some 1)
  -- its alist
  pub text : alist_text pair 1 2 2 ≡ bytes "4 2\n1 2\n1 1 1 1\n2 2\n1\n2\n2\n1\n1 4\n2 3\n"
