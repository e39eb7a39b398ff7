-- The starred bench cases hold: those of the girth test from what its model computes and promise 2, the others computed. Assumes nothing.
use Rattle.std.specs.Prelude.{Result, Ok, None, Option}
use Rattle.exponent.specs.Plan.{shape_of}
use Rattle.std.specs.Prelude.{Err}
use Prim.Native.Nat.{ℕ, ◌*◌, ◌≤◌}
use mathlib.Core.Path.{◌≡◌, refl, sym, ap, subst, ◌∙◌}
use mathlib.Core.List.{List, [], ◌∷◌}
use Rattle.std.specs.Prelude.{Some}
use native.Mathlib.Omega.{arith}
use lib.IntN.{ℤ}
use lib.ListN.{length, get_or, take}
use Rattle.refusal.specs.declared.Refusal.{Refusal}
use Rattle.refusal.specs.declared.Refusal.TheVariants.{Rows, Cols, Lift, Unsound, NoSolution}
use Rattle.refusal.specs.Lowest.{lowest}
use Rattle.refusal.specs.Place.{first_place}
use Rattle.refusal.proofs.Lowest.{lowest_here, lowest_next}
use Rattle.graph.specs.Count.{range, select, count, member}
use Rattle.graph.specs.Graph.{bits_of, checks_of}
use Rattle.graph.specs.Erasure.{total, parity, any, only, peel, peels, largest}
use Rattle.graph.specs.Filling.{forced, fill_round, fill_rounds, filled_word, odd_check, clash, filled_count, left_count}
use Rattle.graph.proofs.Cycles.{one_girth}
use Rattle.exponent.specs.declared.block.Block.TheVariants.{Shift}
use Rattle.exponent.specs.Plan.{entry_at, block_at}
use Rattle.exponent.specs.Limits.{outside, plan_rules}
use Rattle.exponent.specs.Tanner.{tanner}
use Rattle.exponent.proofs.Rules.{inside, accepted}
use Rattle.walks.proofs.OneRow.{one_row_passes}
use Rattle.girth.specs.declared.Cycle.{Cycle}
use Rattle.girth.specs.Test.{test_rules, Answer, refused, passed, failed}
use Rattle.girth.specs.Model.{model}
use Rattle.girth.proofs.Cases.{computed}
use Rattle.girth.proofs.Model.{model_answer}
use Rattle.syndrome.specs.Word.{byte_rules, word_rules}
use Rattle.syndrome.specs.Check.{check_rules, lowest_odd, syndrome_of}
use Rattle.peeling.specs.Fill.{fill_rules, fill_answer, fill_word}
use Rattle.square.specs.Table.{quads, supplied_table}
use Rattle.square.specs.Mask.{mask_at, row_ones, column_ones, weighs, common, weight}
use Rattle.grid.specs.Plan.{columns, rows, table_plan}
use Rattle.table.specs.Build.{table_rules, mask_rules, build_rules, built_plan}
use Rattle.decimal.specs.Decimal.{digits, decimal}
use Rattle.tokens.specs.Bytes.{bytes}
use Rattle.lines.specs.Alist.{degrees, greatest, fill, lists, lines_in}
use Rattle.lines.specs.Text.{item, line_from, text_of}
use Rattle.alist.specs.Calls.{alist_text}
use Rattle.alist.proofs.FirstLine.{sizes_line, text_begins}
use Rattle.planning.proofs.Outputs.{four_six}
use Rattle.promises.specs.Two.{Passing}
use Rattle.promises.specs.Cases.{Failing, FailingWith, pair, full, column, cyclic_answer, cyclic_plan, BenchCases}
use Rattle.promises.proofs.Two.{verdict, passing_12}

-- THE GIRTH TEST: what the model's answer is, every answer is

module _ (plan : List ℤ) (rows cols lift target : ℕ) where
  module _ (a : Result (Option Cycle) Refusal) (e : model plan rows cols lift target ≡ a) where
    computed_answer : Answer plan rows cols lift target a
    computed_answer = subst (Answer plan rows cols lift target) e (model_answer plan rows cols lift target)

    passing : a ≡ Ok None → Passing plan rows cols lift target
    passing q r h = (verdict plan rows cols lift target h).passed.1 ((verdict plan rows cols lift target computed_answer).passed.0 q)

    failing : (k : Cycle) → a ≡ Ok (Some k) → Failing plan rows cols lift target
    failing k q r h = (verdict plan rows cols lift target h).failed.1 ((verdict plan rows cols lift target computed_answer).failed.0 (k, q))

    -- and every answer shows as many edges, since both numbers are the girth
    failing_with : (k : Cycle) → a ≡ Ok (Some k) → FailingWith (2 * k.n) plan rows cols lift target
    failing_with k q r h =
        let f = failing k q r h in
        (f.0, f.1, one_girth (tanner plan rows cols lift) ((verdict plan rows cols lift target h).girth f.0 f.1) ((verdict plan rows cols lift target computed_answer).girth k q))

  turned_away : (x : Refusal) → lowest (test_rules plan rows cols lift target) ≡ Some x → {r : Result (Option Cycle) Refusal} → Answer plan rows cols lift target r → r ≡ Err x
  turned_away x e (refused y q) = let s : y ≡ x = cc in ap Err s
  turned_away x e (passed q p) = absurd (let z : ◌≡◌ {A = ℕ} 0 1 = cc in omega arith)
  turned_away x e (failed r q w) = absurd (let z : ◌≡◌ {A = ℕ} 0 1 = cc in omega arith)

-- rows and columns are in range, so 3 is the first refusal that applies
lift_4097 : (plan : List ℤ) (cols : ℕ) → 1 ≤ cols → cols ≤ 512 → lowest (test_rules plan 1 cols 4097 12) ≡ Some Lift
unfolding test_rules plan_rules
lift_4097 plan cols h k =
    lowest_next (outside 1 192 1) Rows _ refl
    ∙ lowest_next (outside 1 512 cols) Cols _ ((inside 1 512 cols).1 (h, k))
    ∙ lowest_here (outside 1 4096 4097) Lift _ refl

-- TABLE PLANS

cyclic_6 : cyclic_answer 6 ≡ Err (Unsound 0 2 1 3)
unfolding lowest build_rules table_rules mask_rules first_place quads supplied_table
cyclic_6 = refl

cyclic_7 : (cyclic_answer 7 ≡ Ok (shape_of 48 64 7)) × ((tanner (cyclic_plan 7) 48 64 7).bits ≡ 448)
unfolding lowest build_rules table_rules mask_rules first_place quads supplied_table range count row_ones column_ones weighs common weight tanner
cyclic_7 = (refl, refl)

column_23 : (get_or (columns 4 4 (mask_at 4 full)) 23 (column 0 0 0) ≡ column 1 1 3)
    × (block_at (cyclic_plan 7) 64 7 5 23 ≡ Shift 1) × (block_at (cyclic_plan 7) 64 7 23 23 ≡ Shift 0) × (block_at (cyclic_plan 7) 64 7 39 23 ≡ Shift 3)
unfolding supplied_table first_place range count row_ones column_ones weighs weight built_plan table_plan rows columns block_at entry_at
column_23 = (refl, refl, refl, refl)

-- the text begins with the line of its sizes, and only that line is computed
begins : (text line begin : List ℕ) (n : ℕ) → line ≡ begin → length line ≡ n → take (length line) text ≡ line → take n text ≡ begin
begins text line begin n e m h = ap (λ (k : ℕ). take k text) (sym m) ∙ h ∙ e

cyclic_text : take 8 (alist_text (cyclic_plan 7) 48 64 7) ≡ bytes "448 336\n"
unfolding line_from item decimal digits
cyclic_text = begins (alist_text (cyclic_plan 7) 48 64 7) (sizes_line 48 64 7) (bytes "448 336\n") 8 refl refl (text_begins (cyclic_plan 7) 48 64 7)

-- THE ONE-ROW PLAN 0 1

-- a check with one erasure fills it, one with two leaves them, and an odd check without an erasure is refused
filled_words : (fill_answer pair 1 2 2 (1 ∷ 0 ∷ 0 ∷ 2 ∷ []) ≡ Ok (record { filled = 1; left = 0 })) × (fill_word pair 1 2 2 (1 ∷ 0 ∷ 0 ∷ 2 ∷ []) ≡ 1 ∷ 0 ∷ 0 ∷ 1 ∷ [])
    × (fill_answer pair 1 2 2 (2 ∷ 0 ∷ 0 ∷ 2 ∷ []) ≡ Ok (record { filled = 0; left = 2 })) × (fill_word pair 1 2 2 (2 ∷ 0 ∷ 0 ∷ 2 ∷ []) ≡ 2 ∷ 0 ∷ 0 ∷ 2 ∷ [])
    × (fill_answer pair 1 2 2 (1 ∷ 2 ∷ 2 ∷ 0 ∷ []) ≡ Err NoSolution) × (fill_word pair 1 2 2 (1 ∷ 2 ∷ 2 ∷ 0 ∷ []) ≡ 1 ∷ 2 ∷ 2 ∷ 0 ∷ [])
unfolding fill_answer fill_word fill_rules word_rules byte_rules plan_rules lowest first_place
    filled_word fill_rounds fill_round forced clash odd_check filled_count left_count largest peels peel
    only any member count parity total bits_of tanner select range block_at entry_at
filled_words = (refl, refl, refl, refl, refl, refl)

check_1_odd : syndrome_of pair 1 2 2 (1 ∷ 0 ∷ 1 ∷ 1 ∷ []) ≡ Ok (Some 1)
unfolding syndrome_of check_rules word_rules byte_rules plan_rules lowest first_place lowest_odd parity total bits_of tanner select range block_at entry_at
check_1_odd = refl

pair_text : alist_text pair 1 2 2 ≡ bytes "4 2\n1 2\n1 1 1 1\n2 2\n1\n2\n2\n1\n1 4\n2 3\n"
unfolding text_of line_from item decimal digits lines_in lists degrees greatest fill bits_of checks_of tanner select range block_at entry_at
pair_text = refl

-- THE TABLE
pub bench_cases : BenchCases
bench_cases =
    let (c₀, (c₁, (c₂, (c₃, (c₄, (c₅, (c₆, _))))))) = computed in
    record {
      zeros_fails_6 = failing_with _ 2 2 1 6 _ c₀ _ refl;
      corner_passes_8 = passing _ 2 2 2 8 _ c₁ refl;
      corner_fails_10 = failing_with _ 2 2 2 10 _ c₂ _ refl;
      corner_passes_12 = passing _ 2 2 3 12 _ c₃ refl;
      corner_2_fails_10 = failing _ 2 2 4 10 _ c₄ _ refl;
      example_1_fails_6 = failing _ 3 4 2 6 _ c₅ _ refl;
      one_row_passes_12 = λ plan cols lift e. passing_12 plan 1 cols lift e (one_row_passes plan cols lift ((accepted plan 1 cols lift).0 e).some_lift 12);
      lift_4096_taken = passing _ 1 3 4096 12 _ c₆ refl;
      lift_4097_refused = λ plan cols h k r a. (Lift, turned_away plan 1 cols 4097 12 Lift (lift_4097 plan cols h k) a, refl, refl);
      cyclic_6_refused = (Unsound 0 2 1 3, cyclic_6, refl, refl);
      input_4_6 = four_six;
      cyclic_7_built = cyclic_7.0;
      cyclic_7_bits = cyclic_7.1;
      cyclic_7_text = cyclic_text;
      column_23 = column_23.0;
      row_5 = column_23.1;
      row_23 = column_23.2;
      row_39 = column_23.3;
      one_lost_answer = filled_words.0;
      one_lost_word = filled_words.1;
      two_lost_answer = filled_words.2;
      two_lost_word = filled_words.3;
      none_fit_answer = (NoSolution, filled_words.4, refl, refl);
      none_fit_word = filled_words.5;
      check_1_odd = check_1_odd;
      text = pair_text;
    }
