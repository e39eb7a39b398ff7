-- Rows 16, 18 to 20 and 32, of words: the tests of the syndrome check, of the decoder and of a round of bit flipping say what the rows say.
-- Assumes nothing.
use Prim.Native.Nat.{ℕ, ◌*◌, ◌<◌}
use mathlib.Core.Path.{◌≡◌, refl, ap}
use mathlib.Core.Logic.{◌↔◌, inl}
use mathlib.Core.Bool.{Bool, true, not}
use mathlib.Core.List.{List, [], ◌∷◌}
use lib.Dec.{eqb}
use lib.IntN.{ℤ}
use lib.ListN.{length, get_or}
use Rattle.refusal.specs.declared.Refusal.{Refusal}
use Rattle.refusal.specs.declared.Refusal.TheVariants.{WordLength, Byte, Erasure, NoSolution, ColumnWeight}
use Rattle.refusal.specs.Lowest.{refuse, In}
use Rattle.refusal.specs.Place.{First, first_place, somewhere}
use Rattle.refusal.proofs.Place.{first_exactly}
use Rattle.graph.specs.Graph.{Bipartite}
use Rattle.graph.specs.Erasure.{any}
use Rattle.graph.specs.Filling.{filled_word, clash}
use Rattle.graph.proofs.Peeling.{any_true, any_some}
use Rattle.graph.proofs.Filling.{no_solution}
use Rattle.exponent.specs.Limits.{plan_rules}
use Rattle.exponent.specs.Tanner.{tanner, column_weight}
use Rattle.syndrome.specs.Word.{is_erasure, is_other, byte_rules, word_rules}
use Rattle.syndrome.specs.Check.{check_rules}
use Rattle.syndrome.proofs.Symbols.{other_exactly, erasure_exactly}
use Rattle.peeling.specs.Fill.{fill_rules}
use Rattle.flipping.specs.Flip.{other_weight, flip_rules}
use Rattle.promises.specs.TurnedAway.{PlanRow, WordRow, row_16, row_18, ErasureRow, row_19, SolutionRow, row_20, ColumnRow, row_32, ◌or◌}
use Rattle.promises.proofs.Matching.{Listed, RowOf, Matches, join, by_rule, no_rule, at_rule, further, one_rule}
use Rattle.promises.proofs.PlanRows.{differs, plan_matches}

-- 16 AND 18
module _ (bits : ℕ) (word : List ℕ) where
  first_other : (place : ℕ) → ((somewhere is_other word ≡ true) × (first_place is_other word ≡ place)) ↔ First (length word) (λ p. 2 < get_or word p 0) place
  first_other place = first_exactly is_other 0 (λ x. 2 < x) other_exactly word place

  abbrev Row : Refusal → Type 0
  Row = RowOf (WordRow bits word)

  listed : (s : Refusal) → In (refuse s true) (byte_rules bits word) → Row s
  unfolding byte_rules
  listed s i =
      by_rule Row WordLength (not (eqb (length word) bits)) _ s i (λ e. row_16 ((differs (length word) bits).0 e)) λ i.
      by_rule Row (Byte (first_place is_other word)) (somewhere is_other word) [] s i (λ e. row_18 _ ((first_other _).0 (e, refl))) λ i.
      no_rule Row s i

  applies : (n : ℕ) (l : List ℕ) → WordRow bits word n l → Listed (byte_rules bits word) n l
  unfolding byte_rules
  applies n l (row_16 h) = at_rule _ _ refl refl ((differs (length word) bits).1 h)
  applies n l (row_18 place h) = let (t, e) = (first_other place).1 h in further (at_rule _ _ refl (ap (◌∷ []) e) t)

  word_matches : Matches (byte_rules bits word) (WordRow bits word)
  word_matches = record { listed = λ s i. inl (listed s i); applies = applies }

-- 19
erasure_matches : (word : List ℕ) → Matches (refuse (Erasure (first_place is_erasure word)) (somewhere is_erasure word) ∷ []) (ErasureRow word)
erasure_matches word = one_rule _ _ (ErasureRow word) (λ e. row_19 _ ((first_erasure _).0 (e, refl))) row
  where
    first_erasure : (place : ℕ) → ((somewhere is_erasure word ≡ true) × (first_place is_erasure word ≡ place)) ↔ First (length word) (λ p. get_or word p 0 ≡ 2) place
    first_erasure place = first_exactly is_erasure 0 (λ x. x ≡ 2) erasure_exactly word place

    row : (n : ℕ) (l : List ℕ) → ErasureRow word n l → Listed (refuse (Erasure (first_place is_erasure word)) (somewhere is_erasure word) ∷ []) n l
    row n l (row_19 place h) = let (t, e) = (first_erasure place).1 h in at_rule _ _ refl (ap (◌∷ []) e) t

-- 20
solution_matches : (G : Bipartite) (word : List ℕ) → Matches (refuse NoSolution (clash G (filled_word G word)) ∷ []) (SolutionRow G word)
solution_matches G word = one_rule NoSolution _ (SolutionRow G word) (λ e. row_20 ((no_solution G word).0 e)) row
  where
    row : (n : ℕ) (l : List ℕ) → SolutionRow G word n l → Listed (refuse NoSolution (clash G (filled_word G word)) ∷ []) n l
    row n l (row_20 h) = at_rule _ _ refl refl ((no_solution G word).1 h)

-- 32
module _ (plan : List ℤ) (rows cols lift : ℕ) where
  abbrev other : ℕ → Bool
  other j = not (eqb (column_weight plan rows cols lift j) 3)

  column_matches : Matches (refuse ColumnWeight (other_weight plan rows cols lift) ∷ []) (ColumnRow plan rows cols lift)
  unfolding other_weight
  column_matches =
      one_rule ColumnWeight _ (ColumnRow plan rows cols lift)
      (λ e. let (j, h, t) = any_true cols other e in row_32 j h ((differs (column_weight plan rows cols lift j) 3).0 t))
      row
    where
      row : (n : ℕ) (l : List ℕ) → ColumnRow plan rows cols lift n l → Listed (refuse ColumnWeight (any cols other) ∷ []) n l
      row n l (row_32 j h d) = at_rule _ _ refl refl (any_some cols other j h ((differs (column_weight plan rows cols lift j) 3).1 d))

-- THE CALLS
module _ (plan : List ℤ) (rows cols lift : ℕ) (word : List ℕ) where
  both : Matches (word_rules plan rows cols lift word) (PlanRow plan rows cols lift or WordRow (cols * lift) word)
  unfolding word_rules
  both = join (plan_rules plan rows cols lift) (byte_rules (cols * lift) word) _ _ (plan_matches plan rows cols lift) (word_matches (cols * lift) word)

  pub check_matches : Matches (check_rules plan rows cols lift word) (PlanRow plan rows cols lift or WordRow (cols * lift) word or ErasureRow word)
  unfolding check_rules
  check_matches = join (word_rules plan rows cols lift word) _ _ _ both (erasure_matches word)

  pub fill_matches : Matches (fill_rules plan rows cols lift word) (PlanRow plan rows cols lift or WordRow (cols * lift) word or SolutionRow (tanner plan rows cols lift) word)
  unfolding fill_rules
  fill_matches = join (word_rules plan rows cols lift word) _ _ _ both (solution_matches (tanner plan rows cols lift) word)

  pub flip_matches : Matches (flip_rules plan rows cols lift word) (PlanRow plan rows cols lift or WordRow (cols * lift) word or ErasureRow word or ColumnRow plan rows cols lift)
  unfolding flip_rules
  flip_matches = join (check_rules plan rows cols lift word) _ _ _ check_matches (column_matches plan rows cols lift)
