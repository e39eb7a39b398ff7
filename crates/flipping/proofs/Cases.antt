-- Rounds computed, and each refusal. The words were confirmed by a separate computation. Assumes nothing.
use Rattle.std.specs.Prelude.{Result, Ok, Err}
use Rattle.refusal.specs.declared.Refusal.{Refusal}
use Prim.Native.Nat.{ℕ}
use mathlib.Core.Path.{◌≡◌, refl}
use mathlib.Core.List.{List, [], ◌∷◌, map}
use lib.IntN.{ℤ, pos, negsuc}
use Rattle.refusal.specs.declared.Refusal.TheVariants.{Rows, Lift, Entry, WordLength, Byte, Erasure, ColumnWeight}
use Rattle.refusal.specs.Lowest.{lowest}
use Rattle.refusal.specs.Place.{first_place}
use Rattle.graph.specs.Count.{range, select, count}
use Rattle.graph.specs.Graph.{bits_of, checks_of}
use Rattle.graph.specs.Erasure.{total, parity, any}
use Rattle.graph.specs.Flipping.{odd_checks, flipped_word, flipped_count}
use Rattle.exponent.specs.Plan.{entry_at, block_at, shifts}
use Rattle.exponent.specs.Limits.{plan_rules}
use Rattle.exponent.specs.Tanner.{tanner, column_weight}
use Rattle.syndrome.specs.Word.{byte_rules, word_rules}
use Rattle.syndrome.specs.Check.{check_rules}
use Rattle.flipping.specs.Flip.{other_weight, flip_rules, flip_answer, flip_word}

-- a plan, its sizes, a word, the answer, and the word after the call
record Case : Type 0 where
  plan : List ℤ
  rows : ℕ
  cols : ℕ
  lift : ℕ
  word : List ℕ
  answer : Result ℕ Refusal
  left : List ℕ

abbrev of : List ℤ → ℕ → ℕ → ℕ → List ℕ → Result ℕ Refusal → List ℕ → Case
of plan rows cols lift word answer left = record { plan = plan; rows = rows; cols = cols; lift = lift; word = word; answer = answer; left = left }

abbrev refused : List ℤ → ℕ → ℕ → ℕ → List ℕ → Result ℕ Refusal → Case
refused plan rows cols lift word answer = of plan rows cols lift word answer word

-- the Fano plane: column j has its blocks in rows j, j + 1 and j + 3 modulo 7; and one of its codewords
abbrev fano : List ℤ
fano =
    let o = pos 0 in
    let x = negsuc 0 in
    o ∷ x ∷ x ∷ x ∷ o ∷ x ∷ o
    ∷ o ∷ o ∷ x ∷ x ∷ x ∷ o ∷ x
    ∷ x ∷ o ∷ o ∷ x ∷ x ∷ x ∷ o
    ∷ o ∷ x ∷ o ∷ o ∷ x ∷ x ∷ x
    ∷ x ∷ o ∷ x ∷ o ∷ o ∷ x ∷ x
    ∷ x ∷ x ∷ o ∷ x ∷ o ∷ o ∷ x
    ∷ x ∷ x ∷ x ∷ o ∷ x ∷ o ∷ o
    ∷ []

abbrev codeword : List ℕ
codeword = 0 ∷ 0 ∷ 1 ∷ 1 ∷ 1 ∷ 0 ∷ 1 ∷ []

-- two columns of three blocks, turned by 0, 1 and 5 against each other: at P = 3 they share no two checks
abbrev turned : List ℤ
turned = shifts (0 ∷ 0 ∷ 0 ∷ 1 ∷ 0 ∷ 5 ∷ [])

-- two equal columns: girth 4
abbrev square : List ℤ
square = shifts (0 ∷ 0 ∷ 0 ∷ 0 ∷ 0 ∷ 0 ∷ [])

abbrev cases : List Case
cases =
    -- a codeword; one wrong bit of it; two wrong bits, whose four odd checks turn all bits but one
    of fano 7 7 1 codeword (Ok 0) codeword
    ∷ of fano 7 7 1 (1 ∷ 0 ∷ 1 ∷ 1 ∷ 1 ∷ 0 ∷ 1 ∷ []) (Ok 1) codeword
    ∷ of fano 7 7 1 (0 ∷ 0 ∷ 1 ∷ 1 ∷ 1 ∷ 0 ∷ 0 ∷ []) (Ok 1) codeword
    ∷ of fano 7 7 1 (1 ∷ 1 ∷ 1 ∷ 1 ∷ 1 ∷ 0 ∷ 1 ∷ []) (Ok 6) (0 ∷ 0 ∷ 0 ∷ 0 ∷ 0 ∷ 0 ∷ 0 ∷ [])
    -- remainders by 3
    ∷ of turned 3 2 3 (1 ∷ 0 ∷ 0 ∷ 0 ∷ 0 ∷ 0 ∷ []) (Ok 1) (0 ∷ 0 ∷ 0 ∷ 0 ∷ 0 ∷ 0 ∷ [])
    ∷ of turned 3 2 3 (1 ∷ 1 ∷ 1 ∷ 1 ∷ 0 ∷ 1 ∷ []) (Ok 1) (1 ∷ 1 ∷ 1 ∷ 1 ∷ 1 ∷ 1 ∷ [])
    ∷ of turned 3 2 3 (1 ∷ 0 ∷ 1 ∷ 1 ∷ 0 ∷ 0 ∷ []) (Ok 4) (0 ∷ 0 ∷ 0 ∷ 1 ∷ 1 ∷ 1 ∷ [])
    -- at girth 4 one wrong bit does not come back; judged in turn, bit 0 would turn alone
    ∷ of square 3 2 1 (1 ∷ 0 ∷ []) (Ok 2) (0 ∷ 1 ∷ [])
    -- refused: those of the plan before all others; then 16, 18, 19 and 32, each before the next
    ∷ refused [] 0 2 0 [] (Err Rows)
    ∷ refused [] 3 2 0 [] (Err Lift)
    ∷ refused (negsuc 1 ∷ pos 0 ∷ []) 1 2 1 [] (Err (Entry 0))
    ∷ refused (shifts (0 ∷ 0 ∷ [])) 1 2 1 (2 ∷ []) (Err WordLength)
    ∷ refused (shifts (0 ∷ 0 ∷ [])) 1 2 1 (2 ∷ 3 ∷ []) (Err (Byte 1))
    ∷ refused (shifts (0 ∷ 0 ∷ [])) 1 2 1 (1 ∷ 2 ∷ []) (Err (Erasure 1))
    ∷ refused (shifts (0 ∷ 0 ∷ [])) 1 2 1 (1 ∷ 0 ∷ []) (Err ColumnWeight)
    -- 32: four blocks in the last column
    ∷ refused (pos 0 ∷ pos 0 ∷ pos 0 ∷ pos 0 ∷ pos 0 ∷ pos 0 ∷ negsuc 0 ∷ pos 0 ∷ []) 4 2 1 (1 ∷ 0 ∷ []) (Err ColumnWeight)
    ∷ []

pub answers : map (λ c. flip_answer c.plan c.rows c.cols c.lift c.word) cases ≡ map (λ c. c.answer) cases
unfolding flip_answer flip_rules check_rules word_rules byte_rules plan_rules other_weight column_weight lowest first_place any flipped_count odd_checks parity total bits_of checks_of tanner select count range block_at entry_at
answers = refl

pub words : map (λ c. flip_word c.plan c.rows c.cols c.lift c.word) cases ≡ map (λ c. c.left) cases
unfolding flip_word flip_rules check_rules word_rules byte_rules plan_rules other_weight column_weight lowest first_place any flipped_word odd_checks parity total bits_of checks_of tanner select count range block_at entry_at
words = refl
