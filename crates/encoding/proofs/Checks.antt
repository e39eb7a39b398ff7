-- The checks of a plan of the bi-diagonal shape, column by column, and what they say together: they are even exactly where each parity bit is
-- the one that the data columns give. Assumes nothing.
use Prim.Native.Nat.{ℕ, suc, ◌+◌, ◌-◌, ◌*◌, ◌%◌, ◌≤◌, ◌<◌}
use mathlib.Core.Path.{◌≡◌, refl, sym, ap, ap₂, ◌∙◌}
use mathlib.Core.Logic.{◌≢◌}
use mathlib.Core.Bool.{cond}
use mathlib.Core.List.{List, [], ◌∷◌, ◌++◌}
use Rattle.std.specs.Prelude.{Some}
use native.Mathlib.Omega.{arith}
use native.Mathlib.Nat.{mod-lt, mod-eq_of_lt, zero-add, add-zero}
use borrow.Author.Tests.{eq-eqb, ne_eqb, lt-ltb, le-ltb}
use lib.Dec.{eqb}
use lib.IntN.{ℤ}
use Rattle.graph.specs.Count.{range, below, sum}
use Rattle.graph.specs.Erasure.{total, parity}
use Rattle.graph.proofs.Decide.{by_eq, by_le}
use Rattle.graph.proofs.Count.{range_append}
use Rattle.graph.proofs.Neighbours.{mem_below}
use Rattle.graph.proofs.Sums.{sum_append, sum_none, sum_add, sum_same, sum_even, term_even, sum_only, sum_links}
use Rattle.exponent.specs.declared.block.Block.{Block}
use Rattle.exponent.specs.declared.block.Block.TheVariants.{Zero, Shift, Invalid}
use Rattle.exponent.specs.Plan.{block_at}
use Rattle.exponent.specs.Tanner.{tanner}
use Rattle.exponent.specs.Neighbours.{put, gather, bit_in}
use Rattle.exponent.proofs.Numbers.{undo}
use Rattle.exponent.proofs.Tanner.{bits_of_check}
use Rattle.bidiagonal.specs.Shape.{add_shift, shifts_of, third_shift}
use Rattle.bidiagonal.proofs.Thirds.{Twice, upper_two, outer_two, lower_two, twice}
use Rattle.bidiagonal.proofs.Judging.{Diagonals}
use Rattle.encoding.specs.Encoded.{bit_for, data_sum, last_bit, front_bit, parity_bit}
use Rattle.encoding.specs.Work.{column}
use Rattle.encoding.proofs.Data.{bit_for_same}

-- A word, column by column

total_gather : (v : List ℕ) (lift y : ℕ) (block : ℕ → Block) (l : List ℕ)
    → total v (gather lift (λ j. bit_in lift y (block j)) l) ≡ sum (λ j. bit_for lift y (column lift v j) (block j)) l
unfolding total gather sum
total_gather v lift y block [] = refl
total_gather v lift y block (j ∷ l) = step (block j) (total_gather v lift y block l)
  where
    rest : ℕ
    rest = sum (λ j. bit_for lift y (column lift v j) (block j)) l

    step : (b : Block) → total v (gather lift (λ j. bit_in lift y (block j)) l) ≡ rest
        → total v (put (bit_in lift y b) (j * lift) (gather lift (λ j. bit_in lift y (block j)) l)) ≡ bit_for lift y (column lift v j) b + rest
    step Zero e = omega arith
    step (Shift s) e = omega arith
    step Invalid e = omega arith

-- Column m − 1

-- the bits that the checks (i, y) have in a column, by the shifts of its blocks
column_sum : (lift y : ℕ) (bit : ℕ → ℕ) (block : ℕ → Block) (l : List ℕ)
    → sum (λ i. bit_for lift y bit (block i)) l ≡ sum (λ e. bit ((y + e) % lift)) (shifts_of block l)
unfolding sum shifts_of
column_sum lift y bit block [] = refl
column_sum lift y bit block (i ∷ l) = step (block i) (column_sum lift y bit block l)
  where
    step : (b : Block) → sum (λ i. bit_for lift y bit (block i)) l ≡ sum (λ e. bit ((y + e) % lift)) (shifts_of block l)
        → bit_for lift y bit b + sum (λ i. bit_for lift y bit (block i)) l ≡ sum (λ e. bit ((y + e) % lift)) (add_shift b (shifts_of block l))
    step Zero e = omega arith
    step (Shift s) e = omega arith
    step Invalid e = omega arith

-- of three terms two cancel
third_sum : (f : ℕ → ℕ) {l : List ℕ} {x : ℕ} → Twice x l → sum f l % 2 ≡ f x % 2
unfolding sum
third_sum f (upper_two a) = omega arith
third_sum f (outer_two a) = omega arith
third_sum f (lower_two a) = omega arith

-- The columns before it

-- x, a bit of column j, where row i shares it with the row before: rows j and j + 1 do
abbrev shared : ℕ → ℕ → ℕ → ℕ
shared i j x = cond (eqb i (j + 1)) x 0

shared_there : (i j x : ℕ) → i ≡ j + 1 → shared i j x ≡ x
shared_there i j x e = rw (eq-eqb i (j + 1) e)

shared_not : (i j x : ℕ) → i ≢ j + 1 → shared i j x ≡ 0
shared_not i j x d = rw (ne_eqb i (j + 1) d)

-- the columns before m − 1, column m − 1, and the data columns
three_parts : (rows cols : ℕ) → 0 < rows → rows < cols → below cols ≡ below (rows - 1) ++ (rows - 1) ∷ range rows (cols - rows)
unfolding range
three_parts rows cols h l =
    ap (range 0) (let e : cols ≡ (rows - 1) + suc (cols - rows) = omega arith in e)
    ∙ range_append 0 (rows - 1) (suc (cols - rows))
    ∙ ap₂ (λ (a b : ℕ). below (rows - 1) ++ a ∷ range b (cols - rows)) (zero-add (rows - 1)) (let e : suc (0 + (rows - 1)) ≡ rows = omega arith in e)

module _ (plan : List ℤ) (rows cols lift b : ℕ) (some_lift : 0 < lift) (front : Diagonals plan rows cols lift)
    (is-third : third_shift plan rows cols lift ≡ Some b) (b-low : b < lift) where
  abbrev block : ℕ → ℕ → Block
  block i j = block_at plan cols lift i j

  -- the sum of check (i, y), where bit j z is bit z of column j
  abbrev check_sum : (ℕ → ℕ → ℕ) → ℕ → ℕ → ℕ
  check_sum bit y i = sum (λ j. bit_for lift y (bit j) (block i j)) (below cols)

  -- its parts in the data columns, and in these and column m − 1, whose bits are given
  abbrev data_part : (ℕ → ℕ → ℕ) → ℕ → ℕ → ℕ
  data_part bit y i = data_sum plan rows cols lift bit i y

  abbrev last_part : (ℕ → ℕ → ℕ) → (ℕ → ℕ) → ℕ → ℕ → ℕ
  last_part bit last y i = data_part bit y i + bit_for lift y last (block i (rows - 1))

  -- WHAT THE CHECKS (0, y), (1, y), … HAVE

  module _ (bit : ℕ → ℕ → ℕ) (y : ℕ) (y-low : y < lift) where
    abbrev rest : ℕ → ℕ
    rest = last_part bit (bit (rows - 1)) y

    -- what row i shares with the row before
    abbrev link : ℕ → ℕ
    link i = sum (λ j. shared i j (bit j y)) (below (rows - 1))

    identity : (j : ℕ) (d : Block) → d ≡ Shift 0 → bit_for lift y (bit j) d ≡ bit j y
    identity j d e = rw e (ap (bit j) (ap (λ (x : ℕ). x % lift) (add-zero y) ∙ mod-eq_of_lt y-low))

    -- a bit of check (i, y) in a column before m − 1
    front_bit_law : (i j : ℕ) → i < rows → j < rows - 1 → bit_for lift y (bit j) (block i j) ≡ shared i j (bit j y) + shared (i + 1) j (bit j y)
    front_bit_law i j h l =
        by_eq i j
        (λ e.
        let here : block i j ≡ Shift 0 = ap (λ (n : ℕ). block n j) e ∙ front.upper j l in
        omega (arith, identity j (block i j) here, shared_not i j (bit j y) (omega arith), shared_there (i + 1) j (bit j y) (omega arith)))
        (λ d.
        by_eq i (suc j)
        (λ e.
        let here : block i j ≡ Shift 0 = ap (λ (n : ℕ). block n j) e ∙ front.lower j l in
        omega (arith, identity j (block i j) here, shared_there i j (bit j y) (omega arith), shared_not (i + 1) j (bit j y) (omega arith)))
        (λ f.
        let nothing : block i j ≡ Zero = front.empty i j h l d f in
        omega (arith, ap (bit_for lift y (bit j)) nothing, shared_not i j (bit j y) (omega arith), shared_not (i + 1) j (bit j y) (omega arith))))

    -- one check
    check_parts : (i : ℕ) → i < rows → check_sum bit y i ≡ link i + link (i + 1) + rest i
    unfolding sum data_sum
    check_parts i h =
        let f : ℕ → ℕ = λ j. bit_for lift y (bit j) (block i j) in
        let few : sum f (below (rows - 1)) ≡ link i + link (i + 1) =
        sum_same f _ (below (rows - 1)) (λ j m. front_bit_law i j h (mem_below j (rows - 1) m)) ∙ sum_add (λ j. shared i j (bit j y)) _ (below (rows - 1)) in
        omega (
          arith,
          few,
          ap (sum f) (three_parts rows cols (omega arith) front.data_column),
          sum_append f (below (rows - 1)) ((rows - 1) ∷ range rows (cols - rows)),
        )

    link_none : (i : ℕ) → ((j : ℕ) → j < rows - 1 → i ≢ j + 1) → link i ≡ 0
    link_none i h = sum_none _ (below (rows - 1)) λ j m. shared_not i j (bit j y) (h j (mem_below j (rows - 1) m))

    link_one : (k : ℕ) → k < rows - 1 → link (k + 1) ≡ bit k y
    link_one k h =
        sum_only (λ j. shared (k + 1) j (bit j y)) k (rows - 1) h (λ j l d. shared_not (k + 1) j (bit j y) (omega arith))
        ∙ shared_there (k + 1) k (bit k y) refl

    -- the checks of the first k rows together: of the columns before m − 1, they have what they share with row k
    first_checks : (k : ℕ) → k ≤ rows → sum (check_sum bit y) (below k) % 2 ≡ (link k + sum rest (below k)) % 2
    first_checks k h =
        let each = sum_same (check_sum bit y) (λ i. link i + link (i + 1) + rest i) (below k) (λ i m. check_parts i (omega (arith, mem_below i k m))) in
        omega (arith, each, sum_add (λ i. link i + link (i + 1)) rest (below k), sum_links link k, link_none 0 (λ j l e. omega arith))

    -- of rows 0 to k: bit (k, y)
    front_checks : (k : ℕ) → k < rows - 1 → sum (check_sum bit y) (below (k + 1)) % 2 ≡ (bit k y + sum rest (below (k + 1))) % 2
    front_checks k h = omega (arith, first_checks (k + 1) (omega arith), link_one k h)

    -- of all rows: nothing, and of column m − 1 one bit
    all_checks : sum (check_sum bit y) (below rows) % 2 ≡ (bit (rows - 1) ((y + b) % lift) + sum (data_part bit y) (below rows)) % 2
    unfolding third_shift
    all_checks =
        let last : ℕ → Block = λ i. block i (rows - 1) in
        omega (
          arith,
          first_checks rows (omega arith),
          link_none rows (λ j l e. omega arith),
          sum_add (data_part bit y) (λ i. bit_for lift y (bit (rows - 1)) (last i)) (below rows),
          column_sum lift y (bit (rows - 1)) last (below rows),
          third_sum (λ e. bit (rows - 1) ((y + e) % lift)) (twice (shifts_of last (below rows)) b is-third),
        )

  -- EVEN CHECKS AND PARITY BITS

  module _ (bit : ℕ → ℕ → ℕ) where
    abbrev last : ℕ → ℕ
    last = last_bit plan rows cols lift b bit

    -- the sum of a front bit, where column m − 1 holds its parity bits
    front_sum : ((z : ℕ) → z < lift → bit (rows - 1) z ≡ last z)
        → (k y : ℕ) → front_bit plan rows cols lift b bit k y ≡ sum (last_part bit (bit (rows - 1)) y) (below (k + 1)) % 2
    unfolding front_bit
    front_sum done k y =
        ap (λ (n : ℕ). n % 2)
        (sum_same _ _ (below (k + 1)) λ i m. ap (λ (n : ℕ). data_part bit y i + n) (sym (bit_for_same lift y some_lift _ _ done (block i (rows - 1)))))

    -- even checks give the parity bits
    module _ (low : (k z : ℕ) → k < rows → z < lift → bit k z < 2) (even : (i y : ℕ) → i < rows → y < lift → check_sum bit y i % 2 ≡ 0) where
      even_first : (k y : ℕ) → k ≤ rows → y < lift → sum (check_sum bit y) (below k) % 2 ≡ 0
      even_first k y h y-low = sum_even _ (below k) λ i m. even i y (omega (arith, mem_below i k m)) y-low

      even_last : (z : ℕ) → z < lift → bit (rows - 1) z ≡ last z
      unfolding last_bit
      even_last z h =
          let y : ℕ = (z + (lift - b)) % lift in
          let y-low : y < lift = mod-lt (z + (lift - b)) some_lift in
          let there : (y + b) % lift ≡ z = undo lift some_lift (lift - b) b z y (omega arith) h refl in
          omega (arith, all_checks bit y y-low, even_first rows y (omega arith) y-low, ap (bit (rows - 1)) there, low (rows - 1) z (omega (arith, front.three_rows)) h)

      even_front : (k y : ℕ) → k < rows - 1 → y < lift → bit k y ≡ front_bit plan rows cols lift b bit k y
      even_front k y h y-low =
          omega (arith, front_checks bit y y-low k h, even_first (k + 1) y (omega arith) y-low, front_sum even_last k y, low k y (omega arith) y-low)

    -- and the parity bits make the checks even
    module _ (last_done : (z : ℕ) → z < lift → bit (rows - 1) z ≡ last z)
        (front-done : (k z : ℕ) → k < rows - 1 → z < lift → bit k z ≡ front_bit plan rows cols lift b bit k z) (y : ℕ) (y-low : y < lift) where
      last_sum : bit (rows - 1) ((y + b) % lift) ≡ sum (data_part bit y) (below rows) % 2
      unfolding last_bit
      last_sum =
          last_done ((y + b) % lift) (mod-lt (y + b) some_lift)
          ∙ ap (λ (x : ℕ). sum (data_part bit x) (below rows) % 2) (undo lift some_lift b (lift - b) y ((y + b) % lift) (omega arith) y-low refl)

      first_even : (k : ℕ) → k < rows → sum (check_sum bit y) (below (k + 1)) % 2 ≡ 0
      first_even k h =
          by_le (rows - 1) k
          (λ l.
          let all : k + 1 ≡ rows = omega arith in
          omega (arith, ap (λ (n : ℕ). sum (check_sum bit y) (below n)) all, all_checks bit y y-low, last_sum))
          (λ l. omega (arith, front_checks bit y y-low k l, front-done k y l y-low, front_sum last_done k y))

      solved_check : (i : ℕ) → i < rows → check_sum bit y i % 2 ≡ 0
      solved_check = term_even (check_sum bit y) rows first_even

  -- THE CHECKS OF A WORD

  module _ (v : List ℕ) where
    abbrev parity_of : ℕ → ℕ → ℕ
    parity_of = parity_bit plan rows cols lift b (column lift v)

    -- the two kinds of parity bits
    parity_front : (k z : ℕ) → k < rows - 1 → parity_of k z ≡ front_bit plan rows cols lift b (column lift v) k z
    parity_front k z h = rw (lt-ltb k (rows - 1) h)

    parity_last : (k z : ℕ) → rows - 1 ≤ k → parity_of k z ≡ last_bit plan rows cols lift b (column lift v) z
    parity_last k z h = rw (le-ltb k (rows - 1) h)

    -- a check, column by column
    parity_sum : (i y : ℕ) → y < lift → parity (tanner plan rows cols lift) v (i * lift + y) ≡ check_sum (column lift v) y i % 2
    unfolding parity
    parity_sum i y h =
        ap (λ (n : ℕ). n % 2) (ap (total v) (bits_of_check plan rows cols lift some_lift i y h) ∙ total_gather v lift y (block i) (below cols))

    -- where they are even, its parity bits are those that its data columns give
    pub even_solved : ((k z : ℕ) → k < rows → z < lift → column lift v k z < 2)
        → ((i y : ℕ) → i < rows → y < lift → parity (tanner plan rows cols lift) v (i * lift + y) ≡ 0)
        → (k z : ℕ) → k < rows → z < lift → column lift v k z ≡ parity_bit plan rows cols lift b (column lift v) k z
    even_solved low even k z h z-low =
        let checks : (i y : ℕ) → i < rows → y < lift → check_sum (column lift v) y i % 2 ≡ 0 = λ i y p q. sym (parity_sum i y q) ∙ even i y p q in
        by_le (rows - 1) k
        (λ l.
        let here : k ≡ rows - 1 = omega arith in
        ap (λ (n : ℕ). column lift v n z) here ∙ even_last (column lift v) low checks z z-low ∙ sym (parity_last k z l))
        (λ l. even_front (column lift v) low checks k z l z-low ∙ sym (parity_front k z l))

    -- and back
    pub solved_even : ((k z : ℕ) → k < rows → z < lift → column lift v k z ≡ parity_bit plan rows cols lift b (column lift v) k z)
        → (i y : ℕ) → i < rows → y < lift → parity (tanner plan rows cols lift) v (i * lift + y) ≡ 0
    solved_even solved i y h y-low =
        parity_sum i y y-low
        ∙ solved_check (column lift v)
        (λ z l. solved (rows - 1) z (omega (arith, front.three_rows)) l ∙ parity_last (rows - 1) z (omega arith))
        (λ k z p q. solved k z (omega arith) q ∙ parity_front k z p)
        y y-low i h
