-- The encoder's steps: row by row the sums of the data bits, then the parity bits, column by column. Assumes nothing.
use Prim.Native.Nat.{ℕ, ◌+◌, ◌-◌, ◌*◌, ◌%◌, ◌<◌}
use mathlib.Core.Path.{◌≡◌, refl, sym, ap, ◌∙◌}
use mathlib.Core.Logic.{◌≢◌}
use mathlib.Core.List.{List}
use native.Mathlib.Omega.{arith}
use native.Mathlib.Nat.{mod-lt, add-mod-mod}
use lib.IntN.{ℤ}
use Rattle.graph.specs.Count.{range, below, sum}
use Rattle.graph.proofs.Decide.{by_eq, by_le}
use Rattle.graph.proofs.Sums.{sum_last}
use Rattle.exponent.specs.declared.Shape.{Shape}
use Rattle.exponent.specs.Plan.{block_at}
use Rattle.exponent.proofs.Numbers.{number_low}
use Rattle.encoding.specs.Encoded.{bit_for, data_sum, last_bit, front_bit}
use Rattle.encoding.specs.Work.{column, Added, Ready, Carrying, Laid, Summed, Settled}
use Rattle.encoding.proofs.Data.{bit_for_same, data_sum_same}
use Rattle.encoding.proofs.Adding.{added_ready, unturned}

-- parities of sums
add_parity : (x a b c : ℕ) → x ≡ (a + b) % 2 → a ≡ c % 2 → x ≡ (c + b) % 2
add_parity x a b c p q = omega arith

three_parities : (x v w p d l t : ℕ) → x ≡ (v + l) % 2 → v ≡ (w + p) % 2 → w ≡ d % 2 → t ≡ (p + (d + l)) % 2 → x ≡ t
three_parities x v w p d l t e f g h = omega arith

module _ (plan : List ℤ) (s : Shape) where
  abbrev rows : ℕ
  rows = s.rows

  abbrev cols : ℕ
  cols = s.cols

  abbrev lift : ℕ
  lift = s.lift

  abbrev data_sum_law : (ℕ → ℕ → ℕ) → ℕ → ℕ → ℕ
  data_sum_law bit i y = data_sum plan s.rows s.cols s.lift bit i y

  -- THE SUMS. Nothing is summed yet
  pub summed_none : (turn : ℕ) (w : List ℕ) → Laid plan s w → Summed plan s turn (column s.lift w) 0 w
  unfolding sum range
  summed_none turn w l =
      record {
        ready = l.ready;
        carried = λ j z h k. refl;
        done = λ k z h i. absurd (omega arith);
        rest = λ k z h i low. l.zero (k * lift + z) (number_low k z rows lift (omega arith) low);
        last = λ z h. l.zero ((rows - 1) * lift + z) (number_low (rows - 1) z rows lift (omega (arith, l.ready.formed.some_rows)) h);
      }

  -- what a row adds to its column, which was 0
  row_sum : (bit : ℕ → ℕ → ℕ) (i : ℕ) (w v : List ℕ) → 0 < s.lift → Carrying s bit w → ((z : ℕ) → z < s.lift → column s.lift w i z ≡ 0)
      → Added s.lift i (λ z. data_sum plan s.rows s.cols s.lift (column s.lift w) i ((z + 0) % s.lift)) w v
      → (z : ℕ) → z < s.lift → column s.lift v i z ≡ data_sum plan s.rows s.cols s.lift bit i z % 2
  row_sum bit i w v some_lift carried empty a z h =
      let same : data_sum_law (column lift w) i ((z + 0) % lift) ≡ data_sum_law bit i z = data_sum_same plan rows cols lift some_lift (column lift w) bit carried i _ ∙ ap (data_sum_law bit i) (unturned lift z h) in
      omega (arith, a.there z h, empty z h, same)

  -- one row more
  module _ (turn : ℕ) (bit : ℕ → ℕ → ℕ) (i : ℕ) (w v u : List ℕ) (low : i < s.rows - 1) (before : Summed plan s turn bit i w)
      (a : Added s.lift i (λ z. data_sum plan s.rows s.cols s.lift (column s.lift w) i ((z + 0) % s.lift)) w v)
      (b : Added s.lift (s.rows - 1) (λ z. column s.lift v i ((z + turn) % s.lift)) v u) where
    row : (z : ℕ) → z < s.lift → column s.lift v i z ≡ data_sum plan s.rows s.cols s.lift bit i z % 2
    row = row_sum bit i w v before.ready.formed.some_lift before.carried (λ z h. before.rest i z (omega arith) low h) a

    other : (k z : ℕ) → z < s.lift → k ≢ i → k ≢ s.rows - 1 → column s.lift u k z ≡ column s.lift w k z
    other k z h d e = b.elsewhere k z h e ∙ a.elsewhere k z h d

    all_rows : (z : ℕ) → z < s.lift → column s.lift u (s.rows - 1) z ≡ sum (λ k. data_sum plan s.rows s.cols s.lift bit k ((z + turn) % s.lift)) (below (i + 1)) % 2
    all_rows z h =
        omega (
          arith,
          b.there z h,
          a.elsewhere (rows - 1) z h (λ e. omega arith),
          before.last z h,
          row ((z + turn) % lift) (mod-lt (z + turn) before.ready.formed.some_lift),
          sum_last (λ k. data_sum_law bit k ((z + turn) % lift)) i,
        )

    pub summed_more : Summed plan s turn bit (i + 1) u
    summed_more =
        record {
          ready = added_ready b (added_ready a before.ready);
          carried = λ j z h k. other j z k (λ e. omega arith) (λ e. omega (arith, before.ready.formed.some_rows)) ∙ before.carried j z h k;
          done = λ k z h l.
              by_eq k i
              (λ e. rw e (b.elsewhere i z l (λ q. omega arith) ∙ row z l))
              (λ d. other k z l d (λ q. omega arith) ∙ before.done k z (by_le i k (λ p. absurd (d (omega arith))) (λ p. p)) l);
          rest = λ k z h l m. other k z m (λ q. omega arith) (λ q. omega arith) ∙ before.rest k z (omega arith) l m;
          last = all_rows;
        }

  -- all rows: column m − 1 is settled
  pub summed_all : (third turn : ℕ) (bit : ℕ → ℕ → ℕ) (w v : List ℕ) → turn ≡ (s.lift - third) % s.lift → Summed plan s turn bit (s.rows - 1) w
      → Added s.lift (s.rows - 1) (λ z. data_sum plan s.rows s.cols s.lift (column s.lift w) (s.rows - 1) ((z + turn) % s.lift)) w v
      → Settled plan s third bit 0 v
  unfolding last_bit
  summed_all third turn bit w v is-turn before a =
      record {
        ready = added_ready a before.ready;
        carried = λ j z h k. a.elsewhere j z k (λ e. omega (arith, before.ready.formed.some_rows)) ∙ before.carried j z h k;
        done = λ j z h k. absurd (omega arith);
        rest = λ j z h k l. a.elsewhere j z l (λ e. omega arith) ∙ before.done j z k l;
        last = last;
      }
    where
      all : (y : ℕ) → sum (λ k. data_sum_law bit k y) (below rows) ≡ sum (λ k. data_sum_law bit k y) (below (rows - 1)) + data_sum_law bit (rows - 1) y
      all y = ap (λ (n : ℕ). sum (λ k. data_sum_law bit k y) (below n)) (let e : rows ≡ rows - 1 + 1 = omega (arith, before.ready.formed.some_rows) in e) ∙ sum_last (λ k. data_sum_law bit k y) (rows - 1)

      turned : (z : ℕ) → (z + turn) % lift ≡ (z + (lift - third)) % lift
      turned z = ap (λ (n : ℕ). (z + n) % lift) is-turn ∙ add-mod-mod z (lift - third) lift

      last : (z : ℕ) → z < lift → column lift v (rows - 1) z ≡ sum (λ i. data_sum_law bit i ((z + (lift - third)) % lift)) (below rows) % 2
      last z h =
          add_parity _ _ _ _ (a.there z h) (before.last z h)
          ∙ ap (λ (n : ℕ). (sum (λ k. data_sum_law bit k ((z + turn) % lift)) (below (rows - 1)) + n) % 2)
          (data_sum_same plan rows cols lift before.ready.formed.some_lift (column lift w) bit before.carried (rows - 1) ((z + turn) % lift))
          ∙ ap (λ (n : ℕ). n % 2) (sym (all ((z + turn) % lift)))
          ∙ ap (λ (y : ℕ). sum (λ i. data_sum_law bit i y) (below rows) % 2) (turned z)

  -- THE COLUMNS BEFORE m − 1
  module _ (third : ℕ) (bit : ℕ → ℕ → ℕ) where
    -- what row k has for bit (k, y) besides the column before it
    abbrev share : ℕ → ℕ → ℕ
    share y i = data_sum plan s.rows s.cols s.lift bit i y + bit_for s.lift y (last_bit plan s.rows s.cols s.lift third bit) (block_at plan s.cols s.lift i (s.rows - 1))

    front_first : (y : ℕ) → front_bit plan s.rows s.cols s.lift third bit 0 y ≡ share y 0 % 2
    unfolding front_bit sum range
    front_first y = omega arith

    front_more : (k y : ℕ) → 0 < k → front_bit plan s.rows s.cols s.lift third bit k y ≡ (front_bit plan s.rows s.cols s.lift third bit (k - 1) y + share y k) % 2
    unfolding front_bit
    front_more k y h =
        let before : sum (share y) (below k) ≡ sum (share y) (below (k - 1 + 1)) = ap (λ (n : ℕ). sum (share y) (below n)) (let e : k ≡ k - 1 + 1 = omega arith in e) in
        omega (arith, sum_last (share y) k, before)

    -- a column is settled, and the others stay
    settled_next : (k : ℕ) (w u : List ℕ) → k < s.rows - 1 → Settled plan s third bit k w → Ready plan s u
        → ((j z : ℕ) → z < s.lift → j ≢ k → column s.lift u j z ≡ column s.lift w j z)
        → ((z : ℕ) → z < s.lift → column s.lift u k z ≡ front_bit plan s.rows s.cols s.lift third bit k z)
        → Settled plan s third bit (k + 1) u
    settled_next k w u low before ready other here =
        record {
          ready = ready;
          carried = λ j z h l. other j z l (λ e. omega arith) ∙ before.carried j z h l;
          done = λ j z h l. by_eq j k (λ e. rw e (here z l)) (λ d. other j z l d ∙ before.done j z (by_le k j (λ p. absurd (d (omega arith))) (λ p. p)) l);
          rest = λ j z h l m. other j z m (λ e. omega arith) ∙ before.rest j z (omega arith) l m;
          last = λ z h. other (rows - 1) z h (λ e. omega arith) ∙ before.last z h;
        }

    -- the bit that row k has in column m − 1, once that is settled
    row_bit : (k : ℕ) (w : List ℕ) → 0 < s.lift → ((z : ℕ) → z < s.lift → column s.lift w (s.rows - 1) z ≡ last_bit plan s.rows s.cols s.lift third bit z)
        → (z : ℕ) → z < s.lift → bit_for s.lift ((z + 0) % s.lift) (column s.lift w (s.rows - 1)) (block_at plan s.cols s.lift k (s.rows - 1))
        ≡ bit_for s.lift z (last_bit plan s.rows s.cols s.lift third bit) (block_at plan s.cols s.lift k (s.rows - 1))
    row_bit k w some_lift last z h =
        bit_for_same lift ((z + 0) % lift) some_lift _ _ last (block_at plan cols lift k (rows - 1))
        ∙ ap (λ (y : ℕ). bit_for lift y (last_bit plan rows cols lift third bit) (block_at plan cols lift k (rows - 1))) (unturned lift z h)

    -- column 0, by its row alone
    pub settled_first : (w u : List ℕ) → 1 < s.rows → Settled plan s third bit 0 w
        → Added s.lift 0 (λ z. bit_for s.lift ((z + 0) % s.lift) (column s.lift w (s.rows - 1)) (block_at plan s.cols s.lift 0 (s.rows - 1))) w u
        → Settled plan s third bit 1 u
    settled_first w u two before a =
        settled_next 0 w u (omega arith) before (added_ready a before.ready) a.elsewhere λ z h.
        add_parity _ _ _ _ (a.there z h ∙ ap (λ (n : ℕ). (column lift w 0 z + n) % 2) (row_bit 0 w before.ready.formed.some_lift before.last z h)) (before.rest 0 z (omega arith) (omega arith) h)
        ∙ sym (front_first z)

    -- column k, by its row and the column before it
    pub settled_more : (k : ℕ) (w v u : List ℕ) → 0 < k → k < s.rows - 1 → Settled plan s third bit k w
        → Added s.lift k (λ z. column s.lift w (k - 1) ((z + 0) % s.lift)) w v
        → Added s.lift k (λ z. bit_for s.lift ((z + 0) % s.lift) (column s.lift v (s.rows - 1)) (block_at plan s.cols s.lift k (s.rows - 1))) v u
        → Settled plan s third bit (k + 1) u
    settled_more k w v u some-k low before a b =
        settled_next k w u low before (added_ready b (added_ready a before.ready)) (λ j z h d. b.elsewhere j z h d ∙ a.elsewhere j z h d) λ z h.
        three_parities _ _ _ _ _ _ _
        (b.there z h ∙ ap (λ (n : ℕ). (column lift v k z + n) % 2) (row_bit k v before.ready.formed.some_lift (λ y l. a.elsewhere (rows - 1) y l (λ e. omega arith) ∙ before.last y l) z h))
        (a.there z h ∙ ap (λ (n : ℕ). (column lift w k z + n) % 2) (ap (column lift w (k - 1)) (unturned lift z h) ∙ before.done (k - 1) z (omega arith) h))
        (before.rest k z (omega arith) low h)
        (front_more k z some-k)
