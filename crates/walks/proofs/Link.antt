-- The positions of the search and the vertices of the Tanner graph: a step of the search is an edge other than the one just used.
-- Assumes nothing.
use Rattle.std.specs.Prelude.{Some}
use Prim.Native.Nat.{ℕ, ◌+◌, ◌-◌, ◌*◌, ◌/◌, ◌%◌, ◌<◌}
use mathlib.Core.Path.{◌≡◌, refl, sym, ap, ap₂, ◌∙◌}
use mathlib.Core.Logic.{◌≢◌}
use mathlib.Core.Bool.{Bool, true, false}
use mathlib.Core.List.{List}
use native.Mathlib.Omega.{arith}
use native.Mathlib.Nat.{mod-lt}
use borrow.Author.Tests.{eqb-true, eq-eqb, eqb-false, ne_eqb}
use lib.Dec.{eqb}
use lib.IntN.{ℤ}
use Rattle.graph.specs.Graph.{Joined}
use Rattle.exponent.specs.declared.block.Block.{Block}
use Rattle.exponent.specs.declared.block.Block.TheVariants.{Zero, Shift, Invalid}
use Rattle.exponent.specs.declared.position.Position.{Position}
use Rattle.exponent.specs.declared.Shape.{Shape}
use Rattle.exponent.specs.Plan.{block_at}
use Rattle.exponent.specs.Position.{forward, back}
use Rattle.exponent.specs.Tanner.{edge, tanner, graph_of}
use Rattle.exponent.proofs.Numbers.{same_number, block_of_law, place_of, number_low, block_low, undo}
use Rattle.exponent.proofs.Tanner.{shift_low}
use Rattle.walks.specs.Steps.{blocks_of, over, unless, to_column, to_row}
use Rattle.walks.specs.Ways.{root_bit, root_check}

-- at check c, come from bit b; and at bit b, come from check c
abbrev pub check_from : ℕ → ℕ → ℕ → Position
check_from lift b c = record { row = c / lift; col = b / lift; voltage = c % lift }

abbrev pub bit_from : ℕ → ℕ → ℕ → Position
bit_from lift c b = record { row = c / lift; col = b / lift; voltage = b % lift }

-- A step to row or column i, come from k: the block is filled, and another one than was just used.
module _ (f : ℕ → Position) where
  taken : (b : Block) (t : Bool) (q : Position) → unless t (over b f) ≡ Some q → (t ≡ false) × ((e : ℕ) × (b ≡ Shift e) × (f e ≡ q))
  taken b true q h = absurd (let z : ◌≡◌ {A = ℕ} 0 1 = cc in omega arith)
  taken Zero false q h = absurd (let z : ◌≡◌ {A = ℕ} 0 1 = cc in omega arith)
  taken (Shift e) false q h = (refl, (e, refl, (cc)))
  taken Invalid false q h = absurd (let z : ◌≡◌ {A = ℕ} 0 1 = cc in omega arith)

  takes : (b : Block) (i k e : ℕ) (q : Position) → i ≢ k → b ≡ Shift e → f e ≡ q → unless (eqb i k) (over b f) ≡ Some q
  takes b i k e q d h p = ap₂ (λ (t : Bool) (x : Block). unless t (over x f)) (ne_eqb i k d) h ∙ ap Some p

edge_shift : (b : Block) (lift y z : ℕ) → edge b lift y z ≡ true → (e : ℕ) × (b ≡ Shift e) × ((y + e) % lift ≡ z)
edge_shift Zero lift y z h = absurd (let z : ◌≡◌ {A = ℕ} 0 1 = cc in omega arith)
edge_shift (Shift e) lift y z h = (e, refl, eqb-true ((y + e) % lift) z h)
edge_shift Invalid lift y z h = absurd (let z : ◌≡◌ {A = ℕ} 0 1 = cc in omega arith)

-- an edge by the block that it lies in
pub record Over (plan : List ℤ) (s : Shape) (c b : ℕ) : Type 0 where
  pub row : c / s.lift < s.rows
  pub col : b / s.lift < s.cols
  pub shift : ℕ
  pub block : block_at plan s.cols s.lift (c / s.lift) (b / s.lift) ≡ Shift shift
  pub forth : (c % s.lift + shift) % s.lift ≡ b % s.lift
  pub back : (b % s.lift + (s.lift - shift)) % s.lift ≡ c % s.lift

-- number i * lift + v, by its block and its place
record Number (lift n i v : ℕ) : Type 0 where
  number : ℕ
  low : number < n * lift
  block : number / lift ≡ i
  place : number % lift ≡ v

-- a number in another block is another number
apart : (lift i x y : ℕ) → eqb i (x / lift) ≡ false → y / lift ≡ i → x ≢ y
apart lift i x y t m e = eqb-false i (x / lift) t (sym m ∙ ap (λ (z : ℕ). z / lift) (sym e))

module _ (plan : List ℤ) (s : Shape) where
  abbrev P : ℕ
  P = s.lift

  abbrev block : ℕ → ℕ → Block
  block i j = block_at plan s.cols s.lift i j

  module _ (some_lift : 0 < s.lift) where
    numbered : (n i v : ℕ) → i < n → v < P → Number P n i v
    numbered n i v h k = record { number = i * P + v; low = number_low i v n P h k; block = block_of_law P some_lift i v k; place = place_of P some_lift i v k }

    pub edge_over : (c b : ℕ) → Joined (graph_of plan s) c b → Over plan s c b
    unfolding tanner
    edge_over c b j =
        let (e, h, f) = edge_shift (block (c / P) (b / P)) P (c % P) (b % P) j.edge in
        record {
          row = block_low P some_lift c s.rows j.check_in;
          col = block_low P some_lift b s.cols j.bit_in;
          shift = e;
          block = h;
          forth = f;
          back = undo P some_lift e (P - e) (c % P) (b % P) (omega (arith, shift_low plan s.cols P (c / P) (b / P) e some_lift h)) (mod-lt c some_lift) f;
        }

    over_edge : (c b e : ℕ) → c < s.rows * P → b < s.cols * P → block (c / P) (b / P) ≡ Shift e → (c % P + e) % P ≡ b % P → Joined (graph_of plan s) c b
    unfolding tanner
    over_edge c b e h k q f = record { check_in = h; bit_in = k; edge = ap (λ (x : Block). edge x P (c % P) (b % P)) q ∙ eq-eqb ((c % P + e) % P) (b % P) f }

    -- a check has one bit in a column of blocks, and a bit one check in a row
    pub same_bit : (c a b : ℕ) → Joined (graph_of plan s) c a → Joined (graph_of plan s) c b → a / s.lift ≡ b / s.lift → a ≡ b
    same_bit c a b j k e =
        let p = edge_over c a j in
        let q = edge_over c b k in
        let h : p.shift ≡ q.shift = cc (p.block, q.block) in
        same_number P a b e (sym p.forth ∙ ap (λ (x : ℕ). (c % P + x) % P) h ∙ q.forth)

    pub same_check : (b a c : ℕ) → Joined (graph_of plan s) a b → Joined (graph_of plan s) c b → a / s.lift ≡ c / s.lift → a ≡ c
    same_check b a c j k e =
        let p = edge_over a b j in
        let q = edge_over c b k in
        let h : p.shift ≡ q.shift = cc (p.block, q.block) in
        same_number P a c e (sym p.back ∙ ap (λ (x : ℕ). (b % P + (P - x)) % P) h ∙ q.back)

    -- a step from check c to column j leads to another bit of c, in that column
    pub step_bit : (b c j : ℕ) (q : Position) → c < (graph_of plan s).checks → j < s.cols → to_column (blocks_of plan s) (check_from s.lift b c) j ≡ Some q
        → (a : ℕ) × (a / s.lift ≡ j) × Joined (graph_of plan s) c a × (b ≢ a) × (bit_from s.lift c a ≡ q)
    unfolding tanner
    step_bit b c j q low h e =
        let (t, (x, w, k)) = taken (forward P (check_from P b c) j) (block (c / P) j) (eqb j (b / P)) q e in
        let a = numbered s.cols j ((c % P + x) % P) h (mod-lt (c % P + x) some_lift) in
        let r : bit_from P c a.number ≡ forward P (check_from P b c) j x = λ i. record { row = c / P; col = a.block i; voltage = a.place i } in
        let joined = over_edge c a.number x low a.low (ap (block (c / P)) a.block ∙ w) (sym a.place) in
        (a.number, a.block, joined, apart P j b a.number t a.block, r ∙ k)

    -- and one from bit b to row i to another check of b, in that row
    pub step_check : (c b i : ℕ) (q : Position) → b < (graph_of plan s).bits → i < s.rows → to_row (blocks_of plan s) (bit_from s.lift c b) i ≡ Some q
        → (a : ℕ) × (a / s.lift ≡ i) × Joined (graph_of plan s) a b × (c ≢ a) × (check_from s.lift b a ≡ q)
    unfolding tanner
    step_check c b i q low h e =
        let (t, (x, w, k)) = taken (back P (bit_from P c b) i) (block i (b / P)) (eqb i (c / P)) q e in
        let a = numbered s.rows i ((b % P + (P - x)) % P) h (mod-lt (b % P + (P - x)) some_lift) in
        let r : check_from P b a.number ≡ back P (bit_from P c b) i x = λ i. record { row = a.block i; col = b / P; voltage = a.place i } in
        let f = undo P some_lift (P - x) x (b % P) (a.number % P) (omega (arith, shift_low plan s.cols P i (b / P) x some_lift w)) (mod-lt b some_lift) (sym a.place) in
        let joined = over_edge a.number b x a.low low (ap (λ (y : ℕ). block y (b / P)) a.block ∙ w) f in
        (a.number, a.block, joined, apart P i c a.number t a.block, r ∙ k)

    -- each edge to another column, or row, is such a step
    pub bit_step : (b c a : ℕ) → Joined (graph_of plan s) c a → b / s.lift ≢ a / s.lift
        → to_column (blocks_of plan s) (check_from s.lift b c) (a / s.lift) ≡ Some (bit_from s.lift c a)
    bit_step b c a j d =
        let o = edge_over c a j in
        takes (forward P (check_from P b c) (a / P)) (block (c / P) (a / P)) (a / P) (b / P) o.shift (bit_from P c a) (λ e. d (sym e)) o.block
        (λ i. record { row = c / P; col = a / P; voltage = o.forth i })

    pub check_step : (c b a : ℕ) → Joined (graph_of plan s) a b → c / s.lift ≢ a / s.lift
        → to_row (blocks_of plan s) (bit_from s.lift c b) (a / s.lift) ≡ Some (check_from s.lift b a)
    check_step c b a j d =
        let o = edge_over a b j in
        takes (back P (bit_from P c b) (a / P)) (block (a / P) (b / P)) (a / P) (c / P) o.shift (check_from P b a) (λ e. d (sym e)) o.block
        (λ i. record { row = a / P; col = b / P; voltage = o.back i })

-- the number of a root, and of a check or a bit behind the last
abbrev pub at_0 : Shape → ℕ → ℕ
at_0 s k = k * s.lift + 0

-- THE ROOTS, come to from the number behind the last
module _ (plan : List ℤ) (s : Shape) (some_lift : 0 < s.lift) (k : ℕ) where
  pub root_bit_law : root_bit (blocks_of plan s) k ≡ bit_from s.lift (at_0 s s.rows) (at_0 s k)
  root_bit_law =
      λ i. record {
        row = sym (block_of_law s.lift some_lift s.rows 0 some_lift) i;
        col = sym (block_of_law s.lift some_lift k 0 some_lift) i;
        voltage = sym (place_of s.lift some_lift k 0 some_lift) i;
      }

  pub root_check_law : root_check (blocks_of plan s) k ≡ check_from s.lift (at_0 s s.cols) (at_0 s k)
  root_check_law =
      λ i. record {
        row = sym (block_of_law s.lift some_lift k 0 some_lift) i;
        col = sym (block_of_law s.lift some_lift s.cols 0 some_lift) i;
        voltage = sym (place_of s.lift some_lift k 0 some_lift) i;
      }
