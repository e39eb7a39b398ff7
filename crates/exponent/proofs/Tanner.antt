-- The Tanner graph of a plan: its edges by block, the bits of a check and the checks of a bit, and their numbers.
-- Assumes nothing.
use Prim.Native.Nat.{ℕ, zero, suc, ◌+◌, ◌-◌, ◌*◌, ◌/◌, ◌%◌, ◌≤◌, ◌<◌}
use mathlib.Core.Path.{◌≡◌, refl, ap, subst, ◌∙◌}
use mathlib.Core.Logic.{◌↔◌}
use mathlib.Core.Bool.{true}
use mathlib.Core.List.{List}
use Rattle.std.specs.Prelude.{Some}
use native.Mathlib.Omega.{arith}
use native.Mathlib.Nat.{mod-lt, div-add-mod', div-lt_iff_lt-mul}
use borrow.Author.Tests.{eqb-true, eq-eqb}
use lib.Dec.{eqb}
use lib.IntN.{ℤ, pos, negsuc}
use lib.ListN.{get_or, length}
use Rattle.graph.specs.Count.{below, is_some}
use Rattle.graph.specs.Graph.{Bipartite, bits_of, checks_of}
use Rattle.graph.specs.Stopping.{ThreeChecks}
use Rattle.graph.proofs.Decide.{same_bool}
use Rattle.graph.proofs.Count.{count_same}
use Rattle.exponent.specs.declared.block.Block.{Block}
use Rattle.exponent.specs.declared.block.Block.TheVariants.{Zero, Shift, Invalid}
use Rattle.exponent.specs.Plan.{block_of, entry_at, block_at, filled, shift_of}
use Rattle.exponent.specs.Tanner.{edge, tanner, column_weight, row_weight, ThreeBlocks}
use Rattle.exponent.specs.Neighbours.{gather, bit_in, check_in}
use Rattle.exponent.proofs.Numbers.{block_of_law, place_of, undo}
use Rattle.exponent.proofs.Blocks.{hit, length_gather, Picks, select_gather}

-- A shift lies below the lift, whatever the plan holds.

pub block_shift : (lift : ℕ) (entry : ℤ) (e : ℕ) → 0 < lift → block_of lift entry ≡ Shift e → e < lift
block_shift lift (pos x) e h q = let s : x % lift ≡ e = cc in omega (arith, mod-lt x h)
block_shift lift (negsuc zero) e h q = absurd (let z : ◌≡◌ {A = ℕ} 0 1 = cc in omega arith)
block_shift lift (negsuc (suc n)) e h q = absurd (let z : ◌≡◌ {A = ℕ} 0 1 = cc in omega arith)

-- and so does what `shift_of` gives of any block
pub shift_of_low : (lift : ℕ) (entry : ℤ) → 0 < lift → shift_of (block_of lift entry) < lift
shift_of_low lift (pos x) h = mod-lt x h
shift_of_low lift (negsuc zero) h = h
shift_of_low lift (negsuc (suc n)) h = h

pub shift_low : (plan : List ℤ) (cols lift i j e : ℕ) → 0 < lift → block_at plan cols lift i j ≡ Shift e → e < lift
unfolding block_at entry_at
shift_low plan cols lift i j e h q = block_shift lift (get_or plan (i * cols + j) (pos 0)) e h q

-- ONE BLOCK. Its bit for check y, and its check for bit z: a bijection.

module _ (lift e y z : ℕ) (low : e < lift) (y-low : y < lift) (z-low : z < lift) where
  -- check y joins bit (y + e) mod lift alone, and bit z check (z − e) mod lift alone
  pub block_bit : (edge (Shift e) lift y z ≡ true) ↔ ((y + e) % lift ≡ z)
  block_bit = (eqb-true ((y + e) % lift) z, eq-eqb ((y + e) % lift) z)

  pub block_check : (edge (Shift e) lift y z ≡ true) ↔ ((z + (lift - e)) % lift ≡ y)
  block_check = (
    λ h. undo lift (omega arith) e (lift - e) y z (omega arith) y-low (block_bit.0 h),
    λ h. block_bit.1 (undo lift (omega arith) (lift - e) e z y (omega arith) z-low h),
  )

edge_bit : (lift y z : ℕ) (b : Block) → edge b lift y z ≡ hit (bit_in lift y b) z
edge_bit lift y z Zero = refl
edge_bit lift y z (Shift e) = refl
edge_bit lift y z Invalid = refl

edge_check : (lift y z : ℕ) (b : Block) → ((e : ℕ) → b ≡ Shift e → e < lift) → y < lift → z < lift → edge b lift y z ≡ hit (check_in lift z b) y
edge_check lift y z Zero low p q = refl
edge_check lift y z (Shift e) low p q =
    let r = block_check lift e y z (low e refl) p q in
    same_bool (eqb ((y + e) % lift) z) (eqb ((z + (lift - e)) % lift) y)
    (λ h. eq-eqb ((z + (lift - e)) % lift) y (r.0 h))
    (λ h. r.1 (eqb-true ((z + (lift - e)) % lift) y h))
edge_check lift y z Invalid low p q = refl

bit_low : (lift y : ℕ) → 0 < lift → (b : Block) (x : ℕ) → bit_in lift y b ≡ Some x → x < lift
bit_low lift y h Zero x e = absurd (let z : ◌≡◌ {A = ℕ} 0 1 = cc in omega arith)
bit_low lift y h (Shift s) x e = let q : (y + s) % lift ≡ x = cc in omega (arith, mod-lt (y + s) h)
bit_low lift y h Invalid x e = absurd (let z : ◌≡◌ {A = ℕ} 0 1 = cc in omega arith)

check_low : (lift z : ℕ) → 0 < lift → (b : Block) (x : ℕ) → check_in lift z b ≡ Some x → x < lift
check_low lift z h Zero x e = absurd (let z : ◌≡◌ {A = ℕ} 0 1 = cc in omega arith)
check_low lift z h (Shift s) x e = let q : (z + (lift - s)) % lift ≡ x = cc in omega (arith, mod-lt (z + (lift - s)) h)
check_low lift z h Invalid x e = absurd (let z : ◌≡◌ {A = ℕ} 0 1 = cc in omega arith)

picked_bit : (lift y : ℕ) (b : Block) → is_some (bit_in lift y b) ≡ filled b
picked_bit lift y Zero = refl
picked_bit lift y (Shift e) = refl
picked_bit lift y Invalid = refl

picked_check : (lift z : ℕ) (b : Block) → is_some (check_in lift z b) ≡ filled b
picked_check lift z Zero = refl
picked_check lift z (Shift e) = refl
picked_check lift z Invalid = refl

module _ (plan : List ℤ) (rows cols lift : ℕ) (some_lift : 0 < lift) where
  abbrev G : Bipartite
  G = tanner plan rows cols lift

  -- an edge between numbers is an edge within a block
  pub joins_at : (i y j z : ℕ) → y < lift → z < lift → (tanner plan rows cols lift).joins (i * lift + y) (j * lift + z) ≡ edge (block_at plan cols lift i j) lift y z
  unfolding tanner
  joins_at i y j z p q = rw (block_of_law lift some_lift i y p, block_of_law lift some_lift j z q, place_of lift some_lift i y p, place_of lift some_lift j z q)

  -- the bits of check (i, y), column by column
  pub bits_of_check : (i y : ℕ) → y < lift
      → bits_of (tanner plan rows cols lift) (i * lift + y) ≡ gather lift (λ j. bit_in lift y (block_at plan cols lift i j)) (below cols)
  unfolding bits_of tanner
  bits_of_check i y p = select_gather (G.joins (i * lift + y)) lift (λ j. bit_in lift y (block_at plan cols lift i j)) cols picks
    where
      picks : (j : ℕ) → j < cols → Picks (G.joins (i * lift + y)) lift (λ j. bit_in lift y (block_at plan cols lift i j)) j
      picks j h =
          record {
            low = bit_low lift y some_lift (block_at plan cols lift i j);
            tests = λ z q. joins_at i y j z p q ∙ edge_bit lift y z (block_at plan cols lift i j);
          }

  -- the checks of bit (j, z), row by row
  pub checks_of_bit : (j z : ℕ) → z < lift
      → checks_of (tanner plan rows cols lift) (j * lift + z) ≡ gather lift (λ i. check_in lift z (block_at plan cols lift i j)) (below rows)
  unfolding checks_of tanner
  checks_of_bit j z q = select_gather (λ c. G.joins c (j * lift + z)) lift (λ i. check_in lift z (block_at plan cols lift i j)) rows picks
    where
      picks : (i : ℕ) → i < rows → Picks (λ c. G.joins c (j * lift + z)) lift (λ i. check_in lift z (block_at plan cols lift i j)) i
      picks i h =
          record {
            low = check_low lift z some_lift (block_at plan cols lift i j);
            tests = λ y p. joins_at i y j z p q ∙ edge_check lift y z (block_at plan cols lift i j) (λ e. shift_low plan cols lift i j e some_lift) p q;
          }

  -- a check has as many bits as its row has filled blocks, and a bit as many checks as its column
  pub check_degree : (i y : ℕ) → y < lift → length (bits_of (tanner plan rows cols lift) (i * lift + y)) ≡ row_weight plan cols lift i
  unfolding row_weight
  check_degree i y p =
      ap length (bits_of_check i y p)
      ∙ length_gather lift (λ j. bit_in lift y (block_at plan cols lift i j)) (below cols)
      ∙ count_same (λ j. is_some (bit_in lift y (block_at plan cols lift i j))) (λ j. filled (block_at plan cols lift i j)) (below cols) (λ j m. picked_bit lift y (block_at plan cols lift i j))

  pub bit_degree : (j z : ℕ) → z < lift → length (checks_of (tanner plan rows cols lift) (j * lift + z)) ≡ column_weight plan rows cols lift j
  unfolding column_weight
  bit_degree j z q =
      ap length (checks_of_bit j z q)
      ∙ length_gather lift (λ i. check_in lift z (block_at plan cols lift i j)) (below rows)
      ∙ count_same (λ i. is_some (check_in lift z (block_at plan cols lift i j))) (λ i. filled (block_at plan cols lift i j)) (below rows) (λ i m. picked_check lift z (block_at plan cols lift i j))

  -- at least three filled blocks in each column give every bit three checks
  pub three_checks : ThreeBlocks plan rows cols lift → ThreeChecks (tanner plan rows cols lift)
  unfolding ThreeBlocks ThreeChecks tanner
  three_checks three b h =
      subst (λ (x : ℕ). 3 ≤ length (checks_of (tanner plan rows cols lift) x)) (div-add-mod' b lift)
      (omega (arith, bit_degree (b / lift) (b % lift) (mod-lt b some_lift), three (b / lift) ((div-lt_iff_lt-mul some_lift).1 h)))
