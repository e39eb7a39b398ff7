-- What it tells that no refusal falls: the table is square, the mask has a common weight, and all numbers are in range.
-- Assumes nothing.
use Rattle.std.specs.Prelude.{Ok, Err}
use Rattle.refusal.specs.Answer.{outcome, ok_unless}
use Prim.Native.Nat.{ℕ, ◌*◌, ◌≤◌, ◌<◌}
use mathlib.Core.Path.{◌≡◌, refl, sym, ◌∙◌}
use mathlib.Core.Bool.{true, false, not}
use mathlib.Core.List.{List}
use Rattle.std.specs.Prelude.{Option, None, Some}
use native.Mathlib.Omega.{arith}
use lib.Dec.{eqb}
use lib.IntN.{ℤ}
use lib.ListN.{length}
use borrow.Author.Tests.{ltb-false, eqb-true, not-false}
use Rattle.refusal.specs.declared.Refusal.{Refusal}
use Rattle.refusal.specs.Lowest.{lowest}
use Rattle.refusal.proofs.Lowest.{lowest_accepted, lowest_refused, none_append, NoneHolds, none_holds}
use Rattle.graph.proofs.Decide.{neither}
use Rattle.exponent.proofs.Rules.{inside, refused_some}
use Rattle.weights.specs.declared.Room.{Room}
use Rattle.square.specs.Table.{table_at, unsound}
use Rattle.square.specs.Mask.{mask_at, common, weight, Common}
use Rattle.square.specs.Inner.{line_ones}
use Rattle.square.proofs.Weights.{weight_common, weight_is, first_line}
use Rattle.grid.specs.Plan.{plan_rows, plan_cols, table_plan}
use Rattle.grid.proofs.Shape.{plan_length}
use Rattle.table.specs.Build.{table_rules, mask_rules, build_rules}
use Rattle.table.specs.Write.{Ready}
use Rattle.weights.proofs.Lengths.{fit_lengths}

-- what a verdict tells of the rules
pub accepts : (o : Option Refusal) (n m : ℕ) → Ok m ≡ outcome o n → (o ≡ None) × (m ≡ n)
accepts None n m e = (refl, cc)
accepts (Some r) n m e = absurd (let z : ◌≡◌ {A = ℕ} 0 1 = cc in omega arith)

pub refuses : (o : Option Refusal) (n : ℕ) (r : Refusal) → Err r ≡ outcome o n → o ≡ Some r
refuses None n r e = absurd (let z : ◌≡◌ {A = ℕ} 0 1 = cc in omega arith)
refuses (Some s) n r e = cc

-- the ones of the first row are the common weight, and few
pub ones_are : (order : ℕ) (mask : List ℕ) → common order mask ≡ true → line_ones order mask 0 1 ≡ weight order mask
ones_are order mask e = first_line order mask ∙ sym (weight_is order mask e)

pub ones_few : (order : ℕ) (mask : List ℕ) → common order mask ≡ true → line_ones order mask 0 1 ≤ order
ones_few order mask e = omega (arith, ones_are order mask e, (weight_common order mask e).most)

-- the lift and the table passed
pub record TableTaken (order lift : ℕ) (table : List ℤ) : Type 0 where
  pub some_lift : 1 ≤ lift
  pub small_lift : lift ≤ 4096
  pub least_order : 4 ≤ order
  pub most_order : order ≤ 7
  pub whole : length table ≡ order * order
  pub sound : unsound order lift (table_at order table) ≡ false

pub table_taken : (order lift : ℕ) (table : List ℤ) → lowest (table_rules order lift table) ≡ None → TableTaken order lift table
unfolding table_rules
table_taken order lift table e = taken ((none_holds (table_rules order lift table)).0 e)
  where
    taken : NoneHolds (table_rules order lift table) → TableTaken order lift table
    taken (p, (o, (l, (n, (u, _))))) =
        record {
          some_lift = ((inside 1 4096 lift).0 p).0;
          small_lift = ((inside 1 4096 lift).0 p).1;
          least_order = ((inside 4 7 order).0 o).0;
          most_order = ((inside 4 7 order).0 o).1;
          whole = eqb-true _ _ (not-false _ l);
          sound = u;
        }

pub table_small : (order lift : ℕ) (table : List ℤ) → lowest (table_rules order lift table) ≡ None → (0 < order) × (order < 8) × (lift ≤ 4096)
table_small order lift table e = let t = table_taken order lift table e in (omega (arith, t.least_order), omega (arith, t.most_order), t.small_lift)

-- what the judging of the table says of the whole
module _ (order lift : ℕ) (table : List ℤ) (mask : List ℕ) (room : Room) where
  pub table_accepted : lowest (table_rules order lift table) ≡ None → lowest (build_rules order lift table mask room) ≡ lowest (mask_rules order lift mask room)
  unfolding build_rules
  table_accepted e = lowest_accepted (table_rules order lift table) (mask_rules order lift mask room) e

  pub table_refused : (r : Refusal) → ok_unless (lowest (table_rules order lift table)) ≡ Err r → lowest (build_rules order lift table mask room) ≡ Some r
  unfolding build_rules
  table_refused r e = lowest_refused (table_rules order lift table) (mask_rules order lift mask room) r (refused_some _ r e)

-- everything passed
pub record Taken (order lift : ℕ) (table : List ℤ) (mask : List ℕ) (room : Room) : Type 0 where
  pub of_table : TableTaken order lift table
  pub mask_whole : length mask ≡ order * order
  pub of_mask : Common order mask (weight order mask)
  pub few_bits : plan_cols order (weight order mask) * lift ≤ 65536
  pub place : room.plan ≡ plan_rows order (weight order mask) * plan_cols order (weight order mask)
  pub row_list : room.rows ≡ plan_rows order (weight order mask)
  pub col_list : room.cols ≡ plan_cols order (weight order mask)

module _ (order lift : ℕ) (table : List ℤ) (mask : List ℕ) (room : Room) where
  pub taken : lowest (build_rules order lift table mask room) ≡ None → Taken order lift table mask room
  unfolding build_rules mask_rules
  taken e = let (t, m) = (none_append (table_rules order lift table) (mask_rules order lift mask room)).0 e in all t ((none_holds (mask_rules order lift mask room)).0 m)
    where
      all : lowest (table_rules order lift table) ≡ None → NoneHolds (mask_rules order lift mask room) → Taken order lift table mask room
      all t (b, (w, (f, (p, l)))) =
          let (rows, cols) = fit_lengths room _ _ l in
          record {
            of_table = table_taken order lift table t;
            mask_whole = eqb-true _ _ (not-false _ (neither (not (eqb (length mask) (order * order))) _ b).0);
            of_mask = weight_common order mask (not-false _ w);
            few_bits = ltb-false _ _ f;
            place = eqb-true _ _ (not-false _ p);
            row_list = rows;
            col_list = cols;
          }

  pub ready : Taken order lift table mask room → Ready (record { order = order; weight = weight order mask; lift = lift }) table mask
  ready a =
      record {
        table_square = record { some_rows = omega (arith, a.of_table.least_order); small = omega (arith, a.of_table.most_order); whole = a.of_table.whole };
        mask_square = a.mask_whole;
        most = a.of_mask.most;
        some_lift = a.of_table.some_lift;
        small_lift = a.of_table.small_lift;
      }

  pub place_fits : Taken order lift table mask room → room.plan ≡ length (table_plan order (weight order mask) lift (table_at order table) (mask_at order mask))
  place_fits a = a.place ∙ sym (plan_length order (weight order mask) lift (table_at order table) mask a.of_mask)
