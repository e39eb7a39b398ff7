-- What it tells that no refusal falls. Assumes nothing.
use Prim.Native.Nat.{ℕ, ◌*◌, ◌≤◌}
use mathlib.Core.Path.{◌≡◌, sym, ap, ◌∙◌}
use mathlib.Core.Bool.{Bool, true, not, ◌&&◌}
use mathlib.Core.List.{List}
use Rattle.std.specs.Prelude.{None}
use lib.Dec.{ltb, eqb}
use lib.IntN.{ℤ}
use lib.ListN.{length}
use borrow.Author.Tests.{ltb-false, eqb-true, not-false}
use Rattle.refusal.specs.Lowest.{lowest}
use Rattle.refusal.proofs.Lowest.{NoneHolds, none_holds}
use Rattle.graph.proofs.Decide.{neither}
use Rattle.exponent.proofs.Rules.{inside}
use Rattle.weights.specs.declared.Room.{Room}
use Rattle.weights.proofs.Lengths.{fit_lengths}
use Rattle.steiner.specs.System.{is_order, cols}
use Rattle.steiner.specs.Build.{build_rules, Ready}

-- everything passed
pub record Taken (order lift : ℕ) (voltages : List ℤ) (room : Room) : Type 0 where
  pub ready : Ready order lift voltages
  pub few_bits : cols order * lift ≤ 65536
  pub place : room.plan ≡ order * cols order
  pub row_list : room.rows ≡ order
  pub col_list : room.cols ≡ cols order

pub taken : (order lift : ℕ) (voltages : List ℤ) (room : Room) → lowest (build_rules order lift voltages room) ≡ None → Taken order lift voltages room
unfolding build_rules
taken order lift voltages room e = all ((none_holds (build_rules order lift voltages room)).0 e)
  where
    all : NoneHolds (build_rules order lift voltages room) → Taken order lift voltages room
    all (l, (b, (n, (o, (w, k))))) =
        let known : is_order order ≡ true = not-false _ o in
        let (long, wide) = neither (not (eqb (length voltages) (3 * cols order))) _ w in
        let (rows, columns) = fit_lengths room _ _ k in
        record {
          ready = record { known = known; some_lift = ((inside 1 4096 lift).0 l).0; small_lift = ((inside 1 4096 lift).0 l).1; whole = eqb-true _ _ (not-false _ long) };
          few_bits = ltb-false 65536 (cols order * lift) (sym (ap (λ (k : Bool). k && ltb 65536 (cols order * lift)) known) ∙ b);
          place = eqb-true _ _ (not-false _ wide);
          row_list = rows;
          col_list = columns;
        }
