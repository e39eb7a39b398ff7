-- The three parts of the rows are different, and the coordinate that each leaves free. Assumes nothing.
use Prim.Native.Nat.{ℕ}
use mathlib.Core.Path.{◌≡◌, refl, sym, ap}
use mathlib.Core.Logic.{◌≢◌}
use native.Mathlib.Omega.{arith}
use Rattle.grid.specs.declared.Part.{Part}
use Rattle.grid.specs.declared.Part.TheVariants.{AJ, AR, JR}
use Rattle.grid.specs.declared.Column.{Column}

rank : Part → ℕ
rank AJ = 0
rank AR = 1
rank JR = 2

pub AJ≢AR : AJ ≢ AR
unfolding rank
AJ≢AR e = let z : ◌≡◌ {A = ℕ} 0 1 = ap rank e in omega arith

pub AJ≢JR : AJ ≢ JR
unfolding rank
AJ≢JR e = let z : ◌≡◌ {A = ℕ} 0 2 = ap rank e in omega arith

pub AR≢JR : AR ≢ JR
unfolding rank
AR≢JR e = let z : ◌≡◌ {A = ℕ} 1 2 = ap rank e in omega arith

pub part? : Discrete Part
part? AJ AJ = yes refl
part? AJ AR = no AJ≢AR
part? AJ JR = no AJ≢JR
part? AR AJ = no λ e. AJ≢AR (sym e)
part? AR AR = yes refl
part? AR JR = no AR≢JR
part? JR AJ = no λ e. AJ≢JR (sym e)
part? JR AR = no λ e. AR≢JR (sym e)
part? JR JR = yes refl

-- a part's rows fix two coordinates; this is the third
abbrev pub free : Part → Column → ℕ
free AJ q = q.r
free AR q = q.j
free JR q = q.a
