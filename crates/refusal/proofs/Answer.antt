-- Laws of `outcome`: an answer carries the refusal that it was made from, and is made with none where it is Ok. Assumes nothing.
use Rattle.std.proofs.Common.{◌≡◌, ℕ, arith, refl, ap, Option, None, Some, Ok, Err}
use Rattle.std.specs.Result.{result_err}
use Rattle.refusal.specs.Answer.{outcome}

module _ {A E : Type 0} (x : A) where
  pub err_of : (o : Option E) → result_err (outcome o x) ≡ o
  err_of None = refl
  err_of (Some e) = refl

  pub none_of_ok : (o : Option E) (y : A) → outcome o x ≡ Ok y → (o ≡ None) × (x ≡ y)
  none_of_ok None y e = let q : x ≡ y = cc in (refl, q)
  none_of_ok (Some r) y e = absurd (let z : ◌≡◌ {A = ℕ} 0 1 = cc in omega arith)

  pub some_of_err : (o : Option E) (r : E) → outcome o x ≡ Err r → o ≡ Some r
  some_of_err None r e = absurd (let z : ◌≡◌ {A = ℕ} 0 1 = cc in omega arith)
  some_of_err (Some s) r e = let q : s ≡ r = cc in ap Some q
