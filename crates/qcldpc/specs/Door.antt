-- The C interface: each function returns 0 for a result, or the refusal's number, and puts values into `out`.
-- With fewer than 32 places in `out` it returns 2^64 − 1 and does nothing else. Places not named are left alone.
use Rattle.std.specs.Prelude.{ℕ, ◌-◌, ◌^◌, ◌≤◌, ◌<◌, ◌≡◌, ◌≢◌, ⊤, Bool, true, false, Option, Some, None, Result, Ok, Err, List, [], ◌∷◌, length, replicate}
use Rattle.std.proofs.lemmas.List.Edits.{sets}
use Rattle.refusal.specs.declared.Refusal.{Refusal}
use Rattle.refusal.specs.Number.{number, values}
use Rattle.exponent.specs.declared.Shape.{Shape}
use Rattle.girth.specs.declared.Cycle.{Cycle}
use Rattle.peeling.specs.declared.Filling.{Filling}

-- WHAT A RESULT PUTS INTO `out`. Nothing, where there is nothing but that the call was not refused;
abbrev pub nothing : ⊤ → List ℕ → List ℕ
nothing x out = out

-- a number: the joined lift, the text's length, how many bits were turned, how many are erasures;
abbrev pub one : ℕ → List ℕ → List ℕ
one n out = sets out 0 (n ∷ [])

-- a built plan: its rows and columns;
abbrev pub sizes : Shape → List ℕ → List ℕ
sizes s out = sets out 0 (s.rows ∷ s.cols ∷ [])

-- the decoder: how many erasures were filled, and how many are left;
abbrev pub counts : Filling → List ℕ → List ℕ
counts f out = sets out 0 (f.filled ∷ f.left ∷ [])

-- the syndrome: 0 where every check is even, else 1 and the lowest odd check;
abbrev pub odd_check : Option ℕ → List ℕ → List ℕ
odd_check None out = sets out 0 (0 ∷ [])
odd_check (Some c) out = sets out 0 (1 ∷ c ∷ [])

-- the girth test by sorted pairs: 0 where the plan passes, else 1;
abbrev pub verdict : Bool → List ℕ → List ℕ
verdict true out = sets out 0 (0 ∷ [])
verdict false out = sets out 0 (1 ∷ [])

-- the girth test: n, the checks from place 1 and the bits from place 9; all 0 where the plan passes.
abbrev pub witness : Option Cycle → List ℕ → List ℕ
witness None out = sets (sets (sets out 0 (0 ∷ [])) 1 (replicate 8 0)) 9 (replicate 8 0)
witness (Some c) out = sets (sets (sets out 0 (c.n ∷ [])) 1 c.checks) 9 c.bits

-- what a call returns, and what `out` then holds
pub record Given : Type 0 where
  pub code : ℕ
  pub out : List ℕ

-- a refusal: its number, and its values from the first place on
abbrev pub refusal : Refusal → List ℕ → Given
refusal r out = record { code = number r; out = sets out 0 (values r) }

-- an answer, by what its result puts into `out`
abbrev pub given : {A : Type 0} → (A → List ℕ → List ℕ) → Result A Refusal → List ℕ → Given
given puts (Ok x) out = record { code = 0; out = puts x out }
given puts (Err r) out = refusal r out

-- too small an `out`
abbrev pub no_room : List ℕ → Given
no_room out = record { code = 2 ^ 64 - 1; out = out }

-- a call gives some answer that its definition allows, or that there is no room
pub record Replies (A : Type 0) (Right : Result A Refusal → Type 0) (puts : A → List ℕ → List ℕ) (out : List ℕ) (code : ℕ) (left : List ℕ) : Type 0 where
  pub small : length out < 32 → (code ≡ (no_room out).code) × (left ≡ (no_room out).out)
  pub large : 32 ≤ length out → (a : Result A Refusal) × Right a × (code ≡ (given puts a out).code) × (left ≡ (given puts a out).out)

-- other lent memory: with room what the call's definition wants there, else what was lent
pub record Leaves {A : Type 0} (out : List ℕ) (want lent left : List A) : Type 0 where
  pub small : length out < 32 → left ≡ lent
  pub large : 32 ≤ length out → left ≡ want

-- a work list: as lent, unless the call returns 0
abbrev pub KeptUnless0 : ℕ → List ℕ → List ℕ → Type 0
KeptUnless0 code lent left = code ≢ 0 → left ≡ lent
