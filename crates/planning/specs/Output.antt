-- What is printed (document 01, "alist text"): the alist of the cyclic plan with the full mask, or one line "refused N".
use Rattle.std.specs.Prelude.{ℕ, ◌*◌, min, List, [], ◌∷◌, ◌++◌, ℤ, length, replicate, Option, None, Some}
use Rattle.std.proofs.lemmas.List.Edits.{sets}
use Rattle.refusal.specs.declared.Refusal.{Refusal}
use Rattle.refusal.specs.Number.{number}
use Rattle.refusal.specs.Lowest.{Rule, lowest}
use Rattle.square.specs.declared.supply.Family.TheVariants.{Cyclic}
use Rattle.square.specs.Table.{supplied_table}
use Rattle.grid.specs.Plan.{plan_rows, plan_cols}
use Rattle.refusal.specs.Lent.{lent}
use Rattle.exponent.specs.declared.Shape.{Shape}
use Rattle.weights.specs.declared.Side.{Side}
use Rattle.weights.specs.declared.Side.TheVariants.{Bits, Checks}
use Rattle.weights.specs.Weights.{shape_of, weights_of}
use Rattle.table.specs.Build.{build_rules, built_plan}
use Rattle.decimal.specs.Decimal.{decimal}
use Rattle.alist.specs.Calls.{alist_text, write_rules}
use Rattle.planning.specs.declared.request.Request.{Request}
use Rattle.planning.specs.Request.{request_of}

-- all ones, so that L = J
abbrev pub full_mask : ℕ → List ℕ
full_mask order = replicate (order * order) 1

-- the plan's rows and columns
abbrev pub rows_of : Request → ℕ
rows_of q = plan_rows q.order q.order

abbrev pub cols_of : Request → ℕ
cols_of q = plan_cols q.order q.order

-- the plan is built in what J needs of a lent place, or in the whole where that is shorter, and its weights in lists of their own
unfoldable pub cyclic_rules : Request → ℕ → List Rule
cyclic_rules q room =
    build_rules q.order q.lift (supplied_table Cyclic q.order) (full_mask q.order)
    (record { plan = min (rows_of q * cols_of q) room; rows = rows_of q; cols = cols_of q })

unfoldable pub cyclic_plan : Request → List ℤ
cyclic_plan q = built_plan q.order q.lift (supplied_table Cyclic q.order) (full_mask q.order)

-- its sizes
abbrev pub cyclic_shape : Request → Shape
cyclic_shape q = shape_of (rows_of q) (cols_of q) q.lift

-- its weights
unfoldable pub cyclic_weights : Request → Side → List ℕ
cyclic_weights q side = weights_of (cyclic_plan q) (cyclic_shape q) side

-- "refused ", the refusal's number, and a line feed
unfoldable pub refused_line : Refusal → List ℕ
refused_line r = (114 ∷ 101 ∷ 102 ∷ 117 ∷ 115 ∷ 101 ∷ 100 ∷ 32 ∷ []) ++ decimal (number r) ++ 10 ∷ []

-- the line of a refusal, or what is printed where there is none
abbrev pub printed : Option Refusal → List ℕ → List ℕ
printed None text = text
printed (Some r) text = refused_line r

-- The bytes to be printed, with so many numbers of room for the plan, and a place for the text. A built plan is judged at 12 and
-- always passes, so nothing is said here of one that does not.
unfoldable pub output_for : Request → ℕ → List ℕ → List ℕ
output_for q room place =
    printed (lowest (cyclic_rules q room))
    (printed (lowest (write_rules (cyclic_plan q) (rows_of q) (cols_of q) q.lift (cyclic_weights q Checks) (cyclic_weights q Bits) place))
    (alist_text (cyclic_plan q) (rows_of q) (cols_of q) q.lift))

abbrev pub output : List ℕ → ℕ → List ℕ → List ℕ
output input room place = output_for (request_of input) room place

-- what the lent plan then holds: the built plan and, past it, the numbers as they were; all of them on a refusal
abbrev pub plan_after : List ℕ → List ℤ → List ℤ
plan_after input plan = lent (lowest (cyclic_rules (request_of input) (length plan))) (sets plan 0 (cyclic_plan (request_of input))) plan
