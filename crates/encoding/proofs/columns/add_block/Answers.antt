-- `encoding::columns::add_block` meets its contract: a block that is not filled adds nothing, another a turned column. Assumes nothing.
use Rattle.std.proofs.Common.{ℕ, ◌+◌, ◌%◌, ◌<◌, ◌≡◌, sym, ap, ◌∙◌, arith}
use Rattle.exponent.specs.declared.block.Block.TheVariants.{Shift}
use Rattle.exponent.specs.Plan.{block_at}
use Rattle.exponent.proofs.Tanner.{shift_low}
use Rattle.encoding.specs.Encoded.{bit_for}
use Rattle.encoding.specs.Work.{column}
use Rattle.encoding.proofs.Adding.{added_same, turned}
use Rattle.encoding.proofs.columns.add_block.Goals as goal

pub overflow_add-e : goal.overflow_add-e
overflow_add-e c =
    let p = c.args.plan.now in
    let low : c.in-Shift.e < p.shape.lift = shift_low p.entries.now p.shape.cols p.shape.lift c.args.i c.args.j _ p.well_formed.some_lift (sym c.block_at.ensures ∙ c.in-Shift.is) in
    omega (arith, low, p.well_formed.small_lift)

pub wrap-requires : goal.wrap-requires
wrap-requires c =
    let p = c.args.plan.now in
    let low : c.in-Shift.e < p.shape.lift = shift_low p.entries.now p.shape.cols p.shape.lift c.args.i c.args.j _ p.well_formed.some_lift (sym c.block_at.ensures ∙ c.in-Shift.is) in
    omega (arith, low)

pub returns-in-Shift : goal.returns-in-Shift
returns-in-Shift c =
    let a = c.args in
    let p = a.plan.now in
    let is_shift : block_at p.entries.now p.shape.cols p.shape.lift a.i a.j ≡ Shift c.in-Shift.e = sym c.block_at.ensures ∙ c.in-Shift.is in
    added_same
    (λ z h.
    ap (λ (x : ℕ). column p.shape.lift a.word.now a.j ((z + x) % p.shape.lift)) c.wrap.ensures
    ∙ ap (column p.shape.lift a.word.now a.j) (turned p.shape.lift z _ a.turn)
    ∙ sym (ap (bit_for p.shape.lift ((z + a.turn) % p.shape.lift) (column p.shape.lift a.word.now a.j)) is_shift))
    c.add_column.ensures
