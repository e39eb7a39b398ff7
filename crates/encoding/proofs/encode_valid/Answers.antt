-- `encoding::encode_valid` meets its contract: a plan of the shape, with data of bits, fits what `write` asks. Assumes nothing.
use Rattle.std.proofs.Common.{sym, ◌∙◌, arith}
use Rattle.bidiagonal.proofs.Judging.{many, third_low}
use Rattle.encoding.proofs.Rules.{good_data}
use Rattle.encoding.proofs.encode_valid.Goals as goal

pub write-requires : goal.write-requires
write-requires c =
    let p = c.args.plan.now in
    let (shaped, is_third) = rw c.in-Some.is at c.judge.ensures in
    let (three_rows, data_column) = many p.entries.now p.shape.rows p.shape.cols p.shape.lift shaped in
    let (whole, bits) = good_data _ _ (sym c.is_bad.ensures ∙ c.if-is_bad.false) in (
      record {
        formed = p.well_formed;
        data_column = data_column;
        third_low = third_low p.entries.now p.shape.rows p.shape.cols p.shape.lift p.well_formed.some_lift _ is_third;
        data_whole = whole;
        data_bits = bits;
        whole = c.if-word-shape.false;
      },
      omega (arith, three_rows),
    )
