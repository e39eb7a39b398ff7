-- The alist of the one-row plan 0 1 at lift 2, computed: its text's length, and that the last byte is a line feed. The items of two alists, which
-- `padded_held` and `unpadded_held` of crate tokens are of. Assumes nothing.
use mathlib.Core.Path.{◌≡◌, refl}
use mathlib.Core.List.{map}
use lib.ListN.{length, get_or}
use Rattle.graph.specs.Count.{range, select}
use Rattle.graph.specs.Graph.{bits_of, checks_of}
use Rattle.exponent.specs.Plan.{entry_at, block_at}
use Rattle.exponent.specs.Tanner.{tanner}
use Rattle.exponent.proofs.Cases.{pair}
use Rattle.decimal.specs.Decimal.{digits, decimal}
use Rattle.tokens.specs.declared.Form.TheVariants.{Padded, Unpadded}
use Rattle.tokens.specs.Tokens.{numeral}
use Rattle.tokens.proofs.Computed.{pair_numbers, short_items}
use Rattle.lines.specs.Alist.{degrees, greatest, fill, lists, lines_in, alist}
use Rattle.lines.specs.Text.{item, line_from, text_of, items_of}
use Rattle.lines.proofs.Computed.{short}
use Rattle.alist.specs.Calls.{alist_text}

pub pair_ends : (length (alist_text pair 1 2 2) ≡ 36) × (get_or (alist_text pair 1 2 2) 35 0 ≡ 10)
unfolding text_of line_from item decimal digits lines_in lists degrees greatest fill bits_of checks_of tanner select range block_at entry_at
pair_ends = (refl, refl)

pub pair_numbers_law : items_of Padded (alist pair 1 2 2) ≡ map numeral pair_numbers
unfolding items_of lines_in lists degrees greatest fill bits_of checks_of tanner select range block_at entry_at
pair_numbers_law = refl

pub short_items_law : items_of Unpadded (lines_in Unpadded (tanner short 1 2 1)) ≡ short_items
unfolding items_of lines_in lists degrees greatest fill bits_of checks_of tanner select range block_at entry_at
short_items_law = refl
