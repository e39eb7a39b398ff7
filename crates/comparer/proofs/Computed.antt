-- Texts held to both forms of two alists that have short lists, computed. Assumes nothing.
use Prim.Native.Nat.{ℕ}
use Prim.Native.String.{String}
use mathlib.Core.Path.{◌≡◌, refl}
use mathlib.Core.List.{◌++◌}
use Rattle.std.specs.Prelude.{Option, None, Some}
use Rattle.graph.specs.Count.{range, select}
use Rattle.graph.specs.Graph.{Bipartite, bits_of, checks_of}
use Rattle.exponent.specs.Plan.{entry_at, block_at}
use Rattle.exponent.specs.Tanner.{tanner}
use Rattle.decimal.specs.Decimal.{digits, decimal}
use Rattle.tokens.specs.Tokens.{blank, between, blanks, token, start, token_at, same, mismatch}
use Rattle.tokens.specs.Bytes.{bytes}
use Rattle.lines.specs.Alist.{degrees, greatest, fill, lists, lines_in}
use Rattle.lines.specs.Text.{items_of}
use Rattle.lines.proofs.Computed.{short, corner}
use Rattle.comparer.specs.Verdict.{departs_in, departs}

-- a text in two parts, and the place that it shows
abbrev Shows : Bipartite → String → String → Option ℕ → Type 0
Shows G begin rest place = departs (bytes begin ++ bytes rest) G ≡ place

-- the one-row plan 0 −1 at lift 1: the list of its second bit is empty
abbrev short_begin : String
short_begin = "2 1\n1 1\n1 0\n1\n1\n"

pub record ShortTexts : Type 0 where
  -- the list padded; ended by its line; with blanks before line feeds
  pub padded : Shows (tanner short 1 2 1) short_begin "0\n1\n" None
  pub ended : Shows (tanner short 1 2 1) short_begin "\n1\n" None
  pub blanks_before : Shows (tanner short 1 2 1) short_begin " \r\n\t1\r\n " None
  -- without the last line feed: the padded form departs at 17, the unpadded one at the text's end
  pub last_missing : Shows (tanner short 1 2 1) short_begin "\n1" (Some 18)
  -- with one line feed more: the padded form departs at 17, the unpadded one at that line feed
  pub one_more : Shows (tanner short 1 2 1) short_begin "\n1\n\n" (Some 19)
  -- a zero and then a wrong number: the padded form departs at 18, the unpadded one at the zero
  pub wrong_later : Shows (tanner short 1 2 1) short_begin "0\n2\n" (Some 18)

pub short_texts : ShortTexts
unfolding departs departs_in items_of lines_in lists degrees greatest fill bits_of checks_of tanner select range block_at entry_at mismatch blank between blanks token start token_at same decimal digits
short_texts = record { padded = refl; ended = refl; blanks_before = refl; last_missing = refl; one_more = refl; wrong_later = refl }

-- the plan 0 0 / 0 −1 at lift 1: a list of a bit and one of a check are short
abbrev corner_begin : String
corner_begin = "2 2\n2 2\n2 1\n2 1\n1 2\n"

pub record CornerTexts : Type 0 where
  pub padded : Shows (tanner corner 2 2 1) corner_begin "1 0\n1 2\n1 0\n" None
  pub ended : Shows (tanner corner 2 2 1) corner_begin "1\n1 2\n1\n" None
  -- mixtures agree with neither form: the bit's list ended and the check's padded, and the other way round
  pub check_padded : Shows (tanner corner 2 2 1) corner_begin "1\n1 2\n1 0\n" (Some 28)
  pub bit_padded : Shows (tanner corner 2 2 1) corner_begin "1 0\n1 2\n1\n" (Some 30)

pub corner_texts : CornerTexts
unfolding departs departs_in items_of lines_in lists degrees greatest fill bits_of checks_of tanner select range block_at entry_at mismatch blank between blanks token start token_at same decimal digits
corner_texts = record { padded = refl; ended = refl; check_padded = refl; bit_padded = refl }
