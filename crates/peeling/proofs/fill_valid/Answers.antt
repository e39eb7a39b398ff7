-- `peeling::fill_valid` meets its contract: after the passes no check has exactly one erasure, so a clash means that no values fit, and without
-- one the word is the filled word. Assumes nothing.
use Rattle.std.proofs.Common.{sym, ap, ◌∙◌}
use Rattle.peeling.proofs.Ends.{counted, refused_answer, refused_word, filled_answer, filled_word_law}
use Rattle.peeling.proofs.fill_valid.Goals as goal

pub returns-then-has_clash : goal.returns-then-has_clash
returns-then-has_clash c =
    let bytes = c.requires.1 in
    let peeled = rw c.new-graph.ensures at c.peel-filled.ensures in
    let e = sym (rw c.new-graph.ensures at c.has_clash.ensures) ∙ c.if-has_clash.true in
    let r = c.unmark_all in
    (refused_answer peeled bytes e, refused_word peeled bytes e _ r.auto.word r.ensures)

pub returns : goal.returns
returns c =
    let bytes = c.requires.1 in
    let peeled = rw c.new-graph.ensures at c.peel-filled.ensures in
    let e = sym (rw c.new-graph.ensures at c.has_clash.ensures) ∙ c.if-has_clash.false in
    let r = c.unmark_all-2 in (
      ap (counted c.peel-filled.result) c.count_erasures-left.ensures ∙ filled_answer peeled bytes e _ r.auto.word r.ensures,
      filled_word_law peeled bytes e _ r.auto.word r.ensures,
    )
