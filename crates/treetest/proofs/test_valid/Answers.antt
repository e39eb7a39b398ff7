-- `treetest::test_valid` meets its contract: first whether there is room, then whether there is a pair. Assumes nothing.
use Rattle.std.proofs.Common.{◌∙◌, sym, arith}
use Rattle.graph.proofs.Decide.{by_bool}
use Rattle.treetest.proofs.Answers.{half, answer_full, answer_pair, answer_none}
use Rattle.treetest.proofs.test_valid.Goals as goal

pub overflow_sub-depth : goal.overflow_sub-depth
overflow_sub-depth c = let p = c.args.plan.now in omega (arith, (half p.entries.now p.shape c.args.target c.requires).0)

pub any_overfull-requires : goal.any_overfull-requires
any_overfull-requires c = let p = c.args.plan.now in let h = half p.entries.now p.shape c.args.target c.requires in (h.0, h.1)

pub returns-then-any_overfull-clause-answers : goal.returns-then-any_overfull-clause-answers
returns-then-any_overfull-clause-answers c =
    let p = c.args.plan.now in
    let full = rw c.new-graph.ensures at c.any_overfull.ensures in
    answer_full p.entries.now p.shape c.args.target c.requires _ (sym full ∙ c.if-any_overfull.true)

pub any_pair-requires : goal.any_pair-requires
any_pair-requires c =
    let p = c.args.plan.now in
    let h = half p.entries.now p.shape c.args.target c.requires in
    (h.0, h.1, sym c.any_overfull.ensures ∙ c.if-any_overfull.false)

pub returns-clause-answers : goal.returns-clause-answers
returns-clause-answers c =
    let p = c.args.plan.now in
    let room = sym (rw c.new-graph.ensures at c.any_overfull.ensures) ∙ c.if-any_overfull.false in
    let pair = rw c.new-graph.ensures at c.any_pair.ensures in
    by_bool c.any_pair.result
    (λ e. rw e (answer_pair p.entries.now p.shape c.args.target c.requires _ room (pair.yes e)))
    (λ e. rw e (answer_none p.entries.now p.shape c.args.target c.requires _ room (pair.no e)))
