-- The unit, then the blocks, then the place. Assumes nothing.
use Rattle.std.proofs.Common.{sym, arith}
use Rattle.crt.specs.Work.{shaped, refused, accepted}
use Rattle.crt.proofs.Units.{unit_not_shared}
use Rattle.crt.proofs.Judging.{found_nothing, found_at}
use Rattle.crt.proofs.Rules.{alike, same_lengths, refused_27, refused_28, refused_29, none_refused}
use Rattle.crt.proofs.judge.judge_valid.Goals as goal

pub returns-in_default : goal.returns-in_default
returns-in_default c =
    refused _ (refused_27 (shaped c.args.first.now c.args.s) (shaped c.args.second.now c.args.t) c.args.room (found_nothing c.find.ensures c.in_default.not-Some))

pub returns-then-plans_differ : goal.returns-then-plans_differ
returns-then-plans_differ c =
    let coprime = unit_not_shared _ _ _ c.requires.one.some_lift (found_at _ c.find.ensures c.in-Some.is) in
    refused _ (refused_28 (shaped c.args.first.now c.args.s) (shaped c.args.second.now c.args.t) c.args.room coprime (sym c.if-plans_differ.ensures))

pub returns-then-room-first : goal.returns-then-room-first
returns-then-room-first c =
    let coprime = unit_not_shared _ _ _ c.requires.one.some_lift (found_at _ c.find.ensures c.in-Some.is) in
    refused _ (refused_29 (shaped c.args.first.now c.args.s) (shaped c.args.second.now c.args.t) c.args.room coprime (sym c.if-plans_differ.ensures) (λ e. omega arith))

pub returns : goal.returns
returns c =
    let one = shaped c.args.first.now c.args.s in
    let two = shaped c.args.second.now c.args.t in
    let unit = found_at _ c.find.ensures c.in-Some.is in
    let same = sym c.if-plans_differ.ensures in
    accepted _ (none_refused one two c.args.room (unit_not_shared _ _ _ c.requires.one.some_lift unit) same (omega arith) (same_lengths one two c.requires (alike one two same))) unit
