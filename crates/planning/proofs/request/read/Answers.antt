-- `planning::request::read` meets its contract: the part that is read is the first 256 bytes. Assumes nothing.
use mathlib.Core.Path.{ap, ◌∙◌}
use Prim.Native.Nat.{ℕ}
use native.Mathlib.Omega.{arith}
use lib.ListN.{take}
use Rattle.std.proofs.lemmas.List.{take_min}
use Rattle.planning.specs.Request.{request_in, request_of}
use Rattle.planning.proofs.request.read.Goals as goal

pub returns : goal.returns
unfolding request_of
returns c =
    let input = c.args.input.now in
    c.read_tokens.ensures ∙ ap request_in (ap (λ (k : ℕ). take k input) (omega (arith, c.min.ensures)) ∙ take_min 256 input)
