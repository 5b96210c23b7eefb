-- `index::linked`: a link to none is 0, and any other one more than its entry.
-- Assumes nothing.
use mathlib.Core.Path.{◌≡◌}
use Prim.Native.Nat.{ℕ, ◌-◌, ◌≤◌}
use native.Mathlib.Omega.{arith}
use Rattle.std.specs.Prelude.{Option, Some, None, SomeIff}
use Rattle.index.specs.Buckets.{link_to}
use Rattle.index.proofs.linked.Goals as goal

link-of : (o : Option ℕ) (link : ℕ) → SomeIff o (1 ≤ link) (link - 1) → link_to o ≡ link
unfolding link_to
link-of None link e = omega (arith, e)
link-of (Some n) link e = omega (arith, e.0, e.1)

pub returns : goal.returns
returns c = link-of c.checked_sub.result c.args.link c.checked_sub.ensures
