-- What a caller learns of an index: where it starts.
-- Assumes nothing.
use mathlib.Core.List.{List}
use Prim.Native.Nat.{ℕ, ◌<◌, ◌≤◌}
use native.Mathlib.Omega.{arith}
use lib.ListN.{length, length-replicate, get_or-replicate}
use Rattle.std.specs.Prelude.{replicate}
use Rattle.rules.specs.Reading.{Entry}
use Rattle.mask.specs.Marks.{max_marks}
use Rattle.index.specs.Buckets.{last_in, link_to}
use Rattle.index.specs.Tables.{Indexes}

-- Tables of zeros index no entry.
pub index-none : (size : ℕ) (es : List Entry) → 0 < size → size ≤ max_marks → length es ≤ size → Indexes size es 0 (replicate size 0) (replicate size 0)
unfolding last_in link_to
index-none size es some most fits =
    record {
      some = some;
      most = most;
      fits = fits;
      few = omega arith;
      buckets = length-replicate {A = ℕ} size 0;
      room = length-replicate {A = ℕ} size 0;
      newest = λ b h. get_or-replicate {A = ℕ} size b 0 0 h;
      older = λ n h. absurd (omega arith);
    }
