-- `index::bucket`: the code computes as the definition does.
-- Assumes nothing.
use mathlib.Core.Path.{refl}
use Rattle.index.specs.Buckets.{bucket_of}
use Rattle.index.proofs.bucket.Goals as goal

pub returns-clause-bucket : goal.returns-clause-bucket
unfolding bucket_of
returns-clause-bucket g c = refl
