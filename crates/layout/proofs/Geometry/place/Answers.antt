-- `layout::Geometry::place` meets its contract, by its definition. (With at most 64 sectors of 4,096 blocks no place wraps.)
-- Assumes nothing.
use mathlib.Core.Path.{refl}
use Rattle.rules.specs.Ground.{place_of}
use Rattle.layout.proofs.Geometry.place.Goals as goal

pub returns : goal.returns
unfolding place_of
returns c = refl
