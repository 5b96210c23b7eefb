-- `renewed::renewed_by_newer`: the invariant is that the marks count the entries of the newer sectors before t among the later ones.
-- Assumes nothing.
use mathlib.Core.Path.{◌≡◌, sym, ap, subst, ◌∙◌}
use mathlib.Core.List.{List, [], ◌++◌}
use Prim.Native.Nat.{ℕ, ◌<◌}
use native.Mathlib.Omega.{arith}
use lib.ListN.{length}
use Rattle.rules.specs.Reading.{Entry}
use Rattle.rules.specs.Meaning.{next, entries_in, newer_than}
use Rattle.rules.proofs.Ring.Order.{next-lt}
use Rattle.layout.specs.declared.image.Image.{Image}
use Rattle.layout.specs.Geometry.{sectors_of}
use Rattle.layout.specs.Numbers.{sector_no}
use Rattle.layout.proofs.Laws.{same-sector, other-sector}
use Rattle.mask.specs.Flags.{padded}
use Rattle.mask.specs.Marks.{max_marks}
use Rattle.image.specs.Answer.{views}
use Rattle.image.proofs.Sectors.{views-count}
use Rattle.index.specs.Index.{entries_of}
use Rattle.live.specs.Counts.{Counts}
use Rattle.live.specs.Counted.{ignored}
use Rattle.live.specs.Live.{renewed_flags, renewed_flags_in}
use Rattle.live.proofs.Counting.{entries-noted}
use Rattle.index.specs.Tables.{entries_at}
use Rattle.live.proofs.Passing.{fewer-left, passing-start, passing-inside, passing-next, passing-end}
use Rattle.live.proofs.renewed.renewed_by_newer.Given.{Over}
use Rattle.live.proofs.renewed.renewed_by_newer.Goals as goal
use Rattle.live.proofs.renewed.renewed_by_newer.Goals.{After-next_sector-spare, At-loop-g, In-loop-g, Start}

-- what is known of the image that was counted holds of the index's
newest-inside : (g : Over) (c : Start g) → sector_no c.args.counted.now.newest < sectors_of c.args.index.now.image.geometry
newest-inside g c = subst (λ (image : Image). sector_no c.args.counted.now.newest < sectors_of image.geometry) (sym c.requires.same) c.args.counted.now.inside

counted : (g : Over) (c : Start g) → Counts (views c.args.index.now.image) c.args.counted.now.counts.now
counted g c = subst (λ (image : Image). Counts (views image) c.args.counted.now.counts.now) (sym c.requires.same) c.args.counted.now.counted

-- the sector that is ignored
spare-is : (g : Over) (c : After-next_sector-spare g) → sector_no c.next_sector-spare.result ≡ next (sectors_of c.args.index.now.image.geometry) (sector_no c.args.counted.now.newest)
spare-is g c = c.next_sector-spare.ensures

ignored-is : (g : Over) (c : After-next_sector-spare g) → sector_no c.next_sector-spare.result ≡ ignored c.args.counted.now
ignored-is g c = spare-is g c ∙ ap (λ (image : Image). next (sectors_of image.geometry) (sector_no c.args.counted.now.newest)) c.requires.same

spare-inside : (g : Over) (c : After-next_sector-spare g) → sector_no c.args.counted.now.newest < sectors_of c.args.index.now.image.geometry
    → sector_no c.next_sector-spare.result < length (views c.args.index.now.image)
spare-inside g c newest =
    omega (arith, spare-is g c, next-lt (sectors_of c.args.index.now.image.geometry) (sector_no c.args.counted.now.newest) newest, views-count c.args.index.now.image.geometry c.args.index.now.image.bytes.now)

-- the sector that is passed is one of the image
inside : (g : Over) (c : At-loop-g g) → sector_no c.next_sector-spare.result < length (views c.args.index.now.image) → sector_no c.loop-g.t < sectors_of c.args.index.now.image.geometry
inside g c spare = omega (arith, passing-inside spare c.loop-g.invariant.1, views-count c.args.index.now.image.geometry c.args.index.now.image.bytes.now)

-- it is not the one that is ignored
other : (g : Over) (c : In-loop-g g) → sector_no c.loop-g.t ≡ sector_no c.next_sector-spare.result → ⊥
other g c = other-sector c.loop-g.t c.next_sector-spare.result (sym c.ne.ensures ∙ c.loop-g-test.true)

pub loop-g-init : goal.loop-g-init
loop-g-init g c =
    let total = views-count c.args.index.now.image.geometry c.args.index.now.image.bytes.now in
    let t = goal.at.loop-g-init g c in
    let apart : sector_no c.args.index.now.sector ≡ sector_no c.next_sector-spare.result → ⊥ = λ same. c.requires.not_spare (same ∙ ignored-is g t.After-next_sector-spare) in
    let start = passing-start {views = views c.args.index.now.image} (spare-inside g t.After-next_sector-spare (newest-inside g t.Start)) (omega (arith, c.args.index.now.inside, total)) apart
    (c.next_sector-t.ensures ∙ ap (λ (n : ℕ). next n (sector_no c.args.index.now.sector)) (sym total)) in
    ([], start, c.requires.within_marked)

pub at-requires : goal.at-requires
at-requires g c = let t = goal.at.at-requires g c in omega (arith, inside g t.At-loop-g (spare-inside g t.After-next_sector-spare (newest-inside g t.Start)), c.args.index.now.image.geometry.sound.sectors_to)

pub renewed_by_sector-renewed-requires : goal.renewed_by_sector-renewed-requires
renewed_by_sector-renewed-requires g c =
    let t = goal.at.renewed_by_sector-renewed-requires g c in
    let bound = inside g t.At-loop-g (spare-inside g t.After-next_sector-spare (newest-inside g t.Start)) in
    let noted = entries-noted c.args.index.now.image.geometry c.args.index.now.image.bytes.now (sector_no c.loop-g.t) bound (counted g t.Start) in
    (omega (arith, c.args.index.now.indexes.most), (c.requires.whole, (bound, c.at.ensures ∙ noted)))

pub next_sector-t-requires-in-loop-g : goal.next_sector-t-requires-in-loop-g
next_sector-t-requires-in-loop-g g c = let t = goal.at.next_sector-t-requires-in-loop-g g c in inside g t.At-loop-g (spare-inside g t.After-next_sector-spare (newest-inside g t.Start))

pub loop-g-smaller : goal.loop-g-smaller
loop-g-smaller g c =
    let t = goal.at.loop-g-smaller g c in
    let spare = spare-inside g t.After-next_sector-spare (newest-inside g t.Start) in
    rw c.next_sector-t-in-loop-g.ensures
    (fewer-left (sectors_of c.args.index.now.image.geometry) (sector_no c.next_sector-spare.result) (sector_no c.loop-g.t) (omega (arith, spare, views-count c.args.index.now.image.geometry c.args.index.now.image.bytes.now)) (inside g t.At-loop-g spare) (other g t.In-loop-g))

pub loop-g-preserved : goal.loop-g-preserved
loop-g-preserved g c =
    let t = goal.at.loop-g-preserved g c in
    let after = c.next_sector-t-in-loop-g.ensures ∙ ap (λ (n : ℕ). next n (sector_no c.loop-g.t)) (sym (views-count c.args.index.now.image.geometry c.args.index.now.image.bytes.now)) in (
      c.loop-g.invariant.0 ++ entries_at c.args.index.now.image c.loop-g.t,
      passing-next (spare-inside g t.After-next_sector-spare (newest-inside g t.Start)) c.loop-g.invariant.1 (other g t.In-loop-g) after,
      c.renewed_by_sector-renewed.ensures c.loop-g.invariant.0 c.loop-g.invariant.2,
    )

pub returns : goal.returns
unfolding renewed_flags_in
returns g c =
    let t = goal.at.returns g c in
    let es : List Entry = entries_of c.args.index.now in
    let all = passing-end (spare-inside g t.After-next_sector-spare (newest-inside g t.Start)) c.loop-g.invariant.1 (same-sector c.loop-g.t c.next_sector-spare.result (sym c.ne.ensures ∙ c.loop-g-test.false)) in
    c.loop-g.invariant.2
    ∙ ap (λ (later : List Entry). padded max_marks (renewed_flags es later))
    (all ∙ ap (λ (u : ℕ). entries_in (newer_than u (sector_no c.args.index.now.sector) (views c.args.index.now.image))) (ignored-is g t.After-next_sector-spare))
