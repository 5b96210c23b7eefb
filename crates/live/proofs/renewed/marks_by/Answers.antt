-- `renewed::marks_by`: the entries of the sector itself, and then those of the newer ones.
-- Assumes nothing.
use mathlib.Core.Path.{◌≡◌, sym, ap, ◌∙◌}
use native.Mathlib.Omega.{arith}
use lib.ListN.{length}
use Rattle.layout.specs.Numbers.{sector_no}
use Rattle.index.specs.Tables.{entries_at}
use Rattle.image.proofs.Laws.{entries-counted}
use Rattle.live.proofs.Counting.{entries-noted}
use Rattle.live.proofs.renewed.marks_by.Given.{Over}
use Rattle.live.proofs.renewed.marks_by.Goals as goal
use Rattle.live.proofs.renewed.marks_by.Goals.{After-at}

-- the entries that were counted are those of the sector
counted : (g : Over) (c : After-at g) → c.at.result ≡ length (entries_at c.args.counted.now.image c.args.s)
counted g c =
    let image = c.args.counted.now.image in
    c.at.ensures ∙ entries-noted image.geometry image.bytes.now (sector_no c.args.s) c.requires.s_bound c.args.counted.now.counted

pub new-index-requires : goal.new-index-requires
new-index-requires g c =
    let image = c.args.counted.now.image in
    let few = (entries-counted image.geometry image.bytes.now (sector_no c.args.s) c.requires.s_bound).few in (
      omega (arith, c.requires.most),
      (c.requires.s_bound, (omega (arith, image.geometry.sound.blocks_from, c.requires.room), (c.requires.most, omega (arith, few, c.requires.room)))),
    )

pub renewed_within-within-requires : goal.renewed_within-within-requires
renewed_within-within-requires g c =
    let all = counted g (goal.at.renewed_within-within-requires g c).After-at in
    (omega (arith, c.requires.most), (c.new-index.ensures.empty, rw (c.new-index.ensures.image, c.new-index.ensures.sector) all))

pub renewed_by_newer-requires : goal.renewed_by_newer-requires
renewed_by_newer-requires g c =
    let all = counted g (goal.at.renewed_by_newer-requires g c).After-at in
    let within = c.renewed_within-within.ensures in
    let made = c.new-index.ensures in (
      omega (arith, c.requires.most),
      (
        within.image ∙ made.image,
        (
          within.all ∙ rw (within.image, within.sector, made.image, made.sector) all,
          (λ same. c.requires.not_spare (sym (ap sector_no (within.sector ∙ made.sector)) ∙ same), rw (within.image, within.sector) within.marked),
        ),
      ),
    )
