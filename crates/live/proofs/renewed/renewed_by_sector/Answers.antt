-- `renewed::renewed_by_sector`: the invariant is that the marks count the first n entries of sector t among the later ones.
-- Assumes nothing.
use mathlib.Core.Path.{sym, ap, ◌∙◌}
use native.Mathlib.Omega.{arith}
use Rattle.layout.specs.Numbers.{sector_no}
use Rattle.mask.specs.Marks.{marks_of}
use Rattle.image.proofs.EntryBlocks.{entries-few}
use Rattle.index.specs.Index.{entries_of}
use Rattle.index.specs.Tables.{entries_at}
use Rattle.live.proofs.RenewedMarks.{renewed-below, mark-found, mark-missed, newer-next}
use Rattle.live.proofs.renewed.renewed_by_sector.Goals as goal
use Rattle.live.proofs.renewed.renewed_by_sector.Goals.{in-Some, in_default}

pub add-renewed-requires : goal.add-renewed-requires
add-renewed-requires g c =
    let x = c.args.index.now in
    let few = entries-few x.image.geometry x.image.bytes.now (sector_no x.sector) x.inside in
    omega (arith, renewed-below _ _ _ (sym c.renewed_entry.ensures ∙ c.in-Some.is), few, c.requires.whole)

pub loop-n-preserved : goal.loop-n-preserved
loop-n-preserved g c = λ later same.
    let told = sym c.renewed_entry.ensures in
    newer-next (entries_of c.args.index.now) c.requires.whole later (entries_at c.args.index.now.image c.args.t) c.loop-n.n
    (omega (arith, c.loop-n-test.true, c.requires.t_counted)) (c.loop-n.invariant later same)
    (elim c.match-renewed_entry.branch [
      | in-Some w ↦ ap marks_of w.renewed-is ∙ w.add-renewed.ensures ∙ mark-found _ (told ∙ w.in-Some.is)
      | in_default w ↦ ap marks_of w.renewed-is ∙ mark-missed _ (told ∙ w.in_default.is)
    ])
