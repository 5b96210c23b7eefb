-- `turn`: the close, and then the rest of the turn.
-- Assumes nothing.
use mathlib.Core.Path.{◌≡◌, sym, ap, ◌∙◌}
use Prim.Native.Nat.{ℕ}
use native.Mathlib.Omega.{arith}
use lib.ListN.{length}
use Rattle.rules.specs.Reading.{View}
use Rattle.rules.specs.Meaning.{view_at, next}
use Rattle.rules.specs.Stores.{close_sector, finish_turn, turn}
use Rattle.rules.proofs.Terms.{IsAtomic, closed_view, changed}
use Rattle.rules.proofs.Basics.Places.{here-or}
use Rattle.rules.proofs.Blocks.Reopen.{close-atomic}
use Rattle.rules.proofs.Ring.Order.{next-lt, next-ne}
use Rattle.layout.specs.declared.Geometry.{Geometry}
use Rattle.layout.specs.Numbers.{sector_no}
use Rattle.layout.specs.Geometry.{blocks_of, sectors_of}
use Rattle.image.specs.declared.active.Active.{Active}
use Rattle.image.specs.Answer.{active_as}
use Rattle.image.proofs.Laws.{carries-at}
use Rattle.image.proofs.Sectors.{views-count}
use Rattle.budget.specs.declared.Writer.{Writer}
use Rattle.budget.specs.Budget.{held, shown}
use Rattle.budget.proofs.Laws.{whole_image}
use Rattle.turn.proofs.Stepping.{atomic-lies, step-here, step-others, turned_then, turned-cut}
use Rattle.turn.proofs.turn.Goals as goal
use Rattle.turn.proofs.turn.Goals.{In_ok-close}

module _ (d : In_ok-close) where
  -- the spare, and the image once w is closed
  abbrev spare : ℕ
  spare = next (sectors_of d.args.writer.now.geometry) (sector_no d.args.w)

  abbrev left : Writer
  left = d.close.new.writer

  -- the close shows at once
  closing : IsAtomic (blocks_of d.args.writer.now.geometry) (sectors_of d.args.writer.now.geometry) (close_sector (blocks_of d.args.writer.now.geometry) (sector_no d.args.w)) (held d.args.writer.now)
      (changed closed_view (sector_no d.args.w) (shown d.args.writer.now))
  closing = close-atomic d.args.writer.now.geometry.sound.blocks_from (whole_image d.args.writer.now) d.requires.w_bound

  -- the spare stays as it was
  spare-stays : view_at (shown left) spare ≡ view_at (shown d.args.writer.now) spare
  spare-stays =
      step-others d.args.writer.now closed_view (sector_no d.args.w) closing d.in_ok-close.ensures _
      (next-ne (sectors_of d.args.writer.now.geometry) (sector_no d.args.w) d.args.writer.now.geometry.sound.sectors_from)

  -- and so do the entries of every sector
  entries-stay : (t : ℕ) → (view_at (shown left) t).entries ≡ (view_at (shown d.args.writer.now) t).entries
  entries-stay t =
      here-or (λ (x : ℕ). (view_at (shown left) x).entries ≡ (view_at (shown d.args.writer.now) x).entries) (sector_no d.args.w) t
      (ap (λ (v : View). v.entries) (step-here d.args.writer.now closed_view (sector_no d.args.w) closing d.in_ok-close.ensures d.requires.w_bound))
      (λ other. ap (λ (v : View). v.entries) (step-others d.args.writer.now closed_view (sector_no d.args.w) closing d.in_ok-close.ensures t other))

  -- what is carried of the spare
  spare-told : d.unused-spare.result ≡ active_as spare (view_at (shown left) spare)
  spare-told =
      rw (d.image.ensures.geometry, d.image.ensures.bytes) at d.unused-spare.ensures
      ∙ ap (λ (s : ℕ). active_as s (view_at (shown d.args.writer.now) s)) d.next_sector.ensures
      ∙ ap (active_as spare) (sym spare-stays)

  spare-is : sector_no d.unused-spare.result.sector ≡ spare
  spare-is = ap (λ (x : Active). sector_no x.sector) spare-told

pub unused-spare-requires-clause-s_bound : goal.unused-spare-requires-clause-s_bound
unused-spare-requires-clause-s_bound c =
    omega (arith, ap sectors_of c.image.ensures.geometry, c.next_sector.ensures, next-lt (sectors_of c.args.writer.now.geometry) (sector_no c.args.w) c.requires.w_bound)

pub returns-in_err-close : goal.returns-in_err-close
unfolding turn
returns-in_err-close c =
    let w : Writer = c.args.writer.now in
    let s : ℕ = sector_no c.args.w in
    turned-cut (close_sector (blocks_of w.geometry) s) (finish_turn (blocks_of w.geometry) (sectors_of w.geometry) (next (sectors_of w.geometry) s))
    (held w) c.in_err-close.ensures c.from_residual.ensures.0

-- the entries are counted as before
pub finish_turn-requires-clause-counts : goal.finish_turn-requires-clause-counts
finish_turn-requires-clause-counts c =
    let w : Writer = c.args.writer.now in
    let left : Writer = c.close.new.writer in
    record {
      each = λ t h.
          c.requires.counts.each t
          (omega (arith, ap sectors_of c.in_ok-close.ensures.geometry, views-count left.geometry left.image.now, views-count w.geometry w.image.now))
          ∙ ap length (sym (entries-stay (goal.at.finish_turn-requires-clause-counts c).In_ok-close t));
    }

pub finish_turn-requires-clause-carries : goal.finish_turn-requires-clause-carries
finish_turn-requires-clause-carries c =
    let k = (goal.at.finish_turn-requires-clause-carries c).In_ok-close in
    let S : ℕ = sectors_of c.args.writer.now.geometry in
    carries-at _ _ (next S (sector_no c.args.w)) (omega (arith, ap sectors_of c.in_ok-close.ensures.geometry, next-lt S (sector_no c.args.w) c.requires.w_bound)) (spare-told k)

pub finish_turn-requires-clause-empty : goal.finish_turn-requires-clause-empty
finish_turn-requires-clause-empty c =
    let k = (goal.at.finish_turn-requires-clause-empty c).In_ok-close in
    ap (λ (s : ℕ). (view_at (shown c.close.new.writer) s).entries) (spare-is k)
    ∙ entries-stay k (next (sectors_of c.args.writer.now.geometry) (sector_no c.args.w))
    ∙ c.requires.spare_empty

pub returns : goal.returns
unfolding turn
returns c =
    let w : Writer = c.args.writer.now in
    let k = (goal.at.returns c).In_ok-close in
    let S : ℕ = sectors_of w.geometry in
    turned_then (close_sector (blocks_of w.geometry) (sector_no c.args.w)) (λ (g : Geometry). finish_turn (blocks_of g) (sectors_of g) (next S (sector_no c.args.w)))
    (atomic-lies w (closing k)) c.in_ok-close.ensures
    (λ t other. entries-stay k t)
    (rw (spare-is k) at c.finish_turn.ensures)
