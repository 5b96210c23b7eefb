-- `sector::class_of`: the lead is block B-1, the close block B-2; each way out knows what the sector shows.
-- Assumes nothing.
use mathlib.Core.Path.{◌≡◌, sym, ◌∙◌}
use mathlib.Core.List.{[]}
use Prim.Native.Nat.{◌-◌}
use lib.ListN.{get_or}
use Rattle.layout.specs.Geometry.{blocks_of}
use Rattle.layout.specs.Image.{blocks_in}
use Rattle.sector.proofs.Classes.{no-class, class-closed, class-working, class-unfinished, shows-no-lead, shows-lead, shows-close, shows-done}
use Rattle.sector.proofs.class_of.Goals as goal
use Rattle.sector.proofs.class_of.Goals.{After-block, After-block-2}

-- what was read are the lead and the close
lead-there : (c : After-block) → c.block.result.now ≡ get_or (blocks_in c.args.sector.now) (blocks_of c.args.sector.now.geometry - 1) []
lead-there c = rw (c.new.ensures, c.blocks-blocks.ensures) at c.block.ensures

close-there : (c : After-block-2) → c.block-2.result.now ≡ get_or (blocks_in c.args.sector.now) (blocks_of c.args.sector.now.geometry - 2) []
close-there c = rw (c.new-2.ensures, c.blocks-blocks.ensures) at c.block-2.ensures

pub returns-in_default : goal.returns-in_default
returns-in_default c =
    sym (no-class _ (shows-no-lead _ _ (lead-there (goal.at.returns-in_default c).After-block) (sym c.in_default.is ∙ c.lead.ensures)))

pub returns-then-is_close : goal.returns-then-is_close
returns-then-is_close c =
    let lead = lead-there (goal.at.returns-then-is_close c).After-block in
    let led = sym c.in-Some.is ∙ c.lead.ensures in
    sym (class-closed _ (shows-lead _ _ lead led) (shows-close _ _ lead led (close-there (goal.at.returns-then-is_close c).After-block-2) c.if-is_close.ensures))

pub returns-then-has_done : goal.returns-then-has_done
returns-then-has_done c =
    let lead = lead-there (goal.at.returns-then-has_done c).After-block in
    let led = sym c.in-Some.is ∙ c.lead.ensures in
    sym (class-working _ (shows-lead _ _ lead led) (shows-close _ _ lead led (close-there (goal.at.returns-then-has_done c).After-block-2) c.if-is_close.ensures) (shows-done _ _ lead led c.if-has_done.ensures))

pub returns : goal.returns
returns c =
    let lead = lead-there (goal.at.returns c).After-block in
    let led = sym c.in-Some.is ∙ c.lead.ensures in
    sym (class-unfinished _ (shows-lead _ _ lead led) (shows-close _ _ lead led (close-there (goal.at.returns c).After-block-2) c.if-is_close.ensures) (shows-done _ _ lead led c.if-has_done.ensures))
