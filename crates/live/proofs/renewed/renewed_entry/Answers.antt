-- `renewed::renewed_entry`: the ID field of the entry's block tells which entry is renewed.
-- Assumes nothing.
use mathlib.Core.Path.{◌≡◌, sym, ap, ◌∙◌}
use Prim.Native.Nat.{ℕ}
use Rattle.rules.specs.Entry.{id_of}
use Rattle.layout.specs.Numbers.{sector_no}
use Rattle.image.specs.EntriesIn.{block_of}
use Rattle.search.specs.Search.{last_named_below}
use Rattle.index.specs.Index.{entries_of}
use Rattle.live.proofs.LiveEntries.{reserved-renews, user-renews}
use Rattle.live.proofs.renewed.renewed_entry.Given.{Over}
use Rattle.live.proofs.renewed.renewed_entry.Goals as goal
use Rattle.live.proofs.renewed.renewed_entry.Goals.{After-id_in}

id-read : (g : Over) (c : After-id_in g) → id_of (block_of c.args.later.now) ≡ c.id_in.result
id-read g c = rw c.block.ensures at (sym c.id_in.ensures)

pub returns-in_err-new : goal.returns-in_err-new
returns-in_err-new g c =
    let e = c.args.later.now in
    let reserved = rw c.in_err-new.was at c.new.ensures in
    c.from_residual.ensures
    ∙ sym (reserved-renews e.image.geometry e.image.bytes.now e.image.backs (sector_no e.sector) e.number e.here.sector_inside e.here.inside c.args.index.now.count _
    (id-read g (goal.at.returns-in_err-new g c).After-id_in ∙ reserved))

pub returns : goal.returns
returns g c =
    let e = c.args.later.now in
    let x = c.args.index.now in
    let same = rw c.in_ok-new.was at c.new.ensures ∙ sym (id-read g (goal.at.returns g c).After-id_in) in
    c.find.ensures
    ∙ ap (λ (id : ℕ). last_named_below id x.count (entries_of x)) same
    ∙ sym (user-renews e.image.geometry e.image.bytes.now e.image.backs (sector_no e.sector) e.number e.here.sector_inside e.here.inside x.count (entries_of x)
    (λ reserved. c.in_ok-new.field-0.legal (same ∙ reserved)))
