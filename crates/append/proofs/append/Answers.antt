-- `append`: the data first, which ends below the block under the entry; then the entry, whose bytes are those that are due.
-- Assumes nothing.
use mathlib.Core.Path.{sym, subst}
use mathlib.Core.List.{List}
use Prim.Native.Nat.{◌+◌, ◌≤◌}
use native.Mathlib.Omega.{arith}
use lib.ListN.{length}
use Rattle.rules.specs.Notation.{Each}
use Rattle.rules.specs.Ground.{Block}
use Rattle.rules.specs.Look.{data_blocks}
use Rattle.rules.specs.Reading.{Entry}
use Rattle.rules.specs.Stores.{data_stores}
use Rattle.rules.proofs.Blocks.OnBytes.{Lies}
use Rattle.rules.proofs.Blocks.Data.{value-count, value-sized, data-lie}
use Rattle.layout.specs.declared.Geometry.{Geometry}
use Rattle.layout.specs.Numbers.{sector_no}
use Rattle.layout.specs.Geometry.{blocks_of, sectors_of}
use Rattle.append.specs.Append.{entry_of, Fits}
use Rattle.append.proofs.Appending.{append-did, append-cut, room, fits, data-of, entry-data, entry-head}
use Rattle.append.proofs.append.Goals as goal
use Rattle.append.proofs.append.Goals.{Start}

-- the entry that is due
abbrev due : Start → Entry
due k = entry_of k.args.entry.now

-- it fits, and its data lies within the sector
fitting : (k : Start) → Fits (blocks_of k.args.writer.now.geometry) k.args.active k.args.entry.now.head
fitting k =
    fits k.args.writer.now (sector_no k.args.active.sector) k.requires.carries.inside k.requires.carries.told
    k.args.entry.now.head k.requires.fits

inside : (k : Start) → k.args.active.scan.data_end + data_blocks (length k.args.entry.now.value.now) ≤ blocks_of k.args.writer.now.geometry
inside k =
    let ends = room k.args.writer.now (sector_no k.args.active.sector) k.requires.carries.inside k.requires.carries.told
    k.args.entry.now.head k.requires.fits in
    omega (arith, ends, data-of k.args.entry.now)

pub put_data-requires-clause-room : goal.put_data-requires-clause-room
put_data-requires-clause-room c = inside (goal.at.put_data-requires-clause-room c).Start

pub returns-in_err-put_data-clause-did : goal.returns-in_err-put_data-clause-did
returns-in_err-put_data-clause-did c =
    append-cut c.args.writer.now (sector_no c.args.active.sector) c.requires.carries.inside c.requires.carries.told
    (due (goal.at.returns-in_err-put_data-clause-did c).Start) (rw (entry-data c.args.entry.now) at c.in_err-put_data.ensures) c.from_residual.ensures.0

pub put_entry-requires-clause-fits : goal.put_entry-requires-clause-fits
put_entry-requires-clause-fits c =
    subst (λ (g : Geometry). Fits (blocks_of g) c.args.active c.args.entry.now.head) (sym c.in_ok-put_data.ensures.geometry) (fitting (goal.at.put_entry-requires-clause-fits c).Start)

pub returns-clause-did : goal.returns-clause-did
returns-clause-did c =
    let v = c.args.entry.now.value.now in
    let lie =
    subst (λ (bs : List Block). Each (Lies (blocks_of c.args.writer.now.geometry) (sectors_of c.args.writer.now.geometry)) (data_stores (sector_no c.args.active.sector) c.args.active.scan.data_end bs)) (entry-data c.args.entry.now)
    (data-lie (blocks_of c.args.writer.now.geometry) (sectors_of c.args.writer.now.geometry) (sector_no c.args.active.sector) c.args.active.scan.data_end c.requires.carries.inside
    (rw (value-count 0 v) (inside (goal.at.returns-clause-did c).Start)) (value-sized 0 v)) in
    append-did c.args.writer.now (sector_no c.args.active.sector) c.requires.carries.inside c.requires.carries.told
    (due (goal.at.returns-clause-did c).Start) (rw (entry-data c.args.entry.now) at c.in_ok-put_data.ensures) lie c.entry_bytes-bytes.ensures
    (rw (sym (entry-head c.args.entry.now)) at c.put_entry.ensures.did)
