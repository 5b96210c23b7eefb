-- `search::value_at`: the fields of the entry's block tell the value.
-- Assumes nothing.
use mathlib.Core.Path.{◌≡◌, sym, ap, ap₂, ◌∙◌}
use Prim.Native.Nat.{ℕ, ◌+◌, ◌<◌}
use native.Mathlib.Omega.{arith}
use Rattle.rules.specs.Ground.{place_of}
use Rattle.rules.specs.Entry.{length_of, offset_of, crc32_of}
use Rattle.layout.specs.Geometry.{blocks_of}
use Rattle.layout.specs.Numbers.{sector_no, block_no, place_at}
use Rattle.layout.proofs.Laws.{place-small}
use Rattle.std.specs.Prelude.{Option, Some, None}
use Rattle.image.specs.EntriesIn.{block_of}
use Rattle.search.specs.declared.Found.{Found}
use Rattle.image.proofs.EntryBlocks.{entry-low}
use Rattle.search.proofs.Valued.{found_none, found-small, found-long, offset-small}
use Rattle.search.proofs.value_at.Goals as goal
use Rattle.search.proofs.value_at.Goals.{After-at, After-crc32_in-crc, After-length_in-length, After-offset_in-offset}

-- the fields of the entry's block
told : (c : After-length_in-length) → c.length_in-length.result ≡ length_of (block_of c.args.entry.now)
told c = c.length_in-length.ensures ∙ ap length_of c.block-block.ensures

offset : (c : After-offset_in-offset) → c.offset_in-offset.result ≡ offset_of (block_of c.args.entry.now)
offset c = c.offset_in-offset.ensures ∙ ap offset_of c.block-block.ensures

crc : (c : After-crc32_in-crc) → c.crc32_in-crc.result ≡ crc32_of (block_of c.args.entry.now)
crc c = c.crc32_in-crc.ensures ∙ ap crc32_of c.block-block.ensures

-- the answer
abbrev found : (place length : ℕ) → (check : Option ℕ) → Found
found place length check = record { place = place_at place; length = length; check = check }

-- where the entry stands
below : (c : After-at) → block_no c.at.result < blocks_of c.args.entry.now.image.geometry
below c =
    let e = c.args.entry.now in
    omega (arith, ap block_no c.at.ensures, entry-low e.image.geometry e.image.bytes.now e.image.backs (sector_no e.sector) e.number e.here.sector_inside e.here.inside)

pub returns-then-length-eq0 : goal.returns-then-length-eq0
returns-then-length-eq0 c =
    let e = c.args.entry.now in
    let t = goal.at.returns-then-length-eq0 c in
    sym (found_none e.image.geometry e.image.bytes.now e.image.backs (sector_no e.sector) e.number e.here.sector_inside e.here.inside (sym (told t.After-length_in-length) ∙ c.if-length-eq0.true))

pub plus-requires : goal.plus-requires
plus-requires c =
    let e = c.args.entry.now in
    omega (arith, c.place-place.ensures, place-small e.image.geometry (sector_no e.sector) (block_no c.at.result) e.here.sector_inside (below (goal.at.plus-requires c).After-at))

pub returns-then-length-le-SMALL : goal.returns-then-length-le-SMALL
returns-then-length-le-SMALL c =
    let e = c.args.entry.now in
    let t = told (goal.at.returns-then-length-le-SMALL c).After-length_in-length in
    let place = c.plus.ensures ∙ ap (λ (n : ℕ). n + 8) (c.place-place.ensures ∙ ap (place_of (blocks_of e.image.geometry) (sector_no e.sector)) (ap block_no c.at.ensures)) in
    ap₂ (λ (p len : ℕ). Some (found p len None)) place t
    ∙ sym (found-small e.image.geometry e.image.bytes.now e.image.backs (sector_no e.sector) e.number e.here.sector_inside e.here.inside (omega (arith, t, c.if-length-eq0.false)) (omega (arith, t, c.if-length-le-SMALL.true)))

pub plus-requires-2 : goal.plus-requires-2
plus-requires-2 c =
    let e = c.args.entry.now in
    let t = goal.at.plus-requires-2 c in
    let many : 8 < length_of (block_of e) = omega (arith, told t.After-length_in-length, c.if-length-le-SMALL.false) in
    let first = ap block_no c.new.ensures in
    omega (
      arith,
      c.place.ensures,
      place-small e.image.geometry (sector_no e.sector) (block_no c.new.result) e.here.sector_inside (omega (arith, first, e.image.geometry.sound.blocks_from)),
      offset t.After-offset_in-offset,
      e.image.geometry.sound.blocks_to,
      offset-small e.image.geometry e.image.bytes.now e.image.backs (sector_no e.sector) e.number e.here.sector_inside e.here.inside many,
    )

pub returns : goal.returns
returns c =
    let e = c.args.entry.now in
    let t = goal.at.returns c in
    let B = blocks_of e.image.geometry in
    let many : 8 < length_of (block_of e) = omega (arith, told t.After-length_in-length, c.if-length-le-SMALL.false) in
    let place =
    c.plus-2.ensures
    ∙ ap₂ (λ (n m : ℕ). n + m) (c.place.ensures ∙ ap (place_of B (sector_no e.sector)) (ap block_no c.new.ensures)) (offset t.After-offset_in-offset) in
    ap₂ (λ (p len : ℕ). Some (found p len (Some c.crc32_in-crc.result))) place (told t.After-length_in-length)
    ∙ ap (λ (n : ℕ). Some (found (place_of B (sector_no e.sector) 0 + offset_of (block_of e)) (length_of (block_of e)) (Some n))) (crc t.After-crc32_in-crc)
    ∙ sym (found-long e.image.geometry e.image.bytes.now e.image.backs (sector_no e.sector) e.number e.here.sector_inside e.here.inside many)
