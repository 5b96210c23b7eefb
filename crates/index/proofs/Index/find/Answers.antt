-- `Index::find`: the invariant is that only the entries up to the linked one can name the ID; a turn goes to the next of the bucket.
-- Assumes nothing.
use mathlib.Core.Path.{◌≡◌, sym, ap, ◌∙◌}
use Prim.Native.Nat.{ℕ, suc, ◌<◌}
use native.Mathlib.Omega.{arith}
use lib.Dec.{eqb}
use lib.ListN.{length, get_or}
use borrow.Author.Tests.{eq-eqb, ne_eqb}
use Rattle.rules.specs.Entry.{id_of}
use Rattle.rules.specs.Meaning.{is_named}
use Rattle.rules.proofs.Ring.Newest.{named-id}
use Rattle.layout.specs.Numbers.{sector_no}
use Rattle.entry.specs.Answer.{id_no}
use Rattle.image.specs.Answer.{no_entry}
use Rattle.image.proofs.EntryBlocks.{entry-lies}
use Rattle.search.proofs.Seeking.{last-here, last-of-none}
use Rattle.index.specs.Buckets.{link_to}
use Rattle.index.specs.Index.{entries_of}
use Rattle.index.proofs.Indexing.{bucket-low, Narrowed, narrowed, narrowed-older, narrowed-next}
use Rattle.index.proofs.Index.find.Given.{Over}
use Rattle.index.proofs.Index.find.Goals as goal
use Rattle.index.proofs.Index.find.Goals.{After-number-in-Some, After-linked-link-in-Some, In-Some}

-- what is linked is an entry of the sector, with a link of its own
above : (g : Over) (c : In-Some g) → link_to c.loop-link.link ≡ suc c.in-Some.number
unfolding link_to
above g c = ap link_to c.in-Some.is

counted : (g : Over) (c : In-Some g) → c.in-Some.number < c.args.self.now.count
counted g c = omega (arith, above g c, c.loop-link.invariant.few)

here : (g : Over) (c : In-Some g) → c.in-Some.number < length (entries_of c.args.self.now)
here g c = omega (arith, counted g c, c.args.self.now.indexes.few)

-- it names the ID where the test says so
named : (g : Over) (c : After-number-in-Some g) → c.in-Some.number < length (entries_of c.args.self.now)
    → is_named (id_no c.args.id) (get_or (entries_of c.args.self.now) c.in-Some.number no_entry).head ≡ eqb c.id_in.result c.number-in-Some.result
named g c here =
    let x = c.args.self.now in
    let lies = entry-lies x.image.geometry x.image.bytes.now x.image.backs (sector_no x.sector) c.in-Some.number x.inside here in
    named-id (id_no c.args.id) c.args.id.legal _
    ∙ ap (λ (i : ℕ). eqb i (id_no c.args.id)) (sym (c.id_in.ensures ∙ ap id_of c.block.ensures ∙ lies.id))
    ∙ ap (eqb c.id_in.result) (sym c.number-in-Some.ensures)

-- and its link leads to the next older one of the bucket
older : (g : Over) (c : After-linked-link-in-Some g) → link_to c.loop-link.link ≡ suc c.in-Some.number → c.in-Some.number < c.args.self.now.count
    → Narrowed g.row.N (id_no c.args.id) (entries_of c.args.self.now) c.in-Some.number (link_to c.linked-link-in-Some.result)
older g c above counted =
    narrowed-older g.row.N (id_no c.args.id) c.args.id.legal _ c.loop-link.invariant above (c.linked-link-in-Some.ensures ∙ c.args.self.now.indexes.older _ counted)

pub loop-link-init : goal.loop-link-init
loop-link-init g c =
    let newest = c.linked-link.ensures ∙ rw (c.bucket.ensures.bucket, c.number.ensures) (c.args.self.now.indexes.newest _ (bucket-low g.row.N (id_no c.args.id) c.args.self.now.indexes.some)) in
    rw newest (narrowed g.row.N (id_no c.args.id) c.args.id.legal _ c.args.self.now.count)

pub invariant_of-entry : goal.invariant_of-entry
invariant_of-entry g c =
    record { here = record { sector_inside = c.args.self.now.inside; inside = here g (goal.at.invariant_of-entry g c).In-Some } }

pub returns-then-id_in-number : goal.returns-then-id_in-number
returns-then-id_in-number g c =
    let t = goal.at.returns-then-id_in-number g c in
    let names = named g t.After-number-in-Some (here g t.In-Some) ∙ eq-eqb _ _ c.if-id_in-number.true in
    sym (c.loop-link.invariant.rest ∙ last-here _ _ _ (above g t.In-Some) names)

pub loop-link-smaller : goal.loop-link-smaller
loop-link-smaller g c =
    let t = goal.at.loop-link-smaller g c in
    omega (arith, above g t.In-Some, (older g t.After-linked-link-in-Some (above g t.In-Some) (counted g t.In-Some)).few)

pub loop-link-preserved : goal.loop-link-preserved
loop-link-preserved g c =
    let t = goal.at.loop-link-preserved g c in
    let other = named g t.After-number-in-Some (here g t.In-Some) ∙ ne_eqb _ _ c.if-id_in-number.false in
    narrowed-next g.row.N (id_no c.args.id) c.args.id.legal _ c.loop-link.invariant (above g t.In-Some) other
    (older g t.After-linked-link-in-Some (above g t.In-Some) (counted g t.In-Some))

pub returns : goal.returns
unfolding link_to
returns g c = sym (c.loop-link.invariant.rest ∙ last-of-none _ _ (ap link_to c.in_default.is))
