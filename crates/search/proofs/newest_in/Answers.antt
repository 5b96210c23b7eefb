-- `search::newest_in`: the invariant is that the entries above n do not name the ID; one turn is one step of the definition.
-- Assumes nothing.
use mathlib.Core.Path.{◌≡◌, sym, ap, ◌∙◌}
use Prim.Native.Nat.{ℕ, suc, ◌-◌, ◌<◌}
use native.Mathlib.Omega.{arith}
use lib.Dec.{eqb}
use lib.ListN.{length, get_or}
use borrow.Author.Tests.{eq-eqb, ne_eqb}
use Rattle.rules.specs.Meaning.{is_named}
use Rattle.layout.specs.Numbers.{block_no}
use Rattle.entry.specs.Answer.{id_no}
use Rattle.sector.specs.Answer.{view_in}
use Rattle.image.specs.Answer.{no_entry}
use Rattle.search.proofs.Seeking.{last-here, last-below, last-of-none, last-of-all, entries-few, named_by}
use Rattle.search.proofs.newest_in.Goals as goal
use Rattle.search.proofs.newest_in.Goals.{After-number, In-loop-n}

-- in a turn entry n - 1 is one of the sector's
inside : (c : In-loop-n) → c.loop-n.n - 1 < length (view_in c.args.sector.now).entries
inside c = omega (arith, c.loop-n-test.true, c.loop-n.auto.n, c.requires.counted)

-- it names the ID where the test says so
named : (c : After-number) → c.loop-n.n - 1 < length (view_in c.args.sector.now).entries
    → is_named (id_no c.args.id) (get_or (view_in c.args.sector.now).entries (c.loop-n.n - 1) no_entry).head ≡ eqb c.id_in.result c.number.result
named c inside =
    let block = rw (ap block_no c.new.ensures, c.blocks-first.ensures) at c.block.ensures in
    named_by c.args.sector.now (id_no c.args.id) _ c.args.id.legal inside block
    ∙ ap (λ (i : ℕ). eqb i (id_no c.args.id)) (sym c.id_in.ensures)
    ∙ ap (eqb c.id_in.result) (sym c.number.ensures)

-- n is one more than n - 1
above : (c : In-loop-n) → c.loop-n.n ≡ suc (c.loop-n.n - 1)
above c = omega (arith, c.loop-n-test.true)

pub loop-n-init : goal.loop-n-init
loop-n-init c = rw c.requires.counted (last-of-all _ _)

pub overflow_sub-first-in-loop-n : goal.overflow_sub-first-in-loop-n
overflow_sub-first-in-loop-n c =
    omega (arith, c.blocks-first.ensures, inside (goal.at.overflow_sub-first-in-loop-n c).In-loop-n, entries-few c.args.sector.now)

pub returns-then-id_in-number : goal.returns-then-id_in-number
returns-then-id_in-number c =
    let t = goal.at.returns-then-id_in-number c in
    let here = named t.After-number (inside t.In-loop-n) ∙ eq-eqb _ _ c.if-id_in-number.true in
    sym (last-here _ _ _ (above t.In-loop-n) here) ∙ c.loop-n.invariant

pub loop-n-preserved : goal.loop-n-preserved
loop-n-preserved c =
    let t = goal.at.loop-n-preserved c in
    let other = named t.After-number (inside t.In-loop-n) ∙ ne_eqb _ _ c.if-id_in-number.false in
    sym (last-below _ _ _ (above t.In-loop-n) other) ∙ c.loop-n.invariant

pub returns : goal.returns
returns c = let none_left : c.loop-n.n ≡ 0 = omega (arith, c.loop-n-test.false) in
    sym (last-of-none _ _ none_left) ∙ c.loop-n.invariant
