-- `survey::state_with`: each way out is a case of the rules' definition; the spare is a sector of the geometry, being the successor.
-- Assumes nothing.
use mathlib.Core.List.{[], ◌∷◌}
use mathlib.Core.Path.{◌≡◌, sym, ap, ◌∙◌}
use Prim.Native.Nat.{ℕ, ◌<◌}
use native.Mathlib.Omega.{arith}
use lib.ListN.{length}
use Rattle.rules.specs.Notation.{is_empty}
use Rattle.rules.specs.Reading.{View}
use Rattle.rules.specs.Meaning.{view_at, next, state_by}
use Rattle.rules.proofs.Ring.Order.{next-lt}
use Rattle.layout.specs.Geometry.{sectors_of}
use Rattle.layout.specs.Numbers.{sector_no}
use Rattle.layout.proofs.Laws.{same-sector, other-sector}
use Rattle.mask.specs.Flags.{sectors_in}
use Rattle.mask.proofs.Laws.{empty-true, two-or-more}
use Rattle.image.specs.Answer.{views}
use Rattle.image.proofs.Sectors.{views-count, view-shown}
use Rattle.image.proofs.States.{not-next, spare-decides}
use Rattle.image.proofs.survey.state_with.Goals as goal
use Rattle.image.proofs.survey.state_with.Goals.{After-is_unused, Else-ne}

-- the spare is the one unfinished sector, and a sector of the geometry
spare-is : (c : Else-ne) → sectors_in c.args.unfinished ≡ sector_no c.next_sector-spare.result ∷ []
spare-is c =
    c.which.ensures
    ∙ ap (λ (n : ℕ). n ∷ []) (same-sector c.which.result c.next_sector-spare.result (sym c.ne.ensures ∙ c.if-ne.false))

follows : (c : Else-ne) → sector_no c.next_sector-spare.result ≡ next (length (views c.args.image.now)) (sector_no c.args.w)
follows c =
    c.next_sector-spare.ensures ∙ ap (λ (n : ℕ). next n (sector_no c.args.w)) (sym (views-count c.args.image.now.geometry c.args.image.now.bytes.now))

inside : (c : Else-ne) → sector_no c.next_sector-spare.result < sectors_of c.args.image.now.geometry
inside c =
    omega (arith, c.next_sector-spare.ensures, next-lt (sectors_of c.args.image.now.geometry) (sector_no c.args.w) c.requires.w_bound)

-- what is looked at is the spare
looked : (c : After-is_unused) → sector_no c.next_sector-spare.result < sectors_of c.args.image.now.geometry
    → c.is_unused.result ≡ is_empty (view_at (views c.args.image.now) (sector_no c.next_sector-spare.result)).entries
looked c inside =
    let image = c.args.image.now in
    let read = view-shown image.geometry image.bytes.now _ inside c.sector.result c.sector.ensures.geometry c.sector.ensures.blocks in
    c.is_unused.ensures ∙ ap (λ (v : View). is_empty v.entries) (sym read)

pub returns-then-is_empty : goal.returns-then-is_empty
unfolding state_by
returns-then-is_empty c = rw ((empty-true _).0 (sym c.is_empty.ensures ∙ c.if-is_empty.true))

pub returns-then-not-is_one : goal.returns-then-not-is_one
unfolding state_by
returns-then-not-is_one c = let some = sym c.is_empty.ensures ∙ c.if-is_empty.false in
    let not-one = sym c.is_one.ensures ∙ c.if-not-is_one.true in
    rw (two-or-more _ some not-one).3

pub returns-then-ne : goal.returns-then-ne
returns-then-ne c =
    let spare = c.next_sector-spare.ensures ∙ ap (λ (n : ℕ). next n (sector_no c.args.w)) (sym (views-count c.args.image.now.geometry c.args.image.now.bytes.now)) in
    not-next (views c.args.image.now) (sector_no c.args.w) _ c.which.ensures (λ e. other-sector c.which.result c.next_sector-spare.result (sym c.ne.ensures ∙ c.if-ne.true) (e ∙ sym spare))

pub sector-requires : goal.sector-requires
sector-requires c = inside (goal.at.sector-requires c).Else-ne

pub returns : goal.returns
returns c =
    let t = goal.at.returns c in
    c.then_some.ensures ∙ spare-decides (views c.args.image.now) (sector_no c.args.w) _ (spare-is t.Else-ne) (follows t.Else-ne) c.is_unused.result (looked t.After-is_unused (inside t.Else-ne))
