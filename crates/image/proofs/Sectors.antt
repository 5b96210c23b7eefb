-- One sector of an image: its view by its bytes, and its class by its view.
-- Assumes nothing.
use mathlib.Core.Path.{◌≡◌, sym, ap, ◌∙◌}
use mathlib.Core.Bool.{Bool, true, false, not, ◌&&◌}
use mathlib.Core.List.{List, []}
use Prim.Native.Nat.{ℕ, ◌<◌}
use native.Mathlib.Omega.{arith}
use lib.ListN.{length, get_or}
use Rattle.std.specs.Prelude.{Some, None}
use Rattle.std.proofs.lemmas.Option.{none-some, same_Some}
use Rattle.rules.specs.Ground.{sector_of, image_of}
use Rattle.rules.specs.Look.{start}
use Rattle.rules.specs.Reading.{Entry, View, view_of, entries_of, after_all}
use Rattle.rules.specs.Meaning.{view_at, is_working, is_unfinished, has_done}
use Rattle.rules.proofs.Basics.Notation.{by-test}
use Rattle.rules.proofs.Format.Ground.{sector_bytes, sector-of-image}
use Rattle.rules.proofs.Blocks.Formatted.{length-image}
use Rattle.rules.proofs.Blocks.OnImage.{views-length, view-at}
use Rattle.layout.specs.declared.Geometry.{Geometry}
use Rattle.layout.specs.declared.image.SectorBytes.{SectorBytes}
use Rattle.layout.specs.Geometry.{blocks_of, sectors_of}
use Rattle.layout.specs.Image.{blocks_in}
use Rattle.entry.specs.Answer.{scan_as}
use Rattle.sector.specs.declared.Entries.{Entries}
use Rattle.sector.specs.declared.Class.{Class}
use Rattle.sector.specs.Answer.{view_in, entries_as, class_as}
use Rattle.sector.proofs.Classes.{no-class, class-closed, class-working, class-unfinished}
use Rattle.image.specs.Answer.{views_in, is_working_class, is_unfinished_class}

-- ---- the view by the bytes

pub views-count : (g : Geometry) (bytes : List ℕ) → length (views_in g bytes) ≡ sectors_of g
views-count g bytes = views-length (blocks_of g) (image_of (blocks_of g) (sectors_of g) bytes) ∙ length-image (blocks_of g) (sectors_of g) bytes

pub view-read : (g : Geometry) (bytes : List ℕ) (s : ℕ) → s < sectors_of g
    → view_at (views_in g bytes) s ≡ view_of (blocks_of g) (sector_of (blocks_of g) (sector_bytes (blocks_of g) bytes s))
view-read g bytes s inside =
    let B : ℕ = blocks_of g in
    view-at B (image_of B (sectors_of g) bytes) s (omega (arith, length-image B (sectors_of g) bytes))
    ∙ ap (view_of B) (sector-of-image B (sectors_of g) bytes s inside)

-- the cycle by the blocks
pub cycle-at : (g : Geometry) (bytes : List ℕ) (s : ℕ) → s < sectors_of g
    → (view_at (views_in g bytes) s).cycle ≡ (view_of (blocks_of g) (get_or (image_of (blocks_of g) (sectors_of g) bytes) s [])).cycle
cycle-at g bytes s inside =
    ap (λ (v : View). v.cycle)
    (view-at (blocks_of g) (image_of (blocks_of g) (sectors_of g) bytes) s (omega (arith, length-image (blocks_of g) (sectors_of g) bytes)))

-- ---- a sector that is lent

module _ (g : Geometry) (bytes : List ℕ) (s : ℕ) (inside : s < sectors_of g) (sector : SectorBytes)
    (sizes : sector.geometry ≡ g) (read : blocks_in sector ≡ get_or (image_of (blocks_of g) (sectors_of g) bytes) s []) where
  -- it shows what the image shows there
  pub view-shown : view_at (views_in g bytes) s ≡ view_in sector
  view-shown =
      view-at (blocks_of g) (image_of (blocks_of g) (sectors_of g) bytes) s (omega (arith, length-image (blocks_of g) (sectors_of g) bytes))
      ∙ ap (view_of (blocks_of g)) (sym read)
      ∙ ap (λ (h : Geometry). view_of (blocks_of h) (blocks_in sector)) (sym sizes)

  -- what was read of it under the cycle of its lead: its entries, counted and summed up
  module _ {cycle : ℕ} {r : Entries} (same : cycle ≡ (view_of (blocks_of g) (get_or (image_of (blocks_of g) (sectors_of g) bytes) s [])).cycle)
      (taken : r ≡ entries_as (blocks_of sector.geometry) cycle (blocks_in sector)) where
    shown : (view_at (views_in g bytes) s).entries ≡ entries_of (blocks_of sector.geometry) cycle (blocks_in sector)
    unfolding view_of
    shown =
        let under : cycle ≡ (view_in sector).cycle = same ∙ sym (cycle-at g bytes s inside) ∙ ap (λ (v : View). v.cycle) view-shown in
        ap (λ (v : View). v.entries) view-shown
        ∙ ap (λ (n : ℕ). entries_of (blocks_of sector.geometry) n (blocks_in sector)) (sym under)

    pub read_count : r.count ≡ length (view_at (views_in g bytes) s).entries
    read_count = ap (λ (x : Entries). x.count) taken ∙ ap length (sym shown)

    pub read-scan : r.scan ≡ scan_as (after_all start (view_at (views_in g bytes) s).entries)
    read-scan = ap (λ (x : Entries). x.scan) taken ∙ ap (λ (es : List Entry). scan_as (after_all start es)) (sym shown)

-- ---- the class by the view

-- without a right lead it is told none
pub told_none : (view : View) → class_as view ≡ None → view.led ≡ false
told_none view e =
    by-test view.led
    (λ led.
    by-test view.closed
    (λ closed. absurd (none-some _ (sym e ∙ class-closed view led closed)))
    (λ unclosed.
    by-test (has_done view)
    (λ done. absurd (none-some _ (sym e ∙ class-working view led unclosed done)))
    (λ undone. absurd (none-some _ (sym e ∙ class-unfinished view led unclosed undone)))))
    (λ wrong. wrong)

module _ (view : View) {class : Class} (told : class_as view ≡ Some class) where
  pub told-led : view.led ≡ true
  told-led = by-test view.led (λ led. led) (λ wrong. absurd (none-some class (sym (no-class view wrong) ∙ told)))

  is : {other : Class} → class_as view ≡ Some other → class ≡ other
  is {other} e = same_Some class other (sym told ∙ e)

  pub working-by : is_working_class class ≡ is_working view
  unfolding is_working
  working-by =
      by-test view.closed
      (λ closed. ap is_working_class (is (class-closed view told-led closed)) ∙ sym (ap (λ (b : Bool). not b && has_done view) closed))
      (λ unclosed.
      by-test (has_done view)
      (λ done. ap is_working_class (is (class-working view told-led unclosed done)) ∙ sym (ap (λ (b : Bool). not b && has_done view) unclosed ∙ done))
      (λ undone. ap is_working_class (is (class-unfinished view told-led unclosed undone)) ∙ sym (ap (λ (b : Bool). not b && has_done view) unclosed ∙ undone)))

  pub unfinished-by : is_unfinished_class class ≡ is_unfinished view
  unfolding is_unfinished
  unfinished-by =
      by-test view.closed
      (λ closed. ap is_unfinished_class (is (class-closed view told-led closed)) ∙ sym (ap (λ (b : Bool). not b && not (has_done view)) closed))
      (λ unclosed.
      by-test (has_done view)
      (λ done. ap is_unfinished_class (is (class-working view told-led unclosed done)) ∙ sym (ap (λ (b : Bool). not b && not (has_done view)) unclosed ∙ ap not done))
      (λ undone. ap is_unfinished_class (is (class-unfinished view told-led unclosed undone)) ∙ sym (ap (λ (b : Bool). not b && not (has_done view)) unclosed ∙ ap not undone)))
