-- Copies of values whose needs fit lie within the image, whatever the other sectors hold.
use mathlib.Core.Path.{◌≡◌, ap, ◌∙◌}
use mathlib.Core.Bool.{true}
use mathlib.Core.List.{List, [], ◌∷◌}
use Prim.Native.Nat.{ℕ, ◌+◌, ◌-◌, ◌≤◌, ◌<◌}
use native.Mathlib.Omega.{arith}
use lib.ListN.{length}
use Rattle.rules.specs.Notation.{Each, empty, each}
use Rattle.rules.specs.Ground.{Image, kept_from_values}
use Rattle.rules.specs.Look.{Scan, start, after, need_of}
use Rattle.rules.specs.Reading.{Entry, View, after_all}
use Rattle.rules.specs.Meaning.{views_of, view_at, is_value, needs_of}
use Rattle.rules.specs.Stores.{nothing, ◌and_then◌, apply, append, append_all}
use Rattle.rules.proofs.Terms.{IsImage, IsProper, IsInside, IsAtomic, added_view, changed}
use Rattle.rules.proofs.Basics.Parts.{each_append}
use Rattle.rules.proofs.Ring.History.{changed-here}
use Rattle.rules.proofs.Blocks.Reading.{after-snoc}
use Rattle.rules.proofs.Blocks.Append.{append-atomic}
use Rattle.rules.proofs.Blocks.OnImage.{apply-image, views-length}
use Rattle.rules.proofs.Crash.Turning.{within-value}

pub copies-inside : (B S u : ℕ) → 8 ≤ B → B ≤ 4096 → u < S → (es : List Entry) (im : Image) → IsImage B S im → Each IsProper es
    → Each (λ (e : Entry). is_value e.head ≡ true) es → (after_all start (view_at (views_of B im) u).entries).needs + needs_of es ≤ B - kept_from_values
    → Each (IsInside B S) (append_all B u es im)
unfolding append_all nothing ◌and_then◌ needs_of after
copies-inside B S u big most here [] im ok proper values fit = empty
copies-inside B S u big most here (e ∷ es) im ok (each p proper) (each v values) fit =
    let views : List View = views_of B im in
    let scan : Scan = after_all start (view_at views u).entries in
    let one : IsAtomic B S (append B u e) im (changed (added_view e) u views) =
    append-atomic big most ok here p (within-value B scan e.head v (omega arith)) in
    let im' : Image = apply (append B u e im) im in
    let count : length views ≡ S = views-length B im ∙ ok.sized in
    let seen : view_at (views_of B im') u ≡ added_view e (view_at views u) =
    ap (λ (vs : List View). view_at vs u) one.whole ∙ changed-here (added_view e) u views (omega (arith, count)) in
    let more : (after_all start (view_at (views_of B im') u).entries).needs ≡ scan.needs + need_of e.head =
    ap (λ (x : View). (after_all start x.entries).needs) seen ∙ ap (λ (x : Scan). x.needs) (after-snoc start (view_at views u).entries e) in
    each_append one.inside (copies-inside B S u big most here es im' (apply-image one.inside ok) proper values (omega (arith, more, fit)))
