-- What an append leaves: made whole, the sector shows one entry more, and comes to what is told of it; cut, nothing shows.
-- Assumes nothing.
use mathlib.Core.Path.{◌≡◌, refl, sym, ap, ◌∙◌}
use mathlib.Core.Bool.{true}
use mathlib.Core.List.{List, [], ◌∷◌, ◌++◌}
use Prim.Native.Nat.{ℕ, ◌+◌, ◌<◌}
use native.Mathlib.Omega.{arith}
use lib.ListN.{length, length-append}
use Rattle.std.specs.Prelude.{Ok, Err}
use Rattle.rules.specs.Notation.{Each}
use Rattle.rules.specs.Look.{start, is_within}
use Rattle.rules.specs.Reading.{Entry, View}
use Rattle.rules.specs.Meaning.{view_at}
use Rattle.rules.specs.Stores.{append}
use Rattle.rules.proofs.Terms.{IsProper, IsAtomic, added_view, changed}
use Rattle.rules.proofs.Blocks.Reading.{after-snoc}
use Rattle.rules.proofs.Blocks.Append.{append-atomic}
use Rattle.rules.proofs.Blocks.OnBytes.{Lies, inside-lie}
use Rattle.rules.proofs.Ring.History.{changed-here, changed-other}
use Rattle.layout.specs.Numbers.{sector_at}
use Rattle.layout.specs.Sizes.{Sound}
use Rattle.layout.specs.Geometry.{blocks_of, sectors_of}
use Rattle.entry.specs.Answer.{scan_of, scan_as}
use Rattle.image.specs.declared.active.Active.{Active}
use Rattle.image.specs.Answer.{active_as}
use Rattle.image.proofs.Sectors.{views-count}
use Rattle.budget.specs.declared.Cut.{Cut}
use Rattle.budget.specs.declared.Writer.{Writer}
use Rattle.budget.specs.Budget.{held, shown, Did}
use Rattle.append.specs.Append.{with_entry}
use Rattle.budget.proofs.Laws.{did-above, did-image, did-whole, did-shown, whole_image}

-- one entry more, by what is carried
pub with-entry : (s : ℕ) (e : Entry) (v : View) → with_entry (active_as s v) e.head ≡ active_as s (added_view e v)
with-entry s e v =
    let count : length v.entries + 1 ≡ length (v.entries ++ (e ∷ [])) = sym (length-append v.entries (e ∷ [])) in
    let scan = sym (after-snoc start v.entries e) in
    λ i. record { sector = sector_at s; cycle = v.cycle; entries = count i; scan = scan_as (scan i) }

module _ (w : Writer) {s : ℕ} {active : Active} {e : Entry} (inside : s < sectors_of w.geometry)
    (known : active ≡ active_as s (view_at (shown w) s)) (proper : IsProper e)
    (within : is_within (blocks_of w.geometry) (scan_of active.scan) e.head ≡ true) where
  atomic : IsAtomic (blocks_of w.geometry) (sectors_of w.geometry) (append (blocks_of w.geometry) s e) (held w) (changed (added_view e) s (shown w))
  atomic =
      let k : Sound (blocks_of w.geometry) (sectors_of w.geometry) = w.geometry.sound in
      append-atomic k.blocks_from k.blocks_to (whole_image w) inside proper
      (rw known at within)

  -- its stores lie within the image
  pub append-lies : Each (Lies (blocks_of w.geometry) (sectors_of w.geometry)) (append (blocks_of w.geometry) s e (held w))
  append-lies = inside-lie atomic.inside

  -- made whole
  module _ {T : Type 0} {w' : Writer} {x : T} (did : Did w (append (blocks_of w.geometry) s e (held w)) w' (Ok x)) where
    pub appended-views : shown w' ≡ changed (added_view e) s (shown w)
    appended-views = did-shown did (did-whole did append-lies refl) ∙ atomic.whole

    -- and so what is carried of it, and every other sector
    pub appended-active : with_entry active e.head ≡ active_as s (view_at (shown w') s)
    appended-active =
        let views : List View = shown w in
        ap (λ (x : Active). with_entry x e.head) known
        ∙ with-entry s e (view_at views s)
        ∙ ap (active_as s) (sym (changed-here (added_view e) s views (omega (arith, views-count w.geometry w.image.now))) ∙ ap (λ (vs : List View). view_at vs s) (sym appended-views))

    pub appended-others : (t : ℕ) → (t ≡ s → ⊥) → view_at (shown w') t ≡ view_at (shown w) t
    appended-others t other =
        ap (λ (vs : List View). view_at vs t) appended-views ∙ changed-other (added_view e) s (shown w) t other

  -- cut
  pub cut-views : {T : Type 0} {w' : Writer} {c : Cut} → Did {T = T} w (append (blocks_of w.geometry) s e (held w)) w' (Err c) → shown w' ≡ shown w
  cut-views did = did-shown did (did-image did append-lies) ∙ atomic.cut _ (did-above did refl)
