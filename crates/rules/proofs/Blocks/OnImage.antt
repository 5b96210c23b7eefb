-- From a sector to the image: stores in one sector change what that sector shows, and nothing else.
use mathlib.Core.Path.{◌≡◌, refl, sym, ap, ◌∙◌, subst}
use mathlib.Core.List.{List, [], ◌∷◌, ◌++◌}
use Prim.Native.Nat.{ℕ, zero, suc, ◌+◌, ◌<◌, ◌≤◌}
use native.Mathlib.Nat.{le_of_suc-le-suc, not-suc-le-zero}
use native.Mathlib.Omega.{arith}
use lib.ListN.{length, get_or, take, set, length-map, length-set, length-append}
use lib.Seq.{set-get_or, set-set, get_or-set_same, get_or-set_other, take-append-le}
use Rattle.rules.specs.Notation.{Each, empty, each}
use Rattle.rules.specs.Ground.{Block, Sector, Image, store}
use Rattle.rules.specs.Reading.{View, view_of}
use Rattle.rules.specs.Meaning.{no_view, views_of, view_at}
use Rattle.rules.specs.Stores.{Store, Plan, apply}
use Rattle.rules.proofs.Terms.{IsBlock, IsSector, IsImage, IsInside, IsProper, IsAtomic}
use Rattle.rules.proofs.Basics.Parts.{each_at, each_take, each_append, each_set, each_weaken}
use Rattle.rules.proofs.Blocks.Counting.{Counted, counted}
use Rattle.rules.proofs.Blocks.Proper.{proper-entries}

-- A whole image stays whole.
pub sector-at : {B S s : ℕ} {im : Image} → IsImage B S im → s < S → IsSector B (get_or im s [])
sector-at {s = s} is inside = each_at is.sectors s [] (omega (arith, is.sized))

pub store-sector : {B : ℕ} {sector : Sector} {block : Block} (b : ℕ) → IsSector B sector → IsBlock block → IsSector B (set sector b block)
store-sector {sector = sector} {block = block} b is whole =
    record { sized = length-set sector b block ∙ is.sized; blocks = each_set b is.blocks whole }

pub apply-image : {B S : ℕ} {stores : List Store} {im : Image} → Each (IsInside B S) stores → IsImage B S im → IsImage B S (apply stores im)
unfolding apply store
apply-image empty is = is
apply-image {im = im} (each {x = st} h hs) is =
    apply-image hs
    (record { sized = length-set im st.sector _ ∙ is.sized; sectors = each_set st.sector is.sectors (store-sector st.block (sector-at is h.sector) h.bytes) })

pub cut-image : {B S : ℕ} {stores : List Store} {im : Image} (k : ℕ) → Each (IsInside B S) stores → IsImage B S im → IsImage B S (apply (take k stores) im)
cut-image k inside is = apply-image (each_take k inside) is

-- A store leaves every other sector.
pub store_other : (im : Image) (s b : ℕ) (block : Block) (t : ℕ) → (t ≡ s → ⊥) → get_or (store im s b block) t [] ≡ get_or im t []
unfolding store
store_other im s b block t other = get_or-set_other im s t (set (get_or im s []) b block) [] other

-- The recursion wants the sector first.
elsewhere : (t : ℕ) {stores : List Store} (im : Image) → Each (λ (st : Store). t ≡ st.sector → ⊥) stores → get_or (apply stores im) t [] ≡ get_or im t []
unfolding apply
elsewhere t im empty = refl
elsewhere t im (each {x = st} other others) =
    elsewhere t (store im st.sector st.block st.bytes) others ∙ store_other im st.sector st.block st.bytes t other

pub apply-other : {stores : List Store} (im : Image) (t : ℕ) → Each (λ (st : Store). t ≡ st.sector → ⊥) stores → get_or (apply stores im) t [] ≡ get_or im t []
apply-other im t others = elsewhere t im others

-- What the sectors show, one by one.
pub views-length : (B : ℕ) (im : Image) → length (views_of B im) ≡ length im
unfolding views_of
views-length B im = length-map im (view_of B)

pub view-at : (B : ℕ) (im : Image) (s : ℕ) → s < length im → view_at (views_of B im) s ≡ view_of B (get_or im s [])
unfolding view_at views_of
view-at B [] s h = absurd (not-suc-le-zero h)
view-at B (sector ∷ im) zero h = refl
view-at B (sector ∷ im) (suc s) h = view-at B im s (le_of_suc-le-suc h)

pub views-set : (B : ℕ) (im : Image) (s : ℕ) (sector : Sector) → views_of B (set im s sector) ≡ set (views_of B im) s (view_of B sector)
unfolding views_of
views-set B [] s sector = refl
views-set B (x ∷ im) zero sector = refl
views-set B (x ∷ im) (suc s) sector = ap (λ (vs : List View). view_of B x ∷ vs) (views-set B im s sector)

-- so what holds of the entries of every whole sector holds of the entries of a view
module _ {B S s : ℕ} {im : Image} (enough : 8 ≤ B) (is : IsImage B S im) (inside : s < S) where
  seen : view_at (views_of B im) s ≡ view_of B (get_or im s [])
  seen = view-at B im s (omega (arith, is.sized))

  pub proper-view : Each IsProper (view_at (views_of B im) s).entries
  unfolding view_of
  proper-view = subst (λ (v : View). Each IsProper v.entries) (sym seen) (proper-entries B _ (get_or im s []) enough (sector-at is inside))

  pub counted-view : Counted B (view_at (views_of B im) s).entries
  unfolding view_of
  counted-view = subst (λ (v : View). Counted B v.entries) (sym seen) (counted B _ (get_or im s []) enough)

-- stores on the blocks of one sector
unfoldable pub puts : List Store → Sector → Sector
puts [] sector = sector
puts (st ∷ sts) sector = puts sts (set sector st.block st.bytes)

-- a store within this sector
pub record IsIn (B s : ℕ) (st : Store) : Type 0 where
  pub sector : st.sector ≡ s
  pub block : st.block < B
  pub bytes : IsBlock st.bytes

pub puts-append : (sts more : List Store) (sector : Sector) → puts (sts ++ more) sector ≡ puts more (puts sts sector)
unfolding puts
puts-append [] more sector = refl
puts-append (st ∷ sts) more sector = puts-append sts more (set sector st.block st.bytes)

-- what each store keeps, all of them keep
pub puts-keep : {R : Sector → Type 0} {sts : List Store} → Each (λ (st : Store). (x : Sector) → R x → R (set x st.block st.bytes)) sts
    → (sector : Sector) → R sector → R (puts sts sector)
unfolding puts
puts-keep empty sector r = r
puts-keep (each {x = st} h hs) sector r = puts-keep hs (set sector st.block st.bytes) (h sector r)

-- Stores in sector s are made on its blocks.
pub apply-puts : {B s : ℕ} {sts : List Store} (im : Image) → Each (IsIn B s) sts → s < length im → apply sts im ≡ set im s (puts sts (get_or im s []))
unfolding apply store puts
apply-puts {s = s} im empty inside = sym (set-get_or im s [])
apply-puts {s = s} im (each {x = st} {xs = sts} h hs) inside =
    let sector : Sector = set (get_or im s []) st.block st.bytes in
    let first : Image = set im s sector in
    let here : get_or first s [] ≡ sector = get_or-set_same im s sector [] inside in
    ap (λ (t : ℕ). apply sts (set im t (set (get_or im t []) st.block st.bytes))) h.sector
    ∙ apply-puts first hs (omega (arith, length-set im s sector))
    ∙ ap (λ (x : Sector). set first s (puts sts x)) here
    ∙ set-set im s sector (puts sts sector)

pub views-apply : {B s : ℕ} {sts : List Store} (im : Image) → Each (IsIn B s) sts → s < length im
    → views_of B (apply sts im) ≡ set (views_of B im) s (view_of B (puts sts (get_or im s [])))
views-apply {B} {s} {sts} im inside here = ap (views_of B) (apply-puts im inside here) ∙ views-set B im s (puts sts (get_or im s []))

-- Stores in one sector of which only the last shows make an atomic step.
module _ {B S s : ℕ} {im : Image} (is : IsImage B S im) (inside : s < S) where
  pub atomic-in : {plan : Plan} {before : List Store} {last : Store} {after : View}
      → plan im ≡ before ++ (last ∷ []) → Each (IsIn B s) before → IsIn B s last
      → ((k : ℕ) → view_of B (puts (take k before) (get_or im s [])) ≡ view_of B (get_or im s []))
      → view_of B (set (puts before (get_or im s [])) last.block last.bytes) ≡ after
      → IsAtomic B S plan im (set (views_of B im) s after)
  unfolding puts view_at
  atomic-in {plan} {before} {last} {after} stores each_in last-in quiet shows =
      let here : s < length im = omega (arith, is.sized) in
      let all_in : Each (IsIn B s) (plan im) = subst (λ (sts : List Store). Each (IsIn B s) sts) (sym stores) (each_append each_in (each last-in empty)) in
      let count : length (plan im) ≡ length before + 1 = ap length stores ∙ length-append before (last ∷ []) in
      record {
        some = omega arith;
        inside = each_weaken (λ st h. record { sector = subst (λ (t : ℕ). t < S) (sym h.sector) inside; block = h.block; bytes = h.bytes }) all_in;
        cut = λ k few.
            let same : take k (plan im) ≡ take k before = ap (take k) stores ∙ take-append-le k before (last ∷ []) (omega arith) in
            ap (λ (sts : List Store). views_of B (apply sts im)) same
            ∙ views-apply im (each_take k each_in) here
            ∙ ap (set (views_of B im) s) (quiet k ∙ sym (view-at B im s here))
            ∙ set-get_or (views_of B im) s no_view;
        whole =
            views-apply im all_in here
            ∙ ap (λ (sts : List Store). set (views_of B im) s (view_of B (puts sts (get_or im s [])))) stores
            ∙ ap (λ (x : Sector). set (views_of B im) s (view_of B x)) (puts-append before (last ∷ []) (get_or im s []))
            ∙ ap (set (views_of B im) s) shows;
      }
