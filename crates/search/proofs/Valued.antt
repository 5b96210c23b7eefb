-- The value that an entry tells, where it lies: by the fields of the entry's block, and what a caller learns of it.
-- Assumes nothing.
use mathlib.Core.Path.{◌≡◌, refl, sym, ap, subst, ◌∙◌}
use mathlib.Core.Bool.{true, false}
use mathlib.Core.List.{List}
use mathlib.Core.Option as rule
use Rattle.std.specs.Prelude.{Option, Some, None}
use Rattle.std.proofs.lemmas.Option.{same_Some, none-some}
use Prim.Native.Nat.{ℕ, ◌+◌, ◌*◌, ◌-◌, ◌<◌, ◌≤◌}
use native.Mathlib.Omega.{arith}
use lib.Dec.{ltb}
use lib.ListN.{length, get_or, take, drop}
use lib.Seq.{drop-drop}
use borrow.Author.Tests.{lt-ltb, le-ltb, ltb-false}
use Rattle.rules.specs.Notation.{when}
use Rattle.rules.specs.Ground.{Block, Image, block_size, image_of, block_at, place_of}
use Rattle.rules.specs.Entry.{length_of, offset_of, crc32_of}
use Rattle.rules.specs.Look.{Head, done, deletion, value}
use Rattle.rules.specs.Reading.{Entry, is_long}
use Rattle.rules.specs.Meaning.{view_at, next, at_rest, history, lookup, is_value, length_in, value_of, is_sound}
use Rattle.rules.proofs.Basics.Notation.{refuted, by-test, when_true, when_false, took-then, took-else}
use Rattle.rules.proofs.Basics.Lists.{part-of-take}
use Rattle.rules.proofs.Format.Ground.{place-in-sector, length-sector-bytes, sector-fits}
use Rattle.rules.proofs.Blocks.Lying.{LiesAt}
use Rattle.layout.specs.declared.Geometry.{Geometry}
use Rattle.layout.specs.Geometry.{blocks_of, sectors_of, Backs}
use Rattle.layout.specs.Numbers.{place_no, place_at}
use Rattle.search.specs.declared.Found.{Found}
use Rattle.image.specs.Answer.{views_in}
use Rattle.search.specs.Search.{seek, told_at}
use Rattle.search.specs.Value.{entry_in, value_place, check_as, passes, found_at, found_in, found_as}
use Rattle.image.proofs.Sectors.{views-count}
use Rattle.image.proofs.EntryBlocks.{entry-lies}
use Rattle.search.proofs.SearchLaws.{sought-stands, sought-tells}

-- ---- the kind by the length

long-by : (h : Head) → is_long h ≡ ltb 8 (length_in h)
unfolding is_long length_in
long-by done = refl
long-by (deletion id) = refl
long-by (value id len) = refl

value-by : (h : Head) → (length_in h ≡ 0 → ⊥) → is_value h ≡ true
unfolding is_value length_in
value-by done n = absurd (n refl)
value-by (deletion id) n = absurd (n refl)
value-by (value id len) n = refl

-- What is told of an ID is a value: its bytes lie at a place, and the check is its own.
pub record Holds (bytes : List ℕ) (present : rule.Option Entry) (place len : ℕ) (check : Option ℕ) : Type 0 where
  pub entry : Entry
  pub told : present ≡ rule.some entry
  pub length : length_in entry.head ≡ len
  pub lies : value_of entry ≡ take len (drop place bytes)
  pub inside : place + len ≤ lib.ListN.length bytes
  pub checked : is_sound entry ≡ passes check (value_of entry)

module _ (g : Geometry) (bytes : List ℕ) (k : Backs g bytes) (s n : ℕ) (inside : s < sectors_of g) (here : n < length (view_at (views_in g bytes) s).entries) where
  abbrev B : ℕ
  B = blocks_of g

  abbrev im : Image
  im = image_of (blocks_of g) (sectors_of g) bytes

  abbrev sector : List ℕ
  sector = take (B * block_size) (drop (s * (B * block_size)) bytes)

  abbrev block : Block
  block = block_at im s (B - 3 - n)

  abbrev e : Entry
  e = entry_in B im s n

  lies : LiesAt sector (B - 3 - n) block e
  unfolding entry_in
  lies = entry-lies g bytes k s n inside here

  sector-sized : length sector ≡ B * block_size
  sector-sized = length-sector-bytes B (sectors_of g) bytes s inside k.sized

  -- ---- the answer by the fields

  pub found_none : length_of block ≡ 0 → found_in B im s n ≡ None
  unfolding found_in
  found_none zeroes = rw (refuted (is_value e.head) (λ v. (lies.valued.0 v).1 zeroes))

  pub found-small : 0 < length_of block → length_of block ≤ 8
      → found_in B im s n ≡ Some (record { place = place_at (place_of B s (B - 3 - n) + 8); length = length_of block; check = None })
  unfolding found_in found_at value_place check_as
  found-small one few =
      let short : is_long e.head ≡ false = long-by e.head ∙ le-ltb 8 (length_in e.head) (omega (arith, lies.length)) in
      simp (value-by e.head (λ z. omega (arith, lies.length)), short, lies.length)

  pub found-long : 8 < length_of block
      → found_in B im s n ≡ Some (record { place = place_at (place_of B s 0 + offset_of block); length = length_of block; check = Some (crc32_of block) })
  unfolding found_in found_at value_place check_as
  found-long many =
      let long : is_long e.head ≡ true = long-by e.head ∙ lt-ltb 8 (length_in e.head) (omega (arith, lies.length)) in
      simp (value-by e.head (λ z. omega (arith, lies.length)), long, lies.length, (lies.long long).check)

  -- the bytes end within the sector, so its place is within the image
  pub offset-small : 8 < length_of block → offset_of block + length_of block ≤ B * block_size
  offset-small many =
      let long : is_long e.head ≡ true = long-by e.head ∙ lt-ltb 8 (length_in e.head) (omega (arith, lies.length)) in
      omega (arith, lies.length, (lies.long long).inside, length-sector-bytes B (sectors_of g) bytes s inside k.sized)

  -- ---- what a caller learns

  -- the value's bytes lie in the sector
  record Within : Type 0 where
    from : ℕ
    place : value_place B im s n e.head ≡ s * (B * block_size) + from
    lies-from : value_of e ≡ take (length_in e.head) (drop from sector)
    fits : from + length_in e.head ≤ B * block_size

  within : Within
  unfolding value_place
  within =
      let base : ℕ = s * (B * block_size) in
      let first : place_of B s 0 ≡ base = place-in-sector B s 0 ∙ omega arith in
      let own : place_of B s (B - 3 - n) ≡ base + (B - 3 - n) * block_size = place-in-sector B s (B - 3 - n) in
      by-test (is_long e.head)
      (λ long.
      record {
        from = offset_of block;
        place = rw (long, first);
        lies-from = (lies.long long).lies;
        fits = omega (arith, (lies.long long).inside, sector-sized);
      })
      (λ short.
      let few : length_in e.head ≤ 8 = ltb-false 8 (length_in e.head) (sym (long-by e.head) ∙ short) in
      record {
        from = (B - 3 - n) * block_size + 8;
        place = rw (short, own) (omega arith);
        lies-from = lies.short short;
        fits = omega (arith, few, g.sound.blocks_from);
      })

  -- and so in the image
  value-lies : value_of e ≡ take (length_in e.head) (drop (value_place B im s n e.head) bytes)
  value-lies =
      let len : ℕ = length_in e.head in
      let base : ℕ = s * (B * block_size) in
      within.lies-from
      ∙ part-of-take len within.from (B * block_size) (drop base bytes) within.fits
      ∙ ap (take len) (drop-drop within.from base bytes ∙ ap (λ (p : ℕ). drop p bytes) (sym within.place))

  value-inside : value_place B im s n e.head + length_in e.head ≤ length bytes
  value-inside = omega (arith, within.place, within.fits, sector-fits B (sectors_of g) s inside, k.sized)

  -- the check is that of the rules
  value-checked : is_sound e ≡ passes (check_as e) (value_of e)
  unfolding is_sound passes check_as
  value-checked =
      by-test (is_long e.head)
      (λ long. simp long)
      (λ short. simp short)

  -- so it is with what is answered for the entry
  held : {found : Found} → found_in B im s n ≡ Some found
      → Holds bytes (when (is_value e.head) e) (place_no found.place) found.length found.check
  unfolding found_in found_at
  held {found} same =
      let t = took-then (is_value e.head) (Some (found_at B im s n e)) None (none-some found) same in
      let answer : found_at B im s n e ≡ found = same_Some _ found t.1 in
      subst (λ (f : Found). Holds bytes (when (is_value e.head) e) (place_no f.place) f.length f.check) answer
      (record {
        entry = e;
        told = rw t.0 (when_true e);
        length = refl;
        lies = value-lies;
        inside = value-inside;
        checked = value-checked;
      })

  not-held : found_in B im s n ≡ None → when (is_value e.head) e ≡ rule.none
  unfolding found_in
  not-held same =
      let t = took-else (is_value e.head) (Some (found_at B im s n e)) None (λ x. none-some _ (sym x)) same in
      rw t.0 (when_false e)

module _ (g : Geometry) (bytes : List ℕ) (k : Backs g bytes) (id w : ℕ) (here : w < sectors_of g) where
  abbrev answered : Option (ℕ × ℕ) → Option Found
  answered o = found_as (blocks_of g) (image_of (blocks_of g) (sectors_of g) bytes) o

  abbrev sought : Option (ℕ × ℕ)
  sought = seek id (sectors_of g) (next (sectors_of g) w) (sectors_of g - 1) (views_in g bytes)

  told-value : {found : Found} (o : Option (ℕ × ℕ)) → sought ≡ o → answered o ≡ Some found
      → Holds bytes (told_at (views_in g bytes) o) (place_no found.place) found.length found.check
  unfolding found_as told_at entry_in
  told-value None same e = absurd (none-some _ e)
  told-value (Some at) same e =
      let stands = sought-stands g bytes id w here at same in
      held g bytes k at.0 at.1 (omega (arith, stands.sector, views-count g bytes)) stands.entry e

  told-none : (o : Option (ℕ × ℕ)) → sought ≡ o → answered o ≡ None → told_at (views_in g bytes) o ≡ rule.none
  unfolding found_as told_at entry_in
  told-none None same e = refl
  told-none (Some at) same e =
      let stands = sought-stands g bytes id w here at same in
      not-held g bytes k at.0 at.1 (omega (arith, stands.sector, views-count g bytes)) stands.entry e

  -- A value that is found is the one that the image tells of the ID; and where none is found, none is told.
  pub found-value : {found : Found} → answered sought ≡ Some found
      → Holds bytes (lookup id (history (at_rest w) (views_in g bytes))) (place_no found.place) found.length found.check
  found-value e = rw (sought-tells g bytes id w here) (told-value sought refl e)

  pub found_nothing : answered sought ≡ None → lookup id (history (at_rest w) (views_in g bytes)) ≡ rule.none
  found_nothing e = sought-tells g bytes id w here ∙ told-none sought refl e
